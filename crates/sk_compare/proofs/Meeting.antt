-- Asks that are met, one after another.
use Rattle.std.proofs.Common.{◌≡◌, ◌≢◌, ◌==◌, ◌<◌, ◌≤◌, ◌+◌, ◌++◌, ◌∷◌, ◌∙◌, ℕ, Bool, true, false, List, [], Option, Some, None, zero, suc, ap, append_assoc, arith, get_or, length, refl, replicate, subst, sym, take, if◌then◌else◌}
use Rattle.std.specs.List.{slice_get}
use Rattle.std.proofs.lemmas.List.{append-nil, length-take-le, take_all, take_at, take_more}
use Rattle.std.proofs.lemmas.Option.{get_or_from_slice_get, slice_get_within}
use Rattle.sk_compare.specs.Exchange.{Exchange, FitsMemory, WasAnswered, exchange_of, text_in}
use Rattle.sk_compare.specs.Alike.{Alike, DiffersAt, HasMet, IsDifference, Meets, Passes, Strays, noted, with_deed}
use Rattle.sk_compare.specs.declared.difference.Difference.{Difference}
use Rattle.sk_compare.proofs.Texts.{texts_differ}
use Rattle.sk_desk.specs.declared.entry.Ask.{Ask}
use Rattle.sk_desk.specs.declared.entry.Deed.{Deed}
use Rattle.sk_desk.specs.declared.entry.Deed.TheVariants as deed
use Rattle.sk_desk.specs.declared.entry.Entry.{Entry}

-- ## Seats

same_seat : (k s : ℕ) → (k == s) ≡ true → k ≡ s
same_seat k s e = grind (arith, e)

other_seat : (k s : ℕ) → (k == s) ≡ false → s ≢ k
other_seat k s e = grind (arith, e)

own_seat : (k : ℕ) → (k == k) ≡ true
own_seat k = grind arith

by_seat : (e : Entry) (entries : List Entry) (s : ℕ) (b : Bool) → (e.seat == s) ≡ b →
    noted (e ∷ entries) s ≡ (if b then with_deed e.deed (noted entries s) else noted entries s)
by_seat e entries s b is = ap (λ t. if t then with_deed e.deed (noted entries s) else noted entries s) is

-- ## One entry

take_next : (xs : List Exchange) (n m : ℕ) (x : Exchange) → slice_get xs n ≡ Some x → m ≡ n + 1 → take m xs ≡ take n xs ++ x ∷ []
take_next xs n m x there is =
    ap (λ k. take k xs) is ∙ take_more xs n x (slice_get_within xs n x there) ∙ ap (λ y. take n xs ++ y ∷ []) (get_or_from_slice_get xs n x x there)

asked : (told : ℕ → List Exchange) (met met2 : ℕ → ℕ) (all rest : List Entry) (e : Entry) (ask : Ask) → e.deed ≡ deed.Ask ask →
    HasMet told met all (e ∷ rest) → Meets told met e.seat (exchange_of ask) met2 →
    noted all e.seat ≡ take (met2 e.seat) (told e.seat) ++ noted rest e.seat
asked told met met2 all rest e ask is h m =
    let s = e.seat in
    let x = exchange_of ask in
    let front = take (met s) (told s) in
    let here : noted (e ∷ rest) s ≡ x ∷ noted rest s = by_seat e rest s true (own_seat s) ∙ ap (λ d. with_deed d (noted rest s)) is in
    let grown : take (met2 s) (told s) ≡ front ++ x ∷ [] = take_next (told s) (met s) (met2 s) x m.next m.counted in
    h.each s ∙ ap (λ l. front ++ l) here ∙ sym (append_assoc front (x ∷ []) (noted rest s)) ∙ ap (λ l. l ++ noted rest s) (sym grown)

each_asked : (told : ℕ → List Exchange) (met met2 : ℕ → ℕ) (all rest : List Entry) (e : Entry) (ask : Ask) → e.deed ≡ deed.Ask ask →
    HasMet told met all (e ∷ rest) → Meets told met e.seat (exchange_of ask) met2 →
    (s : ℕ) (b : Bool) → (e.seat == s) ≡ b → noted all s ≡ take (met2 s) (told s) ++ noted rest s
each_asked told met met2 all rest e ask is h m s true at =
    subst (λ k. noted all k ≡ take (met2 k) (told k) ++ noted rest k) (same_seat e.seat s at) (asked told met met2 all rest e ask is h m)
each_asked told met met2 all rest e ask is h m s false at =
    h.each s ∙ ap (λ l. take (met s) (told s) ++ l) (by_seat e rest s false at)
    ∙ ap (λ n. take n (told s) ++ noted rest s) (sym (m.others s (other_seat e.seat s at)))

within_asked : (told : ℕ → List Exchange) (met met2 : ℕ → ℕ) (seat : ℕ) (x : Exchange) → ((s : ℕ) → met s ≤ length (told s)) →
    Meets told met seat x met2 → (s : ℕ) (b : Bool) → (seat == s) ≡ b → met2 s ≤ length (told s)
within_asked told met met2 seat x h m s true at =
    subst (λ k. met2 k ≤ length (told k)) (same_seat seat s at) (omega (arith, m.counted, slice_get_within (told seat) (met seat) x m.next))
within_asked told met met2 seat x h m s false at = omega (arith, m.others s (other_seat seat s at), h s)

each_cut : (told : ℕ → List Exchange) (met met2 : ℕ → ℕ) (all rest : List Entry) (e : Entry) → e.deed ≡ deed.Cut →
    HasMet told met all (e ∷ rest) → (s : ℕ) → met2 s ≡ met s → (b : Bool) → (e.seat == s) ≡ b → noted all s ≡ take (met2 s) (told s) ++ noted rest s
each_cut told met met2 all rest e is h s same true at =
    h.each s ∙ ap (λ l. take (met s) (told s) ++ l) (by_seat e rest s true at ∙ ap (λ d. with_deed d (noted rest s)) is)
    ∙ ap (λ n. take n (told s) ++ noted rest s) (sym same)
each_cut told met met2 all rest e is h s same false at =
    h.each s ∙ ap (λ l. take (met s) (told s) ++ l) (by_seat e rest s false at) ∙ ap (λ n. take n (told s) ++ noted rest s) (sym same)

passed : (told : ℕ → List Exchange) (met met2 : ℕ → ℕ) (all rest : List Entry) (e : Entry) (d : Deed) → e.deed ≡ d →
    HasMet told met all (e ∷ rest) → Passes told met e.seat d met2 → HasMet told met2 all rest
passed told met met2 all rest e (deed.Ask ask) is h m = record {
  each = λ s. each_asked told met met2 all rest e ask is h m s (e.seat == s) refl;
  within = λ s. within_asked told met met2 e.seat (exchange_of ask) h.within m s (e.seat == s) refl;
}
passed told met met2 all rest e deed.Cut is h m = record {
  each = λ s. each_cut told met met2 all rest e is h s (m s) (e.seat == s) refl;
  within = λ s. omega (arith, m s, h.within s);
}

-- The entry was passed.
pub pass_on : (told : ℕ → List Exchange) (met met2 : ℕ → ℕ) (all rest before : List Entry) (e : Entry) → before ≡ e ∷ rest →
    HasMet told met all before → Passes told met e.seat e.deed met2 → HasMet told met2 all rest
pass_on told met met2 all rest before e is h m = passed told met met2 all rest e e.deed refl (subst (λ l. HasMet told met all l) is h) m

-- ## Differences

get_past : (p q : List Exchange) → slice_get (p ++ q) (length p) ≡ slice_get q 0
get_past [] q = refl
get_past (y ∷ p) q = get_past p q

there_within : (xs : List Exchange) (n : ℕ) → n < length xs → slice_get xs n ≡ None → ⊥
there_within [] n l e = absurd (omega (arith, l))
there_within (x ∷ xs) zero l e = cc
there_within (x ∷ xs) (suc n) l e = there_within xs n (omega (arith, l)) e

at_place : (told noted_ : ℕ → List Exchange) (seat n : ℕ) (d : Difference) → d.seat ≡ seat → d.place ≡ n →
    take n (told seat) ≡ take n (noted_ seat) → (slice_get (told seat) n ≡ slice_get (noted_ seat) n → ⊥) →
    d.told ≡ text_in (slice_get (told seat) n) → d.noted ≡ text_in (slice_get (noted_ seat) n) → FitsMemory d.told → FitsMemory d.noted → DiffersAt told noted_ d
at_place told noted_ seat n d seat_is place_is before other told_is noted_is told_fits noted_fits =
    let x = slice_get (told seat) n in
    let y = slice_get (noted_ seat) n in
    let texts : WasAnswered x → WasAnswered y → d.told ≢ d.noted =
    λ i j same. texts_differ x y other (subst FitsMemory told_is told_fits) (subst FitsMemory noted_is noted_fits) i j (sym told_is ∙ same ∙ noted_is) in
    record {
      before = rw (seat_is, place_is) before;
      other = rw (seat_is, place_is) other;
      told_is = rw (seat_is, place_is) told_is;
      noted_is = rw (seat_is, place_is) noted_is;
      texts = rw (seat_is, place_is) texts;
    }

-- Behind the asks that were met the two go on in other ways.
differs_behind : (told noted_ : ℕ → List Exchange) (met : ℕ → ℕ) (seat : ℕ) (rest : List Exchange) (x : Option Exchange) (d : Difference) →
    met seat ≤ length (told seat) → noted_ seat ≡ take (met seat) (told seat) ++ rest → slice_get rest 0 ≡ x →
    (slice_get (told seat) (met seat) ≡ x → ⊥) → IsDifference told met seat x d → DiffersAt told noted_ d
differs_behind told noted_ met seat rest x d within is first other h =
    let n = met seat in
    let front = take n (told seat) in
    let len : length front ≡ n = length-take-le n (told seat) within in
    let there : slice_get (noted_ seat) n ≡ x = ap (λ l. slice_get l n) is ∙ ap (λ k. slice_get (front ++ rest) k) (sym len) ∙ get_past front rest ∙ first in
    at_place told noted_ seat n d h.seat_is h.place_is (sym (ap (λ l. take n l) is ∙ take_at front rest n len)) (λ same. other (same ∙ there))
    h.told_is (h.noted_is ∙ ap (λ y. text_in y) (sym there)) h.told_fits h.noted_fits

pub strayed : (told : ℕ → List Exchange) (met : ℕ → ℕ) (all rest before : List Entry) (e : Entry) (ask : Ask) (d : Difference) → before ≡ e ∷ rest →
    HasMet told met all before → Strays told met e.seat e.deed ask → IsDifference told met e.seat (Some (exchange_of ask)) d → DiffersAt told (noted all) d
strayed told met all rest before e ask d is h s diff =
    let here : noted (e ∷ rest) e.seat ≡ exchange_of ask ∷ noted rest e.seat =
    by_seat e rest e.seat true (own_seat e.seat) ∙ ap (λ t. with_deed t (noted rest e.seat)) s.asks in
    differs_behind told (noted all) met e.seat (noted before e.seat) (Some (exchange_of ask)) d (h.within e.seat) (h.each e.seat)
    (ap (λ l. slice_get l 0) (ap (λ l. noted l e.seat) is ∙ here)) s.other diff

pub ended : (told : ℕ → List Exchange) (met : ℕ → ℕ) (all rest : List Entry) (seat : ℕ) (d : Difference) → rest ≡ [] →
    HasMet told met all rest → met seat < length (told seat) → IsDifference told met seat None d → DiffersAt told (noted all) d
ended told met all rest seat d is h more diff =
    differs_behind told (noted all) met seat (noted rest seat) None d (h.within seat) (h.each seat) (ap (λ l. slice_get (noted l seat) 0) is)
    (there_within (told seat) (met seat) more) diff

-- All that is told was met.
pub all_met : (told : ℕ → List Exchange) (met : ℕ → ℕ) (all rest : List Entry) → rest ≡ [] → HasMet told met all rest →
    ((s : ℕ) → length (told s) ≤ met s) → Alike told (noted all)
all_met told met all rest is h over = record {
  each = λ s. sym (h.each s ∙ ap (λ l. take (met s) (told s) ++ noted l s) is ∙ append-nil (take (met s) (told s)) ∙ take_all (met s) (told s) (over s));
}

still : (n s z : ℕ) → get_or (replicate n z) s z ≡ z
still zero s z = refl
still (suc n) zero z = refl
still (suc n) (suc s) z = still n s z

pub nothing_met : (told : ℕ → List Exchange) (met : List ℕ) (n : ℕ) (all : List Entry) → met ≡ replicate n 0 → HasMet told (λ s. get_or met s 0) all all
nothing_met told met n all is = record {
  each = λ s. ap (λ k. take k (told s) ++ noted all s) (sym (ap (λ l. get_or l s 0) is ∙ still n s 0));
  within = λ s. omega (arith, ap (λ l. get_or l s 0) is ∙ still n s 0);
}
