-- Bytes one after another, with any step.
use Rattle.std.proofs.Common.{◌≡◌, ◌+◌, ℕ, List, [], ◌∷◌, ◌++◌, take, drop, refl, sym, ap, subst, ◌∙◌, append_assoc, append-nil}
use Rattle.std.proofs.Math.Seq.{take-add}
use Rattle.sk_resp.specs.Spelling.{Bytes, joined}
use Rattle.sk_resp.specs.ReplyStream.{IsNested}
use Rattle.sk_resp.specs.ReplyMachine.{Machine, Out, gives, fails, go, run, runs, onward, after, seen, IsOpen}
use Rattle.sk_resp.proofs.ReplyOpens.{Good, WentTo, Went, went, joined-append, all-append}

pub after-nil : (o : Out) → after [] o ≡ o
after-nil (gives texts m) = refl
after-nil fails = refl

after-after : (xs ys : List Bytes) (o : Out) → after xs (after ys o) ≡ after (xs ++ ys) o
after-after xs ys (gives texts m) = ap (λ z. gives z m) (sym (append_assoc xs ys texts))
after-after xs ys fails = refl

after-onward : (xs : List Bytes) (o : Out) (f : Machine → Out) → after xs (onward o f) ≡ onward (after xs o) f
after-onward xs (gives texts m) f = after-after xs texts (f m)
after-onward xs fails f = refl

onward-runs : (step : Machine → ℕ → Out) (o : Out) (xs ys : Bytes) → ((m : Machine) → runs step m (xs ++ ys) ≡ onward (runs step m xs) (λ n. runs step n ys)) → onward o (λ n. runs step n (xs ++ ys)) ≡ onward (onward o (λ n. runs step n xs)) (λ n. runs step n ys)
onward-runs step (gives texts m) xs ys h = ap (after texts) (h m) ∙ after-onward texts (runs step m xs) (λ n. runs step n ys)
onward-runs step fails xs ys h = refl

pub runs-append : (step : Machine → ℕ → Out) (m : Machine) (xs ys : Bytes) → runs step m (xs ++ ys) ≡ onward (runs step m xs) (λ n. runs step n ys)
runs-append step m [] ys = sym (after-nil (runs step m ys))
runs-append step m (x ∷ xs) ys = onward-runs step (step m x) xs ys (λ n. runs-append step n xs ys)

pub onward-nil : (step : Machine → ℕ → Out) (o : Out) → onward o (λ n. runs step n []) ≡ o
onward-nil step (gives texts m) = ap (λ z. gives z m) (append-nil texts)
onward-nil step fails = refl

pub runs-on : (step : Machine → ℕ → Out) (m next : Machine) (xs ys : Bytes) (texts : List Bytes) → runs step m xs ≡ gives texts next → runs step m (xs ++ ys) ≡ after texts (runs step next ys)
runs-on step m next xs ys texts e = runs-append step m xs ys ∙ ap (λ o. onward o (λ n. runs step n ys)) e

pub run-on : (m next : Machine) (xs ys : Bytes) (texts : List Bytes) → run m xs ≡ gives texts next → run m (xs ++ ys) ≡ after texts (run next ys)
run-on = runs-on go

pub runs-one : (step : Machine → ℕ → Out) (m : Machine) (b : ℕ) → runs step m (b ∷ []) ≡ step m b
runs-one step m b = onward-nil step (step m b)

-- the next bytes of an input
pub runs-more : (step : Machine → ℕ → Out) (m next last : Machine) (bytes : Bytes) (i n : ℕ) (added texts : List Bytes) → runs step m (take i bytes) ≡ gives added next → runs step next (take n (drop i bytes)) ≡ gives texts last → runs step m (take (i + n) bytes) ≡ gives (added ++ texts) last
runs-more step m next last bytes i n added texts e f =
    ap (runs step m) (take-add i n bytes) ∙ runs-on step m next (take i bytes) (take n (drop i bytes)) added e ∙ ap (after added) f

pub went_to : (m next : Machine) (b : ℕ) (texts : List Bytes) → IsOpen m → go m b ≡ gives texts next → Good (IsNested 8) IsOpen (seen m ++ b ∷ []) texts next
went_to m next b texts is_open e = subst (Went (seen m ++ b ∷ [])) e (went m b is_open)

good_after : (P : Bytes → Type 0) (Q : Machine → Type 0) (old bytes : Bytes) (texts : List Bytes) (m : Machine) (o : Out) → Good P Q old texts m → WentTo P Q (seen m ++ bytes) o → WentTo P Q (old ++ bytes) (after texts o)
good_after P Q old bytes texts m fails g w = tt
good_after P Q old bytes texts m (gives more next) g w = record {
  is = ap (λ z. z ++ bytes) g.is ∙ append_assoc (joined texts) (seen m) bytes ∙ ap (λ z. joined texts ++ z) w.is ∙ sym (append_assoc (joined texts) (joined more) (seen next)) ∙ ap (λ z. z ++ seen next) (sym (joined-append texts more));
  each = all-append P texts more g.each w.each;
  is_open = w.is_open;
}

good_on : (P : Bytes → Type 0) (Q : Machine → Type 0) (step : Machine → ℕ → Out) (old bytes : Bytes) (o : Out) → WentTo P Q old o → ((m : Machine) → Q m → WentTo P Q (seen m ++ bytes) (runs step m bytes)) → WentTo P Q (old ++ bytes) (onward o (λ n. runs step n bytes))
good_on P Q step old bytes fails w h = tt
good_on P Q step old bytes (gives texts m) w h = good_after P Q old bytes texts m (runs step m bytes) w (h m w.is_open)

-- what holds of each step holds of all of them
pub went-runs : (P : Bytes → Type 0) (Q : Machine → Type 0) (step : Machine → ℕ → Out) → ((m : Machine) (b : ℕ) → Q m → WentTo P Q (seen m ++ b ∷ []) (step m b)) → (m : Machine) (bytes : Bytes) → Q m → WentTo P Q (seen m ++ bytes) (runs step m bytes)
went-runs P Q step h m [] is_open = record { is = append-nil (seen m); each = tt; is_open = is_open }
went-runs P Q step h m (b ∷ bytes) is_open = subst (λ z. WentTo P Q z (runs step m (b ∷ bytes))) (append_assoc (seen m) (b ∷ []) bytes) (good_on P Q step (seen m ++ b ∷ []) bytes (step m b) (h m b is_open) (λ n is. went-runs P Q step h n bytes is))

pub ran_to : (m next : Machine) (bytes : Bytes) (texts : List Bytes) → IsOpen m → run m bytes ≡ gives texts next → Good (IsNested 8) IsOpen (seen m ++ bytes) texts next
ran_to m next bytes texts is_open e = subst (Went (seen m ++ bytes)) e (went-runs (IsNested 8) IsOpen go went m bytes is_open)
