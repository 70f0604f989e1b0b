-- What a rescue makes of one row, of the rows of a process, and of all that are left.
use Rattle.std.proofs.Common.{◌≡◌, ◌≤◌, ◌<◌, ◌+◌, ℕ, Bool, true, false, List, [], ◌∷◌, ◌++◌, refl, sym, ap, ap₂, subst, ◌∙◌, append_assoc, arith, filter, length, length-append, not}
use Rattle.std.specs.Prelude.{Option, Some, None, cond, nat_le, nat_lt}
use Rattle.std.specs.List.{list_all}
use Rattle.std.proofs.lemmas.List.Elements.{filter_agree}
use Rattle.std.proofs.lemmas.Bool.Decides.{nat_tests}
use Rattle.sk_resp.specs.Spelling.{Bytes}
use Rattle.sk_cmd.specs.declared.argument.Side.TheVariants.{Right}
use Rattle.sk_payload.specs.Head.{head}
use Rattle.sk_payload.specs.declared.head.Head.{Head}
use Rattle.sk_places.specs.declared.row.Place.{Place}
use Rattle.sk_places.specs.declared.row.Place.TheVariants.{Private, Queue, Set}
use Rattle.sk_places.specs.declared.row.Row.{Row}
use Rattle.sk_places.specs.Rows.{ident_at, is_at, is_past, rows_at}
use Rattle.sk_model.specs.World.{World}
use Rattle.sk_model.specs.Change.{Change, Forgets, Recovers, changed, perform}
use Rattle.sk_model.specs.Jobs.{Routed, and_then, bury, each, nothing, to_queue}
use Rattle.sk_model.specs.Rescue.{bury_poison, is_left, is_poison, left_rows, recover, rescue_row}
use Rattle.sk_model.specs.Notify.{fired_texts}
use Rattle.sk_model.proofs.Changes.Lawful.{perform-append}
use Rattle.sk_jobs.specs.declared.report.Report.{Report}
use Rattle.sk_jobs.specs.Rescuing.{IsFront, IsNext, IsPassed}
use Rattle.sk_batch.specs.declared.firing.Firing.{Firing}
use Rattle.sk_leases.specs.Lists.{count_standing}
use Rattle.sk_leases.specs.Leased.{Leased, recovered, standing}
use Rattle.sk_jobs.specs.Routing.{IsAside, IsRouted, rows_in}
use Rattle.sk_jobs.proofs.Routing.{IsLeft, fired_append}

-- ## One row

pub same_head : (a b : Head) (found : Option Head) → Some a ≡ found → found ≡ Some b → a ≡ b
same_head a b found e f = cc

-- The row was buried, and then its recoveries were forgotten.
pub poison_sent : (old mid new : World) (report : Report) (row : Row) (jid : Bytes) → IsRouted old mid report (bury old row) → new ≡ changed mid (Forgets jid) → IsRouted old new report (bury_poison old row jid)
poison_sent old mid new report row jid sent e = record {
  moved = sent.moved;
  buried = sent.buried;
  fired = sent.fired;
  trimmed = sent.trimmed;
  world = e ∙ ap (λ u. changed u (Forgets jid)) sent.world ∙ sym (perform-append old (bury old row).changes (Forgets jid ∷ []));
}

-- what becomes of the row, by whether so many recoveries stand
abbrev pub recover_by : Bool → World → Row → Head → Routed
recover_by poison w row h = cond poison (bury_poison w row h.jid) (to_queue Right row h)

-- The recovery was noted, and then the row was buried as one too many, or it went to its queue.
pub noted_sent : (old mid new : World) (report : Report) (row : Row) (h : Head) (found : Option Head) (poison : Bool) → found ≡ Some h → mid ≡ changed old (Recovers h.jid) → is_poison mid h.jid ≡ poison → IsRouted mid new report (recover_by poison mid row h)
    → IsRouted old new report (rescue_row old row found)
noted_sent old mid new report row h found poison is noted so sent =
    subst (λ o. IsRouted old new report (rescue_row old row o)) (sym is) (done (subst (λ u. is_poison u h.jid ≡ poison) noted so) (subst (λ u. IsRouted u new report (recover_by poison u row h)) noted sent)) where
      after : World
      after = changed old (Recovers h.jid)

      done : is_poison after h.jid ≡ poison → IsRouted after new report (recover_by poison after row h) → IsRouted old new report (rescue_row old row (Some h))
      done p s =
          let same : recover after row h ≡ recover_by poison after row h = ap (λ b. recover_by b after row h) p in
          let t : IsRouted after new report (recover after row h) = subst (λ (sent : Routed). IsRouted after new report sent) (sym same) s in
          record { moved = t.moved; buried = t.buried; fired = t.fired; trimmed = t.trimmed; world = t.world }

-- ## Of how many rows a report tells

one_way : (b : Bool) (one other : Routed) → one.moved + one.buried ≡ 1 → other.moved + other.buried ≡ 1 → (cond b one other).moved + (cond b one other).buried ≡ 1
one_way true one other e f = e
one_way false one other e f = f

one_row : (w : World) (row : Row) (found : Option Head) → (rescue_row w row found).moved + (rescue_row w row found).buried ≡ 1
one_row w row None = refl
one_row w row (Some h) = let noted : World = changed w (Recovers h.jid) in one_way (is_poison noted h.jid) (bury_poison noted row h.jid) (to_queue Right row h) refl refl

each_row : (w : World) (rows : List Row) → (each rescue_row w rows).moved + (each rescue_row w rows).buried ≡ length rows
each_row w [] = refl
each_row w (row ∷ rows) = omega (arith, one_row w row (head row.text), each_row (perform w (rescue_row w row (head row.text)).changes) rows)

-- ## Recoveries

at_least : (n m : ℕ) → n ≡ m → 3 ≤ n → nat_le 3 m ≡ true
at_least n m e h = grind (arith, nat_tests, e, h)

-- So many stand that the job is buried.
pub poisoned : (w : World) (jid : Bytes) (moment count : ℕ) (was : Leased) → w.moment ≡ moment → w.leases ≡ recovered jid moment was → count ≡ standing jid moment (recovered jid moment was) → 3 ≤ count → is_poison w jid ≡ true
poisoned w jid moment count was now noted is enough =
    at_least count (standing jid w.moment w.leases) (is ∙ ap₂ (λ m l. standing jid m l) (sym now) (sym noted)) enough

fewer : (n m : ℕ) → n ≡ m → n < 3 → nat_le 3 m ≡ false
fewer n m e h = grind (arith, nat_tests, e, h)

-- So few stand that it isn't.
pub spared : (w : World) (jid : Bytes) (moment count : ℕ) (was : Leased) → w.moment ≡ moment → w.leases ≡ recovered jid moment was → count ≡ standing jid moment (recovered jid moment was) → count < 3 → is_poison w jid ≡ false
spared w jid moment count was now noted is few =
    fewer count (standing jid w.moment w.leases) (is ∙ ap₂ (λ m l. standing jid m l) (sym now) (sym noted)) few

-- ## Rows of several processes

sent_of : ℕ → ℕ → List Firing → List Bytes → List Change → Routed
sent_of m b f t cs = record { moved = m; buried = b; firings = f; trimmed = t; changes = cs }

same_sent : (x y : Routed) → x.moved ≡ y.moved → x.buried ≡ y.buried → x.firings ≡ y.firings → x.trimmed ≡ y.trimmed → x.changes ≡ y.changes → x ≡ y
unfolding sent_of
same_sent x y m b f t cs =
    ap (λ n. sent_of n x.buried x.firings x.trimmed x.changes) m ∙ ap (λ n. sent_of y.moved n x.firings x.trimmed x.changes) b ∙ ap (λ l. sent_of y.moved y.buried l x.trimmed x.changes) f
    ∙ ap (λ l. sent_of y.moved y.buried y.firings l x.changes) t ∙ ap (λ l. sent_of y.moved y.buried y.firings y.trimmed l) cs

none_then : (a : Routed) → a ≡ and_then nothing a
none_then a = same_sent a (and_then nothing a) (omega arith) (omega arith) refl refl refl

and_then_assoc : (a b c : Routed) → and_then a (and_then b c) ≡ and_then (and_then a b) c
and_then_assoc a b c = same_sent (and_then a (and_then b c)) (and_then (and_then a b) c) (omega arith) (omega arith) (sym (append_assoc a.firings b.firings c.firings)) (sym (append_assoc a.trimmed b.trimmed c.trimmed)) (sym (append_assoc a.changes b.changes c.changes))

each_append : (w : World) (a b : List Row) → each rescue_row w (a ++ b) ≡ and_then (each rescue_row w a) (each rescue_row (perform w (each rescue_row w a).changes) b)
each_append w [] b = none_then (each rescue_row w b)
each_append w (row ∷ a) b =
    let one : Routed = rescue_row w row (head row.text) in
    let after : World = perform w one.changes in
    let some : Routed = each rescue_row after a in
    ap (and_then one) (each_append after a b ∙ ap (λ u. and_then some (each rescue_row u b)) (sym (perform-append w one.changes some.changes))) ∙ and_then_assoc one some (each rescue_row (perform w (one.changes ++ some.changes)) b)

-- those in front were rescued
pub many_sent : (all own more rows : List Row) (old now next : World) (report one told : Report) → rows ≡ own ++ more → IsLeft rescue_row old now report all rows → IsRouted now next one (each rescue_row now own)
    → told.moved ≡ report.moved + one.moved → told.buried ≡ report.buried + one.buried → told.fired.items ≡ report.fired.items ++ one.fired.items → told.trimmed.items ≡ report.trimmed.items ++ one.trimmed.items
    → IsLeft rescue_row old next told all more
many_sent all own more rows old now next report one told parts left sent moved buried fired trimmed =
    let first : Routed = each rescue_row now own in
    let rest : World → Routed = λ u. each rescue_row u more in
    let after : Routed = rest (perform now first.changes) in
    let both : each rescue_row now rows ≡ and_then first after = ap (each rescue_row now) parts ∙ each_append now own more in
    let m : (each rescue_row now rows).moved ≡ first.moved + after.moved = ap (λ (s : Routed). s.moved) both in
    let b : (each rescue_row now rows).buried ≡ first.buried + after.buried = ap (λ (s : Routed). s.buried) both in
    record {
      moved = omega (arith, moved, left.moved, sent.moved, m, ap (λ u. (rest u).moved) sent.world);
      buried = omega (arith, buried, left.buried, sent.buried, b, ap (λ u. (rest u).buried) sent.world);
      fired = ap (λ t. t ++ fired_texts (rest next).firings) fired ∙ append_assoc report.fired.items _ _
          ∙ ap₂ (λ x y. report.fired.items ++ (x ++ y)) sent.fired (ap (λ u. fired_texts (rest u).firings) sent.world)
          ∙ ap (λ t. report.fired.items ++ t) (sym (fired_append first.firings after.firings) ∙ sym (ap (λ (s : Routed). fired_texts s.firings) both))
          ∙ left.fired;
      trimmed = ap (λ t. t ++ (rest next).trimmed) trimmed ∙ append_assoc report.trimmed.items _ _
          ∙ ap₂ (λ x y. report.trimmed.items ++ (x ++ y)) sent.trimmed (ap (λ u. (rest u).trimmed) sent.world)
          ∙ ap (λ t. report.trimmed.items ++ t) (sym (ap (λ (s : Routed). s.trimmed) both))
          ∙ left.trimmed;
      world = ap (λ u. perform u (rest u).changes) sent.world ∙ sym (perform-append now first.changes after.changes) ∙ sym (ap (λ (s : Routed). perform now s.changes) both) ∙ left.world;
    }

-- so many were rescued, and so many are left, as there were
number_left : (old now : World) (report : Report) (all rest : List Row) → IsLeft rescue_row old now report all rest → report.moved + report.buried + length rest ≡ length all
number_left old now report all rest left = omega (arith, left.moved, left.buried, each_row old all, each_row now rest)

-- what is left of the others, where the heartbeats are the same
pub left_after : (now next : World) (others : List Row) → next.moment ≡ now.moment → next.leases.beats ≡ now.leases.beats → rows_in (is_left now) next.rows ≡ others → left_rows next ≡ others
left_after now next others at e f = filter_agree (λ row. is_left next row.place) (λ row. is_left now row.place) (λ row. same row.place) next.rows ∙ f where
  same : (place : Place) → is_left next place ≡ is_left now place
  same (Queue queue) = refl
  same (Private ident) = ap₂ (λ m beats. not (nat_lt 0 (count_standing ident m beats))) at e
  same (Set set) = refl

-- what is left is in no queue, and not in the dead set
pub left_aside : (w : World) → IsAside (is_left w)
left_aside w = record { queues = λ queue. refl; dead = refl }

some_left : (w : World) → length (left_rows w) ≤ length w.rows
some_left w = fewer (λ row. is_left w row.place) w.rows where
  fewer : (test : Row → Bool) (rows : List Row) → length (filter test rows) ≤ length rows
  fewer test [] = omega arith
  fewer test (row ∷ rows) = grind (arith, fewer test rows)

-- the next process's rows are among those that are left
pub room : (old now : World) (report : Report) (ident : Bytes) → IsLeft rescue_row old now report (left_rows old) (left_rows now) → IsFront ident now → report.moved + report.buried + length (rows_at (Private ident) now.rows) ≤ length old.rows
room old now report ident left next =
    omega (arith, number_left old now report (left_rows old) (left_rows now) left, ap length next.front, length-append (rows_at (Private ident) now.rows) (filter (λ row. not (is_at (Private ident) row)) (left_rows now)), some_left old)

pub none_more : (old now : World) (report : Report) → IsLeft rescue_row old now report (left_rows old) (left_rows now) → report.moved + report.buried ≤ length old.rows
none_more old now report left = omega (arith, number_left old now report (left_rows old) (left_rows now) left, some_left old)

pub front_of : (found : Option Bytes) (ident : Bytes) (w : World) → found ≡ Some ident → IsNext found w → IsFront ident w
front_of found ident w e next = subst (λ o. IsNext o w) e next

pub none_of_all : (found : Option Bytes) (w : World) → found ≡ None → IsNext found w → left_rows w ≡ []
none_of_all found w e next = subst (λ o. IsNext o w) e next

-- whatever is left is in a private list
listed : (w : World) (place : Place) → is_left w place ≡ true → is_past None (ident_at place) ≡ true
listed w (Queue queue) e = absurd (cc e)
listed w (Private ident) e = refl
listed w (Set set) e = absurd (cc e)

all_listed : (w : World) (rows : List Row) → list_all (λ row. is_past None (ident_at row.place)) (filter (λ row. is_left w row.place) rows) ≡ true
all_listed w [] = refl
all_listed w (row ∷ rows) = grind (arith, all_listed w rows, listed w row.place)

pub none_passed : (w : World) → IsPassed None w
none_passed w = all_listed w w.rows
