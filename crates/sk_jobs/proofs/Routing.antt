-- Jobs that are sent on, one after another.
use Rattle.std.proofs.Common.{◌≡◌, ◌≤◌, ◌<◌, ◌+◌, ℕ, length, List, [], ◌∷◌, ◌++◌, refl, sym, ap, ap₂, subst, ◌∙◌, arith, append_assoc, append-nil, pos}
use Rattle.std.specs.Prelude.{Option, false}
use Rattle.std.specs.Ordering.{is_eq}
use Rattle.sk_resp.specs.Spelling.{Bytes}
use Rattle.sk_batch.specs.declared.firing.Firing.{Firing}
use Rattle.sk_cmd.specs.declared.argument.Scored.{Scored}
use Rattle.sk_cmd.specs.declared.argument.Scored.TheVariants.{Dead}
use Rattle.sk_cmd.specs.declared.argument.Side.{Side}
use Rattle.sk_cmd.specs.declared.argument.Side.TheVariants.{Left}
use Rattle.sk_payload.specs.Head.{head}
use Rattle.sk_payload.specs.declared.head.Head.{Head}
use Rattle.sk_places.specs.declared.row.Row.{Row}
use Rattle.sk_model.specs.World.{World}
use Rattle.sk_places.specs.declared.row.Place.TheVariants.{Private, Queue, Set}
use Rattle.sk_places.specs.Placed.{carried}
use Rattle.sk_places.specs.Rows.{place_cmp, take_row}
use Rattle.sk_model.specs.Change.{perform}
use Rattle.sk_model.specs.Jobs.{Routed, and_then, each, nothing}
use Rattle.sk_model.specs.Notify.{fired_texts, kind_text}
use Rattle.sk_model.proofs.Changes.Lawful.{perform-append}
use Rattle.sk_store.specs.Stored.{world}
use Rattle.sk_store.specs.declared.store.Store.{Store}
use Rattle.sk_jobs.specs.declared.report.Report.{Report}
use Rattle.sk_jobs.specs.Routing.{Carries, IsAside, IsRouted, Takes, rows_in}
use Rattle.sk_jobs.proofs.Fronts.{front_taken, other_put, turned}

pub fired_append : (a b : List Firing) → fired_texts (a ++ b) ≡ fired_texts a ++ fired_texts b
fired_append [] b = refl
fired_append (f ∷ a) b = ap (λ texts. f.bid ∷ kind_text f.kind ∷ texts) (fired_append a b)

-- what was sent on in two turns, as one
pub both_sent : (a b c : World) (first second all : Report) (one : Routed) (more : World → Routed) → IsRouted a b first one → IsRouted b c second (more b)
    → all.moved ≡ first.moved + second.moved → all.buried ≡ first.buried + second.buried → all.fired.items ≡ first.fired.items ++ second.fired.items → all.trimmed.items ≡ first.trimmed.items ++ second.trimmed.items
    → IsRouted a c all (and_then one (more (perform a one.changes)))
both_sent a b c first second all one more s t moved buried fired trimmed =
    let after : Routed = more (perform a one.changes) in
    record {
      moved = omega (arith, moved, s.moved, t.moved, ap (λ u. (more u).moved) s.world);
      buried = omega (arith, buried, s.buried, t.buried, ap (λ u. (more u).buried) s.world);
      fired = fired ∙ ap₂ (λ x y. x ++ y) s.fired (t.fired ∙ ap (λ u. fired_texts (more u).firings) s.world) ∙ sym (fired_append one.firings after.firings);
      trimmed = trimmed ∙ ap₂ (λ x y. x ++ y) s.trimmed (t.trimmed ∙ ap (λ u. (more u).trimmed) s.world);
      world = t.world ∙ ap (λ u. perform u (more u).changes) s.world ∙ sym (perform-append a one.changes after.changes);
    }

-- ## Those that are left

-- What was sent, and what of the rows that are left is still to be sent, are together what all rows come to.
pub record IsLeft (way : World → Row → Option Head → Routed) (old now : World) (report : Report) (all rest : List Row) : Type 0 where
  pub moved : report.moved + (each way now rest).moved ≡ (each way old all).moved
  pub buried : report.buried + (each way now rest).buried ≡ (each way old all).buried
  pub fired : report.fired.items ++ fired_texts (each way now rest).firings ≡ fired_texts (each way old all).firings
  pub trimmed : report.trimmed.items ++ (each way now rest).trimmed ≡ (each way old all).trimmed
  pub world : perform now (each way now rest).changes ≡ perform old (each way old all).changes

-- none was sent yet
pub none_sent : (way : World → Row → Option Head → Routed) (old : World) (report : Report) (all : List Row) → report.moved ≡ 0 → report.buried ≡ 0 → report.fired.items ≡ [] → report.trimmed.items ≡ [] → IsLeft way old old report all all
none_sent way old report all none unburied fires texts = record {
  moved = omega (arith, none);
  buried = omega (arith, unburied);
  fired = ap (λ t. t ++ fired_texts (each way old all).firings) fires;
  trimmed = ap (λ t. t ++ (each way old all).trimmed) texts;
  world = refl;
}

-- one more was sent
one_sent : (way : World → Row → Option Head → Routed) (old now next : World) (report one all_of : Report) (all more : List Row) (row : Row) → IsLeft way old now report all (row ∷ more) → IsRouted now next one (way now row (head row.text))
    → all_of.moved ≡ report.moved + one.moved → all_of.buried ≡ report.buried + one.buried → all_of.fired.items ≡ report.fired.items ++ one.fired.items → all_of.trimmed.items ≡ report.trimmed.items ++ one.trimmed.items
    → IsLeft way old next all_of all more
one_sent way old now next report one all_of all more row left sent moved buried fired trimmed =
    let first : Routed = way now row (head row.text) in
    let rest : World → Routed = λ u. each way u more in
    record {
      moved = omega (arith, moved, left.moved, sent.moved, ap (λ u. (rest u).moved) sent.world);
      buried = omega (arith, buried, left.buried, sent.buried, ap (λ u. (rest u).buried) sent.world);
      fired = ap (λ t. t ++ fired_texts (rest next).firings) fired ∙ append_assoc report.fired.items _ _
          ∙ ap₂ (λ x y. report.fired.items ++ (x ++ y)) sent.fired (ap (λ u. fired_texts (rest u).firings) sent.world)
          ∙ ap (λ t. report.fired.items ++ t) (sym (fired_append first.firings (rest (perform now first.changes)).firings))
          ∙ left.fired;
      trimmed = ap (λ t. t ++ (rest next).trimmed) trimmed ∙ append_assoc report.trimmed.items _ _
          ∙ ap₂ (λ x y. report.trimmed.items ++ (x ++ y)) sent.trimmed (ap (λ u. (rest u).trimmed) sent.world)
          ∙ left.trimmed;
      world = ap (λ u. perform u (rest u).changes) sent.world ∙ sym (perform-append now first.changes (rest (perform now first.changes)).changes) ∙ left.world;
    }

-- a row in front, and more behind it
pub record IsOne (own : List Row) : Type 0 where
  pub row : Row
  pub more : List Row
  pub is : own ≡ row ∷ more

pub one_of : (own : List Row) → 0 < length own → IsOne own
one_of [] some = absurd (omega (arith, some))
one_of (row ∷ more) some = record { row = row; more = more; is = refl }

pub none_of : (n : ℕ) (own : List Row) → n ≡ length own → n ≤ 0 → own ≡ []
none_of n [] e h = refl
none_of n (row ∷ more) e h = absurd (omega (arith, e, h))

-- the first of them was sent
pub row_sent : (way : World → Row → Option Head → Routed) (all own rest : List Row) (old now next : World) (report one told : Report) (first : IsOne own) → rest ≡ first.more → IsLeft way old now report all own
    → IsRouted now next one (way now first.row (head first.row.text)) → told.moved ≡ report.moved + one.moved → told.buried ≡ report.buried + one.buried → told.fired.items ≡ report.fired.items ++ one.fired.items → told.trimmed.items ≡ report.trimmed.items ++ one.trimmed.items
    → IsLeft way old next told all rest
row_sent way all own rest old now next report one told first gone left sent moved buried fired trimmed =
    subst (λ rows. IsLeft way old next told all rows) (sym gone)
    (one_sent way old now next report one told all first.more first.row (subst (λ rows. IsLeft way old now report all rows) first.is left) sent moved buried fired trimmed)

-- all were sent
pub all_sent : (way : World → Row → Option Head → Routed) (old now : World) (report : Report) (all rest : List Row) → rest ≡ [] → IsLeft way old now report all rest → IsRouted old now report (each way old all)
all_sent way old now report all rest e left = done (subst (λ r. IsLeft way old now report all r) e left) where
  done : IsLeft way old now report all [] → IsRouted old now report (each way old all)
  done l = record {
    moved = omega (arith, l.moved);
    buried = omega (arith, l.buried);
    fired = sym (append-nil report.fired.items) ∙ l.fired;
    trimmed = sym (append-nil report.trimmed.items) ∙ l.trimmed;
    world = l.world;
  }

-- ## One job

-- a job in front of its place went to a queue
pub carried_left : (old new : Store) (row : Row) (queue : Bytes) (end : Side) → Carries old row queue end new → Takes (row ∷ []) old new
carried_left old new row queue end e = λ test others aside front.
    let rows : List Row = (world old).rows in
    ap (λ (w : World). rows_in test w.rows) e
    ∙ other_put (λ r. test r.place) end (carried row (Queue queue) (pos 0)) (take_row Left row rows) (aside.queues queue)
    ∙ front_taken (λ r. test r.place) row others rows front

-- no queue is a set or a private list, and the dead set is no other
pub set_aside : (set : Scored) → is_eq (place_cmp (Set Dead) (Set set)) ≡ false → IsAside (λ place. is_eq (place_cmp (Set set) place))
set_aside set alive = record { queues = λ queue. refl; dead = turned (Set Dead) (Set set) alive }

pub own_aside : (ident : Bytes) → IsAside (λ place. is_eq (place_cmp (Private ident) place))
own_aside ident = record { queues = λ queue. refl; dead = refl }

-- what is told where nothing was sent on
pub nothing_sent : (w : World) (report : Report) → report.moved ≡ 0 → report.buried ≡ 0 → report.fired.items ≡ [] → report.trimmed.items ≡ [] → IsRouted w w report nothing
nothing_sent w report none unburied fires texts = record { moved = none; buried = unburied; fired = fires; trimmed = texts; world = refl }
