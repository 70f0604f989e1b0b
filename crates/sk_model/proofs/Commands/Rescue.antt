-- The changes of a rescue are good.
use Rattle.std.proofs.Common.{◌≡◌, ◌≤◌, ◌+◌, List, [], ◌∷◌, refl, ap, arith, Bool, true, false, cond}
use Rattle.std.specs.Prelude.{pos, Option, Some, None, filter}
use Rattle.std.specs.List.{list_any}
use Rattle.std.specs.Ordering.{is_eq}
use Rattle.sk_resp.specs.Spelling.{Bytes}
use Rattle.sk_cmd.specs.declared.argument.Side.TheVariants.{Right, Left}
use Rattle.sk_cmd.specs.declared.argument.Scored.TheVariants.{Dead}
use Rattle.sk_payload.specs.declared.head.Head.{Head}
use Rattle.sk_places.specs.declared.row.Place.{Place}
use Rattle.sk_places.specs.declared.row.Place.TheVariants.{Queue, Private, Set}
use Rattle.sk_places.specs.declared.row.Row.{Row}
use Rattle.sk_places.specs.Rows.{is_at, is_same, place_cmp}
use Rattle.sk_model.specs.World.{World}
use Rattle.sk_model.specs.Change.{Recovers, Forgets, changed, perform}
use Rattle.sk_places.specs.Rows.{copies_of}
use Rattle.sk_model.specs.Jobs.{Routed, bury, to_queue}
use Rattle.sk_model.specs.Rescue.{is_left, left_rows, is_poison, bury_poison, recover, rescue_row, rescue}
use Rattle.sk_model.proofs.Tools.RowsThatGo.{filter_among}
use Rattle.sk_model.proofs.Commands.Sets.{Alive, Sends, each_good, bury_good, bury_keeps, carry_keeps}
use Rattle.sk_model.proofs.Changes.Lawful.{Good, good_append, then_others, perform-append, good_carry, good_recovers, good_forgets}

-- whichever of two ways it is
either_way : (w : World) (b : Bool) (one other : Routed) → Good w one.changes → Good w other.changes → Good w (cond b one other).changes
either_way w true one other f g = f
either_way w false one other f g = g

either_keeps : (w : World) (b : Bool) (one other : Routed) (row that : Row) → copies_of that w.rows ≤ cond (is_same that row) 1 0 + copies_of that (perform w one.changes).rows → copies_of that w.rows ≤ cond (is_same that row) 1 0 + copies_of that (perform w other.changes).rows
    → copies_of that w.rows ≤ cond (is_same that row) 1 0 + copies_of that (perform w (cond b one other).changes).rows
either_keeps w true one other row that f g = f
either_keeps w false one other row that f g = g

poison_good : (w : World) (row : Row) (jid : Bytes) → list_any (is_same row) w.rows ≡ true → is_at (Set Dead) row ≡ false → Good w (bury_poison w row jid).changes
poison_good w row jid there alive = good_append w (bury w row).changes (Forgets jid ∷ []) (bury_good w row there alive) (good_forgets _ jid)

poison_keeps : (w : World) (row other : Row) (jid : Bytes) → list_any (is_same row) w.rows ≡ true → is_at (Set Dead) row ≡ false → is_at (Set Dead) other ≡ false
    → copies_of other w.rows ≤ cond (is_same other row) 1 0 + copies_of other (perform w (bury_poison w row jid).changes).rows
poison_keeps w row other jid there alive kept =
    omega (arith, bury_keeps w row other there alive kept, ap (λ (u : World). copies_of other u.rows) (perform-append w (bury w row).changes (Forgets jid ∷ [])))

rescue_sends : Sends rescue_row
rescue_sends = record { good = good; keeps = keeps } where
  good : (w : World) (row : Row) (found : Option Head) → list_any (is_same row) w.rows ≡ true → is_at (Set Dead) row ≡ false → Good w (rescue_row w row found).changes
  good w row None there alive = bury_good w row there alive
  good w row (Some h) there alive =
      let noted : World = changed w (Recovers h.jid) in
      then_others w (Recovers h.jid) (recover noted row h).changes (good_recovers w h.jid)
      (either_way noted (is_poison noted h.jid) (bury_poison noted row h.jid) (to_queue Right row h) (poison_good noted row h.jid there alive) (good_carry noted row Left (Queue h.queue) (pos 0) Right there refl))

  keeps : (w : World) (row other : Row) (found : Option Head) → list_any (is_same row) w.rows ≡ true → is_at (Set Dead) row ≡ false → is_at (Set Dead) other ≡ false
      → copies_of other w.rows ≤ cond (is_same other row) 1 0 + copies_of other (perform w (rescue_row w row found).changes).rows
  keeps w row other None there alive kept = bury_keeps w row other there alive kept
  keeps w row other (Some h) there alive kept =
      let noted : World = changed w (Recovers h.jid) in
      either_keeps noted (is_poison noted h.jid) (bury_poison noted row h.jid) (to_queue Right row h) row other (poison_keeps noted row other h.jid there alive kept) (carry_keeps noted Right row other h there)

-- what stands in a private list isn't dead
not_dead : (w : World) (place : Place) → is_left w place ≡ true → is_eq (place_cmp (Set Dead) place) ≡ false
not_dead w (Queue queue) e = absurd (cc e)
not_dead w (Private ident) e = refl
not_dead w (Set set) e = absurd (cc e)

left_alive : (w : World) (rows : List Row) → Alive (filter (λ row. is_left w row.place) rows)
left_alive w [] = refl
left_alive w (row ∷ rows) = grind (arith, left_alive w rows, not_dead w row.place)

pub rescue_good : (w : World) → Good w (rescue w).changes
rescue_good w = each_good rescue_row rescue_sends w (left_rows w) (filter_among (λ row. is_left w row.place) w.rows) (left_alive w w.rows)
