-- Room for pushes.
use Rattle.std.proofs.Common.{◌≡◌, ◌+◌, List, [], ◌∷◌, ap, suc, arith, refl, map, length, false, ◌≤◌}
use Rattle.std.proofs.lemmas.List.Sums.{sum_by-cons, sum-map}
use Rattle.std.specs.Prelude.{Bool, Result, Ok, Err, OnOk}
use Rattle.sk_undo.specs.Versions.{Versions, edited}
use Rattle.sk_resp.specs.Spelling.{Bytes}
use Rattle.sk_cmd.specs.declared.argument.Side.{Side}
use Rattle.sk_places.specs.declared.origin.Origin.{Origin}
use Rattle.sk_places.specs.Totals.{pushes_in}
use Rattle.sk_places.proofs.Accounts.{pushed_count}
use Rattle.sk_places.specs.Placed.{Placed, pushed_to}
use Rattle.sk_places.specs.Rows.{is_fresh}
use Rattle.sk_zset.specs.Pair.{Pair}
use Rattle.sk_places.specs.declared.row.Row.{Row}
use Rattle.sk_places.specs.Order.{bytes_of as row_bytes}
use Rattle.sk_model.specs.World.{World}
use Rattle.sk_model.specs.Room.{HasRoom, bytes_of, is_full}

-- where the texts are not too much there is room for as many pushes
pub room_left : (w : World) (texts : List Bytes) → is_full w texts ≡ false → HasRoom (length texts) w.tally
room_left w texts few some = grind (arith, few)

-- a push that was done is one more
pub pushed_few : {A E : Type 0} (r : Result A E) (from : Origin) (held : Bool) (end : Side) (row : Row) (old new : Versions Placed) → OnOk r (new ≡ edited (pushed_to from held end row old.current) old)
    → OnOk r (pushes_in new.current.jobs.totals ≤ pushes_in old.current.jobs.totals + 1)
pushed_few (Ok x) from held end row old new e =
    let one = pushed_count from (is_fresh held old.current.rows) row.text old.current.jobs in
    let is = ap (λ (s : Versions Placed). pushes_in s.current.jobs.totals) e in
    omega (arith, one, is)
pushed_few (Err x) from held end row old new e = tt
