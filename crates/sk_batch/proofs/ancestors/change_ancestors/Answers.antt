use Rattle.std.proofs.Common.{◌≡◌, ◌+◌, ◌∷◌, ◌++◌, ◌∙◌, List, ℕ, ap, arith, drop, get_or, refl, subst, sym, take}
use Rattle.sk_undo.specs.Moves.{moved}
use Rattle.sk_undo.specs.Versions.{Versions}
use Rattle.sk_batch.specs.Along.{along_first}
use Rattle.sk_batch.specs.Places.{Climb, first_place}
use Rattle.sk_batch.specs.States.{StateEntry, with_change}
use Rattle.sk_batch.proofs.Along.{along_begins, along_step}
use Rattle.sk_batch.proofs.Climbs.{climb_moved, first_moved, next_place}
use Rattle.sk_batch.specs.declared.state.State.{State}
use Rattle.sk_batch.proofs.ancestors.change_ancestors.Goals as goal

pub loop-place-init : goal.loop-place-init
loop-place-init c =
    let old = c.args.batches.now.list.current in
    let turn = with_change c.args.change c.args.bid.now in
    record {
      climb = c.requires.places.climb;
      changed = ap (λ n. take n old ++ along_first turn (drop n old)) c.requires.places.first ∙ along_begins turn old c.args.bid.now;
      saved = refl;
      room = omega (arith, c.requires.room);
    }

pub loop-place-preserved : goal.loop-place-preserved
loop-place-preserved c =
    let old = c.loop-place.batches.list.current in
    let new = c.set_state.new.self.list.current in
    let turn = with_change c.args.change c.args.bid.now in
    let places = c.args.places.now in
    let at : ℕ = get_or places c.loop-place.place-index 0 in
    let above : List ℕ = drop (c.loop-place.place-index + 1) places in
    let next = next_place places c.loop-place.place-index c.loop-place-test.true in
    let climb : Climb (at ∷ above) old = subst (λ (l : List ℕ). Climb l old) next c.loop-place.invariant.climb in
    let edited_to : new ≡ moved at at c.with_change-state.result old = ap (λ (s : Versions (List StateEntry)). s.current) c.set_state.ensures.list in
    let turned : State = turn (get_or old at c.get.result.now) in
    let turned_to : new ≡ moved at at turned old = edited_to ∙ ap (λ (s : State). moved at at s old) (c.with_change-state.ensures ∙ ap turn c.get.ensures) in
    record {
      climb = subst (λ (l : List StateEntry). Climb above l) (sym turned_to) (climb_moved above old at turned climb.0 climb.2);
      changed =
          ap (λ (l : List StateEntry). take (first_place above l) l ++ along_first turn (drop (first_place above l) l)) turned_to
          ∙ ap (λ n. take n (moved at at turned old) ++ along_first turn (drop n (moved at at turned old))) (first_moved above old at turned climb.0)
          ∙ along_step turn old at (first_place above old) c.get.result.now climb.0 climb.1
          ∙ ap (λ (l : List ℕ). take (first_place l old) old ++ along_first turn (drop (first_place l old) old)) (sym next)
          ∙ c.loop-place.invariant.changed;
      saved = ap (λ (s : Versions (List StateEntry)). s.saved) c.set_state.ensures.list ∙ c.loop-place.invariant.saved;
      room = omega (arith, c.loop-place.invariant.room, c.set_state.ensures.room);
    }
