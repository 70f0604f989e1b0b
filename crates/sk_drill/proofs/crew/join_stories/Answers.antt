use Rattle.std.proofs.Common.{◌≡◌, ◌++◌, ◌∷◌, ◌∙◌, [], ap, arith, map, sym}
use Rattle.std.specs.List.{flat_map}
use Rattle.std.specs.Vec.Iter.{into_iter_items}
use Rattle.std.proofs.lemmas.Grind.{common_steps}
use Rattle.std.proofs.lemmas.List.{append-nil}
use Rattle.sk_drill.proofs.crew.join_stories.Goals as goal

pub returns : goal.returns
returns c =
    let none : into_iter_items c.loop-lane.lane-iterator ≡ [] = grind (arith, common_steps) in
    let pushing = c.in-Some.pushing in
    let polling = c.in-Some-polled.polling in
    let stories = c.loop-lane.stories.items in
    let first = c.in_ok-push-2.ensures.items ∙ ap (λ l. l ++ polling ∷ []) (c.in_ok-push.ensures.items ∙ ap (λ l. l ++ pushing ∷ []) c.new-stories.ensures.items) in
    record {
      pushing = pushing;
      polling = polling;
      pushing_is = c.in-Some.is;
      polling_is = c.in-Some-polled.is;
      are = sym (append-nil stories) ∙ ap (λ l. stories ++ flat_map (λ lane. lane) (map (λ lane. lane.items) l)) (sym none) ∙ c.loop-lane.invariant
          ∙ ap (λ l. l ++ flat_map (λ lane. lane) (map (λ lane. lane.items) c.args.lanes.items)) first;
    }
