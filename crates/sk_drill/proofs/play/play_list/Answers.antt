use Rattle.std.proofs.Common.{◌≡◌, ◌∙◌, ◌++◌, ◌∷◌, [], ap, append_assoc, map, rules, arith, subst, sym}
use Rattle.std.proofs.lemmas.List.{append-nil}
use Rattle.std.proofs.lemmas.Grind.{common_steps}
use Rattle.std.specs.Vec.Iter.{into_iter_items}
use Rattle.sk_drill.specs.Events.{event_of}
use Rattle.sk_drill.specs.Soaked.{PlaysSome}
use Rattle.sk_drill.proofs.Playing.{plays_both, plays_none}
use Rattle.sk_drill.proofs.play.play_list.Goals as goal

pub loop-event-init : goal.loop-event-init
loop-event-init c =
    let all : into_iter_items c.into_iter-event-iterator.result ≡ c.args.list.items = search rules in
    ([], ap (map event_of) all, plays_none c.args.core.now)

pub loop-event-preserved : goal.loop-event-preserved
loop-event-preserved c =
    let was = c.loop-event.invariant in
    let event = event_of c.in-Some.event in
    let rest = into_iter_items c.next.new.self in
    let is : into_iter_items c.loop-event.event-iterator ≡ c.in-Some.event ∷ rest = c.in-Some.ensures.steps.0 in (
      was.0 ++ event ∷ [],
      append_assoc was.0 (event ∷ []) (map event_of rest) ∙ ap (λ es. was.0 ++ map event_of es) (sym is) ∙ was.1,
      plays_both c.args.core.now c.loop-event.core c.happen.new.core was.0 (event ∷ []) was.2 c.in_ok-happen.ensures,
    )

pub returns : goal.returns
returns c =
    let was = c.loop-event.invariant in
    let none : into_iter_items c.loop-event.event-iterator ≡ [] = grind (arith, common_steps) in
    let all : was.0 ≡ map event_of c.args.list.items = sym (append-nil was.0) ∙ ap (λ es. was.0 ++ map event_of es) (sym none) ∙ was.1 in
    subst (λ es. PlaysSome c.args.core.now es c.loop-event.core) all was.2
