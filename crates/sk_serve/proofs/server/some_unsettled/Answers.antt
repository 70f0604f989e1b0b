use Rattle.std.proofs.Common.{◌≡◌, rules, tests}
use Rattle.std.proofs.lemmas.Iterator.{YieldsList-from_slice, cases_from_any}
use Rattle.sk_serve.specs.declared.accept_loop.LoopEnd.TheVariants as loop_end
use Rattle.sk_serve.proofs.Lists.{any_found}
use Rattle.sk_serve.proofs.server.some_unsettled.Goals as goal

pub returns-clause-some : goal.returns-clause-some
returns-clause-some g c =
    any_found (λ it. it.end ≡ loop_end.Unsettled) (λ it. Unit {0}) c.args.loops.now c.any.result
    (cases_from_any _ _ c.any.result (λ it. it.end ≡ loop_end.Unsettled) (λ it. Unit {0}) c.any.ensures.ran (YieldsList-from_slice c.args.loops.now c.iter.ensures.rest)
    (λ x q called. search (rules, tests)) (λ x q called. (search (rules, tests), tt)))
