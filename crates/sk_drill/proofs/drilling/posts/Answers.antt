use Rattle.std.proofs.Common.{◌≡◌, ap, arith}
use Rattle.sk_desk.specs.Pass.{PassView}
use Rattle.sk_drill.proofs.Apart.{threads_apart}
use Rattle.sk_drill.proofs.drilling.posts.Goals as goal

pub returns-clause-apart : goal.returns-clause-apart
returns-clause-apart g c =
    let first = c.split.ensures in
    let second = c.split-2.ensures in
    let from : c.split-2.result.given ≡ 1 = omega (arith, c.requires.count.0, first.given_is, ap (λ (p : PassView). p.given) second.other_is) in
    threads_apart _ _ c.split.result.given c.split.result.count c.split-2.result.given c.split-2.result.count _ _ c.loop-worker.invariant.apart
    (omega (arith, c.requires.count.0, from, ap (λ (p : PassView). p.given) first.other_is, ap (λ (p : PassView). p.count) first.other_is))
    (omega (arith, from, ap (λ (p : PassView). p.count) second.other_is))
