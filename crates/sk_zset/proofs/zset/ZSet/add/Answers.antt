use Rattle.std.proofs.Common.{◌≡◌, true, not, arith, sym, subst, ap, ◌∙◌}
use Rattle.sk_undo.specs.Versions.{edited}
use Rattle.sk_zset.specs.Order.{is_ordered}
use Rattle.sk_zset.specs.Pairs.{score_of}
use Rattle.sk_zset.proofs.Places.{added_again, has_there, same_score}
use Rattle.sk_zset.proofs.Scores.{has_score}
use Rattle.sk_zset.proofs.Ties.{tied_put}
use Rattle.sk_zset.proofs.zset.ZSet.add.Goals as goal

pub returns-then-eq-clause-answer : goal.returns-then-eq-clause-answer
returns-then-eq-clause-answer c =
    let was = c.score-was.ensures ∙ ap (λ m. score_of m c.args.self.now.current) c.bytes.ensures in
    let there = sym was ∙ same_score c.score-was.result c.args.score (sym c.eq.ensures ∙ c.if-eq.true) in
    sym (ap not (has_there c.args.member c.args.score c.args.self.now.current there))

pub returns-then-eq-clause-ok : goal.returns-then-eq-clause-ok
returns-then-eq-clause-ok c =
    let was = c.score-was.ensures ∙ ap (λ m. score_of m c.args.self.now.current) c.bytes.ensures in
    let there = sym was ∙ same_score c.score-was.result c.args.score (sym c.eq.ensures ∙ c.if-eq.true) in
    let order = subst (λ s. is_ordered s.current ≡ true) c.self.view_is c.self.invariant.order.current in
    sym (ap (λ ps. edited ps c.args.self.now) (added_again (c.args.score, c.args.member) c.args.self.now.current order there))

pub invariant_of-self-2 : goal.invariant_of-self-2
invariant_of-self-2 c = rw (c.add_pair.ensures, c.put.ensures.list, c.reserve.ensures.list, c.reserve-2.ensures.list, c.in_ok-name.ensures) (tied_put _ _ c.self.invariant (c.args.score, c.args.member))

pub returns-clause-answer : goal.returns-clause-answer
returns-clause-answer c =
    let was = c.score-was.ensures ∙ ap (λ m. score_of m c.args.self.now.current) c.bytes.ensures in
    let has = has_score c.args.member c.args.self.now.current in
    grind (arith, was, has, c.is_none.ensures)
