use Rattle.std.proofs.Common.{ap, ◌∙◌}
use Rattle.std.specs.Option.{is_some}
use Rattle.sk_zset.proofs.Scores.{has_score}
use Rattle.sk_zset.proofs.Ties.{tied_without}
use Rattle.sk_zset.proofs.zset.ZSet.drop_out.Goals as goal

pub invariant_of-self-2 : goal.invariant_of-self-2
invariant_of-self-2 c = rw (c.drop_pair.ensures.list, c.remove.ensures.list, c.reserve.ensures.list, c.reserve-2.ensures.list) (tied_without _ _ c.self.invariant c.args.member.now c.len-len.ensures.sorted)

pub returns-clause-answer : goal.returns-clause-answer
returns-clause-answer c = c.remove.ensures.answer ∙ rw (c.reserve-2.ensures.list, ← c.self.view_is) (ap is_some (c.self.invariant.current c.args.member.now) ∙ has_score c.args.member.now c.self.inside.pairs.list.current)
