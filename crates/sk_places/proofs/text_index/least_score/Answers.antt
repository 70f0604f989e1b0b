use Rattle.std.proofs.Common.{arith}
use Rattle.sk_places.proofs.LeastScores.{none_found, other_found, text_found}
use Rattle.sk_places.proofs.text_index.least_score.Goals as goal

pub returns-then-at-len : goal.returns-then-at-len
returns-then-at-len c = none_found c.args.set c.args.text.now c.args.index.now.list.current c.len.ensures.ordered c.rank-at.result c.rank-at.ensures.is (omega (arith, c.if-at-len.true, c.len.ensures.is))

pub returns-then-is_eq : goal.returns-then-is_eq
returns-then-is_eq c = rw (c.score.ensures) (text_found c.args.set c.args.text.now c.args.index.now.list.current c.len.ensures.ordered c.rank-at.result c.rank-at.ensures.is c.at-key.result.now (omega (arith, c.if-at-len.false, c.len.ensures.is, c.rank-at.ensures.within)) c.at-key.ensures (grind (arith, c.if-is_eq.true, c.is_eq.ensures, c.compare_text.ensures)))

pub returns-else-is_eq : goal.returns-else-is_eq
returns-else-is_eq c = other_found c.args.set c.args.text.now c.args.index.now.list.current c.len.ensures.ordered c.rank-at.result c.rank-at.ensures.is c.at-key.result.now (omega (arith, c.if-at-len.false, c.len.ensures.is, c.rank-at.ensures.within)) c.at-key.ensures (grind (arith, c.if-is_eq.false, c.is_eq.ensures, c.compare_text.ensures))
