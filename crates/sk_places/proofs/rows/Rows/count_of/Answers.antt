use Rattle.std.proofs.Common.{ap, ◌∙◌}
use Rattle.sk_places.specs.Rows.{rows_of}
use Rattle.sk_places.proofs.rows.Rows.count_of.Goals as goal

pub returns-clause-is : goal.returns-clause-is
returns-clause-is c = c.count_of.ensures ∙ c.self.invariant.sound.index.current.counts c.args.jid.now ∙ ap (λ v. rows_of c.args.jid.now v.list.current) c.self.view_is
