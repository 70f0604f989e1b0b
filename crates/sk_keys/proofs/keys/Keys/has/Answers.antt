use Rattle.std.proofs.Common.{ap, ◌∙◌}
use Rattle.std.specs.Option.{is_some}
use Rattle.sk_value.specs.Keys.{at}
use Rattle.sk_keys.proofs.Past.{seen_has}
use Rattle.sk_keys.proofs.keys.Keys.has.Goals as goal

pub returns : goal.returns
returns c = c.has_ahead.ensures ∙ seen_has c.self.inside.over c.args.name.now c.self.inside.table.entries c.in_order.ensures ∙ ap (λ v. is_some (at c.args.name.now v)) c.self.view_is
