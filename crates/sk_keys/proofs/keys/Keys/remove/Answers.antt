use Rattle.std.proofs.Common.{sym, ap, ◌∙◌}
use Rattle.sk_value.specs.Keys.{purged, without}
use Rattle.sk_keys.proofs.Past.{clean_without, purged_without}
use Rattle.sk_keys.proofs.keys.Keys.remove.Goals as goal

pub remove-requires : goal.remove-requires
remove-requires c = c.self.invariant.indexed

pub invariant_of-self : goal.invariant_of-self
invariant_of-self c = record {
  indexed = c.remove.ensures.indexed;
  clean = λ fresh. clean_without c.self.inside.over c.args.name.now c.self.inside.table.entries c.remove.new.table.entries c.in_order.ensures (c.self.invariant.clean fresh) c.remove.ensures.rest;
}

pub returns-clause-rest : goal.returns-clause-rest
returns-clause-rest c = ap (purged c.self.inside.over) c.remove.ensures.rest ∙ sym (purged_without c.self.inside.over c.args.name.now c.self.inside.table.entries c.in_order.ensures) ∙ ap (without c.args.name.now) c.self.view_is
