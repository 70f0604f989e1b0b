use Rattle.std.proofs.Common.{sym, ap, ◌∙◌}
use Rattle.sk_value.specs.Keys.{purged}
use Rattle.sk_keys.proofs.Past.{purge_twice}
use Rattle.sk_keys.proofs.keys.Keys.purge.Goals as goal

pub purge_some-self-inside-requires : goal.purge_some-self-inside-requires
purge_some-self-inside-requires c = c.self.invariant.indexed

pub invariant_of-self : goal.invariant_of-self
invariant_of-self c = record { indexed = c.purge_some-self-inside.ensures.indexed; clean = c.purge_some-self-inside.ensures.clean }

pub returns : goal.returns
returns c =
    let keys = c.self.inside.table.entries in
    c.purge_some-self-inside.ensures.keys
    ∙ ap (λ n. purged n keys) c.max-self-inside.ensures
    ∙ sym (purge_twice c.self.inside.over c.args.now keys)
    ∙ ap (purged c.args.now) c.self.view_is
