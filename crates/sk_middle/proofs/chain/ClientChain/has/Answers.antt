use Rattle.std.proofs.Common.{rules, tests, bytes_eq, ◌∙◌}
use Rattle.std.proofs.lemmas.Iterator.{YieldsList-from_slice}
use Rattle.std.proofs.lemmas.Iterator.Search.{any_from_yields_List}
use Rattle.sk_middle.proofs.Chains.{is_there}
use Rattle.sk_middle.proofs.chain.ClientChain.has.Goals as goal

pub returns : goal.returns
returns g c =
    is_there (λ s. s.name) c.args.name.now c.args.self.now.steps.items c.any.result
    (any_from_yields_List (λ s. bytes_eq c.args.name.now s.name) _ _ c.any.result c.any.ensures.ran
    (YieldsList-from_slice c.args.self.now.steps.items (c.iter.ensures.rest ∙ c.deref.ensures.value)) (λ x b q k. search (rules, tests)))
