use Rattle.std.proofs.Common.{rules, sym, subst, ◌∙◌}
use Rattle.std.proofs.Math.Bool.{true≢false}
use Rattle.sk_base.specs.Name.{IsName}
use Rattle.sk_base.specs.declared.limits.TheConstants.{LONGEST_NAME}
use Rattle.sk_middle.proofs.Chains.{of_names}
use Rattle.sk_middle.proofs.chain.ClientChain.add.Goals as goal

-- The chain has no function of a name that is none.
pub returns-then-not-is_name-clause-repeated : goal.returns-then-not-is_name-clause-repeated
returns-then-not-is_name-clause-repeated g c = (
  λ e. search rules,
  λ there.
      let named = of_names (λ s. s.name) (IsName LONGEST_NAME) c.args.self.now.steps.items c.args.name (λ s. s.named) there in
      absurd (true≢false (sym (c.is_name.ensures.1 (subst (IsName LONGEST_NAME) (sym (c.as_bytes.ensures.value ∙ c.text.ensures)) named)) ∙ c.if-not-is_name.true)),
)
