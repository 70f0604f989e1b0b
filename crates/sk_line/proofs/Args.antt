-- What the steps of an argument's builder leave of its rule.
use Rattle.std.proofs.Common.{◌≡◌, ◌∷◌, ◌∙◌, [], Bool, Bor, List, Some, ap, false, ℕ}
use Rattle.clap.specs.Words.{AddsArg, Rule, app_of, rule_of, with_rule}
use Rattle.clap.specs.declared.builder.action.ArgAction.{ArgAction}
use Rattle.clap.specs.declared.builder.arg.Arg.{Arg}
use Rattle.clap.specs.declared.builder.command.Command.{Command}
use Rattle.clap.specs.declared.builder.texts.Texts.TheVariants.{One}

-- the argument has this rule, and is for its own command alone
abbrev pub HasRule : Arg → Rule → Type 0
HasRule a rule = (rule_of a ≡ rule) × (a.global ≡ false)

pub long_rule : (a b : Arg) (name : Bor (List ℕ)) (rule : Rule) → b ≡ record a { long = Some name } → HasRule a rule → HasRule b (record rule { long = Some name.now })
long_rule a b name rule e h = (ap rule_of e ∙ ap (λ (r : Rule). record r { long = Some name.now }) h.0, ap (λ (x : Arg). x.global) e ∙ h.1)

pub default_rule : (a b : Arg) (text : Bor (List ℕ)) (rule : Rule) → b ≡ record a { default_vals = One text } → HasRule a rule → HasRule b (record rule { defaults = text.now ∷ [] })
default_rule a b text rule e h = (ap rule_of e ∙ ap (λ (r : Rule). record r { defaults = text.now ∷ [] }) h.0, ap (λ (x : Arg). x.global) e ∙ h.1)

pub action_rule : (a b : Arg) (action : ArgAction) (rule : Rule) → b ≡ record a { action = Some action } → HasRule a rule → HasRule b (record rule { action = Some action })
action_rule a b action rule e h = (ap rule_of e ∙ ap (λ (r : Rule). record r { action = Some action }) h.0, ap (λ (x : Arg). x.global) e ∙ h.1)

pub required_rule : (a b : Arg) (is : Bool) (rule : Rule) → b ≡ record a { required = is } → HasRule a rule → HasRule b (record rule { required = is })
required_rule a b is rule e h = (ap rule_of e ∙ ap (λ (r : Rule). record r { required = is }) h.0, ap (λ (x : Arg). x.global) e ∙ h.1)

-- the command with the argument, once it has its line of help
pub added : (command new : Command) (a b : Arg) (help : Bor (List ℕ)) (rule : Rule) → b ≡ record a { help = Some help } → HasRule a rule → AddsArg command b new
    → app_of new ≡ with_rule (app_of command) rule
added command new a b help rule e h adds = adds.shape (ap (λ (x : Arg). x.global) e ∙ h.1) ∙ ap (with_rule (app_of command)) (ap rule_of e ∙ h.0)
