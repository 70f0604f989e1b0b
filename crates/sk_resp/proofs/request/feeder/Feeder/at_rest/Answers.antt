use Rattle.std.proofs.Common.{ap, ◌∙◌, subst}
use Rattle.std.specs.Prelude.{IfNone}
use Rattle.sk_resp.specs.Reading.{IsOpen}
use Rattle.sk_resp.proofs.Streams.{start_seen}
use Rattle.sk_resp.proofs.request.feeder.Feeder.at_rest.Goals as goal

pub returns-in_default : goal.returns-in_default
returns-in_default c = λ none. (λ yes. absurd (cc yes), λ empty. absurd (c.in_default.not-Start (start_seen c.self.inside.state.stage c.self.inside.state (subst (λ f. IfNone f (IsOpen c.self.inside.state)) (ap (λ h. h.fault) c.self.view_is ∙ none) c.self.invariant) (ap (λ h. h.rest) c.self.view_is ∙ empty))))
