-- What isn't the body of an event.
use Rattle.std.proofs.Common.{◌≡◌, ◌≢◌, List, [], sym, ◌∙◌, ap, subst}
use Rattle.std.specs.Prelude.{None}
use Rattle.sk_resp.specs.Request.{Command}
use Rattle.sk_resp.specs.Stream.{Faulty, Reads}
use Rattle.sk_resp.specs.declared.wire_fault.WireFault.{WireFault}
use Rattle.sk_resp.proofs.Readings.{never_both, reads-once}
use Rattle.sk_log.specs.File.{Body}
use Rattle.sk_model.specs.Event.{Event}
use Rattle.sk_aof.specs.Bodies.{HasNumbers, MayStand, body_of, commands_of}
use Rattle.sk_aof.specs.Read.{HasNoCommands, IsBody, IsEvent}
use Rattle.sk_aof.proofs.Readings.{numbers_of, reads_body, same_event}

pub cut_short : (body : Body) (commands : List Command) (rest : Body) → rest ≢ [] → Reads body commands rest → HasNoCommands body
cut_short body commands rest some r = λ others s. some (reads-once body commands others rest [] r s).1

pub faulty_body : (body : Body) (commands : List Command) (fault : WireFault) → Faulty body commands fault → HasNoCommands body
faulty_body body commands fault f = λ others r. never_both body others commands [] fault r f

as_read : (body : Body) (event : Event) → MayStand event → body ≡ body_of event → Reads body (commands_of event) []
as_read body event may e = subst (λ b. Reads b (commands_of event) []) (sym e) (reads_body event may)

pub no_commands : (body : Body) → HasNoCommands body → IsBody body None
no_commands body none = λ event may e. none (commands_of event) (as_read body event may e)

pub no_event : (body : Body) (commands : List Command) → Reads body commands [] → IsEvent commands None → IsBody body None
no_event body commands r none = λ event may e.
    none event (numbers_of event may) (reads-once body commands (commands_of event) [] [] r (as_read body event may e)).0

module _ (body : Body) (commands : List Command) (found : Event) (r : Reads body commands []) (numbers : HasNumbers found) (is : commands ≡ commands_of found) where
  -- whatever event's body it is, that is the one that was found
  the_event : (event : Event) → MayStand event → body ≡ body_of event → event ≡ found
  the_event event may e = same_event event found (numbers_of event may) numbers (sym (reads-once body commands (commands_of event) [] [] r (as_read body event may e)).0 ∙ is)

  pub too_large : (MayStand found → ⊥) → IsBody body None
  too_large large = λ event may e. large (subst MayStand (the_event event may e) may)

  pub spelled_apart : body ≢ body_of found → IsBody body None
  spelled_apart apart = λ event may e. apart (e ∙ ap body_of (the_event event may e))
