use Rattle.std.proofs.Common.{◌≡◌, ◌∙◌, Some, option_map, sym, ap}
use Rattle.sk_payload.specs.Head.{jid_of}
use Rattle.sk_seats.specs.Held.{is_held}
use Rattle.sk_seats.specs.Phases.{some_has}
use Rattle.sk_seats.proofs.Counting.{not_in_hands}
use Rattle.sk_seats.proofs.seats.Seats.have.Goals as goal

pub returns-then-not-may_have : goal.returns-then-not-may_have
returns-then-not-may_have c =
    let jid = c.in-Some.jid.now in
    let named : jid_of c.args.payload.now ≡ Some jid = sym c.jid.ensures ∙ ap (option_map (λ j. j.now)) c.in-Some.is in
    let free = not_in_hands jid c.self.inside.phases.entries c.self.inside.in_hands c.self.invariant.counted (sym c.may_have.ensures ∙ c.if-not-may_have.true) in
    sym (ap (is_held c.args.self.now) named ∙ ap (some_has jid) (sym c.self.view_is) ∙ free)
