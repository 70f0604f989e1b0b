use Rattle.std.proofs.Common.{◌≡◌, true, sym, ◌∙◌}
use Rattle.std.proofs.lemmas.Slice.Eq.{slice_eq-Decides}
use Rattle.std.proofs.lemmas.Bool.Decides.{Decides-eqb}
use Rattle.sk_aof.specs.Read.{meant}
use Rattle.sk_aof.proofs.Bodies.{no_commands, no_event, spelled_apart, too_large}
use Rattle.sk_aof.proofs.log_event.read_event.Goals as goal

pub returns-in_default : goal.returns-in_default
returns-in_default c = no_commands c.args.body.now (rw c.in_default.is at c.in_ok-commands.ensures)

pub returns-in_default-event_of : goal.returns-in_default-event_of
returns-in_default-event_of c = no_event c.args.body.now c.in-Some.commands.items (rw c.in-Some.is at c.in_ok-commands.ensures) c.in_default-event_of.ensures

pub returns-then-not-may_stand : goal.returns-then-not-may_stand
returns-then-not-may_stand c =
    let found = c.in-Some-event_of.ensures in
    too_large c.args.body.now c.in-Some.commands.items (meant c.in-Some-event_of.event) (rw c.in-Some.is at c.in_ok-commands.ensures) found.0 found.1 (λ may.
    let stands : c.may_stand.result ≡ true = (c.may_stand.ensures found.0).1 may in
    cc (stands, c.if-not-may_stand.true))

pub returns-else-eq : goal.returns-else-eq
returns-else-eq c =
    let found = c.in-Some-event_of.ensures in
    spelled_apart c.args.body.now c.in-Some.commands.items (meant c.in-Some-event_of.event) (rw c.in-Some.is at c.in_ok-commands.ensures) found.0 found.1 (λ e.
    let same : c.as_slice.result.now ≡ c.args.body.now = c.as_slice.ensures.value ∙ c.in_ok-spelled.ensures ∙ sym e in
    let equal : c.eq.result ≡ true = (slice_eq-Decides Decides-eqb c.as_slice.result.now c.args.body.now c.eq.result c.eq.ensures).1 same in
    cc (equal, c.if-eq.false))
