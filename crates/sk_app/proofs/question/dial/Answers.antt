use Rattle.std.proofs.Common.{Err, ap, ◌∙◌}
use Rattle.sk_app.proofs.Dialogues.{no_connection, spoken}
use Rattle.sk_app.proofs.question.dial.Goals as goal

pub returns-in_err-conn-clause-told : goal.returns-in_err-conn-clause-told
returns-in_err-conn-clause-told g c = no_connection _ _ _ c.in_err-conn.field-0.0 c.from_residual.result c.from_residual.ensures.1 (λ e. c.connect.ensures.cause (c.in_err-conn.was ∙ ap Err e))

pub returns-clause-told : goal.returns-clause-told
returns-clause-told g c = spoken _ (record { dialled = g.N.Door.dialled c.connect.new.self; kept = g.N.Door.kept c.connect.new.self; faults = g.N.Door.door_faults c.connect.new.self }) _ _
    c.in_ok-conn.conn c.into_conn.result c.new-link.result c.ask-outcome.new.link c.ask-outcome.result
    c.in_ok-conn.ensures.dialled c.in_ok-conn.ensures.room c.new-link.ensures c.ask-outcome.ensures.told c.into_conn.ensures c.leave.ensures.kept c.leave.ensures.told.1
