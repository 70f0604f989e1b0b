use Rattle.std.proofs.Common.{rules, ◌≡◌, Err}
use Rattle.sk_edge.specs.declared.door.DoorFault.TheVariants as door
use Rattle.sk_relay.proofs.Runs.{carried, nobody}
use Rattle.sk_relay.proofs.relay.RelayJob.run.Goals as goal

pub returns-in-Err-Failed : goal.returns-in-Err-Failed
returns-in-Err-Failed g c =
    let failed : c.connect.result ≡ Err door.Failed = search rules in
    nobody _ _ _ _ c.unreachable_run.result (c.connect.ensures.cause failed) c.unreachable_run.ensures

pub returns : goal.returns
returns g c = carried _ _ _
    (record { dialled = g.N.Door.dialled c.connect.new.self; kept = g.N.Door.kept c.connect.new.self; faults = g.N.Door.door_faults c.connect.new.self })
    _ c.in-Ok.conn c.into_conn.result c.new-link.result c.call-came.new.self _ c.call-came.result c.outcome_of.result
    c.in-Ok.ensures.dialled c.in-Ok.ensures.room c.new-link.ensures c.in_ok-words.ensures c.call-came.ensures.carried c.into_conn.ensures
    c.leave.ensures.kept c.leave.ensures.told.1 c.outcome_of.ensures
