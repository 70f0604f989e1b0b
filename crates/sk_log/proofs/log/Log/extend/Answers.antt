use Rattle.std.proofs.Common.{◌≡◌, arith}
use Rattle.sk_log.specs.File.{IsAt, place}
use Rattle.sk_log.proofs.Writing.{length-more}
use Rattle.sk_log.proofs.log.Log.extend.Goals as goal

-- the closed gate stands behind the records
pub returns-clause-ok : goal.returns-clause-ok
returns-clause-ok g c = λ events group is_at stages.
    let gate_is : c.self.inside.gate ≡ place events = cc (c.self.view_is, is_at.gate_is) in
    let here : IsAt events c.self.inside.gate (g.D.Disk.may_leave c.args.disk.now) = record { gate_is = gate_is; stood = is_at.stood } in
    record { gate_is = omega (arith, gate_is, length-more events group c.args.bytes.now stages); stood = c.in-Ok.ensures.added events group here stages }
