use Rattle.std.proofs.Common.{◌≡◌, sym, subst}
use Rattle.std.proofs.lemmas.Result.{err_from_is_err_and}
use Rattle.sk_held.specs.Holding.{HandsWritten}
use Rattle.sk_held.proofs.Handing.{hands_all}
use Rattle.sk_held.proofs.held_conn.HeldConn.put.Goals as goal

pub returns-in_err-n-clause-hands : goal.returns-in_err-n-clause-hands
returns-in_err-n-clause-hands g c =
    let result = c.from_residual-in_err-n.result in
    let err = err_from_is_err_and result c.from_residual-in_err-n.ensures.1 in
    let old = c.gather.new.self in
    let still : old ≡ c.args.self.now = c.gather.ensures.same c.if-gather.false in
    let mid = c.release.new.self in
    let new = c.pass.new.self in
    let released = c.in_ok-release.ensures in
    let passed = c.in_err-n.ensures in
    subst (λ o. HandsWritten g.C.Sink g.W.Settler o c.args.bytes.now result new) still
    (subst (λ r. HandsWritten g.C.Sink g.W.Settler old c.args.bytes.now r new) (sym err.1)
    (hands_all g.C.Sink g.W.Settler old.conn mid.conn new.conn old.settler mid.settler new.settler old.gathered mid.gathered new.gathered
    released.hands released.all.0 released.settled passed.err passed.same.0 passed.same.1))
