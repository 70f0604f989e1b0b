use Rattle.std.proofs.Common.{◌≡◌, subst, true}
use Rattle.sk_resp.specs.Spelling.{Bytes}
use Rattle.sk_leases.specs.Index.{is_expiry_in}
use Rattle.sk_leases.proofs.KeptLocks.{locks_more, locks_with}
use Rattle.sk_leases.proofs.locks.Locks.put.Goals as goal

pub invariant_of-self-in_err-add_expiry : goal.invariant_of-self-in_err-add_expiry
invariant_of-self-in_err-add_expiry c = rw (c.reserve.ensures.list) (locks_more c.self.inside.expiries c.add_expiry.new.expiries c.self.inside.held.list c.add_expiry.ensures.more c.self.invariant)

pub invariant_of-self-2 : goal.invariant_of-self-2
invariant_of-self-2 c =
    let has : is_expiry_in c.add_expiry.new.expiries (c.args.digest, c.args.deadline) ≡ true = subst (λ (digest : Bytes). is_expiry_in c.add_expiry.new.expiries (digest, c.args.deadline) ≡ true) c.in_ok-copy.ensures c.in_ok-add_expiry.ensures.added in
    rw (c.put.ensures.list, c.reserve.ensures.list) (locks_with c.self.inside.expiries c.add_expiry.new.expiries c.self.inside.held.list c.args.digest (record { jid = c.args.jid; deadline = c.args.deadline }) c.add_expiry.ensures.more has c.self.invariant)
