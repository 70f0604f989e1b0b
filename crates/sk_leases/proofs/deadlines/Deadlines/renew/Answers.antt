use Rattle.std.proofs.Common.{◌≡◌, ◌∙◌, sym, subst, true}
use Rattle.sk_resp.specs.Spelling.{Bytes}
use Rattle.sk_leases.specs.Index.{is_expiry_in}
use Rattle.sk_leases.proofs.Kept.{both_more, covers_more, covers_put, passed_more}
use Rattle.sk_leases.proofs.deadlines.Deadlines.renew.Goals as goal

pub invariant_of-self-in_err-add_expiry : goal.invariant_of-self-in_err-add_expiry
invariant_of-self-in_err-add_expiry c = rw (c.reserve.ensures.list) (both_more c.self.inside.expiries c.add_expiry.new.expiries c.self.inside.entries.list c.add_expiry.ensures.more c.self.invariant)

pub drop_named-requires-clause-covered : goal.drop_named-requires-clause-covered
drop_named-requires-clause-covered c = rw (c.reserve.ensures.list) (covers_more c.self.inside.expiries c.add_expiry.new.expiries c.self.inside.entries.list.current c.add_expiry.ensures.more c.self.invariant.current)

pub invariant_of-self-2 : goal.invariant_of-self-2
invariant_of-self-2 c =
    let has : is_expiry_in c.add_expiry.new.expiries (c.in_ok-lease.lease, c.args.deadline) ≡ true = subst (λ (name : Bytes). is_expiry_in c.add_expiry.new.expiries (name, c.args.deadline) ≡ true) (c.in_ok-word.ensures ∙ sym c.in_ok-lease.ensures) c.in_ok-add_expiry.ensures.added in
    let covered = covers_put c.add_expiry.new.expiries (c.in_ok-lease.lease, c.args.deadline) c.drop_named.new.entries.list.current c.drop_named.ensures.covered has in
    let saved = passed_more c.self.inside.expiries c.add_expiry.new.expiries c.self.inside.entries.list.saved c.add_expiry.ensures.more c.self.invariant.saved in
    rw (c.put.ensures.list) (record {
      current = covered;
      saved = rw (c.drop_named.ensures.list, c.reserve.ensures.list) saved;
    })
