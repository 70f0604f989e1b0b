use Rattle.std.proofs.Common.{◌∙◌, sym, refl}
use Rattle.sk_leases.specs.LockIndex.{leases_of}
use Rattle.sk_leases.proofs.Kept.{covers_more, covers_taken}
use Rattle.sk_leases.proofs.KeptLocks.{locks_clear, steps_of}
use Rattle.sk_leases.proofs.locks.purge.Goals as goal

pub loop-digest-smaller : goal.loop-digest-smaller
loop-digest-smaller c = c.in-Some.ensures.shorter

pub loop-digest-preserved : goal.loop-digest-preserved
loop-digest-preserved c =
    let rest = c.take_over.ensures.rest in
    record {
      closed = c.take_over.ensures.closed;
      standing = rest.standing ∙ c.loop-digest.invariant.standing;
      covered = covers_taken c.in-Some.digest c.args.now c.loop-digest.expiries c.next_expired.new.expiries (leases_of c.loop-digest.held.list.current) (leases_of c.take_over.new.held.list.current) c.loop-digest.invariant.covered rest.leases c.in-Some.ensures.taken;
    }

pub returns-clause-list : goal.returns-clause-list
returns-clause-list c =
    let ls = c.loop-digest.held.list.current in
    let covered = covers_more c.loop-digest.expiries c.next_expired.new.expiries (leases_of ls) (c.in_default.ensures.same refl) c.loop-digest.invariant.covered in
    steps_of c.loop-digest.held.list c.args.held.now.list _ (sym (locks_clear c.args.now c.next_expired.new.expiries ls (c.in_default.ensures.clear refl) covered) ∙ c.loop-digest.invariant.standing)
    (c.loop-digest.invariant.closed ∙ sym c.requires.closed)

pub returns-clause-covered : goal.returns-clause-covered
returns-clause-covered c = covers_more c.loop-digest.expiries c.next_expired.new.expiries (leases_of c.loop-digest.held.list.current) (c.in_default.ensures.same refl) c.loop-digest.invariant.covered
