use Rattle.std.proofs.Common.{◌≡◌, None, subst, sym, true}
use Rattle.std.specs.Map.{keys_of}
use Rattle.sk_resp.specs.WordOrder.{text_cmp}
use Rattle.sk_undo.specs.Sorted.{is_sorted}
use Rattle.sk_undo.specs.Versions.{Versions}
use Rattle.sk_leases.specs.Locks.{Locks}
use Rattle.sk_leases.proofs.KeptLocks.{locks_without}
use Rattle.sk_leases.proofs.locks.Locks.remove.Goals as goal

pub invariant_of-self : goal.invariant_of-self
invariant_of-self c =
    let closed = subst (λ (s : Versions Locks). s.saved ≡ None) (sym c.self.view_is) c.requires in
    let sorted = subst (λ (s : Versions Locks). is_sorted text_cmp (keys_of s.current) ≡ true) (sym c.self.view_is) c.deadline_of.ensures.once in
    rw (c.take.ensures.list) (locks_without c.self.inside.expiries c.remove.new.self c.self.inside.held.list c.args.digest c.in-Some.deadline closed sorted c.remove.ensures.updates.0 c.self.invariant)
