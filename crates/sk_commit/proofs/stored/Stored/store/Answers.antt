use Rattle.std.proofs.Common.{◌≡◌, ◌∙◌, ◌++◌, List, Err, length, ap, subst, sym, arith}
use Rattle.std.proofs.lemmas.Bool.Decides.{nat_tests}
use Rattle.sk_log.specs.File.{Body, IsAt}
use Rattle.sk_commit.specs.Shared.{IsWaiting}
use Rattle.sk_commit.proofs.Storing.{comes_next, leaves_on, overflows, stored_before}
use Rattle.sk_commit.proofs.stored.Stored.store.Goals as goal

pub invariant_of-stored : goal.invariant_of-stored
invariant_of-stored g c =
    let parts = c.into_parts-next.result in
    let w : IsWaiting parts.0 parts.1 parts.2 = subst (λ (l : List Body). IsWaiting l parts.1 parts.2) (sym c.into_parts-next.ensures.prefix) c.into_parts-next.ensures.waits in
    let counted : parts.1 ≡ length c.self.inside.prefix = grind (arith, nat_tests, c.if-before-len.false, c.len.ensures) in
    let same = stored_before c.self.inside.prefix parts.0 c.longer-both.result parts.1 parts.2 w counted c.longer-both.ensures.this c.longer-both.ensures.that in
    let whole = λ (events : List Body). comes_next events c.self.inside.prefix parts.0 parts.1 parts.2 w same in
    let holds = subst g.I.LogId.holds (sym c.into_parts-next.ensures.prefix) c.requires in (
      λ events starts.
          subst (λ (bodies : List Body). IsAt bodies c.append_all.new.self (g.D.Disk.may_leave c.append_all.new.disk)) (whole events)
          (c.in_default.ensures.ok (events ++ c.self.inside.prefix) w.waiting (c.self.invariant.0 events starts) w.is),
      holds,
      omega (arith, c.self.invariant.2, c.append_all.ensures.later),
      λ events starts.
          leaves_on g.D.Disk.moment g.D.Disk.left_since g.I.LogId.holds g.I.LogId.since events c.self.inside.prefix parts.0 w.waiting c.self.invariant.1 holds (whole events)
          c.self.inside.disk c.append_all.new.disk (c.self.invariant.3 events starts)
          (c.append_all.ensures.any_moment (events ++ c.self.inside.prefix) w.waiting (c.self.invariant.0 events starts) w.is),
    )

-- the file would be too long
pub new-requires-in-Err-clause-full : goal.new-requires-in-Err-clause-full
new-requires-in-Err-clause-full g c is =
    let parts = c.into_parts-next.result in
    let w : IsWaiting parts.0 parts.1 parts.2 = subst (λ (l : List Body). IsWaiting l parts.1 parts.2) (sym c.into_parts-next.ensures.prefix) c.into_parts-next.ensures.waits in
    let counted : parts.1 ≡ length c.self.inside.prefix = grind (arith, nat_tests, c.if-before-len.false, c.len.ensures) in
    let same = stored_before c.self.inside.prefix parts.0 c.longer-both.result parts.1 parts.2 w counted c.longer-both.ensures.this c.longer-both.ensures.that in
    let full = c.append_all.ensures.full.0 (c.in-Err.is ∙ ap Err (c.halt_at.ensures.full is)) in
    overflows g.I.LogId.starts g.I.LogId.holds c.self.inside.prefix parts.0 parts.1 parts.2 c.self.inside.log (g.D.Disk.may_leave c.self.inside.disk) w same c.self.invariant.0
    (subst g.I.LogId.holds (sym c.into_parts-next.ensures.prefix) c.requires) full.1

-- a crash within the call that failed leaves what was stored, or that and all of the group
pub new-requires-in-Err-clause-left : goal.new-requires-in-Err-clause-left
new-requires-in-Err-clause-left g c events starts =
    let parts = c.into_parts-next.result in
    let w : IsWaiting parts.0 parts.1 parts.2 = subst (λ (l : List Body). IsWaiting l parts.1 parts.2) (sym c.into_parts-next.ensures.prefix) c.into_parts-next.ensures.waits in
    let counted : parts.1 ≡ length c.self.inside.prefix = grind (arith, nat_tests, c.if-before-len.false, c.len.ensures) in
    let same = stored_before c.self.inside.prefix parts.0 c.longer-both.result parts.1 parts.2 w counted c.longer-both.ensures.this c.longer-both.ensures.that in
    leaves_on g.D.Disk.moment g.D.Disk.left_since g.I.LogId.holds g.I.LogId.since events c.self.inside.prefix parts.0 w.waiting c.self.invariant.1
    (subst g.I.LogId.holds (sym c.into_parts-next.ensures.prefix) c.requires) (comes_next events c.self.inside.prefix parts.0 parts.1 parts.2 w same)
    c.self.inside.disk c.append_all.new.disk (c.self.invariant.3 events starts)
    (c.append_all.ensures.any_moment (events ++ c.self.inside.prefix) w.waiting (c.self.invariant.0 events starts) w.is)
