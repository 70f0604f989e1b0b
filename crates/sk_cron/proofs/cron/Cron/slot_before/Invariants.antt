use Rattle.std.proofs.Common.{◌≡◌, ◌≤◌, ◌%◌}
use Rattle.sk_cron.proofs.Slots.{IsAfterAll}
use Rattle.sk_cron.proofs.cron.Cron.slot_before.Given as goal

abbrev pub invariant-back : goal.invariant-back
invariant-back l = IsAfterAll l.self l.offset l.now l.slot × (l.slot ≤ l.now) × (l.slot % 60_000 ≡ 0)

abbrev pub decreases-back : goal.decreases-back
decreases-back l = l.slot
