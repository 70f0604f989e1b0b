use Rattle.std.proofs.Common.{◌≡◌, ◌≤◌, ◌<◌, ◌-◌, ◌+◌, ◌%◌, ◌∙◌, ℕ, ℤ, Some, None, arith, refl, subst, sym, to_z, of_z, w32}
use Rattle.std.proofs.lemmas.Int.{to_z-of_z}
use Rattle.sk_cron.specs.Slot.{IsLastSlot}
use Rattle.sk_cron.proofs.Slots.{IsAfterAll, no_match, none_below, none_recent, one_back}
use Rattle.sk_cron.proofs.cron.Cron.slot_before.Goals as goal

-- src/slot.rt:27:17
pub returns-then-matches : goal.returns-then-matches
returns-then-matches c =
    let z : to_z w32 (of_z w32 c.args.offset) ≡ c.args.offset = to_z-of_z w32 c.args.offset c.ranges.offset in
    let inv = c.back.invariant in
    subst (λ o. IsLastSlot c.args.self.now o c.args.now (Some c.back.slot)) z (
      record {
        start = inv.2;
        past = inv.1;
        recent = omega (arith, c.back-test.true, inv.1);
        civil = c.civil_at.result;
        at = c.civil_at.ensures;
        fits = sym c.matches.ensures ∙ c.if-matches.true;
      },
      inv.0,
    )

-- src/slot.rt:30:17
pub returns-then-slot-lt-MINUTE : goal.returns-then-slot-lt-MINUTE
returns-then-slot-lt-MINUTE c =
    let z : to_z w32 (of_z w32 c.args.offset) ≡ c.args.offset = to_z-of_z w32 c.args.offset c.ranges.offset in
    let inv = c.back.invariant in
    subst (λ o. IsLastSlot c.args.self.now o c.args.now None) z
    (none_below _ _ _ _ inv.0 inv.2 c.if-slot-lt-MINUTE.true (no_match _ _ _ _ _ c.civil_at.ensures (sym c.matches.ensures ∙ c.if-matches.false)))

-- src/slot.rt:25:9
pub back-preserved : goal.back-preserved
back-preserved c =
    let inv = c.back.invariant in (
      one_back _ _ _ _ inv.0 inv.2 (omega (arith, c.if-slot-lt-MINUTE.false)) (no_match _ _ _ _ _ c.civil_at.ensures (sym c.matches.ensures ∙ c.if-matches.false)),
      omega (arith, inv.1),
      omega (arith, inv.2, c.if-slot-lt-MINUTE.false),
    )

-- src/slot.rt:19:5
pub returns : goal.returns
returns c =
    let z : to_z w32 (of_z w32 c.args.offset) ≡ c.args.offset = to_z-of_z w32 c.args.offset c.ranges.offset in
    let inv = c.back.invariant in
    subst (λ o. IsLastSlot c.args.self.now o c.args.now None) z (none_recent _ _ _ _ inv.0 (omega (arith, c.back-test.false, inv.1)))
