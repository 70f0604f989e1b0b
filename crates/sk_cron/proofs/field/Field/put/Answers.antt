use Rattle.std.proofs.Common.{rules, ◌≡◌, ◌<◌, ◌≤◌, ◌++◌, ◌∷◌, [], List, ℕ, get_or, false, ◌||◌, ◌+◌, ◌-◌, ◌*◌, length, ◌/◌, ◌%◌, Bool, true, nat_eq, nat_lt, slice_set, bit_and, bit_or, Fits, w8, w32, w64, Bor, MutBor}
use Rattle.sk_cron.specs.Read.{Holds}
use Rattle.sk_cron.specs.Times.{has, step_of}
use Rattle.sk_cron.specs.declared.bounds.Bounds.{Bounds}
use Rattle.sk_cron.specs.declared.part.Part.{Part}
use Rattle.std.proofs.Common.{refl, arith}
use Rattle.std.proofs.lemmas.Grind.{common_steps}
use Rattle.sk_cron.proofs.Fields.{marked_none, marked_next, marked_all}
use Rattle.sk_cron.proofs.field.Field.put.Goals as goal

-- src/field.rt:47:9
pub loop-number-init : goal.loop-number-init
loop-number-init c = (marked_none _ _ _, search rules, refl, refl)

-- src/field.rt:47:9
pub loop-number-preserved : goal.loop-number-preserved
loop-number-preserved c =
    let inv = c.loop-number.invariant in
    let within : c.loop-number.number < length c.loop-number.self.numbers = grind (arith, inv.1, c.loop-number-test.true) in (
      rw c.has.ensures (marked_next _ _ _ _ _ false inv.0 within),
      grind (arith, common_steps, inv.1),
      inv.2,
      inv.3,
    )

-- src/field.rt:42:5
pub returns-clause-numbers : goal.returns-clause-numbers
returns-clause-numbers c = marked_all _ _ _ _ _ c.loop-number.invariant.0 c.loop-number-test.false

-- src/field.rt:42:5
pub returns-clause-others : goal.returns-clause-others
returns-clause-others c = (c.loop-number.invariant.2, c.loop-number.invariant.3)
