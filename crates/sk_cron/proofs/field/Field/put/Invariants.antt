use Rattle.std.proofs.Common.{◌≡◌, ◌<◌, ◌≤◌, ◌++◌, ◌∷◌, [], List, ℕ, get_or, false, ◌||◌, ◌+◌, ◌-◌, ◌*◌, length}
use Rattle.sk_cron.specs.Read.{Holds}
use Rattle.sk_cron.specs.Times.{has, step_of}
use Rattle.sk_cron.specs.declared.bounds.Bounds.{Bounds}
use Rattle.sk_cron.specs.declared.part.Part.{Part}
use Rattle.sk_cron.proofs.Fields.{Marked}
use Rattle.sk_cron.proofs.field.Field.put.Given as goal

abbrev pub invariant-loop-number : goal.invariant-loop-number
invariant-loop-number l = Marked l.fn.self.numbers l.fn.bounds l.fn.part l.number l.self.numbers × (length l.self.numbers ≡ 60) × (l.self.is_empty ≡ l.fn.self.is_empty) × (l.self.is_restricted ≡ l.fn.self.is_restricted)
