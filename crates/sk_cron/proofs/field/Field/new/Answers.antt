use Rattle.std.proofs.Common.{rules, ◌≡◌, ◌<◌, ◌≤◌, ◌++◌, ◌∷◌, [], List, ℕ, get_or, false, ◌||◌, ◌+◌, ◌-◌, ◌*◌, length, ◌/◌, ◌%◌, Bool, true, nat_eq, nat_lt, slice_set, bit_and, bit_or, Fits, w8, w32, w64, Bor, MutBor}
use Rattle.sk_cron.specs.Read.{Holds}
use Rattle.sk_cron.specs.Times.{has, step_of}
use Rattle.sk_cron.specs.declared.bounds.Bounds.{Bounds}
use Rattle.sk_cron.specs.declared.part.Part.{Part}
use Rattle.std.proofs.Common.{refl}
use Rattle.std.proofs.lemmas.List.{get_or-replicate}
use Rattle.sk_cron.proofs.field.Field.new.Goals as goal

-- src/field.rt:21:5
pub returns : goal.returns
returns c = λ b. record { numbers = λ n lt. get_or-replicate 60 n false false lt; empty = refl; restricted = refl }
