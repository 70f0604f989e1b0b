use Rattle.std.proofs.Common.{rules, ◌≡◌, ◌<◌, ◌≤◌, ◌++◌, ◌∷◌, [], List, MatchOption, false, length, true, ℕ, ◌+◌, ◌-◌, ◌*◌, ◌/◌, ◌%◌, Bool, nat_eq, nat_lt, slice_index_or, slice_set, bit_and, bit_or, Fits, w8, w32, w64, Bor, MutBor}
use Rattle.sk_cron.specs.Read.{Agrees, AllHold, start}
use Rattle.sk_cron.specs.Reading.{Machine, finish, go}
use Rattle.sk_cron.specs.Times.{step_of}
use Rattle.sk_cron.specs.declared.part.Part.{Part}
use Rattle.std.proofs.Common.{subst}
use Rattle.sk_cron.specs.Read.{Holds, no_field}
use Rattle.sk_cron.proofs.Fields.{all_added}
use Rattle.sk_cron.proofs.reader.Reader.add.Goals as goal

-- src/reader.rt:35:5
pub returns-clause-fields : goal.returns-clause-fields
returns-clause-fields c = λ done parts here h. all_added done parts _ _ _ _ here (search rules) h
    (subst (λ b. Holds b parts (slice_index_or c.args.self.now.fields c.args.self.now.at no_field) → Holds b (parts ++ c.args.part ∷ []) c.add.new.self) c.bounds_of.ensures (c.add.ensures parts))
