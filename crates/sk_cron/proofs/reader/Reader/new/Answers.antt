use Rattle.std.proofs.Common.{rules, ◌≡◌, ◌<◌, ◌≤◌, ◌++◌, ◌∷◌, [], List, MatchOption, false, length, true, ℕ, ◌+◌, ◌-◌, ◌*◌, ◌/◌, ◌%◌, Bool, nat_eq, nat_lt, slice_index_or, slice_set, bit_and, bit_or, Fits, w8, w32, w64, Bor, MutBor}
use Rattle.sk_cron.specs.Read.{Agrees, AllHold, start}
use Rattle.sk_cron.specs.Reading.{Machine, finish, go}
use Rattle.sk_cron.specs.Times.{step_of}
use Rattle.sk_cron.specs.declared.part.Part.{Part}
use Rattle.std.proofs.Common.{refl}
use Rattle.sk_cron.proofs.Fields.{all_empty}
use Rattle.sk_cron.proofs.reader.Reader.new.Goals as goal

-- src/reader.rt:24:5
pub returns : goal.returns
returns c = record {
  within = search rules;
  bounds = refl;
  done = refl;
  state = refl;
  fields = all_empty c.new.result c.new.ensures;
}
