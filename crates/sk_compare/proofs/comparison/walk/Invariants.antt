use Rattle.std.proofs.Common.{◌≡◌, length}
use Rattle.sk_compare.specs.Alike.{HasMet, met_at, told_at}
use Rattle.sk_compare.proofs.comparison.walk.Given as goal

abbrev pub invariant-loop-entry : goal.invariant-loop-entry
invariant-loop-entry l = record {
  same : length l.met ≡ length l.told;
  has_met : HasMet (told_at l.told) (met_at l.met) l.journal l.entry-iterator;
}
