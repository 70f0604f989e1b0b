use Rattle.sk_compare.specs.Alike.{AllAnswered}
use Rattle.sk_compare.proofs.comparison.is_answered.Given as goal

-- What is left to be seen is enough.
abbrev pub invariant-loop-entry : goal.invariant-loop-entry
invariant-loop-entry l = AllAnswered l.entry-iterator → AllAnswered l.journal
