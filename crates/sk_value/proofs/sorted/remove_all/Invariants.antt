use Rattle.std.proofs.Common.{◌≡◌, None, drop}
use Rattle.sk_value.specs.Sorted.{all_without}
use Rattle.sk_value.proofs.sorted.remove_all.Given as goal

abbrev pub invariant-loop-member : goal.invariant-loop-member
invariant-loop-member l = record {
  rest : all_without (drop l.member-index l.members) l.set.current ≡ all_without l.members l.initial.set.current;
  closed : l.set.saved ≡ None;
}
