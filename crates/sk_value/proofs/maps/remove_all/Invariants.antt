use Rattle.std.proofs.Common.{◌≡◌, ◌≤◌, drop, length}
use Rattle.sk_value.specs.Maps.{without_texts}
use Rattle.sk_value.proofs.maps.remove_all.Given as goal

abbrev pub invariant-loop-text : goal.invariant-loop-text
invariant-loop-text g l = record {
  rest : without_texts (drop l.text-index l.texts) l.map.entries ≡ without_texts l.texts l.initial.map.entries;
  fewer : length l.map.entries ≤ length l.initial.map.entries;
}
