use Rattle.std.proofs.Common.{◌≡◌, ◌≤◌, ◌*◌, ◌+◌, ◌^◌, drop}
use Rattle.sk_model.specs.Room.{bytes_of}
use Rattle.sk_store.proofs.room.bytes_of.Given as goal

abbrev pub invariant-loop-text : goal.invariant-loop-text
invariant-loop-text l = record {
  sum : l.bytes + bytes_of (drop l.text-index l.texts) ≡ bytes_of l.texts;
  small : l.bytes ≤ l.text-index * 2 ^ 64;
}
