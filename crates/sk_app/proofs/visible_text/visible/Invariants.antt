use Rattle.std.proofs.Common.{◌≡◌, take}
use Rattle.std.specs.List.{flat_map}
use Rattle.sk_app.specs.Visible.{shown}
use Rattle.sk_app.proofs.visible_text.visible.Given as goal

abbrev pub invariant-loop-byte : goal.invariant-loop-byte
invariant-loop-byte l = l.text.items ≡ flat_map shown (take l.byte-index l.fn.bytes)
