use Rattle.std.proofs.Common.{◌≡◌, drop}
use Rattle.sk_payload.specs.Json.{opens_object}
use Rattle.sk_payload.proofs.read.opens_object.Given as goal

abbrev pub invariant-loop-byte : goal.invariant-loop-byte
invariant-loop-byte l = opens_object (drop l.byte-index l.text) ≡ opens_object l.text
