use Rattle.std.proofs.Common.{◌≡◌, ◌++◌, map}
use Rattle.sk_resp.specs.Reply.{wire}
use Rattle.sk_resp.specs.Spelling.{bulk}
use Rattle.sk_value.specs.Hashes.{flat}
use Rattle.sk_value.proofs.fields.Fields.copies.Given as goal

abbrev pub invariant-loop-field : goal.invariant-loop-field
invariant-loop-field l = map wire l.replies.items ++ map bulk (flat l.field-iterator) ≡ map bulk (flat l.self)
