use Rattle.std.proofs.Common.{◌≡◌, ◌++◌, map}
use Rattle.std.specs.Map.{keys_of}
use Rattle.sk_resp.specs.Reply.{wire}
use Rattle.sk_resp.specs.Spelling.{bulk}
use Rattle.sk_value.proofs.members.copies.Given as goal

abbrev pub invariant-loop-text : goal.invariant-loop-text
invariant-loop-text g l = map wire l.replies.items ++ map bulk l.text-iterator ≡ map bulk (keys_of l.texts.entries)
