use Rattle.std.proofs.Common.{◌≡◌, ◌++◌, take}
use Rattle.sk_resp.specs.Request.{bulks}
use Rattle.sk_resp.proofs.request.write.write_request.Given as goal

-- the words so far were written
abbrev pub invariant-loop-word : goal.invariant-loop-word
invariant-loop-word l = l.out.items ≡ l.initial.out.items ++ bulks (take l.word-index l.word-items)
