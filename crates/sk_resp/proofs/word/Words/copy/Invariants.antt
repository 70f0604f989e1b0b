use Rattle.std.proofs.Common.{◌≡◌, take}
use Rattle.sk_resp.proofs.word.Words.copy.Given as goal

-- The words so far were copied.
abbrev pub invariant-loop-word : goal.invariant-loop-word
invariant-loop-word l = l.words.items ≡ take l.word-index l.word-items
