use Rattle.std.proofs.Common.{take}
use Rattle.std.specs.List.{AllZip}
use Rattle.sk_line.specs.Work.{IsLoop}
use Rattle.sk_line.proofs.cron_words.loops.Given as goal

abbrev pub invariant-loop-word : goal.invariant-loop-word
invariant-loop-word l = AllZip (λ word job. IsLoop word.now job) (take l.word-index l.words) l.loops.items
