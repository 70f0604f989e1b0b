use Rattle.std.proofs.Common.{take}
use Rattle.std.specs.List.{AllZip}
use Rattle.sk_line.specs.Work.{IsQueue}
use Rattle.sk_line.proofs.queues.queues.Given as goal

abbrev pub invariant-loop-word : goal.invariant-loop-word
invariant-loop-word l = AllZip (λ word queue. IsQueue word.now queue) (take l.word-index l.words) l.queues.items
