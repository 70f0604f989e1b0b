use Rattle.std.proofs.Common.{◌≡◌, All, codes}
use Rattle.sk_row_calls.proofs.transcripts.notes.Given as goal

abbrev pub invariant-loop-n : goal.invariant-loop-n
invariant-loop-n l = All (λ d. d.queue ≡ codes "default") l.drafts.items
