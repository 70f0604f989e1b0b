use Rattle.std.proofs.Common.{◌≡◌, ◌++◌}
use Rattle.std.specs.Vec.Iter.{into_iter_items}
use Rattle.sk_payload.proofs.job_texts.job_texts_of.Given as goal

-- those made so far, and the texts that are left
abbrev pub invariant-loop-text : goal.invariant-loop-text
invariant-loop-text l = l.jobs.items ++ into_iter_items l.text-iterator ≡ l.fn.texts.items
