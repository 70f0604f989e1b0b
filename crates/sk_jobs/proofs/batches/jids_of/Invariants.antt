use Rattle.std.proofs.Common.{◌≡◌, ◌++◌, drop}
use Rattle.sk_model.specs.Batches.{jids_of}
use Rattle.sk_jobs.proofs.batches.jids_of.Given as goal

-- those so far, and those of the payloads that are left
abbrev pub invariant-loop-payload : goal.invariant-loop-payload
invariant-loop-payload l = l.jids.items ++ jids_of (drop l.payload-index l.payloads) ≡ jids_of l.payloads
