use Rattle.std.proofs.Common.{take}
use Rattle.sk_cron.proofs.Progress.{IsAt}
use Rattle.sk_cron.proofs.cron.read.Given as goal

abbrev pub invariant-loop-place : goal.invariant-loop-place
invariant-loop-place l = IsAt (take l.place l.text) l.reader
