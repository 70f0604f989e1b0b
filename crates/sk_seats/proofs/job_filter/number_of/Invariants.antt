use Rattle.std.proofs.Common.{◌≡◌, drop}
use Rattle.sk_seats.specs.JobFilter.{number_from}
use Rattle.sk_seats.proofs.job_filter.number_of.Given as goal

-- the bytes that are left lead to the same number
abbrev pub invariant-loop-byte : goal.invariant-loop-byte
invariant-loop-byte l = number_from l.number (drop l.byte-index l.jid) ≡ number_from 0 l.jid
