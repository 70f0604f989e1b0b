use Rattle.std.proofs.Common.{◌≡◌, ◌+◌, ◌^◌, take}
use Rattle.sk_client.specs.Bulk.{request_length}
use Rattle.sk_client.proofs.bulk.slice_len.Given as goal

abbrev pub invariant-loop-n : goal.invariant-loop-n
invariant-loop-n l = l.room + request_length l.queue (take l.n l.text-items) ≡ 2 ^ 24
