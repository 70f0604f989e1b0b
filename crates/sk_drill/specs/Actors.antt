-- What a drawn word says: who acts in a turn, and which queue is meant.
use Rattle.std.specs.Prelude.{ℕ, ◌-◌, ◌==◌, nat_lt, nat_le, if◌then◌else◌, codes}
use Rattle.sk_resp.specs.Spelling.{Bytes}
use Rattle.sk_drill.specs.declared.actor.Actor.{Actor}
use Rattle.sk_drill.specs.declared.actor.Actor.TheVariants.{Client, Poller, Crash, Worker}

-- 0 and 1 are a client, 2 is the poller, 3 a crash, and 4 to 7 are the workers at the seats 1 to 4.
unfoldable pub actor_of : ℕ → Actor
actor_of n = if nat_lt n 2 then Client else (if n == 2 then Poller else (if n == 3 then Crash else Worker (n - 3)))

-- 0 to 4 are the queue `critical`, 5 and 6 `default`, and 7 is `low`.
unfoldable pub queue_of : ℕ → Bytes
queue_of n = if nat_lt n 5 then codes "critical" else (if nat_lt n 7 then codes "default" else codes "low")

-- Two processes have two seats each.
unfoldable pub process_of : ℕ → Bytes
process_of seat = if nat_le seat 2 then codes "w:1:a" else codes "w:2:b"
