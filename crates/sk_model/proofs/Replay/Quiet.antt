-- A command that only reads changes nothing, nor does SHUTDOWN.
use Rattle.std.proofs.Common.{◌≡◌, refl, ℕ, Bool, true, false, cond}
use Rattle.std.specs.Prelude.{Option, Some, None}
use Rattle.sk_resp.specs.declared.refusal.Refusal.TheVariants.{OutOfTurn}
use Rattle.sk_resp.specs.declared.reply.Reply.{Reply}
use Rattle.sk_cmd.specs.declared.command.Command.TheVariants as command
use Rattle.sk_cmd.specs.declared.command.PlainCommand.{PlainCommand}
use Rattle.sk_cmd.specs.declared.command.PlainCommand.TheVariants as plain
use Rattle.sk_seats.specs.declared.phase.Phase.{Phase}
use Rattle.sk_model.specs.World.{World}
use Rattle.sk_model.specs.Change.{perform}
use Rattle.sk_model.specs.Outcome.{Outcome, says, refuses}
use Rattle.sk_model.specs.Step.{by_seat}
use Rattle.sk_cmd.specs.ReadOnly.{is_quiet}

-- an answer or a refusal
silent : (w : World) (b : Bool) (reply : Reply) → perform w (cond b (says reply) (refuses OutOfTurn)).changes ≡ w
silent w true reply = refl
silent w false reply = refl

pub quiet_by_seat : (w : World) (seat : ℕ) (phase : Phase) (c : PlainCommand) → is_quiet (command.Plain c) ≡ true → perform w (by_seat w seat phase c).changes ≡ w
quiet_by_seat w seat phase (plain.Ping None) q = silent w _ _
quiet_by_seat w seat phase (plain.Ping (Some a)) q = silent w _ _
quiet_by_seat w seat phase (plain.Echo a) q = silent w _ _
quiet_by_seat w seat phase plain.Quit q = silent w _ _
quiet_by_seat w seat phase plain.Shutdown q = silent w _ _
quiet_by_seat w seat phase plain.Flushall q = absurd (cc q)
quiet_by_seat w seat phase (plain.Get a) q = silent w _ _
quiet_by_seat w seat phase (plain.Set a b c) q = absurd (cc q)
quiet_by_seat w seat phase (plain.Del a) q = absurd (cc q)
quiet_by_seat w seat phase (plain.Exists a) q = silent w _ _
quiet_by_seat w seat phase (plain.KindOf a) q = silent w _ _
quiet_by_seat w seat phase (plain.Incrby a b) q = absurd (cc q)
quiet_by_seat w seat phase (plain.Pexpire a b) q = absurd (cc q)
quiet_by_seat w seat phase (plain.Give a b) q = absurd (cc q)
quiet_by_seat w seat phase (plain.Pttl a) q = silent w _ _
quiet_by_seat w seat phase (plain.Lpush a b) q = absurd (cc q)
quiet_by_seat w seat phase (plain.Rpush a b) q = absurd (cc q)
quiet_by_seat w seat phase (plain.Lrange a b c) q = silent w _ _
quiet_by_seat w seat phase (plain.Llen a) q = silent w _ _
quiet_by_seat w seat phase (plain.Lrem a b c) q = absurd (cc q)
quiet_by_seat w seat phase (plain.Lmove a b c d) q = absurd (cc q)
quiet_by_seat w seat phase (plain.Sadd a b) q = absurd (cc q)
quiet_by_seat w seat phase (plain.Srem a b) q = absurd (cc q)
quiet_by_seat w seat phase (plain.Smembers a) q = silent w _ _
quiet_by_seat w seat phase (plain.Scard a) q = silent w _ _
quiet_by_seat w seat phase (plain.Sismember a b) q = silent w _ _
quiet_by_seat w seat phase (plain.Hset a b) q = absurd (cc q)
quiet_by_seat w seat phase (plain.Hget a b) q = silent w _ _
quiet_by_seat w seat phase (plain.Hlen a) q = silent w _ _
quiet_by_seat w seat phase (plain.Hdel a b) q = absurd (cc q)
quiet_by_seat w seat phase (plain.Hgetall a) q = silent w _ _
quiet_by_seat w seat phase (plain.Zadd a b) q = absurd (cc q)
quiet_by_seat w seat phase (plain.Zrem a b) q = absurd (cc q)
quiet_by_seat w seat phase (plain.Zcard a) q = silent w _ _
quiet_by_seat w seat phase (plain.Zscore a b) q = silent w _ _
quiet_by_seat w seat phase (plain.Zrange a b c d) q = silent w _ _
quiet_by_seat w seat phase (plain.Zrangebyscore a b c d) q = silent w _ _
quiet_by_seat w seat phase (plain.Zremrangebyrank a b c) q = absurd (cc q)
quiet_by_seat w seat phase (plain.Zremrangebyscore a b c) q = absurd (cc q)
