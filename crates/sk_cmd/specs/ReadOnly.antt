-- The commands that only read, and those that change nothing.
use Rattle.std.specs.Prelude.{Bool, true, false}
use Rattle.sk_cmd.specs.declared.command.Command.{Command}
use Rattle.sk_cmd.specs.declared.command.Command.TheVariants as command
use Rattle.sk_cmd.specs.declared.command.PlainCommand.{PlainCommand}
use Rattle.sk_cmd.specs.declared.command.PlainCommand.TheVariants as plain

abbrev pub only_reads : PlainCommand → Bool
only_reads (plain.Ping a) = true
only_reads (plain.Echo a) = true
only_reads plain.Quit = true
only_reads plain.Shutdown = false
only_reads plain.Flushall = false
only_reads (plain.Get a) = true
only_reads (plain.Set a b c) = false
only_reads (plain.Del a) = false
only_reads (plain.Exists a) = true
only_reads (plain.KindOf a) = true
only_reads (plain.Incrby a b) = false
only_reads (plain.Pexpire a b) = false
only_reads (plain.Pttl a) = true
only_reads (plain.Give a b) = false
only_reads (plain.Lpush a b) = false
only_reads (plain.Rpush a b) = false
only_reads (plain.Lrange a b c) = true
only_reads (plain.Llen a) = true
only_reads (plain.Lrem a b c) = false
only_reads (plain.Lmove a b c d) = false
only_reads (plain.Sadd a b) = false
only_reads (plain.Srem a b) = false
only_reads (plain.Smembers a) = true
only_reads (plain.Scard a) = true
only_reads (plain.Sismember a b) = true
only_reads (plain.Hset a b) = false
only_reads (plain.Hget a b) = true
only_reads (plain.Hlen a) = true
only_reads (plain.Hdel a b) = false
only_reads (plain.Hgetall a) = true
only_reads (plain.Zadd a b) = false
only_reads (plain.Zrem a b) = false
only_reads (plain.Zcard a) = true
only_reads (plain.Zscore a b) = true
only_reads (plain.Zrange a b c d) = true
only_reads (plain.Zrangebyscore a b c d) = true
only_reads (plain.Zremrangebyrank a b c) = false
only_reads (plain.Zremrangebyscore a b c) = false

abbrev pub is_read : Command → Bool
is_read (command.Plain c) = only_reads c
is_read (command.Script c) = false

-- It leaves the store as it is: it only reads, or it is SHUTDOWN.
abbrev pub is_quiet : Command → Bool
is_quiet (command.Plain plain.Shutdown) = true
is_quiet other = is_read other
