-- The table of commands: what each does to the keys that it names.
use Rattle.std.specs.Prelude.{Some, None}
use Rattle.sk_cmd.specs.declared.command.PlainCommand.{PlainCommand}
use Rattle.sk_cmd.specs.declared.command.PlainCommand.TheVariants as plain
use Rattle.sk_cmd.specs.declared.argument.Side.TheVariants.{Left, Right}
use Rattle.sk_value.specs.declared.action.Action.{Action}
use Rattle.sk_value.specs.declared.action.Action.TheVariants as action
use Rattle.sk_value.specs.declared.read_op.ReadOp.TheVariants as look
use Rattle.sk_value.specs.declared.write_op.WriteOp.TheVariants as edit

abbrev pub action_of : PlainCommand → Action
action_of (plain.Ping None) = action.Ping
action_of (plain.Ping (Some text)) = action.Echo text
action_of (plain.Echo text) = action.Echo text
action_of plain.Quit = action.Quit
action_of plain.Shutdown = action.Quit
action_of plain.Flushall = action.Flush
action_of (plain.Get key) = action.ReadOp key look.Get
action_of (plain.Set key text options) = action.Set key text options
action_of (plain.Del keys) = action.Delete keys
action_of (plain.Exists keys) = action.Exists keys
action_of (plain.KindOf key) = action.ReadOp key look.KindOf
action_of (plain.Incrby key n) = action.WriteOp key (edit.Incrby n)
action_of (plain.Pexpire key millis) = action.Expire key millis
action_of (plain.Pttl key) = action.ReadOp key look.Pttl
action_of (plain.Give key text) = action.Give key text
action_of (plain.Lpush key texts) = action.WriteOp key (edit.Push Left texts)
action_of (plain.Rpush key texts) = action.WriteOp key (edit.Push Right texts)
action_of (plain.Lrange key first last) = action.ReadOp key (look.Lrange first last)
action_of (plain.Llen key) = action.ReadOp key look.Llen
action_of (plain.Lrem key count text) = action.WriteOp key (edit.Lrem count text)
action_of (plain.Lmove source destination from to) = action.Move source destination from to
action_of (plain.Sadd key members) = action.WriteOp key (edit.Sadd members)
action_of (plain.Srem key members) = action.WriteOp key (edit.Srem members)
action_of (plain.Smembers key) = action.ReadOp key look.Smembers
action_of (plain.Scard key) = action.ReadOp key look.Scard
action_of (plain.Sismember key member) = action.ReadOp key (look.Sismember member)
action_of (plain.Hset key pairs) = action.WriteOp key (edit.Hset pairs)
action_of (plain.Hget key field) = action.ReadOp key (look.Hget field)
action_of (plain.Hlen key) = action.ReadOp key look.Hlen
action_of (plain.Hdel key fields) = action.WriteOp key (edit.Hdel fields)
action_of (plain.Hgetall key) = action.ReadOp key look.Hgetall
action_of (plain.Zadd key scores) = action.WriteOp key (edit.Zadd scores)
action_of (plain.Zrem key members) = action.WriteOp key (edit.Zrem members)
action_of (plain.Zcard key) = action.ReadOp key look.Zcard
action_of (plain.Zscore key member) = action.ReadOp key (look.Zscore member)
action_of (plain.Zrange key first last scores) = action.ReadOp key (look.Zrange first last scores)
action_of (plain.Zrangebyscore key least greatest options) = action.ReadOp key (look.Zrangebyscore least greatest options)
action_of (plain.Zremrangebyrank key first last) = action.WriteOp key (edit.Zremrangebyrank first last)
action_of (plain.Zremrangebyscore key least greatest) = action.WriteOp key (edit.Zremrangebyscore least greatest)
