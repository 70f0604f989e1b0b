use Rattle.std.specs.Vec.Iter.{drain_items}
use Rattle.sk_talk.proofs.Series.{does_none}
use Rattle.sk_aof.proofs.log_session.LogSessionTalker.answer_series.Goals as goal

pub returns : goal.returns
returns g c = does_none _ c.args.self.now (drain_items c.args._commands.now) c.args._replies.now.items
