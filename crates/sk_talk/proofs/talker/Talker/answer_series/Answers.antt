use Rattle.std.specs.Vec.Iter.{drain_items}
use Rattle.sk_talk.proofs.Series.{does_none}
use Rattle.sk_talk.proofs.talker.Talker.answer_series.Goals as goal

pub returns : goal.returns
returns g c = does_none g.Self.Talker.does c.args.self.now (drain_items c.args.commands.now) c.args.replies.now.items
