use Rattle.sk_iter.proofs.Saving.{was_read}
use Rattle.sk_iter.proofs.cursor.send.Goals as goal

pub returns-in-Ok : goal.returns-in-Ok
returns-in-Ok g c = λ jid e.
    was_read (g.L.Link.carried c.args.link.now c.ask.new.link) jid c.args.len c.args.words.now e c.in-Ok.reply c.cursor_of.result c.in-Ok.ensures.asked c.cursor_of.ensures
