use Rattle.sk_keyspace.proofs.OnKeys.{on_keys_runs}
use Rattle.sk_keyspace.proofs.plain.do_on_keys.Goals as goal

pub returns : goal.returns
returns c =
    on_keys_runs c.args.store.now c.act.new.self c.args.action c.act.result c.answered.result c.requires c.act.ensures.answer c.act.ensures.ok c.act.ensures.err c.answered.ensures.reply c.answered.ensures.refused c.answered.ensures.err
