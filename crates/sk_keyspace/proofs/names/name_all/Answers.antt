use Rattle.std.proofs.Common.{map}
use Rattle.sk_model.specs.Change.{Names}
use Rattle.sk_store.proofs.Steps.{atomic}
use Rattle.sk_keyspace.proofs.names.name_all.Goals as goal

pub returns : goal.returns
returns c =
    atomic c.args.store.now c.begin.new.self c.name_each-done.new.store c.close.new.self (map Names c.args.names.items) c.name_each-done.result c.close.result
    c.requires.ready c.begin.ensures c.name_each-done.ensures.step c.name_each-done.ensures.ok c.close.ensures.same c.close.ensures.ok c.close.ensures.err
