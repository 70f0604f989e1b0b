use Rattle.sk_places.specs.declared.row.Place.TheVariants.{Queue}
use Rattle.sk_model.specs.Queues.{pushes}
use Rattle.sk_store.proofs.Steps.{atomic}
use Rattle.sk_keyspace.proofs.pushes.push_all.Goals as goal

pub returns : goal.returns
returns c =
    atomic c.args.store.now c.begin.new.self c.push_each-done.new.store c.close.new.self (pushes c.args.end (Queue c.args.queue.now) c.args.payloads.items) c.push_each-done.result c.close.result
    c.requires.ready c.begin.ensures c.push_each-done.ensures.step c.push_each-done.ensures.ok c.close.ensures.same c.close.ensures.ok c.close.ensures.err
