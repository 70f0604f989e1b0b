use Rattle.std.proofs.Common.{ap}
use Rattle.std.specs.Prelude.{nat_lt}
use Rattle.sk_keyspace.proofs.Deleting.{queue_deleted}
use Rattle.sk_keyspace.proofs.deletes.delete_queue.Goals as goal

pub returns-clause-done : goal.returns-clause-done
returns-clause-done c =
    queue_deleted c.args.store.now c.args.key c.queue_of-queue.result c.unname_queue.new.self c.remove_all.new.self (nat_lt 0 c.remove_all.result) c.queue_of-queue.ensures c.unname_queue.ensures.rest
    (ap (nat_lt 0) c.remove_all.ensures.count) c.remove_all.ensures.rest
