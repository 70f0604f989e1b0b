use Rattle.std.proofs.Common.{sym}
use Rattle.sk_jobs.proofs.Counting.{one_counted}
use Rattle.sk_jobs.proofs.status.queue_counts.Goals as goal

pub loop-at-preserved : goal.loop-at-preserved
loop-at-preserved c =
    one_counted c.args.places.now.current.rows c.args.places.now.current.names c.loop-at.at c.in-Some.queue.now _ c.loop-at.list.items c.push.new.self.items (sym c.in-Some.ensures) c.in_ok-queue_count.ensures.name c.in_ok-queue_count.ensures.number c.loop-at.invariant c.in_ok-push.ensures.items
