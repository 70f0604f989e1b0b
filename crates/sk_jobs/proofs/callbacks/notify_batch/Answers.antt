use Rattle.std.proofs.Common.{◌≤◌, ◌^◌, length, Some, ap, arith}
use Rattle.sk_store.specs.Stored.{world}
use Rattle.sk_jobs.proofs.Calling.{if_both, notified_is}
use Rattle.sk_jobs.proofs.Covering.{on_if, notified_covered, notified_fits}
use Rattle.sk_jobs.proofs.callbacks.notify_batch.Goals as goal

pub returns-clause-ok : goal.returns-clause-ok
returns-clause-ok c =
    if_both _ _ _ c.push_callbacks.result (λ fired named called. notified_is (world c.args.store.now) (world c.push_callbacks.new.store) c.args.event c.args.member.now fired.items c.in_ok-firings.firings.items c.fire.new.batches.current
    c.in_ok-firings.ensures.fires (ap (λ s. s.current) c.in_ok-firings.ensures.ok) named called) c.push_callbacks.ensures.texts c.push_callbacks.ensures.ok

pub push_callbacks-requires : goal.push_callbacks-requires
push_callbacks-requires c =
    let few : length c.fire.new.batches.current.batches ≤ 2 ^ 60 = omega (arith, c.len-batches.ensures.is, c.len-batches.ensures.few) in
    let v = world c.args.store.now in
    notified_fits v.tally v.batches c.fire.new.batches.current c.args.event c.args.member.now.bid c.args.member.now.jid c.in_ok-firings.firings.items c.requires c.in_ok-firings.ensures.fires (ap (λ s. s.current) c.in_ok-firings.ensures.ok) c.push_count-pushes.ensures.outside few

pub returns-clause-covered : goal.returns-clause-covered
returns-clause-covered c =
    on_if _ _ c.push_callbacks.result (λ fired told. notified_covered (world c.args.store.now) (world c.push_callbacks.new.store) fired.items c.args.event c.args.member.now.jid (Some c.args.member.now.bid) told c.requires) (returns-clause-ok c)
