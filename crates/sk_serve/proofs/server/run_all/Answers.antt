use denote.Param.Send.{sendable}
use Rattle.std.proofs.Common.{◌≡◌, length, slice_index_or, subst}
use Rattle.sk_serve.specs.Attending.{Attends}
use Rattle.sk_serve.specs.Server.{Runs}
use Rattle.sk_serve.proofs.Counting.{zipped}
use Rattle.sk_serve.proofs.Crossing.{shared_sync_row}
use Rattle.sk_serve.proofs.server.run_all.Goals as goal

pub for_each_mut-requires-sync-F : goal.for_each_mut-requires-sync-F
for_each_mut-requires-sync-F g c κs within = search (sendable, shared_sync_row) depth 80 fits 10000

pub for_each_mut-requires-clause-accepts : goal.for_each_mut-requires-clause-accepts
for_each_mut-requires-clause-accepts g c κs within i p less is = (search sendable, search sendable, search sendable, search sendable, search sendable, search sendable, search sendable, search sendable, search sendable, search sendable, search sendable)

pub returns : goal.returns
returns g c =
    let same : length c.for_each_mut.new.s ≡ length c.args.loops.now = c.for_each_mut.auto.s in
    zipped (Runs g.E.Ear (Attends g.W.Settlers.holds_back g.B.Book.wants_words g.E.Conn.Source g.E.Conn.Sink g.K.Clock g.W.Settler.Settler) c.args.shared.now.others) c.args.loops.now c.for_each_mut.new.s same (λ i d less.
    let k = (c.for_each_mut.ensures i d less).1 in
    let ran : Runs g.E.Ear (Attends g.W.Settlers.holds_back g.B.Book.wants_words g.E.Conn.Source g.E.Conn.Sink g.K.Clock g.W.Settler.Settler) c.args.shared.now.others k.argument.now k.after_call.now = k.call in
    subst (λ x. Runs g.E.Ear (Attends g.W.Settlers.holds_back g.B.Book.wants_words g.E.Conn.Source g.E.Conn.Sink g.K.Clock g.W.Settler.Settler) c.args.shared.now.others x (slice_index_or c.for_each_mut.new.s i d)) k.argument_is (subst (λ y. Runs g.E.Ear (Attends g.W.Settlers.holds_back g.B.Book.wants_words g.E.Conn.Source g.E.Conn.Sink g.K.Clock g.W.Settler.Settler) c.args.shared.now.others k.argument.now y) k.left ran))
