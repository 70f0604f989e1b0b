use Rattle.std.proofs.Common.{◌≡◌, ◌∙◌, ap, length, sym}
use Rattle.sk_model.specs.Room.{bytes_of}
use Rattle.sk_model.proofs.Tools.Room.{room_left}
use Rattle.sk_store.specs.Stored.{world}
use Rattle.sk_jobs.proofs.Batching.{too_much_is}
use Rattle.sk_jobs.proofs.batches.Jobs.are_too_much.Goals as goal

pub returns-then-count-gt0-clause-is : goal.returns-then-count-gt0-clause-is
returns-then-count-gt0-clause-is c =
    let number : c.len-count.result ≡ length c.args.self.now = c.len-count.ensures ∙ c.self.inside.payloads.ok.0 ∙ ap length c.self.view_is in
    too_much_is (world c.args.store.now) c.len-count.result c.args.self.now c.is_full.result c.if-count-gt0.true number (c.is_full.ensures c.args.self.now number (c.self.invariant.1 ∙ ap bytes_of c.self.view_is))

pub returns-then-count-gt0-clause-room : goal.returns-then-count-gt0-clause-room
returns-then-count-gt0-clause-room c = λ few.
    let number : c.len-count.result ≡ length c.args.self.now = c.len-count.ensures ∙ c.self.inside.payloads.ok.0 ∙ ap length c.self.view_is in
    room_left (world c.args.store.now) c.args.self.now (sym (c.is_full.ensures c.args.self.now number (c.self.invariant.1 ∙ ap bytes_of c.self.view_is)) ∙ few)
