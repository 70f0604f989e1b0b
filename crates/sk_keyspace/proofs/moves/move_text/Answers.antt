use Rattle.std.proofs.Common.{◌∙◌, ap, sym, subst}
use Rattle.sk_key.specs.Class.{class_of}
use Rattle.sk_model.specs.Outcome.{Outcome}
use Rattle.sk_store.specs.Stored.{Executes, world}
use Rattle.sk_keyspace.proofs.Classes.{plain_move, queue_move}
use Rattle.sk_keyspace.proofs.moves.move_text.Goals as goal

pub returns-in-Plain-other : goal.returns-in-Plain-other
returns-in-Plain-other c =
    let s = c.args.store.now in
    subst (λ (o : Outcome). Executes s o c.do_on_keys.result c.do_on_keys.new.store)
    (sym (plain_move (world s) c.args.source c.args.destination c.args.from c.args.to (ap class_of (sym c.bytes-2.ensures) ∙ sym c.class_of.ensures ∙ c.in-Plain.is) (ap class_of (sym c.bytes.ensures) ∙ sym c.class_of-other.ensures ∙ c.in-Plain-other.is)))
    c.do_on_keys.ensures

pub returns-in-Queue-other : goal.returns-in-Queue-other
returns-in-Queue-other c =
    let s = c.args.store.now in
    subst (λ (o : Outcome). Executes s o c.move_job.result c.move_job.new.store)
    (sym (queue_move (world s) c.args.source c.args.destination c.queue_of.result c.queue_of-in-Queue-other.result c.args.from c.args.to
    (ap class_of (sym c.bytes-2.ensures) ∙ sym c.class_of.ensures ∙ c.in-Queue.is) (ap class_of (sym c.bytes.ensures) ∙ sym c.class_of-other.ensures ∙ c.in-Queue-other.is) c.queue_of.ensures c.queue_of-in-Queue-other.ensures))
    c.move_job.ensures
