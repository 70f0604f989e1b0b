use Rattle.std.proofs.Common.{◌∙◌, ap, map, option_map, subst, sym}
use Rattle.sk_value.specs.Keys.{Keys, at}
use Rattle.sk_value.specs.declared.value.Value.TheVariants as value
use Rattle.sk_leases.specs.Leased.{idents}
use Rattle.sk_places.specs.declared.row.Place.TheVariants.{Private, Queue, Set}
use Rattle.sk_places.specs.Rows.{pair_of, rows_at, texts_at}
use Rattle.sk_key.specs.Class.{class_of}
use Rattle.sk_model.specs.Held.{count_entry, held, held_as, if_any}
use Rattle.sk_model.specs.Outcome.{reply_of, says}
use Rattle.sk_value.specs.Values.{look_at}
use Rattle.sk_store.specs.Stored.{Executes, world}
use Rattle.sk_keyspace.proofs.Classes.{held_counter, held_jobs, held_private, held_processes, held_queue, keys_stay, look_runs}
use Rattle.sk_keyspace.proofs.looks.look.Goals as goal

pub returns-in-Plain : goal.returns-in-Plain
returns-in-Plain c =
    let s = c.args.store.now in
    subst (λ (keys : Keys). Executes s (says (reply_of (look_at s.moment c.args.look (held (world s) c.args.key)))) c.answered.result (record s { keys = keys })) (sym (keys_stay s.keys c.act.new.self c.act.result c.act.ensures.ok c.act.ensures.err))
    (look_runs s c.args.look c.args.key (at c.args.key s.keys) c.act.result c.answered.result c.requires
    (ap (held_as (world s) c.args.key) (ap class_of (sym c.bytes.ensures) ∙ sym c.class_of.ensures ∙ c.in-Plain.is)) c.act.ensures.answer c.answered.ensures.reply)

pub returns-in-Queue : goal.returns-in-Queue
returns-in-Queue c =
    let s = c.args.store.now in
    look_runs s c.args.look c.args.key (if_any value.List (texts_at (Queue c.queue_of.result) s.places.current.rows)) c.look_queue.result c.answered-in-Queue.result c.requires
    (held_queue (world s) c.args.key c.queue_of.result (ap class_of (sym c.bytes.ensures) ∙ sym c.class_of.ensures ∙ c.in-Queue.is) c.queue_of.ensures)
    (c.look_queue.ensures s.moment) c.answered-in-Queue.ensures.reply

pub returns-in-Private : goal.returns-in-Private
returns-in-Private c =
    let s = c.args.store.now in
    look_runs s c.args.look c.args.key (if_any value.List (texts_at (Private c.ident_of.result) s.places.current.rows)) c.look_queue-in-Private.result c.answered-in-Private.result c.requires
    (held_private (world s) c.args.key c.ident_of.result (ap class_of (sym c.bytes.ensures) ∙ sym c.class_of.ensures ∙ c.in-Private.is) c.ident_of.ensures)
    (c.look_queue-in-Private.ensures s.moment) c.answered-in-Private.ensures.reply

pub returns-in-Processes : goal.returns-in-Processes
returns-in-Processes c =
    let s = c.args.store.now in
    look_runs s c.args.look c.args.key (if_any value.Set (idents s.moment s.leases.current)) c.look_idents.result c.answered-in-Processes.result c.requires
    (held_processes (world s) c.args.key (ap class_of (sym c.bytes.ensures) ∙ sym c.class_of.ensures ∙ c.in-Processes.is))
    (c.look_idents.ensures s.moment) c.answered-in-Processes.ensures.reply

pub returns-in-Jobs : goal.returns-in-Jobs
returns-in-Jobs c =
    let s = c.args.store.now in
    look_runs s c.args.look c.args.key (if_any value.Sorted (map pair_of (rows_at (Set c.in-Jobs.set) s.places.current.rows))) c.look_set.result c.answered-in-Jobs.result c.requires
    (held_jobs (world s) c.args.key c.in-Jobs.set (ap class_of (sym c.bytes.ensures) ∙ sym c.class_of.ensures ∙ c.in-Jobs.is))
    (c.look_set.ensures s.moment) c.answered-in-Jobs.ensures.reply

pub returns-in-Counter : goal.returns-in-Counter
returns-in-Counter c =
    let s = c.args.store.now in
    look_runs s c.args.look c.args.key (option_map count_entry c.count_of.result) c.look_count.result c.answered-in-Counter.result c.requires
    (held_counter (world s) c.args.key (ap class_of (sym c.bytes.ensures) ∙ sym c.class_of.ensures ∙ c.in-Counter.is) ∙ ap (option_map count_entry) (sym c.count_of.ensures))
    c.look_count.ensures c.answered-in-Counter.ensures.reply
