use Rattle.std.proofs.Common.{◌≡◌, ◌∙◌, ◌==◌, ℕ, ap, arith, length, not, nat_lt, sym}
use Rattle.std.specs.Option.{is_some}
use Rattle.std.proofs.lemmas.Bool.Decides.{nat_tests}
use Rattle.sk_counters.specs.Counters.{count_in}
use Rattle.sk_leases.specs.Leased.{idents}
use Rattle.sk_value.specs.declared.value.Value.TheVariants as value
use Rattle.sk_places.specs.declared.row.Place.TheVariants.{Private, Queue, Set}
use Rattle.sk_places.specs.Rows.{pair_of, rows_at}
use Rattle.sk_key.specs.Class.{class_of, counter_of}
use Rattle.sk_store.specs.Stored.{world}
use Rattle.sk_keyspace.proofs.Classes.{held_counter, held_jobs, held_private, held_processes, held_queue, some_count, some_if_any, there_if_any}
use Rattle.sk_keyspace.proofs.looks.has.Goals as goal

pub returns-in-Queue : goal.returns-in-Queue
returns-in-Queue c =
    let s = c.args.store.now in
    let is = (ap class_of (sym c.bytes.ensures) ∙ sym c.class_of.ensures ∙ c.in-Queue.is) in
    ap (nat_lt 0) c.len.ensures.is ∙ sym (there_if_any value.List (λ row. row.text) (rows_at (Queue c.queue_of.result) s.places.current.rows))
    ∙ ap is_some (sym (held_queue (world s) c.args.key c.queue_of.result is c.queue_of.ensures))

pub returns-in-Private : goal.returns-in-Private
returns-in-Private c =
    let s = c.args.store.now in
    let is = (ap class_of (sym c.bytes.ensures) ∙ sym c.class_of.ensures ∙ c.in-Private.is) in
    ap (nat_lt 0) c.len-in-Private.ensures.is ∙ sym (there_if_any value.List (λ row. row.text) (rows_at (Private c.ident_of.result) s.places.current.rows))
    ∙ ap is_some (sym (held_private (world s) c.args.key c.ident_of.result is c.ident_of.ensures))

above : (n : ℕ) → nat_lt 0 n ≡ not (n == 0)
above n = grind (arith, nat_tests)

pub returns-in-Processes : goal.returns-in-Processes
returns-in-Processes c =
    let s = c.args.store.now in
    let is = (ap class_of (sym c.bytes.ensures) ∙ sym c.class_of.ensures ∙ c.in-Processes.is) in
    ap (nat_lt 0) c.alive_count.ensures ∙ above (length (idents s.moment s.leases.current))
    ∙ sym (some_if_any value.Set (idents s.moment s.leases.current)) ∙ ap is_some (sym (held_processes (world s) c.args.key is))

pub returns-in-Jobs : goal.returns-in-Jobs
returns-in-Jobs c =
    let s = c.args.store.now in
    let is = (ap class_of (sym c.bytes.ensures) ∙ sym c.class_of.ensures ∙ c.in-Jobs.is) in
    ap (nat_lt 0) c.len-in-Jobs.ensures.is ∙ sym (there_if_any value.Sorted pair_of (rows_at (Set c.in-Jobs.set) s.places.current.rows)) ∙ ap is_some (sym (held_jobs (world s) c.args.key c.in-Jobs.set is))

pub returns-in-Counter : goal.returns-in-Counter
returns-in-Counter c =
    let s = c.args.store.now in
    let is = (ap class_of (sym c.bytes.ensures) ∙ sym c.class_of.ensures ∙ c.in-Counter.is) in
    c.is_some.ensures ∙ ap is_some c.count_of.ensures ∙ sym (some_count (count_in s.counters.current (counter_of c.args.key))) ∙ ap is_some (sym (held_counter (world s) c.args.key is))
