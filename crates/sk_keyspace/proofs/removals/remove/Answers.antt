use Rattle.std.proofs.Common.{◌≡◌, ◌∙◌, ap, of_z, rules, subst, sym, to_z, w64}
use Rattle.sk_resp.specs.declared.reply.Reply.{Reply}
use Rattle.sk_undo.specs.Versions.{edited}
use Rattle.sk_places.specs.declared.row.Place.TheVariants.{Queue}
use Rattle.sk_places.specs.declared.ending.Ending.TheVariants.{Deleted}
use Rattle.sk_places.specs.Placed.{ended_copies}
use Rattle.sk_places.specs.Rows.{copies_of, end_taken, number_taken, row_at}
use Rattle.sk_model.specs.Outcome.{Realizes}
use Rattle.sk_model.specs.Queues.{remove}
use Rattle.sk_store.specs.Stored.{world}
use Rattle.sk_keyspace.proofs.Editing.{remove_comes}
use Rattle.sk_keyspace.proofs.removals.remove.Goals as goal

pub returns-clause-done : goal.returns-clause-done
returns-clause-done c =
    let s = c.args.store.now in
    let p = s.places.current in
    let new = c.remove_texts.new.self in
    let queue = Queue c.args.queue in
    let row = row_at queue c.args.text.now in
    let same : to_z w64 (of_z w64 c.args.count) ≡ c.args.count = search rules in
    let number : c.remove_texts.result ≡ number_taken c.args.count (copies_of row p.rows) = c.remove_texts.ensures.count ∙ ap (λ z. number_taken z (copies_of row p.rows)) same in
    let rest : new ≡ edited (ended_copies Deleted c.remove_texts.result (end_taken c.args.count) row p) s.places =
    c.remove_texts.ensures.rest ∙ ap (λ z. edited (ended_copies Deleted c.remove_texts.result (end_taken z) row p) s.places) same in
    subst (λ (r : Reply). Realizes (world s) (remove (world s) queue c.args.count c.args.text.now) r (world (record s { places = new }))) (sym c.counted.ensures)
    (remove_comes s queue c.args.count c.args.text.now c.remove_texts.result new number rest)
