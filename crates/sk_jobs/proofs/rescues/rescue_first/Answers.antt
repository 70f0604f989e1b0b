use Rattle.std.proofs.Common.{◌≡◌, ◌∙◌, ap, sym, false, pos, true, refl}
use Rattle.std.specs.Prelude.{Some}
use Rattle.sk_resp.specs.Spelling.{Bytes}
use Rattle.sk_payload.specs.Head.{head as head_of}
use Rattle.sk_leases.specs.Leased.{recovered, standing}
use Rattle.sk_cmd.specs.declared.argument.Side.TheVariants.{Left, Right}
use Rattle.sk_model.proofs.Tools.Outcomes.{if_ok}
use Rattle.sk_model.specs.Change.{Carry, Moves, Recovers, changed}
use Rattle.sk_model.specs.Rescue.{is_poison}
use Rattle.sk_model.specs.World.{World}
use Rattle.sk_places.specs.Rows.{row_of, rows_at}
use Rattle.sk_places.specs.declared.row.Place.TheVariants.{Queue}
use Rattle.sk_store.specs.Stored.{world}
use Rattle.sk_jobs.proofs.Calling.{on_ok}
use Rattle.sk_jobs.proofs.Fronts.{front_named, front_text}
use Rattle.sk_jobs.proofs.Rescuing.{noted_sent, poisoned, spared}
use Rattle.sk_jobs.proofs.Routing.{carried_left}
use Rattle.sk_jobs.proofs.rescues.rescue_first.Goals as goal

pub returns-then-recoveries-ge-MOST_RECOVERIES-clause-ok : goal.returns-then-recoveries-ge-MOST_RECOVERIES-clause-ok
returns-then-recoveries-ge-MOST_RECOVERIES-clause-ok c =
    if_ok _ _ c.bury_poison.result (λ report ok. λ row more front.
    let s = c.args.store.now in
    let h = c.in-Some-head.head in
    let old : World = world s in
    let mid : World = world (record s { leases = c.recovered.new.self }) in
    let new : World = world c.bury_poison.new.store in
    let text : c.in-Some.payload.now ≡ row.text = front_text c.args.list.now row more old.rows (c.in-Some.field-0-0, c.in-Some.payload.now) front c.in-Some.ensures in
    let named : head_of row.text ≡ Some h = ap head_of (sym text) ∙ sym c.in-Some-head.ensures in
    let found : row_of c.in_ok-payload.payload (rows_at c.args.list.now old.rows) ≡ Some row = front_named c.in_ok-payload.payload row more (rows_at c.args.list.now old.rows) front (c.in_ok-payload.ensures ∙ text) in
    let leases = ap (λ l. l.current) c.in_ok-recoveries.ensures.ok ∙ ap (λ (jid : Bytes). recovered jid old.moment old.leases) c.in_ok-jid.ensures in
    let noted : mid ≡ changed old (Recovers h.jid) = ap (λ l. record old { leases = l }) leases in
    let count = c.in_ok-recoveries.ensures.count ∙ ap (λ (jid : Bytes). standing jid old.moment (recovered jid old.moment old.leases)) c.in_ok-jid.ensures in
    let poison : is_poison mid h.jid ≡ true = poisoned mid h.jid old.moment c.in_ok-recoveries.recoveries old.leases refl leases count c.if-recoveries-ge-MOST_RECOVERIES.true in
    noted_sent old mid new report row h (head_of row.text) true named noted poison (ok row found h named)) c.bury_poison.ensures.ok

pub returns-then-recoveries-ge-MOST_RECOVERIES-clause-left : goal.returns-then-recoveries-ge-MOST_RECOVERIES-clause-left
returns-then-recoveries-ge-MOST_RECOVERIES-clause-left c =
    on_ok _ _ c.bury_poison.result (λ left. λ row more front.
    let old : World = world c.args.store.now in
    let text = front_text c.args.list.now row more old.rows (c.in-Some.field-0-0, c.in-Some.payload.now) front c.in-Some.ensures in
    left row (front_named c.in_ok-payload.payload row more (rows_at c.args.list.now old.rows) front (c.in_ok-payload.ensures ∙ text))) c.bury_poison.ensures.left

pub returns-clause-ok : goal.returns-clause-ok
returns-clause-ok c = λ row more front.
    let s = c.args.store.now in
    let h = c.in-Some-head.head in
    let old : World = world s in
    let mid : World = world (record s { leases = c.recovered.new.self }) in
    let new : World = world c.promote_to.new.store in
    let text : c.in-Some.payload.now ≡ row.text = front_text c.args.list.now row more old.rows (c.in-Some.field-0-0, c.in-Some.payload.now) front c.in-Some.ensures in
    let named : head_of row.text ≡ Some h = ap head_of (sym text) ∙ sym c.in-Some-head.ensures in
    let leases = ap (λ l. l.current) c.in_ok-recoveries.ensures.ok ∙ ap (λ (jid : Bytes). recovered jid old.moment old.leases) c.in_ok-jid.ensures in
    let noted : mid ≡ changed old (Recovers h.jid) = ap (λ l. record old { leases = l }) leases in
    let count = c.in_ok-recoveries.ensures.count ∙ ap (λ (jid : Bytes). standing jid old.moment (recovered jid old.moment old.leases)) c.in_ok-jid.ensures in
    let few = spared mid h.jid old.moment c.in_ok-recoveries.recoveries old.leases refl leases count c.if-recoveries-ge-MOST_RECOVERIES.false in
    let moved = c.in_ok-promote_to.ensures.ok row more front ∙ ap (λ (queue : Bytes). changed mid (Moves (Carry row Left (Queue queue) (pos 0) Right))) c.in_ok-queue.ensures in
    noted_sent old mid new c.one_moved.result row h (head_of row.text) false named noted few (record {
      moved = c.one_moved.ensures.one.0;
      buried = c.one_moved.ensures.one.1;
      fired = c.one_moved.ensures.texts.0;
      trimmed = c.one_moved.ensures.texts.1;
      world = moved;
    })

pub returns-clause-left : goal.returns-clause-left
returns-clause-left c = λ row more front. carried_left (record c.args.store.now { leases = c.recovered.new.self }) c.promote_to.new.store row c.in_ok-queue.queue Right (c.in_ok-promote_to.ensures.ok row more front)
