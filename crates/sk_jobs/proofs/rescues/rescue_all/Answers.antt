use Rattle.std.proofs.Common.{◌≡◌, ◌∙◌, List, ap, arith, refl, subst, sym}
use Rattle.std.specs.Prelude.{Option, Some}
use Rattle.std.specs.List.{list_all}
use Rattle.sk_model.specs.Rescue.{is_left, left_rows, rescue_row}
use Rattle.sk_model.specs.World.{World}
use Rattle.sk_places.specs.Rows.{ident_at, is_past}
use Rattle.sk_places.specs.declared.row.Row.{Row}
use Rattle.sk_resp.specs.Spelling.{Bytes}
use Rattle.sk_store.proofs.Steps.{joined}
use Rattle.sk_store.specs.Stored.{world}
use Rattle.sk_jobs.specs.Rescuing.{IsFront, IsPassed, others_left, own_rows}
use Rattle.sk_jobs.proofs.Beating.{beats_of, rescue_beats}
use Rattle.sk_jobs.proofs.Rescuing.{front_of, left_after, left_aside, many_sent, none_more, none_of_all, none_passed, room}
use Rattle.sk_jobs.proofs.Routing.{IsLeft, all_sent, none_sent}
use Rattle.sk_jobs.proofs.rescues.rescue_all.Goals as goal

pub loop-after-init : goal.loop-after-init
loop-after-init c =
    let old = world c.args.store.now in
    record {
      sent = none_sent rescue_row old c.nothing-report.result (left_rows old) c.nothing-report.ensures.none.0 c.nothing-report.ensures.none.1 c.nothing-report.ensures.texts.0 c.nothing-report.ensures.texts.1;
      passed = none_passed old;
      covered = c.requires.covered;
      step = record { places = refl; leases = refl; batches = refl; counters = refl; limits = refl; moment = refl; seats = refl; keys = refl };
    }

pub next_gone-requires : goal.next_gone-requires
next_gone-requires c = subst (λ (after : Option Bytes). IsPassed after (world c.loop-after.store)) (sym c.as_ref.ensures.value) c.loop-after.invariant.passed

pub append-requires-clause-moved : goal.append-requires-clause-moved
append-requires-clause-moved c =
    let now = world c.loop-after.store in
    let few = room (world c.args.store.now) now c.loop-after.report c.in-Some.ident c.loop-after.invariant.sent (front_of c.in_ok-ident.field-0 c.in-Some.ident now c.in-Some.is c.in_ok-ident.ensures) in
    omega (arith, few, c.in_ok-more.ensures.few, c.row_count-count.ensures)

pub append-requires-clause-buried : goal.append-requires-clause-buried
append-requires-clause-buried c =
    let now = world c.loop-after.store in
    let few = room (world c.args.store.now) now c.loop-after.report c.in-Some.ident c.loop-after.invariant.sent (front_of c.in_ok-ident.field-0 c.in-Some.ident now c.in-Some.is c.in_ok-ident.ensures) in
    omega (arith, few, c.in_ok-more.ensures.few, c.row_count-count.ensures)

pub loop-after-smaller : goal.loop-after-smaller
loop-after-smaller c =
    let now = world c.loop-after.store in
    let next = front_of c.in_ok-ident.field-0 c.in-Some.ident now c.in-Some.is c.in_ok-ident.ensures in
    let few = room (world c.args.store.now) now c.loop-after.report c.in-Some.ident c.loop-after.invariant.sent next in
    omega (arith, few, next.some, c.in_ok-more.ensures.few, c.append.ensures)

pub loop-after-preserved : goal.loop-after-preserved
loop-after-preserved c =
    let was = c.loop-after.invariant in
    let ident = c.in-Some.ident in
    let old : World = world c.args.store.now in
    let now : World = world c.loop-after.store in
    let next : World = world c.rescue_list.new.store in
    let others : List Row = others_left ident now in
    let front : IsFront ident now = front_of c.in_ok-ident.field-0 ident now c.in-Some.is c.in_ok-ident.ensures in
    let beats : next.leases.beats ≡ now.leases.beats = ap beats_of c.in_ok-more.ensures.ok.world ∙ rescue_beats now (own_rows ident now) in
    let left : left_rows next ≡ others = left_after now next others c.in_ok-more.ensures.step.moment beats (c.in_ok-more.ensures.left (is_left now) others (left_aside now) front.front) in
    record {
      sent = subst (λ rows. IsLeft rescue_row old next c.append.new.self (left_rows old) rows) (sym left)
          (many_sent (left_rows old) (own_rows ident now) others (left_rows now) old now next c.loop-after.report c.in_ok-more.more c.append.new.self
          front.front was.sent c.in_ok-more.ensures.ok c.append.ensures.moved c.append.ensures.buried c.in_ok-append.ensures.fired c.in_ok-append.ensures.trimmed);
      passed = subst (λ (word : Bytes). IsPassed (Some word) next) (sym c.in_ok-passed.ensures) (ap (list_all (λ row. is_past (Some ident) (ident_at row.place))) left ∙ front.behind);
      covered = c.in_ok-more.ensures.covered;
      step = joined c.args.store.now c.loop-after.store c.rescue_list.new.store was.step c.in_ok-more.ensures.step;
    }

pub returns-clause-ok : goal.returns-clause-ok
returns-clause-ok c =
    let old : World = world c.args.store.now in
    let now : World = world c.loop-after.store in
    all_sent rescue_row old now c.loop-after.report (left_rows old) (left_rows now) (none_of_all c.in_ok-ident.field-0 now c.in_default.is c.in_ok-ident.ensures) c.loop-after.invariant.sent

pub returns-clause-few : goal.returns-clause-few
returns-clause-few c =
    let few = none_more (world c.args.store.now) (world c.loop-after.store) c.loop-after.report c.loop-after.invariant.sent in
    omega (arith, few, c.row_count-count.ensures)
