use Rattle.std.proofs.Common.{◌≡◌, ◌≤◌, ◌-◌, ◌∙◌, ℕ, List, [], suc, zero, ap, arith, length, refl, take}
use Rattle.sk_places.specs.declared.row.Row.{Row}
use Rattle.sk_model.specs.Jobs.{promote}
use Rattle.sk_store.proofs.Steps.{joined}
use Rattle.sk_store.specs.Stored.{world}
use Rattle.sk_jobs.specs.Routing.{set_rows}
use Rattle.sk_jobs.proofs.Routing.{IsOne, all_sent, one_of, row_sent, set_aside}
use Rattle.sk_jobs.proofs.promotion.promote_front.Goals as goal

pub loop-left-preserved : goal.loop-left-preserved
loop-left-preserved c =
    let set = c.args.set in
    let old = c.args.store.now in
    let now = c.loop-left.store in
    let next = c.promote_first.new.store in
    let rows : List Row = set_rows set (world now) in
    let was = c.loop-left.invariant in
    let done = c.append.ensures in
    let k = c.loop-left.left - 1 in
    let number : c.loop-left.left ≡ suc k = omega (arith, c.loop-left-test.true) in
    let enough : suc k ≤ length rows = omega (arith, number, was.enough) in
    let first : IsOne rows = one_of rows (omega (arith, enough)) in
    let gone : set_rows set (world next) ≡ first.more = c.in_ok-one.ensures.left first.row first.more first.is _ first.more (set_aside set c.requires.alive) first.is in
    let front : IsOne (take c.loop-left.left rows) = record { row = first.row; more = take k first.more; is = ap (λ n. take n rows) number ∙ ap (take (suc k)) first.is } in
    record {
      sent = row_sent promote (take c.args.count (set_rows set (world old))) (take c.loop-left.left rows) (take k (set_rows set (world next))) (world old) (world now) (world next) c.loop-left.report c.in_ok-one.one c.append.new.self
          front (ap (take k) gone) was.sent (c.in_ok-one.ensures.ok first.row first.more first.is) done.moved done.buried c.in_ok-append.ensures.fired c.in_ok-append.ensures.trimmed;
      enough = omega (arith, enough, ap length first.is, ap length gone);
      number = omega (arith, was.number, number, c.in_ok-one.ensures.one, done.moved, done.buried);
      covered = c.in_ok-one.ensures.covered;
      step = joined old now next was.step c.in_ok-one.ensures.step;
    }

take_no : (n : ℕ) (rows : List Row) → n ≤ 0 → take n rows ≡ []
take_no zero rows h = refl
take_no (suc n) rows h = absurd (omega (arith, h))

pub returns-clause-ok : goal.returns-clause-ok
returns-clause-ok c =
    let v = world c.args.store.now in
    let now = world c.loop-left.store in
    all_sent promote v now c.loop-left.report (take c.args.count (set_rows c.args.set v)) (take c.loop-left.left (set_rows c.args.set now)) (take_no c.loop-left.left (set_rows c.args.set now) c.loop-left-test.false) c.loop-left.invariant.sent
