use Rattle.std.proofs.Common.{◌≡◌, ◌∙◌, ◌<◌, ◌++◌, List, [], ap, arith, length, refl, sym}
use Rattle.sk_places.specs.Rows.{rows_at}
use Rattle.sk_places.specs.declared.row.Row.{Row}
use Rattle.sk_model.specs.Rescue.{rescue_row}
use Rattle.sk_store.proofs.Steps.{joined}
use Rattle.sk_store.specs.Stored.{world}
use Rattle.sk_jobs.specs.Rescuing.{own_rows}
use Rattle.sk_jobs.proofs.Routing.{IsOne, all_sent, none_of, one_of, own_aside, row_sent}
use Rattle.sk_jobs.proofs.rescues.rescue_list.Goals as goal

pub rescue_first-requires-clause-alive : goal.rescue_first-requires-clause-alive
rescue_first-requires-clause-alive c = rw c.loop-left.invariant.place refl

pub append-requires-clause-moved : goal.append-requires-clause-moved
append-requires-clause-moved c = omega (arith, c.loop-left.invariant.number, c.in_ok-one.ensures.one, c.len-left.ensures)

pub append-requires-clause-buried : goal.append-requires-clause-buried
append-requires-clause-buried c = omega (arith, c.loop-left.invariant.number, c.in_ok-one.ensures.one, c.len-left.ensures)

pub loop-left-preserved : goal.loop-left-preserved
loop-left-preserved c =
    let ident = c.args.ident in
    let was = c.loop-left.invariant in
    let old = world c.args.store.now in
    let now = world c.loop-left.store in
    let next = world c.rescue_first.new.store in
    let own : List Row = own_rows ident now in
    let some : 0 < length own = omega (arith, was.enough, c.loop-left-test.true) in
    let first : IsOne own = one_of own some in
    let front = ap (λ place. rows_at place now.rows) was.place ∙ first.is in
    let goes = c.in_ok-one.ensures.left first.row first.more front in
    let gone : own_rows ident next ≡ first.more = goes _ first.more (own_aside ident) first.is in
    record {
      place = was.place;
      sent = row_sent rescue_row (own_rows ident old) own (own_rows ident next) old now next c.loop-left.report c.in_ok-one.one c.append.new.self
          first gone was.sent (c.in_ok-one.ensures.ok first.row first.more front) c.append.ensures.moved c.append.ensures.buried c.in_ok-append.ensures.fired c.in_ok-append.ensures.trimmed;
      left = λ test others aside parts. goes test (first.more ++ others) aside (was.left test others aside parts ∙ ap (λ rows. rows ++ others) first.is) ∙ ap (λ rows. rows ++ others) (sym gone);
      enough = omega (arith, was.enough, ap length first.is, ap length gone);
      number = omega (arith, was.number, c.in_ok-one.ensures.one, c.append.ensures.moved, c.append.ensures.buried, c.loop-left-test.true);
      covered = c.in_ok-one.ensures.covered;
      step = joined c.args.store.now c.loop-left.store c.rescue_first.new.store was.step c.in_ok-one.ensures.step;
    }

pub returns-clause-ok : goal.returns-clause-ok
returns-clause-ok c =
    let old = world c.args.store.now in
    let now = world c.loop-left.store in
    let rest : List Row = own_rows c.args.ident now in
    let none : rest ≡ [] = none_of c.loop-left.left rest c.loop-left.invariant.enough c.loop-left-test.false in
    all_sent rescue_row old now c.loop-left.report (own_rows c.args.ident old) rest none c.loop-left.invariant.sent

pub returns-clause-few : goal.returns-clause-few
returns-clause-few c = omega (arith, c.loop-left.invariant.number, c.loop-left-test.false)

pub returns-clause-left : goal.returns-clause-left
returns-clause-left c = λ test others aside parts.
    let none = none_of c.loop-left.left (own_rows c.args.ident (world c.loop-left.store)) c.loop-left.invariant.enough c.loop-left-test.false in
    c.loop-left.invariant.left test others aside parts ∙ ap (λ rows. rows ++ others) none
