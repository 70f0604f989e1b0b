use Rattle.std.proofs.Common.{◌<◌, ◌≤◌, [], ◌++◌, length, take, subst, sym, arith, IfOk}
use Rattle.sk_resp.specs.Spelling.{IsPart}
use Rattle.sk_resp.specs.Reading.{seen, seen_at, Took, given, Fails}
use Rattle.sk_resp.proofs.Items.{first_byte}
use Rattle.sk_resp.proofs.request.state.State.take_some.Goals as goal

pub returns-in-Ok-clause-ok : goal.returns-in-Ok-clause-ok
returns-in-Ok-clause-ok c =
    let ok = c.in-Ok.ensures.ok in
    ((ok.0, ok.1), subst (λ stage. Took (seen_at stage c.args.self.now ++ take c.in-Ok.taken c.args.input.now) [] c.take_body.new.self) (sym c.in-Body.is) ok.2)

pub returns-in-Err-clause-fault : goal.returns-in-Err-clause-fault
returns-in-Err-clause-fault c = subst (λ stage. Fails (seen_at stage c.args.self.now ++ take 1 c.args.input.now) c.in-Err.fault) (sym c.in-Body.is) c.in-Err.ensures.fault

pub returns-in-Ok-take_byte : goal.returns-in-Ok-take_byte
returns-in-Ok-take_byte c = record {
  ok = (
    (omega arith, omega (arith, c.requires.some)),
    subst (λ z. Took (seen c.args.self.now ++ z) (given c.in-Ok-take_byte.found) c.take_byte.new.self) (sym (first_byte c.args.input.now c.requires.some)) c.in-Ok-take_byte.ensures.ok,
  );
  fault = tt;
}

pub returns-in-Err-take_byte : goal.returns-in-Err-take_byte
returns-in-Err-take_byte c = record {
  ok = tt;
  fault = subst (λ z. Fails (seen c.args.self.now ++ z) c.in-Err-take_byte.fault) (sym (first_byte c.args.input.now c.requires.some)) c.in-Err-take_byte.ensures.fault;
}

pub returns-in-Start-clause-ok : goal.returns-in-Start-clause-ok
returns-in-Start-clause-ok c = subst (λ stage. IfOk c.take_header.result (λ r. IsPart r.0 c.args.input.now × Took (seen_at stage c.args.self.now ++ take r.0 c.args.input.now) (given r.1) c.take_header.new.self)) (sym c.in-Start.is) c.take_header.ensures.ok

pub returns-in-Mark-clause-ok : goal.returns-in-Mark-clause-ok
returns-in-Mark-clause-ok c = subst (λ stage. IfOk c.take_bulk.result (λ r. IsPart r.0 c.args.input.now × Took (seen_at stage c.args.self.now ++ take r.0 c.args.input.now) (given r.1) c.take_bulk.new.self)) (sym c.in-Mark.is) c.take_bulk.ensures.ok
