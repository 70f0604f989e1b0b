use Rattle.std.proofs.Common.{arith, inl}
use Rattle.std.proofs.lemmas.Bool.Decides.{nat_tests}
use Rattle.sk_serve.proofs.attend.hold.Goals as goal

pub returns : goal.returns
returns g c = record {
  handed = c.held_session-held.result.handed;
  session = c.held_session-held.ensures.session;
  settler = c.args.settler;
  settler' = c.held_session-held.result.settler;
  since = c.held_session-held.ensures.since;
  failed = λ failed. inl (grind (arith, nat_tests, c.requires, c.faults.ensures, failed));
  passed = λ passed. grind (arith, nat_tests, c.requires, c.faults.ensures, passed);
}
