use Rattle.std.proofs.Common.{sym}
use Rattle.std.proofs.lemmas.Option.{IfSome_then}
use Rattle.sk_drill.proofs.work_duty.WorkDuty.run.Goals as goal

pub returns : goal.returns
returns g c = record {
  classes = c.work.ensures.classes;
  told = IfSome_then c.work.result c.work.ensures.told (λ stories p. (c.in-Some.rule, sym c.in-Some.ensures.value, p));
}
