use Rattle.std.proofs.Common.{subst, sym, ◌∙◌}
use Rattle.sk_aof.specs.Accepted.{IsRefused}
use Rattle.sk_aof.specs.Read.{IsBody, meant}
use Rattle.sk_aof.proofs.Readings.{one_event}
use Rattle.sk_aof.proofs.replay.ReplayReplayer.run.Goals as goal

pub returns-in-Ok-Some-clause-refused : goal.returns-in-Ok-Some-clause-refused
returns-in-Ok-Some-clause-refused c = λ refused event may is.
    let found = subst (λ f. IsBody c.args.body.now f) c.in-Ok-Some.field-0-is c.in-Ok-Some.ensures in
    let same = one_event (meant c.in-Ok-Some.event) event found.0 may (sym found.1 ∙ is) in
    subst (λ e. IsRefused c.args.self.now e) same (c.apply.ensures.refused refused)
