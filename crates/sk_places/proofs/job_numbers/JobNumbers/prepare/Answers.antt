use Rattle.std.proofs.Common.{sym, subst, ◌∙◌}
use Rattle.sk_payload.specs.Head.{jid_of}
use Rattle.sk_places.specs.JobRecords.{IsRecordOf}
use Rattle.sk_places.proofs.JobParts.{recorded_by}
use Rattle.sk_places.proofs.job_numbers.JobNumbers.prepare.Goals as goal

pub returns-clause-is : goal.returns-clause-is
returns-clause-is c =
    subst (λ v. IsRecordOf c.of-3.result (jid_of c.args.payload.now) v.list.current) c.self.view_is
    (recorded_by c.of-3.result _ _ (jid_of c.args.payload.now) c.self.inside.numbers.list.current c.in_order.ensures (sym c.in-Some.is ∙ c.in_ok-key.ensures) c.in_ok-prepare.ensures.is c.of-3.ensures.rows c.of-3.ensures.live)
