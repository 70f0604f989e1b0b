use Rattle.std.proofs.Common.{subst}
use Rattle.sk_model.specs.Acked.{Acknowledges}
use Rattle.sk_desk.specs.Pass.{DeskView}
use Rattle.sk_desk.proofs.Journals.{ask_acknowledged}
use Rattle.sk_desk.proofs.locked_desk.LockedDesk.ask.Goals as goal

pub returns-clause-acked : goal.returns-clause-acked
returns-clause-acked g c =
    subst (λ (d : DeskView). Acknowledges c.args.command c.ask.result d.amount c.ask.new.share.counts.rows) c.self.view_is (ask_acknowledged _ _ _ _ _ _ _ _ _ c.ask.ensures.asks)
