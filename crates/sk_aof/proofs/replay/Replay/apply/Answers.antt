use Rattle.std.proofs.Common.{refl, subst, sym, ap, ◌∙◌}
use Rattle.sk_model.specs.World.{World}
use Rattle.sk_model.specs.Change.{perform}
use Rattle.sk_model.specs.Step.{cut}
use Rattle.sk_aof.specs.Accepted.{Accepts}
use Rattle.sk_aof.specs.Read.{meant}
use Rattle.sk_aof.proofs.replay.Replay.apply.Goals as goal

pub returns-in-Cut-clause-ok : goal.returns-in-Cut-clause-ok
returns-in-Cut-clause-ok c =
    subst (λ e. Accepts c.args.self.now (meant e) c.cut.new.self) (sym c.in-Cut.is)
    (record {
      outcome = cut c.in-Cut.seat;
      served = refl;
      accepted = refl;
      new_is = c.cut.ensures ∙ ap (λ (w : World). perform w (cut c.in-Cut.seat).changes) c.self.view_is;
    })
