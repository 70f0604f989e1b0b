use Rattle.std.proofs.Common.{IfOk, refl, subst}
use Rattle.sk_drill.specs.Drilled.{IsRecorded}
use Rattle.sk_drill.proofs.Ending.{ends_as}
use Rattle.sk_drill.proofs.drilling.finish.Goals as goal

pub returns : goal.returns
returns g c = ends_as c.args.closed _ c.args.stories.items c.compared-came.result c.end_by.result
    (subst (λ l. IfOk c.compared-came.result (IsRecorded c.args.closed l)) c.deref.ensures.value c.compared-came.ensures) c.requires.apart c.requires.answered c.into_book-book.ensures refl
    c.summed-summary.ensures.tally c.summed-summary.ensures.balanced c.summed-summary.ensures.events c.end_by.ensures.alike c.end_by.ensures.differs c.end_by.ensures.memory
