use Rattle.std.proofs.Common.{sym, subst, ◌∙◌, ap}
use Rattle.sk_undo.specs.Edits.{before, AllFit}
use Rattle.sk_undo.proofs.Edits.{fit_last, before_push}
use Rattle.sk_undo.proofs.edit.take_all_back.Goals as goal

pub take_back-requires : goal.take_back-requires
take_back-requires g c = (fit_last _ _ _ (subst (λ l. AllFit l c.edits.entries) c.in-Some.ensures.items c.edits.invariant.0)).0

pub edits-preserved : goal.edits-preserved
edits-preserved g c =
    let rest = (fit_last _ _ _ (subst (λ l. AllFit l c.edits.entries) c.in-Some.ensures.items c.edits.invariant.0)).1 in
    let back = before_push c.pop.new.self.items c.in-Some.edit c.edits.entries in
    rw (c.take_back.ensures) (rest, sym back ∙ ap (λ l. before l c.edits.entries) (sym c.in-Some.ensures.items) ∙ c.edits.invariant.1)
