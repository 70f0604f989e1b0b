use Rattle.std.proofs.Common.{◌∷◌, subst, sym, ◌∙◌, ap}
use Rattle.sk_cmd.specs.Arguments.{IsPairs}
use Rattle.sk_cmd.proofs.pairs.read_pairs.Goals as goal

pub loop-field-preserved : goal.loop-field-preserved
loop-field-preserved c = λ out h. c.loop-field.invariant out
    (subst (λ xs. IsPairs xs c.loop-field.list.items out) (sym (c.in-Some.ensures.items ∙ ap (λ xs. c.in-Some.field ∷ xs) c.in-Some-next.ensures.items))
    (subst (λ l. IsPairs c.next-in-Some.new.self.rest.items l out) c.in-Ok.ensures.items h))
