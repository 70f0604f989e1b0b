use Rattle.std.proofs.Common.{◌≡◌, ◌∙◌, Err, sym, subst, ap}
use Rattle.std.proofs.lemmas.Result.{err_from_is_err_and}
use Rattle.sk_limit.specs.Grant.{Grants}
use Rattle.sk_limit.specs.declared.limit_fault.LimitFault.TheVariants as fault
use Rattle.sk_limit.proofs.Granting.{unsent_grant}
use Rattle.sk_limit.proofs.grants.grant.Goals as goal

pub returns-in_err-key-clause-told : goal.returns-in_err-key-clause-told
returns-in_err-key-clause-told g c =
    let carried = g.L.Link.carried c.args.link.now c.args.link.now in
    let p = err_from_is_err_and c.from_residual.result c.from_residual.ensures.1 in
    let is : c.from_residual.result ≡ Err fault.Memory = p.1 ∙ ap (λ f. Err f) p.2 in
    subst (λ result. Grants carried c.args.name.now c.args.most c.args.millis result) (sym is)
    (unsent_grant carried c.args.name.now c.args.most c.args.millis (g.met.L.Link.carried_none c.args.link.now))
