use Rattle.std.proofs.Common.{◌≡◌, refl, subst, sym, true}
use Rattle.sk_limit.specs.Hold.{is_hold}
use Rattle.sk_app.specs.Dialogue.{Dials}
use Rattle.sk_app.specs.Limiting.{Limits, spoke, wish_of}
use Rattle.sk_app.proofs.LimitRuns.{is_asked, no_line, no_memory}
use Rattle.sk_app.proofs.limit.outcome_by.Goals as goal

pub returns-in_err-line-clause-told : goal.returns-in_err-line-clause-told
returns-in_err-line-clause-told g c = no_line _ _ _ _ c.in_err-line.field-0.0 c.from_residual.result c.from_residual.ensures.1 c.in_err-line.ensures refl

pub returns-in_err-token-clause-told : goal.returns-in_err-token-clause-told
returns-in_err-token-clause-told g c = no_memory _ _ _ _ c.from_residual-in_err-token.result c.from_residual-in_err-token.ensures.1

pub dial-requires-after_bounds : goal.dial-requires-after_bounds
dial-requires-after_bounds g c κs within =
    let j = c.in_ok-token.ensures in
    subst (λ t. is_hold (wish_of (record { line = c.in_ok-line.line; token = t })) ≡ true) (sym j.3) (is_asked _ c.in_ok-line.line j.0 j.1 c.in_ok-line.ensures)

pub returns-clause-told : goal.returns-clause-told
returns-clause-told g c =
    let j = c.in_ok-token.ensures in
    spoke c.in_ok-line.line j.0 j.1 c.dial.result c.in_ok-line.ensures j.2
    (subst (λ t. Dials g.N.Door g.N.Conn.Source g.N.Conn.Sink c.args.net.now c.dial.new.net (Limits (record { line = c.in_ok-line.line; token = t })) c.dial.result)
    j.3 c.dial.ensures.told)
