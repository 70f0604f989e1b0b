use Rattle.std.proofs.Common.{◌≡◌, arith, ap, length, get_or, sym, ◌∙◌}
use Rattle.sk_line.proofs.Numbers.{no_plus, no_seed, no_zero, not_empty, seed_read}
use Rattle.sk_line.proofs.value.seed.Goals as goal
use Rattle.sk_line.proofs.value.seed.Goals.{else-first-eq48-via-then-first-eq48+else-bytes-gt1, else-first-eq48-via-else-first-eq48}

pub returns-in_default : goal.returns-in_default
returns-in_default c = λ v h. not_empty c.args.text.now v h (grind (arith, ap length c.as_bytes-bytes.ensures.value))

pub returns-then-first-eq43 : goal.returns-then-first-eq43
returns-then-first-eq43 c = λ v h. no_plus c.args.text.now v h (ap (λ t. get_or t 0 0) (sym c.as_bytes-bytes.ensures.value) ∙ c.if-first-eq43.true)

pub returns-then-bytes-gt1 : goal.returns-then-bytes-gt1
returns-then-bytes-gt1 c = λ v h. no_zero c.args.text.now v h (ap (λ t. get_or t 0 0) (sym c.as_bytes-bytes.ensures.value) ∙ c.if-first-eq48.true)
    (grind (arith, ap length c.as_bytes-bytes.ensures.value, c.if-bytes-gt1.true))

pub returns-in-Ok : goal.returns-in-Ok
returns-in-Ok c =
    let first : get_or c.as_bytes-bytes.result.now 0 0 ≡ get_or c.args.text.now 0 0 = ap (λ t. get_or t 0 0) c.as_bytes-bytes.ensures.value in
    let size : length c.as_bytes-bytes.result.now ≡ length c.args.text.now = ap length c.as_bytes-bytes.ensures.value in
    seed_read c.args.text.now c.parse.result c.in-Ok.word c.parse.ensures.value.0 c.in-Ok.is
    (λ e. c.if-first-eq43.false (first ∙ e))
    (λ e. elim c.else-first-eq48.branch [
      | else-first-eq48-via-then-first-eq48+else-bytes-gt1 w ↦ omega (arith, size, w.if-bytes-gt1.false, c.in-len1-up.len_at_least)
      | else-first-eq48-via-else-first-eq48 w ↦ absurd (w.if-first-eq48.false (first ∙ e))
    ])

pub returns-in-Err : goal.returns-in-Err
returns-in-Err c = λ v h. no_seed c.args.text.now c.parse.result c.in-Err.field-0 v c.parse.ensures.value.0 c.in-Err.is h
