use Rattle.std.proofs.Common.{[], ◌∷◌, ◌++◌, subst, sym, ◌∙◌, refl, arith}
use Rattle.std.specs.Fmt.{decimal}
use Rattle.sk_resp.specs.Reading.{goes, Took, given, Fails}
use Rattle.sk_resp.proofs.Items.{first_byte}
use Rattle.sk_resp.proofs.Fronts.{header-spelt, some_taken}
use Rattle.sk_resp.proofs.request.state.State.take_header.Goals as goal

pub returns-then-n-le-MOST_WORDS-clause-ok : goal.returns-then-n-le-MOST_WORDS-clause-ok
returns-then-n-le-MOST_WORDS-clause-ok c =
    let n = c.in-Some.n in
    let input = c.args.input.now in (
      (some_taken c.in-Some.taken input 42 (decimal n ++ 13 ∷ 10 ∷ []) c.in-Some.ensures.2, c.in-Some.ensures.0),
      goes c.open_array.ensures.is_open (c.open_array.ensures.seen ∙ header-spelt n ∙ sym c.in-Some.ensures.2) refl,
    )

pub returns-in-Ok-clause-ok : goal.returns-in-Ok-clause-ok
returns-in-Ok-clause-ok c = (
  (omega arith, omega (arith, c.requires.some)),
  subst (λ z. Took z (given c.in-Ok.found) c.take_start.new.self) (sym (first_byte c.args.input.now c.requires.some)) c.in-Ok.ensures.ok,
)

pub returns-in-Err-clause-fault : goal.returns-in-Err-clause-fault
returns-in-Err-clause-fault c = subst (λ z. Fails z c.in-Err.fault) (sym (first_byte c.args.input.now c.requires.some)) c.in-Err.ensures.fault
