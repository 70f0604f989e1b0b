use Rattle.std.proofs.Common.{◌++◌, take, subst, sym, ap, ◌∙◌, arith, append-nil}
use Rattle.sk_resp.specs.Spelling.{header}
use Rattle.sk_resp.specs.Request.{bulks}
use Rattle.sk_resp.specs.Reading.{Took, given, Fails, seen_at}
use Rattle.sk_resp.specs.declared.request.state.Stage.TheVariants.{Mark}
use Rattle.sk_resp.proofs.Items.{first_byte}
use Rattle.sk_resp.proofs.request.state.State.take_bulk.Goals as goal

pub returns-in-Ok-clause-ok : goal.returns-in-Ok-clause-ok
returns-in-Ok-clause-ok c =
    let s = c.args.self.now in
    let front = header s.count ++ bulks s.words.items in
    let found = rw c.in-Some.is at c.in_ok-front.ensures in (
      found.0,
      subst (λ t. Took t (given c.in-Ok.found) c.add_word.new.self) (ap (λ z. front ++ z) (sym found.2) ∙ ap (λ z. z ++ take c.in-Some.taken c.args.input.now) (sym (append-nil front))) c.in-Ok.ensures.ok,
    )

pub returns-in-Ok-take_mark-clause-ok : goal.returns-in-Ok-take_mark-clause-ok
returns-in-Ok-take_mark-clause-ok c = (
  (omega arith, omega (arith, c.requires.some)),
  subst (λ z. Took (seen_at Mark c.args.self.now ++ z) (given c.in-Ok-take_mark.found) c.take_mark.new.self) (sym (first_byte c.args.input.now c.requires.some)) c.in-Ok-take_mark.ensures.ok,
)

pub returns-in-Err-take_mark-clause-fault : goal.returns-in-Err-take_mark-clause-fault
returns-in-Err-take_mark-clause-fault c = subst (λ z. Fails (seen_at Mark c.args.self.now ++ z) c.in-Err-take_mark.fault) (sym (first_byte c.args.input.now c.requires.some)) c.in-Err-take_mark.ensures.fault
