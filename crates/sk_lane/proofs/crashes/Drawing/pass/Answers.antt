use Rattle.std.proofs.Common.{◌∙◌, ◌%◌, ◌≢◌, sym, subst, arith}
use Rattle.sk_lane.proofs.Passing.{no_turn, none_left, went_on}
use Rattle.sk_lane.proofs.crashes.Drawing.pass.Goals as goal

pub returns-then-not-self-clause-ok : goal.returns-then-not-self-clause-ok
returns-then-not-self-clause-ok c = no_turn c.args.self.now (sym c.is_off.ensures ∙ c.if-is_off.false) c.if-not-self.true

pub returns-then-draw-ne0-clause-ok : goal.returns-then-draw-ne0-clause-ok
returns-then-draw-ne0-clause-ok c = went_on c.args.self.now c.draw.new.self (sym c.is_off.ensures ∙ c.if-is_off.false) c.if-not-self.false
    (grind (arith, c.if-self-eq0.false)) (subst (λ word. word % 16 ≢ 0) c.draw.ensures.word c.if-draw-ne0.true) c.draw.ensures.behind

pub returns-then-self-eq0-clause-ok : goal.returns-then-self-eq0-clause-ok
returns-then-self-eq0-clause-ok c = none_left c.args.self.now (sym c.is_off.ensures ∙ c.if-is_off.false) c.if-self-eq0.true
