use Rattle.std.proofs.Common.{List, ℕ, inl, subst}
use Rattle.sk_log.specs.File.{IsStaged, Stood, StoodOrMore}
use Rattle.sk_disk.proofs.Moments.{joins, weakens}
use Rattle.sk_log.proofs.Writing.{as_staged}
use Rattle.sk_log.proofs.log.add.Goals as goal

pub returns-in_err-stage-clause-any_moment : goal.returns-in_err-stage-clause-any_moment
returns-in_err-stage-clause-any_moment g c = λ events group is_at stages.
    let D = g.D.Disk in
    weakens D.moment D.left_since c.args.disk.now c.stage.new.disk (Stood events) (StoodOrMore events group) (c.stage.ensures.any_moment events is_at) (λ image stood. inl stood)

pub returns-in_err-open_gate-clause-any_moment : goal.returns-in_err-open_gate-clause-any_moment
returns-in_err-open_gate-clause-any_moment g c = λ events group is_at stages.
    let D = g.D.Disk in
    let P = StoodOrMore events group in
    let first = weakens D.moment D.left_since c.args.disk.now c.stage.new.disk (Stood events) P (c.stage.ensures.any_moment events is_at) (λ image stood. inl stood) in
    let there = subst (λ (bytes : List ℕ). IsStaged events c.args.gate bytes (D.may_leave c.stage.new.disk)) stages.is (c.in_ok-stage.ensures.staged events is_at) in
    joins D.moment D.left_since c.args.disk.now c.stage.new.disk c.open_gate.new.disk P first (c.open_gate.ensures.any_moment events group (as_staged group c.args.bytes.now stages) there)

pub returns-clause-any_moment : goal.returns-clause-any_moment
returns-clause-any_moment g c = λ events group is_at stages.
    let D = g.D.Disk in
    let P = StoodOrMore events group in
    let first = weakens D.moment D.left_since c.args.disk.now c.stage.new.disk (Stood events) P (c.stage.ensures.any_moment events is_at) (λ image stood. inl stood) in
    let there = subst (λ (bytes : List ℕ). IsStaged events c.args.gate bytes (D.may_leave c.stage.new.disk)) stages.is (c.in_ok-stage.ensures.staged events is_at) in
    joins D.moment D.left_since c.args.disk.now c.stage.new.disk c.open_gate.new.disk P first (c.open_gate.ensures.any_moment events group (as_staged group c.args.bytes.now stages) there)

pub returns-clause-added : goal.returns-clause-added
returns-clause-added g c = λ events group is_at stages.
    let D = g.D.Disk in
    let there = subst (λ (bytes : List ℕ). IsStaged events c.args.gate bytes (D.may_leave c.stage.new.disk)) stages.is (c.in_ok-stage.ensures.staged events is_at) in
    c.in_ok-open_gate.ensures.opened events group (as_staged group c.args.bytes.now stages) there
