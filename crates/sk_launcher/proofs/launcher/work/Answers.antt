use Rattle.std.proofs.Common.{◌≡◌, ◌∙◌, sym, ap, false, ◌+◌, arith}
use Rattle.std.proofs.lemmas.Bool.{true≢false}
use Rattle.sk_launcher.specs.Working.{hired_worker, hired_workers}
use Rattle.sk_launcher.proofs.Employed.{all_placed, all_up, stood_still}
use Rattle.sk_launcher.proofs.launcher.work.Goals as goal

pub returns-then-len-settings-clause-worked : goal.returns-then-len-settings-clause-worked
returns-then-len-settings-clause-worked g c = stood_still _ _ _ _

pub returns-then-not-are_whole-clause-worked : goal.returns-then-not-are_whole-clause-worked
returns-then-not-are_whole-clause-worked g c = stood_still _ _ _ _

pub returns-then-not-are_whole-clause-taken : goal.returns-then-not-are_whole-clause-taken
returns-then-not-are_whole-clause-taken g c = λ same some most whole.
    let moments = g.C.Clock.moments in
    let all = all_placed (λ w. w.ended ≡ false) (hired_worker moments (λ v. (goal.Job-dyn g v).runs v.1)) c.args.staff.now.items whole.1 in
    absurd (true≢false (sym (c.are_whole.ensures (rw c.deref.ensures.value all)) ∙ c.if-not-are_whole.true))

pub returns-clause-taken : goal.returns-clause-taken
returns-clause-taken g c = λ same some most whole.
    let moments = g.C.Clock.moments in
    let settings = c.args.settings.now in
    let turns = c.new.ensures.turns ∙ c.turns_of.ensures.is some in
    let polls = c.new.ensures.polls (c.turns_of.ensures.few some) ∙ ap (λ n. n + 1) (c.turns_of.ensures.is some) in
    let taken = c.run_threads.ensures.taken (omega (arith, most.0, polls), all_up (λ w. w.tally.taken) c.new.result.turns (hired_workers moments (λ v. (goal.Job-dyn g v).runs v.1) c.args.staff.now.items) most.1) whole in
    (taken.0 ∙ polls, rw turns at taken.1)
