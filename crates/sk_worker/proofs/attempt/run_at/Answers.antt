use Rattle.std.proofs.lemmas.Result.{IfOk-weaker, on_err_weaker}
use Rattle.sk_worker.proofs.Runs.{told_run, told_no_run}
use Rattle.sk_worker.proofs.attempt.run_at.Goals as goal

pub returns-clause-ran : goal.returns-clause-ran
returns-clause-ran g c = IfOk-weaker c.run_one.result _ _
    (λ outcome adds. told_run _ c.args.slots.now c.args.classes.now _ c.args.place c.index-slots-place.result c.run_one.new.slot c.requires.there c.requires.place adds)
    c.run_one.ensures.ran

pub returns-clause-err : goal.returns-clause-err
returns-clause-err g c = on_err_weaker c.run_one.result
    (λ adds. told_no_run _ c.args.slots.now c.args.classes.now c.args.place c.index-slots-place.result c.run_one.new.slot c.requires.there adds)
    c.run_one.ensures.err
