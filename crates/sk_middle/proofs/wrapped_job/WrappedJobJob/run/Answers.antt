use Rattle.std.proofs.Common.{rules, [], ◌∷◌, sym, ap, ◌∙◌, append-nil}
use Rattle.sk_worker.specs.Run.{Run}
use Rattle.sk_middle.specs.GatedRun.{inner_runs, runs_of}
use Rattle.sk_middle.specs.declared.runner.Runner.TheVariants as by
use Rattle.sk_middle.proofs.Gating.{inner_runs-inner, inner_runs-gate, runs_of-append_one, on_err, Takes-none, Takes-wrapped, TellsInner-more}
use Rattle.sk_middle.proofs.wrapped_job.WrappedJobJob.run.Goals as goal

pub invariant_of-self : goal.invariant_of-self
invariant_of-self g c =
    let job = c.args.self.now in
    record {
      tells = TellsInner-more (g.J.Job.runs job.first.value) job.log.gated job.log.gated (g.J.Job.runs job.inner) (g.J.Job.runs c.run.new.self) []
          (search rules) (sym (append-nil (inner_runs job.log.gated))) job.tells;
    }

pub invariant_of-self-in-Go : goal.invariant_of-self-in-Go
invariant_of-self-in-Go g c =
    let job = c.args.self.now in
    let run = c.in_ok-outcome-in-Go in
    record {
      tells = TellsInner-more (g.J.Job.runs job.first.value) job.log.gated c.and-self.result.gated (g.J.Job.runs job.inner) (g.J.Job.runs c.run.new.self)
          (record { head = c.args.head.now; outcome = run.outcome } ∷ []) run.ensures.ran
          (ap inner_runs c.and-self.ensures ∙ inner_runs-inner job.log.gated (record { head = c.args.head.now; outcome = run.outcome })) job.tells;
    }

pub invariant_of-self-in-Raise : goal.invariant_of-self-in-Raise
invariant_of-self-in-Raise g c =
    let job = c.args.self.now in
    record {
      tells = TellsInner-more (g.J.Job.runs job.first.value) job.log.gated c.and-self-in-Raise.result.gated (g.J.Job.runs job.inner) (g.J.Job.runs job.inner) []
          (Takes-none (g.J.Job.runs job.inner))
          (ap inner_runs c.and-self-in-Raise.ensures ∙ inner_runs-gate job.log.gated _) job.tells;
    }

pub returns-in_err-ask-clause-err : goal.returns-in_err-ask-clause-err
returns-in_err-ask-clause-err g c = on_err _ c.from_residual.result (Takes-none _)

pub returns-in_err-outcome-in-Go-clause-err : goal.returns-in_err-outcome-in-Go-clause-err
returns-in_err-outcome-in-Go-clause-err g c =
    let job = c.args.self.now in
    on_err _ c.from_residual-in_err-outcome-in-Go.result
    (Takes-wrapped (g.J.Job.runs job.first.value) job.log.gated job.log.gated (g.J.Job.runs job.inner) (g.J.Job.runs c.run.new.self) [] []
    c.in_err-outcome-in-Go.ensures.err (sym (append-nil (runs_of job.log.gated))))

pub returns-in_ok-outcome-in-Go-clause-ran : goal.returns-in_ok-outcome-in-Go-clause-ran
returns-in_ok-outcome-in-Go-clause-ran g c =
    let job = c.args.self.now in
    let run = c.in_ok-outcome-in-Go in
    let one : Run = record { head = c.args.head.now; outcome = run.outcome } in
    Takes-wrapped (g.J.Job.runs job.first.value) job.log.gated c.and-self.result.gated (g.J.Job.runs job.inner) (g.J.Job.runs c.run.new.self) (one ∷ []) (one ∷ []) run.ensures.ran
    (ap runs_of c.and-self.ensures ∙ runs_of-append_one job.log.gated (record { run = one; by = by.Inner }))

pub returns-in-Raise-clause-ran : goal.returns-in-Raise-clause-ran
returns-in-Raise-clause-ran g c =
    let job = c.args.self.now in
    Takes-wrapped (g.J.Job.runs job.first.value) job.log.gated c.and-self-in-Raise.result.gated (g.J.Job.runs job.inner) (g.J.Job.runs job.inner) [] _ (Takes-none (g.J.Job.runs job.inner))
    (ap runs_of c.and-self-in-Raise.ensures ∙ runs_of-append_one job.log.gated _)
