-- Runs of `serve`.
use Rattle.std.proofs.Common.{◌≡◌, List, Result, Ok, Err, subst, sym}
use Rattle.std.specs.Result.{IsErrAnd}
use Rattle.clap.specs.Words.{Text}
use Rattle.sk_resp.specs.Spelling.{Bytes}
use Rattle.sk_line.specs.Lines.{IsServe, Reads}
use Rattle.sk_line.specs.declared.fault.LineFault.{LineFault}
use Rattle.sk_line.specs.declared.fault.LineFault.TheVariants as line
use Rattle.sk_line.specs.declared.serve_line.ServeLine.{ServeLine}
use Rattle.sk_serve.specs.declared.serve_end.ServeEnd.{ServeEnd}
use Rattle.sk_app.specs.Failures.{by_line}
use Rattle.sk_app.specs.Serving.{ServeRun, refused, starved}
use Rattle.sk_app.specs.declared.failure.Failure.{Failure}

pub no_line : (words : List Text) (Untouched : Type 0) (Ended : ServeLine → ServeEnd → Type 0) (f : LineFault) (r : Result Bytes Failure)
    → IsErrAnd r (λ e. e ≡ by_line f) → Reads (IsServe words) (Err f) → Untouched → ServeRun words Untouched Ended r
no_line words Untouched Ended f (Ok output) h none untouched = absurd h
no_line words Untouched Ended line.Refused (Err e) h none untouched = subst (λ x. ServeRun words Untouched Ended (Err x)) (sym h) (refused none untouched)
no_line words Untouched Ended line.Memory (Err e) h none untouched = subst (λ x. ServeRun words Untouched Ended (Err x)) (sym h) starved
