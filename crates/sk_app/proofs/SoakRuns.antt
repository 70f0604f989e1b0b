-- Runs of `soak`.
use Rattle.std.proofs.Common.{◌≡◌, List, Result, Ok, Err, subst, sym}
use Rattle.std.specs.Result.{IsErrAnd}
use Rattle.clap.specs.Words.{Text}
use Rattle.sk_resp.specs.Spelling.{Bytes}
use Rattle.sk_line.specs.Lines.{Reads}
use Rattle.sk_line.specs.Soak.{IsSoak}
use Rattle.sk_line.specs.declared.fault.LineFault.{LineFault}
use Rattle.sk_line.specs.declared.fault.LineFault.TheVariants as line
use Rattle.sk_line.specs.declared.soak_line.SoakLine.{SoakLine}
use Rattle.sk_app.specs.Failures.{by_line}
use Rattle.sk_app.specs.Soaking.{SoakRun, Soaks, refused, unread, starved}
use Rattle.sk_app.specs.declared.failure.Failure.{Failure}
use Rattle.sk_app.specs.declared.failure.Failure.TheVariants as failure

pub no_line : (words : List Text) (f : LineFault) (r : Result Bytes Failure) → IsErrAnd r (λ e. e ≡ by_line f) → Reads (IsSoak words) (Err f) → SoakRun words r
no_line words f (Ok output) h none = absurd h
no_line words line.Refused (Err e) h none = subst (λ x. SoakRun words (Err x)) (sym h) (refused none)
no_line words line.Memory (Err e) h none = subst (λ x. SoakRun words (Err x)) (sym h) unread

pub no_memory : (asked : SoakLine) (r : Result Bytes Failure) → IsErrAnd r (λ e. e ≡ failure.Memory) → Soaks asked r
no_memory asked (Ok output) h = absurd h
no_memory asked (Err e) h = subst (λ x. Soaks asked (Err x)) (sym h) starved
