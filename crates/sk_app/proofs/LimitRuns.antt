-- Runs of `limit`.
use Rattle.std.proofs.Common.{◌≡◌, ◌≢◌, ◌≤◌, ℕ, true, nat_le, arith, List, Option, Result, Ok, Err, subst, sym}
use Rattle.std.specs.Result.{IsErrAnd}
use Rattle.std.proofs.lemmas.Bool.Decides.{nat_tests}
use Rattle.clap.specs.Words.{Text}
use Rattle.sk_base.specs.Name.{is_name}
use Rattle.sk_limit.specs.Hold.{is_hold}
use Rattle.sk_link.specs.Call.{Call}
use Rattle.sk_link.specs.Wire.{WireState}
use Rattle.sk_line.specs.Lines.{Reads}
use Rattle.sk_line.specs.Limit.{IsLimit}
use Rattle.sk_line.specs.declared.fault.LineFault.{LineFault}
use Rattle.sk_line.specs.declared.fault.LineFault.TheVariants as line
use Rattle.sk_line.specs.declared.limit_line.LimitLine.{LimitLine}
use Rattle.sk_resp.specs.Spelling.{Bytes}
use Rattle.sk_app.specs.Completing.{DoneOr, IsBroken}
use Rattle.sk_app.specs.Dialogue.{Dialogue, DoorTells}
use Rattle.sk_app.specs.Ending.{Concludes}
use Rattle.sk_app.specs.Failures.{by_line}
use Rattle.sk_app.specs.Hindering.{FailsOver, IsHindered}
use Rattle.sk_app.specs.Limiting.{LimitRun, Limits, asked_by, refused, spoke, starved, wish_of}
use Rattle.sk_app.specs.declared.failure.Failure.{Failure}
use Rattle.sk_app.specs.declared.failure.Failure.TheVariants as failure
use Rattle.sk_app.specs.declared.limit.Asked.{Asked}
use Rattle.sk_app.proofs.Completes.{asked_broken, concluded, or_else}
use Rattle.sk_app.proofs.Tokens.{and_both, is_token}

-- what a line asks is a hold of a limiter
test_of : (a b : ℕ) → a ≤ b → nat_le a b ≡ true
test_of a b h = grind (arith, nat_tests)

pub is_asked : (words : List Text) (line : LimitLine) (first second : ℕ) → IsLimit words line → is_hold (wish_of (asked_by line first second)) ≡ true
is_asked words line first second is =
    let v = is.values in
    let name : is_name 100 line.name ≡ true = subst (λ n. is_name 100 n ≡ true) (sym v.name.2.1) v.name.2.0 in
    and_both _ _ (and_both _ _ (and_both _ _ name (and_both _ _ (test_of 1 line.most v.most.2.least_is) (test_of line.most 1000 v.most.2.most_is)))
    (and_both _ _ (test_of 1 line.millis v.millis.2.least_is) (test_of line.millis 1000000000 v.millis.2.most_is))) (is_token first second)

module _ (words : List Text) (Untouched : Type 0) (Drawn : ℕ → ℕ → Type 0) (Speaks : Asked → Result Bytes Failure → Type 0) where
  pub no_line : (f : LineFault) (r : Result Bytes Failure) → IsErrAnd r (λ e. e ≡ by_line f) → Reads (IsLimit words) (Err f) → Untouched → LimitRun words Untouched Drawn Speaks r
  no_line f (Ok output) h none untouched = absurd h
  no_line line.Refused (Err e) h none untouched = subst (λ x. LimitRun words Untouched Drawn Speaks (Err x)) (sym h) (refused none untouched)
  no_line line.Memory (Err e) h none untouched = subst (λ x. LimitRun words Untouched Drawn Speaks (Err x)) (sym h) starved

  pub no_memory : (r : Result Bytes Failure) → IsErrAnd r (λ e. e ≡ failure.Memory) → LimitRun words Untouched Drawn Speaks r
  no_memory (Ok output) h = absurd h
  no_memory (Err e) h = subst (λ x. LimitRun words Untouched Drawn Speaks (Err x)) (sym h) starved

module _ {Conn : Type 0} (before after : DoorTells Conn) (Carries : WireState Conn → WireState Conn → List Call → Type 0)
    (words : List Text) (Untouched : Type 0) (Drawn : ℕ → ℕ → Type 0) where
  limit_ran : (line : LimitLine) (outcome : Result Bytes Failure) → IsLimit words line →
      LimitRun words Untouched Drawn (λ asked outcome. Dialogue before after (λ a b outcome. Limits asked (Carries a b) outcome) outcome) outcome → IsHindered outcome →
      (asked : Asked) × IsLimit words asked.line × IsBroken before after Carries (FailsOver (Limits asked))
  limit_ran line outcome is (refused none untouched) hindered = absurd (none line is)
  limit_ran line outcome is starved hindered = absurd hindered
  limit_ran line outcome is (spoke own first second outcome0 is0 drawn speaks) hindered = (
    asked_by own first second,
    is0,
    asked_broken before after Carries Limits (asked_by own first second) outcome speaks hindered,
  )

  pub limit_completes : (line : LimitLine) (outcome : Result Bytes Failure) (status : ℕ) (taken taken' : Option Bytes) → IsLimit words line →
      LimitRun words Untouched Drawn (λ asked outcome. Dialogue before after (λ a b outcome. Limits asked (Carries a b) outcome) outcome) outcome →
      Concludes outcome status taken taken' → status ≢ 4 →
      DoneOr ((asked : Asked) × IsLimit words asked.line × IsBroken before after Carries (FailsOver (Limits asked))) status
  limit_completes line outcome status taken taken' is came told whole =
      or_else (IsHindered outcome) _ status (concluded outcome status taken taken' told whole) (limit_ran line outcome is came)
