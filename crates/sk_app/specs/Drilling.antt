-- The program `drill`.
use denote.Param.Members.{Mut}
use Rattle.std.specs.Prelude.{◌≡◌, ◌⊎◌, ℕ, List, Option, Result, Ok, Err, vec_len}
use Rattle.std.specs.Global.{Vec}
use Rattle.clap.specs.Words.{Text}
use Rattle.sk_compare.specs.declared.difference.Difference.{Difference}
use Rattle.sk_drill.specs.DrillText.{drill_text}
use Rattle.sk_drill.specs.Drilled.{Drills, plan_of}
use Rattle.sk_drill.specs.declared.drill_end.DrillEnd.{DrillEnd}
use Rattle.sk_drill.specs.declared.drill_end.DrillEnd.TheVariants as end
use Rattle.sk_line.specs.Drill.{IsDrill}
use Rattle.sk_line.specs.declared.drill_line.DrillLine.{DrillLine}
use Rattle.sk_policy.specs.declared.delay.DelayRule.{DelayRule}
use Rattle.sk_resp.specs.Spelling.{Bytes}
use Rattle.sk_worker.specs.Run.{Run}
use Rattle.sk_worker.specs.declared.registry.Registry.{Registry}
use Rattle.sk_app.specs.declared.failure.Failure.{Failure}
use Rattle.sk_app.specs.declared.failure.Failure.TheVariants as failure

abbrev pub difference : ℕ → ℕ → Bytes → Bytes → Difference
difference seat place told noted = record { seat = seat; place = place; told = told; noted = noted }

abbrev pub outcome_of : DrillLine → DrillEnd → Result Bytes Failure
outcome_of line (end.Alike d) = Ok (drill_text line.seed line.jobs line.workers line.crashes d.summary)
outcome_of line (end.Differs seat place told noted) = Err (failure.Differs (difference seat place told noted))
outcome_of line end.Memory = Err failure.Memory

-- An end comes to its outcome, or there was no memory for the summary.
abbrev pub IsOutcome : DrillLine → DrillEnd → Result Bytes Failure → Type 0
IsOutcome line how outcome = (outcome ≡ outcome_of line how) ⊎ (outcome ≡ Err failure.Memory)

-- The words are no line of `drill`; then nothing was done. Or there was no memory to read them. Or a drill ran as the line says, and came to this end.
pub data DrillRun (teams : ℕ) (words : List Text) (Untouched : Type 0) (Drills : DrillLine → DrillEnd → Type 0) : Result Bytes Failure → Type 0 where
  refused : ((line : DrillLine) → IsDrill teams words line → ⊥) → Untouched → DrillRun teams words Untouched Drills (Err failure.Line)
  starved : DrillRun teams words Untouched Drills (Err failure.Memory)
  drilled : (line : DrillLine) (how : DrillEnd) (outcome : Result Bytes Failure) → IsDrill teams words line →
      Drills line how → IsOutcome line how outcome → DrillRun teams words Untouched Drills outcome

-- Jobs and delay rules are boxed: what they are made of is as it may be.
module _ {Job Rule : Type 0} {OfJob : Job → Type 0} {OfRule : Rule → Type 0} {Delays : Mut ((rule : Rule) × OfRule rule) (ℕ × Unit {0}) ℕ} where
  -- What these words come to, with the teams before and behind it. Where they are no line of `drill`, the teams are as they were.
  abbrev pub RunsDrill : ((job : Job) × OfJob job → Option (List Run)) → List (DelayRule Rule OfRule Delays) → Vec (Registry Job Rule OfJob OfRule Delays) →
      Vec (Registry Job Rule OfJob OfRule Delays) → List Text → Result Bytes Failure → Type 0
  RunsDrill runs rules teams teams_now words = DrillRun (vec_len teams) words (teams_now ≡ teams)
      (λ line how. Drills runs (plan_of line.seed line.jobs line.workers line.crashes) line.workers rules teams.items teams_now.items how)
