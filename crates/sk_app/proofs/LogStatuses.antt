-- Statuses of `pipe --log`.
use Rattle.std.proofs.Common.{◌≡◌, ◌⊎◌, ◌≤◌, ℕ, Option, Some, None, Ok, Err, inl, inr, refl, arith, sym, ◌∙◌}
use Rattle.sk_aof.specs.declared.log_end.LogEnd.TheVariants.{Pipe, Fault}
use Rattle.sk_log.specs.declared.fault.LogFault.{LogFault}
use Rattle.sk_log.specs.declared.fault.LogFault.TheVariants as fault
use Rattle.sk_pipe.specs.Run.{status_of as pipe_status_of}
use Rattle.sk_pipe.specs.declared.pipe_end.PipeEnd.{PipeEnd}
use Rattle.sk_pipe.specs.declared.pipe_end.PipeEnd.TheVariants as pipe_end
use Rattle.sk_resp.specs.Spelling.{Bytes}
use Rattle.sk_app.specs.Ending.{Reports}
use Rattle.sk_app.specs.LogOutcomes.{LogOutcome, fault_status_of, line_of, status_of}
use Rattle.sk_app.specs.declared.log_outcome.Unopened.TheVariants as unopened

pub pipe_low : (end : PipeEnd) → pipe_status_of end ≤ 9
pipe_low pipe_end.Done = omega arith
pipe_low pipe_end.Wire = omega arith
pipe_low pipe_end.Cut = omega arith
pipe_low pipe_end.ReadFault = omega arith
pipe_low pipe_end.WriteFault = omega arith
pipe_low pipe_end.Memory = omega arith
pipe_low pipe_end.Budget = omega arith

-- the outcome's own status, or that of a line that wasn't written
pub reported : (line : Option Bytes) (wanted status : ℕ) (before after : Option Bytes) → Reports line wanted status before after →
    (status ≡ wanted) ⊎ (status ≡ 4) ⊎ (status ≡ 5)
reported (Some line) wanted status before after (inl all) = inl all.0
reported (Some line) wanted status before after (inr (inl some)) = inr (inl some.0)
reported (Some line) wanted status before after (inr (inr none)) = inr (inr none.0)
reported None wanted status before after told = inl told.0

-- of status 2, of 10 and of those above it, it is the outcome's own
pub own_two : (wanted status : ℕ) → (status ≡ wanted) ⊎ (status ≡ 4) ⊎ (status ≡ 5) → status ≡ 2 → wanted ≡ 2
own_two wanted status (inl is) e = sym is ∙ e
own_two wanted status (inr (inl four)) e = absurd (omega (arith, four, e))
own_two wanted status (inr (inr five)) e = absurd (omega (arith, five, e))

pub own_high : (wanted status n : ℕ) → 10 ≤ n → (status ≡ wanted) ⊎ (status ≡ 4) ⊎ (status ≡ 5) → status ≡ n → wanted ≡ n
own_high wanted status n high (inl is) e = sym is ∙ e
own_high wanted status n high (inr (inl four)) e = absurd (omega (arith, four, e, high))
own_high wanted status n high (inr (inr five)) e = absurd (omega (arith, five, e, high))

fault_few : (f : LogFault) → fault_status_of f ≤ 12
fault_few fault.Disk = omega arith
fault_few fault.NotALog = omega arith
fault_few (fault.Damaged at) = omega arith
fault_few fault.Full = omega arith
fault_few fault.Memory = omega arith

outcome_few : (outcome : LogOutcome) → status_of outcome ≤ 12
outcome_few (Ok (Pipe end)) = omega (arith, pipe_low end)
outcome_few (Ok (Fault f)) = fault_few f
outcome_few (Err unopened.Line) = omega arith
outcome_few (Err unopened.Memory) = omega arith
outcome_few (Err unopened.Shelf) = omega arith

few_by : (wanted status : ℕ) → wanted ≤ 12 → (status ≡ wanted) ⊎ (status ≡ 4) ⊎ (status ≡ 5) → status ≤ 12
few_by wanted status few (inl is) = omega (arith, is, few)
few_by wanted status few (inr (inl four)) = omega (arith, four)
few_by wanted status few (inr (inr five)) = omega (arith, five)

pub status_few : (outcome : LogOutcome) (status : ℕ) (before after : Option Bytes) → Reports (line_of outcome) (status_of outcome) status before after → status ≤ 12
status_few outcome status before after told = few_by (status_of outcome) status (outcome_few outcome) (reported (line_of outcome) _ status before after told)

pub fault_not_two : (f : LogFault) → fault_status_of f ≡ 2 → ⊥
fault_not_two fault.Disk e = omega (arith, e)
fault_not_two fault.NotALog e = omega (arith, e)
fault_not_two (fault.Damaged at) e = omega (arith, e)
fault_not_two fault.Full e = omega (arith, e)
fault_not_two fault.Memory e = omega (arith, e)

pipe_not_two : (end : PipeEnd) → pipe_status_of end ≡ 2 → ⊥
pipe_not_two pipe_end.Done e = omega (arith, e)
pipe_not_two pipe_end.Wire e = omega (arith, e)
pipe_not_two pipe_end.Cut e = omega (arith, e)
pipe_not_two pipe_end.ReadFault e = omega (arith, e)
pipe_not_two pipe_end.WriteFault e = omega (arith, e)
pipe_not_two pipe_end.Memory e = omega (arith, e)
pipe_not_two pipe_end.Budget e = omega (arith, e)

line_by : (outcome : LogOutcome) → status_of outcome ≡ 2 → outcome ≡ Err unopened.Line
line_by (Ok (Pipe end)) e = absurd (pipe_not_two end e)
line_by (Ok (Fault f)) e = absurd (fault_not_two f e)
line_by (Err unopened.Line) e = refl
line_by (Err unopened.Memory) e = absurd (omega (arith, e))
line_by (Err unopened.Shelf) e = absurd (omega (arith, e))

-- status 2 is that of words that are no line
pub line_alone : (outcome : LogOutcome) (status : ℕ) (before after : Option Bytes) → Reports (line_of outcome) (status_of outcome) status before after → status ≡ 2 →
    outcome ≡ Err unopened.Line
line_alone outcome status before after told e = line_by outcome (own_two (status_of outcome) status (reported (line_of outcome) _ status before after told) e)
