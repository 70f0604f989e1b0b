-- Statuses of `serve --log`.
use Rattle.std.proofs.Common.{◌≡◌, ◌≢◌, ◌⊎◌, ℕ, Option, Ok, Err, inl, inr, refl, arith, sym, subst, ◌∙◌}
use Rattle.sk_durable.specs.declared.server.KeptFault.{KeptFault}
use Rattle.sk_durable.specs.declared.server.KeptFault.TheVariants as kept
use Rattle.sk_log.specs.declared.fault.LogFault.{LogFault}
use Rattle.sk_log.specs.declared.fault.LogFault.TheVariants as fault
use Rattle.sk_resp.specs.Spelling.{Bytes}
use Rattle.sk_app.specs.LogOutcomes.{fault_status_of}
use Rattle.sk_app.specs.LogServeOutcomes.{LogServeOutcome, Tells, kept_status_of, line_of, status_of}
use Rattle.sk_app.specs.LogServing.{IsOneOf}
use Rattle.sk_app.specs.declared.unserved.Unserved.TheVariants as unserved
use Rattle.sk_app.proofs.LogStatuses.{fault_not_two, reported}

-- an outcome's own
abbrev pub outcome_status : LogServeOutcome → ℕ
outcome_status (Ok summary) = 0
outcome_status (Err why) = status_of why

-- the outcome's own status, or that of a text that wasn't written
pub told_own : (outcome : LogServeOutcome) (status : ℕ) (before after : Option Bytes) → Tells outcome status before after →
    (status ≡ outcome_status outcome) ⊎ (status ≡ 4) ⊎ (status ≡ 5)
told_own (Ok summary) status before after (inl all) = inl all.0
told_own (Ok summary) status before after (inr (inl some)) = inr (inl some.0)
told_own (Ok summary) status before after (inr (inr none)) = inr (inr none.0)
told_own (Err why) status before after told = reported (line_of why) (status_of why) status before after told

-- of another status than these two, it is the outcome's own
pub own_but : (wanted status n : ℕ) → n ≢ 4 → n ≢ 5 → (status ≡ wanted) ⊎ (status ≡ 4) ⊎ (status ≡ 5) → status ≡ n → wanted ≡ n
own_but wanted status n four five (inl is) e = sym is ∙ e
own_but wanted status n four five (inr (inl is)) e = absurd (four (sym e ∙ is))
own_but wanted status n four five (inr (inr is)) e = absurd (five (sym e ∙ is))

log_one : (f : LogFault) → IsOneOf (fault_status_of f)
log_one fault.Memory = inr (inr (inr (inl refl)))
log_one fault.Disk = inr (inr (inr (inr (inr (inl refl)))))
log_one fault.NotALog = inr (inr (inr (inr (inr (inr (inl refl))))))
log_one (fault.Damaged at) = inr (inr (inr (inr (inr (inr (inl refl))))))
log_one fault.Full = inr (inr (inr (inr (inr (inr (inr refl))))))

kept_one : (f : KeptFault) → IsOneOf (kept_status_of f)
kept_one kept.Memory = inr (inr (inr (inl refl)))
kept_one kept.Failed = inr (inr (inr (inr (inl refl))))
kept_one kept.Spent = inr (inr (inr (inr (inl refl))))
kept_one kept.Disk = inr (inr (inr (inr (inr (inl refl)))))
kept_one kept.Astray = inr (inr (inr (inr (inr (inl refl)))))
kept_one kept.Full = inr (inr (inr (inr (inr (inr (inr refl))))))

outcome_one : (outcome : LogServeOutcome) → IsOneOf (outcome_status outcome)
outcome_one (Ok summary) = inl refl
outcome_one (Err unserved.Line) = inr (inl refl)
outcome_one (Err unserved.Memory) = inr (inr (inr (inl refl)))
outcome_one (Err unserved.Shelf) = inr (inr (inr (inr (inr (inl refl)))))
outcome_one (Err (unserved.Log f)) = log_one f
outcome_one (Err (unserved.Kept f)) = kept_one f

one_by : (wanted status : ℕ) → IsOneOf wanted → (status ≡ wanted) ⊎ (status ≡ 4) ⊎ (status ≡ 5) → IsOneOf status
one_by wanted status one (inl is) = subst IsOneOf (sym is) one
one_by wanted status one (inr (inl four)) = inr (inr (inl four))
one_by wanted status one (inr (inr five)) = inr (inr (inr (inl five)))

pub status_one : (outcome : LogServeOutcome) (status : ℕ) (before after : Option Bytes) → Tells outcome status before after → IsOneOf status
status_one outcome status before after told = one_by (outcome_status outcome) status (outcome_one outcome) (told_own outcome status before after told)

kept_not_two : (f : KeptFault) → kept_status_of f ≡ 2 → ⊥
kept_not_two kept.Disk e = omega (arith, e)
kept_not_two kept.Full e = omega (arith, e)
kept_not_two kept.Astray e = omega (arith, e)
kept_not_two kept.Failed e = omega (arith, e)
kept_not_two kept.Spent e = omega (arith, e)
kept_not_two kept.Memory e = omega (arith, e)

line_by : (outcome : LogServeOutcome) → outcome_status outcome ≡ 2 → outcome ≡ Err unserved.Line
line_by (Ok summary) e = absurd (omega (arith, e))
line_by (Err unserved.Line) e = refl
line_by (Err unserved.Memory) e = absurd (omega (arith, e))
line_by (Err unserved.Shelf) e = absurd (omega (arith, e))
line_by (Err (unserved.Log f)) e = absurd (fault_not_two f e)
line_by (Err (unserved.Kept f)) e = absurd (kept_not_two f e)

-- status 2 is that of words that are no line
pub line_alone : (outcome : LogServeOutcome) (status : ℕ) (before after : Option Bytes) → Tells outcome status before after → status ≡ 2 →
    outcome ≡ Err unserved.Line
line_alone outcome status before after told e = line_by outcome
    (own_but (outcome_status outcome) status 2 (λ z. omega (arith, z)) (λ z. omega (arith, z)) (told_own outcome status before after told) e)
