-- Statuses.
use Rattle.std.proofs.Common.{◌≡◌, ℕ, Option, Result, Ok, Err, inl, inr, refl, arith, sym, ◌∙◌}
use Rattle.sk_resp.specs.Spelling.{Bytes}
use Rattle.sk_link.specs.declared.link.LinkFault.TheVariants as link
use Rattle.sk_app.specs.Ending.{Concludes, Writes}
use Rattle.sk_app.specs.declared.failure.Failure.{Failure}
use Rattle.sk_app.specs.declared.failure.Failure.TheVariants as failure

not_two : (text : Bytes) (wanted status : ℕ) (before after : Option Bytes) → (wanted ≡ 2 → ⊥) → Writes text wanted status before after → status ≡ 2 → ⊥
not_two text wanted status before after other (inl w) e = other (sym w.0 ∙ e)
not_two text wanted status before after other (inr (inl w)) e = absurd (omega (arith, w.0, e))
not_two text wanted status before after other (inr (inr w)) e = absurd (omega (arith, w.0, e))

-- status 2 is that of words that are no command line
pub line_alone : (outcome : Result Bytes Failure) (status : ℕ) (before after : Option Bytes) → Concludes outcome status before after → status ≡ 2 → outcome ≡ Err failure.Line
line_alone (Ok output) status before after w e = absurd (not_two output 0 status before after (λ z. omega (arith, z)) w e)
line_alone (Err failure.Line) status before after w e = refl
line_alone (Err failure.Memory) status before after w e = absurd (omega (arith, w.0, e))
line_alone (Err failure.Door) status before after w e = absurd (omega (arith, w.0, e))
line_alone (Err failure.Seats) status before after w e = absurd (not_two _ 6 status before after (λ z. omega (arith, z)) w e)
line_alone (Err (failure.Link link.Failed)) status before after w e = absurd (omega (arith, w.0, e))
line_alone (Err (failure.Link (link.Unreadable bytes))) status before after w e = absurd (not_two _ 6 status before after (λ z. omega (arith, z)) w e)
line_alone (Err (failure.Link link.Ended)) status before after w e = absurd (omega (arith, w.0, e))
line_alone (Err (failure.Link link.Memory)) status before after w e = absurd (omega (arith, w.0, e))
line_alone (Err (failure.Refused r)) status before after w e = absurd (not_two _ 7 status before after (λ z. omega (arith, z)) w e)
line_alone (Err (failure.Cursor bytes)) status before after w e = absurd (not_two _ 7 status before after (λ z. omega (arith, z)) w e)
line_alone (Err failure.GenLimit) status before after w e = absurd (not_two _ 7 status before after (λ z. omega (arith, z)) w e)
line_alone (Err (failure.Differs d)) status before after w e = absurd (not_two _ 8 status before after (λ z. omega (arith, z)) w e)
