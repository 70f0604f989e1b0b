-- One argument: what it is read as, or why it isn't.
use Rattle.std.specs.Prelude.{◌≡◌, ◌++◌, ◌==◌, ℤ, pos, int_lt, List, [], ◌∷◌, Option, Some, None, Result, Ok, Err, MatchResult, MatchOption, codes}
use Rattle.std.specs.Bool.{MatchBool}
use Rattle.std.specs.Str.{str_eq_ignore_ascii_case, bytes_eq}
use Rattle.sk_base.specs.Score.{IsScore}
use Rattle.sk_base.specs.declared.score.ScoreFault.{ScoreFault}
use Rattle.sk_base.specs.declared.bound.Bound.{Bound}
use Rattle.sk_base.specs.declared.bound.Bound.TheVariants as bound
use Rattle.sk_base.specs.declared.limits.TheConstants.{MOST_DUE}
use Rattle.sk_resp.specs.Spelling.{Bytes}
use Rattle.sk_resp.specs.Number.{IsInt}
use Rattle.sk_resp.specs.Request.{Command as Words}
use Rattle.sk_cmd.specs.declared.cmd_fault.CmdFault.{CmdFault}
use Rattle.sk_cmd.specs.declared.cmd_fault.CmdFault.TheVariants as fault
use Rattle.sk_cmd.specs.declared.argument.Side.{Side}
use Rattle.sk_cmd.specs.declared.argument.Side.TheVariants as side
use Rattle.sk_cmd.specs.declared.argument.Scored.{Scored}
use Rattle.sk_cmd.specs.declared.argument.Scored.TheVariants as scored
use Rattle.sk_cmd.specs.Reading.{Read, Then}

-- ## Words

-- the word is that text, in upper or lower case
abbrev pub Says : Bytes → Bytes → Type 0 → Type 0 → Type 0
Says word text then other = MatchBool (str_eq_ignore_ascii_case word text) then other

-- the word is that text, in this very case
abbrev pub SaysExactly : Bytes → Bytes → Type 0 → Type 0 → Type 0
SaysExactly word text then other = MatchBool (bytes_eq word text) then other

-- an end of a list
abbrev pub IsSide : Bytes → Read Side → Type 0
IsSide text out = Says text (codes "LEFT") (out ≡ Ok side.Left) (Says text (codes "RIGHT") (out ≡ Ok side.Right) (out ≡ Err fault.Syntax))

-- a set from which jobs become due
abbrev pub IsDueSet : Bytes → Read Scored → Type 0
IsDueSet text out = SaysExactly text (codes "schedule") (out ≡ Ok scored.Schedule) (SaysExactly text (codes "retry") (out ≡ Ok scored.Retry) (out ≡ Err fault.Syntax))

-- one of those, or the dead set
abbrev pub IsScored : Bytes → Read Scored → Type 0
IsScored text out = SaysExactly text (codes "dead") (out ≡ Ok scored.Dead) (IsDueSet text out)

-- ## Numbers

-- an integer of 64 bits in its one spelling
abbrev pub IsWhole : Bytes → Read ℤ → Type 0
IsWhole text out = (n : Option ℤ) × IsInt text n × MatchOption n (out ≡ Err fault.NotInt) (λ z. out ≡ Ok z)

-- one that isn't below 0
abbrev pub IsSlot : Bytes → Read ℤ → Type 0
IsSlot text out = Then (IsWhole text) out (λ z. MatchBool (int_lt z (pos 0)) (out ≡ Err fault.NotInt) (out ≡ Ok z))

-- one from 1 to 1,000
abbrev pub IsLimit : Bytes → Read ℤ → Type 0
IsLimit text out = (n : Option ℤ) × IsInt text n × MatchOption n (out ≡ Err fault.Syntax)
    (λ z. MatchBool (int_lt z (pos 1)) (out ≡ Err fault.Syntax) (MatchBool (int_lt MOST_DUE z) (out ≡ Err fault.Syntax) (out ≡ Ok z)))

-- ## Scores and bounds

-- a score, and this fault where the text is none
abbrev pub IsScoreElse : CmdFault → Bytes → Read ℤ → Type 0
IsScoreElse fault text out = (s : Result ℤ ScoreFault) × IsScore text s × MatchResult s (λ z. out ≡ Ok z) (λ _. out ≡ Err fault)

abbrev pub IsScoreText : Bytes → Read ℤ → Type 0
IsScoreText text out = IsScoreElse fault.NotScore text out

-- a score within the range, or behind `(` one without
abbrev pub IsScoreBound : Bytes → Read Bound → Type 0
IsScoreBound [] out = out ≡ Err fault.BadBound
IsScoreBound (b ∷ text) out = MatchBool (b == 40)
    (Then (IsScoreElse fault.BadBound text) out (λ z. out ≡ Ok (bound.Past z)))
    (Then (IsScoreElse fault.BadBound (b ∷ text)) out (λ z. out ≡ Ok (bound.At z)))

abbrev pub IsBound : Bytes → Read Bound → Type 0
IsBound text out = SaysExactly text (codes "-inf") (out ≡ Ok bound.Low)
    (SaysExactly text (codes "+inf") (out ≡ Ok bound.High)
    (SaysExactly text (codes "inf") (out ≡ Ok bound.High) (IsScoreBound text out)))

-- ## Several words

-- a score, or nothing
abbrev pub IsScoreOption : Words → Read (Option ℤ) → Type 0
IsScoreOption [] out = out ≡ Ok None
IsScoreOption (text ∷ more) out = Then (IsScoreText text) out (λ z. out ≡ Ok (Some z))

-- words by twos
abbrev pub IsPairs : Words → List (Bytes × Bytes) → Read (List (Bytes × Bytes)) → Type 0
IsPairs [] before out = out ≡ Ok before
IsPairs (field ∷ []) before out = out ≡ Err fault.Syntax
IsPairs (field ∷ value ∷ more) before out = IsPairs more (before ++ (field, value) ∷ []) out

-- scores, each with a member behind it
abbrev pub IsScores : Words → List (ℤ × Bytes) → Read (List (ℤ × Bytes)) → Type 0
IsScores [] before out = out ≡ Ok before
IsScores (score ∷ []) before out = out ≡ Err fault.Syntax
IsScores (score ∷ member ∷ more) before out = Then (IsScoreText score) out (λ z. IsScores more (before ++ (z, member) ∷ []) out)
