-- An argument is one thing.
use Rattle.std.proofs.Common.{◌≡◌, ℤ, pos, List, [], ◌∷◌, ◌++◌, refl, sym, ap, ◌∙◌, Option, Some, None}
use Rattle.std.specs.Prelude.{codes, int_lt, ◌==◌, is_some}
use Rattle.std.specs.Str.{str_eq_ignore_ascii_case, bytes_eq}
use Rattle.sk_base.proofs.Scores.{score_same}
use Rattle.sk_resp.specs.Spelling.{Bytes}
use Rattle.sk_resp.specs.Number.{IsInt}
use Rattle.sk_resp.specs.Request.{Command as Words}
use Rattle.sk_resp.proofs.Integers.{signed_same}
use Rattle.sk_cmd.specs.declared.cmd_fault.CmdFault.{CmdFault}
use Rattle.sk_cmd.specs.declared.cmd_fault.CmdFault.TheVariants as fault
use Rattle.sk_cmd.specs.declared.options.SetSoFar.{SetSoFar}
use Rattle.sk_cmd.specs.declared.options.SetNext.{SetNext}
use Rattle.sk_cmd.specs.declared.options.SetNext.TheVariants as set
use Rattle.sk_cmd.specs.declared.options.RangeSoFar.{RangeSoFar}
use Rattle.sk_cmd.specs.declared.options.RangeNext.{RangeNext}
use Rattle.sk_cmd.specs.declared.options.RangeNext.TheVariants as range
use Rattle.sk_cmd.specs.Arguments.{IsSide, IsDueSet, IsScored, IsWhole, IsSlot, IsLimit, IsScoreElse, IsScoreText, IsScoreBound, IsBound, IsScoreOption, IsPairs, IsScores}
use Rattle.sk_cmd.specs.Options.{expires, IsSetWord, IsSetLast, IsSetOptions, IsRangeWord, IsRangeLast, IsRangeOptions, IsWithScores}
use Rattle.sk_cmd.proofs.Agree.{Agree, is_agrees, bool_agrees, then_agrees, follows_agrees, option_agrees, result_agrees}

pub int_same : (text : Bytes) (m n : Option ℤ) → IsInt text m → IsInt text n → m ≡ n
int_same text None None p q = refl
int_same text None (Some z) p (fits, e) = absurd (p z fits e)
int_same text (Some z) None (fits, e) q = absurd (q z fits e)
int_same text (Some y) (Some z) (fits, e) (fits', e') = ap Some (signed_same y z fits fits' (sym e ∙ e'))

pub side_agrees : (text : Bytes) → Agree (IsSide text)
side_agrees text = bool_agrees (str_eq_ignore_ascii_case text (codes "LEFT")) (is_agrees _) (bool_agrees (str_eq_ignore_ascii_case text (codes "RIGHT")) (is_agrees _) (is_agrees _))

pub due_set_agrees : (text : Bytes) → Agree (IsDueSet text)
due_set_agrees text = bool_agrees (bytes_eq text (codes "schedule")) (is_agrees _) (bool_agrees (bytes_eq text (codes "retry")) (is_agrees _) (is_agrees _))

pub scored_agrees : (text : Bytes) → Agree (IsScored text)
scored_agrees text = bool_agrees (bytes_eq text (codes "dead")) (is_agrees _) (due_set_agrees text)

pub whole_agrees : (text : Bytes) → Agree (IsWhole text)
whole_agrees text = follows_agrees (int_same text) (λ n. option_agrees n (is_agrees _) (λ z. is_agrees _))

pub slot_agrees : (text : Bytes) → Agree (IsSlot text)
slot_agrees text = then_agrees (whole_agrees text) (λ z. bool_agrees (int_lt z (pos 0)) (is_agrees _) (is_agrees _))

pub limit_agrees : (text : Bytes) → Agree (IsLimit text)
limit_agrees text = follows_agrees (int_same text) (λ n. option_agrees n (is_agrees _) (λ z. bool_agrees (int_lt z (pos 1)) (is_agrees _) (bool_agrees (int_lt (pos 1000) z) (is_agrees _) (is_agrees _))))

score_else_agrees : (e : CmdFault) (text : Bytes) → Agree (IsScoreElse e text)
score_else_agrees e text = follows_agrees (score_same text) (λ s. result_agrees s (λ z. is_agrees _) (λ f. is_agrees _))

pub score_text_agrees : (text : Bytes) → Agree (IsScoreText text)
score_text_agrees text = score_else_agrees fault.NotScore text

score_bound_agrees : (text : Bytes) → Agree (IsScoreBound text)
score_bound_agrees [] = is_agrees _
score_bound_agrees (b ∷ text) = bool_agrees (b == 40) (then_agrees (score_else_agrees fault.BadBound text) (λ z. is_agrees _)) (then_agrees (score_else_agrees fault.BadBound (b ∷ text)) (λ z. is_agrees _))

pub bound_agrees : (text : Bytes) → Agree (IsBound text)
bound_agrees text = bool_agrees (bytes_eq text (codes "-inf")) (is_agrees _)
    (bool_agrees (bytes_eq text (codes "+inf")) (is_agrees _)
    (bool_agrees (bytes_eq text (codes "inf")) (is_agrees _) (score_bound_agrees text)))

pub score_option_agrees : (words : Words) → Agree (IsScoreOption words)
score_option_agrees [] = is_agrees _
score_option_agrees (text ∷ more) = then_agrees (score_text_agrees text) (λ z. is_agrees _)

pub pairs_agree : (words : Words) (before : List (Bytes × Bytes)) → Agree (IsPairs words before)
pairs_agree [] before = is_agrees _
pairs_agree (field ∷ []) before = is_agrees _
pairs_agree (field ∷ value ∷ more) before = pairs_agree more (before ++ (field, value) ∷ [])

pub scores_agree : (words : Words) (before : List (ℤ × Bytes)) → Agree (IsScores words before)
scores_agree [] before = is_agrees _
scores_agree (score ∷ []) before = is_agrees _
scores_agree (score ∷ member ∷ more) before = then_agrees (score_text_agrees score) (λ z. scores_agree more (before ++ (z, member) ∷ []))

set_word_agrees : (next : SetNext) (word : Bytes) (before : SetSoFar) → Agree (IsSetWord next word before)
set_word_agrees set.Seconds word before = then_agrees (whole_agrees word) (λ n. is_agrees _)
set_word_agrees set.Millis word before = then_agrees (whole_agrees word) (λ n. is_agrees _)
set_word_agrees set.Word word before = bool_agrees (str_eq_ignore_ascii_case word (codes "NX")) (bool_agrees before.only_new (is_agrees _) (is_agrees _))
    (bool_agrees (expires before.expire) (is_agrees _)
    (bool_agrees (str_eq_ignore_ascii_case word (codes "EX")) (is_agrees _)
    (bool_agrees (str_eq_ignore_ascii_case word (codes "PX")) (is_agrees _) (is_agrees _))))

set_last_agrees : (next : SetNext) (before : SetSoFar) → Agree (IsSetLast next before)
set_last_agrees set.Word before = is_agrees _
set_last_agrees set.Seconds before = is_agrees _
set_last_agrees set.Millis before = is_agrees _

pub set_options_agree : (words : Words) (before : SetSoFar) → Agree (IsSetOptions words before)
set_options_agree [] before = set_last_agrees before.next before
set_options_agree (word ∷ more) before = then_agrees (set_word_agrees before.next word before) (λ after. set_options_agree more after)

range_word_agrees : (next : RangeNext) (word : Bytes) (before : RangeSoFar) → Agree (IsRangeWord next word before)
range_word_agrees range.Skip word before = then_agrees (whole_agrees word) (λ n. is_agrees _)
range_word_agrees (range.Count skip) word before = then_agrees (whole_agrees word) (λ n. is_agrees _)
range_word_agrees range.Word word before = bool_agrees (str_eq_ignore_ascii_case word (codes "WITHSCORES")) (bool_agrees before.with_scores (is_agrees _) (is_agrees _))
    (bool_agrees (str_eq_ignore_ascii_case word (codes "LIMIT")) (bool_agrees (is_some before.limit) (is_agrees _) (is_agrees _)) (is_agrees _))

range_last_agrees : (next : RangeNext) (before : RangeSoFar) → Agree (IsRangeLast next before)
range_last_agrees range.Word before = is_agrees _
range_last_agrees range.Skip before = is_agrees _
range_last_agrees (range.Count skip) before = is_agrees _

pub range_options_agree : (words : Words) (before : RangeSoFar) → Agree (IsRangeOptions words before)
range_options_agree [] before = range_last_agrees before.next before
range_options_agree (word ∷ more) before = then_agrees (range_word_agrees before.next word before) (λ after. range_options_agree more after)

pub with_scores_agree : (words : Words) → Agree (IsWithScores words)
with_scores_agree [] = is_agrees _
with_scores_agree (word ∷ more) = bool_agrees (str_eq_ignore_ascii_case word (codes "WITHSCORES")) (is_agrees _) (is_agrees _)
