-- Any argument is a value or a fault.
use Rattle.std.proofs.Common.{◌≡◌, ◌≢◌, ℤ, pos, List, [], ◌∷◌, ◌++◌, Err}
use Rattle.std.specs.Prelude.{codes, int_lt, ◌==◌, is_some}
use Rattle.std.specs.Str.{str_eq_ignore_ascii_case, bytes_eq}
use Rattle.sk_resp.specs.Spelling.{Bytes}
use Rattle.sk_resp.specs.Request.{Command as Words}
use Rattle.sk_cmd.specs.declared.cmd_fault.CmdFault.{CmdFault}
use Rattle.sk_cmd.specs.declared.cmd_fault.CmdFault.TheVariants as fault
use Rattle.sk_cmd.specs.declared.options.SetSoFar.{SetSoFar}
use Rattle.sk_cmd.specs.declared.options.SetNext.{SetNext}
use Rattle.sk_cmd.specs.declared.options.SetNext.TheVariants as set
use Rattle.sk_cmd.specs.declared.options.RangeSoFar.{RangeSoFar}
use Rattle.sk_cmd.specs.declared.options.RangeNext.{RangeNext}
use Rattle.sk_cmd.specs.declared.options.RangeNext.TheVariants as range
use Rattle.sk_cmd.specs.Arguments.{IsSide, IsDueSet, IsScored, IsWhole, IsSlot, IsLimit, IsScoreElse, IsScoreText, IsScoreBound, IsBound, IsScoreOption, IsPairs, IsScores}
use Rattle.sk_cmd.specs.Options.{expires, IsSetWord, IsSetLast, IsSetOptions, IsRangeWord, IsRangeLast, IsRangeOptions, IsWithScores}
use Rattle.sk_cmd.proofs.Exists.{Exists, ok_exists, err_exists, bool_exists, then_exists, follows_exists, option_exists, result_exists}
use Rattle.sk_cmd.proofs.ExistsNumbers.{int_exists, score_exists}

syntax_exists : {A : Type 0} → Exists {A = A} (λ out. out ≡ Err fault.Syntax)
syntax_exists = err_exists fault.Syntax (λ e. cc e)

not_int_exists : {A : Type 0} → Exists {A = A} (λ out. out ≡ Err fault.NotInt)
not_int_exists = err_exists fault.NotInt (λ e. cc e)

pub side_exists : (text : Bytes) → Exists (IsSide text)
side_exists text = bool_exists (str_eq_ignore_ascii_case text (codes "LEFT")) (ok_exists _) (bool_exists (str_eq_ignore_ascii_case text (codes "RIGHT")) (ok_exists _) syntax_exists)

pub due_set_exists : (text : Bytes) → Exists (IsDueSet text)
due_set_exists text = bool_exists (bytes_eq text (codes "schedule")) (ok_exists _) (bool_exists (bytes_eq text (codes "retry")) (ok_exists _) syntax_exists)

pub scored_exists : (text : Bytes) → Exists (IsScored text)
scored_exists text = bool_exists (bytes_eq text (codes "dead")) (ok_exists _) (due_set_exists text)

pub whole_exists : (text : Bytes) → Exists (IsWhole text)
whole_exists text = follows_exists (int_exists text) (λ n. option_exists n not_int_exists (λ z. ok_exists _))

pub slot_exists : (text : Bytes) → Exists (IsSlot text)
slot_exists text = then_exists (whole_exists text) (λ z. bool_exists (int_lt z (pos 0)) not_int_exists (ok_exists _))

pub limit_exists : (text : Bytes) → Exists (IsLimit text)
limit_exists text = follows_exists (int_exists text) (λ n. option_exists n syntax_exists (λ z. bool_exists (int_lt z (pos 1)) syntax_exists (bool_exists (int_lt (pos 1000) z) syntax_exists (ok_exists _))))

score_else_exists : (e : CmdFault) → e ≢ fault.Memory → (text : Bytes) → Exists (IsScoreElse e text)
score_else_exists e n text = follows_exists (score_exists text) (λ s. result_exists s (λ z. ok_exists _) (λ f. err_exists e n))

pub score_text_exists : (text : Bytes) → Exists (IsScoreText text)
score_text_exists text = score_else_exists fault.NotScore (λ e. cc e) text

score_bound_exists : (text : Bytes) → Exists (IsScoreBound text)
score_bound_exists [] = err_exists fault.BadBound (λ e. cc e)
score_bound_exists (b ∷ text) = bool_exists (b == 40) (then_exists (score_else_exists fault.BadBound (λ e. cc e) text) (λ z. ok_exists _)) (then_exists (score_else_exists fault.BadBound (λ e. cc e) (b ∷ text)) (λ z. ok_exists _))

pub bound_exists : (text : Bytes) → Exists (IsBound text)
bound_exists text = bool_exists (bytes_eq text (codes "-inf")) (ok_exists _)
    (bool_exists (bytes_eq text (codes "+inf")) (ok_exists _)
    (bool_exists (bytes_eq text (codes "inf")) (ok_exists _) (score_bound_exists text)))

pub score_option_exists : (words : Words) → Exists (IsScoreOption words)
score_option_exists [] = ok_exists _
score_option_exists (text ∷ more) = then_exists (score_text_exists text) (λ z. ok_exists _)

pub pairs_exist : (words : Words) (before : List (Bytes × Bytes)) → Exists (IsPairs words before)
pairs_exist [] before = ok_exists _
pairs_exist (field ∷ []) before = syntax_exists
pairs_exist (field ∷ value ∷ more) before = pairs_exist more (before ++ (field, value) ∷ [])

pub scores_exist : (words : Words) (before : List (ℤ × Bytes)) → Exists (IsScores words before)
scores_exist [] before = ok_exists _
scores_exist (score ∷ []) before = syntax_exists
scores_exist (score ∷ member ∷ more) before = then_exists (score_text_exists score) (λ z. scores_exist more (before ++ (z, member) ∷ []))

set_word_exists : (next : SetNext) (word : Bytes) (before : SetSoFar) → Exists (IsSetWord next word before)
set_word_exists set.Seconds word before = then_exists (whole_exists word) (λ n. ok_exists _)
set_word_exists set.Millis word before = then_exists (whole_exists word) (λ n. ok_exists _)
set_word_exists set.Word word before = bool_exists (str_eq_ignore_ascii_case word (codes "NX")) (bool_exists before.only_new syntax_exists (ok_exists _))
    (bool_exists (expires before.expire) syntax_exists
    (bool_exists (str_eq_ignore_ascii_case word (codes "EX")) (ok_exists _)
    (bool_exists (str_eq_ignore_ascii_case word (codes "PX")) (ok_exists _) syntax_exists)))

set_last_exists : (next : SetNext) (before : SetSoFar) → Exists (IsSetLast next before)
set_last_exists set.Word before = ok_exists _
set_last_exists set.Seconds before = syntax_exists
set_last_exists set.Millis before = syntax_exists

pub set_options_exist : (words : Words) (before : SetSoFar) → Exists (IsSetOptions words before)
set_options_exist [] before = set_last_exists before.next before
set_options_exist (word ∷ more) before = then_exists (set_word_exists before.next word before) (λ after. set_options_exist more after)

range_word_exists : (next : RangeNext) (word : Bytes) (before : RangeSoFar) → Exists (IsRangeWord next word before)
range_word_exists range.Skip word before = then_exists (whole_exists word) (λ n. ok_exists _)
range_word_exists (range.Count skip) word before = then_exists (whole_exists word) (λ n. ok_exists _)
range_word_exists range.Word word before = bool_exists (str_eq_ignore_ascii_case word (codes "WITHSCORES")) (bool_exists before.with_scores syntax_exists (ok_exists _))
    (bool_exists (str_eq_ignore_ascii_case word (codes "LIMIT")) (bool_exists (is_some before.limit) syntax_exists (ok_exists _)) syntax_exists)

range_last_exists : (next : RangeNext) (before : RangeSoFar) → Exists (IsRangeLast next before)
range_last_exists range.Word before = ok_exists _
range_last_exists range.Skip before = syntax_exists
range_last_exists (range.Count skip) before = syntax_exists

pub range_options_exist : (words : Words) (before : RangeSoFar) → Exists (IsRangeOptions words before)
range_options_exist [] before = range_last_exists before.next before
range_options_exist (word ∷ more) before = then_exists (range_word_exists before.next word before) (λ after. range_options_exist more after)

pub with_scores_exist : (words : Words) → Exists (IsWithScores words)
with_scores_exist [] = ok_exists _
with_scores_exist (word ∷ more) = bool_exists (str_eq_ignore_ascii_case word (codes "WITHSCORES")) (ok_exists _) syntax_exists
