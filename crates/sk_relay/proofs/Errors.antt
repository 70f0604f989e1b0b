-- The error that the text of an error reply tells.
use Rattle.std.proofs.Common.{◌≡◌, ◌+◌, [], ◌∷◌, length, take, drop, suc, arith, ap, ap₂, sym, refl, ◌∙◌}
use Rattle.std.specs.List.{after_first, before_first, position_or_len}
use Rattle.std.specs.Str.{IsUtf8}
use Rattle.std.proofs.Math.Seq.{take-length}
use Rattle.std.proofs.lemmas.Bool.{cond-false, cond-true, false_from_ne_true}
use Rattle.std.proofs.lemmas.Str.{IsUtf8-from_is_utf8, is_utf8-from_IsUtf8}
use Rattle.sk_resp.specs.Spelling.{Bytes}
use Rattle.sk_resp.specs.declared.reply.Reply.TheVariants as reply
use Rattle.sk_relay.specs.Relaying.{bad_reply, error_of, is_space, refused, told_error}

pub bad_error : (text : Bytes) → (IsUtf8 text → ⊥) → refused (reply.Error text) ≡ bad_reply
bad_error text none = cond-false _ _ _ (false_from_ne_true _ (λ e. none (IsUtf8-from_is_utf8 _ e)))

pub good_error : (text : Bytes) → IsUtf8 text → refused (reply.Error text) ≡ told_error text
good_error text utf8 = cond-true _ _ _ (is_utf8-from_IsUtf8 _ utf8)

-- a class and a message round the first space
pub parted : (text class message : Bytes) → class ≡ before_first is_space text → message ≡ after_first is_space text → error_of class message ≡ told_error text
parted text class message front back = ap₂ error_of front back

drop_past : (text : Bytes) → drop (length text + 1) text ≡ []
drop_past [] = refl
drop_past (b ∷ text) =
    let one_more : length (b ∷ text) + 1 ≡ suc (length text + 1) = omega arith in
    ap (λ n. drop n (b ∷ text)) one_more ∙ drop_past text

-- a class alone, where there is no space
pub alone : (text : Bytes) → position_or_len is_space text ≡ length text → error_of text [] ≡ told_error text
alone text none = ap₂ error_of (sym (ap (λ n. take n text) none ∙ take-length text)) (sym (ap (λ n. drop (n + 1) text) none ∙ drop_past text))
