-- What is unread stays so while it is read into the buffer.
use Rattle.std.proofs.Common.{◌≡◌, ◌++◌, ◌+◌, ◌-◌, ◌^◌, ◌<◌, ◌≤◌, inl, inr, ℕ, [], Option, Some, None, length, take, drop, refl, sym, ap, subst, ◌∙◌, append_assoc, length-append, arith}
use Rattle.std.proofs.lemmas.List.{take-append-le, take-take, take-append-drop, take_rest, take_all}
use Rattle.std.proofs.Math.Seq.{take-append-add, take-add}
use Rattle.std.specs.Prelude.{IfSome, IfNone, codes}
use Rattle.sk_base.specs.Outside.{Gives}
use Rattle.sk_resp.specs.Spelling.{Bytes, line}
use Rattle.sk_resp.specs.ReplyStream.{IsReplyPart, null_text}
use Rattle.sk_link.specs.Fault.{IsAtEnd, IsNoReply, IsReplyCause, IsStuck}
use Rattle.sk_link.specs.declared.link.LinkFault.TheVariants.{Unreadable}
use Rattle.sk_link.specs.Wire.{unread_of}

pub read_same : (old now piece : Bytes) (before after : Option Bytes) → now ≡ old ++ piece → Gives before piece after → unread_of now after ≡ unread_of old before
read_same old now piece None after is g = ap (λ o. unread_of now o) g
read_same old now piece (Some b) after is g =
    ap (λ o. unread_of now o) g.2 ∙ ap (λ t. Some t) (ap (λ t. t ++ g.0) is ∙ append_assoc old piece g.0 ∙ ap (λ t. old ++ t) (sym g.1))

-- A whole reply leaves the buffer.
pub reply_leaves : (buffer text rest : Bytes) (left : Option Bytes) → buffer ≡ text ++ rest → Gives (unread_of buffer left) text (unread_of rest left)
reply_leaves buffer text rest None is = refl
reply_leaves buffer text rest (Some left) is = (rest ++ left, ap (λ t. t ++ left) is ∙ append_assoc text rest left, refl)

-- No reply can stand in front of what was read, whatever the source has left.
pub stuck_cause : (before now : ℕ) (buffer kept : Bytes) (left : Option Bytes) → IsStuck buffer → kept ≡ take 64 buffer →
    IsReplyCause before now (unread_of buffer left) (Unreadable kept)
stuck_cause before now buffer kept None stuck is = tt
stuck_cause before now buffer kept (Some left) stuck is = record { read = buffer; left = left; unread_is = refl; no_reply = inl stuck; kept_is = is }

-- Nor does one where the input has ended.
pub ended_cause : (before now : ℕ) (buffer kept : Bytes) (left : Option Bytes) → IsNoReply buffer → IsAtEnd left → kept ≡ take 64 buffer →
    IsReplyCause before now (unread_of buffer left) (Unreadable kept)
ended_cause before now buffer kept None none end is = tt
ended_cause before now buffer kept (Some left) none end is = record { read = buffer; left = left; unread_is = refl; no_reply = inr (end, none); kept_is = is }

-- What a read wrote behind the bytes of a buffer, of which the rest is cut off.
pub written : (old room piece more behind now : Bytes) (len n most : ℕ) → now ≡ take (len + n) (take most ((take len room ++ (piece ++ more)) ++ behind)) →
    len + n ≤ most → take len room ≡ old → length old ≡ len → n ≤ length piece → now ≡ old ++ take n piece
written old room piece more behind now len n most is fits front size within =
    let all : Bytes = old ++ (piece ++ more) in
    let long : len + n ≤ length all = omega (arith, size, within, length-append old (piece ++ more), length-append piece more) in
    is
    ∙ ap (λ t. take (len + n) (take most ((t ++ (piece ++ more)) ++ behind))) front
    ∙ take-take (len + n) most (all ++ behind) fits
    ∙ take-append-le (len + n) all behind long
    ∙ ap (λ k. take (k + n) all) (sym size)
    ∙ take-append-add old (piece ++ more) n
    ∙ ap (λ t. old ++ t) (take-append-le n piece more within)

-- ## Lines of a buffer

-- What the reader was given, with one line more.
pub lines_add : (kept bytes now : Bytes) (at n : ℕ) → now ≡ kept ++ take at bytes → now ++ take ((at + n) - at) (drop at bytes) ≡ kept ++ take (at + n) bytes
lines_add kept bytes now at n is =
    let same : (at + n) - at ≡ n = omega arith in
    ap (λ k. now ++ take k (drop at bytes)) same
    ∙ ap (λ t. t ++ take n (drop at bytes)) is
    ∙ append_assoc kept (take at bytes) (take n (drop at bytes))
    ∙ ap (λ t. kept ++ t) (sym (take-add at n bytes))

stuck_on : (bytes more : Bytes) → IsStuck bytes → IsStuck (bytes ++ more)
stuck_on bytes more stuck tail = subst (λ t. IsNoReply t) (sym (append_assoc bytes more tail)) (stuck (more ++ tail))

-- The reader stops in a line, and so in all bytes.
pub stuck_in : (kept bytes now : Bytes) (at n : ℕ) → now ≡ kept ++ take at bytes → IsStuck (now ++ take ((at + n) - at) (drop at bytes)) → IsStuck (kept ++ bytes)
stuck_in kept bytes now at n is stuck =
    let front : IsStuck (kept ++ take (at + n) bytes) = subst (λ t. IsStuck t) (lines_add kept bytes now at n is) stuck in
    subst (λ t. IsStuck t)
    (append_assoc kept (take (at + n) bytes) (drop (at + n) bytes) ∙ ap (λ t. kept ++ t) (take-append-drop (at + n) bytes))
    (stuck_on (kept ++ take (at + n) bytes) (drop (at + n) bytes) front)

pub none_gives : {A : Type 0} (o : Option A) (P : Type 0) → IfNone o P → o ≡ None → P
none_gives None P h is = h
none_gives (Some x) P h is = absurd (cc is)

pub some_gives : {A : Type 0} (o : Option A) (x : A) (P : A → Type 0) → IfSome o P → o ≡ Some x → P x
some_gives o x P h is = subst (λ q. IfSome q P) is h

-- The reader was given all of a buffer, in two parts.
pub whole_buffer : (rest items now : Bytes) (at : ℕ) → rest ≡ take at items → now ≡ items → rest ++ take (length now - at) (drop at now) ≡ items
whole_buffer rest items now at is same =
    ap (λ t. rest ++ t) (take_rest now at) ∙ ap (λ t. rest ++ drop at t) same ∙ ap (λ t. t ++ drop at items) is ∙ take-append-drop at items

-- A reply is taken off the front of a buffer.
pub reply_off : (rest items now text : Bytes) (at used : ℕ) → rest ≡ take at items → now ≡ items → text ≡ rest ++ take used (take (length now - at) (drop at now)) → items ≡ text ++ drop (at + used) items
reply_off rest items now text at used is same e =
    let front : text ≡ take (at + used) items =
    e ∙ ap (λ t. rest ++ take used t) (take_rest now at) ∙ ap (λ t. rest ++ take used (drop at t)) same ∙ ap (λ t. t ++ take used (drop at items)) is ∙ sym (take-add at used items) in
    sym (ap (λ t. t ++ drop (at + used) items) front ∙ take-append-drop (at + used) items)

-- ## A reply that hasn't come

-- The reader was given nothing.
pub nothing_part : IsReplyPart []
nothing_part = record {
  more = line (codes "$-1");
  whole = record { nested = inl (null_text refl); short = omega arith };
  some = omega arith;
}

pub short_part : (part : Bytes) → IsReplyPart part → length part < 2 ^ 32
short_part part p = omega (arith, p.some, p.whole.short, length-append part p.more)

-- A read that gave nothing left the buffer as it was.
pub nothing_read : (old now : Bytes) (n : ℕ) → n ≡ 0 → length now ≡ length old + n → take (length old) now ≡ old → now ≡ old
nothing_read old now n none size kept = sym (take_all (length old) now (omega (arith, none, size))) ∙ kept
