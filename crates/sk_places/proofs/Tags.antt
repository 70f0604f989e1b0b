-- Tags of texts: a search by a tag and a text finds what one by the text does.
use Rattle.std.proofs.Common.{◌≡◌, ◌-◌, ◌<◌, ◌≤◌, Bool, true, false, ◌&&◌, List, [], ◌∷◌, Some, None, arith, drop, length, nat_eq, refl, sym, ap, ◌∙◌}
use Rattle.std.specs.Prelude.{unwrap_or}
use Rattle.std.specs.Int.{from_be_bytes, w64}
use Rattle.std.specs.List.{position_or_len}
use Rattle.std.specs.Str.{bytes_eq}
use Rattle.std.proofs.lemmas.Bool.Decides.{nat_tests}
use Rattle.std.proofs.lemmas.Slice.Eq.{bytes_eq-Decides}
use Rattle.sk_resp.specs.Spelling.{Bytes}
use Rattle.sk_payload.specs.Head.{jid_of}
use Rattle.sk_places.specs.declared.row.Row.{Row}
use Rattle.sk_places.specs.Segments.{is_text}
use Rattle.sk_places.specs.Tags.{is_tagged, number_at_end, tag_of}

pub tag_named : (text jid : Bytes) → jid_of text ≡ Some jid → number_at_end jid ≡ tag_of text
unfolding tag_of
tag_named text jid e = ap (λ o. number_at_end (unwrap_or o text)) (sym e)

pub tag_unnamed : (text : Bytes) → jid_of text ≡ None → number_at_end text ≡ tag_of text
unfolding tag_of
tag_unnamed text e = ap (λ o. number_at_end (unwrap_or o text)) (sym e)

pub short_number : (bytes : Bytes) → length bytes < 8 → length bytes ≡ number_at_end bytes
unfolding number_at_end
short_number bytes h = grind (arith, nat_tests, h)

pub long_number : (bytes : Bytes) → 8 ≤ length bytes → from_be_bytes w64 (drop (length bytes - 8) bytes) ≡ number_at_end bytes
unfolding number_at_end
long_number bytes h = grind (arith, nat_tests, h)

tag_itself : (text other : Bytes) → text ≡ other → nat_eq (tag_of text) (tag_of other) ≡ true
tag_itself text other e = let t = ap tag_of e in grind (arith, nat_tests, t)

tagged_is : (text other : Bytes) → is_tagged (tag_of text) text other ≡ bytes_eq text other
tagged_is text other = cases (bytes_eq text other) refl where
  neither : (a : Bool) → a && false ≡ false
  neither true = refl
  neither false = refl

  cases : (b : Bool) → bytes_eq text other ≡ b → is_tagged (tag_of text) text other ≡ bytes_eq text other
  cases false e = ap (λ b. nat_eq (tag_of text) (tag_of other) && b) e ∙ neither (nat_eq (tag_of text) (tag_of other)) ∙ sym e
  cases true e = ap (λ a. a && bytes_eq text other) (tag_itself text other ((bytes_eq-Decides text other).0 e))

pub tagged_at : (text : Bytes) (rows : List Row) → position_or_len (λ row. is_tagged (tag_of text) text row.text) rows ≡ position_or_len (is_text text) rows
tagged_at text [] = refl
tagged_at text (row ∷ rows) = let e = tagged_is text row.text in let m = tagged_at text rows in grind (arith, e, m)
