-- The world's live jobs are those whose life is Live.
use Rattle.std.proofs.Common.{◌≡◌, ◌+◌, suc, List, [], ◌∷◌, length, refl, arith, Bool, true, false, cond, ◌||◌}
use Rattle.std.specs.List.{list_any}
use Rattle.std.specs.Str.{bytes_eq}
use Rattle.std.specs.BTreeMap.{is_at}
use Rattle.std.specs.BTreeSet.{insert_key}
use Rattle.std.proofs.lemmas.Map.Text.{is_eq-slice_cmp}
use Rattle.sk_resp.specs.Spelling.{Bytes}
use Rattle.sk_resp.specs.WordOrder.{text_cmp}
use Rattle.sk_model.specs.Life.{is_distinct}
use Rattle.sk_places.specs.LiveJobs.{without_jid}
use Rattle.sk_model.proofs.Tools.Texts.{bytes_tell}

-- a list of jobs has this one
abbrev pub has_jid : Bytes → List Bytes → Bool
has_jid jid live = list_any (is_at (text_cmp jid)) live

pub at_is : (a b : Bytes) → is_at (text_cmp a) b ≡ bytes_eq a b
at_is a b = is_eq-slice_cmp a b

-- ## Lists of jobs

pub has_inserted : (live : List Bytes) (jid other : Bytes) → has_jid other (insert_key text_cmp live jid) ≡ bytes_eq other jid || has_jid other live
has_inserted [] jid other = grind (arith, at_is other jid)
has_inserted (x ∷ live) jid other = grind (arith, has_inserted live jid other, at_is other jid, at_is jid x, bytes_tell)

pub has_left : (live : List Bytes) (jid other : Bytes) → bytes_eq other jid ≡ false → has_jid other live ≡ true → has_jid other (without_jid jid live) ≡ true
has_left [] jid other apart there = there
has_left (x ∷ live) jid other apart there = grind (arith, has_left live jid other apart, at_is other x, at_is jid x, bytes_tell)

pub had_before : (live : List Bytes) (jid other : Bytes) → has_jid other (without_jid jid live) ≡ true → has_jid other live ≡ true
had_before [] jid other there = there
had_before (x ∷ live) jid other there = grind (arith, had_before live jid other, there)

pub had_other : (live : List Bytes) (jid : Bytes) → is_distinct live ≡ true → has_jid jid (without_jid jid live) ≡ false
had_other [] jid distinct = refl
had_other (x ∷ live) jid distinct = grind (arith, had_other live jid, distinct, at_is jid x, bytes_tell)

pub length_inserted : (live : List Bytes) (jid : Bytes) → has_jid jid live ≡ false → length (insert_key text_cmp live jid) ≡ suc (length live)
length_inserted [] jid none = refl
length_inserted (x ∷ live) jid none = grind (arith, length_inserted live jid, none)

pub length_left : (live : List Bytes) (jid : Bytes) → length (without_jid jid live) + cond (has_jid jid live) 1 0 ≡ length live
length_left [] jid = refl
length_left (x ∷ live) jid = grind (arith, length_left live jid)

pub distinct_inserted : (live : List Bytes) (jid : Bytes) → has_jid jid live ≡ false → is_distinct live ≡ true → is_distinct (insert_key text_cmp live jid) ≡ true
distinct_inserted [] jid none distinct = refl
distinct_inserted (x ∷ live) jid none distinct = grind (arith, distinct_inserted live jid, none, distinct, has_inserted live jid x, at_is x jid, at_is jid x, bytes_tell)

pub distinct_left : (live : List Bytes) (jid : Bytes) → is_distinct live ≡ true → is_distinct (without_jid jid live) ≡ true
distinct_left [] jid distinct = refl
distinct_left (x ∷ live) jid distinct = grind (arith, distinct_left live jid, distinct, had_before live jid x)
