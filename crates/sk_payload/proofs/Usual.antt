-- Texts in their usual form: what their values are, and how they are read piece by piece.
use Rattle.std.proofs.Common.{◌≡◌, ℕ, ℤ, pos, negsuc, suc, ◌+◌, ◌*◌, ◌-◌, ◌^◌, ◌<◌, ◌≤◌, ◌++◌, List, [], ◌∷◌, length, take, drop, get_or, set, get_or-set_same, get_or-set_other, Bool, true, false, cond, Option, Some, None, IfSome, option_map, codes, option_and_then, Ordering, Less, Equal, Greater, bytes_eq, true≢false, refl, sym, ap, ap₂, ◌∙◌, subst, append_assoc, append-nil, arith, length-append, length-take, length-drop, get_or-take, take-add, take_all, replicate}
use Rattle.std.specs.Str.{IsUtf8}
use Rattle.std.specs.Prelude.{⊤, nat_abs}
use lib.Signed.{lt_z}
use Rattle.std.specs.Ordering.{match_ordering, nat_cmp, ordering_reverse}
use Rattle.std.proofs.lemmas.Cmp.{nat_list_cmp_total}
use Rattle.std.specs.Cmp.Lexicographic.{slice_cmp}
use Rattle.std.proofs.lemmas.Bool.{or_parts}
use Rattle.std.proofs.lemmas.Str.{is_utf8-from_IsUtf8}
use Rattle.std.proofs.lemmas.List.{take_more, take_rest, get_or-drop, get_or-replicate}
use Rattle.std.proofs.lemmas.Grind.{flat_map-append}
use Rattle.std.proofs.lemmas.Fmt.{decimal_nonempty}
use Rattle.std.specs.Fmt.{decimal, signed_decimal}
use Rattle.std.proofs.lemmas.Option.{same_Some}
use Rattle.std.proofs.lemmas.Slice.Eq.{bytes_eq-Decides}
use Rattle.json.specs.Json as json
use Rattle.json.specs.Lex.{tokens}
use Rattle.json.specs.Print.{quoted, escape, escape_byte}
use Rattle.json.specs.Token.{Token}
use Rattle.json.specs.Tree as tree
use Rattle.json.specs.Tree.{json_tokens}
use Rattle.json.proofs.Printed.Strings.{escape_byte_plain}
use Rattle.json.proofs.Printed.Tokens.{tokens-print}
use Rattle.json.proofs.Printed.Trees.{value-json_tokens, ArePrintable-json_tokens}
use Rattle.json.proofs.Printed.Decimals.{IsNumber-decimal, IsNumber-signed_decimal}
use Rattle.serde_json.specs.Data.{Data, null, boolean, number, unsigned, negative, string, array, object, Items, no_items, item, Members, no_members, member, put}
use Rattle.serde_json.specs.Find.{get_member, as_bool}
use Rattle.serde_json.specs.Read.{of_json, of_items, of_members, read, max_depth}
use Rattle.serde_json.specs.Written.{outline, items_outline, members_outline, has_float, items_have_float, members_have_float, comma_if, compact_text, items_text, members_text}
use Rattle.serde_json.proofs.Numbers.{number_of-decimal, number_of-negative}
use Rattle.serde_json.proofs.Texts.{print-outline}
use Rattle.serde_json.proofs.Views.{get_member-put, get_member-put_other}
use Rattle.sk_resp.specs.Spelling.{Bytes, IsPart, colon}
use Rattle.sk_resp.specs.Number.{IsI64}
use Rattle.sk_payload.specs.Json.{value, is_short}
use Rattle.sk_payload.specs.Head.{head, head_of_value, head_of_object}
use Rattle.sk_payload.specs.Member.{required, optional, name_of, args_of, retry_of, generation_of, moment_of, seconds_of, until_of, first_failed_of}
use Rattle.sk_payload.specs.declared.head.Retry.TheVariants.{Default}
use Rattle.sk_payload.specs.declared.head.Until.TheVariants.{Success}
use Rattle.sk_payload.specs.Usual.{is_plain, is_plain_ascii, IsFront, IsPlainAscii, IsUsual, Shows, ShowsIf, Tells, place_in, slot_names, slot_of, head_of_sketch}
use Rattle.sk_payload.specs.declared.front.Found.{Found}
use Rattle.sk_payload.specs.declared.front.Found.TheVariants as found
use Rattle.sk_payload.specs.declared.front.Front.{Front}
use Rattle.sk_payload.specs.declared.unsigned.Unsigned.{Unsigned}
use Rattle.sk_payload.specs.declared.sketch.Sketch.{Sketch}
use Rattle.sk_payload.proofs.Heads.{head_of_found}
use Rattle.sk_payload.proofs.Bounds.{members_sum, members_text_le, short_enough}

-- ---- strings

plain_byte : (x : ℕ) → is_plain x ≡ true → escape_byte x ≡ x ∷ []
plain_byte x h = escape_byte_plain x (grind arith) (grind arith) (grind arith)

pub escape_plain : (s : Bytes) → ((k : ℕ) → k < length s → is_plain (get_or s k 0) ≡ true) → escape s ≡ s
escape_plain [] h = refl
escape_plain (x ∷ xs) h = ap₂ (λ (a b : Bytes). a ++ b) (plain_byte x (h 0 (omega arith))) (escape_plain xs (λ k lt. h (suc k) (omega arith)))

-- ---- single values

pub usual_string : (most : ℕ) (s : Bytes) → IsUsual most (string s)
usual_string most s = (refl, refl, tt, omega arith)

pub usual_null : (most : ℕ) → IsUsual most null
usual_null most = (refl, refl, tt, omega arith)

pub usual_boolean : (most : ℕ) (b : Bool) → IsUsual most (boolean b)
usual_boolean most b = (refl, refl, tt, omega arith)

-- the number as a value
abbrev pub number_in : ℤ → Data
number_in (pos n) = number (unsigned n)
number_in (negsuc n) = number (negative (negsuc n))

pub usual_number : (most : ℕ) (z : ℤ) → IsI64 z → IsUsual most (number_in z)
usual_number most (pos n) small = (refl, ap (option_map number) (number_of-decimal n (omega arith)), IsNumber-decimal n (omega arith), omega arith)
usual_number most (negsuc n) small = (refl, ap (option_map number) (number_of-negative n small), IsNumber-signed_decimal (negsuc n) (omega arith), omega arith)

pub number_text_is : (z : ℤ) → compact_text (number_in z) ≡ signed_decimal z
number_text_is (pos n) = refl
number_text_is (negsuc n) = refl

pub number_some : (z : ℤ) → IsI64 z → 0 < length (signed_decimal z)
number_some (pos n) small = decimal_nonempty n (omega arith)
number_some (negsuc n) small = omega arith

pub negative_shows : (z : ℤ) → lt_z z (pos 0) ≡ true → Shows found.Negative (number_in z)
negative_shows (pos n) below = grind arith
negative_shows (negsuc n) below = (negsuc n, refl)

pub whole_shows : (z : ℤ) → lt_z z (pos 0) ≡ false → Shows (found.Whole (nat_abs z)) (number_in z)
whole_shows (pos n) not_below = refl
whole_shows (negsuc n) not_below = grind arith

-- ---- arrays

abbrev pub AreUsual : ℕ → Items → Type 0
AreUsual most ds = (items_have_float ds ≡ false) × (of_items (items_outline ds) ≡ Some ds) × tree.ItemsHaveNumbers (items_outline ds) × (tree.items_depth (items_outline ds) ≤ most)

-- Some items have been read, each in its usual form. What they are behind each list of later ones is told.
abbrev pub ItemsRead : ℕ → Bytes → Bool → Type 0
ItemsRead most done later =
    (f : Items → Items) × (front : Bytes) × (done ≡ 91 ∷ front) × ((es : Items) → items_text false (f es) ≡ front ++ items_text later es) × ((es : Items) → AreUsual most es → AreUsual most (f es))

pub items_begun : (most : ℕ) → ItemsRead most (91 ∷ []) false
items_begun most = (λ es. es, [], refl, λ es. refl, λ es h. h)

one_item : (most : ℕ) (d : Data) (es : Items) → IsUsual most d → AreUsual most es → AreUsual most (item d es)
one_item most d es one more = (rw (one.0, more.0) refl, rw (one.1, more.1) refl, (one.2, more.2), omega arith)

joined_text : (front comma text more : Bytes) → front ++ (comma ++ (text ++ more)) ≡ ((front ++ comma) ++ text) ++ more
joined_text front comma text more = simp append_assoc

pub items_more : (most : ℕ) (done comma text : Bytes) (later : Bool) (d : Data) → ItemsRead most done later → comma ≡ comma_if later → IsUsual most d → text ≡ compact_text d → ItemsRead most ((done ++ comma) ++ text) true
items_more most done comma text later d so_far separates one is = (
  λ es. so_far.0 (item d es),
  (so_far.1 ++ comma) ++ text,
  ap (λ (b : Bytes). (b ++ comma) ++ text) so_far.2,
  λ es. so_far.3 (item d es) ∙ rw (← separates, ← is) (joined_text so_far.1 comma text (items_text true es)),
  λ es h. so_far.4 (item d es) (one_item most d es one h),
)

pub items_over : (most : ℕ) (done : Bytes) (later : Bool) → ItemsRead most done later → (ds : Items) × IsUsual (most + 1) (array ds) × (done ++ 93 ∷ [] ≡ compact_text (array ds))
items_over most done later so_far =
    let ds = so_far.0 no_items in
    let usual : AreUsual most ds = so_far.4 no_items (refl, refl, tt, omega arith) in
    (ds, (usual.0, ap (option_map array) usual.1, usual.2, omega (arith, usual.3)), ap (λ (b : Bytes). b ++ 93 ∷ []) so_far.2 ∙ ap (λ (b : Bytes). 91 ∷ b) (sym (so_far.3 no_items)))

-- ---- the members

length_put_at : (o : Ordering) (k l : Bytes) (d e : Data) (ms rest : Members) → members_sum rest ≤ members_sum ms + (length (quoted k) + length (compact_text d) + 2)
    → members_sum (match_ordering o (member k d (member l e ms)) (member l d ms) (member l e rest)) ≤ members_sum (member l e ms) + (length (quoted k) + length (compact_text d) + 2)
length_put_at Less k l d e ms rest h = omega arith
length_put_at Equal k l d e ms rest h = omega arith
length_put_at Greater k l d e ms rest h = omega arith

length_put : (k : Bytes) (d : Data) (ms : Members) → members_sum (put k d ms) ≤ members_sum ms + (length (quoted k) + length (compact_text d) + 2)
length_put k d no_members = omega arith
length_put k d (member l e ms) = length_put_at (slice_cmp nat_cmp k l) k l d e ms (put k d ms) (length_put k d ms)

free_put_at : (o : Ordering) (k l : Bytes) (d e : Data) (ms rest : Members) → has_float d ≡ false → has_float e ≡ false → members_have_float ms ≡ false → members_have_float rest ≡ false
    → members_have_float (match_ordering o (member k d (member l e ms)) (member l d ms) (member l e rest)) ≡ false
free_put_at Less k l d e ms rest h g i j = rw (h, g, i) refl
free_put_at Equal k l d e ms rest h g i j = rw (h, i) refl
free_put_at Greater k l d e ms rest h g i j = rw (g, j) refl

free_put : (k : Bytes) (d : Data) (ms : Members) → has_float d ≡ false → members_have_float ms ≡ false → members_have_float (put k d ms) ≡ false
free_put k d no_members h g = rw h refl
free_put k d (member l e ms) h g =
    let parts = or_parts (has_float e) (members_have_float ms) g in
    free_put_at (slice_cmp nat_cmp k l) k l d e ms (put k d ms) h parts.0 parts.1 (free_put k d ms h parts.1)

-- the members of a text may be read back
abbrev pub AreReadable : Members → Type 0
AreReadable ms = tree.MembersHaveNumbers (members_outline ms) × (tree.members_depth (members_outline ms) ≤ 100)

-- Some members have been read, and of those with one name the last stays.
abbrev pub MembersRead : Bytes → Bool → Members → Type 0
MembersRead done later found =
    (f : Members → Members) × (front : Bytes) × (done ≡ 123 ∷ front) × ((es : Members) → members_text false (f es) ≡ front ++ members_text later es) × ((es : Members) → AreReadable es → AreReadable (f es))
    × ((es : Members) → of_members (members_outline (f es)) no_members ≡ of_members (members_outline es) found) × (members_have_float found ≡ false) × (members_sum found ≤ 2 * length done)

pub members_begun : MembersRead (123 ∷ []) false no_members
members_begun = (λ es. es, [], refl, λ es. refl, λ es h. h, λ es. refl, refl, omega arith)

joined_member : (front comma key text more : Bytes) → front ++ (comma ++ (key ++ 58 ∷ (text ++ more))) ≡ ((front ++ comma) ++ (key ++ 58 ∷ text)) ++ more
joined_member front comma key text more = simp append_assoc

-- ---- objects whose names ascend

-- the members, and behind them these
abbrev pub after : Members → Members → Members
after no_members es = es
after (member k d ms) es = member k d (after ms es)

abbrev pub AllBelow : Bytes → Members → Type 0
AllBelow k no_members = ⊤
AllBelow k (member l d ms) = (slice_cmp nat_cmp l k ≡ Less) × AllBelow k ms

put_behind : (k : Bytes) (d : Data) (ms : Members) → AllBelow k ms → put k d ms ≡ after ms (member k d no_members)
put_behind k d no_members below = refl
put_behind k d (member l e ms) below =
    let above : slice_cmp nat_cmp k l ≡ Greater = nat_list_cmp_total.antisymm k l ∙ ap ordering_reverse below.0 in
    rw above (ap (member l e) (put_behind k d ms below.1))

after_after : (ms : Members) (k : Bytes) (d : Data) (es : Members) → after (after ms (member k d no_members)) es ≡ after ms (member k d es)
after_after no_members k d es = refl
after_after (member l e ms) k d es = ap (member l e) (after_after ms k d es)

after_none : (ms : Members) → after ms no_members ≡ ms
after_none no_members = refl
after_none (member k d ms) = ap (member k d) (after_none ms)

below_later : (k l : Bytes) (ms : Members) → slice_cmp nat_cmp k l ≡ Less → AllBelow k ms → AllBelow l ms
below_later k l no_members less below = tt
below_later k l (member j d ms) less below = (nat_list_cmp_total.trans j k l below.0 less, below_later k l ms less below.1)

below_behind : (l k : Bytes) (d : Data) (ms : Members) → slice_cmp nat_cmp k l ≡ Less → AllBelow l ms → AllBelow l (after ms (member k d no_members))
below_behind l k d no_members less below = (less, tt)
below_behind l k d (member j e ms) less below = (below.0, below_behind l k d ms less below.1)

abbrev pub AreFine : ℕ → Members → Type 0
AreFine most ms = (members_have_float ms ≡ false) × tree.MembersHaveNumbers (members_outline ms) × (tree.members_depth (members_outline ms) ≤ most)

-- Some members of an object have been read, the last one with this name, and each behind those with lesser names.
abbrev pub ObjectRead : ℕ → Bytes → Bool → Bytes → Type 0
ObjectRead most done later last =
    (ms : Members) × (front : Bytes) × (done ≡ 123 ∷ front) × ((es : Members) → members_text false (after ms es) ≡ front ++ members_text later es) × ((es : Members) → AreFine most es → AreFine most (after ms es))
    × ((es : Members) → of_members (members_outline (after ms es)) no_members ≡ of_members (members_outline es) ms) × ((k : Bytes) → (later ≡ true → slice_cmp nat_cmp last k ≡ Less) → AllBelow k ms)

pub object_begun : (most : ℕ) (last : Bytes) → ObjectRead most (123 ∷ []) false last
object_begun most last = (no_members, [], refl, λ es. refl, λ es h. h, λ es. refl, λ k h. tt)

one_member : (most : ℕ) (name : Bytes) (d : Data) (es : Members) → IsUsual most d → AreFine most es → AreFine most (member name d es)
one_member most name d es one more = (rw (one.0, more.0) refl, (one.2, more.1), omega (arith, one.3, more.2))

pub object_more : (most : ℕ) (done comma text name last : Bytes) (later : Bool) (d : Data) → ObjectRead most done later last → comma ≡ comma_if later → IsUsual most d → text ≡ quoted name ++ colon ∷ compact_text d
    → (later ≡ true → slice_cmp nat_cmp last name ≡ Less) → ObjectRead most ((done ++ comma) ++ text) true name
object_more most done comma text name last later d so_far separates one is above =
    let ms = so_far.0 in
    let below = so_far.6 name above in (
      after ms (member name d no_members),
      (so_far.1 ++ comma) ++ text,
      ap (λ (b : Bytes). (b ++ comma) ++ text) so_far.2,
      λ es. ap (members_text false) (after_after ms name d es) ∙ so_far.3 (member name d es) ∙ rw (← separates, is) (joined_member so_far.1 comma (quoted name) (compact_text d) (members_text true es)),
      λ es h. subst (AreFine most) (sym (after_after ms name d es)) (so_far.4 (member name d es) (one_member most name d es one h)),
      λ es. ap (λ (x : Members). of_members (members_outline x) no_members) (after_after ms name d es) ∙ so_far.5 (member name d es) ∙ rw one.1 (ap (of_members (members_outline es)) (put_behind name d ms below)),
      λ k h. below_behind k name d ms (h refl) (below_later name k ms (h refl) below),
    )

pub object_over : (most : ℕ) (done last : Bytes) (later : Bool) → ObjectRead most done later last → (ms : Members) × IsUsual (most + 1) (object ms) × (done ++ 125 ∷ [] ≡ compact_text (object ms))
object_over most done last later so_far =
    let ms = so_far.0 in
    let fine : AreFine most ms = subst (AreFine most) (after_none ms) (so_far.4 no_members (refl, tt, omega arith)) in
    let back : of_members (members_outline ms) no_members ≡ Some ms = ap (λ (x : Members). of_members (members_outline x) no_members) (sym (after_none ms)) ∙ so_far.5 no_members in
    let text : members_text false ms ≡ so_far.1 ++ 125 ∷ [] = ap (members_text false) (sym (after_none ms)) ∙ so_far.3 no_members in
    (ms, (fine.0, ap (option_map object) back, fine.1, omega (arith, fine.2)), ap (λ (b : Bytes). b ++ 125 ∷ []) so_far.2 ∙ ap (λ (b : Bytes). 123 ∷ b) (sym text))

grown : (done comma key text : Bytes) (sum : ℕ) → sum ≤ 2 * length done → sum + (length key + length text + 2) ≤ 2 * length ((done ++ comma) ++ (key ++ 58 ∷ text))
grown done comma key text sum h = omega (arith, length-append (done ++ comma) (key ++ 58 ∷ text), length-append done comma, length-append key (58 ∷ text))

pub members_more : (done comma text name : Bytes) (later : Bool) (found : Members) (d : Data) → MembersRead done later found → comma ≡ comma_if later → IsUsual 100 d → text ≡ quoted name ++ colon ∷ compact_text d
    → MembersRead ((done ++ comma) ++ text) true (put name d found)
members_more done comma text name later found d so_far separates one is = (
  λ es. so_far.0 (member name d es),
  (so_far.1 ++ comma) ++ text,
  ap (λ (b : Bytes). (b ++ comma) ++ text) so_far.2,
  λ es. so_far.3 (member name d es) ∙ rw (← separates, is) (joined_member so_far.1 comma (quoted name) (compact_text d) (members_text true es)),
  λ es h. so_far.4 (member name d es) ((one.2, h.0), omega (arith, one.3, h.1)),
  λ es. so_far.5 (member name d es) ∙ rw one.1 refl,
  free_put name d found one.0 so_far.6,
  let put_le = length_put name d found in
      let le = grown done comma (quoted name) (compact_text d) (members_sum found) so_far.7 in
      rw is (omega arith),
)

-- ---- the whole text

abbrev whole : Option (json.Json × List Token) → Option Data
whole o = option_and_then of_json (option_and_then (λ p. json.if_last p.0 p.1) o)

read_whole : (text : Bytes) (ms found : Members) → text ≡ compact_text (object ms) → AreReadable ms → of_members (members_outline ms) no_members ≡ Some found → read text ≡ Some (object found)
read_whole text ms found is readable same =
    let back : tokens text ≡ json_tokens (outline (object ms)) =
    ap tokens (is ∙ sym (print-outline (object ms))) ∙ tokens-print (json_tokens (outline (object ms))) (ArePrintable-json_tokens (outline (object ms)) readable.0) in
    ap whole (ap (json.value max_depth) (back ∙ sym (append-nil _)) ∙ value-json_tokens (outline (object ms)) max_depth [] (omega (arith, readable.1))) ∙ ap (option_map object) same

pub members_over : (done : Bytes) (later : Bool) (found : Members) → MembersRead done later found → length done ≤ 400000 → (IsUtf8 (done ++ 125 ∷ []) → value (done ++ 125 ∷ []) ≡ Some (object found)) × (members_have_float found ≡ false) × (is_short (object found) ≡ true)
members_over done later found so_far short =
    let ms = so_far.0 no_members in
    let text : done ++ 125 ∷ [] ≡ compact_text (object ms) = ap (λ (b : Bytes). b ++ 125 ∷ []) so_far.2 ∙ ap (λ (b : Bytes). 123 ∷ b) (sym (so_far.3 no_members)) in
    let whole_text : read (done ++ 125 ∷ []) ≡ Some (object found) = read_whole (done ++ 125 ∷ []) ms found text (so_far.4 no_members (tt, omega arith)) (so_far.5 no_members) in
    let le = members_text_le false found in (
      λ utf8. rw (is_utf8-from_IsUtf8 (done ++ 125 ∷ []) utf8) whole_text,
      so_far.6,
      short_enough (object found) (omega (arith, so_far.7)),
    )

-- ---- slots

module _ (k : Bytes) (i : ℕ) where
  place_least : (names : List Bytes) (n : ℕ) → place_in names k n ≡ Some i → n ≤ i
  place_least [] n at = absurd (cc)
  place_least (x ∷ names) n at = elim (bytes_eq k x) as (λ b. bytes_eq k x ≡ b → cond b (Some n) (place_in names k (suc n)) ≡ Some i → n ≤ i) [ true ↦ λ e h. grind arith | false ↦ λ e h. let le = place_least names (suc n) h in omega arith ] refl at

place_same : (names : List Bytes) (k l : Bytes) (n i : ℕ) → place_in names k n ≡ Some i → place_in names l n ≡ Some i → k ≡ l
place_same [] k l n i at also = absurd (cc)
place_same (x ∷ names) k l n i at also =
    elim (bytes_eq k x) as (λ b. bytes_eq k x ≡ b → cond b (Some n) (place_in names k (suc n)) ≡ Some i → k ≡ l) [
      | true ↦ λ e h. elim (bytes_eq l x) as (λ c. bytes_eq l x ≡ c → cond c (Some n) (place_in names l (suc n)) ≡ Some i → k ≡ l) [
        | true ↦ λ f g. (bytes_eq-Decides k x).0 e ∙ sym ((bytes_eq-Decides l x).0 f)
        | false ↦ λ f g. let le = place_least l i names (suc n) g in let same : n ≡ i = grind arith in absurd (omega arith)
      ] refl also
      | false ↦ λ e h. elim (bytes_eq l x) as (λ c. bytes_eq l x ≡ c → cond c (Some n) (place_in names l (suc n)) ≡ Some i → k ≡ l) [
        | true ↦ λ f g. let le = place_least k i names (suc n) h in let same : n ≡ i = grind arith in absurd (omega arith)
        | false ↦ λ f g. place_same names k l (suc n) i h g
      ] refl also
    ] refl at

slot_same : (k l : Bytes) (i : ℕ) → slot_of k ≡ Some i → slot_of l ≡ Some i → k ≡ l
unfolding slot_of
slot_same k l i at also = place_same slot_names k l 0 i at also

module _ (slots : List (Option Found)) (ms : Members) where
  pub tells_put : (name : Bytes) (i : ℕ) (x : Found) (d : Data) → i < length slots → slot_of name ≡ Some i → Shows x d → Tells slots ms → Tells (set slots i (Some x)) (put name d ms)
  tells_put name i x d below is shows so_far = λ k j at.
      elim (bytes_eq k name) as (λ b. bytes_eq k name ≡ b → ShowsIf (get_or (set slots i (Some x)) j None) (get_member k (put name d ms))) [
        | true ↦ λ e.
            let same : k ≡ name = (bytes_eq-Decides k name).0 e in
            let place : j ≡ i = same_Some j i (sym at ∙ ap slot_of same ∙ is) in
            rw (place, same, get_or-set_same slots i (Some x) None below) (d, get_member-put name d ms, shows)
        | false ↦ λ e.
            let other : k ≡ name → ⊥ = λ same. true≢false (sym ((bytes_eq-Decides k name).1 same) ∙ e) in
            let apart : j ≡ i → ⊥ = λ place. other (slot_same k name i (at ∙ ap Some place) is) in
            rw (get_or-set_other slots i j (Some x) None apart, get_member-put_other k name d ms other) (so_far k j at)
      ] refl

  pub tells_other : (name : Bytes) (d : Data) → slot_of name ≡ None → Tells slots ms → Tells slots (put name d ms)
  tells_other name d none so_far = λ k j at.
      let other : k ≡ name → ⊥ = λ same. let never : Some j ≡ None = sym at ∙ ap slot_of same ∙ none in absurd (cc) in
      rw (get_member-put_other k name d ms other) (so_far k j at)

place_below : (names : List Bytes) (k : Bytes) (n i : ℕ) → place_in names k n ≡ Some i → i < n + length names
place_below [] k n i at = absurd (cc)
place_below (x ∷ names) k n i at = elim (bytes_eq k x) as (λ b. bytes_eq k x ≡ b → cond b (Some n) (place_in names k (suc n)) ≡ Some i → i < n + suc (length names)) [
  | true ↦ λ e h. let same : n ≡ i = same_Some n i h in omega arith
  | false ↦ λ e h. let lt = place_below names k (suc n) i h in omega arith
] refl at

slot_below : (k : Bytes) (i : ℕ) → slot_of k ≡ Some i → i < 13
unfolding slot_of
slot_below k i at = place_below slot_names k 0 i at

pub tells_nothing : Tells (replicate 13 None) no_members
tells_nothing = λ k i at. subst (λ (x : Option Found). ShowsIf x None) (sym (get_or-replicate {A = Option Found} 13 i None None (slot_below k i at))) refl

-- ---- pieces of a text

pub take_one : (xs : Bytes) → 0 < length xs → take 1 xs ≡ get_or xs 0 0 ∷ []
take_one [] some = absurd (omega arith)
take_one (x ∷ xs) some = refl

escape_joined : (s t : Bytes) → escape (s ++ t) ≡ escape s ++ escape t
escape_joined s t = flat_map-append escape_byte s t

-- behind a front of a string there are bytes that stand for themselves
pub run_read : (xs : Bytes) (at end : ℕ) (s : Bytes) → at ≤ end → end ≤ length xs → take at xs ≡ 34 ∷ escape s → ((k : ℕ) → at ≤ k → k < end → is_plain (get_or xs k 0) ≡ true)
    → take end xs ≡ 34 ∷ escape (s ++ take (end - at) (drop at xs))
run_read xs at end s le within front plain =
    let n = end - at in
    let t = take n (drop at xs) in
    let sum : end ≡ at + n = omega arith in
    let same : escape t ≡ t = escape_plain t (λ k lt. let below : k < n = omega (arith, length-take n (drop at xs)) in ap is_plain (get_or-take n (drop at xs) k 0 below ∙ get_or-drop at xs k 0) ∙ plain (at + k) (omega arith) (omega arith)) in
    ap (λ (m : ℕ). take m xs) sum ∙ take-add at n xs ∙ ap (λ (b : Bytes). b ++ t) front ∙ ap (λ (b : Bytes). 34 ∷ (escape s ++ b)) (sym same) ∙ ap (λ (b : Bytes). 34 ∷ b) (sym (escape_joined s t))

-- behind a front of a string there is an escape of two bytes
pub escape_read : (xs : Bytes) (at b : ℕ) (s : Bytes) → at + 1 < length xs → take at xs ≡ 34 ∷ escape s → get_or xs at 0 ≡ 92 → escape_byte b ≡ 92 ∷ get_or xs (at + 1) 0 ∷ [] → take (at + 2) xs ≡ 34 ∷ escape (s ++ b ∷ [])
escape_read xs at b s below front first is =
    let sum : at + 2 ≡ at + 1 + 1 = omega arith in
    let one : take (at + 1) xs ≡ (34 ∷ escape s) ++ 92 ∷ [] = take_more xs at 0 (omega arith) ∙ ap₂ (λ (f : Bytes) (x : ℕ). f ++ x ∷ []) front first in
    let two : take (at + 1 + 1) xs ≡ ((34 ∷ escape s) ++ 92 ∷ []) ++ get_or xs (at + 1) 0 ∷ [] = take_more xs (at + 1) 0 below ∙ ap (λ (f : Bytes). f ++ get_or xs (at + 1) 0 ∷ []) one in
    let last : escape (b ∷ []) ≡ 92 ∷ get_or xs (at + 1) 0 ∷ [] = append-nil (escape_byte b) ∙ is in
    ap (λ (m : ℕ). take m xs) sum ∙ two ∙ append_assoc (34 ∷ escape s) (92 ∷ []) (get_or xs (at + 1) 0 ∷ []) ∙ ap (λ (t : Bytes). (34 ∷ escape s) ++ t) (sym last) ∙ ap (λ (t : Bytes). 34 ∷ t) (sym (escape_joined s (b ∷ [])))

-- behind a front of a string there is its last quote
pub string_read : (xs : Bytes) (at : ℕ) (s : Bytes) → at < length xs → take at xs ≡ 34 ∷ escape s → get_or xs at 0 ≡ 34 → take (at + 1) xs ≡ quoted s
string_read xs at s below front last = take_more xs at 0 below ∙ ap₂ (λ (f : Bytes) (x : ℕ). f ++ x ∷ []) front last

pub plain_of_ascii : (b : ℕ) → is_plain_ascii b ≡ true → is_plain b ≡ true
plain_of_ascii b h = grind arith

-- Where characters of ASCII stand up to a quote, they are what stands inside.
pub ascii_inside : (xs : Bytes) (end : ℕ) → end ≤ length xs → ((k : ℕ) → 1 ≤ k → k < end → is_plain_ascii (get_or xs k 0) ≡ true) → IsPlainAscii (take (end - 1) (drop 1 xs))
ascii_inside xs end le ascii = λ k lt.
    let below : k < end - 1 = omega (arith, length-take (end - 1) (drop 1 xs)) in
    ap is_plain_ascii (get_or-take (end - 1) (drop 1 xs) k 0 below ∙ get_or-drop 1 xs k 0) ∙ ascii (1 + k) (omega arith) (omega arith)

-- A whole number's digits are a front.
pub unsigned_front : (most : ℕ) (r : Unsigned) (xs : Bytes) → IsPart r.len xs → r.n < 2 ^ 63 → take r.len xs ≡ decimal r.n → IsFront most (record { len = r.len; found = found.Whole r.n }) xs
unsigned_front most r xs within small is = (within, (number_in (pos r.n), usual_number most (pos r.n) small, refl, is))

pub front_at : (most : ℕ) (input : Bytes) (o : Option Front) → IfSome o (λ r. (most : ℕ) → IsFront most r input) → IfSome o (λ r. IsFront most r input)
front_at most input None is = tt
front_at most input (Some r) is = is most

two_more : (at a n : ℕ) (xs : Bytes) → take (at + a + n) xs ≡ (take at xs ++ take a (drop at xs)) ++ take n (drop (at + a) xs)
two_more at a n xs = take-add (at + a) n xs ∙ ap (λ (b : Bytes). b ++ take n (drop (at + a) xs)) (take-add at a xs)

pub items_step : (most at a n : ℕ) (xs : Bytes) (later : Bool) (d : Data) → ItemsRead most (take at xs) later → take a (take (length xs - at) (drop at xs)) ≡ comma_if later → IsUsual most d → take n (take (length xs - (at + a)) (drop (at + a) xs)) ≡ compact_text d
    → ItemsRead most (take (at + a + n) xs) true
items_step most at a n xs later d so_far separates one is =
    subst (λ (b : Bytes). ItemsRead most b true) (sym (two_more at a n xs)) (items_more most (take at xs) (take a (drop at xs)) (take n (drop (at + a) xs)) later d so_far (ap (take a) (sym (take_rest xs at)) ∙ separates) one (ap (take n) (sym (take_rest xs (at + a))) ∙ is))

pub items_whole : (most at : ℕ) (xs : Bytes) (later : Bool) → at < length xs → get_or xs at 0 ≡ 93 → ItemsRead most (take at xs) later → (ds : Items) × IsUsual (most + 1) (array ds) × (take (at + 1) xs ≡ compact_text (array ds))
items_whole most at xs later below last so_far =
    let all = items_over most (take at xs) later so_far in
    (all.0, all.1, take_more xs at 0 below ∙ ap (λ (b : ℕ). take at xs ++ b ∷ []) last ∙ all.2)

pub object_step : (most at a n : ℕ) (xs name last : Bytes) (later : Bool) (d : Data) → ObjectRead most (take at xs) later last → take a (take (length xs - at) (drop at xs)) ≡ comma_if later → IsUsual most d
    → take n (take (length xs - (at + a)) (drop (at + a) xs)) ≡ quoted name ++ colon ∷ compact_text d → (later ≡ true → slice_cmp nat_cmp last name ≡ Less) → ObjectRead most (take (at + a + n) xs) true name
object_step most at a n xs name last later d so_far separates one is above =
    subst (λ (b : Bytes). ObjectRead most b true name) (sym (two_more at a n xs)) (object_more most (take at xs) (take a (drop at xs)) (take n (drop (at + a) xs)) name last later d so_far (ap (take a) (sym (take_rest xs at)) ∙ separates) one (ap (take n) (sym (take_rest xs (at + a))) ∙ is) above)

pub object_whole : (most at : ℕ) (xs last : Bytes) (later : Bool) → at < length xs → get_or xs at 0 ≡ 125 → ObjectRead most (take at xs) later last → (ms : Members) × IsUsual (most + 1) (object ms) × (take (at + 1) xs ≡ compact_text (object ms))
object_whole most at xs last later below end so_far =
    let all = object_over most (take at xs) last later so_far in
    (all.0, all.1, take_more xs at 0 below ∙ ap (λ (b : ℕ). take at xs ++ b ∷ []) end ∙ all.2)

-- how far a reading has come
pub within : (at a n : ℕ) (xs : Bytes) → at ≤ length xs → a ≤ length (take (length xs - at) (drop at xs)) → n ≤ length (take (length xs - (at + a)) (drop (at + a) xs)) → at + a + n ≤ length xs
within at a n xs below more_than most =
    let first : length (take (length xs - at) (drop at xs)) ≡ length xs - at = ap length (take_rest xs at) ∙ length-drop at xs in
    let next : length (take (length xs - (at + a)) (drop (at + a) xs)) ≡ length xs - (at + a) = ap length (take_rest xs (at + a)) ∙ length-drop (at + a) xs in
    omega arith

pub member_read : (end n : ℕ) (name : Bytes) (d : Data) (xs rest : Bytes) → take end xs ≡ quoted name → rest ≡ drop end xs → 0 < length rest → get_or rest 0 0 ≡ colon → take n (drop 1 rest) ≡ compact_text d
    → take (end + 1 + n) xs ≡ quoted name ++ colon ∷ compact_text d
member_read end n name d xs rest key same some mark is =
    let front : take (1 + n) rest ≡ colon ∷ compact_text d = take-add 1 n rest ∙ ap₂ (λ (a b : Bytes). a ++ b) (take_one rest some ∙ ap (λ (b : ℕ). b ∷ []) mark) is in
    let sum : end + 1 + n ≡ end + (1 + n) = omega arith in
    ap (λ (m : ℕ). take m xs) sum ∙ take-add end (1 + n) xs ∙ ap₂ (λ (a b : Bytes). a ++ b) key (ap (take (1 + n)) (sym same) ∙ front)

pub members_step : (at a n : ℕ) (xs name : Bytes) (later : Bool) (found : Members) (d : Data) → MembersRead (take at xs) later found → take a (take (length xs - at) (drop at xs)) ≡ comma_if later → IsUsual 100 d
    → take n (take (length xs - (at + a)) (drop (at + a) xs)) ≡ quoted name ++ colon ∷ compact_text d → MembersRead (take (at + a + n) xs) true (put name d found)
members_step at a n xs name later found d so_far separates one is =
    subst (λ (b : Bytes). MembersRead b true (put name d found)) (sym (two_more at a n xs)) (members_more (take at xs) (take a (drop at xs)) (take n (drop (at + a) xs)) name later found d so_far (ap (take a) (sym (take_rest xs at)) ∙ separates) one (ap (take n) (sym (take_rest xs (at + a))) ∙ is))

pub members_whole : (at : ℕ) (xs : Bytes) (later : Bool) (found : Members) → at < length xs → length xs ≡ at + 1 → get_or xs at 0 ≡ 125 → length xs ≤ 400000 → MembersRead (take at xs) later found
    → (IsUtf8 xs → value xs ≡ Some (object found)) × (members_have_float found ≡ false) × (is_short (object found) ≡ true)
members_whole at xs later found below end last short so_far =
    let text : take at xs ++ 125 ∷ [] ≡ xs = sym (take_more xs at 0 below ∙ ap (λ (b : ℕ). take at xs ++ b ∷ []) last) ∙ take_all (at + 1) xs (omega arith) in
    subst (λ (b : Bytes). (IsUtf8 b → value b ≡ Some (object found)) × (members_have_float found ≡ false) × (is_short (object found) ≡ true)) text (members_over (take at xs) later found so_far (omega (arith, length-take at xs)))

-- ---- heads

free_and_short : (ms : Members) → members_have_float ms ≡ false → is_short (object ms) ≡ true → head_of_value (object ms) ≡ head_of_object (object ms)
unfolding head_of_value
free_and_short ms free short = rw (free, short) refl

pub head_of_usual : (text : Bytes) (found : List (Option Found)) (r : Option Sketch) → ((ms : Members) × (IsUtf8 text → value text ≡ Some (object ms)) × (members_have_float ms ≡ false) × (is_short (object ms) ≡ true) × Tells found ms) → IsUtf8 text
    → IfSome r (λ s. (ms : Members) → Tells found ms → head_of_object (object ms) ≡ Some (head_of_sketch s)) → IfSome r (λ s. head text ≡ Some (head_of_sketch s))
head_of_usual text found None is utf8 drawn = tt
head_of_usual text found (Some s) is utf8 drawn = head_of_found text (object is.0) (is.1 utf8) ∙ free_and_short is.0 is.2 is.3 ∙ drawn is.0 is.4

pub sketch_head : (ms : Members) (s : Sketch)
    → required (name_of 64) (get_member (codes "jid") ms) ≡ Some s.jid.now
    → required (name_of 255) (get_member (codes "class") ms) ≡ Some s.class.now
    → required (name_of 255) (get_member (codes "queue") ms) ≡ Some s.queue.now
    → required args_of (get_member (codes "args") ms) ≡ Some s.args.now
    → optional None (λ b. option_map Some (name_of 64 b)) (get_member (codes "bid") ms) ≡ Some (option_map (λ b. b.now) s.bid)
    → optional Default retry_of (get_member (codes "retry") ms) ≡ Some s.retry
    → optional 0 generation_of (get_member (codes "retry_count") ms) ≡ Some s.gen_
    → optional true as_bool (get_member (codes "dead") ms) ≡ Some s.dead
    → optional 0 moment_of (get_member (codes "created_at") ms) ≡ Some s.created
    → optional None (λ n. option_map Some (seconds_of n)) (get_member (codes "unique_for") ms) ≡ Some s.seconds
    → optional Success until_of (get_member (codes "unique_until") ms) ≡ Some s.until
    → optional None (λ n. option_map Some (seconds_of n)) (get_member (codes "retry_for") ms) ≡ Some s.retry_for
    → first_failed_of s.retry_for (get_member (codes "failed_at") ms) ≡ Some s.first_failed
    → head_of_object (object ms) ≡ Some (head_of_sketch s)
unfolding head_of_object
sketch_head ms s a b c d e f g h i j k l m = rw (a, b, c, d, e, f, g, h, i, j, k, l, m) refl
