-- A reply's text ends in LF, so a line that is given to the reader makes at most one reply whole, and then nothing is behind it.
use Rattle.std.proofs.Common.{◌≡◌, ◌<◌, ◌≤◌, ◌+◌, ◌-◌, ◌++◌, ◌⊎◌, inl, inr, ℕ, zero, suc, List, [], ◌∷◌, length, take, drop, refl, sym, ap, subst, ◌∙◌, append_assoc, append-nil, arith, length-append, map, get_or, Option, Some, None}
use Rattle.std.specs.Prelude.{IfSome, codes}
use Rattle.std.specs.Option.{option_to_list}
use Rattle.std.proofs.lemmas.List.{take-append-drop, take-append-le, length-map, get_or-append-add}
use Rattle.std.proofs.Math.Seq.{take-append_seam, take-append-add, get_or-append_seam}
use Rattle.std.proofs.lemmas.Bool.{cases_order}
use Rattle.std.specs.List.{AllByRecursion}
use Rattle.sk_resp.specs.Spelling.{Bytes, joined, line, header, bulk, cr, lf, star, dollar, plus, minus, colon}
use Rattle.std.specs.Fmt.{decimal, signed_decimal}
use Rattle.sk_resp.specs.Reply.{wire}
use Rattle.sk_resp.specs.ReplyStream.{IsFlat, IsNested, IsReplyText, IsReplyPart, ReadsReplies, IsUnreadable, simple_text, error_text, int_text, bulk_text, null_text, null_array_text}
use Rattle.sk_resp.specs.declared.reply.Reply.{Reply}
use Rattle.sk_link.specs.Fault.{IsNoReply, IsStuck}
use Rattle.sk_link.specs.Line.{IsLine}

-- ## Texts end in LF

pub record EndsInLf (text : Bytes) : Type 0 where
  pub front : Bytes
  pub is : text ≡ front ++ lf ∷ []

line_ends : (text : Bytes) → EndsInLf (line text)
line_ends text = record { front = text ++ cr ∷ []; is = sym (append_assoc text (cr ∷ []) (lf ∷ [])) }

behind : (front text : Bytes) → EndsInLf text → EndsInLf (front ++ text)
behind front text e = record { front = front ++ e.front; is = ap (λ t. front ++ t) e.is ∙ sym (append_assoc front e.front (lf ∷ [])) }

moved : (text other : Bytes) → text ≡ other → EndsInLf other → EndsInLf text
moved text other is e = record { front = e.front; is = is ∙ e.is }

bulk_ends : (word : Bytes) → EndsInLf (bulk word)
unfolding bulk
bulk_ends word = behind (line (dollar ∷ decimal (length word))) (line word) (line_ends word)

header_ends : (n : ℕ) → EndsInLf (header n)
unfolding header
header_ends n = line_ends (star ∷ decimal n)

flat_ends : (text : Bytes) → IsFlat text → EndsInLf text
flat_ends text (simple_text word is_line is) = moved text _ is (line_ends (plus ∷ word))
flat_ends text (error_text word is_line is) = moved text _ is (line_ends (minus ∷ word))
flat_ends text (int_text z is_int is) = moved text _ is (line_ends (colon ∷ signed_decimal z))
flat_ends text (bulk_text word short is) = moved text _ is (bulk_ends word)
flat_ends text (null_text is) = moved text _ is (line_ends (codes "$-1"))
flat_ends text (null_array_text is) = moved text _ is (line_ends (codes "*-1"))

joined_ends : (P : Bytes → Type 0) → ((text : Bytes) → P text → EndsInLf text) → (front : Bytes) → EndsInLf front → (texts : List Bytes) → AllByRecursion P texts → EndsInLf (front ++ joined texts)
joined_ends P each front e [] all = moved _ front (append-nil front) e
joined_ends P each front e (text ∷ texts) all =
    moved _ _ (sym (append_assoc front text (joined texts))) (joined_ends P each (front ++ text) (behind front text (each text all.0)) texts all.1)

nested_ends : (depth : ℕ) (text : Bytes) → IsNested depth text → EndsInLf text
nested_ends zero text flat = flat_ends text flat
nested_ends (suc depth) text (inl flat) = flat_ends text flat
nested_ends (suc depth) text (inr n) = moved text _ n.3 (joined_ends (IsNested depth) (nested_ends depth) (header (length n.0)) (header_ends (length n.0)) n.0 n.1)

pub reply_ends : (text : Bytes) → IsReplyText text → EndsInLf text
reply_ends text is = nested_ends 8 text is.nested

-- ## At most one reply

-- no reply's text is a proper prefix of another's
abbrev pub NoPrefix : Type 0
NoPrefix = (text more : Bytes) → IsReplyText text → IsReplyText (text ++ more) → more ≡ []

empty : {X : Type 0} (xs : List X) → length xs ≡ 0 → xs ≡ []
empty [] h = refl
empty (x ∷ xs) h = let no : ⊥ = omega (arith, h) in absurd no

-- No whole reply stands in the first part of one.
pub within : NoPrefix → (part line text tail : Bytes) → part ++ line ≡ text ++ tail → IsReplyText text → IsReplyPart part → length text ≤ length part → ⊥
within law part line text tail e is p h =
    let front : take (length text) part ≡ text = sym (take-append-le (length text) part line h) ∙ ap (λ s. take (length text) s) e ∙ take-append_seam text tail in
    let parts : part ≡ text ++ drop (length text) part = sym (take-append-drop (length text) part) ∙ ap (λ s. s ++ drop (length text) part) front in
    let long : IsReplyText (text ++ (drop (length text) part ++ p.more)) = subst (λ s. IsReplyText s) (ap (λ s. s ++ p.more) parts ∙ append_assoc text (drop (length text) part) p.more) p.whole in
    let none : length (drop (length text) part ++ p.more) ≡ 0 = ap (λ s. length s) (law text (drop (length text) part ++ p.more) is long) in
    let some = p.some in
    omega (arith, none, some, length-append (drop (length text) part) p.more)

-- A reply that ends within the line ends at its end.
pub no_tail : (part line text tail : Bytes) → IsLine line → part ++ line ≡ text ++ tail → IsReplyText text → length part < length text → length tail ≡ 0
no_tail part line text tail is_line e is h =
    let ends = reply_ends text is in
    let i : ℕ = length ends.front - length part in
    let size : length text ≡ length ends.front + 1 = ap (λ t. length t) ends.is ∙ length-append ends.front (lf ∷ []) in
    let sizes : length part + length line ≡ length text + length tail = sym (length-append part line) ∙ ap (λ t. length t) e ∙ length-append text tail in
    let left : get_or (part ++ line) (length part + i) 0 ≡ get_or line i 0 = get_or-append-add part line i 0 in
    let at : length part + i ≡ length ends.front = omega (arith, size, h) in
    let whole : part ++ line ≡ ends.front ++ lf ∷ tail = e ∙ ap (λ t. t ++ tail) ends.is ∙ append_assoc ends.front (lf ∷ []) tail in
    let is_lf : get_or line i 0 ≡ lf = sym left ∙ ap (λ t. get_or t (length part + i) 0) whole ∙ ap (λ k. get_or (ends.front ++ lf ∷ tail) k 0) at ∙ get_or-append_seam ends.front lf tail 0 in
    elim (cases_order 0 (length tail)) [
      | inl none ↦ sym none
      | inr o ↦ elim o [ inl some ↦ absurd (is_line.plain i (omega (arith, some, sizes, size, h)) is_lf) | inr below ↦ absurd (let z : ⊥ = omega (arith, below) in z) ]
    ]

-- what a line adds
pub data AtMostOne (part line : Bytes) (texts : List Bytes) (rest : Bytes) : Type 0 where
  none : texts ≡ [] → rest ≡ part ++ line → AtMostOne part line texts rest
  one : texts ≡ (part ++ line) ∷ [] → rest ≡ [] → AtMostOne part line texts rest

-- the length of a reply's text
some_text : (text : Bytes) → IsReplyText text → 0 < length text
some_text text is =
    let ends = reply_ends text is in
    omega (arith, ap (λ t. length t) ends.is ∙ length-append ends.front (lf ∷ []))

no_more : (texts : List Bytes) → AllByRecursion IsReplyText texts → length (joined texts) ≡ 0 → texts ≡ []
no_more [] each h = refl
no_more (t ∷ ts) each h = let no : ⊥ = omega (arith, some_text t each.0, h, length-append t (joined ts)) in absurd no

-- the first reply ends behind the part
beyond : (part line text : Bytes) (texts : List Bytes) (rest : Bytes) → IsLine line → part ++ line ≡ text ++ (joined texts ++ rest) →
    IsReplyText text → AllByRecursion IsReplyText texts → length part < length text → AtMostOne part line (text ∷ texts) rest
beyond part line text texts rest is_line e is each h =
    let none : length (joined texts ++ rest) ≡ 0 = no_tail part line text (joined texts ++ rest) is_line e is h in
    let sizes = length-append (joined texts) rest in
    let whole : part ++ line ≡ text = e ∙ ap (λ s. text ++ s) (empty (joined texts ++ rest) none) ∙ append-nil text in
    let last : texts ≡ [] = no_more texts each (omega (arith, none, sizes)) in
    one (ap (λ us. text ∷ us) last ∙ ap (λ s. s ∷ []) (sym whole)) (empty rest (omega (arith, none, sizes)))

-- where a reply's text ends
ends_where : (text part : Bytes) → (length text ≤ length part) ⊎ (length part < length text)
ends_where text part = elim (cases_order (length text) (length part)) [ inl h ↦ inl (omega (arith, h)) | inr o ↦ elim o [ inl h ↦ inl (omega (arith, h)) | inr h ↦ inr h ] ]

pub at_most_one : NoPrefix → (part line : Bytes) (texts : List Bytes) (rest : Bytes) → IsLine line → IsReplyPart part → ReadsReplies (part ++ line) texts rest → AtMostOne part line texts rest
at_most_one law part line [] rest is_line p reads = none refl (sym reads.is)
at_most_one law part line (t ∷ ts) rest is_line p reads =
    let e : part ++ line ≡ t ++ (joined ts ++ rest) = reads.is ∙ append_assoc t (joined ts) rest in
    elim (ends_where t part) [
      | inl h ↦ absurd (within law part line t (joined ts ++ rest) e reads.each.0 p h)
      | inr h ↦ beyond part line t ts rest is_line e reads.each.0 reads.each.1 h
    ]

-- the reply that is taken out of what was added
pub found : (part line rest : Bytes) (added front : List Reply) (popped : Option Reply) → AtMostOne part line (map wire added) rest → added ≡ front ++ option_to_list popped →
    IfSome popped (λ reply. wire reply ≡ part ++ line)
found part line rest added front None o e = tt
found part line rest added front (Some reply) (none t r) e =
    let l : length (map wire added) ≡ 0 = ap (λ xs. length xs) t in
    let m : length added ≡ length (front ++ reply ∷ []) = ap (λ xs. length xs) e in
    let no : ⊥ = omega (arith, l, m, length-map added wire, length-append front (reply ∷ [])) in absurd no
found part line rest added front (Some reply) (one t r) e =
    let l : length (map wire added) ≡ 1 = ap (λ xs. length xs) t in
    let m : length added ≡ length (front ++ reply ∷ []) = ap (λ xs. length xs) e in
    let first : front ≡ [] = empty front (omega (arith, l, m, length-map added wire, length-append front (reply ∷ []))) in
    let alone : map wire added ≡ wire reply ∷ [] = ap (λ xs. map wire xs) (e ∙ ap (λ xs. xs ++ reply ∷ []) first) in
    ap (λ xs. get_or xs 0 []) (sym alone ∙ t)

-- It is a reply's text.
last_text : (front : List Reply) (reply : Reply) → AllByRecursion IsReplyText (map wire (front ++ reply ∷ [])) → IsReplyText (wire reply)
last_text [] reply each = each.0
last_text (r ∷ front) reply each = last_text front reply each.1

pub found_text : (added front : List Reply) (popped : Option Reply) → AllByRecursion IsReplyText (map wire added) → added ≡ front ++ option_to_list popped →
    IfSome popped (λ reply. IsReplyText (wire reply))
found_text added front None each e = tt
found_text added front (Some reply) each e = last_text front reply (subst (λ rs. AllByRecursion IsReplyText (map wire rs)) e each)

-- ## Bytes that can't go on

-- No whole reply stands in front of a first part that nothing follows.
pub part_alone : NoPrefix → (part : Bytes) → IsReplyPart part → IsNoReply part
part_alone law part p text more is e =
    let sizes : length part ≡ length text + length more = ap (λ t. length t) e ∙ length-append text more in
    within law part [] text more (append-nil part ∙ e) is p (omega (arith, sizes))

-- the front of a text that goes on behind a part
front_of : (part more text tail : Bytes) (byte : ℕ) → part ++ byte ∷ more ≡ text ++ tail → length part < length text → (part ++ byte ∷ []) ++ drop (length part + 1) text ≡ text
front_of part more text tail byte e h =
    let n : ℕ = length part + 1 in
    let left : take n (part ++ byte ∷ more) ≡ part ++ byte ∷ [] = take-append-add part (byte ∷ more) 1 in
    let right : take n (text ++ tail) ≡ take n text = take-append-le n text tail (omega (arith, h)) in
    ap (λ s. s ++ drop n text) (sym left ∙ ap (λ s. take n s) e ∙ right) ∙ take-append-drop n text

-- Where the reader stops in a line, no whole reply stands in front, whatever follows.
pub stuck : NoPrefix → (part line : Bytes) (texts : List Bytes) → IsLine line → IsReplyPart part → IsUnreadable (part ++ line) texts → IsStuck (part ++ line)
stuck law part line [] is_line p u tail text more is e =
    let b : u.part ++ (u.byte ∷ (u.more ++ tail)) ≡ text ++ more = sym (append_assoc u.part (u.byte ∷ u.more) tail) ∙ ap (λ s. s ++ tail) (sym u.is) ∙ e in
    elim (ends_where text u.part) [
      | inl h ↦ within law u.part (u.byte ∷ (u.more ++ tail)) text more b is u.reads.part h
      | inr h ↦ u.stuck (record {
        texts = text ∷ [];
        more = drop (length u.part + 1) text;
        each = (is, tt);
        is = front_of u.part (u.more ++ tail) text more u.byte b h ∙ sym (append-nil text);
      })
    ]
stuck law part line (t ∷ ts) is_line p u tail text more is e =
    let behind_it : Bytes = (joined ts ++ u.part) ++ u.byte ∷ u.more in
    let f : part ++ line ≡ t ++ behind_it = u.is ∙ ap (λ s. s ++ u.byte ∷ u.more) (append_assoc t (joined ts) u.part) ∙ append_assoc t (joined ts ++ u.part) (u.byte ∷ u.more) in
    elim (ends_where t part) [
      | inl h ↦ within law part line t behind_it f u.reads.each.0 p h
      | inr h ↦
          let n : length behind_it ≡ 0 = no_tail part line t behind_it is_line f u.reads.each.0 h in
          let no : ⊥ = omega (arith, n, length-append (joined ts ++ u.part) (u.byte ∷ u.more)) in no
    ]
