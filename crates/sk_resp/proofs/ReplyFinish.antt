-- What goes on can be finished.
use Rattle.std.proofs.Common.{◌≡◌, ◌+◌, ◌-◌, ◌*◌, ◌<◌, ◌≤◌, ◌^◌, ℕ, pos, negsuc, zero, suc, List, [], ◌∷◌, ◌++◌, length, replicate, ltb, Bool, true, false, inr, refl, sym, ap, subst, ◌∙◌, arith, append_assoc, append-nil, length-append}
use Rattle.std.specs.List.{AllByRecursion}
use Rattle.std.specs.Fmt.{decimal}
use Rattle.std.proofs.lemmas.List.{length-replicate}
use Rattle.sk_resp.specs.Spelling.{Bytes, line, header, opened, bulk, joined}
use Rattle.sk_resp.specs.Reply.{array_text}
use Rattle.sk_resp.specs.ReplyStream.{IsFlat, IsNested, IsReplyPart, simple_text, error_text, int_text, bulk_text, null_text, null_array_text}
use Rattle.sk_resp.specs.declared.reply.state.Kind.{Kind}
use Rattle.sk_resp.specs.declared.reply.state.Kind.TheVariants as kind
use Rattle.sk_resp.specs.declared.reply.state.Stage.{Stage}
use Rattle.sk_resp.specs.declared.reply.state.Stage.TheVariants as stage
use Rattle.sk_resp.specs.ReplyMachine.{Levels, Machine, number_text, mark, spelled, part, seen_levels, seen, IsNumber, HasRoom, IsOpenAt, AreOpen, IsOpenWithin}
use Rattle.std.proofs.lemmas.Fmt.{decimal_digit}
use Rattle.sk_resp.specs.ReplyMachine.{behind, sign_needs, stage_needs, owed}
use Rattle.sk_resp.proofs.ReplyOpens.{by_cond, all-append, joined-append, crlf, flat-within, depth_is, int_flat, int_old, one}

-- the part goes on to a reply that may stand so deep
record Ends (depth : ℕ) (old : List ℕ) (need : ℕ) : Type 0 where
  more : List ℕ
  whole : IsNested depth (old ++ more)
  some : 0 < length more
  exact : length more ≡ need

-- the least reply
least : List ℕ
least = line (43 ∷ [])

least_is : (depth : ℕ) → IsNested depth (line (43 ∷ []))
least_is depth = flat-within depth (line (43 ∷ [])) (simple_text [] (record { plain = tt; short = omega arith }) refl)

fills : ℕ → List Bytes
fills zero = []
fills (suc n) = line (43 ∷ []) ∷ fills n

fills_are : (depth n : ℕ) → AllByRecursion (IsNested depth) (fills n)
unfolding fills
fills_are depth zero = tt
fills_are depth (suc n) = (least_is depth, fills_are depth n)

fills_length : (n : ℕ) → length (fills n) ≡ n
unfolding fills
fills_length zero = refl
fills_length (suc n) = ap suc (fills_length n)

-- one byte earlier
before : (depth : ℕ) (old : List ℕ) (b need : ℕ) → Ends depth (old ++ b ∷ []) need → Ends depth old (1 + need)
before depth old b need e = record {
  more = b ∷ e.more;
  whole = subst (IsNested depth) (append_assoc old (b ∷ []) e.more) e.whole;
  some = omega arith;
  exact = omega (arith, e.exact);
}

cast : (depth : ℕ) (old : List ℕ) (n m : ℕ) → n ≡ m → Ends depth old n → Ends depth old m
cast depth old n m e x = subst (Ends depth old) e x

fills_bytes : (n : ℕ) → length (joined (fills n)) ≡ 3 * n
unfolding fills
fills_bytes zero = refl
fills_bytes (suc n) = omega (arith, fills_bytes n)

by_text : (depth : ℕ) (old more text : List ℕ) (need : ℕ) → length more ≡ need → 0 < length more → IsNested depth text → old ++ more ≡ text → Ends depth old need
by_text depth old more text need exact some is e = record { more = more; whole = subst (IsNested depth) (sym e) is; some = some; exact = exact }

zeros : ℕ → List ℕ
zeros n = replicate n 0

body_ends : (need depth : ℕ) (text : List ℕ) → length text ≤ need → need ≤ 2 ^ 31 → Ends depth (opened need text) ((need - length text) + 2)
unfolding opened bulk
body_ends need depth text le short =
    let rest = replicate (need - length text) 0 in
    let len : length (text ++ rest) ≡ need = omega (arith, length-append text rest, length-replicate {A = ℕ} (need - length text) 0) in
    by_text depth (opened need text) (rest ++ 13 ∷ 10 ∷ []) (bulk (text ++ rest)) ((need - length text) + 2) (omega (arith, length-append rest (13 ∷ 10 ∷ []), length-replicate {A = ℕ} (need - length text) 0)) (omega (arith, length-append rest (13 ∷ 10 ∷ [])))
    (flat-within depth (bulk (text ++ rest)) (bulk_text (text ++ rest) (omega (arith, len)) refl))
    (append_assoc (line (36 ∷ decimal need)) text (rest ++ 13 ∷ 10 ∷ []) ∙ ap (λ z. line (36 ∷ decimal need) ++ z) (sym (append_assoc text rest (13 ∷ 10 ∷ []))) ∙ ap (λ n. line (36 ∷ decimal n) ++ line (text ++ rest)) (sym len))

number_ends : (k : Kind) (neg : Bool) (n depth len : ℕ) → IsNumber k neg n → HasRoom k neg len → depth + len ≡ 8 → Ends depth ((mark k ∷ spelled neg n) ++ 13 ∷ []) (1 + behind k neg n)
unfolding header opened
number_ends kind.Int neg n depth len is room e = by_text depth ((58 ∷ spelled neg n) ++ 13 ∷ []) (10 ∷ []) (number_text neg n) 1 refl (omega arith) (flat-within depth (number_text neg n) (int_flat neg n is)) (int_old neg n)
number_ends kind.Bulk true n depth len is room e = by_text depth ((36 ∷ 45 ∷ decimal n) ++ 13 ∷ []) (10 ∷ []) (line (36 ∷ 45 ∷ 49 ∷ [])) 1 refl (omega arith) (flat-within depth (line (36 ∷ 45 ∷ 49 ∷ [])) (null_text refl)) (crlf (36 ∷ 45 ∷ decimal n) ∙ ap (λ z. line (36 ∷ 45 ∷ z)) (one n is.0 is.1))
number_ends kind.Array true n depth len is room e = by_text depth ((42 ∷ 45 ∷ decimal n) ++ 13 ∷ []) (10 ∷ []) (line (42 ∷ 45 ∷ 49 ∷ [])) 1 refl (omega arith) (flat-within depth (line (42 ∷ 45 ∷ 49 ∷ [])) (null_array_text refl)) (crlf (42 ∷ 45 ∷ decimal n) ∙ ap (λ z. line (42 ∷ 45 ∷ z)) (one n is.0 is.1))
number_ends kind.Bulk false n depth len is room e = before depth ((36 ∷ decimal n) ++ 13 ∷ []) 10 (n + 2) (subst (λ z. Ends depth z (n + 2)) (append-nil (line (36 ∷ decimal n)) ∙ sym (crlf (36 ∷ decimal n))) (cast depth (line (36 ∷ decimal n) ++ []) ((n - length {A = ℕ} []) + 2) (n + 2) (omega arith) (body_ends n depth [] (omega arith) is)))
number_ends kind.Array false n zero len is room e = absurd (omega (arith, room refl refl))
number_ends kind.Array false n (suc depth) len is room e =
    let count = fills_length n in
    by_text (suc depth) ((42 ∷ decimal n) ++ 13 ∷ []) (10 ∷ joined (fills n)) (array_text (fills n)) (1 + 3 * n) (omega (arith, fills_bytes n)) (omega arith)
    (inr (fills n, fills_are depth n, omega (arith, count, is), refl))
    (append_assoc (42 ∷ decimal n) (13 ∷ []) (10 ∷ joined (fills n)) ∙ sym (append_assoc (42 ∷ decimal n) (13 ∷ 10 ∷ []) (joined (fills n))) ∙ ap (λ m. header m ++ joined (fills n)) (sym count))

line_ends : (m depth : ℕ) (text : List ℕ) → IsFlat (line (m ∷ text)) → Ends depth ((m ∷ text) ++ 13 ∷ []) 1
line_ends m depth text is = by_text depth ((m ∷ text) ++ 13 ∷ []) (10 ∷ []) (line (m ∷ text)) 1 refl (omega arith) (flat-within depth (line (m ∷ text)) is) (crlf (m ∷ text))

sign_ends : (k : Kind) (depth : ℕ) → Ends depth (mark k ∷ 45 ∷ []) 3
sign_ends kind.Int depth = by_text depth (58 ∷ 45 ∷ []) (49 ∷ 13 ∷ 10 ∷ []) (line (58 ∷ 45 ∷ decimal 1)) 3 refl (omega arith) (flat-within depth (line (58 ∷ 45 ∷ decimal 1)) (int_text (negsuc 0) (omega arith) refl)) (ap (λ z. line (58 ∷ 45 ∷ z)) (sym (one 1 (omega arith) (omega arith))))
sign_ends kind.Bulk depth = by_text depth (36 ∷ 45 ∷ []) (49 ∷ 13 ∷ 10 ∷ []) (line (36 ∷ 45 ∷ 49 ∷ [])) 3 refl (omega arith) (flat-within depth (line (36 ∷ 45 ∷ 49 ∷ [])) (null_text refl)) refl
sign_ends kind.Array depth = by_text depth (42 ∷ 45 ∷ []) (49 ∷ 13 ∷ 10 ∷ []) (line (42 ∷ 45 ∷ 49 ∷ [])) 3 refl (omega arith) (flat-within depth (line (42 ∷ 45 ∷ 49 ∷ [])) (null_array_text refl)) refl

zero_line : (m : ℕ) → line (m ∷ 48 ∷ []) ≡ line (m ∷ decimal 0)
zero_line m = ap (λ z. line (m ∷ z)) (sym (decimal_digit 0 (omega arith)))

array_start : (depth len : ℕ) → depth + len ≡ 8 → len < 8 → Ends depth (42 ∷ []) 3
unfolding header
array_start zero len e lt = absurd (omega (arith, e))
array_start (suc depth) len e lt = by_text (suc depth) (42 ∷ []) (48 ∷ 13 ∷ 10 ∷ []) (array_text []) 3 refl (omega arith) (inr ([], tt, omega arith, refl)) (zero_line 42 ∙ sym (append-nil (line (42 ∷ decimal 0))))

mark_ends : (k : Kind) (depth len : ℕ) → depth + len ≡ 8 → Ends depth (mark k ∷ []) (sign_needs k len)
mark_ends kind.Int depth len e = by_text depth (58 ∷ []) (48 ∷ 13 ∷ 10 ∷ []) (line (58 ∷ decimal 0)) 3 refl (omega arith) (flat-within depth (line (58 ∷ decimal 0)) (int_text (pos 0) (omega arith) refl)) (zero_line 58)
mark_ends kind.Bulk depth len e = before depth (36 ∷ []) 45 3 (sign_ends kind.Bulk depth)
mark_ends kind.Array depth len e = by_cond (Ends depth (42 ∷ [])) (ltb len 8) 3 4 (λ t. array_start depth len e (grind arith)) (λ f. before depth (42 ∷ []) 45 3 (sign_ends kind.Array depth))

stage_ends : (s : Stage) (text : List ℕ) (depth len : ℕ) → depth + len ≡ 8 → IsOpenAt s text len → Ends depth (part s text) (stage_needs s (length text) len)
unfolding opened bulk
stage_ends stage.Start text depth len e is = by_text depth [] (line (43 ∷ [])) (line (43 ∷ [])) 3 refl (omega arith) (least_is depth) refl
stage_ends stage.Simple text depth len e is = before depth (43 ∷ text) 13 1 (line_ends 43 depth text (simple_text text is refl))
stage_ends stage.SimpleEnd text depth len e is = line_ends 43 depth text (simple_text text is refl)
stage_ends stage.Error text depth len e is = before depth (45 ∷ text) 13 1 (line_ends 45 depth text (error_text text is refl))
stage_ends stage.ErrorEnd text depth len e is = line_ends 45 depth text (error_text text is refl)
stage_ends (stage.Sign k) text depth len e is = mark_ends k depth len e
stage_ends (stage.Minus k) text depth len e is = sign_ends k depth
stage_ends (stage.Digits k neg n) text depth len e is = cast depth (mark k ∷ spelled neg n) (1 + (1 + behind k neg n)) (2 + behind k neg n) (omega arith) (before depth (mark k ∷ spelled neg n) 13 (1 + behind k neg n) (number_ends k neg n depth len is.0 is.1 e))
stage_ends (stage.DigitsEnd k neg n) text depth len e is = number_ends k neg n depth len is.0 is.1 e
stage_ends (stage.Body need) text depth len e is = body_ends need depth text is.0 is.1
stage_ends stage.BodyEnd text depth len e is = by_text depth ((opened (length text) text) ++ 13 ∷ []) (10 ∷ []) (bulk text) 1 refl (omega arith) (flat-within depth (bulk text) (bulk_text text is refl))
    (append_assoc (opened (length text) text) (13 ∷ []) (10 ∷ []) ∙ append_assoc (line (36 ∷ decimal (length text))) text (13 ∷ 10 ∷ []))

-- the arrays around it go on to a reply as well
levels_end : (depth : ℕ) (stack : Levels) (old : List ℕ) (need : ℕ) → AreOpen depth stack → Ends depth old need → Ends 8 (seen_levels stack ++ old) (need + owed stack)
levels_end depth [] old need is_open e = cast 8 old need (need + 0) (omega arith) (subst (λ d. Ends d old need) is_open e)
levels_end depth ((count, texts) ∷ stack) old need is_open e =
    let text = old ++ e.more in
    let n = count - suc (length texts) in
    let all : List Bytes = texts ++ text ∷ fills n in
    let len : length all ≡ count = omega (arith, length-append texts (text ∷ fills n), fills_length n, is_open.0) in
    let each : AllByRecursion (IsNested depth) all = all-append (IsNested depth) texts (text ∷ fills n) is_open.2 (e.whole, fills_are depth n) in
    let front = header count ++ joined texts in
    let same : (front ++ old) ++ (e.more ++ joined (fills n)) ≡ array_text all =
    append_assoc front old (e.more ++ joined (fills n))
    ∙ ap (λ z. front ++ z) (sym (append_assoc old e.more (joined (fills n))))
    ∙ append_assoc (header count) (joined texts) (text ++ joined (fills n))
    ∙ ap (λ z. header count ++ z) (sym (joined-append texts (text ∷ fills n)))
    ∙ ap (λ m. header m ++ joined all) (sym len) in
    subst (λ z. Ends 8 z (need + (3 * n + owed stack))) (sym (append_assoc (seen_levels stack) front old))
    (cast 8 (seen_levels stack ++ (front ++ old)) ((need + 3 * n) + owed stack) (need + (3 * n + owed stack)) (omega arith) (levels_end (suc depth) stack (front ++ old) (need + 3 * n) is_open.3
    (by_text (suc depth) (front ++ old) (e.more ++ joined (fills n)) (array_text all) (need + 3 * n) (omega (arith, e.exact, fills_bytes n, length-append e.more (joined (fills n)))) (omega (arith, e.some, length-append e.more (joined (fills n)))) (inr (all, each, omega (arith, len, is_open.1), refl)) same)))

-- the least that ends it: so many bytes as `needs` says
pub finish : (m : Machine) → IsOpenWithin m → IsReplyPart (seen m)
finish m within =
    let o = within.is_open in
    let e = levels_end o.1.0 m.stack (part m.stage m.line) (stage_needs m.stage (length m.line) (length m.stack)) o.1.1 (stage_ends m.stage m.line o.1.0 (length m.stack) (depth_is o.1.0 m.stack o.1.1) o.0) in
    record {
      more = e.more;
      whole = record { nested = e.whole; short = omega (arith, e.exact, within.small, length-append (seen m) e.more) };
      some = e.some;
    }
