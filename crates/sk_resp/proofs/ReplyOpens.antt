-- A byte keeps what a state says of the bytes that have come.
use Rattle.std.proofs.Common.{◌≡◌, ◌≢◌, ◌+◌, ◌-◌, ◌*◌, ◌/◌, ◌%◌, ◌<◌, ◌≤◌, ◌^◌, ℕ, pos, negsuc, zero, suc, List, [], ◌∷◌, ◌++◌, length, Bool, true, false, cond, eqb, ltb, leb, Option, Some, None, inl, inr, refl, sym, ap, subst, ◌∙◌, arith, append_assoc, append-nil, length-append}
use Rattle.std.specs.List.{AllByRecursion}
use Rattle.std.specs.Fmt.{decimal}
use Rattle.std.proofs.lemmas.Fmt.{decimal_step, decimal_digit}
use Rattle.std.proofs.lemmas.Bool.Decides.{eqb_tells}
use Rattle.sk_resp.specs.Spelling.{Bytes, line, header, opened, bulk, joined}
use Rattle.sk_resp.specs.Reply.{array_text}
use Rattle.sk_resp.specs.ReplyStream.{IsLineText, IsFlat, IsNested, simple_text, error_text, int_text, bulk_text, null_text, null_array_text}
use Rattle.sk_resp.specs.declared.reply.state.Kind.{Kind}
use Rattle.sk_resp.specs.declared.reply.state.Kind.TheVariants as kind
use Rattle.sk_resp.specs.declared.reply.state.Stage.{Stage}
use Rattle.sk_resp.specs.declared.reply.state.Stage.TheVariants as stage
use Rattle.sk_resp.specs.ReplyMachine.{Levels, Machine, at, Out, gives, fails, settled, most, is_full, digit_of, starts, lines, ends, first_digit, signs, minus_digit, more_digit, digits, number_text, number, digits_end, bodies, go_at, go, mark, spelled, part, seen_levels, seen, IsNumber, HasRoom, IsOpenAt, AreOpen, IsOpen}

-- The text is these replies and what is open now, each of its kind.
pub record Good (P : Bytes → Type 0) (Q : Machine → Type 0) (text : Bytes) (texts : List Bytes) (m : Machine) : Type 0 where
  pub is : text ≡ joined texts ++ seen m
  pub each : AllByRecursion P texts
  pub is_open : Q m

abbrev pub WentTo : (Bytes → Type 0) → (Machine → Type 0) → Bytes → Out → Type 0
WentTo P Q text (gives texts m) = Good P Q text texts m
WentTo P Q text fails = Unit {0}

-- with no regard to the limit on the bytes of a whole reply
abbrev pub Went : Bytes → Out → Type 0
Went text o = WentTo (IsNested 8) IsOpen text o

pub by_cond : {A : Type 0} (P : A → Type 0) (c : Bool) (x y : A) → (c ≡ true → P x) → (c ≡ false → P y) → P (cond c x y)
by_cond P true x y p q = p refl
by_cond P false x y p q = q refl

pub all-append : {A : Type 0} (P : A → Type 0) (xs ys : List A) → AllByRecursion P xs → AllByRecursion P ys → AllByRecursion P (xs ++ ys)
all-append P [] ys p q = q
all-append P (x ∷ xs) ys p q = (p.0, all-append P xs ys p.1 q)

pub joined-append : (xs ys : List Bytes) → joined (xs ++ ys) ≡ joined xs ++ joined ys
joined-append [] ys = refl
joined-append (x ∷ xs) ys = ap (λ z. x ++ z) (joined-append xs ys) ∙ sym (append_assoc x (joined xs) (joined ys))

-- nothing was given: only the part grew
goes : (stack : Levels) (old : List ℕ) (b : ℕ) (s : Stage) (text : List ℕ) (depth : ℕ) → AreOpen depth stack → IsOpenAt s text (length stack) → part s text ≡ old ++ b ∷ [] → Went ((seen_levels stack ++ old) ++ b ∷ []) (gives [] (at s text stack))
goes stack old b s text depth levels_open is_open e = record {
  is = append_assoc (seen_levels stack) old (b ∷ []) ∙ ap (λ z. seen_levels stack ++ z) (sym e);
  each = tt;
  is_open = (is_open, (depth, levels_open));
}

pub joined-more : (texts : List Bytes) (text : List ℕ) → joined (texts ++ text ∷ []) ≡ joined texts ++ text
joined-more texts text = joined-append texts (text ∷ []) ∙ ap (λ z. joined texts ++ z) (append-nil text)

pub settled-went : (depth : ℕ) (stack : Levels) (text : List ℕ) → AreOpen depth stack → IsNested depth text → Went (seen_levels stack ++ text) (settled stack text)
settled-went depth [] text is_open is = record {
  is = sym (append-nil (text ++ []) ∙ append-nil text);
  each = (subst (λ d. IsNested d text) is_open is, tt);
  is_open = (refl, (8, refl));
}
settled-went depth ((count, texts) ∷ stack) text is_open is =
    let more : AllByRecursion (IsNested depth) (texts ++ text ∷ []) = all-append (IsNested depth) texts (text ∷ []) is_open.2 (is, tt) in
    let len : length (texts ++ text ∷ []) ≡ suc (length texts) = length-append texts (text ∷ []) ∙ omega arith in
    let same : seen_levels stack ++ (header count ++ joined (texts ++ text ∷ [])) ≡ (seen_levels stack ++ (header count ++ joined texts)) ++ text =
    ap (λ z. seen_levels stack ++ (header count ++ z)) (joined-more texts text)
    ∙ ap (λ z. seen_levels stack ++ z) (sym (append_assoc (header count) (joined texts) text))
    ∙ sym (append_assoc (seen_levels stack) (header count ++ joined texts) text) in
    by_cond (Went ((seen_levels stack ++ (header count ++ joined texts)) ++ text)) (ltb (suc (length texts)) count) _ _
    (λ t. record {
      is = sym (append-nil _ ∙ same);
      each = tt;
      is_open = (refl, (depth, (grind (arith, len), is_open.1, more, is_open.3)));
    })
    (λ f.
    let full : length (texts ++ text ∷ []) ≡ count = grind (arith, len, is_open.0) in
    subst (λ z. Went z (settled stack (array_text (texts ++ text ∷ []))))
    (ap (λ n. seen_levels stack ++ (header n ++ joined (texts ++ text ∷ []))) full ∙ same)
    (settled-went (suc depth) stack (array_text (texts ++ text ∷ [])) is_open.3 (inr (texts ++ text ∷ [], more, omega (arith, full, is_open.1), refl))))

-- ## One stage after the other

pub same : (x y : ℕ) → eqb x y ≡ true → x ≡ y
same x y t = elim (eqb_tells x y) [ inl e ↦ e.1 | inr e ↦ absurd (let no : true ≡ false = sym t ∙ e.0 in cc) ]

pub by_digit : (P : Option ℕ → Type 0) (b : ℕ) → P None → ((d : ℕ) → d ≤ 9 → b ≡ 48 + d → P (Some d)) → P (digit_of b)
by_digit P b none some = by_cond P (ltb b 48) _ _ (λ t. none) (λ f. by_cond P (ltb 57 b) _ _ (λ t. none) (λ g. some (b - 48) (grind arith) (grind arith)))

pub depth_is : (depth : ℕ) (stack : Levels) → AreOpen depth stack → depth + length stack ≡ 8
depth_is depth [] is_open = omega (arith, is_open)
depth_is depth (l ∷ stack) is_open = omega (arith, depth_is (suc depth) stack is_open.3)

pub crlf : (xs : List ℕ) → (xs ++ 13 ∷ []) ++ 10 ∷ [] ≡ line xs
crlf xs = append_assoc xs (13 ∷ []) (10 ∷ [])

pub flat-within : (depth : ℕ) (text : List ℕ) → IsFlat text → IsNested depth text
flat-within zero text is = is
flat-within (suc depth) text is = inl is

ends-went : (depth : ℕ) (stack : Levels) (old text : List ℕ) (b : ℕ) → AreOpen depth stack → IsNested depth text → old ++ 10 ∷ [] ≡ text → Went ((seen_levels stack ++ old) ++ b ∷ []) (ends stack text b)
ends-went depth stack old text b is_open is e = by_cond (Went ((seen_levels stack ++ old) ++ b ∷ [])) (eqb b 10) _ _
    (λ t. subst (λ z. Went z (settled stack text)) (ap (λ z. seen_levels stack ++ z) (sym e ∙ ap (λ c. old ++ c ∷ []) (sym (same b 10 t))) ∙ sym (append_assoc (seen_levels stack) old (b ∷ []))) (settled-went depth stack text is_open is))
    (λ f. tt)

empty_text : (text : List ℕ) → text ≡ [] → IsLineText text
empty_text text e = subst IsLineText (sym e) (record { plain = tt; short = omega arith })

starts-went : (depth : ℕ) (stack : Levels) (text : List ℕ) (b : ℕ) → AreOpen depth stack → text ≡ [] → Went ((seen_levels stack ++ []) ++ b ∷ []) (starts text stack b)
starts-went depth stack text b is_open e =
    let W : Out → Type 0 = Went ((seen_levels stack ++ []) ++ b ∷ []) in
    by_cond W (eqb b 43) _ _ (λ t. goes stack [] b stage.Simple text depth is_open (empty_text text e) (cc (e, same b 43 t)))
    (λ f. by_cond W (eqb b 45) _ _ (λ t. goes stack [] b stage.Error text depth is_open (empty_text text e) (cc (e, same b 45 t)))
    (λ f. by_cond W (eqb b 58) _ _ (λ t. goes stack [] b (stage.Sign kind.Int) text depth is_open tt (cc (same b 58 t)))
    (λ f. by_cond W (eqb b 36) _ _ (λ t. goes stack [] b (stage.Sign kind.Bulk) text depth is_open tt (cc (same b 36 t)))
    (λ f. by_cond W (eqb b 42) _ _ (λ t. goes stack [] b (stage.Sign kind.Array) text depth is_open tt (cc (same b 42 t)))
    (λ f. tt)))))

pub differs : (x y : ℕ) → eqb x y ≡ false → x ≢ y
differs x y f = λ e. elim (eqb_tells x y) [ inl g ↦ (let no : true ≡ false = sym g.0 ∙ f in cc) | inr g ↦ g.1 e ]

text_more : (text : List ℕ) (b : ℕ) → IsLineText text → b ≢ 13 → b ≢ 10 → length text < 2 ^ 16 → IsLineText (text ++ b ∷ [])
text_more text b is p q lt = record {
  plain = all-append (λ c. (c ≢ 13) × (c ≢ 10)) text (b ∷ []) is.plain ((p, q), tt);
  short = omega (arith, length-append text (b ∷ []));
}

lines-went : (m : ℕ) (stay end : Stage) (depth : ℕ) (stack : Levels) (text : List ℕ) (b : ℕ) → AreOpen depth stack → IsLineText text
    → ((xs : List ℕ) → IsLineText xs → IsOpenAt stay xs (length stack)) → IsOpenAt end text (length stack) → ((xs : List ℕ) → part stay xs ≡ m ∷ xs) → part end text ≡ (m ∷ text) ++ 13 ∷ []
    → Went ((seen_levels stack ++ (m ∷ text)) ++ b ∷ []) (lines stay end text stack b)
lines-went m stay end depth stack text b is_open is open_stay open_end e f =
    let W : Out → Type 0 = Went ((seen_levels stack ++ (m ∷ text)) ++ b ∷ []) in
    by_cond W (eqb b 13) _ _ (λ t. goes stack (m ∷ text) b end text depth is_open open_end (f ∙ ap (λ c. (m ∷ text) ++ c ∷ []) (sym (same b 13 t))))
    (λ p. by_cond W (eqb b 10) _ _ (λ t. tt)
    (λ q. by_cond W (leb (2 ^ 16) (length text)) _ _ (λ t. tt)
    (λ r. goes stack (m ∷ text) b stay (text ++ b ∷ []) depth is_open (open_stay (text ++ b ∷ []) (text_more text b is (differs b 13 p) (differs b 10 q) (grind arith))) (e (text ++ b ∷ [])))))

room_here : (k : Kind) (depth : ℕ) → is_full k depth ≡ false → HasRoom k false depth
room_here kind.Int depth f = λ e g. absurd (cc)
room_here kind.Bulk depth f = λ e g. absurd (cc)
room_here kind.Array depth f = λ e g. grind arith

small_digit : (k : Kind) (d : ℕ) → d ≤ 9 → d ≤ most k false
small_digit kind.Int d le = omega arith
small_digit kind.Bulk d le = omega arith
small_digit kind.Array d le = omega arith

signs-went : (k : Kind) (depth : ℕ) (stack : Levels) (text : List ℕ) (b : ℕ) → AreOpen depth stack → Went ((seen_levels stack ++ (mark k ∷ [])) ++ b ∷ []) (signs k text stack b)
signs-went k depth stack text b is_open =
    let W : Out → Type 0 = Went ((seen_levels stack ++ (mark k ∷ [])) ++ b ∷ []) in
    by_cond W (eqb b 45) _ _ (λ t. goes stack (mark k ∷ []) b (stage.Minus k) text depth is_open tt (cc (same b 45 t)))
    (λ f. by_digit (λ o. W (first_digit k text stack o)) b tt (λ d le e.
    by_cond W (is_full k (length stack)) _ _ (λ t. tt)
    (λ g. goes stack (mark k ∷ []) b (stage.Digits k false d) text depth is_open (small_digit k d le, room_here k (length stack) g) (ap (λ z. mark k ∷ z) (decimal_digit d (omega arith) ∙ ap (λ c. c ∷ []) (sym e))))))

minus-went : (k : Kind) (depth : ℕ) (stack : Levels) (text : List ℕ) (b : ℕ) → AreOpen depth stack → Went ((seen_levels stack ++ (mark k ∷ 45 ∷ [])) ++ b ∷ []) (minus_digit k text stack (digit_of b))
minus-went k depth stack text b is_open =
    let W : Out → Type 0 = Went ((seen_levels stack ++ (mark k ∷ 45 ∷ [])) ++ b ∷ []) in
    by_digit (λ o. W (minus_digit k text stack o)) b tt (λ d le e.
    by_cond W (eqb d 0) _ _ (λ t. tt)
    (λ f. by_cond W (ltb (most k true) d) _ _ (λ t. tt)
    (λ g. goes stack (mark k ∷ 45 ∷ []) b (stage.Digits k true d) text depth is_open ((omega (arith, differs d 0 f), grind arith), λ p q. absurd (cc)) (ap (λ z. mark k ∷ 45 ∷ z) (decimal_digit d (omega arith) ∙ ap (λ c. c ∷ []) (sym e))))))

most_small : (k : Kind) (neg : Bool) → most k neg ≤ 2 ^ 63
most_small kind.Int false = omega arith
most_small kind.Int true = omega arith
most_small kind.Bulk false = omega arith
most_small kind.Bulk true = omega arith
most_small kind.Array false = omega arith
most_small kind.Array true = omega arith

pub decimal-more : (n d : ℕ) → 0 < n → d ≤ 9 → 10 * n + d < 2 ^ 64 → decimal (10 * n + d) ≡ decimal n ++ (48 + d) ∷ []
decimal-more n d some le small =
    let q : (10 * n + d) / 10 ≡ n = omega arith in
    let r : (10 * n + d) % 10 ≡ d = omega arith in
    decimal_step (10 * n + d) (omega arith) small ∙ ap (λ z. decimal z ++ (48 + (10 * n + d) % 10) ∷ []) q ∙ ap (λ z. decimal n ++ (48 + z) ∷ []) r

spelled-more : (neg : Bool) (n d : ℕ) → 0 < n → d ≤ 9 → 10 * n + d < 2 ^ 64 → spelled neg (10 * n + d) ≡ spelled neg n ++ (48 + d) ∷ []
spelled-more false n d some le small = decimal-more n d some le small
spelled-more true n d some le small = ap (λ z. 45 ∷ z) (decimal-more n d some le small)

number_of : (k : Kind) (neg : Bool) (n : ℕ) → 0 < n → n ≤ most k neg → IsNumber k neg n
number_of k false n some le = le
number_of k true n some le = (some, le)

digits-went : (k : Kind) (neg : Bool) (n depth : ℕ) (stack : Levels) (text : List ℕ) (b : ℕ) → AreOpen depth stack → IsNumber k neg n → HasRoom k neg (length stack)
    → Went ((seen_levels stack ++ (mark k ∷ spelled neg n)) ++ b ∷ []) (digits k neg n text stack b)
digits-went k neg n depth stack text b is_open is room =
    let W : Out → Type 0 = Went ((seen_levels stack ++ (mark k ∷ spelled neg n)) ++ b ∷ []) in
    by_cond W (eqb b 13) _ _ (λ t. goes stack (mark k ∷ spelled neg n) b (stage.DigitsEnd k neg n) text depth is_open (is, room) (ap (λ c. (mark k ∷ spelled neg n) ++ c ∷ []) (sym (same b 13 t))))
    (λ f. by_digit (λ o. W (more_digit k neg n text stack o)) b tt (λ d le e.
    by_cond W (eqb n 0) _ _ (λ t. tt)
    (λ g. by_cond W (ltb 922337203685477580 n) _ _ (λ t. tt)
    (λ h. by_cond W (ltb (most k neg) (10 * n + d)) _ _ (λ t. tt)
    (λ i.
    let some : 0 < n = omega (arith, differs n 0 g) in
    let small : 10 * n + d ≤ most k neg = grind arith in
    goes stack (mark k ∷ spelled neg n) b (stage.Digits k neg (10 * n + d)) text depth is_open (number_of k neg (10 * n + d) (omega arith) small, room)
    (ap (λ z. mark k ∷ z) (spelled-more neg n d some le (omega (arith, most_small k neg)) ∙ ap (λ c. spelled neg n ++ c ∷ []) (sym e))))))))

bodies-went : (need depth : ℕ) (stack : Levels) (text : List ℕ) (b : ℕ) → AreOpen depth stack → length text ≤ need → need ≤ 2 ^ 31
    → Went ((seen_levels stack ++ (opened need text)) ++ b ∷ []) (bodies need text stack b)
unfolding opened
bodies-went need depth stack text b is_open le short =
    let old = opened need text in
    let W : Out → Type 0 = Went ((seen_levels stack ++ old) ++ b ∷ []) in
    by_cond W (ltb (length text) need) _ _
    (λ t. goes stack old b (stage.Body need) (text ++ b ∷ []) depth is_open (grind (arith, length-append text (b ∷ [])), short) (sym (append_assoc (line (36 ∷ decimal need)) text (b ∷ []))))
    (λ f. by_cond W (eqb b 13) _ _
    (λ t. let len : length text ≡ need = grind arith in goes stack old b stage.BodyEnd text depth is_open (omega arith)
    (ap (λ n. (line (36 ∷ decimal n) ++ text) ++ 13 ∷ []) len ∙ ap (λ c. old ++ c ∷ []) (sym (same b 13 t))))
    (λ g. tt))

pub one : (n : ℕ) → 0 < n → n ≤ 1 → decimal n ≡ 49 ∷ []
one n some le = let e : n ≡ 1 = omega arith in ap decimal e ∙ decimal_digit 1 (omega arith)

pub int_flat : (neg : Bool) (n : ℕ) → IsNumber kind.Int neg n → IsFlat (number_text neg n)
int_flat false n is = int_text (pos n) (omega (arith, is)) refl
int_flat true zero is = absurd (omega (arith, is.0))
int_flat true (suc n) is = int_text (negsuc n) (omega (arith, is.1)) refl

pub int_old : (neg : Bool) (n : ℕ) → ((58 ∷ spelled neg n) ++ 13 ∷ []) ++ 10 ∷ [] ≡ number_text neg n
int_old false n = crlf (58 ∷ decimal n)
int_old true n = crlf (58 ∷ 45 ∷ decimal n)

-- behind an LF
number-went : (k : Kind) (neg : Bool) (n depth : ℕ) (stack : Levels) → AreOpen depth stack → IsNumber k neg n → HasRoom k neg (length stack)
    → Went (seen_levels stack ++ (((mark k ∷ spelled neg n) ++ 13 ∷ []) ++ 10 ∷ [])) (number k neg n stack)
unfolding header opened
number-went kind.Int neg n depth stack is_open is room =
    subst (λ z. Went (seen_levels stack ++ z) (settled stack (number_text neg n))) (sym (int_old neg n)) (settled-went depth stack (number_text neg n) is_open (flat-within depth (number_text neg n) (int_flat neg n is)))
number-went kind.Bulk true n depth stack is_open is room =
    subst (λ z. Went (seen_levels stack ++ z) (settled stack (line (36 ∷ 45 ∷ 49 ∷ [])))) (ap (λ z. line (36 ∷ 45 ∷ z)) (sym (one n is.0 is.1)) ∙ sym (crlf (36 ∷ 45 ∷ decimal n)))
    (settled-went depth stack (line (36 ∷ 45 ∷ 49 ∷ [])) is_open (flat-within depth (line (36 ∷ 45 ∷ 49 ∷ [])) (null_text refl)))
number-went kind.Array true n depth stack is_open is room =
    subst (λ z. Went (seen_levels stack ++ z) (settled stack (line (42 ∷ 45 ∷ 49 ∷ [])))) (ap (λ z. line (42 ∷ 45 ∷ z)) (sym (one n is.0 is.1)) ∙ sym (crlf (42 ∷ 45 ∷ decimal n)))
    (settled-went depth stack (line (42 ∷ 45 ∷ 49 ∷ [])) is_open (flat-within depth (line (42 ∷ 45 ∷ 49 ∷ [])) (null_array_text refl)))
number-went kind.Bulk false n depth stack is_open is room = record {
  is = ap (λ z. seen_levels stack ++ z) (crlf (36 ∷ decimal n) ∙ sym (append-nil (line (36 ∷ decimal n))));
  each = tt;
  is_open = ((omega arith, is), (depth, is_open));
}
number-went kind.Array false n zero stack is_open is room = absurd (omega (arith, room refl refl, depth_is zero stack is_open))
number-went kind.Array false n (suc depth) stack is_open is room =
    by_cond (Went (seen_levels stack ++ (((42 ∷ decimal n) ++ 13 ∷ []) ++ 10 ∷ []))) (eqb n 0) _ _
    (λ t. subst (λ z. Went (seen_levels stack ++ z) (settled stack (array_text [])))
    (append-nil (header 0) ∙ ap header (sym (same n 0 t)) ∙ sym (crlf (42 ∷ decimal n)))
    (settled-went (suc depth) stack (array_text []) is_open (inr ([], tt, omega arith, refl))))
    (λ f. record {
      is = ap (λ z. seen_levels stack ++ z) (crlf (42 ∷ decimal n) ∙ sym (append-nil (header n))) ∙ sym (append-nil (seen_levels stack ++ (header n ++ [])));
      each = tt;
      is_open = (refl, (depth, (omega (arith, differs n 0 f), is, tt, is_open)));
    })

digits_end-went : (k : Kind) (neg : Bool) (n depth : ℕ) (stack : Levels) (b : ℕ) → AreOpen depth stack → IsNumber k neg n → HasRoom k neg (length stack)
    → Went ((seen_levels stack ++ ((mark k ∷ spelled neg n) ++ 13 ∷ [])) ++ b ∷ []) (digits_end k neg n stack b)
digits_end-went k neg n depth stack b is_open is room =
    let old = (mark k ∷ spelled neg n) ++ 13 ∷ [] in
    by_cond (Went ((seen_levels stack ++ old) ++ b ∷ [])) (eqb b 10) _ _
    (λ t. subst (λ z. Went z (number k neg n stack)) (ap (λ c. seen_levels stack ++ (old ++ c ∷ [])) (sym (same b 10 t)) ∙ sym (append_assoc (seen_levels stack) old (b ∷ []))) (number-went k neg n depth stack is_open is room))
    (λ f. tt)

went_at : (s : Stage) (text : List ℕ) (stack : Levels) (b depth : ℕ) → AreOpen depth stack → IsOpenAt s text (length stack) → Went ((seen_levels stack ++ part s text) ++ b ∷ []) (go_at s text stack b)
unfolding opened bulk
went_at stage.Start text stack b depth levels_open is_open = starts-went depth stack text b levels_open is_open
went_at stage.Simple text stack b depth levels_open is_open = lines-went 43 stage.Simple stage.SimpleEnd depth stack text b levels_open is_open (λ xs p. p) is_open (λ xs. refl) refl
went_at stage.SimpleEnd text stack b depth levels_open is_open = ends-went depth stack ((43 ∷ text) ++ 13 ∷ []) (line (43 ∷ text)) b levels_open (flat-within depth (line (43 ∷ text)) (simple_text text is_open refl)) (crlf (43 ∷ text))
went_at stage.Error text stack b depth levels_open is_open = lines-went 45 stage.Error stage.ErrorEnd depth stack text b levels_open is_open (λ xs p. p) is_open (λ xs. refl) refl
went_at stage.ErrorEnd text stack b depth levels_open is_open = ends-went depth stack ((45 ∷ text) ++ 13 ∷ []) (line (45 ∷ text)) b levels_open (flat-within depth (line (45 ∷ text)) (error_text text is_open refl)) (crlf (45 ∷ text))
went_at (stage.Sign k) text stack b depth levels_open is_open = signs-went k depth stack text b levels_open
went_at (stage.Minus k) text stack b depth levels_open is_open = minus-went k depth stack text b levels_open
went_at (stage.Digits k neg n) text stack b depth levels_open is_open = digits-went k neg n depth stack text b levels_open is_open.0 is_open.1
went_at (stage.DigitsEnd k neg n) text stack b depth levels_open is_open = digits_end-went k neg n depth stack b levels_open is_open.0 is_open.1
went_at (stage.Body need) text stack b depth levels_open is_open = bodies-went need depth stack text b levels_open is_open.0 is_open.1
went_at stage.BodyEnd text stack b depth levels_open is_open = ends-went depth stack ((line (36 ∷ decimal (length text)) ++ text) ++ 13 ∷ []) (bulk text) b levels_open (flat-within depth (bulk text) (bulk_text text is_open refl))
    (append_assoc (line (36 ∷ decimal (length text)) ++ text) (13 ∷ []) (10 ∷ []) ∙ append_assoc (line (36 ∷ decimal (length text))) text (13 ∷ 10 ∷ []))

pub went : (m : Machine) (b : ℕ) → IsOpen m → Went (seen m ++ b ∷ []) (go m b)
went m b is_open = went_at m.stage m.line m.stack b is_open.1.0 is_open.1.1 is_open.0
