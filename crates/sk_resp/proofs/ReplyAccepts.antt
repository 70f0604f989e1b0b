-- The reader takes each reply, and is then behind it.
use Rattle.std.proofs.Common.{◌≡◌, ◌≢◌, ◌+◌, ◌-◌, ◌*◌, ◌/◌, ◌%◌, ◌<◌, ◌≤◌, ◌^◌, ℕ, pos, negsuc, zero, suc, List, [], ◌∷◌, ◌++◌, length, Bool, true, false, cond, eqb, ltb, leb, Some, None, inl, inr, refl, sym, ap, ◌∙◌, arith, append_assoc, append-nil, length-append}
use Rattle.std.specs.List.{AllByRecursion}
use Rattle.std.specs.Fmt.{decimal}
use Rattle.std.proofs.lemmas.Fmt.{decimal_by_steps}
use Rattle.std.proofs.lemmas.Bool.{ne_eqb}
use Rattle.sk_resp.specs.Spelling.{Bytes, line, header, bulk, joined}
use Rattle.sk_resp.specs.Reply.{array_text}
use Rattle.sk_resp.specs.ReplyStream.{IsFlat, IsNested, simple_text, error_text, int_text, bulk_text, null_text, null_array_text}
use Rattle.sk_resp.specs.declared.reply.state.Kind.{Kind}
use Rattle.sk_resp.specs.declared.reply.state.Kind.TheVariants as kind
use Rattle.sk_resp.specs.declared.reply.state.Stage.{Stage}
use Rattle.sk_resp.specs.declared.reply.state.Stage.TheVariants as stage
use Rattle.sk_resp.specs.ReplyMachine.{Levels, Machine, at, gives, fails, settled, most, is_full, digit_of, lines, first_digit, minus_digit, more_digit, number, go_at, go, run, onward, after}
use Rattle.sk_resp.proofs.ReplyRuns.{after-nil, runs-append, onward-nil, run-on, runs-one}

pub off : {A : Type 0} (c : Bool) (x y : A) → c ≡ false → cond c x y ≡ y
off true x y e = absurd (cc)
off false x y e = refl

pub on : {A : Type 0} (c : Bool) (x y : A) → c ≡ true → cond c x y ≡ x
on true x y e = refl
on false x y e = absurd (cc)

pub is_true : (c : Bool) → (c ≡ false → ⊥) → c ≡ true
is_true true h = refl
is_true false h = absurd (h refl)

not_true : (c : Bool) → (c ≡ true → ⊥) → c ≡ false
not_true true h = absurd (h refl)
not_true false h = refl

is_digit : (d : ℕ) → d ≤ 9 → digit_of (48 + d) ≡ Some d
is_digit d le =
    let e : (48 + d) - 48 ≡ d = omega arith in
    off (ltb (48 + d) 48) None _ (not_true (ltb (48 + d) 48) (λ t. grind arith)) ∙ off (ltb 57 (48 + d)) None _ (not_true (ltb 57 (48 + d)) (λ t. grind arith)) ∙ ap Some e

-- the first digit
first : (k : Kind) (stack : Levels) (d : ℕ) → d ≤ 9 → is_full k (length stack) ≡ false → go_at (stage.Sign k) [] stack (48 + d) ≡ gives [] (at (stage.Digits k false d) [] stack)
first k stack d le room =
    off (eqb (48 + d) 45) _ _ (ne_eqb (48 + d) 45 (λ e. omega arith)) ∙ ap (first_digit k [] stack) (is_digit d le) ∙ off (is_full k (length stack)) fails _ room

first_minus : (k : Kind) (stack : Levels) (d : ℕ) → d ≤ 9 → 0 < d → d ≤ most k true → go_at (stage.Minus k) [] stack (48 + d) ≡ gives [] (at (stage.Digits k true d) [] stack)
first_minus k stack d le some small =
    ap (minus_digit k [] stack) (is_digit d le) ∙ off (eqb d 0) fails _ (ne_eqb d 0 (λ e. omega arith)) ∙ off (ltb (most k true) d) fails _ (not_true (ltb (most k true) d) (λ t. grind arith))

next_digit : (k : Kind) (neg : Bool) (n d : ℕ) (stack : Levels) → d ≤ 9 → 0 < n → 10 * n + d ≤ most k neg → most k neg ≤ 2 ^ 63 → go_at (stage.Digits k neg n) [] stack (48 + d) ≡ gives [] (at (stage.Digits k neg (10 * n + d)) [] stack)
next_digit k neg n d stack le some small bound =
    off (eqb (48 + d) 13) _ _ (ne_eqb (48 + d) 13 (λ e. omega arith)) ∙ ap (more_digit k neg n [] stack) (is_digit d le) ∙ off (eqb n 0) fails _ (ne_eqb n 0 (λ e. omega arith))
    ∙ off (ltb 922337203685477580 n) fails _ (not_true (ltb 922337203685477580 n) (λ t. grind arith)) ∙ off (ltb (most k neg) (10 * n + d)) fails _ (not_true (ltb (most k neg) (10 * n + d)) (λ t. grind arith))

-- a state that stands before a number's digits
abbrev Before : Machine → Kind → Bool → Levels → Type 0
Before m k neg stack = (d : ℕ) → d ≤ 9 → d ≤ most k neg → (neg ≡ true → 0 < d) → go m (48 + d) ≡ gives [] (at (stage.Digits k neg d) [] stack)

some_tenth : (m : ℕ) → 10 ≤ m → 0 < m / 10
some_tenth m le = omega arith

by_tens : (m : ℕ) → 10 * (m / 10) + m % 10 ≡ m
by_tens m = omega arith

runs_digits : (m : Machine) (k : Kind) (neg : Bool) (stack : Levels) → Before m k neg stack → most k neg ≤ 2 ^ 63 → (n : ℕ) → n ≤ most k neg → (neg ≡ true → 0 < n) → run m (decimal n) ≡ gives [] (at (stage.Digits k neg n) [] stack)
runs_digits m k neg stack before bound n small some =
    decimal_by_steps (λ n ds. n ≤ most k neg → (neg ≡ true → 0 < n) → run m ds ≡ gives [] (at (stage.Digits k neg n) [] stack))
    (λ d lt small some. runs-one go m (48 + d) ∙ before d (omega arith) small some)
    (λ n ds le h small some.
    run-on m (at (stage.Digits k neg (n / 10)) [] stack) ds ((48 + n % 10) ∷ []) [] (h (omega arith) (λ e. omega arith))
    ∙ ap (after []) (runs-one go (at (stage.Digits k neg (n / 10)) [] stack) (48 + n % 10) ∙ next_digit k neg (n / 10) (n % 10) stack (omega arith) (some_tenth n le) (omega (arith, by_tens n)) bound)
    ∙ ap (λ z. gives [] (at (stage.Digits k neg z) [] stack)) (by_tens n))
    n (omega arith) small some

most_bound : (k : Kind) (neg : Bool) → most k neg ≤ 2 ^ 63
most_bound kind.Int false = omega arith
most_bound kind.Int true = omega arith
most_bound kind.Bulk false = omega arith
most_bound kind.Bulk true = omega arith
most_bound kind.Array false = omega arith
most_bound kind.Array true = omega arith

runs_number : (k : Kind) (stack : Levels) (n : ℕ) → is_full k (length stack) ≡ false → n ≤ most k false → run (at (stage.Sign k) [] stack) (line (decimal n)) ≡ number k false n stack
runs_number k stack n room small =
    run-on (at (stage.Sign k) [] stack) (at (stage.Digits k false n) [] stack) (decimal n) (13 ∷ 10 ∷ []) []
    (runs_digits (at (stage.Sign k) [] stack) k false stack (λ d le s p. first k stack d le room) (most_bound k false) n small (λ e. absurd (cc)))
    ∙ after-nil _ ∙ after-nil _ ∙ onward-nil go (number k false n stack)

runs_minus : (k : Kind) (stack : Levels) (n : ℕ) → 0 < n → n ≤ most k true → run (at (stage.Sign k) [] stack) (line (45 ∷ decimal n)) ≡ number k true n stack
runs_minus k stack n some small =
    after-nil _
    ∙ run-on (at (stage.Minus k) [] stack) (at (stage.Digits k true n) [] stack) (decimal n) (13 ∷ 10 ∷ []) []
    (runs_digits (at (stage.Minus k) [] stack) k true stack (λ d le s p. first_minus k stack d le (p refl) s) (most_bound k true) n small (λ e. some))
    ∙ after-nil _ ∙ after-nil _ ∙ onward-nil go (number k true n stack)

-- a line of text
pub one_more : (stay end : Stage) (done : List ℕ) (b : ℕ) (stack : Levels) → b ≢ 13 → b ≢ 10 → length done < 2 ^ 16 → lines stay end done stack b ≡ gives [] (at stay (done ++ b ∷ []) stack)
one_more stay end done b stack p q lt =
    off (eqb b 13) _ _ (ne_eqb b 13 p) ∙ off (eqb b 10) fails _ (ne_eqb b 10 q) ∙ off (leb (2 ^ 16) (length done)) fails _ (not_true (leb (2 ^ 16) (length done)) (λ t. grind arith))

runs_line : (stay end : Stage) (done text : List ℕ) (stack : Levels) → ((xs : List ℕ) (b : ℕ) → go_at stay xs stack b ≡ lines stay end xs stack b) → AllByRecursion (λ b. (b ≢ 13) × (b ≢ 10)) text → length done + length text ≤ 2 ^ 16
    → run (at stay done stack) text ≡ gives [] (at stay (done ++ text) stack)
runs_line stay end done [] stack h plain short = ap (λ z. gives [] (at stay z stack)) (sym (append-nil done))
runs_line stay end done (b ∷ text) stack h plain short =
    ap (λ o. onward o (λ n. run n text)) (h done b ∙ one_more stay end done b stack plain.0.0 plain.0.1 (omega arith))
    ∙ after-nil _
    ∙ runs_line stay end (done ++ b ∷ []) text stack h plain.1 (omega (arith, length-append done (b ∷ [])))
    ∙ ap (λ z. gives [] (at stay z stack)) (append_assoc done (b ∷ []) text)

runs_body : (need : ℕ) (done text : List ℕ) (stack : Levels) → length done + length text ≤ need → run (at (stage.Body need) done stack) text ≡ gives [] (at (stage.Body need) (done ++ text) stack)
runs_body need done [] stack le = ap (λ z. gives [] (at (stage.Body need) z stack)) (sym (append-nil done))
runs_body need done (b ∷ text) stack le =
    ap (λ o. onward o (λ n. run n text)) (on (ltb (length done) need) _ _ (is_true (ltb (length done) need) (λ f. grind arith)))
    ∙ after-nil _
    ∙ runs_body need (done ++ b ∷ []) text stack (omega (arith, length-append done (b ∷ [])))
    ∙ ap (λ z. gives [] (at (stage.Body need) z stack)) (append_assoc done (b ∷ []) text)

body_ends : (need : ℕ) (text : List ℕ) (stack : Levels) → length text ≡ need → run (at (stage.Body need) text stack) (13 ∷ 10 ∷ []) ≡ settled stack (bulk text)
body_ends need text stack e =
    ap (λ o. onward o (λ n. run n (10 ∷ []))) (off (ltb (length text) need) _ _ (not_true (ltb (length text) need) (λ t. grind arith)))
    ∙ after-nil _ ∙ onward-nil go (settled stack (bulk text))

flat_runs : (text : List ℕ) (stack : Levels) → IsFlat text → run (at stage.Start [] stack) text ≡ settled stack text
unfolding bulk
flat_runs text stack (simple_text word is e) =
    ap (run (at stage.Start [] stack)) e ∙ after-nil _
    ∙ run-on (at stage.Simple [] stack) (at stage.Simple word stack) word (13 ∷ 10 ∷ []) [] (runs_line stage.Simple stage.SimpleEnd [] word stack (λ xs b. refl) is.plain (omega (arith, is.short)))
    ∙ after-nil _ ∙ after-nil _ ∙ onward-nil go (settled stack (line (43 ∷ word))) ∙ ap (settled stack) (sym e)
flat_runs text stack (error_text word is e) =
    ap (run (at stage.Start [] stack)) e ∙ after-nil _
    ∙ run-on (at stage.Error [] stack) (at stage.Error word stack) word (13 ∷ 10 ∷ []) [] (runs_line stage.Error stage.ErrorEnd [] word stack (λ xs b. refl) is.plain (omega (arith, is.short)))
    ∙ after-nil _ ∙ after-nil _ ∙ onward-nil go (settled stack (line (45 ∷ word))) ∙ ap (settled stack) (sym e)
flat_runs text stack (int_text (pos n) is e) =
    ap (run (at stage.Start [] stack)) e ∙ after-nil _ ∙ runs_number kind.Int stack n refl (omega (arith, is)) ∙ ap (settled stack) (sym e)
flat_runs text stack (int_text (negsuc n) is e) =
    ap (run (at stage.Start [] stack)) e ∙ after-nil _ ∙ runs_minus kind.Int stack (suc n) (omega arith) (omega (arith, is)) ∙ ap (settled stack) (sym e)
flat_runs text stack (bulk_text word short e) =
    ap (run (at stage.Start [] stack)) e ∙ after-nil _
    ∙ run-on (at (stage.Sign kind.Bulk) [] stack) (at (stage.Body (length word)) [] stack) (line (decimal (length word))) (line word) [] (runs_number kind.Bulk stack (length word) refl short)
    ∙ after-nil _
    ∙ run-on (at (stage.Body (length word)) [] stack) (at (stage.Body (length word)) word stack) word (13 ∷ 10 ∷ []) [] (runs_body (length word) [] word stack (omega arith))
    ∙ after-nil _ ∙ body_ends (length word) word stack refl ∙ ap (settled stack) (sym e)
flat_runs text stack (null_text e) = ap (run (at stage.Start [] stack)) e ∙ after-nil _ ∙ after-nil _ ∙ after-nil _ ∙ after-nil _ ∙ onward-nil go (settled stack (line (36 ∷ 45 ∷ 49 ∷ []))) ∙ ap (settled stack) (sym e)
flat_runs text stack (null_array_text e) = ap (run (at stage.Start [] stack)) e ∙ after-nil _ ∙ after-nil _ ∙ after-nil _ ∙ after-nil _ ∙ onward-nil go (settled stack (line (42 ∷ 45 ∷ 49 ∷ []))) ∙ ap (settled stack) (sym e)

-- the replies of an array that has some
elements : (depth count : ℕ) (done todo : List Bytes) (t : List ℕ) (stack : Levels)
    → ((text : List ℕ) → IsNested depth text → (done : List Bytes) → run (at stage.Start [] ((count, done) ∷ stack)) text ≡ settled ((count, done) ∷ stack) text)
    → AllByRecursion (IsNested depth) (t ∷ todo) → length done + suc (length todo) ≡ count → run (at stage.Start [] ((count, done) ∷ stack)) (joined (t ∷ todo)) ≡ settled stack (array_text (done ++ t ∷ todo))
elements depth count done [] t stack h each e =
    runs-append go (at stage.Start [] ((count, done) ∷ stack)) t []
    ∙ onward-nil go (run (at stage.Start [] ((count, done) ∷ stack)) t)
    ∙ h t each.0 done
    ∙ off (ltb (suc (length done)) count) _ _ (not_true (ltb (suc (length done)) count) (λ q. grind arith))
elements depth count done (u ∷ todo) t stack h each e =
    run-on (at stage.Start [] ((count, done) ∷ stack)) (at stage.Start [] ((count, done ++ t ∷ []) ∷ stack)) t (joined (u ∷ todo)) []
    (h t each.0 done ∙ on (ltb (suc (length done)) count) _ _ (is_true (ltb (suc (length done)) count) (λ q. grind arith)))
    ∙ after-nil _
    ∙ elements depth count (done ++ t ∷ []) todo u stack h each.1 (omega (arith, length-append done (t ∷ [])))
    ∙ ap (λ z. settled stack (array_text z)) (append_assoc done (t ∷ []) (u ∷ todo))

array_runs : (depth : ℕ) (texts : List Bytes) (stack : Levels) → is_full kind.Array (length stack) ≡ false → length texts ≤ 2 ^ 31 → AllByRecursion (IsNested depth) texts
    → ((text : List ℕ) → IsNested depth text → (count : ℕ) (done : List Bytes) → run (at stage.Start [] ((count, done) ∷ stack)) text ≡ settled ((count, done) ∷ stack) text)
    → run (at stage.Start [] stack) (array_text texts) ≡ settled stack (array_text texts)
unfolding header
array_runs depth [] stack room few each h =
    after-nil _ ∙ ap (run (at (stage.Sign kind.Array) [] stack)) (append-nil (line (decimal 0))) ∙ runs_number kind.Array stack 0 room few
array_runs depth (t ∷ texts) stack room few each h =
    after-nil _
    ∙ run-on (at (stage.Sign kind.Array) [] stack) (at stage.Start [] ((length (t ∷ texts), []) ∷ stack)) (line (decimal (length (t ∷ texts)))) (joined (t ∷ texts)) []
    (runs_number kind.Array stack (length (t ∷ texts)) room few ∙ off (eqb (length (t ∷ texts)) 0) _ _ (ne_eqb (length (t ∷ texts)) 0 (λ e. omega arith)))
    ∙ after-nil _
    ∙ elements depth (length (t ∷ texts)) [] texts t stack (λ text is done. h text is (length (t ∷ texts)) done) each (omega arith)

not_full : (depth : ℕ) (stack : Levels) → suc depth + length stack ≡ 8 → is_full kind.Array (length stack) ≡ false
not_full depth stack e = not_true (leb 8 (length stack)) (λ t. grind arith)

pub accepts : (depth : ℕ) (text : List ℕ) (stack : Levels) → depth + length stack ≡ 8 → IsNested depth text → run (at stage.Start [] stack) text ≡ settled stack text
accepts zero text stack e is = flat_runs text stack is
accepts (suc depth) text stack e (inl is) = flat_runs text stack is
accepts (suc depth) text stack e (inr is) =
    ap (run (at stage.Start [] stack)) is.3
    ∙ array_runs depth is.0 stack (not_full depth stack e) is.2 is.1 (λ t h count done. accepts depth t ((count, done) ∷ stack) (omega arith) h)
    ∙ ap (settled stack) (sym is.3)
