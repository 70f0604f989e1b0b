-- A byte makes what is needed less by one at most.
use Rattle.std.proofs.Common.{◌≡◌, ◌+◌, ◌-◌, ◌*◌, ◌<◌, ◌≤◌, ◌^◌, ℕ, suc, List, [], ◌∷◌, ◌++◌, length, Bool, true, false, cond, eqb, ltb, leb, refl, sym, subst, ◌∙◌, arith, length-append}
use Rattle.sk_resp.specs.Spelling.{Bytes, line, bulk}
use Rattle.sk_resp.specs.Reply.{array_text}
use Rattle.sk_resp.specs.declared.reply.state.Kind.{Kind}
use Rattle.sk_resp.specs.declared.reply.state.Kind.TheVariants as kind
use Rattle.sk_resp.specs.declared.reply.state.Stage.{Stage}
use Rattle.sk_resp.specs.declared.reply.state.Stage.TheVariants as stage
use Rattle.sk_resp.specs.ReplyMachine.{Levels, Machine, Out, gives, fails, settled, most, is_full, digit_of, starts, lines, ends, first_digit, signs, minus_digit, more_digit, digits, number_text, number, go_at, go, run, onward, IsOpenAt, AreOpen, IsOpen}
use Rattle.sk_resp.specs.ReplyMachine.{behind, sign_needs, stage_needs, owed, needs}
use Rattle.sk_resp.proofs.ReplyRuns.{after-nil, went_to}
use Rattle.sk_resp.proofs.ReplyOpens.{by_cond, by_digit, same, differs}

abbrev pub Falls : ℕ → Out → Type 0
Falls before (gives [] m) = before ≤ suc (needs m)
Falls before (gives (text ∷ texts) m) = before ≤ 1
Falls before fails = Unit {0}

settled_falls : (depth : ℕ) (stack : Levels) (text : List ℕ) → AreOpen depth stack → Falls (1 + owed stack) (settled stack text)
settled_falls depth [] text is_open = omega arith
settled_falls depth ((count, texts) ∷ stack) text is_open =
    by_cond (Falls (1 + (3 * (count - suc (length texts)) + owed stack))) (ltb (suc (length texts)) count) _ _
    (λ t. let lt : suc (length texts) < count = grind arith in omega (arith, lt, length-append texts (text ∷ [])))
    (λ f. let e : count ≡ suc (length texts) = grind (arith, is_open.0) in
    subst (λ n. Falls n (settled stack (array_text (texts ++ text ∷ [])))) (omega (arith, e)) (settled_falls (suc depth) stack (array_text (texts ++ text ∷ [])) is_open.3))

ends_falls : (depth : ℕ) (stack : Levels) (text : List ℕ) (b : ℕ) → AreOpen depth stack → Falls (1 + owed stack) (ends stack text b)
ends_falls depth stack text b is_open = by_cond (Falls (1 + owed stack)) (eqb b 10) _ _ (λ t. settled_falls depth stack text is_open) (λ f. tt)

three : (depth : ℕ) → 3 ≤ cond (ltb depth 8) 3 4
three depth = by_cond (λ n. 3 ≤ n) (ltb depth 8) 3 4 (λ t. omega arith) (λ g. omega arith)

starts_falls : (stack : Levels) (text : List ℕ) (b : ℕ) → Falls (3 + owed stack) (starts text stack b)
starts_falls stack text b =
    let F : Out → Type 0 = Falls (3 + owed stack) in
    by_cond F (eqb b 43) _ _ (λ t. omega arith)
    (λ f. by_cond F (eqb b 45) _ _ (λ t. omega arith)
    (λ f. by_cond F (eqb b 58) _ _ (λ t. omega arith)
    (λ f. by_cond F (eqb b 36) _ _ (λ t. omega arith)
    (λ f. by_cond F (eqb b 42) _ _ (λ t. omega (arith, three (length stack)))
    (λ f. tt)))))

lines_falls : (stay end : Stage) (stack : Levels) (text : List ℕ) (b : ℕ) → ((n : ℕ) → stage_needs stay n (length stack) ≡ 2) → ((n : ℕ) → stage_needs end n (length stack) ≡ 1) → Falls (2 + owed stack) (lines stay end text stack b)
lines_falls stay end stack text b p q =
    let F : Out → Type 0 = Falls (2 + owed stack) in
    by_cond F (eqb b 13) _ _ (λ t. omega (arith, q (length text)))
    (λ f. by_cond F (eqb b 10) _ _ (λ t. tt)
    (λ f. by_cond F (leb (2 ^ 16) (length text)) _ _ (λ t. tt) (λ f. omega (arith, p (length (text ++ b ∷ []))))))

-- the first digit
first_is : (k : Kind) (depth d : ℕ) → is_full k depth ≡ false → sign_needs k depth ≤ 3 + behind k false d
first_is kind.Int depth d f = omega arith
first_is kind.Bulk depth d f = omega arith
first_is kind.Array depth d f = by_cond (λ n. n ≤ 3 + 3 * d) (ltb depth 8) 3 4 (λ t. omega arith) (λ g. absurd (grind arith))

sign_small : (k : Kind) (depth : ℕ) → sign_needs k depth ≤ 4
sign_small kind.Int depth = omega arith
sign_small kind.Bulk depth = omega arith
sign_small kind.Array depth = by_cond (λ n. n ≤ 4) (ltb depth 8) 3 4 (λ t. omega arith) (λ g. omega arith)

signs_falls : (k : Kind) (stack : Levels) (text : List ℕ) (b : ℕ) → Falls (sign_needs k (length stack) + owed stack) (signs k text stack b)
signs_falls k stack text b =
    let F : Out → Type 0 = Falls (sign_needs k (length stack) + owed stack) in
    by_cond F (eqb b 45) _ _ (λ t. omega (arith, sign_small k (length stack)))
    (λ f. by_digit (λ o. F (first_digit k text stack o)) b tt (λ d le e.
    by_cond F (is_full k (length stack)) _ _ (λ t. tt) (λ g. omega (arith, first_is k (length stack) d g))))

minus_falls : (k : Kind) (stack : Levels) (text : List ℕ) (b : ℕ) → Falls (3 + owed stack) (minus_digit k text stack (digit_of b))
minus_falls k stack text b =
    let F : Out → Type 0 = Falls (3 + owed stack) in
    by_digit (λ o. F (minus_digit k text stack o)) b tt (λ d le e.
    by_cond F (eqb d 0) _ _ (λ t. tt) (λ f. by_cond F (ltb (most k true) d) _ _ (λ t. tt) (λ g. omega arith)))

grows : (k : Kind) (neg : Bool) (n d : ℕ) → behind k neg n ≤ behind k neg (10 * n + d)
grows kind.Int neg n d = omega arith
grows kind.Bulk false n d = omega arith
grows kind.Bulk true n d = omega arith
grows kind.Array false n d = omega arith
grows kind.Array true n d = omega arith

digits_falls : (k : Kind) (neg : Bool) (n : ℕ) (stack : Levels) (text : List ℕ) (b : ℕ) → Falls ((2 + behind k neg n) + owed stack) (digits k neg n text stack b)
digits_falls k neg n stack text b =
    let F : Out → Type 0 = Falls ((2 + behind k neg n) + owed stack) in
    by_cond F (eqb b 13) _ _ (λ t. omega arith)
    (λ f. by_digit (λ o. F (more_digit k neg n text stack o)) b tt (λ d le e.
    by_cond F (eqb n 0) _ _ (λ t. tt)
    (λ g. by_cond F (ltb 922337203685477580 n) _ _ (λ t. tt)
    (λ h. by_cond F (ltb (most k neg) (10 * n + d)) _ _ (λ t. tt) (λ i. omega (arith, grows k neg n d))))))

number_falls : (k : Kind) (neg : Bool) (n depth : ℕ) (stack : Levels) → AreOpen depth stack → Falls ((1 + behind k neg n) + owed stack) (number k neg n stack)
number_falls kind.Int neg n depth stack is_open = settled_falls depth stack (number_text neg n) is_open
number_falls kind.Bulk false n depth stack is_open = omega arith
number_falls kind.Bulk true n depth stack is_open = settled_falls depth stack (line (36 ∷ 45 ∷ 49 ∷ [])) is_open
number_falls kind.Array true n depth stack is_open = settled_falls depth stack (line (42 ∷ 45 ∷ 49 ∷ [])) is_open
number_falls kind.Array false n depth stack is_open =
    by_cond (Falls ((1 + 3 * n) + owed stack)) (eqb n 0) _ _
    (λ t. subst (λ m. Falls m (settled stack (array_text []))) (omega (arith, same n 0 t)) (settled_falls depth stack (array_text []) is_open))
    (λ f. omega (arith, differs n 0 f))

falls_at : (s : Stage) (text : List ℕ) (stack : Levels) (b depth : ℕ) → AreOpen depth stack → IsOpenAt s text (length stack) → Falls (stage_needs s (length text) (length stack) + owed stack) (go_at s text stack b)
falls_at stage.Start text stack b depth o i = starts_falls stack text b
falls_at stage.Simple text stack b depth o i = lines_falls stage.Simple stage.SimpleEnd stack text b (λ n. refl) (λ n. refl)
falls_at stage.SimpleEnd text stack b depth o i = ends_falls depth stack (line (43 ∷ text)) b o
falls_at stage.Error text stack b depth o i = lines_falls stage.Error stage.ErrorEnd stack text b (λ n. refl) (λ n. refl)
falls_at stage.ErrorEnd text stack b depth o i = ends_falls depth stack (line (45 ∷ text)) b o
falls_at (stage.Sign k) text stack b depth o i = signs_falls k stack text b
falls_at (stage.Minus k) text stack b depth o i = minus_falls k stack text b
falls_at (stage.Digits k neg n) text stack b depth o i = digits_falls k neg n stack text b
falls_at (stage.DigitsEnd k neg n) text stack b depth o i = by_cond (Falls ((1 + behind k neg n) + owed stack)) (eqb b 10) _ _ (λ t. number_falls k neg n depth stack o) (λ f. tt)
falls_at (stage.Body need) text stack b depth o i =
    by_cond (Falls (((need - length text) + 2) + owed stack)) (ltb (length text) need) _ _
    (λ t. let lt : length text < need = grind arith in omega (arith, lt, length-append text (b ∷ [])))
    (λ f. let e : need ≤ length text = grind arith in by_cond (Falls (((need - length text) + 2) + owed stack)) (eqb b 13) _ _ (λ t. omega (arith, e)) (λ g. tt))
falls_at stage.BodyEnd text stack b depth o i = ends_falls depth stack (bulk text) b o

pub falls : (m : Machine) (b : ℕ) → IsOpen m → Falls (needs m) (go m b)
falls m b is_open = falls_at m.stage m.line m.stack b is_open.1.0 is_open.1.1 is_open.0

-- ## No shorter way

rest_falls : (before : ℕ) (o : Out) (bytes : List ℕ) (text : List ℕ) (texts : List Bytes) (last : Machine) → Falls before o → ((m : Machine) → o ≡ gives [] m → run m bytes ≡ gives (text ∷ texts) last → needs m ≤ length bytes)
    → onward o (λ n. run n bytes) ≡ gives (text ∷ texts) last → before ≤ suc (length bytes)
rest_falls before fails bytes text texts last f h e = absurd (cc e)
rest_falls before (gives [] m) bytes text texts last f h e = omega (arith, f, h m refl (sym (after-nil (run m bytes)) ∙ e))
rest_falls before (gives (t ∷ ts) m) bytes text texts last f h e = omega (arith, f)

pub nothing : (m last : Machine) (text : List ℕ) (texts : List Bytes) → gives [] m ≡ gives (text ∷ texts) last → ⊥
nothing m last text texts e = let p : [] ≡ text ∷ texts = cc e in cc p

-- what a state needs is the least that makes its reply whole
pub needs_is_least : (m last : Machine) (bytes text : List ℕ) (texts : List Bytes) → IsOpen m → run m bytes ≡ gives (text ∷ texts) last → needs m ≤ length bytes
needs_is_least m last [] text texts is_open e = absurd (nothing m last text texts e)
needs_is_least m last (b ∷ bytes) text texts is_open e =
    rest_falls (needs m) (go m b) bytes text texts last (falls m b is_open)
    (λ n same more. needs_is_least n last bytes text texts (went_to m n b [] is_open same).is_open more) e
