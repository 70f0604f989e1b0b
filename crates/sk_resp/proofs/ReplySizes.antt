-- The size that the reader keeps, and what it says of the limit on the bytes of a whole reply.
use Rattle.std.proofs.Common.{◌≡◌, ◌≢◌, ◌+◌, ◌≤◌, ◌^◌, ℕ, [], ◌∷◌, ◌++◌, length, true, false, ltb, leb, refl, sym, ap, subst, ◌∙◌, arith, append_assoc, append-nil, length-append}
use Rattle.std.specs.List.{AllByRecursion}
use Rattle.std.specs.Fmt.{decimal}
use Rattle.sk_resp.specs.Spelling.{Bytes, plus, minus, cr, lf, line, opened}
use Rattle.sk_resp.specs.declared.reply.state.Stage.{Stage}
use Rattle.sk_resp.specs.declared.reply.state.Stage.TheVariants as stage
use Rattle.sk_resp.specs.ReplyMachine.{Levels, Machine, at, gives, fails, lines, go_at, go, go_within, run_within, onward, seen, seen_levels, owed, stage_needs, weight, fit, IsOpen, IsOpenWithin}
use Rattle.sk_resp.proofs.ReplyRuns.{after-nil, went_to}
use Rattle.sk_resp.proofs.ReplyAccepts.{on, off, is_true, one_more}
use Rattle.sk_resp.proofs.ReplyWithin.{fits, ran_within}

-- the byte that was taken is counted
pub counted_size : (m n : Machine) (b a c : ℕ) → IsOpen m → go m b ≡ gives [] n → a ≡ length (seen m) + owed m.stack → c + owed m.stack ≡ a + owed n.stack → c + 1 ≡ length (seen n) + owed n.stack
counted_size m n b a c is_open e size same =
    omega (arith, size, same, ap length (went_to m n b [] is_open e).is, length-append (seen m) (b ∷ []))

weight_is : (n : Machine) (size : ℕ) → size ≡ length (seen n) + owed n.stack → weight n ≡ size + stage_needs n.stage (length n.line) (length n.stack)
weight_is n size e = omega (arith, e)

-- the test says whether the reply can still end within the limit
pub goes_within : (m n : Machine) (b size : ℕ) → go m b ≡ gives [] n → size ≡ length (seen n) + owed n.stack → leb (size + stage_needs n.stage (length n.line) (length n.stack)) (2 ^ 32) ≡ true → go_within m b ≡ gives [] n
goes_within m n b size e is t = ap fit e ∙ on (leb (weight n) (2 ^ 32)) _ _ (ap (λ w. leb w (2 ^ 32)) (weight_is n size is) ∙ t)

pub fails_within : (m n : Machine) (b size : ℕ) → go m b ≡ gives [] n → size ≡ length (seen n) + owed n.stack → leb (size + stage_needs n.stage (length n.line) (length n.stack)) (2 ^ 32) ≡ false → go_within m b ≡ fails
fails_within m n b size e is f = ap fit e ∙ off (leb (weight n) (2 ^ 32)) _ _ (ap (λ w. leb w (2 ^ 32)) (weight_is n size is) ∙ f)

-- ## The bytes of a bulk string

body_weight : (need : ℕ) (text : Bytes) (stack : Levels) → length text ≤ need → weight (at (stage.Body need) text stack) ≡ length (seen_levels stack) + length (opened need []) + need + 2 + owed stack
unfolding opened
body_weight need text stack le =
    omega (arith, length-append (seen_levels stack) (opened need text), length-append (line (36 ∷ decimal need)) text, length-append (line (36 ∷ decimal need)) [])

-- they bring the reply no nearer to the limit
pub body_runs : (need : ℕ) (done text : Bytes) (stack : Levels) → length done + length text ≤ need → weight (at (stage.Body need) done stack) ≤ 2 ^ 32 → run_within (at (stage.Body need) done stack) text ≡ gives [] (at (stage.Body need) (done ++ text) stack)
body_runs need done [] stack le small = ap (λ z. gives [] (at (stage.Body need) z stack)) (sym (append-nil done))
body_runs need done (b ∷ text) stack le small =
    let len = length-append done (b ∷ []) in
    let small' : weight (at (stage.Body need) (done ++ b ∷ []) stack) ≤ 2 ^ 32 = omega (arith, small, len, body_weight need done stack (omega (arith, le)), body_weight need (done ++ b ∷ []) stack (omega (arith, le, len))) in
    ap (λ o. onward o (λ n. run_within n text)) (ap fit (on (ltb (length done) need) _ _ (is_true (ltb (length done) need) (λ f. grind arith))) ∙ fits [] (at (stage.Body need) (done ++ b ∷ []) stack) small')
    ∙ after-nil _
    ∙ body_runs need (done ++ b ∷ []) text stack (omega (arith, le, len)) small'
    ∙ ap (λ z. gives [] (at (stage.Body need) z stack)) (append_assoc done (b ∷ []) text)

-- whatever the stage is called by
pub body_taken : (s : Stage) (done : Bytes) (stack : Levels) (need : ℕ) (text : Bytes) → s ≡ stage.Body need → length done + length text ≤ need → weight (at s done stack) ≤ 2 ^ 32
    → run_within (at s done stack) text ≡ gives [] (at s (done ++ text) stack)
body_taken s done stack need text e le small =
    subst (λ z. run_within (at z done stack) text ≡ gives [] (at z (done ++ text) stack)) (sym e) (body_runs need done text stack le (subst (λ z. weight (at z done stack) ≤ 2 ^ 32) e small))

-- ## The bytes of a simple or an error text

text_runs : (stay end : Stage) (base : ℕ) (done text : Bytes) (stack : Levels) → ((xs : Bytes) (b : ℕ) → go_at stay xs stack b ≡ lines stay end xs stack b) → ((xs : Bytes) → weight (at stay xs stack) ≡ base + length xs)
    → AllByRecursion (λ b. (b ≢ cr) × (b ≢ lf)) text → length done + length text ≤ 2 ^ 16 → base + (length done + length text) ≤ 2 ^ 32 → run_within (at stay done stack) text ≡ gives [] (at stay (done ++ text) stack)
text_runs stay end base done [] stack h w plain short small = ap (λ z. gives [] (at stay z stack)) (sym (append-nil done))
text_runs stay end base done (b ∷ text) stack h w plain short small =
    let len = length-append done (b ∷ []) in
    ap (λ o. onward o (λ n. run_within n text)) (ap fit (h done b ∙ one_more stay end done b stack plain.0.0 plain.0.1 (omega (arith, short))) ∙ fits [] (at stay (done ++ b ∷ []) stack) (omega (arith, w (done ++ b ∷ []), small, len)))
    ∙ after-nil _
    ∙ text_runs stay end base (done ++ b ∷ []) text stack h w plain.1 (omega (arith, short, len)) (omega (arith, small, len))
    ∙ ap (λ z. gives [] (at stay z stack)) (append_assoc done (b ∷ []) text)

text_weight : (m : ℕ) (text : Bytes) (stack : Levels) → length (seen_levels stack ++ (m ∷ text)) + (2 + owed stack) ≡ (length (seen_levels stack) + 3 + owed stack) + length text
text_weight m text stack = omega (arith, length-append (seen_levels stack) (m ∷ text))

pub simple_taken : (s : Stage) (done : Bytes) (stack : Levels) (text : Bytes) (size : ℕ) → s ≡ stage.Simple → size ≡ length (seen (at s done stack)) + owed stack → AllByRecursion (λ b. (b ≢ cr) × (b ≢ lf)) text → length done + length text ≤ 2 ^ 16 → size + 2 + length text ≤ 2 ^ 32
    → run_within (at s done stack) text ≡ gives [] (at s (done ++ text) stack)
simple_taken s done stack text size e sized plain short small =
    let is : size ≡ length (seen (at stage.Simple done stack)) + owed stack = sized ∙ ap (λ z. length (seen (at z done stack)) + owed stack) e in
    subst (λ z. run_within (at z done stack) text ≡ gives [] (at z (done ++ text) stack)) (sym e)
    (text_runs stage.Simple stage.SimpleEnd (length (seen_levels stack) + 3 + owed stack) done text stack (λ xs b. refl) (λ xs. text_weight plus xs stack) plain short (omega (arith, small, is, text_weight plus done stack)))

pub error_taken : (s : Stage) (done : Bytes) (stack : Levels) (text : Bytes) (size : ℕ) → s ≡ stage.Error → size ≡ length (seen (at s done stack)) + owed stack → AllByRecursion (λ b. (b ≢ cr) × (b ≢ lf)) text → length done + length text ≤ 2 ^ 16 → size + 2 + length text ≤ 2 ^ 32
    → run_within (at s done stack) text ≡ gives [] (at s (done ++ text) stack)
error_taken s done stack text size e sized plain short small =
    let is : size ≡ length (seen (at stage.Error done stack)) + owed stack = sized ∙ ap (λ z. length (seen (at z done stack)) + owed stack) e in
    subst (λ z. run_within (at z done stack) text ≡ gives [] (at z (done ++ text) stack)) (sym e)
    (text_runs stage.Error stage.ErrorEnd (length (seen_levels stack) + 3 + owed stack) done text stack (λ xs b. refl) (λ xs. text_weight minus xs stack) plain short (omega (arith, small, is, text_weight minus done stack)))

-- ## Bytes that were taken together

pub taken_size : (m n : Machine) (a c : ℕ) (text : Bytes) → IsOpenWithin m → run_within m text ≡ gives [] n → a ≡ length (seen m) + owed m.stack → c ≡ a + length text → m.stack ≡ n.stack → c ≡ length (seen n) + owed n.stack
taken_size m n a c text within e size more same =
    omega (arith, size, more, ap owed same, ap length (ran_within m n text [] within e).is, length-append (seen m) text)
