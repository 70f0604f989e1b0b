-- The limit on the bytes of a whole reply: the machine that keeps to it takes each reply within it.
use Rattle.std.proofs.Common.{◌≡◌, ◌+◌, ◌<◌, ◌≤◌, ◌^◌, ℕ, List, [], ◌∷◌, ◌++◌, length, leb, ltb, refl, sym, ap, subst, ◌∙◌, arith, length-append}
use Rattle.std.specs.List.{AllByRecursion}
use Rattle.sk_resp.specs.Spelling.{Bytes, joined}
use Rattle.sk_resp.specs.ReplyStream.{IsNested, IsReplyText}
use Rattle.sk_resp.specs.declared.reply.state.Kind.{Kind}
use Rattle.sk_resp.specs.declared.reply.state.Kind.TheVariants as kind
use Rattle.sk_resp.specs.declared.reply.state.Stage.{Stage}
use Rattle.sk_resp.specs.declared.reply.state.Stage.TheVariants as stage
use Rattle.sk_resp.specs.ReplyMachine.{Machine, fresh, Out, gives, fails, go, run, go_within, run_within, onward, after, seen, sign_needs, stage_needs, needs, weight, fit, IsOpen, IsOpenWithin}
use Rattle.sk_resp.proofs.ReplyOpens.{by_cond, Good, WentTo, Went, went}
use Rattle.sk_resp.proofs.ReplyRuns.{after-nil, ran_to, runs-on, went-runs}
use Rattle.sk_resp.proofs.ReplyWeights.{needs_is_least, nothing}
use Rattle.sk_resp.proofs.ReplyAccepts.{on, is_true, accepts}

pub fits : (texts : List Bytes) (m : Machine) → weight m ≤ 2 ^ 32 → fit (gives texts m) ≡ gives texts m
fits texts m le = on (leb (weight m) (2 ^ 32)) _ _ (is_true (leb (weight m) (2 ^ 32)) (λ f. grind (arith, le)))

-- ## Each step keeps to the limit

sign_some : (k : Kind) (depth : ℕ) → 0 < sign_needs k depth
sign_some kind.Int depth = omega arith
sign_some kind.Bulk depth = omega arith
sign_some kind.Array depth = by_cond (λ n. 0 < n) (ltb depth 8) 3 4 (λ t. omega arith) (λ f. omega arith)

stage_some : (s : Stage) (len depth : ℕ) → 0 < stage_needs s len depth
stage_some stage.Start len depth = omega arith
stage_some stage.Simple len depth = omega arith
stage_some stage.SimpleEnd len depth = omega arith
stage_some stage.Error len depth = omega arith
stage_some stage.ErrorEnd len depth = omega arith
stage_some (stage.Sign k) len depth = sign_some k depth
stage_some (stage.Minus k) len depth = omega arith
stage_some (stage.Digits k neg n) len depth = omega arith
stage_some (stage.DigitsEnd k neg n) len depth = omega arith
stage_some (stage.Body need) len depth = omega arith
stage_some stage.BodyEnd len depth = omega arith

short_each : (texts : List Bytes) → AllByRecursion (IsNested 8) texts → length (joined texts) ≤ 2 ^ 32 → AllByRecursion IsReplyText texts
short_each [] each short = tt
short_each (t ∷ texts) each short =
    let len = length-append t (joined texts) in
    (record { nested = each.0; short = omega (arith, short, len) }, short_each texts each.1 (omega (arith, short, len)))

abbrev pub WentWithin : Bytes → Out → Type 0
WentWithin text o = WentTo IsReplyText IsOpenWithin text o

fit-went : (text : Bytes) (o : Out) → length text ≤ 2 ^ 32 → Went text o → WentWithin text (fit o)
fit-went text fails short w = tt
fit-went text (gives texts m) short w = by_cond (WentWithin text) (leb (weight m) (2 ^ 32)) _ _
    (λ t. record {
      is = w.is;
      each = short_each texts w.each (omega (arith, short, ap length w.is, length-append (joined texts) (seen m)));
      is_open = record { is_open = w.is_open; small = grind arith };
    })
    (λ f. tt)

pub went_within : (m : Machine) (b : ℕ) → IsOpenWithin m → WentWithin (seen m ++ b ∷ []) (go_within m b)
went_within m b within = fit-went (seen m ++ b ∷ []) (go m b) (omega (arith, within.small, stage_some m.stage (length m.line) (length m.stack), length-append (seen m) (b ∷ []))) (went m b within.is_open)

pub ran_within : (m next : Machine) (bytes : Bytes) (texts : List Bytes) → IsOpenWithin m → run_within m bytes ≡ gives texts next → Good IsReplyText IsOpenWithin (seen m ++ bytes) texts next
ran_within m next bytes texts within e = subst (WentWithin (seen m ++ bytes)) e (went-runs IsReplyText IsOpenWithin go_within went_within m bytes within)

pub fresh_within : IsOpenWithin fresh
fresh_within = record { is_open = (refl, (8, refl)); small = omega arith }

-- ## No reply within the limit is refused

gave : (t text : Bytes) (ts : List Bytes) (o : Out) (last : Machine) → after (t ∷ ts) o ≡ gives (text ∷ []) last → ((t ∷ ts) ≡ text ∷ []) × (o ≡ gives [] last)
gave t text ts fails last e = absurd (cc e)
gave t text [] (gives [] n) last e = (cc e, cc e)
gave t text [] (gives (u ∷ us) n) last e = absurd (let p : t ∷ u ∷ us ≡ text ∷ [] = cc e in omega (arith, ap length p))
gave t text (u ∷ ts) (gives us n) last e = absurd (let p : t ∷ u ∷ (ts ++ us) ≡ text ∷ [] = cc e in omega (arith, ap length p))

at_end : (n last : Machine) (bytes text t : Bytes) (ts : List Bytes) → IsOpen n → seen last ≡ [] → needs last ≤ 3 → after (t ∷ ts) (run n bytes) ≡ gives (text ∷ []) last → onward (fit (gives (t ∷ ts) n)) (λ m. run_within m bytes) ≡ gives (text ∷ []) last
at_end n last [] text t ts is_open seen_is few e =
    let p = gave t text ts (gives [] n) last e in
    let same : n ≡ last = cc p.1 in
    ap (λ o. onward o (λ m. run_within m [])) (fits (t ∷ ts) n (subst (λ m. weight m ≤ 2 ^ 32) (sym same) (omega (arith, few, ap length seen_is)))) ∙ e
at_end n last (b ∷ bytes) text t ts is_open seen_is few e =
    let p = gave t text ts (run n (b ∷ bytes)) last e in
    let good = ran_to n last (b ∷ bytes) [] is_open p.1 in
    absurd (omega (arith, ap length good.is, ap length seen_is, length-append (seen n) (b ∷ bytes)))

lift_out : (o : Out) (old bytes text : Bytes) (last : Machine) → seen last ≡ [] → needs last ≤ 3 → Went old o → onward o (λ n. run n bytes) ≡ gives (text ∷ []) last → length old + length bytes ≤ 2 ^ 32
    → ((n : Machine) → IsOpen n → run n bytes ≡ gives (text ∷ []) last → length (seen n) + length bytes ≤ 2 ^ 32 → run_within n bytes ≡ gives (text ∷ []) last)
    → onward (fit o) (λ n. run_within n bytes) ≡ gives (text ∷ []) last
lift_out fails old bytes text last seen_is few w e short h = absurd (cc e)
lift_out (gives (t ∷ ts) n) old bytes text last seen_is few w e short h = at_end n last bytes text t ts w.is_open seen_is few e
lift_out (gives [] n) old bytes text last seen_is few w e short h =
    let more : run n bytes ≡ gives (text ∷ []) last = sym (after-nil (run n bytes)) ∙ e in
    let len : length (seen n) ≡ length old = ap length (sym w.is) in
    ap (λ o. onward o (λ m. run_within m bytes)) (fits [] n (omega (arith, len, short, needs_is_least n last bytes text [] w.is_open more)))
    ∙ after-nil (run_within n bytes) ∙ h n w.is_open more (omega (arith, len, short))

lift : (m last : Machine) (bytes text : Bytes) → IsOpen m → seen last ≡ [] → needs last ≤ 3 → run m bytes ≡ gives (text ∷ []) last → length (seen m) + length bytes ≤ 2 ^ 32 → run_within m bytes ≡ gives (text ∷ []) last
lift m last [] text is_open seen_is few e short = absurd (nothing m last text [] e)
lift m last (b ∷ bytes) text is_open seen_is few e short =
    lift_out (go m b) (seen m ++ b ∷ []) bytes text last seen_is few (went m b is_open) e (omega (arith, short, length-append (seen m) (b ∷ []))) (λ n is f len. lift n last bytes text is seen_is few f len)

pub accepts_one : (text : Bytes) → IsReplyText text → run_within fresh text ≡ gives (text ∷ []) fresh
accepts_one text is = lift fresh fresh text text (refl, (8, refl)) refl (omega arith) (accepts 8 text [] (omega arith) is.nested) (omega (arith, is.short))

pub accepts_all : (texts : List Bytes) → AllByRecursion IsReplyText texts → run_within fresh (joined texts) ≡ gives texts fresh
accepts_all [] each = refl
accepts_all (t ∷ texts) each = runs-on go_within fresh fresh t (joined texts) (t ∷ []) (accepts_one t each.0) ∙ ap (after (t ∷ [])) (accepts_all texts each.1)
