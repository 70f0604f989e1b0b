-- One hold of a slot stands at a time, and so as many of a name as it has slots.
use Rattle.std.proofs.Common.{◌≡◌, ◌⊎◌, ◌≤◌, ◌<◌, ◌+◌, ◌^◌, ℕ, zero, suc, List, [], ◌∷◌, refl, sym, ap, subst, ◌∙◌, arith, Bool, true, false, ◌&&◌, ◌||◌, not, cond, inl, inr, nat_lt, nat_le}
use Rattle.std.proofs.lemmas.Bool.Decides.{nat_tests}
use Rattle.std.proofs.lemmas.Slice.Eq.{bytes_eq-Decides, slice_eq-Decides}
use Rattle.std.specs.Bool.{MatchBool}
use Rattle.std.specs.List.{list_any}
use Rattle.std.specs.Prelude.{Option, Some, None}
use Rattle.std.specs.Str.{bytes_eq}
use Rattle.sk_resp.specs.Spelling.{Bytes}
use Rattle.sk_value.specs.Keys.{at, is_over, purged}
use Rattle.sk_value.specs.declared.entry.Entry.{Entry}
use Rattle.sk_value.specs.declared.value.Value.TheVariants as value
use Rattle.sk_link.specs.Asking.{is_okay}
use Rattle.sk_model.specs.Event.{Happens, Run, Step, after, world_after}
use Rattle.sk_model.specs.Reading.{Words}
use Rattle.sk_model.specs.World.{World, first}
use Rattle.sk_model.specs.declared.limits.Limits.{Limits}
use Rattle.sk_limit.proofs.Giving.{GiveResult, entry_with, give_comes}
use Rattle.sk_limit.proofs.Keys.{at_purged}
use Rattle.sk_limit.proofs.Moments.{run_later, step_later}
use Rattle.sk_limit.proofs.Acting.{Sets, entry_until, set_comes}
use Rattle.sk_limit.specs.Own.{Leaves, OfSlot, OwnFrom, are_words, give, gives, key_in, take, takes, words_of}
use Rattle.sk_limit.specs.Requests.{give_words, set_words, slot_key}
use Rattle.sk_limit.specs.Slots.{IsSpan, MostHolds, OneHold, OneHoldASlot, OneHoldFrom, SlotRuns, TakenUntil, all_below, is_below, is_slot, standing, stands, token_of}

-- ## Tests

match_by : (P Q : Type 0) (b : Bool) → (b ≡ true → P) → (b ≡ false → Q) → MatchBool b P Q
match_by P Q true p q = p refl
match_by P Q false p q = q refl

match_false : (P Q : Type 0) (b : Bool) → b ≡ false → MatchBool b P Q → Q
match_false P Q true e m = absurd (cc e)
match_false P Q false e m = m

both_of : (a b : Bool) → a && b ≡ true → (a ≡ true) × (b ≡ true)
both_of true b e = (refl, e)
both_of false b e = absurd (cc e)

not_any : (a b : Bool) → a || b ≡ false → (a ≡ false) × (b ≡ false)
not_any true b e = absurd (cc e)
not_any false b e = (refl, e)

not_true : (b : Bool) → not b ≡ true → b ≡ false
not_true true e = absurd (cc e)
not_true false e = refl

pub in_order : (m n : ℕ) → (m ≤ n) ⊎ (n < m)
in_order m n = by (nat_le m n) refl where
  by : (b : Bool) → nat_le m n ≡ b → (m ≤ n) ⊎ (n < m)
  by true e = inl (grind (arith, nat_tests, e))
  by false e = inr (grind (arith, nat_tests, e))

pub same_words : (words others : Words) → are_words words others ≡ true → words ≡ others
same_words words others is = (slice_eq-Decides bytes_eq-Decides words others (are_words words others) refl).0 is

pub words_same : (words others : Words) → words ≡ others → are_words words others ≡ true
words_same words others is = (slice_eq-Decides bytes_eq-Decides words others (are_words words others) refl).1 is

ahead : (now end : ℕ) → now < end → is_over now (Some end) ≡ false
ahead now end before = grind (arith, nat_tests, before)

texts_same : (token other : Bytes) (end : ℕ) (deadline : Option ℕ) → Some (entry_with token deadline) ≡ Some (entry_until other end) → token ≡ other
texts_same token other end deadline is =
    let same : entry_with token deadline ≡ entry_until other end = cc is in
    let values : value.String token ≡ value.String other = ap (λ (e : Entry). e.value) same in
    cc values

pub small : (millis : ℕ) → IsSpan millis → millis < 2 ^ 63
small millis fits = let most = fits.1 in omega (arith, most)

-- ## A step beside a hold

module _ (key : Bytes) (millis : ℕ) (fits : IsSpan millis) where
  -- what a hold does
  hold_stands : (w : World) (step : Step) → Happens w step.event step.outcome → takes key millis step ≡ true → Sets key (token_of step) millis w (after w step) step.outcome.reply
  hold_stands w step happens taken =
      let is = both_of (are_words (words_of step.event) (set_words key (token_of step) millis)) (is_okay step.outcome.reply) taken in
      by (set_comes key (token_of step) millis w step (small millis fits) (same_words (words_of step.event) (set_words key (token_of step) millis) is.0) happens) is.1
    where
      by : ((is_okay step.outcome.reply ≡ false) × Leaves key w (after w step)) ⊎ Sets key (token_of step) millis w (after w step) step.outcome.reply
          → is_okay step.outcome.reply ≡ true → Sets key (token_of step) millis w (after w step) step.outcome.reply
      by (inl refused) okay = absurd (cc (refused.0, okay))
      by (inr sets) okay = sets

  module _ (token : Bytes) (end : ℕ) where
    -- its time is over, or it stands
    abbrev Held : World → Type 0
    Held w = (end ≤ w.moment) ⊎ (at key w.keys ≡ Some (entry_until token end))

    -- it still stands when the step comes
    still : (w : World) (step : Step) → (after w step).moment < end → at key w.keys ≡ Some (entry_until token end) → at key (purged (after w step).moment w.keys) ≡ Some (entry_until token end)
    still w step before stood = at_purged (after w step).moment key (entry_until token end) w.keys stood (ahead (after w step).moment end before)

    late : (w : World) (step : Step) → Happens w step.event step.outcome → takes key millis step ≡ true → Held w → end ≤ (after w step).moment
    late w step happens taken (inl over) = let later = step_later w step in omega (arith, over, later)
    late w step happens taken (inr stood) = by (in_order end (after w step).moment) where
      by : (end ≤ (after w step).moment) ⊎ ((after w step).moment < end) → end ≤ (after w step).moment
      by (inl over) = over
      by (inr before) =
          let sets = hold_stands w step happens taken in
          let none : None ≡ Some (entry_until token end) = sym sets.free ∙ still w step before stood in
          absurd (cc none)

    left_held : (w : World) (step : Step) → (after w step).moment < end → at key w.keys ≡ Some (entry_until token end) → Leaves key w (after w step) → Held (after w step)
    left_held w step before stood (inl same) = inr (same.0 ∙ stood)
    left_held w step before stood (inr same) = inr (same ∙ still w step before stood)

    request_held : (w : World) (step : Step) (words : Words) → words_of step.event ≡ words → OfSlot key millis words → Happens w step.event step.outcome → gives key token step ≡ false
        → (after w step).moment < end → at key w.keys ≡ Some (entry_until token end) → Held (after w step)
    request_held w step words same (take other) happens not_given before stood = by (set_comes key other millis w step (small millis fits) same happens) where
      by : ((is_okay step.outcome.reply ≡ false) × Leaves key w (after w step)) ⊎ Sets key other millis w (after w step) step.outcome.reply → Held (after w step)
      by (inl refused) = left_held w step before stood refused.1
      by (inr sets) = let none : None ≡ Some (entry_until token end) = sym sets.free ∙ still w step before stood in absurd (cc none)
    request_held w step words same (give other) happens not_given before stood = by (give_comes key other w step same happens) where
      by : GiveResult key other w (after w step) step.outcome.reply → Held (after w step)
      by (inl refused) = left_held w step before stood refused.1
      by (inr given) =
          let mine : other ≡ token = texts_same other token end given.1.0 (sym given.1.1 ∙ still w step before stood) in
          let words_are : are_words (words_of step.event) (give_words key token) ≡ true = words_same (words_of step.event) (give_words key token) (same ∙ ap (give_words key) mine) in
          absurd (cc (words_are, given.0, not_given))

    next_held : (w : World) (step : Step) → Happens w step.event step.outcome → Leaves key w (after w step) ⊎ OfSlot key millis (words_of step.event) → gives key token step ≡ false
        → Held w → Held (after w step)
    next_held w step happens own not_given (inl over) = let later = step_later w step in inl (omega (arith, over, later))
    next_held w step happens own not_given (inr stood) = by (in_order end (after w step).moment) own where
      by : (end ≤ (after w step).moment) ⊎ ((after w step).moment < end) → Leaves key w (after w step) ⊎ OfSlot key millis (words_of step.event) → Held (after w step)
      by (inl over) mine = inl over
      by (inr before) (inl leaves) = left_held w step before stood leaves
      by (inr before) (inr request) = request_held w step (words_of step.event) refl request happens not_given before stood

    taken_until : (w : World) (steps : List Step) → Run w steps → OwnFrom (OfSlot key millis) key w steps → Held w → TakenUntil key millis token end w steps
    taken_until w [] run own held = tt
    taken_until w (step ∷ steps) run own held =
        match_by _ _ (gives key token step) (λ given. tt)
        (λ not_given. (λ taken. late w step run.0 taken held, taken_until (after w step) steps run.1 own.1 (next_held w step run.0 own.0 not_given held)))

  one_hold_from : (w : World) (steps : List Step) → Run w steps → OwnFrom (OfSlot key millis) key w steps → OneHoldFrom key millis w steps
  one_hold_from w [] run own = tt
  one_hold_from w (step ∷ steps) run own = (
    λ taken. taken_until (token_of step) ((after w step).moment + millis) (after w step) steps run.1 own.1 (inr (hold_stands w step run.0 taken).stands),
    one_hold_from (after w step) steps run.1 own.1,
  )

pub one_hold : OneHold
one_hold limits key millis steps fits own = one_hold_from key millis fits (first limits) steps own.run own.own

-- ## How many holds stand

abbrev of_key : Bytes → Bytes → Bool
of_key key other = bytes_eq other key

-- what a hold that stands is
pub record IsStanding (of : Bytes → Bool) (millis : ℕ) (w : World) (step : Step) (steps : List Step) : Type 0 where
  pub of_it : of (key_in (words_of step.event)) ≡ true
  pub taken : takes (key_in (words_of step.event)) millis step ≡ true
  pub ahead : (world_after (after w step) steps).moment < (after w step).moment + millis
  pub kept : list_any (gives (key_in (words_of step.event)) (token_of step)) steps ≡ false

is_standing : (of : Bytes → Bool) (millis : ℕ) (w : World) (step : Step) (steps : List Step) → stands of millis w step steps ≡ true → IsStanding of millis w step steps
is_standing of millis w step steps is =
    let key = key_in (words_of step.event) in
    let end = (world_after (after w step) steps).moment in
    let a = both_of (of key && takes key millis step && nat_lt end ((after w step).moment + millis)) (not (list_any (gives key (token_of step)) steps)) is in
    let b = both_of (of key && takes key millis step) (nat_lt end ((after w step).moment + millis)) a.0 in
    let c = both_of (of key) (takes key millis step) b.0 in
    let before = b.1 in
    record { of_it = c.0; taken = c.1; ahead = grind (arith, nat_tests, before); kept = not_true (list_any (gives key (token_of step)) steps) a.1 }

module _ (key : Bytes) (millis : ℕ) where
  abbrev Mine : World → Step → List Step → Type 0
  Mine w step steps = IsStanding (of_key key) millis w step steps

  mine : (w : World) (step : Step) (steps : List Step) → Mine w step steps → takes key millis step ≡ true
  mine w step steps s = subst (λ (k : Bytes). takes k millis step ≡ true) ((bytes_eq-Decides (key_in (words_of step.event)) key).0 s.of_it) s.taken

  -- while one stands no other comes
  none_beside : (token : Bytes) (end : ℕ) (w : World) (steps : List Step) → TakenUntil key millis token end w steps → list_any (gives key token) steps ≡ false
      → (world_after w steps).moment < end → standing (of_key key) millis w steps ≡ 0
  none_beside token end w [] until none before = refl
  none_beside token end w (step ∷ steps) until none before =
      let kept = not_any (gives key token step) (list_any (gives key token) steps) none in
      let here = match_false _ _ (gives key token step) kept.0 until in
      let rest = none_beside token end (after w step) steps here.1 kept.1 before in
      by (stands (of_key key) millis w step steps) refl here.0 rest
    where
      by : (b : Bool) → stands (of_key key) millis w step steps ≡ b → (takes key millis step ≡ true → end ≤ (after w step).moment) → standing (of_key key) millis (after w step) steps ≡ 0
          → cond b 1 0 + standing (of_key key) millis (after w step) steps ≡ 0
      by true is late zero_ =
          let s = is_standing (of_key key) millis w step steps is in
          let over = late (mine w step steps s) in
          let later = run_later (after w step) steps in
          absurd (omega (arith, over, later, before))
      by false is late zero_ = omega (arith, zero_)

  at_most_one : (w : World) (steps : List Step) → OneHoldFrom key millis w steps → standing (of_key key) millis w steps ≤ 1
  at_most_one w [] one = omega arith
  at_most_one w (step ∷ steps) one = by (stands (of_key key) millis w step steps) refl (at_most_one (after w step) steps one.1) where
    by : (b : Bool) → stands (of_key key) millis w step steps ≡ b → standing (of_key key) millis (after w step) steps ≤ 1 → cond b 1 0 + standing (of_key key) millis (after w step) steps ≤ 1
    by true is rest =
        let s = is_standing (of_key key) millis w step steps is in
        let same : key_in (words_of step.event) ≡ key = (bytes_eq-Decides (key_in (words_of step.event)) key).0 s.of_it in
        let kept : list_any (gives key (token_of step)) steps ≡ false = subst (λ (k : Bytes). list_any (gives k (token_of step)) steps ≡ false) same s.kept in
        let none = none_beside (token_of step) ((after w step).moment + millis) (after w step) steps (one.0 (mine w step steps s)) kept s.ahead in
        omega (arith, none)
    by false is rest = omega (arith, rest)

-- ## Several slots

one_more : (a b t l g : Bool) → cond ((((a || b) && t) && l) && g) 1 0 ≤ cond (((a && t) && l) && g) 1 0 + cond (((b && t) && l) && g) 1 0
one_more true b t l g = omega arith
one_more false b t l g = omega arith

module _ (a b : Bytes → Bool) (millis : ℕ) where
  of_either : (w : World) (steps : List Step) → standing (λ key. a key || b key) millis w steps ≤ standing a millis w steps + standing b millis w steps
  of_either w [] = omega arith
  of_either w (step ∷ steps) =
      let key = key_in (words_of step.event) in
      let rest = of_either (after w step) steps in
      let here = one_more (a key) (b key) (takes key millis step) (nat_lt (world_after (after w step) steps).moment ((after w step).moment + millis)) (not (list_any (gives key (token_of step)) steps)) in
      omega (arith, rest, here)

none_stand : (millis : ℕ) (w : World) (steps : List Step) → standing (λ key. false) millis w steps ≡ 0
none_stand millis w [] = refl
none_stand millis w (step ∷ steps) = let rest = none_stand millis (after w step) steps in omega (arith, rest)

below_stand : (limits : Limits) (name : Bytes) (millis n : ℕ) (steps : List Step) → IsSpan millis → SlotRuns limits name millis n steps → standing (is_below name n) millis (first limits) steps ≤ n
below_stand limits name millis zero steps fits runs = let none = none_stand millis (first limits) steps in omega (arith, none)
below_stand limits name millis (suc n) steps fits runs =
    let key = slot_key name n in
    let last = runs n (omega arith) in
    let rest = below_stand limits name millis n steps fits (λ slot below. runs slot (omega (arith, below))) in
    let one = at_most_one key millis (first limits) steps (one_hold limits key millis steps fits last) in
    let either = of_either (of_key key) (is_below name n) millis (first limits) steps in
    omega (arith, rest, one, either)

pub one_hold_a_slot : OneHoldASlot
one_hold_a_slot limits name millis n steps fits runs = below_stand limits name millis n steps fits runs

-- ## All slots

fewer : (a b t l g : Bool) → not (a && t) || b ≡ true → cond (((a && t) && l) && g) 1 0 ≤ cond (((b && t) && l) && g) 1 0
fewer true true t l g is = omega arith
fewer true false true l g is = absurd (cc is)
fewer true false false l g is = omega arith
fewer false b t l g is = omega arith

all_fewer : (name : Bytes) (millis most : ℕ) (w : World) (steps : List Step) → all_below name millis most steps ≡ true → standing (is_slot name) millis w steps ≤ standing (is_below name most) millis w steps
all_fewer name millis most w [] all = omega arith
all_fewer name millis most w (step ∷ steps) all =
    let key = key_in (words_of step.event) in
    let is = both_of (not (is_slot name key && takes key millis step) || is_below name most key) (all_below name millis most steps) all in
    let rest = all_fewer name millis most (after w step) steps is.1 in
    let here = fewer (is_slot name key) (is_below name most key) (takes key millis step) (nat_lt (world_after (after w step) steps).moment ((after w step).moment + millis)) (not (list_any (gives key (token_of step)) steps)) is.0 in
    omega (arith, rest, here)

pub most_holds : MostHolds
most_holds limits name millis most steps fits runs all =
    let fewer_ = all_fewer name millis most (first limits) steps all in
    let below = below_stand limits name millis most steps fits runs in
    omega (arith, fewer_, below)
