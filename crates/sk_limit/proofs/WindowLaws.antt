-- Each life of a window's key lasts, and few grants come within one.
use Rattle.std.proofs.Common.{◌≡◌, ◌⊎◌, ◌≤◌, ◌<◌, ◌+◌, ◌^◌, ℕ, List, [], ◌∷◌, refl, sym, ap, subst, ◌∙◌, arith, Bool, true, false, ◌&&◌, cond, inl, inr, nat_le}
use Rattle.std.proofs.lemmas.Bool.Decides.{nat_tests}
use Rattle.std.specs.Fmt.{decimal}
use Rattle.std.specs.Option.{is_some}
use Rattle.std.specs.Prelude.{Option, Some, None, IfSome, pos, codes}
use Rattle.sk_resp.specs.Spelling.{Bytes}
use Rattle.sk_resp.specs.declared.reply.Reply.{Reply}
use Rattle.sk_resp.specs.declared.reply.Reply.TheVariants as reply
use Rattle.sk_link.specs.Asking.{is_okay}
use Rattle.sk_value.specs.Apply.{Turn, changed as key_changed}
use Rattle.sk_value.specs.Keys.{at, is_over, purged}
use Rattle.sk_value.specs.declared.entry.Entry.{Entry}
use Rattle.sk_model.specs.Change.{moment_after, passed, perform}
use Rattle.sk_model.specs.Event.{Happens, Run, Step, after}
use Rattle.sk_model.specs.Laws.{is_refusal}
use Rattle.sk_model.specs.Outcome.{Outcome, reply_of}
use Rattle.sk_model.specs.Reading.{Words}
use Rattle.sk_model.specs.Step.{at_moment}
use Rattle.sk_model.specs.World.{World, first}
use Rattle.sk_limit.proofs.Counting.{BoundTurn, CountTurn, bound_comes, bound_rule, bounds_turn, count_comes, count_rule, counts_first, counts_on, zero_text}
use Rattle.sk_limit.proofs.Giving.{entry_with}
use Rattle.sk_limit.proofs.KeyOrder.{InOrder, at_over, none_purged}
use Rattle.sk_limit.proofs.Keys.{at_purged, at_put_itself}
use Rattle.sk_limit.proofs.Moments.{step_later}
use Rattle.sk_limit.proofs.Acting.{Acts, Sets, kept, waited, acted, ruled, set_comes, standing_at}
use Rattle.sk_limit.proofs.Others.{look_leaves}
use Rattle.sk_limit.proofs.SlotLaws.{in_order, same_words, small, words_same}
use Rattle.sk_limit.proofs.WorldOrder.{event_ordered}
use Rattle.sk_limit.specs.Own.{Leaves, OfWindow, OwnFrom, adds, are_words, bounds, looks, opens, words_of}
use Rattle.sk_limit.specs.Requests.{count_words}
use Rattle.sk_limit.specs.Slots.{IsSpan}
use Rattle.sk_limit.specs.Windows.{EndsAfter, FewGrants, FewGrantsFrom, LivesLast, LivesLastFrom, granted_after, grants, is_granted, goes_on, since_after}

-- ## What a window's key holds

-- nothing, or a count and a deadline
abbrev pub Form : Type 0
Form = Option (ℕ × Option ℕ)

abbrev pub entry_of : Form → Option Entry
entry_of None = None
entry_of (Some p) = Some (entry_with (decimal p.0) p.1)

abbrev Fits : Form → Type 0
Fits None = Unit {0}
Fits (Some p) = p.0 < 2 ^ 63

-- How what is held at a moment is followed. The test says whether a grant was answered.
abbrev pub Came : ℕ → ℕ → ℕ → Bool → Form → Form → Type 0
Came millis most now g None next =
    ((next ≡ None) × (g ≡ false))
    ⊎ (((next ≡ Some (0, Some (now + millis))) × (g ≡ false)) ⊎ ((next ≡ Some (1, None)) × (g ≡ true → 1 ≤ most)))
Came millis most now g (Some p) next =
    ((next ≡ Some p) × (g ≡ false))
    ⊎ (((next ≡ Some (p.0 + 1, p.1)) × (p.0 + 1 < 2 ^ 63) × (g ≡ true → p.0 + 1 ≤ most)) ⊎ ((next ≡ Some (p.0, Some (now + millis))) × (g ≡ false)))

abbrev Result : Bytes → ℕ → ℕ → World → Bool → Form → Type 0
Result key millis most u g form = (next : Form) × (at key u.keys ≡ entry_of next) × Came millis most u.moment g form next

came_same : (millis most now : ℕ) (g : Bool) (form : Form) → g ≡ false → Came millis most now g form form
came_same millis most now g None e = inl (refl, e)
came_same millis most now g (Some p) e = inl (refl, e)

-- what stands in the key's life that began then, with so many grants
pub record Stands (key : Bytes) (millis most : ℕ) (w : World) (start granted : ℕ) : Type 0 where
  pub count : ℕ
  pub deadline : Option ℕ
  pub is : at key w.keys ≡ entry_of (Some (count, deadline))
  pub fits : count < 2 ^ 63
  pub few : granted ≤ count
  pub within : granted ≤ most
  pub ends : IfSome deadline (λ end. (start + millis ≤ end) × (w.moment < end))
  pub begun : start ≤ w.moment

abbrev pub Life : Bytes → ℕ → ℕ → World → Option ℕ → ℕ → Type 0
Life key millis most w None granted = at key w.keys ≡ None
Life key millis most w (Some start) granted = Stands key millis most w start granted

not_over : (now end : ℕ) → now < end → is_over now (Some end) ≡ false
not_over now end before = grind (arith, nat_tests, before)

over : (now end : ℕ) → end ≤ now → is_over now (Some end) ≡ true
over now end past = grind (arith, nat_tests, past)

if_false : (a b : Bool) → a ≡ false → (a && b) ≡ false
if_false true b e = absurd (cc e)
if_false false b e = refl

both_of : (a b : Bool) → a && b ≡ true → (a ≡ true) × (b ≡ true)
both_of true b e = (refl, e)
both_of false b e = absurd (cc e)

-- ## Before a step

-- What stands when the step comes: nothing, and a life before has lasted; or the life goes on.
pub data Before (key : Bytes) (millis most : ℕ) (w : World) (now : ℕ) (since : Option ℕ) (granted : ℕ) : Type 0 where
  free : at key (purged now w.keys) ≡ None → IfSome since (λ start. start + millis ≤ now) → Before key millis most w now since granted
  held : (start : ℕ) → since ≡ Some start → (count : ℕ) (deadline : Option ℕ) → at key (purged now w.keys) ≡ entry_of (Some (count, deadline)) → count < 2 ^ 63
      → granted ≤ count → granted ≤ most → IfSome deadline (λ end. (start + millis ≤ end) × (now < end)) → start ≤ now → Before key millis most w now since granted

module _ (key : Bytes) (millis most : ℕ) (w : World) (granted : ℕ) where
  before : (now : ℕ) (since : Option ℕ) → InOrder w.keys → w.moment ≤ now → Life key millis most w since granted → Before key millis most w now since granted
  before now None order later none = free (none_purged now key w.keys none) tt
  before now (Some start) order later s = by s.deadline s.is s.ends where
    begun : start ≤ now
    begun = let old = s.begun in omega (arith, old, later)

    by : (deadline : Option ℕ) → at key w.keys ≡ entry_of (Some (s.count, deadline)) → IfSome deadline (λ end. (start + millis ≤ end) × (w.moment < end))
        → Before key millis most w now (Some start) granted
    by None is ends = held start refl s.count None (at_purged now key (entry_with (decimal s.count) None) w.keys is refl) s.fits s.few s.within tt (let old = s.begun in omega (arith, old, later))
    by (Some end) is ends = by_time (in_order end now) where
      by_time : (end ≤ now) ⊎ (now < end) → Before key millis most w now (Some start) granted
      by_time (inl past) = free (at_over now key (entry_with (decimal s.count) (Some end)) w.keys order is (over now end past)) (let long = ends.0 in omega (arith, long, past))
      by_time (inr ahead) =
          held start refl s.count (Some end) (at_purged now key (entry_with (decimal s.count) (Some end)) w.keys is (not_over now end ahead)) s.fits s.few s.within
          (ends.0, ahead) (let old = s.begun in omega (arith, old, later))

  -- time that doesn't pass takes nothing
  unpassed : (since : Option ℕ) → Life key millis most w since granted → at key (purged w.moment w.keys) ≡ at key w.keys
  unpassed None none = none_purged w.moment key w.keys none ∙ sym none
  unpassed (Some start) s = by s.deadline s.is s.ends where
    by : (deadline : Option ℕ) → at key w.keys ≡ entry_of (Some (s.count, deadline)) → IfSome deadline (λ end. (start + millis ≤ end) × (w.moment < end))
        → at key (purged w.moment w.keys) ≡ at key w.keys
    by None is ends = at_purged w.moment key (entry_with (decimal s.count) None) w.keys is refl ∙ sym is
    by (Some end) is ends = at_purged w.moment key (entry_with (decimal s.count) (Some end)) w.keys is (not_over w.moment end ends.1) ∙ sym is

  leaves_same : (since : Option ℕ) (u : World) → Life key millis most w since granted → Leaves key w u → at key u.keys ≡ at key (purged u.moment w.keys)
  leaves_same since u life (inl same) = same.0 ∙ sym (unpassed since life) ∙ ap (λ m. at key (purged m w.keys)) (sym same.1)
  leaves_same since u life (inr same) = same

  left_result : (since : Option ℕ) (u : World) (g : Bool) (form : Form) → Life key millis most w since granted → Leaves key w u → at key (purged u.moment w.keys) ≡ entry_of form → g ≡ false
      → Result key millis most u g form
  left_result since u g form life leaves p e = (form, leaves_same since u life leaves ∙ p, came_same millis most u.moment g form e)

-- ## INCRBY

not_granted : (most : ℕ) (r : Reply) → is_refusal r ≡ true → is_granted most r ≡ false
not_granted most (reply.Int n) is = absurd (cc is)
not_granted most r is = refl

granted_at : (most n : ℕ) → is_granted most (reply.Int (pos n)) ≡ true → n ≤ most
granted_at most n is = let both = both_of (nat_le 1 n) (nat_le n most) is in let less = both.1 in grind (arith, nat_tests, less)

module _ (key : Bytes) (millis most : ℕ) (w : World) (granted : ℕ) (since : Option ℕ) (life : Life key millis most w since granted) where
  count_turn : (now : ℕ) (form : Form) → at key (standing_at now w) ≡ entry_of form → Fits form
      → Result key millis most (perform w (at_moment now (ruled key count_rule (passed now w))).changes) (is_granted most (ruled key count_rule (passed now w)).reply) form
  count_turn now None p fits =
      let is = ap (count_rule (moment_after now w)) p ∙ counts_first (moment_after now w) in (
        Some (1, None),
        ap (λ (t : Turn). at key (key_changed key t.change (standing_at now w))) is ∙ at_put_itself key (entry_with (decimal 1) None) (standing_at now w),
        inr (inr (refl, λ g. granted_at most 1 (sym (ap (λ (t : Turn). is_granted most (reply_of t.answer)) is) ∙ g))),
      )
  count_turn now (Some (n, deadline)) p fits =
      by (counts_on (moment_after now w) n deadline fits)
    where
      same : count_rule (moment_after now w) (at key (standing_at now w)) ≡ count_rule (moment_after now w) (Some (entry_with (decimal n) deadline))
      same = ap (count_rule (moment_after now w)) p

      by : CountTurn n deadline (count_rule (moment_after now w) (Some (entry_with (decimal n) deadline)))
          → Result key millis most (perform w (at_moment now (ruled key count_rule (passed now w))).changes) (is_granted most (ruled key count_rule (passed now w)).reply) (Some (n, deadline))
      by (inl refused) =
          let is = ap (count_rule (moment_after now w)) p ∙ refused in (
            Some (n, deadline),
            ap (λ (t : Turn). at key (key_changed key t.change (standing_at now w))) is ∙ p,
            inl (refl, ap (λ (t : Turn). is_granted most (reply_of t.answer)) is),
          )
      by (inr (fits_on, counted)) =
          let is = ap (count_rule (moment_after now w)) p ∙ counted in (
            Some (n + 1, deadline),
            ap (λ (t : Turn). at key (key_changed key t.change (standing_at now w))) is ∙ at_put_itself key (entry_with (decimal (n + 1)) deadline) (standing_at now w),
            inr (inl (refl, fits_on, λ g. granted_at most (n + 1) (sym (ap (λ (t : Turn). is_granted most (reply_of t.answer)) is) ∙ g))),
          )

  count_result : (o : Outcome) → Acts key count_rule w o → (form : Form) → at key (purged (perform w o.changes).moment w.keys) ≡ entry_of form → Fits form
      → Result key millis most (perform w o.changes) (is_granted most o.reply) form
  count_result o (kept e refused) form p fits =
      left_result key millis most w granted since (perform w o.changes) (is_granted most o.reply) form life (subst (λ cs. Leaves key w (perform w cs)) (sym e) (inl (refl, refl))) p
      (not_granted most o.reply refused)
  count_result o (waited now e refused) form p fits =
      left_result key millis most w granted since (perform w o.changes) (is_granted most o.reply) form life (subst (λ cs. Leaves key w (perform w cs)) (sym e) (inr refl)) p
      (not_granted most o.reply refused)
  count_result o (acted now e) form p fits =
      subst (λ (u : Outcome). at key (purged (perform w u.changes).moment w.keys) ≡ entry_of form → Result key millis most (perform w u.changes) (is_granted most u.reply) form) (sym e)
      (λ q. count_turn now form q fits) p

  -- ## PEXPIRE

  bound_turn : (now : ℕ) (form : Form) → at key (standing_at now w) ≡ entry_of form → 1 ≤ millis
      → Result key millis most (perform w (at_moment now (ruled key (bound_rule millis) (passed now w))).changes) false form
  bound_turn now form p least = by form p (bounds_turn millis (moment_after now w) (at key (standing_at now w)) least) where
    by : (form : Form) → at key (standing_at now w) ≡ entry_of form → BoundTurn millis (moment_after now w) (at key (standing_at now w)) (bound_rule millis (moment_after now w) (at key (standing_at now w)))
        → Result key millis most (perform w (at_moment now (ruled key (bound_rule millis) (passed now w))).changes) false form
    by form p (inl stays) =
        (form, ap (λ change. at key (key_changed key change (standing_at now w))) stays ∙ p, came_same millis most (moment_after now w) false form refl)
    by None p (inr (entry, is, becomes)) = let none : None ≡ Some entry = sym p ∙ is in absurd (cc none)
    by (Some (n, deadline)) p (inr (entry, is, becomes)) =
        let found : Some (entry_with (decimal n) deadline) ≡ Some entry = sym p ∙ is in
        let same : entry_with (decimal n) deadline ≡ entry = cc found in
        let next : Entry = entry_with (decimal n) (Some (moment_after now w + millis)) in (
          Some (n, Some (moment_after now w + millis)),
          ap (λ change. at key (key_changed key change (standing_at now w))) becomes
              ∙ at_put_itself key (record entry { deadline = Some (moment_after now w + millis) }) (standing_at now w)
              ∙ ap (λ (e : Entry). Some (record e { deadline = Some (moment_after now w + millis) })) (sym same),
          inr (inr (refl, refl)),
        )

  bound_result : (o : Outcome) → Acts key (bound_rule millis) w o → (form : Form) → at key (purged (perform w o.changes).moment w.keys) ≡ entry_of form → 1 ≤ millis
      → Result key millis most (perform w o.changes) false form
  bound_result o (kept e refused) form p least =
      left_result key millis most w granted since (perform w o.changes) false form life (subst (λ cs. Leaves key w (perform w cs)) (sym e) (inl (refl, refl))) p refl
  bound_result o (waited now e refused) form p least =
      left_result key millis most w granted since (perform w o.changes) false form life (subst (λ cs. Leaves key w (perform w cs)) (sym e) (inr refl)) p refl
  bound_result o (acted now e) form p least =
      subst (λ (u : Outcome). at key (purged (perform w u.changes).moment w.keys) ≡ entry_of form → Result key millis most (perform w u.changes) false form) (sym e)
      (λ q. bound_turn now form q least) p

  -- ## SET key 0 NX PX millis

  open_result : (u : World) (r : Reply) → ((is_okay r ≡ false) × Leaves key w u) ⊎ Sets key (codes "0") millis w u r → (form : Form) → at key (purged u.moment w.keys) ≡ entry_of form
      → Result key millis most u false form
  open_result u r (inl (refused, leaves)) form p = left_result key millis most w granted since u false form life leaves p refl
  open_result u r (inr sets) None p =
      (Some (0, Some (u.moment + millis)), sets.stands ∙ ap (λ text. Some (entry_with text (Some (u.moment + millis)))) zero_text, inr (inl (refl, refl)))
  open_result u r (inr sets) (Some p) q = let none : None ≡ Some (entry_with (decimal p.0) p.1) = sym sets.free ∙ q in absurd (cc none)

  -- ## Every step

  request_result : (step : Step) (words : Words) → IsSpan millis → words_of step.event ≡ words → OfWindow key millis words → Happens w step.event step.outcome
      → are_words (words_of step.event) (count_words key) ≡ false → (form : Form) → at key (purged (after w step).moment w.keys) ≡ entry_of form → Result key millis most (after w step) false form
  request_result step words span same opens happens other form p =
      open_result (after w step) step.outcome.reply (set_comes key (codes "0") millis w step (small millis span) same happens) form p
  request_result step words span same adds happens other form p =
      let is = words_same (words_of step.event) (count_words key) same in absurd (cc (is, other))
  request_result step words span same looks happens other form p =
      left_result key millis most w granted since (after w step) false form life (look_leaves key w step.event step.outcome same happens) p refl
  request_result step words span same bounds happens other form p = bound_result step.outcome (bound_comes key millis w step (small millis span) same happens) form p span.0

  step_result : (step : Step) → IsSpan millis → Happens w step.event step.outcome → Leaves key w (after w step) ⊎ OfWindow key millis (words_of step.event)
      → (form : Form) → at key (purged (after w step).moment w.keys) ≡ entry_of form → Fits form → Result key millis most (after w step) (grants key most step) form
  step_result step span happens own form p fits = by (are_words (words_of step.event) (count_words key)) refl own where
    by : (b : Bool) → are_words (words_of step.event) (count_words key) ≡ b → Leaves key w (after w step) ⊎ OfWindow key millis (words_of step.event) → Result key millis most (after w step) (grants key most step) form
    by true is mine =
        subst (λ (b : Bool). Result key millis most (after w step) (b && is_granted most step.outcome.reply) form) (sym is)
        (count_result step.outcome (count_comes key w step (same_words (words_of step.event) (count_words key) is) happens) form p fits)
    by false is (inl leaves) =
        left_result key millis most w granted since (after w step) (grants key most step) form life leaves p (if_false (are_words (words_of step.event) (count_words key)) (is_granted most step.outcome.reply) is)
    by false is (inr request) =
        subst (λ (b : Bool). Result key millis most (after w step) (b && is_granted most step.outcome.reply) form) (sym is)
        (request_result step (words_of step.event) span refl request happens is form p)

-- ## Behind a step

few_more : (g : Bool) (granted count most : ℕ) → granted ≤ count → granted ≤ most → (g ≡ true → count + 1 ≤ most) → (granted + cond g 1 0 ≤ count + 1) × (granted + cond g 1 0 ≤ most)
few_more true granted count most few within more = let last = more refl in (omega (arith, few), omega (arith, few, last))
few_more false granted count most few within more = (omega (arith, few), omega (arith, within))

none_more : (g : Bool) (granted : ℕ) → g ≡ false → granted + cond g 1 0 ≡ granted
none_more true granted e = absurd (cc e)
none_more false granted e = omega arith

module _ (key : Bytes) (millis most : ℕ) (u : World) (g : Bool) (least : 1 ≤ millis) where
  -- what follows, where the life went on or not, and something stands or not
  abbrev Follows : Option ℕ → ℕ → Bool → Bool → Type 0
  Follows since granted goes some =
      (cond goes granted 0 + cond g 1 0 ≤ most) × Life key millis most u (cond goes since (cond some (Some u.moment) None)) (cond goes granted 0 + cond g 1 0)

  from_free : (since : Option ℕ) (granted : ℕ) (next : Form) → at key u.keys ≡ entry_of next → Came millis most u.moment g None next → Follows since granted false (is_some (entry_of next))
  from_free since granted next is (inl (e, f)) =
      subst (λ (n : Form). at key u.keys ≡ entry_of n → Follows since granted false (is_some (entry_of n))) (sym e) (λ a. (let none = none_more g 0 f in omega (arith, none), a)) is
  from_free since granted next is (inr (inl (e, f))) =
      subst (λ (n : Form). at key u.keys ≡ entry_of n → Follows since granted false (is_some (entry_of n))) (sym e)
      (λ a. let none = none_more g 0 f in (
        omega (arith, none),
        record {
          count = 0;
          deadline = Some (u.moment + millis);
          is = a;
          fits = omega arith;
          few = omega (arith, none);
          within = omega (arith, none);
          ends = (omega arith, omega (arith, least));
          begun = omega arith;
        },
      )) is
  from_free since granted next is (inr (inr (e, f))) =
      subst (λ (n : Form). at key u.keys ≡ entry_of n → Follows since granted false (is_some (entry_of n))) (sym e)
      (λ a. let few = few_more g 0 0 most (omega arith) (omega arith) (λ is. let one = f is in omega (arith, one)) in (
        few.1,
        record {
          count = 1;
          deadline = None;
          is = a;
          fits = omega arith;
          few = let more = few.0 in omega (arith, more);
          within = few.1;
          ends = tt;
          begun = omega arith;
        },
      )) is

  from_held : (start granted count : ℕ) (deadline : Option ℕ) → count < 2 ^ 63 → granted ≤ count → granted ≤ most → IfSome deadline (λ end. (start + millis ≤ end) × (u.moment < end)) → start ≤ u.moment
      → (next : Form) → at key u.keys ≡ entry_of next → Came millis most u.moment g (Some (count, deadline)) next
      → (is_some (entry_of next) ≡ true) × (granted + cond g 1 0 ≤ most) × Stands key millis most u start (granted + cond g 1 0)
  from_held start granted count deadline fits few within ends begun next is (inl (e, f)) =
      let none = none_more g granted f in (
        ap (λ (n : Form). is_some (entry_of n)) e,
        omega (arith, none, within),
        record {
          count = count;
          deadline = deadline;
          is = is ∙ ap entry_of e;
          fits = fits;
          few = omega (arith, none, few);
          within = omega (arith, none, within);
          ends = ends;
          begun = begun;
        },
      )
  from_held start granted count deadline fits few within ends begun next is (inr (inl (e, fits_on, f))) =
      let more = few_more g granted count most few within f in (
        ap (λ (n : Form). is_some (entry_of n)) e,
        more.1,
        record {
          count = count + 1;
          deadline = deadline;
          is = is ∙ ap entry_of e;
          fits = fits_on;
          few = more.0;
          within = more.1;
          ends = ends;
          begun = begun;
        },
      )
  from_held start granted count deadline fits few within ends begun next is (inr (inr (e, f))) =
      let none = none_more g granted f in (
        ap (λ (n : Form). is_some (entry_of n)) e,
        omega (arith, none, within),
        record {
          count = count;
          deadline = Some (u.moment + millis);
          is = is ∙ ap entry_of e;
          fits = fits;
          few = omega (arith, none, few);
          within = omega (arith, none, within);
          ends = (omega (arith, begun), omega (arith, least));
          begun = begun;
        },
      )

module _ (key : Bytes) (millis most : ℕ) (span : IsSpan millis) where
  -- what holds of one step
  abbrev Steps : World → Option ℕ → ℕ → Step → Type 0
  Steps w since granted step =
      EndsAfter key millis w since step × (granted_after key most w granted step ≤ most)
      × Life key millis most (after w step) (since_after key w since step) (granted_after key most w granted step)

  next_life : (w : World) (since : Option ℕ) (granted : ℕ) (step : Step) → InOrder w.keys → Happens w step.event step.outcome → Leaves key w (after w step) ⊎ OfWindow key millis (words_of step.event)
      → Life key millis most w since granted → Steps w since granted step
  next_life w since granted step order happens own life = by (before key millis most w granted (after w step).moment since order (step_later w step) life) where
    by : Before key millis most w (after w step).moment since granted → Steps w since granted step
    by (free p lasted) =
        let result = step_result key millis most w granted since life step span happens own None p tt in
        let stops : goes_on key w step ≡ false = ap (λ (e : Option Entry). is_some e && is_some (at key (after w step).keys)) p in
        let follows = from_free key millis most (after w step) (grants key most step) span.0 since granted result.0 result.1 result.2 in
        let some = subst (λ (b : Bool). Follows key millis most (after w step) (grants key most step) span.0 since granted false b) (sym (ap is_some result.1)) follows in
        let all = subst (λ (b : Bool). Follows key millis most (after w step) (grants key most step) span.0 since granted b (is_some (at key (after w step).keys))) (sym stops) some in
        (λ e. lasted, all.0, all.1)
    by (held start since_is n deadline p fits few within ends begun) =
        let result = step_result key millis most w granted since life step span happens own (Some (n, deadline)) p fits in
        let follows = from_held key millis most (after w step) (grants key most step) span.0 start granted n deadline fits few within ends begun result.0 result.1 result.2 in
        let goes : goes_on key w step ≡ true =
        ap (λ (e : Option Entry). is_some e && is_some (at key (after w step).keys)) p ∙ ap is_some result.1 ∙ follows.0 in
        let stands = subst (λ (s : Option ℕ). Life key millis most (after w step) s (granted + cond (grants key most step) 1 0)) (sym since_is) follows.2 in
        let all = subst (λ (b : Bool). Follows key millis most (after w step) (grants key most step) span.0 since granted b (is_some (at key (after w step).keys))) (sym goes) (follows.1, stands) in
        (λ e. absurd (cc (goes, e)), all.0, all.1)

  lives_from : (w : World) (since : Option ℕ) (granted : ℕ) (steps : List Step) → InOrder w.keys → Run w steps → OwnFrom (OfWindow key millis) key w steps → Life key millis most w since granted
      → LivesLastFrom key millis w since steps × FewGrantsFrom key most w granted steps
  lives_from w since granted [] order run own life = (tt, tt)
  lives_from w since granted (step ∷ steps) order run own life =
      let one = next_life w since granted step order run.0 own.0 life in
      let rest = lives_from (after w step) (since_after key w since step) (granted_after key most w granted step) steps (event_ordered w step.event step.outcome run.0 order) run.1 own.1 one.2 in
      ((one.0, rest.0), (one.1, rest.1))

pub lives_last : LivesLast
lives_last limits key millis steps span own = (lives_from key millis 0 span (first limits) None 0 steps tt own.run own.own refl).0

pub few_grants : FewGrants
few_grants limits key millis most steps span own = (lives_from key millis most span (first limits) None 0 steps tt own.run own.own refl).1
