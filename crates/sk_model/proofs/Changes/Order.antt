-- Firings stand in order: complete, success, death, and of each kind the inner batch first.
use Rattle.std.proofs.Common.{◌≡◌, List, [], ◌∷◌, ◌++◌, refl, sym, subst, ap, ◌∙◌, arith, Bool, true, false, cond, not, ◌&&◌, ◌||◌, Option, Some, None, map, nat_lt}
use Rattle.std.specs.Prelude.{filter}
use Rattle.std.specs.List.{list_any, list_all}
use Rattle.std.specs.Str.{bytes_eq}
use Rattle.sk_resp.specs.Spelling.{Bytes}
use Rattle.sk_payload.specs.Head.{head}
use Rattle.sk_payload.specs.declared.head.Head.{Head}
use Rattle.sk_batch.specs.Batched.{Batched, BatchEntry, has_bid, is_there}
use Rattle.sk_batch.specs.Fires.{firing}
use Rattle.sk_batch.specs.Ancestors.{ancestors, ancestors_above, is_under}
use Rattle.sk_batch.specs.declared.firing.Firing.{Firing}
use Rattle.sk_batch.specs.declared.firing.Kind.{Kind}
use Rattle.sk_batch.specs.declared.firing.Kind.TheVariants.{Complete, Success, Death}
use Rattle.sk_places.specs.declared.origin.Origin.TheVariants.{Inner}
use Rattle.sk_model.specs.World.{World}
use Rattle.sk_model.specs.Change.{Fire, Change, Moves, changed, perform}
use Rattle.sk_model.specs.Notify.{push_callback, fire_all, push_to}
use Rattle.sk_model.specs.Once.{is_burial, same_kind}
use Rattle.sk_model.specs.Order.{rank, precedes, may_follow, all_follow, stands_first, InOrder}
use Rattle.sk_model.proofs.Tools.Texts.{bytes_tell}
use Rattle.sk_model.proofs.Changes.Ancestors.{IsTree, line_older}
use Rattle.sk_model.proofs.Changes.Marked.{alike_fire}
use Rattle.sk_model.proofs.Changes.Fired.{all_quiet, first_quiet, is_quiet, push_callback_batches}

-- ## Changes that fire nothing, or only behind a burial

abbrev pub is_fire : Change → Bool
is_fire (Moves (Fire bid kind)) = true
is_fire other = false

abbrev pub no_fires : List Change → Bool
no_fires changes = list_all (λ change. not (is_fire change)) changes

-- nothing is fired before a text comes into the dead set
abbrev pub is_late : List Change → Bool
is_late [] = true
is_late (change ∷ changes) = is_burial change || (not (is_fire change) && is_late changes)

quiet_fire : (change : Change) → is_quiet change ≡ true → is_fire change ≡ false
quiet_fire change q = grind (arith, q)

pub quiet_none : (changes : List Change) → all_quiet changes ≡ true → no_fires changes ≡ true
quiet_none [] q = refl
quiet_none (change ∷ changes) q = let f = first_quiet change changes q in grind (arith, quiet_fire change f.0, quiet_none changes f.1)

pub none_late : (changes : List Change) → no_fires changes ≡ true → is_late changes ≡ true
none_late [] none = refl
none_late (change ∷ changes) none = grind (arith, none, none_late changes)

pub late_append : (one more : List Change) → is_late one ≡ true → is_late more ≡ true → is_late (one ++ more) ≡ true
late_append [] more first then_ = then_
late_append (change ∷ one) more first then_ = grind (arith, first, late_append one more, then_)

-- what is fired behind a burial is late
pub buried_late : (one more : List Change) → no_fires one ≡ true → list_any is_burial one ≡ true → is_late (one ++ more) ≡ true
buried_late [] more none some = absurd (cc some)
buried_late (change ∷ one) more none some = grind (arith, none, some, buried_late one more)

pub some_burial : (one more : List Change) → list_any is_burial one ≡ true → list_any is_burial (one ++ more) ≡ true
some_burial [] more some = absurd (cc some)
some_burial (change ∷ one) more some = grind (arith, some, some_burial one more)

-- ## One list of changes after another

module _ (s : Batched) where
  none_may : (kind : Kind) (bid : Bytes) (change : Change) → is_fire change ≡ false → may_follow s kind bid change ≡ true
  none_may kind bid (Moves (Fire outer other)) e = absurd (cc e)
  none_may kind bid other e = refl

  late_follow : (kind : Kind) (bid : Bytes) (changes : List Change) → is_late changes ≡ true → all_follow s kind bid changes ≡ true
  late_follow kind bid [] late = refl
  late_follow kind bid (change ∷ changes) late = let may = none_may kind bid change in grind (arith, late, may, late_follow kind bid changes)

  follow_append : (kind : Kind) (bid : Bytes) (one more : List Change) → all_follow s kind bid one ≡ true → is_late more ≡ true → all_follow s kind bid (one ++ more) ≡ true
  follow_append kind bid [] more first late = late_follow kind bid more late
  follow_append kind bid (change ∷ one) more first late = grind (arith, first, follow_append kind bid one more, late)

  first_append : (change : Change) (one more : List Change) → stands_first s change one ≡ true → is_late more ≡ true → stands_first s change (one ++ more) ≡ true
  first_append (Moves (Fire bid kind)) one more first late = follow_append kind bid one more first late
  first_append other one more first late = refl

  none_first : (change : Change) (changes : List Change) → is_fire change ≡ false → stands_first s change changes ≡ true
  none_first (Moves (Fire bid kind)) changes e = absurd (cc e)
  none_first other changes e = refl

pub order_append : (w : World) (one more : List Change) → InOrder w one → InOrder (perform w one) more → is_late more ≡ true → InOrder w (one ++ more)
order_append w [] more first then_ late = then_
order_append w (change ∷ one) more first then_ late = (first_append w.batches change one more first.0 late, order_append (changed w change) one more first.1 then_ late)

pub order_behind : (w : World) (one more : List Change) → no_fires one ≡ true → InOrder (perform w one) more → InOrder w (one ++ more)
order_behind w [] more none then_ = then_
order_behind w (change ∷ one) more none then_ = (none_first w.batches change (one ++ more) (grind (arith, none)), order_behind (changed w change) one more (grind (arith, none)) then_)

pub order_none : (w : World) (changes : List Change) → no_fires changes ≡ true → InOrder w changes
order_none w [] none = tt
order_none w (change ∷ changes) none = (none_first w.batches change changes (grind (arith, none)), order_none (changed w change) changes (grind (arith, none)))

-- ## Firings

abbrev pub all_later : Batched → Kind → Bytes → List Firing → Bool
all_later s kind bid fs = list_all (λ f. precedes s kind bid f.kind f.bid) fs

-- each stands before the later ones
abbrev pub Ordered : Batched → List Firing → Type 0
Ordered s [] = Unit {0}
Ordered s (f ∷ fs) = (all_later s f.kind f.bid fs ≡ true) × Ordered s fs

-- only who is under whom counts
module _ (s t : Batched) (same : (x b : Bytes) → is_under s.batches x b ≡ is_under t.batches x b) where
  later_alike : (kind : Kind) (bid : Bytes) (fs : List Firing) → all_later s kind bid fs ≡ true → all_later t kind bid fs ≡ true
  later_alike kind bid [] e = refl
  later_alike kind bid (f ∷ fs) e = let one = same bid f.bid in grind (arith, e, one, later_alike kind bid fs)

  pub ordered_alike : (fs : List Firing) → Ordered s fs → Ordered t fs
  ordered_alike [] o = tt
  ordered_alike (f ∷ fs) o = (later_alike f.kind f.bid fs o.0, ordered_alike fs o.1)

-- a callback fires nothing, and is no burial
push_none : (text : Bytes) (found : Option Head) → no_fires (push_to Inner text found) ≡ true
push_none text None = refl
push_none text (Some h) = refl

pub callback_none : (o : Option Bytes) → no_fires (push_callback o) ≡ true
callback_none None = refl
callback_none (Some text) = push_none text (head text)

module _ (s : Batched) (kind : Kind) (bid : Bytes) where
  push_follow : (text : Bytes) (found : Option Head) (more : List Change) → all_follow s kind bid (push_to Inner text found ++ more) ≡ all_follow s kind bid more
  push_follow text None more = refl
  push_follow text (Some h) more = refl

  callback_follow : (o : Option Bytes) (more : List Change) → all_follow s kind bid (push_callback o ++ more) ≡ all_follow s kind bid more
  callback_follow None more = refl
  callback_follow (Some text) more = push_follow text (head text) more

  fires_follow : (fs : List Firing) → all_later s kind bid fs ≡ true → all_follow s kind bid (fire_all fs) ≡ true
  fires_follow [] e = refl
  fires_follow (f ∷ fs) e = let through = callback_follow f.payload (fire_all fs) in grind (arith, e, through, fires_follow fs)

pub fires_ordered : (w : World) (fs : List Firing) → Ordered w.batches fs → InOrder w (fire_all fs)
fires_ordered w [] o = tt
fires_ordered w (f ∷ fs) o =
    let v : World = changed w (Moves (Fire f.bid f.kind)) in
    let called : List Change = push_callback f.payload in
    let alike : Ordered v.batches fs = ordered_alike w.batches v.batches (λ x b. sym ((alike_fire f.bid f.kind w.batches).under x b)) fs o.1 in
    let rest : Ordered (perform v called).batches fs = subst (λ (s : Batched). Ordered s fs) (sym (push_callback_batches v f.payload)) alike in (
      callback_follow w.batches f.kind f.bid f.payload (fire_all fs) ∙ fires_follow w.batches f.kind f.bid fs o.0,
      order_behind v called (fire_all fs) (callback_none f.payload) (fires_ordered (perform v called) fs rest),
    )

-- ## Firings along a line

-- the one batch stands somewhere within the other
abbrev apart : List BatchEntry → Bytes → Bytes → Bool
apart bs inner outer = is_under bs inner outer && not (bytes_eq inner outer)

-- Each batch of the list is there, and stands within the later ones.
abbrev pub Lined : List BatchEntry → List BatchEntry → Type 0
Lined bs [] = Unit {0}
Lined bs (e ∷ es) = (is_there e.1.bid bs ≡ true) × (list_all (λ o. apart bs e.1.bid o.1.bid) es ≡ true) × Lined bs es

older_apart : (bs : List BatchEntry) (r : BatchEntry) (x : Bytes) (es : List BatchEntry) → IsTree (r ∷ bs) → is_there x bs ≡ true → list_all (λ o. apart bs x o.1.bid) es ≡ true → list_all (λ o. apart (r ∷ bs) x o.1.bid) es ≡ true
older_apart bs r x es t there e = subst (λ line. list_all (λ o. list_any (has_bid o.1.bid) line && not (bytes_eq x o.1.bid)) es ≡ true) (sym (line_older bs r x t there)) e

lined_older : (bs : List BatchEntry) (r : BatchEntry) (es : List BatchEntry) → IsTree (r ∷ bs) → Lined bs es → Lined (r ∷ bs) es
lined_older bs r [] t l = tt
lined_older bs r (e ∷ es) t l = (grind (arith, l.0), older_apart bs r e.1.bid es t l.0 l.1, lined_older bs r es t l.2)

lined_either : (bs : List BatchEntry) (b : Bool) (es fs : List BatchEntry) → Lined bs es → Lined bs fs → Lined bs (cond b es fs)
lined_either bs true es fs l m = l
lined_either bs false es fs l m = m

lined_above : (bs : List BatchEntry) (o : Option Bytes) → ((x : Bytes) → Lined bs (ancestors bs x)) → Lined bs (ancestors_above o (ancestors bs))
lined_above bs None ih = tt
lined_above bs (Some p) ih = ih p

-- each batch of a part stands in the whole
abbrev are_in : List BatchEntry → List BatchEntry → Bool
are_in whole part = list_all (λ o. list_any (has_bid o.1.bid) whole) part

in_longer : (e : BatchEntry) (whole part : List BatchEntry) → are_in whole part ≡ true → are_in (e ∷ whole) part ≡ true
in_longer e whole [] all = refl
in_longer e whole (o ∷ part) all = grind (arith, all, in_longer e whole part)

in_own : (es : List BatchEntry) → are_in es es ≡ true
in_own [] = refl
in_own (e ∷ es) = let rest = in_longer e es es (in_own es) in grind (arith, bytes_tell, rest)

-- a new batch isn't one of those above it
new_apart : (bs : List BatchEntry) (r : BatchEntry) (whole part : List BatchEntry) → is_there r.1.bid bs ≡ false → Lined bs part → are_in whole part ≡ true → list_all (λ o. list_any (has_bid o.1.bid) whole && not (bytes_eq r.1.bid o.1.bid)) part ≡ true
new_apart bs r whole [] new l all = refl
new_apart bs r whole (o ∷ part) new l all =
    let there = l.0 in
    let rest = new_apart bs r whole part new l.2 in
    grind (arith, bytes_tell, new, there, all, rest)

pub line_lined : (bs : List BatchEntry) (x : Bytes) → IsTree bs → Lined bs (ancestors bs x)
line_lined [] x t = tt
line_lined (r ∷ bs) x t =
    let above : List BatchEntry = ancestors_above r.1.parent (ancestors bs) in
    let lined : Lined bs above = lined_above bs r.1.parent (λ y. line_lined bs y t.2) in
    let own : has_bid r.1.bid r ≡ true = grind (arith, bytes_tell) in
    let line : ancestors (r ∷ bs) r.1.bid ≡ r ∷ above = ap (λ b. cond b (r ∷ above) (ancestors bs r.1.bid)) own in
    let behind = new_apart bs r (r ∷ above) above t.0 lined (in_longer r above above (in_own above)) in
    lined_either (r ∷ bs) (has_bid x r) (r ∷ above) (ancestors bs x) (
      grind (arith, own),
      subst (λ l. list_all (λ o. list_any (has_bid o.1.bid) l && not (bytes_eq r.1.bid o.1.bid)) above ≡ true) (sym line) behind,
      lined_older bs r above t lined,
    ) (lined_older bs r (ancestors bs x) t (line_lined bs x t.2))

same_own : (kind : Kind) → same_kind kind kind ≡ true
same_own Complete = refl
same_own Success = refl
same_own Death = refl

-- one kind is fired of some batches of a line
module _ (s : Batched) (kind : Kind) (p : BatchEntry → Bool) where
  later_filtered : (bid : Bytes) (es : List BatchEntry) → list_all (λ o. apart s.batches bid o.1.bid) es ≡ true → all_later s kind bid (map (λ e. firing kind e.1) (filter p es)) ≡ true
  later_filtered bid [] all = refl
  later_filtered bid (e ∷ es) all = let own = same_own kind in grind (arith, all, own, later_filtered bid es)

  ordered_either : (b : Bool) (e : BatchEntry) (es : List BatchEntry) → all_later s kind e.1.bid (map (λ e. firing kind e.1) es) ≡ true → Ordered s (map (λ e. firing kind e.1) es) → Ordered s (map (λ e. firing kind e.1) (cond b (e ∷ es) es))
  ordered_either true e es later rest = (later, rest)
  ordered_either false e es later rest = rest

  pub lined_ordered : (es : List BatchEntry) → Lined s.batches es → Ordered s (map (λ e. firing kind e.1) (filter p es))
  lined_ordered [] l = tt
  lined_ordered (e ∷ es) l = ordered_either (p e) e (filter p es) (later_filtered e.1.bid es l.1) (lined_ordered es l.2)

all_both : (s : Batched) (kind : Kind) (bid : Bytes) (fs gs : List Firing) → all_later s kind bid fs ≡ true → all_later s kind bid gs ≡ true → all_later s kind bid (fs ++ gs) ≡ true
all_both s kind bid [] gs one more = more
all_both s kind bid (f ∷ fs) gs one more = grind (arith, one, more, all_both s kind bid fs gs)

-- one kind comes before another
module _ (s : Batched) (kind other : Kind) (less : nat_lt (rank kind) (rank other) ≡ true) where
  kind_before : (bid : Bytes) (es : List BatchEntry) → all_later s kind bid (map (λ e. firing other e.1) es) ≡ true
  kind_before bid [] = refl
  kind_before bid (e ∷ es) = grind (arith, less, kind_before bid es)

  pub kinds_ordered : (es fs : List BatchEntry) → Ordered s (map (λ e. firing kind e.1) es) → Ordered s (map (λ e. firing other e.1) fs) → Ordered s (map (λ e. firing kind e.1) es ++ map (λ e. firing other e.1) fs)
  kinds_ordered [] fs one more = more
  kinds_ordered (e ∷ es) fs one more = (all_both s kind e.1.bid (map (λ e. firing kind e.1) es) (map (λ e. firing other e.1) fs) one.0 (kind_before e.1.bid fs), kinds_ordered es fs one.1 more)
