-- The numbers stay those of the members, whatever happens.
use Rattle.std.proofs.Common.{◌≡◌, ℕ, suc, ◌<◌, ◌≤◌, Bool, true, false, cond, List, [], ◌∷◌, length, get_or, refl, sym, subst, ap, ap₂, ◌∙◌, arith}
use Rattle.std.specs.List.{list_all, list_any, position_or_len}
use Rattle.std.specs.Str.{bytes_eq}
use Rattle.sk_resp.specs.Spelling.{Bytes}
use Rattle.sk_undo.specs.Balance.{most}
use Rattle.sk_batch.specs.Along.{along, retag}
use Rattle.sk_batch.specs.Batched.{BatchEntry, MemberEntry, has_bid, is_job, is_there}
use Rattle.sk_batch.specs.Events.{members_of}
use Rattle.sk_batch.specs.Fires.{after_fires, retagged, with_kind}
use Rattle.sk_batch.specs.Ancestors.{is_under}
use Rattle.sk_batch.specs.Numbers.{changed, gained, no_numbers, numbers_in}
use Rattle.sk_batch.specs.Open.{with_mark}
use Rattle.sk_batch.specs.Order.{is_ordered, put, put_all}
use Rattle.sk_batch.specs.Places.{each_once}
use Rattle.sk_batch.specs.States.{BatchInvariant, StateEntry, all_fired, seen_of, with_change, with_fired, with_numbers}
use Rattle.sk_batch.proofs.Along.{along_is, any_retag, not_there, other_bid, retag_within, under_retag}
use Rattle.sk_batch.proofs.Counted.{Comes, came_comes, got_comes, left_within, none_left, none_members, numbers_come}
use Rattle.sk_batch.proofs.Repeats.{bytes_eq-sym}
use Rattle.sk_batch.proofs.Listed.{bared}
use Rattle.sk_batch.proofs.Order.{ordered_put_all, ordered_retagged}
use Rattle.sk_batch.specs.declared.batch.Batch.{Batch}
use Rattle.sk_batch.specs.declared.batch.Fired.{Fired}
use Rattle.sk_batch.specs.declared.firing.Firing.{Firing}
use Rattle.sk_batch.specs.declared.firing.Kind.{Kind}
use Rattle.sk_batch.specs.declared.member.Mark.{Mark}
use Rattle.sk_batch.specs.declared.member.Progress.{Progress}
use Rattle.sk_batch.specs.declared.numbers.Change.{Change}
use Rattle.sk_batch.specs.declared.numbers.Change.TheVariants.{Came, Got}
use Rattle.sk_batch.specs.declared.numbers.Left.{Left}
use Rattle.sk_batch.specs.declared.numbers.Numbers.{Numbers}
use Rattle.sk_batch.specs.declared.state.State.{State}

-- ## Batches with numbers

abbrev state : Fired → Numbers → State
state fired numbers = record { fired = fired; numbers = numbers }

pub seen_with : (numbers : Batch → Numbers) (bs : List BatchEntry) → seen_of (with_numbers numbers bs) ≡ bs
seen_with numbers [] = refl
seen_with numbers (b ∷ bs) = ap (λ l. b ∷ l) (seen_with numbers bs)

retag_twice : {K L M : Type 0} (f : K × Batch → L) (g : L × Batch → M) (bs : List (K × Batch)) → retag g (retag f bs) ≡ retag (λ b. g (f b, b.1)) bs
retag_twice f g [] = refl
retag_twice f g (b ∷ bs) = ap (λ l. (g (f b, b.1), b.1) ∷ l) (retag_twice f g bs)

state_choice : (u : Bool) (fired : Fired) (m n : Numbers) → cond u (state fired m) (state fired n) ≡ state fired (cond u m n)
state_choice true fired m n = refl
state_choice false fired m n = refl

-- the numbers of one batch
abbrev whole : ℕ → Left → Left → Numbers
whole m o u = record { members = m; own = o; under = u }

three : (m m' : ℕ) (o o' u u' : Left) → m ≡ m' → o ≡ o' → u ≡ u' → whole m o u ≡ whole m' o' u'
three m m' o o' u u' e f g = ap (λ n. whole n o u) e ∙ ap (λ n. whole m' n u) f ∙ ap (λ n. whole m' o' n) g

-- batches of the same lines have the same numbers
same_numbers : (bs cs : List BatchEntry) (there : Bytes → Bool) (ms : List MemberEntry) → list_all (λ m. there m.1.bid) ms ≡ true → ((x o : Bytes) → there x ≡ true → is_under bs x o ≡ is_under cs x o) → (b : Batch) → numbers_in bs ms b ≡ numbers_in cs ms b
same_numbers bs cs there ms homes same b = ap (whole _ _) (left_within (λ x. is_under bs x b.bid) (λ x. is_under cs x b.bid) there (λ x h. same x b.bid h) ms homes)

with_same : (m n : Batch → Numbers) → ((b : Batch) → m b ≡ n b) → (bs : List BatchEntry) → with_numbers m bs ≡ with_numbers n bs
with_same m n same [] = refl
with_same m n same (b ∷ bs) = ap₂ (λ t l. (state b.0 t, b.1) ∷ l) (same b.1) (with_same m n same bs)

-- ## What is fired

retagged_with : (numbers : Batch → Numbers) (bid : Bytes) (kind : Kind) (bs : List BatchEntry) → retagged (has_bid bid) (with_fired kind) (with_numbers numbers bs) ≡ with_numbers numbers (retagged (has_bid bid) (with_kind kind) bs)
retagged_with numbers bid kind [] = refl
retagged_with numbers bid kind (b ∷ bs) = let ih = retagged_with numbers bid kind bs in grind (arith, ih)

fired_with : (numbers : Batch → Numbers) (fs : List Firing) (bs : List BatchEntry) → all_fired fs (with_numbers numbers bs) ≡ with_numbers numbers (after_fires fs bs)
fired_with numbers [] bs = refl
fired_with numbers (f ∷ fs) bs = ap (all_fired fs) (retagged_with numbers f.bid f.kind bs) ∙ fired_with numbers fs (retagged (has_bid f.bid) (with_kind f.kind) bs)

bare_retagged : {K : Type 0} (test : K × Batch → Bool) (f : K → K) (bs : List (K × Batch)) → bared (retagged test f bs) ≡ bared bs
bare_retagged test f [] = refl
bare_retagged test f (b ∷ bs) = either (test b) (bare_retagged test f bs) where
  either : (t : Bool) → bared (retagged test f bs) ≡ bared bs → bared (cond t ((f b.0, b.1) ∷ bs) (b ∷ retagged test f bs)) ≡ bared (b ∷ bs)
  either true ih = refl
  either false ih = ap (λ l. (tt, b.1) ∷ l) ih

abbrev bare : BatchEntry → Unit {0}
bare b = tt

bare_fired : (fs : List Firing) (bs : List BatchEntry) → bared (after_fires fs bs) ≡ bared bs
bare_fired [] bs = refl
bare_fired (f ∷ fs) bs = bare_fired fs (retagged (has_bid f.bid) (with_kind f.kind) bs) ∙ bare_retagged (has_bid f.bid) (with_kind f.kind) bs

under_fired : (fs : List Firing) (bs : List BatchEntry) (x o : Bytes) → is_under (after_fires fs bs) x o ≡ is_under bs x o
under_fired fs bs x o = sym (under_retag bare (after_fires fs bs) x o) ∙ ap (λ (l : List (Unit {0} × Batch)). is_under l x o) (bare_fired fs bs) ∙ under_retag bare bs x o

there_fired : (fs : List Firing) (bs : List BatchEntry) (x : Bytes) → is_there x (after_fires fs bs) ≡ is_there x bs
there_fired fs bs x = sym (any_retag bare (after_fires fs bs) x) ∙ ap (λ (l : List (Unit {0} × Batch)). list_any (has_bid x) l) (bare_fired fs bs) ∙ any_retag bare bs x

pub bare_all_fired : (fs : List Firing) (bs : List StateEntry) → bared (all_fired fs bs) ≡ bared bs
bare_all_fired [] bs = refl
bare_all_fired (f ∷ fs) bs = bare_all_fired fs (retagged (has_bid f.bid) (with_fired f.kind) bs) ∙ bare_retagged (has_bid f.bid) (with_fired f.kind) bs

all_same : (p q : MemberEntry → Bool) → ((m : MemberEntry) → p m ≡ q m) → (ms : List MemberEntry) → list_all p ms ≡ list_all q ms
all_same p q same [] = refl
all_same p q same (m ∷ ms) = let s = same m in let ih = all_same p q same ms in grind (arith, s, ih)

-- the batches that are seen, with their numbers: from these all of it follows
kept_by : (bs : List BatchEntry) (ms : List MemberEntry) → list_all (λ m. is_there m.1.bid bs) ms ≡ true → is_ordered ms ≡ true → BatchInvariant (with_numbers (numbers_in bs ms) bs) ms
kept_by bs ms homes ordered =
    let s = seen_with (numbers_in bs ms) bs in
    record {
      counted = ap (λ cs. with_numbers (numbers_in cs ms) cs) (sym s);
      homes = ap (λ cs. list_all (λ m. is_there m.1.bid cs) ms) s ∙ homes;
      ordered = ordered;
    }

module _ (batches : List StateEntry) (ms : List MemberEntry) (kept : BatchInvariant batches ms) (fs : List Firing) where
  abbrev fired_seen : List BatchEntry
  fired_seen = after_fires fs (seen_of batches)

  fired_is : all_fired fs batches ≡ with_numbers (numbers_in fired_seen ms) fired_seen
  fired_is =
      ap (all_fired fs) kept.counted ∙ fired_with (numbers_in (seen_of batches) ms) fs (seen_of batches)
      ∙ with_same _ _ (same_numbers (seen_of batches) fired_seen (λ x. is_there x (seen_of batches)) ms kept.homes (λ x o h. sym (under_fired fs (seen_of batches) x o))) fired_seen

  pub seen_fired : seen_of (all_fired fs batches) ≡ after_fires fs (seen_of batches)
  seen_fired = ap seen_of fired_is ∙ seen_with (numbers_in fired_seen ms) fired_seen

  pub kept_fired : BatchInvariant (all_fired fs batches) ms
  kept_fired = subst (λ l. BatchInvariant l ms) (sym fired_is) (kept_by fired_seen ms (all_same _ _ (λ m. there_fired fs (seen_of batches) m.1.bid) ms ∙ kept.homes) kept.ordered)

-- ## What comes to a batch

state_fired : (u : Bool) (s t : State) → s.fired ≡ t.fired → (cond u s t).fired ≡ t.fired
state_fired true s t e = e
state_fired false s t e = refl

seen_turned : (change : Change) (bid : Bytes) (test : Bytes → Bool) (bs : List StateEntry) → seen_of (retag (λ (b : StateEntry). cond (test b.1.bid) (with_change change bid b) b.0) bs) ≡ seen_of bs
seen_turned change bid test [] = refl
seen_turned change bid test (b ∷ bs) = ap₂ (λ f l. (f, b.1) ∷ l) (state_fired (test b.1.bid) (with_change change bid b) b.0 refl) (seen_turned change bid test bs)

pub seen_changed : (bs : List StateEntry) (change : Change) (bid : Bytes) → each_once bs ≡ true → seen_of (along (with_change change bid) bs bid) ≡ seen_of bs
seen_changed bs change bid once = ap seen_of (along_is (with_change change bid) bs bid once) ∙ seen_turned change bid (λ o. is_under bs bid o) bs

pub length_members : (bid : Bytes) (jids : List Bytes) → length (members_of bid jids) ≡ length jids
length_members bid [] = refl
length_members bid (jid ∷ jids) = ap suc (length_members bid jids)

module _ (batches : List StateEntry) (ms ms' : List MemberEntry) (kept : BatchInvariant batches ms) (once : each_once batches ≡ true) (change : Change) (bid : Bytes) (comes : Comes change bid ms ms') where
  abbrev seen : List BatchEntry
  seen = seen_of batches

  abbrev old : BatchEntry → State
  old b = state b.0 (numbers_in seen ms b.1)

  abbrev turn : StateEntry → State
  turn b = cond (is_under batches bid b.1.bid) (with_change change bid b) b.0

  turned : (b : BatchEntry) → is_there b.1.bid seen ≡ true → turn (old b, b.1) ≡ state b.0 (numbers_in seen ms' b.1)
  turned b there =
      let under : is_under batches bid b.1.bid ≡ is_under seen bid b.1.bid = sym (under_retag (λ (c : StateEntry). c.0.fired) batches bid b.1.bid) in
      ap (λ u. cond u (with_change change bid (old b, b.1)) (old b)) under
      ∙ state_choice (is_under seen bid b.1.bid) b.0 (changed change (has_bid bid b) (numbers_in seen ms b.1)) (numbers_in seen ms b.1)
      ∙ ap (state b.0) (sym (numbers_come change bid ms ms' comes seen b there))

  changed_is : along (with_change change bid) batches bid ≡ with_numbers (numbers_in seen ms') seen
  changed_is =
      along_is (with_change change bid) batches bid once ∙ ap (retag turn) kept.counted ∙ retag_twice old turn seen
      ∙ retag_within (λ b. turn (old b, b.1)) (λ b. state b.0 (numbers_in seen ms' b.1)) seen turned

  pub kept_changed : list_all (λ m. is_there m.1.bid seen) ms' ≡ true → is_ordered ms' ≡ true → BatchInvariant (along (with_change change bid) batches bid) ms'
  kept_changed homes ordered = subst (λ l. BatchInvariant l ms') (sym changed_is) (kept_by seen ms' homes ordered)

-- ## Members that come

module _ (there : Bytes → Bool) where
  home_put : (new : MemberEntry) (ms : List MemberEntry) → there new.1.bid ≡ true → list_all (λ m. there m.1.bid) ms ≡ true → list_all (λ m. there m.1.bid) (put new ms) ≡ true
  home_put new [] h k = grind (arith, h)
  home_put new (m ∷ ms) h k = let ih = home_put new ms h in grind (arith, h, k, ih)

  home_put_all : (bid : Bytes) (jids : List Bytes) (ms : List MemberEntry) → there bid ≡ true → list_all (λ m. there m.1.bid) ms ≡ true → list_all (λ m. there m.1.bid) (put_all (members_of bid jids) ms) ≡ true
  home_put_all bid [] ms h k = k
  home_put_all bid (jid ∷ jids) ms h k = let new : MemberEntry = (record { reported = false; returned = false }, record { bid = bid; jid = jid }) in home_put_all bid jids (put new ms) h (home_put new ms h k)

  home_marked : (test : MemberEntry → Bool) (f : Progress → Progress) (ms : List MemberEntry) → list_all (λ m. there m.1.bid) (retagged test f ms) ≡ list_all (λ m. there m.1.bid) ms
  home_marked test f [] = refl
  home_marked test f (m ∷ ms) = let ih = home_marked test f ms in grind (arith, ih)

pub kept_came : (batches : List StateEntry) (ms : List MemberEntry) (bid : Bytes) (jids : List Bytes) → BatchInvariant batches ms → each_once batches ≡ true → is_there bid (seen_of batches) ≡ true → length jids ≤ most → length ms ≤ most
    → BatchInvariant (along (with_change (Came (length jids)) bid) batches bid) (put_all (members_of bid jids) ms)
kept_came batches ms bid jids kept once there h g =
    kept_changed batches ms (put_all (members_of bid jids) ms) kept once (Came (length jids)) bid (came_comes bid jids ms h g)
    (home_put_all (λ x. is_there x (seen_of batches)) bid jids ms there kept.homes)
    (ordered_put_all (members_of bid jids) ms kept.ordered)

pub kept_got : (batches : List StateEntry) (ms : List MemberEntry) (bid jid : Bytes) (mark : Mark) (at : ℕ) (d : MemberEntry) → BatchInvariant batches ms → each_once batches ≡ true → at ≡ position_or_len (is_job bid jid) ms → at < length ms
    → BatchInvariant (along (with_change (Got (gained mark (get_or ms at d).0)) bid) batches bid) (retagged (is_job bid jid) (with_mark mark) ms)
kept_got batches ms bid jid mark at d kept once place within =
    kept_changed batches ms (retagged (is_job bid jid) (with_mark mark) ms) kept once (Got (gained mark (get_or ms at d).0)) bid (got_comes bid jid ms at d place within mark)
    (home_marked (λ x. is_there x (seen_of batches)) (is_job bid jid) (with_mark mark) ms ∙ kept.homes)
    (ordered_retagged (is_job bid jid) (with_mark mark) ms kept.ordered)

-- ## A batch that comes

module _ (batches : List StateEntry) (ms : List MemberEntry) (kept : BatchInvariant batches ms) (fired : Fired) (batch : Batch) (new : is_there batch.bid (seen_of batches) ≡ false) where
  abbrev older : List BatchEntry
  older = seen_of batches

  other : (x : Bytes) → is_there x older ≡ true → bytes_eq batch.bid x ≡ false
  other x h = other_bid older batch.bid x new h

  ancestors_stays : (x o : Bytes) → is_there x older ≡ true → is_under ((fired, batch) ∷ older) x o ≡ is_under older x o
  ancestors_stays x o h = let n = other x h in grind (arith, n)

  -- no member is in it or under it
  none_in : numbers_in ((fired, batch) ∷ older) ms batch ≡ no_numbers
  none_in =
      let out : (x : Bytes) → is_there x older ≡ true → is_under ((fired, batch) ∷ older) x batch.bid ≡ false = λ x h. ancestors_stays x batch.bid h ∙ not_there older x batch.bid new in
      let apart : (x : Bytes) → is_there x older ≡ true → bytes_eq x batch.bid ≡ false = λ x h. bytes_eq-sym x batch.bid ∙ other x h in
      three _ _ _ _ _ _
      (none_members (λ x. bytes_eq x batch.bid) (λ x. is_there x older) apart ms kept.homes)
      (none_left (λ x. bytes_eq x batch.bid) (λ x. is_there x older) apart ms kept.homes)
      (none_left (λ x. is_under ((fired, batch) ∷ older) x batch.bid) (λ x. is_there x older) out ms kept.homes)

  more_homes : (xs : List MemberEntry) → list_all (λ m. is_there m.1.bid older) xs ≡ true → list_all (λ m. is_there m.1.bid ((fired, batch) ∷ older)) xs ≡ true
  more_homes [] h = refl
  more_homes (x ∷ xs) h = let ih = more_homes xs in grind (arith, h, ih)

  made_is : (state fired no_numbers, batch) ∷ batches ≡ with_numbers (numbers_in ((fired, batch) ∷ older) ms) ((fired, batch) ∷ older)
  made_is = ap₂ (λ n l. (state fired n, batch) ∷ l) (sym none_in)
      (kept.counted ∙ with_same _ _ (λ b. sym (same_numbers ((fired, batch) ∷ older) older (λ x. is_there x older) ms kept.homes (λ x o h. ancestors_stays x o h) b)) older)

  pub kept_made : BatchInvariant ((state fired no_numbers, batch) ∷ batches) ms
  kept_made = subst (λ l. BatchInvariant l ms) (sym made_is) (kept_by ((fired, batch) ∷ older) ms (more_homes ms kept.homes) kept.ordered)
