-- What changes fire of batches, and what is kept of it.
use Rattle.std.proofs.Common.{◌≡◌, ℕ, ◌+◌, List, [], ◌∷◌, ◌++◌, refl, sym, ap, ◌∙◌, arith, Bool, true, false, cond, not, ◌&&◌, ◌||◌, Option, Some, None, map}
use Rattle.std.specs.Prelude.{filter}
use Rattle.std.specs.List.{list_any, list_all}
use Rattle.std.specs.Str.{bytes_eq}
use Rattle.sk_resp.specs.Spelling.{Bytes}
use Rattle.sk_payload.specs.Head.{head}
use Rattle.sk_payload.specs.declared.head.Head.{Head}
use Rattle.sk_batch.specs.Batched.{Batched, BatchEntry, has_bid, is_there}
use Rattle.sk_batch.specs.Events.{fired}
use Rattle.sk_batch.specs.Fires.{after_fires, death_fires, dies, firing, retagged, with_kind}
use Rattle.sk_batch.specs.Ancestors.{is_under, ancestors, ancestors_above}
use Rattle.sk_batch.specs.declared.batch.Fired.{Fired}
use Rattle.sk_batch.specs.declared.firing.Firing.{Firing}
use Rattle.sk_batch.specs.declared.firing.Kind.{Kind}
use Rattle.sk_batch.specs.declared.firing.Kind.TheVariants.{Complete, Success, Death}
use Rattle.sk_places.specs.declared.origin.Origin.{Origin}
use Rattle.sk_places.specs.declared.origin.Origin.TheVariants.{Inner, Outside}
use Rattle.sk_model.specs.World.{World}
use Rattle.sk_places.specs.LiveJobs.{one_if}
use Rattle.sk_model.specs.Change.{Fire, Makes, Joins, Notifies, TakesSlot, Change, Moves, after_fire, changed, perform, Add}
use Rattle.sk_model.specs.Notify.{push_to, push_job, push_callback, fire_all}
use Rattle.sk_model.specs.Once.{same_kind, times, times_in}
pub use Rattle.sk_model.specs.Covered.{has_kind, was_fired}
use Rattle.sk_model.proofs.Tools.Texts.{bytes_tell}
use Rattle.sk_model.proofs.Changes.Ancestors.{IsTree, in_list, line_once, there_retagged}
use Rattle.sk_model.proofs.Changes.Marked.{Alike, alike_own, alike_then, alike_fire, Sane, sane_fire}

pub perform-append : (w : World) (a b : List Change) → perform w (a ++ b) ≡ perform (perform w a) b
perform-append w [] b = refl
perform-append w (change ∷ a) b = perform-append (changed w change) a b

-- ## Changes that leave the batches alone, and push no callback

abbrev pub is_quiet : Change → Bool
is_quiet (Moves (Fire bid kind)) = false
is_quiet (Moves (Add row end Inner)) = false
is_quiet (Makes batch jids) = false
is_quiet (Joins bid jids) = false
is_quiet (Notifies event bid jid) = false
is_quiet (TakesSlot loop slot text) = false
is_quiet other = true

abbrev pub all_quiet : List Change → Bool
all_quiet changes = list_all is_quiet changes

quiet_change : (w : World) (change : Change) → is_quiet change ≡ true → (changed w change).batches ≡ w.batches
quiet_change w change q = grind arith

quiet_time : (kind : Kind) (b : Bytes) (change : Change) → is_quiet change ≡ true → times_in kind b change ≡ 0
quiet_time kind b change q = grind arith

pub first_quiet : (change : Change) (changes : List Change) → all_quiet (change ∷ changes) ≡ true → (is_quiet change ≡ true) × (all_quiet changes ≡ true)
first_quiet change changes q = (grind (arith, q), grind (arith, q))

pub quiet_batches : (w : World) (changes : List Change) → all_quiet changes ≡ true → (perform w changes).batches ≡ w.batches
quiet_batches w [] q = refl
quiet_batches w (change ∷ changes) q = let f = first_quiet change changes q in quiet_batches (changed w change) changes f.1 ∙ quiet_change w change f.0

pub quiet_times : (kind : Kind) (b : Bytes) (changes : List Change) → all_quiet changes ≡ true → times kind b changes ≡ 0
quiet_times kind b [] q = refl
quiet_times kind b (change ∷ changes) q = let f = first_quiet change changes q in omega (arith, quiet_time kind b change f.0, quiet_times kind b changes f.1)

pub times-append : (kind : Kind) (b : Bytes) (a c : List Change) → times kind b (a ++ c) ≡ times kind b a + times kind b c
times-append kind b [] c = omega arith
times-append kind b (change ∷ a) c = omega (arith, times-append kind b a c)

pub quiet-append : (a c : List Change) → all_quiet a ≡ true → all_quiet c ≡ true → all_quiet (a ++ c) ≡ true
quiet-append [] c q r = r
quiet-append (change ∷ a) c q r = let f = first_quiet change a q in grind (arith, f.0, quiet-append a c f.1 r)

push_quiet : (text : Bytes) (found : Option Head) → all_quiet (push_to Outside text found) ≡ true
push_quiet text None = refl
push_quiet text (Some h) = refl

pub job_quiet : (text : Bytes) → all_quiet (push_job Outside text) ≡ true
job_quiet text = push_quiet text (head text)

-- ## Callbacks

-- a callback leaves the batches alone too, and fires nothing
push_batches : (w : World) (text : Bytes) (found : Option Head) → (perform w (push_to Inner text found)).batches ≡ w.batches
push_batches w text None = refl
push_batches w text (Some h) = refl

pub push_callback_batches : (w : World) (o : Option Bytes) → (perform w (push_callback o)).batches ≡ w.batches
push_callback_batches w None = refl
push_callback_batches w (Some text) = push_batches w text (head text)

push_times : (kind : Kind) (b : Bytes) (text : Bytes) (found : Option Head) → times kind b (push_to Inner text found) ≡ 0
push_times kind b text None = refl
push_times kind b text (Some h) = refl

pub push_callback_times : (kind : Kind) (b : Bytes) (o : Option Bytes) → times kind b (push_callback o) ≡ 0
push_callback_times kind b None = refl
push_callback_times kind b (Some text) = push_times kind b text (head text)

-- ## Firings

abbrev pub named : Kind → Bytes → Firing → Bool
named kind b f = bytes_eq f.bid b && same_kind kind f.kind

abbrev pub count_named : Kind → Bytes → List Firing → ℕ
count_named kind b [] = 0
count_named kind b (f ∷ fs) = one_if (named kind b f) + count_named kind b fs

pub count-append : (kind : Kind) (b : Bytes) (fs gs : List Firing) → count_named kind b (fs ++ gs) ≡ count_named kind b fs + count_named kind b gs
count-append kind b [] gs = omega arith
count-append kind b (f ∷ fs) gs = omega (arith, count-append kind b fs gs)

pub any-append : (kind : Kind) (b : Bytes) (fs gs : List Firing) → list_any (named kind b) (fs ++ gs) ≡ list_any (named kind b) fs || list_any (named kind b) gs
any-append kind b [] gs = refl
any-append kind b (f ∷ fs) gs = grind (arith, any-append kind b fs gs)

-- the changes that fire them
pub fire_all_times : (kind : Kind) (b : Bytes) (fs : List Firing) → times kind b (fire_all fs) ≡ count_named kind b fs
fire_all_times kind b [] = refl
fire_all_times kind b (f ∷ fs) = omega (arith, times-append kind b (push_callback f.payload) (fire_all fs), push_callback_times kind b f.payload, fire_all_times kind b fs)

pub fire_all_batches : (w : World) (fs : List Firing) → (perform w (fire_all fs)).batches ≡ fired fs w.batches
fire_all_batches w [] = refl
fire_all_batches w (f ∷ fs) =
    let v : World = changed w (Moves (Fire f.bid f.kind)) in
    ap (λ (u : World). u.batches) (perform-append v (push_callback f.payload) (fire_all fs))
    ∙ fire_all_batches (perform v (push_callback f.payload)) fs
    ∙ ap (fired fs) (push_callback_batches v f.payload)

pub alike_fired : (fs : List Firing) (s : Batched) → Alike (fired fs s) s
alike_fired [] s = alike_own s
alike_fired (f ∷ fs) s = let one = after_fire f.bid f.kind s in alike_then (fired fs one) one s (alike_fired fs one) (alike_fire f.bid f.kind s)

pub sane_fired : (fs : List Firing) (s : Batched) → Sane s → Sane (fired fs s)
sane_fired [] s sane = sane
sane_fired (f ∷ fs) s sane = sane_fired fs _ (sane_fire f.bid f.kind s sane)

-- ## What was fired

kind_with : (kind k : Kind) (f : Fired) → has_kind kind (with_kind k f) ≡ has_kind kind f || same_kind kind k
kind_with kind k f = grind arith

pub fired_there : (kind : Kind) (b : Bytes) (bs : List BatchEntry) → was_fired kind b bs ≡ true → is_there b bs ≡ true
fired_there kind b [] f = f
fired_there kind b (e ∷ es) f = grind (arith, fired_there kind b es)

pub fired_retagged : (kind k : Kind) (x b : Bytes) (bs : List BatchEntry) → was_fired kind b (retagged (has_bid x) (with_kind k) bs) ≡ was_fired kind b bs || (is_there b bs && (bytes_eq x b && same_kind kind k))
fired_retagged kind k x b [] = refl
fired_retagged kind k x b (e ∷ es) = grind (arith, bytes_tell, kind_with kind k e.0, fired_retagged kind k x b es)

pub fired_after : (kind : Kind) (b : Bytes) (fs : List Firing) (bs : List BatchEntry) → was_fired kind b (after_fires fs bs) ≡ was_fired kind b bs || (is_there b bs && list_any (named kind b) fs)
fired_after kind b [] bs = grind arith
fired_after kind b (f ∷ fs) bs =
    let rest = fired_after kind b fs (retagged (has_bid f.bid) (with_kind f.kind) bs) in
    let there = there_retagged (has_bid f.bid) (with_kind f.kind) bs b in
    let one = fired_retagged kind f.kind f.bid b bs in
    grind (arith, rest, there, one)

-- ## Firings along a line

-- a test of a batch as it stands in a list is one of its id
abbrev pub Agrees : (BatchEntry → Bool) → (Bytes → Bool) → List BatchEntry → Type 0
Agrees p q [] = Unit {0}
Agrees p q (e ∷ es) = (p e ≡ q e.1.bid) × Agrees p q es

same_own : (kind : Kind) → same_kind kind kind ≡ true
same_own Complete = refl
same_own Success = refl
same_own Death = refl

pub count_fires : (kind : Kind) (p : BatchEntry → Bool) (q : Bytes → Bool) (b : Bytes) (es : List BatchEntry) → Agrees p q es → count_named kind b (map (λ e. firing kind e.1) (filter p es)) ≡ cond (q b) (in_list b es) 0
count_fires kind p q b [] a = grind arith
count_fires kind p q b (e ∷ es) a = grind (arith, bytes_tell, a.0, same_own kind, count_fires kind p q b es a.1)

pub any_fires : (kind : Kind) (p : BatchEntry → Bool) (q : Bytes → Bool) (b : Bytes) (es : List BatchEntry) → Agrees p q es → list_any (named kind b) (map (λ e. firing kind e.1) (filter p es)) ≡ q b && list_any (has_bid b) es
any_fires kind p q b [] a = grind arith
any_fires kind p q b (e ∷ es) a = grind (arith, bytes_tell, a.0, same_own kind, any_fires kind p q b es a.1)

-- another kind
pub count_others : (kind other : Kind) (b : Bytes) (es : List BatchEntry) → same_kind kind other ≡ false → count_named kind b (map (λ e. firing other e.1) es) ≡ 0
count_others kind other b [] apart = refl
count_others kind other b (e ∷ es) apart = grind (arith, apart, count_others kind other b es)

pub any_others : (kind other : Kind) (b : Bytes) (es : List BatchEntry) → same_kind kind other ≡ false → list_any (named kind b) (map (λ e. firing other e.1) es) ≡ false
any_others kind other b [] apart = refl
any_others kind other b (e ∷ es) apart = grind (arith, apart, any_others kind other b es)

-- what is kept of the batches of a line is kept of their ids
abbrev pub Known : Kind → List BatchEntry → List BatchEntry → Type 0
Known kind bs [] = Unit {0}
Known kind bs (e ∷ es) = ((is_there e.1.bid bs ≡ true) × (was_fired kind e.1.bid bs ≡ has_kind kind e.0)) × Known kind bs es

known_older : (kind : Kind) (bs : List BatchEntry) (r : BatchEntry) (es : List BatchEntry) → is_there r.1.bid bs ≡ false → Known kind bs es → Known kind (r ∷ bs) es
known_older kind bs r [] new k = tt
known_older kind bs r (e ∷ es) new k = let old = k.0 in ((grind (arith, old.0), grind (arith, bytes_tell, old.0, old.1, new)), known_older kind bs r es new k.1)

known_either : (kind : Kind) (bs : List BatchEntry) (b : Bool) (es fs : List BatchEntry) → Known kind bs es → Known kind bs fs → Known kind bs (cond b es fs)
known_either kind bs true es fs k l = k
known_either kind bs false es fs k l = l

known_above : (kind : Kind) (bs : List BatchEntry) (o : Option Bytes) → ((x : Bytes) → Known kind bs (ancestors bs x)) → Known kind bs (ancestors_above o (ancestors bs))
known_above kind bs None ih = tt
known_above kind bs (Some p) ih = ih p

pub line_known : (kind : Kind) (bs : List BatchEntry) (x : Bytes) → IsTree bs → Known kind bs (ancestors bs x)
line_known kind [] x t = tt
line_known kind (r ∷ bs) x t =
    known_either kind (r ∷ bs) (has_bid x r) (r ∷ ancestors_above r.1.parent (ancestors bs)) (ancestors bs x)
    ((grind (arith, bytes_tell), grind (arith, bytes_tell)), known_older kind bs r _ t.0 (known_above kind bs r.1.parent (λ y. line_known kind bs y t.2)))
    (known_older kind bs r (ancestors bs x) t.0 (line_known kind bs x t.2))

-- ## Death

dies_agree : (bs es : List BatchEntry) → Known Death bs es → Agrees dies (λ b. not (was_fired Death b bs)) es
dies_agree bs [] k = tt
dies_agree bs (e ∷ es) k = (ap not (sym k.0.1), dies_agree bs es k.1)

pub count_death : (s : Batched) (x b : Bytes) → IsTree s.batches → is_there x s.batches ≡ true → count_named Death b (death_fires s x) ≡ one_if (is_under s.batches x b && not (was_fired Death b s.batches))
count_death s x b t there =
    let bs = s.batches in
    let count = count_fires Death dies (λ b. not (was_fired Death b bs)) b (ancestors bs x) (dies_agree bs (ancestors bs x) (line_known Death bs x t)) in
    let once = line_once bs x b t there in
    grind (arith, count, once)

pub any_death : (s : Batched) (x b : Bytes) → IsTree s.batches → list_any (named Death b) (death_fires s x) ≡ is_under s.batches x b && not (was_fired Death b s.batches)
any_death s x b t =
    let bs = s.batches in
    let some = any_fires Death dies (λ b. not (was_fired Death b bs)) b (ancestors bs x) (dies_agree bs (ancestors bs x) (line_known Death bs x t)) in
    grind (arith, some)

pub no_death : (kind : Kind) (b : Bytes) (s : Batched) (x : Bytes) → same_kind kind Death ≡ false → (count_named kind b (death_fires s x) ≡ 0) × (list_any (named kind b) (death_fires s x) ≡ false)
no_death kind b s x apart = let es = filter dies (ancestors s.batches x) in (count_others kind Death b es apart, any_others kind Death b es apart)
