-- Each firing is followed by the push of its callback.
use Rattle.std.proofs.Common.{◌≡◌, List, [], ◌∷◌, ◌++◌, refl, sym, ap, subst, ◌∙◌, arith, Bool, true, false, cond, Option, Some, None, map}
use Rattle.std.specs.Prelude.{filter}
use Rattle.sk_resp.specs.Spelling.{Bytes}
use Rattle.sk_payload.specs.Head.{head}
use Rattle.sk_payload.specs.declared.head.Head.{Head}
use Rattle.sk_places.specs.declared.origin.Origin.TheVariants.{Inner}
use Rattle.sk_batch.specs.Batched.{Batched, BatchEntry, has_bid, is_there}
use Rattle.sk_batch.specs.Fires.{callback, firing, retagged, with_kind}
use Rattle.sk_batch.specs.Ancestors.{ancestors, ancestors_above}
use Rattle.sk_batch.specs.declared.firing.Firing.{Firing}
use Rattle.sk_batch.specs.declared.firing.Kind.{Kind}
use Rattle.sk_model.specs.World.{World}
use Rattle.sk_model.specs.Change.{Fire, Change, Moves, after_fire, changed, perform}
use Rattle.sk_model.specs.Notify.{push_callback, fire_all, push_to}
use Rattle.sk_model.specs.Once.{Begins, CallsFollow, called, called_by, callback_of}
use Rattle.sk_model.proofs.Tools.Texts.{bytes_tell}
use Rattle.sk_model.proofs.Changes.Ancestors.{IsTree}
use Rattle.sk_model.proofs.Changes.Fired.{all_quiet, push_callback_batches, first_quiet, is_quiet}

-- ## One list of changes after another

append_once_more : (a b c : List Change) → (a ++ b) ++ c ≡ a ++ (b ++ c)
append_once_more [] b c = refl
append_once_more (change ∷ a) b c = ap (λ l. change ∷ l) (append_once_more a b c)

begins-append : (first changes more : List Change) → Begins first changes → Begins first (changes ++ more)
begins-append first changes more b = (b.0 ++ more, ap (λ l. l ++ more) b.1 ∙ append_once_more first b.0 more)

pub calls-append : (w : World) (one more : List Change) → CallsFollow w one → CallsFollow (perform w one) more → CallsFollow w (one ++ more)
calls-append w [] more first then_ = then_
calls-append w (change ∷ one) more first then_ = (begins-append (called_by w change) one more first.0, calls-append (changed w change) one more first.1 then_)

-- nothing follows what is no firing
none_called : (w : World) (change : Change) → is_quiet change ≡ true → called_by w change ≡ []
none_called w change q = grind arith

pub calls_quiet : (w : World) (changes : List Change) → all_quiet changes ≡ true → CallsFollow w changes
calls_quiet w [] q = tt
calls_quiet w (change ∷ changes) q = let f = first_quiet change changes q in
    (subst (λ first. Begins first changes) (sym (none_called w change f.0)) (changes, refl), calls_quiet (changed w change) changes f.1)

-- nothing follows a callback
push_follows : (w : World) (text : Bytes) (found : Option Head) → CallsFollow w (push_to Inner text found)
push_follows w text None = tt
push_follows w text (Some h) = (([], refl), tt)

pub calls_call : (w : World) (o : Option Bytes) → CallsFollow w (push_callback o)
calls_call w None = tt
calls_call w (Some text) = push_follows w text (head text)

-- ## Firings

-- what is called is the callback of the batch
abbrev pub AllCalled : Batched → List Firing → Type 0
AllCalled s [] = Unit {0}
AllCalled s (f ∷ fs) = (called f.kind f.bid s ≡ f.payload) × AllCalled s fs

called_retagged : (kind k : Kind) (x b : Bytes) (bs : List BatchEntry) → callback_of kind (filter (has_bid b) (retagged (has_bid x) (with_kind k) bs)) ≡ callback_of kind (filter (has_bid b) bs)
called_retagged kind k x b [] = refl
called_retagged kind k x b (e ∷ es) = grind (arith, called_retagged kind k x b es)

pub all_called_after : (s : Batched) (x : Bytes) (k : Kind) (fs : List Firing) → AllCalled s fs → AllCalled (after_fire x k s) fs
all_called_after s x k [] a = tt
all_called_after s x k (f ∷ fs) a = (called_retagged f.kind k x f.bid s.batches ∙ a.0, all_called_after s x k fs a.1)

pub calls_fired : (w : World) (fs : List Firing) → AllCalled w.batches fs → CallsFollow w (fire_all fs)
calls_fired w [] a = tt
calls_fired w (f ∷ fs) a =
    let v : World = changed w (Moves (Fire f.bid f.kind)) in
    let o = push_callback f.payload in
    let rest : AllCalled (perform v o).batches fs = subst (λ (s : Batched). AllCalled s fs) (sym (push_callback_batches v f.payload)) (all_called_after w.batches f.bid f.kind fs a.1) in
    ((fire_all fs, ap (λ p. push_callback p ++ fire_all fs) (sym a.0)), calls-append v o (fire_all fs) (calls_call v f.payload) (calls_fired (perform v o) fs rest))

pub all_called-append : (s : Batched) (fs gs : List Firing) → AllCalled s fs → AllCalled s gs → AllCalled s (fs ++ gs)
all_called-append s [] gs a b = b
all_called-append s (f ∷ fs) gs a b = (a.0, all_called-append s fs gs a.1 b)

-- ## Firings along a line

-- the batches of a list are the ones that their ids name
abbrev pub Own : Kind → List BatchEntry → List BatchEntry → Type 0
Own kind bs [] = Unit {0}
Own kind bs (e ∷ es) = ((is_there e.1.bid bs ≡ true) × (callback_of kind (filter (has_bid e.1.bid) bs) ≡ callback kind e.1.callbacks)) × Own kind bs es

own_older : (kind : Kind) (bs : List BatchEntry) (r : BatchEntry) (es : List BatchEntry) → is_there r.1.bid bs ≡ false → Own kind bs es → Own kind (r ∷ bs) es
own_older kind bs r [] new o = tt
own_older kind bs r (e ∷ es) new o = let old = o.0 in ((grind (arith, old.0), grind (arith, bytes_tell, old.0, old.1, new)), own_older kind bs r es new o.1)

own_either : (kind : Kind) (bs : List BatchEntry) (b : Bool) (es fs : List BatchEntry) → Own kind bs es → Own kind bs fs → Own kind bs (cond b es fs)
own_either kind bs true es fs o p = o
own_either kind bs false es fs o p = p

own_above : (kind : Kind) (bs : List BatchEntry) (o : Option Bytes) → ((x : Bytes) → Own kind bs (ancestors bs x)) → Own kind bs (ancestors_above o (ancestors bs))
own_above kind bs None ih = tt
own_above kind bs (Some p) ih = ih p

pub line_own : (kind : Kind) (bs : List BatchEntry) (x : Bytes) → IsTree bs → Own kind bs (ancestors bs x)
line_own kind [] x t = tt
line_own kind (r ∷ bs) x t =
    own_either kind (r ∷ bs) (has_bid x r) (r ∷ ancestors_above r.1.parent (ancestors bs)) (ancestors bs x)
    ((grind (arith, bytes_tell), grind (arith, bytes_tell)), own_older kind bs r _ t.0 (own_above kind bs r.1.parent (λ y. line_own kind bs y t.2)))
    (own_older kind bs r (ancestors bs x) t.0 (line_own kind bs x t.2))

called_filtered : (kind : Kind) (s : Batched) (b : Bool) (e : BatchEntry) (es : List BatchEntry) → called kind e.1.bid s ≡ callback kind e.1.callbacks → AllCalled s (map (λ e. firing kind e.1) es) → AllCalled s (map (λ e. firing kind e.1) (cond b (e ∷ es) es))
called_filtered kind s true e es one more = (one, more)
called_filtered kind s false e es one more = more

pub own_called : (kind : Kind) (s : Batched) (p : BatchEntry → Bool) (es : List BatchEntry) → Own kind s.batches es → AllCalled s (map (λ e. firing kind e.1) (filter p es))
own_called kind s p [] o = tt
own_called kind s p (e ∷ es) o = called_filtered kind s (p e) e (filter p es) o.0.1 (own_called kind s p es o.1)
