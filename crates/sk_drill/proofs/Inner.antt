-- Where no batch was made, ordinary changes push nothing of the store's own.
use Rattle.std.proofs.Common.{◌≡◌, ◌∙◌, ◌||◌, List, [], ◌∷◌, Bool, true, false, refl, sym, ap, arith}
use Rattle.std.specs.Prelude.{filter}
use Rattle.sk_batch.specs.Batched.{BatchEntry, has_bid}
use Rattle.sk_batch.specs.Fires.{retagged, with_kind}
use Rattle.sk_places.specs.declared.origin.Origin.TheVariants.{Inner}
use Rattle.sk_model.specs.Causes.{HasCause, HaveCauses}
use Rattle.sk_model.specs.Change.{Add, Fire, Free, Change, Makes, Moves, TakesSlot, changed, perform}
use Rattle.sk_model.specs.Event.{Event}
use Rattle.sk_model.specs.Notify.{push_callback}
use Rattle.sk_model.specs.Once.{callback_of, called_by, is_burial}
use Rattle.sk_model.specs.World.{World}
use Rattle.sk_model.proofs.Changes.Covered.{callbacks, callbacks_in, through_inner}
use Rattle.sk_model.proofs.Changes.Fired.{quiet_batches}
use Rattle.sk_drill.proofs.Ordinary.{all_ordinary, is_ordinary}

-- no batch was ever made
abbrev pub HasNoBatch : World → Type 0
HasNoBatch w = w.batches.batches ≡ []

first_ordinary : (change : Change) (changes : List Change) → all_ordinary (change ∷ changes) ≡ true → (is_ordinary change ≡ true) × (all_ordinary changes ≡ true)
first_ordinary change changes all = (grind (arith, all), grind (arith, all))

none_made : (v : World) (change : Change) → is_ordinary change ≡ true → HasNoBatch v → HasNoBatch (changed v change)
none_made v (Moves (Fire bid kind)) one none = ap (λ (bs : List BatchEntry). retagged (has_bid bid) (with_kind kind) bs) none
none_made v (Moves (Free seat text)) one none = ap (λ s. s.batches) (quiet_batches v (Moves (Free seat text) ∷ []) refl) ∙ none
none_made v (Makes batch jids) one none = absurd (cc one)
none_made v (TakesSlot loop slot text) one none = absurd (cc one)
none_made v other one none = none

-- a firing has no callback
none_due : (v : World) (change : Change) → is_ordinary change ≡ true → HasNoBatch v → called_by v change ≡ []
none_due v (Moves (Fire bid kind)) one none = ap (λ (bs : List BatchEntry). push_callback (callback_of kind (filter (has_bid bid) bs))) none
none_due v (TakesSlot loop slot text) one none = absurd (cc one)
none_due v other one none = refl

no_callback : (w : World) (event : Event) (b : Bool) (due : List Change) (change : Change) → HasCause w event b due change → due ≡ [] → callbacks_in change ≡ 0
no_callback w event b due (Moves (Add row end Inner)) cause none = absurd (let e : [] ≡ Moves (Add row end Inner) ∷ [] = sym none ∙ cause in cc e)
no_callback w event b due other cause none = refl

no_callbacks : (w : World) (event : Event) (b : Bool) (due : List Change) (v : World) (changes : List Change) → HaveCauses w event b due v changes →
    all_ordinary changes ≡ true → due ≡ [] → HasNoBatch v → (callbacks changes ≡ 0) × HasNoBatch (perform v changes)
no_callbacks w event b due v [] causes all none nothing = (refl, nothing)
no_callbacks w event b due v (change ∷ changes) causes all none nothing =
    let each = first_ordinary change changes all in
    let rest = no_callbacks w event (b || is_burial change) (called_by v change) (changed v change) changes causes.1 each.1 (none_due v change each.0 nothing)
    (none_made v change each.0 nothing) in
    (omega (arith, no_callback w event b due change causes.0 none, rest.0), rest.1)

-- Ordinary changes that have their causes push nothing of the store's own, and make no batch.
pub inner_stays : (w : World) (event : Event) (changes : List Change) → HaveCauses w event false [] w changes → all_ordinary changes ≡ true → HasNoBatch w →
    ((perform w changes).tally.inner ≡ w.tally.inner) × HasNoBatch (perform w changes)
inner_stays w event changes causes all nothing =
    let both = no_callbacks w event false [] w changes causes all refl nothing in
    (omega (arith, through_inner w changes, both.0), both.1)
