-- Worked batches, by computation.
use Rattle.std.proofs.Common.{◌≡◌, ℕ, [], ◌∷◌, Option, Some, None, true, false, refl}
use Rattle.sk_resp.specs.Spelling.{Bytes}
use Rattle.sk_batch.specs.Batched.{Batched}
use Rattle.sk_batch.specs.Events.{died, died_fires, joined, made, made_fires, reported, reported_fires, returned, returned_fires}
use Rattle.sk_batch.specs.Faults.{add_fault, make_fault}
use Rattle.sk_batch.specs.Open.{is_reported, is_settled}
use Rattle.sk_batch.specs.Stat.{stat}
use Rattle.sk_batch.specs.declared.batch.Batch.{Batch}
use Rattle.sk_batch.specs.declared.batch_fault.BatchFault.TheVariants.{NoBatch, RepeatedBid, Settled, RepeatedJid, Full}
use Rattle.sk_batch.specs.declared.firing.Firing.{Firing}
use Rattle.sk_batch.specs.declared.firing.Kind.{Kind}
use Rattle.sk_batch.specs.declared.firing.Kind.TheVariants.{Complete, Success, Death}

none : Batched
none = record { most = 9; batches = []; members = [] }

-- a batch whose callback on success is a job of this text
batch : Bytes → Option Bytes → Bytes → Batch
batch bid parent text = record { bid = bid; parent = parent; callbacks = record { complete = None; success = Some text; death = None } }

fires : Bytes → Kind → Option Bytes → Firing
fires bid kind text = record { bid = bid; kind = kind; payload = text }

p : Bytes
p = 112 ∷ []

c : Bytes
c = 99 ∷ []

g : Bytes
g = 103 ∷ []

j : ℕ → Bytes
j n = n ∷ []

-- ## Three nested batches, each with a job, and the jobs return from the outer one inwards

nested : Batched
nested = made (batch g (Some c) (j 9)) (j 3 ∷ []) (made (batch c (Some p) (j 8)) (j 2 ∷ []) (made (batch p None (j 7)) (j 1 ∷ []) none))

after_p : Batched
after_p = returned p (j 1) nested

after_c : Batched
after_c = returned c (j 2) after_p

after_g : Batched
after_g = returned g (j 3) after_c

p_returns : returned_fires p (j 1) nested ≡ []
unfolding none batch p c g j nested
p_returns = refl

c_returns : returned_fires c (j 2) after_p ≡ []
unfolding none batch p c g j nested after_p
c_returns = refl

g_returns : returned_fires g (j 3) after_c ≡ fires g Complete None ∷ fires c Complete None ∷ fires p Complete None ∷ fires g Success (Some (j 9)) ∷ fires c Success (Some (j 8)) ∷ fires p Success (Some (j 7)) ∷ []
unfolding none batch fires p c g j nested after_p after_c
g_returns = refl

-- what comes again fires nothing, and changes nothing
again : (returned_fires g (j 3) after_g ≡ []) × (returned g (j 3) after_g ≡ after_g)
unfolding none batch p c g j nested after_p after_c after_g
again = (refl, refl)

numbers : stat p nested ≡ Some (record { members = 1; pending = 1; unreported = 1; died = false; pending_under = 3 })
unfolding none batch p c g j nested
numbers = refl

no_numbers : stat (j 0) nested ≡ None
unfolding none batch p c g j nested
no_numbers = refl

-- a job of the same id in another batch is no member
elsewhere : (returned_fires c (j 1) nested ≡ []) × (returned c (j 1) nested ≡ nested)
unfolding none batch p c g j nested
elsewhere = (refl, refl)

-- ## A batch without jobs

empty : Batched
empty = made (batch p None (j 9)) [] none

empty_fires : made_fires (batch p None (j 9)) [] ≡ fires p Complete None ∷ fires p Success (Some (j 9)) ∷ []
unfolding batch fires p j
empty_fires = refl

empty_is_settled : (is_settled empty p ≡ true) × (is_reported empty p ≡ true)
unfolding none batch p j empty
empty_is_settled = (refl, refl)

-- ## What is refused

refused : (add_fault p (j 2 ∷ []) empty ≡ Some Settled) × (add_fault c (j 2 ∷ []) empty ≡ Some NoBatch) × (make_fault p None [] empty ≡ Some RepeatedBid) × (make_fault c (Some p) [] empty ≡ Some Settled) × (make_fault c (Some g) [] empty ≡ Some NoBatch) × (make_fault c None (j 1 ∷ j 1 ∷ []) empty ≡ Some RepeatedJid) × (add_fault p (j 4 ∷ j 1 ∷ []) nested ≡ Some RepeatedJid) × (make_fault c None [] (record empty { most = 1 }) ≡ Some Full)
unfolding none batch p c g j nested empty
refused = (refl, refl, refl, refl, refl, refl, refl, refl)

-- ## A job fails and is buried

failed : Batched
failed = reported p (j 1) (made (batch p None (j 7)) (j 1 ∷ []) none)

buried : Batched
buried = died p (j 1) failed

fails : reported_fires p (j 1) (made (batch p None (j 7)) (j 1 ∷ []) none) ≡ fires p Complete None ∷ []
unfolding none batch fires p j
fails = refl

-- it was reported before, and dies all the same, once
dies : (died_fires p (j 1) failed ≡ fires p Death None ∷ []) × (died_fires p (j 1) buried ≡ [])
unfolding none batch fires p j failed buried
dies = (refl, refl)

buried_numbers : stat p buried ≡ Some (record { members = 1; pending = 1; unreported = 0; died = true; pending_under = 1 })
unfolding none batch p j failed buried
buried_numbers = refl

-- A burying within it kills the outer batch too, behind the inner one. A second burying fires nothing of the batches that died, and one in an outer batch
-- nothing of those within it, nor of one beside.
inner_dies : (died_fires c (j 2) after_p ≡ fires c Death None ∷ fires p Death None ∷ []) × (died_fires g (j 3) (died c (j 2) after_p) ≡ fires g Complete None ∷ fires c Complete None ∷ fires p Complete None ∷ fires g Death None ∷ [])
unfolding none batch fires p c g j nested after_p
inner_dies = (refl, refl)

outer_dies : (died_fires p (j 1) nested ≡ fires p Death None ∷ []) × (died_fires c (j 2) (died p (j 1) nested) ≡ fires c Death None ∷ [])
unfolding none batch fires p c g j nested
outer_dies = (refl, refl)

beside : died_fires c (j 2) (made (batch g (Some p) (j 9)) (j 3 ∷ []) (made (batch c (Some p) (j 8)) (j 2 ∷ []) (made (batch p None (j 7)) (j 1 ∷ []) none))) ≡ fires c Complete None ∷ fires c Death None ∷ fires p Death None ∷ []
unfolding none batch fires p c g j
beside = refl

-- a batch that was complete and gets more jobs isn't complete again
more : Batched
more = joined p (j 2 ∷ []) failed

not_again : (is_reported more p ≡ false) × (reported_fires p (j 2) more ≡ []) × (is_reported (reported p (j 2) more) p ≡ true)
unfolding none batch p j failed more
not_again = (refl, refl, refl)
