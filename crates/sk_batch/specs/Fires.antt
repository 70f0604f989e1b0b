-- What is fired, in which order.
use Rattle.std.specs.Prelude.{Bool, true, cond, not, ◌&&◌, List, [], ◌∷◌, filter, map, Option}
use Rattle.sk_resp.specs.Spelling.{Bytes}
use Rattle.sk_batch.specs.Batched.{Batched, BatchEntry, has_bid}
use Rattle.sk_batch.specs.Ancestors.{ancestors}
use Rattle.sk_batch.specs.Open.{is_reported, is_settled}
use Rattle.sk_batch.specs.declared.batch.Batch.{Batch}
use Rattle.sk_batch.specs.declared.batch.Fired.{Fired}
use Rattle.sk_batch.specs.declared.callbacks.Callbacks.{Callbacks}
use Rattle.sk_batch.specs.declared.firing.Firing.{Firing}
use Rattle.sk_batch.specs.declared.firing.Kind.{Kind}
use Rattle.sk_batch.specs.declared.firing.Kind.TheVariants.{Complete, Success, Death}

abbrev pub callback : Kind → Callbacks → Option Bytes
callback Complete callbacks = callbacks.complete
callback Success callbacks = callbacks.success
callback Death callbacks = callbacks.death

-- a batch without a callback is named all the same
abbrev pub firing : Kind → Batch → Firing
firing kind batch = record { bid = batch.bid; kind = kind; payload = callback kind batch.callbacks }

-- ## What is due

-- the batch is complete now, and never was before
abbrev pub completes : Batched → BatchEntry → Bool
completes s b = not b.0.complete && is_reported s b.1.bid

-- the batch is settled now, and wasn't before
abbrev pub succeeds : Batched → Batched → BatchEntry → Bool
succeeds before after b = is_settled after b.1.bid && not (is_settled before b.1.bid)

-- Each kind is fired of the batch and of those that it is in, the inner first.
abbrev pub complete_fires : Batched → Bytes → List Firing
complete_fires s bid = map (λ b. firing Complete b.1) (filter (completes s) (ancestors s.batches bid))

abbrev pub success_fires : Batched → Batched → Bytes → List Firing
success_fires before after bid = map (λ b. firing Success b.1) (filter (succeeds before after) (ancestors after.batches bid))

-- no member under the batch was buried before
abbrev pub dies : BatchEntry → Bool
dies b = not b.0.death

abbrev pub death_fires : Batched → Bytes → List Firing
death_fires s bid = map (λ b. firing Death b.1) (filter dies (ancestors s.batches bid))

-- ## What was fired is marked

abbrev pub with_kind : Kind → Fired → Fired
with_kind Complete fired = record fired { complete = true }
with_kind Success fired = record fired { success = true }
with_kind Death fired = record fired { death = true }

-- a list with another tag on the first entry that passes
abbrev pub retagged : {K T : Type 0} → (K × T → Bool) → (K → K) → List (K × T) → List (K × T)
retagged test f [] = []
retagged test f (e ∷ es) = cond (test e) ((f e.0, e.1) ∷ es) (e ∷ retagged test f es)

abbrev pub after_fires : List Firing → List BatchEntry → List BatchEntry
after_fires [] batches = batches
after_fires (f ∷ fs) batches = after_fires fs (retagged (has_bid f.bid) (with_kind f.kind) batches)
