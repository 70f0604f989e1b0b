-- A batch that is made, with what was fired of it.
use Rattle.std.proofs.Common.{◌≡◌, [], ◌∷◌, List, Bool, false, nat_eq, length, refl, arith}
use Rattle.std.proofs.lemmas.Slice.Eq.{bytes_eq-Decides}
use Rattle.sk_resp.specs.Spelling.{Bytes}
use Rattle.sk_batch.specs.Batched.{BatchEntry}
use Rattle.sk_batch.specs.Events.{made_fires, unfired}
use Rattle.sk_batch.specs.Fires.{after_fires}
use Rattle.sk_batch.specs.declared.batch.Batch.{Batch}

pub made_at_front : (batch : Batch) (jids : List Bytes) (batches : List BatchEntry) (empty : Bool) → empty ≡ nat_eq (length jids) 0 → after_fires (made_fires batch jids) ((unfired, batch) ∷ batches) ≡ (record { complete = empty; success = empty; death = false }, batch) ∷ batches
made_at_front batch [] batches empty e = let s = (bytes_eq-Decides batch.bid batch.bid).1 refl in grind (arith, s, e)
made_at_front batch (jid ∷ jids) batches empty e = let n : nat_eq (length (jid ∷ jids)) 0 ≡ false = grind arith in grind (arith, e, n)
