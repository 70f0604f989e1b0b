-- The first rule that is broken, where the rules are looked at one group after another.
use Rattle.std.proofs.Common.{◌≡◌, ◌∙◌, Bool, not, List, Option, Some, None, ap, arith}
use Rattle.sk_resp.specs.Spelling.{Bytes}
use Rattle.sk_batch.specs.Batched.{Batched, is_there}
use Rattle.sk_batch.specs.Faults.{batch_fault, bid_fault, breaks, jids_fault}
use Rattle.sk_batch.specs.Open.{is_settled}
use Rattle.sk_batch.specs.declared.batch_fault.BatchFault.TheVariants.{NoBatch, RepeatedBid, Settled}
use Rattle.sk_batch.specs.declared.batch_fault.BatchFault.{BatchFault}

module _ (bid : Bytes) (s : Batched) (later : Option BatchFault) where
  pub bid_kept : (parent : Option Bytes) → bid_fault bid parent s None ≡ None → bid_fault bid parent s later ≡ later
  bid_kept None h = grind (arith, h)
  bid_kept (Some p) h = grind (arith, h)

  pub bid_broken : (parent : Option Bytes) (f : BatchFault) → bid_fault bid parent s None ≡ Some f → bid_fault bid parent s later ≡ Some f
  bid_broken None f h = grind (arith, h)
  bid_broken (Some p) f h = grind (arith, h)

  pub batch_kept : batch_fault bid s None ≡ None → batch_fault bid s later ≡ later
  batch_kept h = grind (arith, h)

  pub batch_broken : (f : BatchFault) → batch_fault bid s None ≡ Some f → batch_fault bid s later ≡ Some f
  batch_broken f h = grind (arith, h)

  pub jids_kept : (jids : List Bytes) → jids_fault bid jids s None ≡ None → jids_fault bid jids s later ≡ later
  jids_kept jids h = grind (arith, h)

  pub jids_broken : (jids : List Bytes) (f : BatchFault) → jids_fault bid jids s None ≡ Some f → jids_fault bid jids s later ≡ Some f
  jids_broken jids f h = grind (arith, h)

-- the rules one by one, with what was found
module _ (bid : Bytes) (s : Batched) (settled : Bool) where
  pub batch_rules : (there : Bool) → is_there bid s.batches ≡ there → is_settled s bid ≡ settled → batch_fault bid s None ≡ breaks (not there) NoBatch (breaks settled Settled None)
  batch_rules there t e = ap (λ x. breaks (not x) NoBatch (breaks (is_settled s bid) Settled None)) t ∙ ap (λ x. breaks (not there) NoBatch (breaks x Settled None)) e

  pub parent_rules : (parent : Bytes) (there new : Bool) → is_there parent s.batches ≡ there → is_there bid s.batches ≡ new → is_settled s parent ≡ settled → bid_fault bid (Some parent) s None ≡ breaks (not there) NoBatch (breaks new RepeatedBid (breaks settled Settled None))
  parent_rules parent there new t n e =
      ap (λ x. breaks (not x) NoBatch (breaks (is_there bid s.batches) RepeatedBid (breaks (is_settled s parent) Settled None))) t
      ∙ ap (λ x. breaks (not there) NoBatch (breaks x RepeatedBid (breaks (is_settled s parent) Settled None))) n
      ∙ ap (λ x. breaks (not there) NoBatch (breaks new RepeatedBid (breaks x Settled None))) e
