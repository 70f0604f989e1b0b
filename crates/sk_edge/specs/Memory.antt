-- What contracts see of an ear and a door in memory.
use Rattle.std.specs.Prelude.{ℕ, List, Option}
use Rattle.sk_base.specs.Memory.{Ends}
use Rattle.sk_edge.specs.Collected.{Collected}

pub record EarView : Type 0 where
  -- the connections that it will accept, in order
  pub heard : List Ends
  -- those that were left to it
  pub kept : Option (Collected Ends)
  -- how often it was nudged, as long as a 64-bit counter tells it
  pub nudged : Option ℕ
  -- how often it has failed
  pub faults : ℕ

pub record DoorView : Type 0 where
  -- the connections that the ears to come will accept, each list for one ear
  pub heard : List (List Ends)
  -- the connections that it will make, in order
  pub dialled : List Ends
  -- those that were left to it
  pub kept : Option (Collected Ends)
  -- the ears that it gathered
  pub gathered : Option (Collected EarView)
  -- how often it has failed
  pub faults : ℕ
