-- How a stream of bytes is read as commands.
use Rattle.std.specs.Prelude.{◌≡◌, ◌≢◌, List, ◌++◌}
use Rattle.std.specs.List.{flat_map, AllByRecursion}
use Rattle.sk_resp.specs.Spelling.{Bytes}
use Rattle.sk_resp.specs.Request.{Command, IsItem, IsFault}
use Rattle.sk_resp.specs.declared.wire_fault.WireFault.{WireFault}
use Rattle.sk_resp.specs.declared.wire_fault.WireFault.TheVariants.{Memory}

-- the bytes of one item, and its commands
abbrev pub Item : Type 0
Item = Bytes × List Command

abbrev pub texts_of : List Item → Bytes
texts_of items = flat_map (λ item. item.0) items

abbrev pub commands_of : List Item → List Command
commands_of items = flat_map (λ item. item.1) items

-- The bytes begin with items, end to end, that give these commands, and the rest follows.
pub record Opens (bytes : Bytes) (commands : List Command) (rest : Bytes) : Type 0 where
  pub items : List Item
  pub each : AllByRecursion (λ item. IsItem item.0 item.1) items
  pub bytes_are : bytes ≡ texts_of items ++ rest
  pub commands_are : commands ≡ commands_of items

-- Neither an item nor a fault stands in front.
pub record BeginsNone (bytes : Bytes) : Type 0 where
  pub no_item : (text more : Bytes) (commands : List Command) → IsItem text commands → bytes ≡ text ++ more → ⊥
  pub no_fault : (text more : Bytes) (fault : WireFault) → IsFault text fault → bytes ≡ text ++ more → ⊥

-- The bytes are items that give these commands, and a rest in front of which stands neither an item nor a fault.
pub record Reads (bytes : Bytes) (commands : List Command) (rest : Bytes) : Type 0 where
  pub opens : Opens bytes commands rest
  pub none : BeginsNone rest

-- The bytes begin with items that give these commands, and then comes that fault.
pub record Faulty (bytes : Bytes) (commands : List Command) (fault : WireFault) : Type 0 where
  pub text : Bytes
  pub more : Bytes
  pub opens : Opens bytes commands (text ++ more)
  pub is : IsFault text fault

-- The bytes begin with items that give these commands, and the reader stops behind them: at that fault, or for want of memory.
pub record Stops (bytes : Bytes) (commands : List Command) (fault : WireFault) : Type 0 where
  pub rest : Bytes
  pub opens : Opens bytes commands rest
  pub faulty : fault ≢ Memory → Faulty bytes commands fault
