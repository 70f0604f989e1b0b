-- What a reader of requests has heard.
use Rattle.std.specs.Prelude.{Option}
use Rattle.sk_resp.specs.Spelling.{Bytes}
use Rattle.sk_resp.specs.declared.wire_fault.WireFault.{WireFault}

pub record Heard : Type 0 where
  -- the bytes behind the last whole item
  pub rest : Bytes
  -- the fault at which it stopped; it reads nothing from then on
  pub fault : Option WireFault
