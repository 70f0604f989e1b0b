-- What contracts see of a first line that may be held back.
use Rattle.sk_edge.specs.RequestLine.{Bytes}
use Rattle.sk_edge.specs.declared.first_line.Stage.{Stage}

pub record Begun : Type 0 where
  -- what is known of it
  pub stage : Stage
  -- what came, and wasn't handed on yet
  pub held : Bytes
