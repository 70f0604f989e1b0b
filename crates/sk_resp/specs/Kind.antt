-- The line that tells what a key holds.
use Rattle.std.specs.Prelude.{codes}
use Rattle.sk_resp.specs.Spelling.{Bytes}
use Rattle.sk_resp.specs.declared.kind.Kind.{Kind}
use Rattle.sk_resp.specs.declared.kind.Kind.TheVariants as kind

abbrev pub kind_text : Kind → Bytes
kind_text kind.Absent = codes "+none"
kind_text kind.String = codes "+string"
kind_text kind.List = codes "+list"
kind_text kind.Set = codes "+set"
kind_text kind.Hash = codes "+hash"
kind_text kind.Sorted = codes "+zset"
