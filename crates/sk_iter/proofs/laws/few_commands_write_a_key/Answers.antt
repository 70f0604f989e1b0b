use Rattle.std.proofs.Common.{◌≡◌, refl, Option, Some, None}
use Rattle.std.specs.Prelude.{IfSome}
use Rattle.sk_value.specs.Keys.{at}
use Rattle.sk_value.specs.declared.entry.Entry.{Entry}
use Rattle.sk_iter.proofs.Others.{others_leave}
use Rattle.sk_iter.proofs.Store.{Endless}
use Rattle.sk_iter.proofs.laws.few_commands_write_a_key.Goals as goal

endless : (x : Option Entry) → IfSome x (λ entry. entry.deadline ≡ None) → Endless x
endless None h = tt
endless (Some entry) h = h

pub returns : goal.returns
returns c = λ key w step happens other none. others_leave key w step.event step.outcome other happens (at key w.keys) refl (endless (at key w.keys) none)
