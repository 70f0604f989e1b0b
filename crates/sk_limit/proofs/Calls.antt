-- What ends a call behind calls that were answered.
use Rattle.std.proofs.Common.{List, [], ◌∷◌, ◌++◌, subst, append-nil}
use Rattle.sk_resp.specs.Spelling.{Bytes}
use Rattle.sk_link.specs.Call.{Call, answered, lost}
use Rattle.sk_link.specs.declared.asking.Answer.{Answer}
use Rattle.sk_limit.specs.Asking.{Stops}
use Rattle.sk_limit.specs.declared.limit_fault.LimitFault.{LimitFault}
use Rattle.sk_limit.specs.declared.limit_fault.LimitFault.TheVariants as fault

-- what a link carried from one state to the next and from there on, as one
abbrev pub Joins : (List Call → Type 0) → (List Call → Type 0) → (List Call → Type 0) → Type 0
Joins P P' P'' = (cs ds : List Call) → P cs → P' ds → P'' (cs ++ ds)

pub stops_behind : (P P' P'' : List Call → Type 0) (calls : List Call) (next : List Bytes) (wanted : Answer) (f : LimitFault) → Joins P P' P'' → P calls
    → Stops P' [] next wanted f → Stops P'' calls next wanted f
stops_behind P P' P'' calls next wanted fault.Name more p s = absurd s
stops_behind P P' P'' calls next wanted (fault.Link f) more p s = more calls (lost next f ∷ []) p s
stops_behind P P' P'' calls next wanted (fault.Refused r) more p s = (more calls (answered next r ∷ []) p s.0, s.1)
stops_behind P P' P'' calls next wanted fault.Memory more p s = subst P'' (append-nil calls) (more calls [] p s)
