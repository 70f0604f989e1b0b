-- What the seats are doing.
use Rattle.std.specs.Prelude.{ℕ, List, [], ◌∷◌, ◌++◌, Option, Some, None, Bool, true, false, not, filter, cond, remove}
use Rattle.std.specs.Ordering.{nat_cmp}
use Rattle.std.specs.Map.{lookup}
use Rattle.std.specs.BTreeMap.{is_at, insert_entry}
use Rattle.std.specs.List.{list_any}
use Rattle.sk_resp.specs.Spelling.{Bytes}
use Rattle.sk_payload.specs.Head.{names}
use Rattle.sk_seats.specs.declared.phase.Phase.{Phase}
use Rattle.sk_seats.specs.declared.phase.Phase.TheVariants.{Plain, Joined}
use Rattle.sk_seats.specs.declared.work.Stage.{Stage}
use Rattle.sk_seats.specs.declared.work.Work.{Work}
use Rattle.sk_seats.specs.Works.{held, staged, staged_at, without}

-- seats that aren't Plain, by their numbers
abbrev pub Phases : Type 0
Phases = List (ℕ × Phase)

-- A seat that isn't listed is Plain.
abbrev pub or_plain : Option Phase → Phase
or_plain None = Plain
or_plain (Some phase) = phase

abbrev pub phase_in : Phases → ℕ → Phase
phase_in phases seat = or_plain (lookup (is_at (nat_cmp seat)) phases)

abbrev pub is_plain : Phase → Bool
is_plain Plain = true
is_plain (Joined ident works) = false

-- the jobs in the seat's hands
abbrev pub works_of : Phase → List Work
works_of Plain = []
works_of (Joined ident works) = works

-- the seats, once one of them turns to a phase
abbrev pub turned : ℕ → Phase → Phases → Phases
turned seat phase phases = cond (is_plain phase) (filter (λ p. not (is_at (nat_cmp seat) p.0)) phases) (insert_entry nat_cmp phases seat phase)

-- ## A worker's seat

-- it has other jobs in its hands
abbrev pub with_works : List Work → Phase → Phase
with_works works Plain = Plain
with_works works (Joined ident before) = Joined ident works

-- it has fetched a job
abbrev pub holding : Bytes → Phase → Phase
holding payload phase = with_works (works_of phase ++ held payload ∷ []) phase

-- the work at an index is at this stage from now on
abbrev pub staging_at : ℕ → Stage → Phase → Phase
staging_at at stage phase = with_works (staged_at at stage (works_of phase)) phase

-- it lets go of the work at an index
abbrev pub releasing_at : ℕ → Phase → Phase
releasing_at at phase = with_works (remove (works_of phase) at) phase

-- the first work that passes is at this stage from now on
abbrev pub staging : (Work → Bool) → Stage → Phase → Phase
staging test stage phase = with_works (staged test stage (works_of phase)) phase

-- it lets go of the first work that passes
abbrev pub releasing : (Work → Bool) → Phase → Phase
releasing test phase = with_works (without test (works_of phase)) phase

-- ## Jobs in hands

-- whether a seat has a payload of the job
abbrev pub has : Bytes → Phase → Bool
has jid phase = list_any (λ work. names work.payload jid) (works_of phase)

abbrev pub some_has : Bytes → Phases → Bool
some_has jid phases = list_any (λ p. has jid p.1) phases
