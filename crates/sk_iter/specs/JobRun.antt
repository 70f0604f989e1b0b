-- What a run of an iterable job comes to.
use Rattle.std.specs.Prelude.{◌≡◌, ◌∷◌, ◌&&◌, ◌-◌, ◌^◌, [], ℕ, Bool, codes, nat_le, nat_lt, List, Option, Result, Ok, Err, IfOk, alloc_error}
use Rattle.std.specs.Bool.{MatchBool}
use Rattle.std.specs.declared.alloc.AllocError.{AllocError}
use Rattle.sk_base.specs.Outside.{Takes}
use Rattle.sk_link.specs.Call.{Call}
use Rattle.sk_payload.specs.declared.head.Head.{Head}
use Rattle.sk_resp.specs.Spelling.{Bytes}
use Rattle.sk_worker.specs.Run.{Run}
use Rattle.sk_worker.specs.declared.job.Outcome.{Outcome}
use Rattle.sk_worker.specs.declared.job.Outcome.TheVariants as outcome
use Rattle.sk_iter.specs.Event.{ItemRun}
use Rattle.sk_iter.specs.Transcript.{Iterates, reach}
use Rattle.sk_iter.specs.declared.call.TheConstants.{MOST_EVERY, MOST_ITEMS}
use Rattle.sk_iter.specs.declared.iter_end.IterEnd.{IterEnd}
use Rattle.sk_iter.specs.declared.iter_end.IterEnd.TheVariants.{Done, Paused, Raised}
use Rattle.sk_iter.specs.declared.iter_end.IterFault.{IterFault}
use Rattle.sk_iter.specs.declared.iter_end.IterFault.TheVariants as fault

-- an error of this class, without a message
abbrev pub raises : Bytes → Outcome
raises class = outcome.Raised (record { class = class; message = [] })

-- It raised an error of this class, or there was no memory to say so.
abbrev pub Raises : Bytes → Result Outcome AllocError → Type 0
Raises class result = IfOk result (λ o. o ≡ raises class)

-- A job tells one run more than before, where it tells them.
abbrev pub TellsRun : Option (List Run) → Head → Outcome → Option (List Run) → Type 0
TellsRun before h outcome after = Takes before (record { head = h; outcome = outcome } ∷ []) after

-- what the run comes to, by the result of `iterate`
abbrev pub ComesTo : Result IterEnd IterFault → Result Outcome AllocError → Type 0
ComesTo (Ok Done) result = result ≡ Ok outcome.Returned
ComesTo (Ok (Paused next)) result = ⊥
ComesTo (Ok (Raised index it)) result = result ≡ Ok (outcome.Raised it)
ComesTo (Err (fault.Cursor r)) result = Raises (codes "CursorFault") result
ComesTo (Err (fault.Link f)) result = Raises (codes "LinkFault") result
ComesTo (Err (fault.Refused r)) result = Raises (codes "RefusedFault") result
ComesTo (Err fault.Memory) result = result ≡ Err alloc_error

-- `iterate` may be called so
abbrev pub is_in_range : ℕ → ℕ → Bool
is_in_range every len = nat_le 1 every && nat_le every MOST_EVERY && nat_lt len MOST_ITEMS

-- the most items that a counter of 64 bits tells
abbrev pub no_bound : ℕ
no_bound = 2 ^ 64 - 1

-- The items were run by a call of `iterate` without a bound, and the run came to what follows from its result.
abbrev pub RunsItems : (List Call → Type 0) → Option (List ItemRun) → Option (List ItemRun) → Bytes → ℕ → ℕ → Result Outcome AllocError → Type 0
RunsItems Carried before after jid len every result =
    (found : Result IterEnd IterFault)
    × Iterates Carried before after jid (reach len every no_bound) found
    × ComesTo found result

-- In its range a job runs its items. Outside it raises that, and its link and its items are as they were.
abbrev pub RunsJob : {L I : Type 0} → (L → L → List Call → Type 0) → (I → Option (List ItemRun)) → (I → ℕ) → L → L → I → I → ℕ → Bytes
    → Result Outcome AllocError → Type 0
RunsJob Carried told count link link' items items' every jid result = MatchBool (is_in_range every (count items))
    (RunsItems (Carried link link') (told items) (told items') jid (count items) every result)
    (Raises (codes "RangeFault") result × (link' ≡ link) × (items' ≡ items))
