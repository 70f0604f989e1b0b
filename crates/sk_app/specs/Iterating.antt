-- The program `iterate`.
use Rattle.std.specs.Prelude.{◌≡◌, ◌≤◌, ◌++◌, ℕ, List, [], None, Result, Ok, Err, codes, true}
use Rattle.std.specs.Fmt.{decimal}
use Rattle.sk_base.specs.Name.{is_name}
use Rattle.sk_base.specs.declared.limits.TheConstants.{LONGEST_ID}
use Rattle.sk_iter.specs.Transcript.{GoesOn}
use Rattle.sk_iter.specs.declared.call.Bounds.{Bounds}
use Rattle.sk_iter.specs.declared.iter_end.IterEnd.{IterEnd}
use Rattle.sk_iter.specs.declared.iter_end.IterEnd.TheVariants.{Done, Paused, Raised}
use Rattle.sk_iter.specs.declared.iter_end.IterFault.{IterFault}
use Rattle.sk_iter.specs.declared.iter_end.IterFault.TheVariants as fault
use Rattle.sk_iter.specs.declared.iteration.Iteration.{Iteration}
use Rattle.sk_line.specs.declared.iterate_line.IterateLine.{IterateLine}
use Rattle.sk_line.specs.declared.iterate_line.TheConstants.{MOST_EVERY, MOST_ITERATED}
use Rattle.sk_link.specs.Call.{Call}
use Rattle.sk_resp.specs.Spelling.{Bytes}
use Rattle.sk_resp.specs.declared.reply.Reply.{Reply}
use Rattle.sk_resp.specs.declared.reply.Reply.TheVariants as reply
use Rattle.sk_app.specs.Ending.{ended}
use Rattle.sk_app.specs.declared.failure.Failure.{Failure}
use Rattle.sk_app.specs.declared.failure.Failure.TheVariants as failure

-- ## What is told

-- the first item that hasn't returned, of so many
abbrev pub next_of : ℕ → IterEnd → ℕ
next_of count Done = count
next_of count (Paused next) = next
next_of count (Raised index it) = index

-- a line more where all have
abbrev pub done_text : IterEnd → Bytes
done_text Done = ended (codes "done")
done_text (Paused next) = []
done_text (Raised index it) = []

abbrev pub ran_text : ℕ → Iteration → Bytes
ran_text count i = ended (codes "ran " ++ (decimal i.cursor ++ (codes " to " ++ decimal (next_of count i.end)))) ++ done_text i.end

-- a cursor that is no number of an item
abbrev pub by_cursor : Reply → Failure
by_cursor (reply.Bulk bytes) = failure.Cursor bytes
by_cursor r = failure.Refused r

abbrev pub by_iteration : IterFault → Failure
by_iteration (fault.Cursor r) = by_cursor r
by_iteration (fault.Link f) = failure.Link f
by_iteration (fault.Refused r) = failure.Refused r
by_iteration fault.Memory = failure.Memory

abbrev pub told_of : ℕ → Result Iteration IterFault → Result Bytes Failure
told_of count (Ok i) = Ok (ran_text count i)
told_of count (Err f) = Err (by_iteration f)

-- ## What is asked

abbrev pub bounds_of : IterateLine → Bounds
bounds_of line = record { len = line.count; every = line.every; most = line.most }

-- The items were run from the cursor on, as the line says, and the outcome tells how far.
abbrev pub Runs : IterateLine → (List Call → Type 0) → Result Bytes Failure → Type 0
Runs line Carried outcome =
    (found : Result Iteration IterFault) × GoesOn Carried None None line.jid (bounds_of line) found × (outcome ≡ told_of line.count found)

-- It may be run.
pub record MayRun (line : IterateLine) : Type 0 where
  pub jid : is_name LONGEST_ID line.jid ≡ true
  pub some : 1 ≤ line.every
  pub few : line.every ≤ MOST_EVERY
  pub count : line.count ≤ MOST_ITERATED
