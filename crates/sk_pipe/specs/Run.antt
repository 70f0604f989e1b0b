-- What the top call does.
use Rattle.std.specs.Prelude.{◌≡◌, ◌⊎◌, ◌<◌, ◌≤◌, ℕ, List, [], ◌∷◌, Option, Some, length, codes}
use Rattle.sk_base.specs.Outside.{Rose}
use Rattle.sk_base.specs.declared.limits.TheConstants.{LONGEST_TALK, SHIPPED_BATCHES, SHIPPED_BYTES, SHIPPED_ROWS}
use Rattle.sk_resp.specs.Spelling.{Bytes}
use Rattle.sk_resp.specs.Request.{Command}
use Rattle.sk_resp.specs.Stream.{Reads}
use Rattle.sk_pipe.specs.declared.pipe_end.PipeEnd.{PipeEnd}
use Rattle.sk_pipe.specs.declared.pipe_end.PipeEnd.TheVariants.{Done, Wire, Cut, ReadFault, WriteFault, Memory, Budget}
use Rattle.sk_model.specs.declared.limits.Limits.{Limits}
use Rattle.sk_model.specs.Run.{State, first}
use Rattle.sk_talk.specs.Talk.{Moves}
use Rattle.sk_pipe.specs.Pipe.{Ends}

-- the status that tells how a pipe ended
abbrev pub status_of : PipeEnd → ℕ
status_of Done = 0
status_of Wire = 1
status_of Cut = 1
status_of ReadFault = 3
status_of WriteFault = 4
status_of Memory = 5
status_of Budget = 9

-- the one word `pipe`
abbrev pub IsPipeLine : List Bytes → Type 0
IsPipeLine words = words ≡ codes "pipe" ∷ []

-- how much the store of the program takes: 4,000,000 rows, 2^31 bytes of their texts, and 1,000,000 batches
abbrev pub shipped : Limits
shipped = record { rows = SHIPPED_ROWS; bytes = SHIPPED_BYTES; batches = SHIPPED_BATCHES }

-- A pipe from the source to the sink, over a store with these limits, ended so. The functions are what source and sink tell, and their counts of faults.
pub record IsPiped {S K : Type 0} (limits : Limits) (left : S → Option Bytes) (reads : S → ℕ) (taken : K → Option Bytes) (writes : K → ℕ) (source source' : S) (sink sink' : K) (end : PipeEnd) : Type 0 where
  -- the source gave some bytes, and the sink took what these call for
  pub ends : (bytes written : Bytes) × ((new : State) × Moves (left source) (left source') (taken sink) (taken sink') bytes written × Ends (first limits) end bytes (left source') new written)
  -- a fault of the outside is the end only where its count rose
  pub read_fault : end ≡ ReadFault → Rose (reads source) (reads source')
  pub write_fault : end ≡ WriteFault → Rose (writes sink) (writes sink')
  -- the counts don't fall
  pub source_count : reads source ≤ reads source'
  pub sink_count : writes sink ≤ writes sink'

-- A pipe whose source tells these bytes, fewer than 2^40, commands end to end, and that sees no fault of the outside, has done all of them, or those up to an
-- accepted QUIT or SHUTDOWN. It may have no memory.
abbrev pub Completes : Option Bytes → (risen : Type 0) → ℕ → Type 0
Completes left risen status = (bytes : Bytes) (commands : List Command) → left ≡ Some bytes → length bytes < LONGEST_TALK → Reads bytes commands [] → (risen → ⊥)
    → (status ≡ 0) ⊎ (status ≡ 5)
