-- What a book has logged, and how its calls change it.
use Rattle.std.specs.Prelude.{◌≡◌, ◌⊎◌, ◌≤◌, ◌^◌, ◌||◌, ℕ, List, [], ◌∷◌, ◌++◌, length, map, Option, Some, None, IfSome, IsSome, is_none, Bool, true, false}
use Rattle.std.specs.List.{AllByRecursion}
use Rattle.sk_resp.specs.Spelling.{Bytes}
use Rattle.sk_resp.specs.Reply.{wire}
use Rattle.sk_resp.specs.declared.reply.Reply.{Reply}
use Rattle.sk_model.specs.Reading.{Words}
use Rattle.sk_desk.specs.declared.entry.Deed.{Deed}
use Rattle.sk_desk.specs.declared.entry.Deed.TheVariants as deed
use Rattle.sk_desk.specs.declared.entry.Entry.{Entry}

-- the entries, the one that is prepared and waits for its reply, and whether the text of some reply found no memory
pub record Log : Type 0 where
  pub entries : List Entry
  pub waiting : List Entry
  pub starved : Bool

abbrev pub empty : Log
empty = record { entries = []; waiting = []; starved = false }

-- no entry waits, where the log is told
abbrev pub IsClosed : Option Log → Type 0
IsClosed log = IfSome log (λ l. l.waiting ≡ [])

-- one entry waits
abbrev pub IsOpen : Option Log → Type 0
IsOpen log = IfSome log (λ l. (e : Entry) × (l.waiting ≡ e ∷ []))

-- The log changed so, where it is told. A book with 2^62 entries may tell its log no more.
abbrev pub Writes : Option Log → (Log → Log) → Option Log → Type 0
Writes None change after = after ≡ None
Writes (Some log) change after = (after ≡ Some (change log)) ⊎ ((2 ^ 62 ≤ length log.entries) × (after ≡ None))

-- ## Entries

-- an Ask of these words, with this text of the reply
abbrev pub ask_entry : ℕ → ℕ → Words → Option Bytes → Entry
ask_entry seat now words text = record { seat = seat; deed = deed.Ask (record { now = now; request = words; reply = text }) }

abbrev pub cut_entry : ℕ → Entry
cut_entry seat = record { seat = seat; deed = deed.Cut }

abbrev pub with_text : Option Bytes → Deed → Deed
with_text text (deed.Ask ask) = deed.Ask (record ask { reply = text })
with_text text deed.Cut = deed.Cut

-- the entry with this text of the reply
abbrev pub noted : Option Bytes → Entry → Entry
noted text e = record e { deed = with_text text e.deed }

-- what may be kept of a reply: its text, or none for want of memory
abbrev pub IsText : Reply → Option Bytes → Type 0
IsText answer text = IfSome text (λ t. t ≡ wire answer)

-- an Ask has its reply
abbrev pub HasReply : Deed → Type 0
HasReply (deed.Ask ask) = IsSome ask.reply
HasReply deed.Cut = Unit {0}

abbrev pub AllAnswered : List Entry → Type 0
AllAnswered entries = AllByRecursion (λ e. HasReply e.deed) entries

-- it is an Ask without its reply
abbrev pub lacks_reply : Deed → Bool
lacks_reply (deed.Ask ask) = is_none ask.reply
lacks_reply deed.Cut = false

-- ## The calls of a book

abbrev pub with_waiting : Entry → Log → Log
with_waiting e log = record log { waiting = e ∷ [] }

-- the entry that waited stands behind the others, with this text; without one, memory was wanting
abbrev pub with_note : Option Bytes → Log → Log
with_note text log = record { entries = log.entries ++ map (noted text) log.waiting; waiting = []; starved = is_none text || log.starved }

-- the entry stands behind the others; where its reply is missing, memory was wanting
abbrev pub with_entry : Entry → Log → Log
with_entry e log = record log { entries = log.entries ++ e ∷ []; starved = lacks_reply e.deed || log.starved }

abbrev pub Prepares : ℕ → ℕ → Words → Option Log → Option Log → Type 0
Prepares seat now words before after = Writes before (with_waiting (ask_entry seat now words None)) after

abbrev pub Notes : Reply → Option Log → Option Log → Type 0
Notes answer before after = (text : Option Bytes) × IsText answer text × Writes before (with_note text) after

abbrev pub EntersCut : ℕ → Option Log → Option Log → Type 0
EntersCut seat before after = Writes before (with_entry (cut_entry seat)) after

-- ## A book that keeps its entries in lists

-- lost: an entry found no place
abbrev pub log_in : Bool → Log → Option Log
log_in true log = None
log_in false log = Some log
