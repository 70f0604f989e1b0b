-- What a book writes of the commands and cuts that it hears of: a body for each that may have changed the store.
use Rattle.std.specs.Prelude.{◌≡◌, ◌⊎◌, ◌||◌, ◌&&◌, ℕ, pos, List, [], ◌∷◌, ◌++◌, Option, Some, None, IfSome, Bool, true, false, cond, bytes_eq, codes}
use Rattle.std.specs.Ordering.{int_eq}
use Rattle.sk_resp.specs.Errors.{is_error}
use Rattle.sk_resp.specs.Spelling.{Bytes, line}
use Rattle.sk_resp.specs.declared.reply.Reply.{Reply}
use Rattle.sk_resp.specs.declared.reply.Reply.TheVariants as reply
use Rattle.sk_cmd.specs.ReadOnly.{is_quiet}
use Rattle.sk_cmd.specs.declared.command.Command.{Command}
use Rattle.sk_cmd.specs.declared.command.Command.TheVariants as command
use Rattle.sk_cmd.specs.declared.command.PlainCommand.{PlainCommand}
use Rattle.sk_cmd.specs.declared.command.PlainCommand.TheVariants as plain
use Rattle.sk_cmd.specs.declared.command.ScriptCommand.{ScriptCommand}
use Rattle.sk_cmd.specs.declared.command.ScriptCommand.TheVariants as script
use Rattle.sk_model.specs.Event.{Event, Ask, Cut, Reaches, Step}
use Rattle.sk_model.specs.Reading.{Words}
use Rattle.sk_model.specs.Replay.{Entry, Written}
use Rattle.sk_model.specs.World.{World}
use Rattle.sk_desk.specs.declared.stamp.Effect.{Effect}
use Rattle.sk_desk.specs.declared.stamp.Effect.TheVariants as effect
use Rattle.sk_desk.specs.declared.stamp.Stamp.{Stamp}

-- the bodies that a book has written, and the one that waits for its reply
pub record Writing : Type 0 where
  pub bodies : List Bytes
  pub draft : List Bytes

abbrev pub nothing_written : Writing
nothing_written = record { bodies = []; draft = [] }

-- None waits, where the book tells what it writes.
abbrev pub IsIdle : Option Writing → Type 0
IsIdle writing = IfSome writing (λ w. w.draft ≡ [])

-- ## What a command may do

-- LMOVE moves nothing where it is answered null.
abbrev pub effect_of_plain : PlainCommand → Effect
effect_of_plain (plain.Lmove source destination from to) = effect.UnlessNull
effect_of_plain other = effect.Always

-- SK.DUE and SK.RESCUE do nothing where they report no row.
abbrev pub effect_of_script : ScriptCommand → Effect
effect_of_script (script.Due set limit) = effect.UnlessZero
effect_of_script script.Rescue = effect.UnlessZero
effect_of_script other = effect.Always

abbrev pub moves_or_changes : Command → Effect
moves_or_changes (command.Plain c) = effect_of_plain c
moves_or_changes (command.Script c) = effect_of_script c

abbrev pub effect_of : Command → Effect
effect_of c = cond (is_quiet c) effect.Never (moves_or_changes c)

abbrev pub is_null : Reply → Bool
is_null reply.Null = true
is_null other = false

abbrev pub is_zero : Reply → Bool
is_zero (reply.Int n) = int_eq n (pos 0)
is_zero other = false

-- the text of the integer 0
abbrev pub spells_zero : Bytes → Bool
spells_zero text = bytes_eq text (line (codes ":0"))

-- The first two elements of a report, how many rows were moved and how many were buried, are 0. Elements are seen as their texts.
abbrev pub counts_zero : List Bytes → Bool
counts_zero (moved ∷ buried ∷ more) = spells_zero moved && spells_zero buried
counts_zero few = false

-- a report of no row
abbrev pub reports_zero : Reply → Bool
reports_zero (reply.Array elements) = counts_zero elements
reports_zero other = false

-- With this reply the store is as it was, but for time.
abbrev pub idles_at : Effect → Reply → Bool
idles_at effect.Never answer = true
idles_at effect.UnlessNull answer = is_error answer || is_null answer
idles_at effect.UnlessZero answer = is_error answer || reports_zero answer
idles_at effect.Always answer = is_error answer

-- ## The calls of a book

-- how a kind of book spells an event
abbrev pub Spelling : Type 1
Spelling = Event → Bytes → Type 0

-- A command that never changes the store has no draft; another has one, which spells it at the moment at which it acts.
abbrev pub IsDraft : Spelling → Effect → Event → List Bytes → Type 0
IsDraft spells effect.Never event draft = draft ≡ []
IsDraft spells effect.UnlessNull event draft = (body : Bytes) × spells event body × (draft ≡ body ∷ [])
IsDraft spells effect.UnlessZero event draft = (body : Bytes) × spells event body × (draft ≡ body ∷ [])
IsDraft spells effect.Always event draft = (body : Bytes) × spells event body × (draft ≡ body ∷ [])

-- The draft of the command waits.
abbrev pub Drafts : Spelling → Stamp → Words → Option Writing → Option Writing → Type 0
Drafts spells stamp words None after = after ≡ None
Drafts spells stamp words (Some w) after =
    (draft : List Bytes) × IsDraft spells stamp.effect (Ask stamp.seat stamp.acts_at words) draft × (after ≡ Some (record { bodies = w.bodies; draft = draft }))

-- The draft stands behind the other bodies, unless the reply says that nothing changed. A book may tell its writing no more.
abbrev pub Settles : Effect → Reply → Option Writing → Option Writing → Type 0
Settles how answer None after = after ≡ None
Settles how answer (Some w) after = (after ≡ Some (record { bodies = cond (idles_at how answer) w.bodies (w.bodies ++ w.draft); draft = [] })) ⊎ (after ≡ None)

-- A cut's body stands behind the others.
abbrev pub WritesCut : Spelling → ℕ → Option Writing → Option Writing → Type 0
WritesCut spells seat None after = after ≡ None
WritesCut spells seat (Some w) after = ((body : Bytes) × spells (Cut seat) body × (after ≡ Some (record { bodies = w.bodies ++ body ∷ []; draft = [] }))) ⊎ (after ≡ None)

-- It tells what it has written, and this holds of that.
abbrev pub WroteUpTo : (List Bytes → Type 0) → Option Writing → Type 0
WroteUpTo Holds None = ⊥
WroteUpTo Holds (Some w) = Holds w.bodies

-- ## What has been written

-- Each body spells the entry at its place.
abbrev pub SpellsAll : Spelling → List Entry → List Bytes → Type 0
SpellsAll spells [] bodies = bodies ≡ []
SpellsAll spells (e ∷ entries) bodies = (body : Bytes) × (more : List Bytes) × spells e.event body × (bodies ≡ body ∷ more) × SpellsAll spells entries more

-- The bodies are what was written of a run from the start to this world: each step that changed the store has one, in order.
pub record IsWritten (spells : Spelling) (start w : World) (bodies : List Bytes) : Type 0 where
  pub steps : List Step
  pub leads : Reaches start steps w
  pub entries : List Entry
  pub written : Written start steps entries
  pub spelled : SpellsAll spells entries bodies

-- This holds of what was written of some such run.
pub record WroteSome (spells : Spelling) (start : World) (Holds : List Bytes → Type 0) : Type 0 where
  pub world : World
  pub bodies : List Bytes
  pub written : IsWritten spells start world bodies
  pub holds : Holds bodies

-- No draft waits, and they are.
pub record IsKeptUp (spells : Spelling) (start w : World) (writing : Writing) : Type 0 where
  pub idle : writing.draft ≡ []
  pub is : IsWritten spells start w writing.bodies
