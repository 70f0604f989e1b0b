-- What the reader keeps of an item that isn't whole yet, stage by stage. No public contract speaks of it.
use Rattle.std.specs.Prelude.{◌≡◌, ◌≢◌, ◌<◌, ◌≤◌, ◌+◌, ℕ, List, [], ◌∷◌, ◌++◌, length, Option, Some, None}
use Rattle.sk_base.specs.declared.limits.TheConstants.{LONGEST_COMMAND, LONGEST_WORD}
use Rattle.sk_resp.specs.Spelling.{Bytes, star, dollar, cr, header, opened}
use Rattle.sk_resp.specs.Request.{Command, bulks, IsLine, IsWanting, IsInline, IsItem, IsFault}
use Rattle.sk_resp.specs.declared.wire_fault.WireFault.{WireFault}
use Rattle.sk_resp.specs.declared.wire_fault.WireFault.TheVariants.{Memory}
use Rattle.sk_resp.specs.declared.request.state.Stage.{Stage}
use Rattle.sk_resp.specs.declared.request.state.Stage.TheVariants.{Start, Inline, Count, Mark, Length, Body, End}
use Rattle.sk_resp.specs.declared.request.state.State.{State}

-- the bytes behind the whole words of an array
abbrev pub part_at : Stage → State → Bytes
part_at Start s = []
part_at Inline s = []
part_at Count s = []
part_at Mark s = []
part_at Length s = dollar ∷ s.line.items
part_at Body s = opened s.need s.word.items
part_at End s = opened s.need s.word.items ++ cr ∷ []

-- the bytes behind the last whole item, at that stage
abbrev pub seen_at : Stage → State → Bytes
seen_at Start s = []
seen_at Inline s = s.line.items
seen_at Count s = star ∷ s.line.items
seen_at Mark s = header s.count ++ bulks s.words.items ++ part_at Mark s
seen_at Length s = header s.count ++ bulks s.words.items ++ part_at Length s
seen_at Body s = header s.count ++ bulks s.words.items ++ part_at Body s
seen_at End s = header s.count ++ bulks s.words.items ++ part_at End s

abbrev pub seen : State → Bytes
seen s = seen_at s.stage s

-- a word that isn't whole, or that no CRLF follows yet
pub record IsOpenWord (need : ℕ) (word : Bytes) (total : ℕ) : Type 0 where
  pub fits : length word ≤ need
  pub short : need ≤ LONGEST_WORD
  pub small : total + need ≤ LONGEST_COMMAND

-- what holds of the state at that stage
abbrev pub IsOpenAt : Stage → State → Type 0
IsOpenAt Start s = Unit {0}
IsOpenAt Inline s = IsInline s.line.items × (0 < length s.line.items)
IsOpenAt Count s = IsLine s.line.items
IsOpenAt Mark s = IsWanting s.count s.words.items s.total
IsOpenAt Length s = IsWanting s.count s.words.items s.total × IsLine s.line.items
IsOpenAt Body s = IsWanting s.count s.words.items s.total × IsOpenWord s.need s.word.items s.total
IsOpenAt End s = IsWanting s.count s.words.items s.total × IsOpenWord s.need s.word.items s.total × (length s.word.items ≡ s.need)

abbrev pub IsOpen : State → Type 0
IsOpen s = IsOpenAt s.stage s

-- the command that a step made whole, as a list
abbrev pub given : Option Command → List Command
given None = []
given (Some words) = words ∷ []

-- The bytes behind the last whole item, and what was made of them: they are kept, or they are an item.
pub data Took (text : Bytes) (commands : List Command) (s : State) : Type 0 where
  goes : IsOpen s → seen s ≡ text → commands ≡ [] → Took text commands s
  ends : IsItem text commands → s.stage ≡ Start → Took text commands s

abbrev pub Fails : Bytes → WireFault → Type 0
Fails text fault = fault ≢ Memory → IsFault text fault
