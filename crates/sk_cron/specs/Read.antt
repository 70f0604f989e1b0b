-- What the reader of a cron text keeps, beside the machine that it is. No public contract speaks of it.
use Rattle.std.specs.Prelude.{◌≡◌, ◌<◌, ℕ, Bool, true, false, List, [], ◌∷◌, ◌++◌, get_or, length, drop}
use Rattle.sk_cron.specs.declared.bounds.Bounds.{Bounds}
use Rattle.sk_cron.specs.declared.field.Field.{Field}
use Rattle.sk_cron.specs.declared.part.Part.{Part}
use Rattle.sk_cron.specs.declared.reader.Reader.{Reader}
use Rattle.sk_cron.specs.declared.parser_state.Role.TheVariants.{First}
use Rattle.sk_cron.specs.declared.parser_state.ParserState.TheVariants.{Ask}
use Rattle.sk_cron.specs.CronText.{IsCronText, five, minutes}
use Rattle.sk_cron.specs.Times.{AreNumbers, Times, is_restricted}
use Rattle.sk_cron.specs.Reading.{Machine}

abbrev pub is_empty : List Part → Bool
is_empty [] = true
is_empty (p ∷ ps) = false

-- the field has the numbers of these parts
pub record Holds (b : Bounds) (parts : List Part) (f : Field) : Type 0 where
  pub numbers : AreNumbers b parts f.numbers
  pub empty : f.is_empty ≡ is_empty parts
  pub restricted : f.is_restricted ≡ is_restricted parts

abbrev pub no_field : Field
no_field = record { numbers = []; is_empty = false; is_restricted = false }

-- each field has the numbers of its parts
abbrev pub AllHold : List (List Part) → List Field → Type 0
AllHold lists fields = (i : ℕ) → i < 5 → Holds (get_or five i minutes) (get_or lists i []) (get_or fields i no_field)

-- the reader is where the machine is
pub record Agrees (m : Machine) (r : Reader) : Type 0 where
  pub within : r.at < 5
  pub bounds : m.bounds ∷ m.behind ≡ drop r.at five
  pub done : length m.done ≡ r.at
  pub state : m.state ≡ r.state
  pub fields : AllHold (m.done ++ m.parts ∷ []) r.fields

-- before the first byte
abbrev pub start : Machine
start = record { bounds = minutes; behind = drop 1 five; done = []; parts = []; state = Ask First }

abbrev pub field_at : List Field → ℕ → Field
field_at fields i = get_or fields i no_field

-- the times that the five fields are
abbrev pub times_of : List Field → Times
times_of fields = record {
  minute = (field_at fields 0).numbers;
  hour = (field_at fields 1).numbers;
  day = (field_at fields 2).numbers;
  month = (field_at fields 3).numbers;
  weekday = (field_at fields 4).numbers;
  days_restricted = (field_at fields 2).is_restricted;
  weekdays_restricted = (field_at fields 4).is_restricted;
}

-- the fields are those of the text
abbrev pub HasRead : List ℕ → List Field → Type 0
HasRead text fields = (lists : List (List Part)) × IsCronText text lists × AllHold lists fields
