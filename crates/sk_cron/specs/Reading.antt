-- The reader of a cron text as a machine over bytes: where in a field it is, and where a byte leads it. No public contract speaks of it.
use Rattle.std.specs.Prelude.{◌≡◌, ◌<◌, ℕ, suc, Bool, true, false, ◌+◌, ◌*◌, ◌-◌, ◌==◌, ◌&&◌, ◌||◌, nat_le, nat_lt, cond, List, [], ◌∷◌, ◌++◌, Option, Some, None, option_map, option_and_then, length}
use Rattle.sk_cron.specs.declared.bounds.Bounds.{Bounds}
use Rattle.sk_cron.specs.declared.part.Part.{Part}
use Rattle.sk_cron.specs.declared.part.Part.TheVariants as part
use Rattle.sk_cron.specs.declared.parser_state.Role.{Role}
use Rattle.sk_cron.specs.declared.parser_state.Role.TheVariants as role
use Rattle.sk_cron.specs.declared.parser_state.ParserState.{ParserState}
use Rattle.sk_cron.specs.declared.parser_state.ParserState.TheVariants as state
use Rattle.sk_cron.specs.declared.parser_state.Next.{Next}
use Rattle.sk_cron.specs.declared.parser_state.Next.TheVariants as next_

-- ## Within a field

abbrev pub digit_of : ℕ → Option ℕ
digit_of b = cond (nat_lt b 48 || nat_lt 57 b) None (Some (b - 48))

-- the least that a number may be; the greatest is the field's
abbrev pub least : Bounds → Role → ℕ
least b role.First = b.low
least b (role.Last first) = first
least b (role.RangeStep first last) = 1
least b role.StarStep = 1

abbrev pub fits : Bounds → Role → ℕ → Bool
fits b r n = nat_le (least b r) n && nat_le n b.high

-- the digit is such a number, or begins one of two digits
abbrev pub opens : Bounds → Role → ℕ → Bool
opens b r d = fits b r d || (nat_le (10 * d) b.high && nat_le (least b r) (10 * d + 9))

abbrev pub part_of : Role → ℕ → Part
part_of role.First n = part.Number n
part_of (role.Last first) n = part.Range first n 1
part_of (role.RangeStep first last) n = part.Range first last n
part_of role.StarStep n = part.StarStep n

abbrev pub whole_number : Bounds → Role → ℕ → Option Part
whole_number b r n = cond (fits b r n) (Some (part_of r n)) None

-- the part that is whole there
abbrev pub whole : Bounds → ParserState → Option Part
whole b state.Gap = None
whole b (state.Ask r) = None
whole b (state.Digit r n) = whole_number b r n
whole b (state.Number r n) = whole_number b r n
whole b state.Star = Some part.Star

abbrev pub ask_digit : Bounds → Role → Option ℕ → Next
ask_digit b r None = next_.Fault
ask_digit b r (Some d) = cond (opens b r d) (next_.Stays (state.Digit r d)) next_.Fault

abbrev pub asks : Bounds → Role → ℕ → Next
asks b r byte = ask_digit b r (digit_of byte)

abbrev pub begins : Bounds → ℕ → Next
begins b byte = cond (byte == 42) (next_.Stays state.Star) (asks b role.First byte)

abbrev pub ends : Part → ℕ → Next
ends p byte = cond (byte == 44) (next_.Comma p) (cond (byte == 32) (next_.Space p) next_.Fault)

abbrev pub after_number : Role → ℕ → ℕ → Next
after_number role.First n byte = cond (byte == 45) (next_.Stays (state.Ask (role.Last n))) (ends (part.Number n) byte)
after_number (role.Last first) n byte = cond (byte == 47) (next_.Stays (state.Ask (role.RangeStep first n))) (ends (part.Range first n 1) byte)
after_number (role.RangeStep first last) n byte = ends (part.Range first last n) byte
after_number role.StarStep n byte = ends (part.StarStep n) byte

abbrev pub numbers : Bounds → Role → ℕ → ℕ → Next
numbers b r n byte = cond (fits b r n) (after_number r n byte) next_.Fault

abbrev pub second_digit : Bounds → Role → ℕ → ℕ → Option ℕ → Next
second_digit b r n byte None = numbers b r n byte
second_digit b r n byte (Some d) = cond (fits b r (10 * n + d)) (next_.Stays (state.Number r (10 * n + d))) next_.Fault

abbrev pub digits : Bounds → Role → ℕ → ℕ → Next
digits b r n byte = second_digit b r n byte (digit_of byte)

abbrev pub after_star : ℕ → Next
after_star byte = cond (byte == 47) (next_.Stays (state.Ask role.StarStep)) (ends part.Star byte)

abbrev pub ask : Bounds → Role → ℕ → Next
ask b role.First byte = begins b byte
ask b (role.Last first) byte = asks b (role.Last first) byte
ask b (role.RangeStep first last) byte = asks b (role.RangeStep first last) byte
ask b role.StarStep byte = asks b role.StarStep byte

abbrev pub after : Bounds → ParserState → ℕ → Next
after b state.Gap byte = cond (byte == 32) (next_.Stays state.Gap) (begins b byte)
after b (state.Ask r) byte = ask b r byte
after b (state.Digit r n) byte = digits b r n byte
after b (state.Number r n) byte = numbers b r n byte
after b state.Star byte = after_star byte

-- ## Over the fields

-- the bounds of the field that is read and of those behind it, the fields that are whole, the parts of this one that are whole, and where it is
pub record Machine : Type 0 where
  pub bounds : Bounds
  pub behind : List Bounds
  pub done : List (List Part)
  pub parts : List Part
  pub state : ParserState

abbrev pub close : Machine → List Bounds → Part → Option Machine
close m [] p = None
close m (b ∷ bs) p = Some (record { bounds = b; behind = bs; done = m.done ++ (m.parts ++ p ∷ []) ∷ []; parts = []; state = state.Gap })

abbrev pub led : Machine → Next → Option Machine
led m (next_.Stays s) = Some (record m { state = s })
led m (next_.Comma p) = Some (record m { parts = m.parts ++ p ∷ []; state = state.Ask role.First })
led m (next_.Space p) = close m m.behind p
led m next_.Fault = None

abbrev pub go : Machine → ℕ → Option Machine
go m byte = led m (after m.bounds m.state byte)

abbrev pub run : Option Machine → List ℕ → Option Machine
run m [] = m
run m (byte ∷ bytes) = run (option_and_then (λ at. go at byte) m) bytes

-- the parts of the field that is read, where it may end there
abbrev pub field_of : Machine → Option (List Part)
field_of m = option_map (λ p. m.parts ++ p ∷ []) (whole m.bounds m.state)

abbrev pub fields_in : Machine → List Bounds → Option (List (List Part))
fields_in m [] = option_map (λ ps. m.done ++ ps ∷ []) (field_of m)
fields_in m (b ∷ bs) = None

-- the fields of the text, where it may end there
abbrev pub finish : Machine → Option (List (List Part))
finish m = fields_in m m.behind
