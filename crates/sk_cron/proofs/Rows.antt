-- The machine's table: where each byte leads, row by row.
use Rattle.std.proofs.Common.{arith, ◌≡◌, ◌≢◌, ◌<◌, ◌≤◌, ◌+◌, ◌*◌, ◌-◌, ◌∙◌, ◌⊎◌, ℕ, Bool, true, false, cond, Option, Some, None, inl, inr, refl, sym, ap, subst, nat_le, nat_lt, ◌||◌, ◌==◌}
use Rattle.std.proofs.lemmas.Bool.Decides.{eqb_tells}
use Rattle.sk_cron.specs.declared.bounds.Bounds.{Bounds}
use Rattle.sk_cron.specs.declared.part.Part.{Part}
use Rattle.sk_cron.specs.declared.part.Part.TheVariants as part
use Rattle.sk_cron.specs.declared.parser_state.Role.{Role}
use Rattle.sk_cron.specs.declared.parser_state.Role.TheVariants as role
use Rattle.sk_cron.specs.declared.parser_state.ParserState.{ParserState}
use Rattle.sk_cron.specs.declared.parser_state.ParserState.TheVariants as state
use Rattle.sk_cron.specs.declared.parser_state.Next.{Next}
use Rattle.sk_cron.specs.declared.parser_state.Next.TheVariants as next
use Rattle.sk_cron.specs.Reading.{after, after_number, after_star, ask, asks, ask_digit, begins, digit_of, digits, ends, fits, numbers, opens, part_of, second_digit, whole, whole_number}

pub data IsBegin : ParserState → Type 0 where
  behind_gap : IsBegin state.Gap
  at_first : IsBegin (state.Ask role.First)

-- the number that was read there
pub data IsNumberAt (r : Role) (n : ℕ) : ParserState → Type 0 where
  by_digit : IsNumberAt r n (state.Digit r n)
  by_number : IsNumberAt r n (state.Number r n)

pub data Row (b : Bounds) : ParserState → ℕ → Next → Type 0 where
  gap : Row b state.Gap 32 (next.Stays state.Gap)
  star : (s : ParserState) → IsBegin s → Row b s 42 (next.Stays state.Star)
  first : (s : ParserState) (d : ℕ) → IsBegin s → d ≤ 9 → opens b role.First d ≡ true → Row b s (48 + d) (next.Stays (state.Digit role.First d))
  digit : (r : Role) (d : ℕ) → d ≤ 9 → opens b r d ≡ true → Row b (state.Ask r) (48 + d) (next.Stays (state.Digit r d))
  second : (r : Role) (n d : ℕ) → d ≤ 9 → fits b r (10 * n + d) ≡ true → Row b (state.Digit r n) (48 + d) (next.Stays (state.Number r (10 * n + d)))
  dash : (s : ParserState) (n : ℕ) → IsNumberAt role.First n s → fits b role.First n ≡ true → Row b s 45 (next.Stays (state.Ask (role.Last n)))
  slash : (s : ParserState) (m n : ℕ) → IsNumberAt (role.Last m) n s → fits b (role.Last m) n ≡ true → Row b s 47 (next.Stays (state.Ask (role.RangeStep m n)))
  star_slash : Row b state.Star 47 (next.Stays (state.Ask role.StarStep))
  comma : (s : ParserState) (p : Part) → whole b s ≡ Some p → Row b s 44 (next.Comma p)
  space : (s : ParserState) (p : Part) → whole b s ≡ Some p → Row b s 32 (next.Space p)

-- a row, or none
abbrev pub Led : Bounds → ParserState → ℕ → Next → Type 0
Led b s byte o = (o ≡ next.Fault) ⊎ Row b s byte o

pub on : {A : Type 0} (c : Bool) (x y : A) → c ≡ true → cond c x y ≡ x
on true x y e = refl
on false x y e = absurd (cc e)

pub off : {A : Type 0} (c : Bool) (x y : A) → c ≡ false → cond c x y ≡ y
off true x y e = absurd (cc e)
off false x y e = refl

pub tell : (t : Bool) → (t ≡ true) ⊎ (t ≡ false)
tell true = inl refl
tell false = inr refl

led_as : (b : Bounds) (s : ParserState) (byte : ℕ) (o p : Next) → o ≡ p → Led b s byte p → Led b s byte o
led_as b s byte o p e l = subst (λ x. Led b s byte x) (sym e) l

row_as : (b : Bounds) (s : ParserState) (byte known : ℕ) (o p : Next) → byte ≡ known → o ≡ p → Row b s known p → Led b s byte o
row_as b s byte known o p e d r = inr (subst (λ x. Row b s x o) (sym e) (subst (λ x. Row b s known x) (sym d) r))

-- the byte is this one, or another
choose : (b : Bounds) (s : ParserState) (byte known : ℕ) (o p : Next) → Row b s known o → Led b s byte p → Led b s byte (cond (byte == known) o p)
choose b s byte known o p yes_row later = elim (eqb_tells byte known) [
  | inl e ↦ row_as b s byte known _ o e.1 (on (byte == known) o p e.0) yes_row
  | inr e ↦ led_as b s byte _ p (off (byte == known) o p e.0) later
]

ends_led : (b : Bounds) (s : ParserState) (p : Part) (byte : ℕ) → whole b s ≡ Some p → Led b s byte (ends p byte)
ends_led b s p byte w = choose b s byte 44 _ _ (comma s p w) (choose b s byte 32 _ _ (space s p w) (inl refl))

pub digit_view : (byte : ℕ) → (digit_of byte ≡ None) ⊎ ((d : ℕ) × (d ≤ 9) × (byte ≡ 48 + d) × (digit_of byte ≡ Some d))
digit_view byte = elim (tell (nat_lt byte 48 || nat_lt 57 byte)) [
  | inl e ↦ inl (on _ None (Some (byte - 48)) e)
  | inr e ↦ inr (byte - 48, grind (arith, e), grind (arith, e), off _ None (Some (byte - 48)) e)
]

asks_led : (b : Bounds) (s : ParserState) (r : Role) (byte : ℕ) → ((d : ℕ) → d ≤ 9 → opens b r d ≡ true → Row b s (48 + d) (next.Stays (state.Digit r d))) → Led b s byte (asks b r byte)
asks_led b s r byte row = elim (digit_view byte) [
  | inl e ↦ inl (ap (ask_digit b r) e)
  | inr v ↦ led_as b s byte _ _ (ap (ask_digit b r) v.3) (elim (tell (opens b r v.0)) [
    | inl o ↦ row_as b s byte (48 + v.0) _ _ v.2 (on (opens b r v.0) (next.Stays (state.Digit r v.0)) next.Fault o) (row v.0 v.1 o)
    | inr o ↦ inl (off (opens b r v.0) (next.Stays (state.Digit r v.0)) next.Fault o)
  ])
]

begins_led : (b : Bounds) (s : ParserState) (byte : ℕ) → IsBegin s → Led b s byte (begins b byte)
begins_led b s byte at = choose b s byte 42 _ _ (star s at) (asks_led b s role.First byte (λ d le o. first s d at le o))

after_number_led : (b : Bounds) (s : ParserState) (r : Role) (n byte : ℕ) → IsNumberAt r n s → fits b r n ≡ true → whole b s ≡ Some (part_of r n) → Led b s byte (after_number r n byte)
after_number_led b s role.First n byte at f w = choose b s byte 45 _ _ (dash s n at f) (ends_led b s _ byte w)
after_number_led b s (role.Last m) n byte at f w = choose b s byte 47 _ _ (slash s m n at f) (ends_led b s _ byte w)
after_number_led b s (role.RangeStep m k) n byte at f w = ends_led b s _ byte w
after_number_led b s role.StarStep n byte at f w = ends_led b s _ byte w

numbers_led : (b : Bounds) (s : ParserState) (r : Role) (n byte : ℕ) → IsNumberAt r n s → whole b s ≡ whole_number b r n → Led b s byte (numbers b r n byte)
numbers_led b s r n byte at w = elim (tell (fits b r n)) [
  | inl f ↦ led_as b s byte _ _ (on (fits b r n) (after_number r n byte) next.Fault f) (after_number_led b s r n byte at f (w ∙ on (fits b r n) (Some (part_of r n)) None f))
  | inr f ↦ inl (off (fits b r n) (after_number r n byte) next.Fault f)
]

digits_led : (b : Bounds) (r : Role) (n byte : ℕ) → Led b (state.Digit r n) byte (digits b r n byte)
digits_led b r n byte = elim (digit_view byte) [
  | inl e ↦ led_as b (state.Digit r n) byte _ _ (ap (second_digit b r n byte) e) (numbers_led b (state.Digit r n) r n byte by_digit refl)
  | inr v ↦ led_as b (state.Digit r n) byte _ _ (ap (second_digit b r n byte) v.3) (elim (tell (fits b r (10 * n + v.0))) [
    | inl f ↦ row_as b (state.Digit r n) byte (48 + v.0) _ _ v.2 (on (fits b r (10 * n + v.0)) (next.Stays (state.Number r (10 * n + v.0))) next.Fault f) (second r n v.0 v.1 f)
    | inr f ↦ inl (off (fits b r (10 * n + v.0)) (next.Stays (state.Number r (10 * n + v.0))) next.Fault f)
  ])
]

ask_led : (b : Bounds) (r : Role) (byte : ℕ) → Led b (state.Ask r) byte (ask b r byte)
ask_led b role.First byte = begins_led b (state.Ask role.First) byte at_first
ask_led b (role.Last m) byte = asks_led b (state.Ask (role.Last m)) (role.Last m) byte (λ d le o. digit (role.Last m) d le o)
ask_led b (role.RangeStep m n) byte = asks_led b (state.Ask (role.RangeStep m n)) (role.RangeStep m n) byte (λ d le o. digit (role.RangeStep m n) d le o)
ask_led b role.StarStep byte = asks_led b (state.Ask role.StarStep) role.StarStep byte (λ d le o. digit role.StarStep d le o)

-- Each byte has a row, or no cron text goes on with it.
pub row_of : (b : Bounds) (s : ParserState) (byte : ℕ) → Led b s byte (after b s byte)
row_of b state.Gap byte = choose b state.Gap byte 32 _ _ gap (begins_led b state.Gap byte behind_gap)
row_of b (state.Ask r) byte = ask_led b r byte
row_of b (state.Digit r n) byte = digits_led b r n byte
row_of b (state.Number r n) byte = numbers_led b (state.Number r n) r n byte by_number refl
row_of b state.Star byte = choose b state.Star byte 47 _ _ star_slash (ends_led b state.Star part.Star byte refl)
