-- The reader goes where the machine goes.
use Rattle.std.proofs.Common.{arith, ◌≡◌, ◌≢◌, ◌<◌, ◌≤◌, ◌+◌, ◌++◌, ◌∷◌, ◌∙◌, [], List, ℕ, zero, suc, Bool, true, false, cond, Option, Some, None, inl, inr, refl, sym, ap, subst, drop, get_or, length, length-append, MatchOption, nat_le, ◌&&◌}
use Rattle.std.specs.Prelude.{option_map}
use Rattle.sk_cron.specs.declared.bounds.Bounds.{Bounds}
use Rattle.sk_cron.specs.declared.field.Field.{Field}
use Rattle.sk_cron.specs.declared.part.Part.{Part}
use Rattle.sk_cron.specs.declared.part.Part.TheVariants as part
use Rattle.sk_cron.specs.declared.reader.Reader.{Reader}
use Rattle.sk_cron.specs.declared.parser_state.Role.{Role}
use Rattle.sk_cron.specs.declared.parser_state.Role.TheVariants as role
use Rattle.sk_cron.specs.declared.parser_state.ParserState.{ParserState}
use Rattle.sk_cron.specs.declared.parser_state.ParserState.TheVariants as state
use Rattle.sk_cron.specs.declared.parser_state.Next.{Next}
use Rattle.sk_cron.specs.declared.parser_state.Next.TheVariants as next
use Rattle.sk_cron.specs.CronText.{five, minutes}
use Rattle.sk_cron.specs.Times.{step_of}
use Rattle.sk_cron.specs.Read.{Agrees, AllHold}
use Rattle.sk_cron.specs.Reading.{Machine, after, close, fields_in, finish, fits, go, led, part_of, whole}
use Rattle.sk_cron.proofs.Fields.{all_opened}
use Rattle.sk_cron.proofs.Rows.{Led, Row, comma, space, on, off, row_of, tell}

-- ## Steps are at least 1

number_step : (b : Bounds) (r : Role) (n : ℕ) → fits b r n ≡ true → 1 ≤ step_of (part_of r n)
number_step b role.First n f = omega arith
number_step b (role.Last m) n f = omega arith
number_step b (role.RangeStep m k) n f = grind (arith, f)
number_step b role.StarStep n f = grind (arith, f)

some_part : (b : Bounds) (r : Role) (n : ℕ) (p : Part) → cond (fits b r n) (Some (part_of r n)) None ≡ Some p → 1 ≤ step_of p
some_part b r n p w = elim (tell (fits b r n)) [
  | inl f ↦ let e : part_of r n ≡ p = cc (w, on (fits b r n) (Some (part_of r n)) None f) in subst (λ q. 1 ≤ step_of q) e (number_step b r n f)
  | inr f ↦ absurd (cc (w, off (fits b r n) (Some (part_of r n)) None f))
]

pub whole_step : (b : Bounds) (s : ParserState) (p : Part) → whole b s ≡ Some p → 1 ≤ step_of p
whole_step b state.Gap p w = absurd (cc w)
whole_step b (state.Ask r) p w = absurd (cc w)
whole_step b (state.Digit r n) p w = some_part b r n p w
whole_step b (state.Number r n) p w = some_part b r n p w
whole_step b state.Star p w = let e : part.Star ≡ p = cc w in subst (λ q. 1 ≤ step_of q) e (omega arith)

comma_whole : (b : Bounds) (s : ParserState) (byte : ℕ) (p : Part) → Led b s byte (next.Comma p) → whole b s ≡ Some p
comma_whole b s byte p (inl e) = absurd (cc e)
comma_whole b s byte p (inr (comma t q w)) = w

space_whole : (b : Bounds) (s : ParserState) (byte : ℕ) (p : Part) → Led b s byte (next.Space p) → whole b s ≡ Some p
space_whole b s byte p (inl e) = absurd (cc e)
space_whole b s byte p (inr (space t q w)) = w

pub comma_step : (b : Bounds) (s : ParserState) (byte : ℕ) (p : Part) → after b s byte ≡ next.Comma p → 1 ≤ step_of p
comma_step b s byte p e = whole_step b s p (comma_whole b s byte p (subst (λ o. Led b s byte o) e (row_of b s byte)))

pub space_step : (b : Bounds) (s : ParserState) (byte : ℕ) (p : Part) → after b s byte ≡ next.Space p → 1 ≤ step_of p
space_step b s byte p e = whole_step b s p (space_whole b s byte p (subst (λ o. Led b s byte o) e (row_of b s byte)))

-- ## Where the reader is

pub bounds_at : (b : Bounds) (bs : List Bounds) (at : ℕ) → at < 5 → b ∷ bs ≡ drop at five → b ≡ get_or five at minutes
bounds_at b bs zero lt e = cc e
bounds_at b bs (suc zero) lt e = cc e
bounds_at b bs (suc (suc zero)) lt e = cc e
bounds_at b bs (suc (suc (suc zero))) lt e = cc e
bounds_at b bs (suc (suc (suc (suc zero)))) lt e = cc e
bounds_at b bs (suc (suc (suc (suc (suc n))))) lt e = absurd (omega (arith, lt))

behind_at : (b : Bounds) (bs : List Bounds) (at : ℕ) → at < 4 → b ∷ bs ≡ drop at five → bs ≡ get_or five (at + 1) minutes ∷ drop (at + 2) five
behind_at b bs zero lt e = cc e
behind_at b bs (suc zero) lt e = cc e
behind_at b bs (suc (suc zero)) lt e = cc e
behind_at b bs (suc (suc (suc zero))) lt e = cc e
behind_at b bs (suc (suc (suc (suc n)))) lt e = absurd (omega (arith, lt))

drop_next : (at : ℕ) → at < 4 → get_or five (at + 1) minutes ∷ drop (at + 2) five ≡ drop (at + 1) five
drop_next zero lt = refl
drop_next (suc zero) lt = refl
drop_next (suc (suc zero)) lt = refl
drop_next (suc (suc (suc zero))) lt = refl
drop_next (suc (suc (suc (suc n)))) lt = absurd (omega (arith, lt))

behind_last : (b : Bounds) (bs : List Bounds) → b ∷ bs ≡ drop 4 five → bs ≡ []
behind_last b bs e = cc e

pub go_as : (m : Machine) (r : Reader) (byte : ℕ) (o : Next) → Agrees m r → after (get_or five r.at minutes) r.state byte ≡ o → go m byte ≡ led m o
go_as m r byte o a e = ap (λ s. led m (after m.bounds s byte)) a.state ∙ ap (λ b. led m (after b r.state byte)) (bounds_at m.bounds m.behind r.at a.within a.bounds) ∙ ap (led m) e

-- what the reader has to show where the machine went
abbrev pub Follows : Option Machine → Reader → Type 0
Follows o r = MatchOption o (true ≡ false) (λ at. (true ≡ true) × Agrees at r)

pub stays : (m : Machine) (r : Reader) (byte : ℕ) (s : ParserState) → Agrees m r → after (get_or five r.at minutes) r.state byte ≡ next.Stays s → Follows (go m byte) (record r { state = s })
stays m r byte s a e = subst (λ o. Follows o (record r { state = s })) (sym (go_as m r byte _ a e)) (refl, record { within = a.within; bounds = a.bounds; done = a.done; state = refl; fields = a.fields })

pub commas : (m : Machine) (r : Reader) (byte : ℕ) (p : Part) (fields : List Field) → Agrees m r → after (get_or five r.at minutes) r.state byte ≡ next.Comma p
    → AllHold (m.done ++ (m.parts ++ p ∷ []) ∷ []) fields → Follows (go m byte) (record { fields = fields; at = r.at; state = state.Ask role.First })
commas m r byte p fields a e h = subst (λ o. Follows o (record { fields = fields; at = r.at; state = state.Ask role.First })) (sym (go_as m r byte _ a e))
    (refl, record { within = a.within; bounds = a.bounds; done = a.done; state = refl; fields = h })

pub spaces : (m : Machine) (r : Reader) (byte : ℕ) (p : Part) (fields : List Field) → Agrees m r → after (get_or five r.at minutes) r.state byte ≡ next.Space p → r.at ≢ 4
    → AllHold (m.done ++ (m.parts ++ p ∷ []) ∷ []) fields → Follows (go m byte) (record { fields = fields; at = r.at + 1; state = state.Gap })
spaces m r byte p fields a e other h =
    let lt : r.at < 4 = omega (arith, a.within, other) in
    let behind = behind_at m.bounds m.behind r.at lt a.bounds in
    subst (λ o. Follows o (record { fields = fields; at = r.at + 1; state = state.Gap })) (sym (go_as m r byte _ a e ∙ ap (λ bs. close m bs p) behind)) (
      refl,
      record {
        within = omega (arith, lt);
        bounds = drop_next r.at lt;
        done = length-append m.done _ ∙ ap (λ n. n + 1) a.done;
        state = refl;
        fields = all_opened _ fields h;
      },
    )

pub no_more : (m : Machine) (r : Reader) (byte : ℕ) (p : Part) → Agrees m r → after (get_or five r.at minutes) r.state byte ≡ next.Space p → r.at ≡ 4 → go m byte ≡ None
no_more m r byte p a e last = go_as m r byte _ a e ∙ ap (λ bs. close m bs p) (behind_last m.bounds m.behind (subst (λ n. m.bounds ∷ m.behind ≡ drop n five) last a.bounds))

-- ## At the end

pub finish_open : (m : Machine) (r : Reader) → Agrees m r → r.at < 4 → finish m ≡ None
finish_open m r a lt = ap (fields_in m) (behind_at m.bounds m.behind r.at lt a.bounds)

pub finish_last : (m : Machine) (r : Reader) (o : Option Part) → Agrees m r → 4 ≤ r.at → whole (get_or five r.at minutes) r.state ≡ o
    → finish m ≡ option_map (λ ps. m.done ++ ps ∷ []) (option_map (λ p. m.parts ++ p ∷ []) o)
finish_last m r o a last e =
    let four : r.at ≡ 4 = omega (arith, last, a.within) in
    ap (fields_in m) (behind_last m.bounds m.behind (subst (λ n. m.bounds ∷ m.behind ≡ drop n five) four a.bounds))
    ∙ ap (λ p. option_map (λ ps. m.done ++ ps ∷ []) (option_map (λ p. m.parts ++ p ∷ []) p))
    (ap (whole m.bounds) a.state ∙ ap (λ b. whole b r.state) (bounds_at m.bounds m.behind r.at a.within a.bounds) ∙ e)
