-- The machine counts the fields that have ended.
use Rattle.std.proofs.Common.{arith, ◌≡◌, ◌≢◌, ◌<◌, ◌≤◌, ◌+◌, ◌*◌, ◌++◌, ◌∷◌, ◌∙◌, [], List, ℕ, zero, suc, Bool, true, false, cond, Option, Some, None, inl, inr, refl, sym, ap, subst, length, length-append, ◌==◌}
use Rattle.sk_cron.specs.declared.bounds.Bounds.{Bounds}
use Rattle.sk_cron.specs.declared.part.Part.{Part}
use Rattle.sk_cron.specs.declared.parser_state.ParserState.{ParserState}
use Rattle.sk_cron.specs.declared.parser_state.ParserState.TheVariants as state
use Rattle.sk_cron.specs.declared.parser_state.Role.TheVariants as role
use Rattle.sk_cron.specs.declared.parser_state.Next.{Next}
use Rattle.sk_cron.specs.Fault.{ended_after, ended_fields}
use Rattle.sk_cron.specs.Reading.{Machine, close, go, led, whole}
use Rattle.sk_cron.proofs.Rows.{Row, IsBegin, IsNumberAt, comma, dash, digit, first, gap, row_of, second, slash, space, star, star_slash, off}

-- whether the last byte is a space
abbrev pub space_last : Bool → List ℕ → Bool
space_last was [] = was
space_last was (x ∷ text) = space_last (x == 32) text

abbrev pub is_gap : ParserState → Bool
is_gap state.Gap = true
is_gap (state.Ask r) = false
is_gap (state.Digit r n) = false
is_gap (state.Number r n) = false
is_gap state.Star = false

last_more : (was : Bool) (text : List ℕ) (x : ℕ) → space_last was (text ++ x ∷ []) ≡ (x == 32)
last_more was [] x = refl
last_more was (y ∷ text) x = last_more (y == 32) text x

-- the count of a text with one more byte, from those behind its first byte
grown : (x y : ℕ) (was : Bool) (text : List ℕ) → ((w : Bool) → ended_after w (text ++ x ∷ []) ≡ ended_after w text + cond (x == 32) (cond (space_last w text) 0 1) 0) → (t : Bool)
    → cond t (cond was (ended_after true (text ++ x ∷ [])) (suc (ended_after true (text ++ x ∷ [])))) (ended_after false (text ++ x ∷ []))
    ≡ cond t (cond was (ended_after true text) (suc (ended_after true text))) (ended_after false text) + cond (x == 32) (cond (space_last t text) 0 1) 0
grown x y true text h true = h true
grown x y false text h true = omega (arith, h true)
grown x y was text h false = h false

ended_more : (was : Bool) (text : List ℕ) (x : ℕ) → ended_after was (text ++ x ∷ []) ≡ ended_after was text + cond (x == 32) (cond (space_last was text) 0 1) 0
ended_more was [] x = by (x == 32) was
  where
    by : (t u : Bool) → cond t (cond u 0 1) 0 ≡ 0 + cond t (cond u 0 1) 0
    by t u = omega arith
ended_more was (y ∷ text) x = grown x y was text (λ w. ended_more w text x) (y == 32)

-- the machine's fields are those that have ended
pub record Counted (done : List (List Part)) (s : ParserState) (text : List ℕ) : Type 0 where
  pub count : ended_fields text ≡ length done
  pub last : space_last false text ≡ is_gap s

pub counted_none : Counted [] (state.Ask role.First) []
counted_none = record { count = refl; last = refl }

-- any byte but a space
other : (done : List (List Part)) (s t : ParserState) (text : List ℕ) (x : ℕ) → Counted done s text → (x == 32) ≡ false → is_gap t ≡ false → Counted done t (text ++ x ∷ [])
other done s t text x c no_space is = record {
  count = ended_more false text x ∙ ap (λ b. ended_fields text + cond b (cond (space_last false text) 0 1) 0) no_space ∙ omega arith ∙ c.count;
  last = last_more false text x ∙ no_space ∙ sym is;
}

one_more : (done : List (List Part)) (s : ParserState) (text : List ℕ) → Counted done s text → (ps : List Part) → is_gap s ≡ false → Counted (done ++ ps ∷ []) state.Gap (text ++ 32 ∷ [])
one_more done s text c ps is = record {
  count = ended_more false text 32 ∙ ap (λ b. ended_fields text + cond b 0 1) (c.last ∙ is) ∙ ap (λ n. n + 1) c.count ∙ sym (length-append done (ps ∷ []));
  last = last_more false text 32;
}

still_gap : (done : List (List Part)) (text : List ℕ) → Counted done state.Gap text → Counted done state.Gap (text ++ 32 ∷ [])
still_gap done text c = record {
  count = ended_more false text 32 ∙ ap (λ b. ended_fields text + cond b 0 1) c.last ∙ omega arith ∙ c.count;
  last = last_more false text 32;
}

abbrev mach : Bounds → List Bounds → List (List Part) → List Part → ParserState → Machine
mach b bs done parts s = record { bounds = b; behind = bs; done = done; parts = parts; state = s }

went : (m n : Machine) (text : List ℕ) → Counted m.done m.state text → Some m ≡ Some n → Counted n.done n.state text
went m n text r e = let is : m ≡ n = cc e in subst (λ k. Counted k.done k.state text) is r

whole_no_gap : (b : Bounds) (s : ParserState) (p : Part) → whole b s ≡ Some p → is_gap s ≡ false
whole_no_gap b state.Gap p w = absurd (cc w)
whole_no_gap b (state.Ask r) p w = refl
whole_no_gap b (state.Digit r n) p w = refl
whole_no_gap b (state.Number r n) p w = refl
whole_no_gap b state.Star p w = refl

by_close : (b : Bounds) (bs : List Bounds) (done : List (List Part)) (parts : List Part) (s : ParserState) (p : Part) (text : List ℕ) → Counted done s text → is_gap s ≡ false → (n : Machine)
    → close (mach b bs done parts s) bs p ≡ Some n → Counted n.done n.state (text ++ 32 ∷ [])
by_close b [] done parts s p text c no_gap n e = absurd (cc e)
by_close b (d ∷ bs) done parts s p text c no_gap n e = went (mach d bs (done ++ (parts ++ p ∷ []) ∷ []) [] state.Gap) n (text ++ 32 ∷ []) (one_more done s text c (parts ++ p ∷ []) no_gap) e

no_space : (d : ℕ) → d ≤ 9 → (48 + d == 32) ≡ false
no_space d le = grind (arith, le)

by_row : (b : Bounds) (bs : List Bounds) (done : List (List Part)) (parts : List Part) (s : ParserState) (byte : ℕ) (o : Next) (text : List ℕ) → Row b s byte o → Counted done s text → (n : Machine)
    → led (mach b bs done parts s) o ≡ Some n → Counted n.done n.state (text ++ byte ∷ [])
by_row b bs done parts s byte o text gap c n e = went (mach b bs done parts state.Gap) n _ (still_gap done text c) e
by_row b bs done parts s byte o text (star t at) c n e = went (mach b bs done parts state.Star) n _ (other done t state.Star text 42 c refl refl) e
by_row b bs done parts s byte o text (first t d at le op) c n e = went (mach b bs done parts (state.Digit role.First d)) n _ (other done t (state.Digit role.First d) text (48 + d) c (no_space d le) refl) e
by_row b bs done parts s byte o text (digit q d le op) c n e = went (mach b bs done parts (state.Digit q d)) n _ (other done (state.Ask q) (state.Digit q d) text (48 + d) c (no_space d le) refl) e
by_row b bs done parts s byte o text (second q k d le f) c n e = went (mach b bs done parts (state.Number q (10 * k + d))) n _ (other done (state.Digit q k) (state.Number q (10 * k + d)) text (48 + d) c (no_space d le) refl) e
by_row b bs done parts s byte o text (dash t k at f) c n e = went (mach b bs done parts (state.Ask (role.Last k))) n _ (other done t (state.Ask (role.Last k)) text 45 c refl refl) e
by_row b bs done parts s byte o text (slash t m k at f) c n e = went (mach b bs done parts (state.Ask (role.RangeStep m k))) n _ (other done t (state.Ask (role.RangeStep m k)) text 47 c refl refl) e
by_row b bs done parts s byte o text star_slash c n e = went (mach b bs done parts (state.Ask role.StarStep)) n _ (other done state.Star (state.Ask role.StarStep) text 47 c refl refl) e
by_row b bs done parts s byte o text (comma t p w) c n e = went (mach b bs done (parts ++ p ∷ []) (state.Ask role.First)) n _ (other done t (state.Ask role.First) text 44 c refl refl) e
by_row b bs done parts s byte o text (space t p w) c n e = by_close b bs done parts t p text c (whole_no_gap b t p w) n e

pub counted_next : (m n : Machine) (byte : ℕ) (text : List ℕ) → Counted m.done m.state text → go m byte ≡ Some n → Counted n.done n.state (text ++ byte ∷ [])
counted_next m n byte text c e = elim (row_of m.bounds m.state byte) [
  | inl no_row ↦ absurd (cc (sym e ∙ ap (led m) no_row))
  | inr row ↦ by_row m.bounds m.behind m.done m.parts m.state byte _ text row c n e
]
