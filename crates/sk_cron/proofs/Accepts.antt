-- The machine takes each cron text, and ends with its fields.
use Rattle.std.proofs.Common.{arith, ◌≡◌, ◌≢◌, ◌<◌, ◌≤◌, ◌+◌, ◌*◌, ◌-◌, ◌++◌, ◌∷◌, ◌∙◌, [], List, ℕ, zero, suc, Bool, true, false, cond, Option, Some, None, refl, sym, ap, subst, append_assoc, append-nil, nat_le, nat_lt, ◌||◌, ◌&&◌, ◌==◌}
use Rattle.std.proofs.lemmas.Bool.Decides.{eqb_tells}
use Rattle.std.specs.Prelude.{option_and_then, option_map}
use Rattle.sk_cron.specs.declared.bounds.Bounds.{Bounds}
use Rattle.sk_cron.specs.declared.part.Part.{Part}
use Rattle.sk_cron.specs.declared.part.Part.TheVariants as part
use Rattle.sk_cron.specs.declared.parser_state.Role.{Role}
use Rattle.sk_cron.specs.declared.parser_state.Role.TheVariants as role
use Rattle.sk_cron.specs.declared.parser_state.ParserState.{ParserState}
use Rattle.sk_cron.specs.declared.parser_state.ParserState.TheVariants as state
use Rattle.sk_cron.specs.declared.parser_state.Next.{Next}
use Rattle.sk_cron.specs.declared.parser_state.Next.TheVariants as next
use Rattle.sk_cron.specs.CronText.{AreFields, IsCronText, IsField, IsNumber, IsPart, five, is_number, is_range, is_range_step, is_star, is_star_step, last_field, last_part, minutes, more_fields, more_parts, one, spaces, two}
use Rattle.sk_cron.specs.Read.{start}
use Rattle.sk_cron.specs.Reading.{Machine, after, after_number, ask, ask_digit, asks, begins, digit_of, field_of, fields_in, finish, fits, go, least, led, close, numbers, opens, part_of, run, second_digit, whole}
use Rattle.sk_cron.proofs.Rows.{IsNumberAt, by_digit, by_number, off, on}

-- ## Runs

pub run-append : (o : Option Machine) (xs ys : List ℕ) → run o (xs ++ ys) ≡ run (run o xs) ys
run-append o [] ys = refl
run-append o (x ∷ xs) ys = run-append (option_and_then (λ m. go m x) o) xs ys

pub run_none : (xs : List ℕ) → run None xs ≡ None
run_none [] = refl
run_none (x ∷ xs) = run_none xs

-- two runs with a byte between them
through : (o : Option Machine) (m n : Machine) (xs ys : List ℕ) (x : ℕ) → run o xs ≡ Some m → go m x ≡ Some n → run o (xs ++ x ∷ ys) ≡ run (Some n) ys
through o m n xs ys x a b = run-append o xs (x ∷ ys) ∙ ap (λ p. run p (x ∷ ys)) a ∙ ap (λ p. run p ys) b

abbrev at : Machine → ParserState → Machine
at m s = record m { state = s }

-- ## Numbers

digit_is : (d : ℕ) → d ≤ 9 → digit_of (48 + d) ≡ Some d
digit_is d le =
    let out : (nat_lt (48 + d) 48 || nat_lt 57 (48 + d)) ≡ false = grind (arith, le) in
    let same : (48 + d) - 48 ≡ d = omega arith in
    off _ None (Some ((48 + d) - 48)) out ∙ ap Some same

no_star : (d : ℕ) → (48 + d == 42) ≡ false
no_star d = grind arith

ask_is : (b : Bounds) (r : Role) (d : ℕ) → after b (state.Ask r) (48 + d) ≡ asks b r (48 + d)
ask_is b role.First d = off (48 + d == 42) (next.Stays state.Star) (asks b role.First (48 + d)) (no_star d)
ask_is b (role.Last m) d = refl
ask_is b (role.RangeStep m n) d = refl
ask_is b role.StarStep d = refl

ask_goes : (b : Bounds) (r : Role) (d : ℕ) → d ≤ 9 → opens b r d ≡ true → after b (state.Ask r) (48 + d) ≡ next.Stays (state.Digit r d)
ask_goes b r d le o = ask_is b r d ∙ ap (ask_digit b r) (digit_is d le) ∙ on (opens b r d) (next.Stays (state.Digit r d)) next.Fault o

second_goes : (b : Bounds) (r : Role) (n d : ℕ) → d ≤ 9 → fits b r (10 * n + d) ≡ true → after b (state.Digit r n) (48 + d) ≡ next.Stays (state.Number r (10 * n + d))
second_goes b r n d le f = ap (second_digit b r n (48 + d)) (digit_is d le) ∙ on (fits b r (10 * n + d)) (next.Stays (state.Number r (10 * n + d))) next.Fault f

opens_one : (b : Bounds) (r : Role) (d : ℕ) → fits b r d ≡ true → opens b r d ≡ true
opens_one b r d f = ap (λ t. t || (nat_le (10 * d) b.high && nat_le (least b r) (10 * d + 9))) f

opens_two : (b : Bounds) (r : Role) (d e : ℕ) → e ≤ 9 → fits b r (10 * d + e) ≡ true → opens b r d ≡ true
opens_two b r d e le f = grind (arith, le, f)

pub record Numbered (m : Machine) (r : Role) (n : ℕ) (text : List ℕ) : Type 0 where
  pub s : ParserState
  pub read : IsNumberAt r n s
  pub runs : run (Some (at m (state.Ask r))) text ≡ Some (at m s)

numbered : (m : Machine) (r : Role) (n : ℕ) (text : List ℕ) → IsNumber text n → fits m.bounds r n ≡ true → Numbered m r n text
numbered m r n text (one d le) f = record {
  s = state.Digit r d;
  read = by_digit;
  runs = ap (led (at m (state.Ask r))) (ask_goes m.bounds r d le (opens_one m.bounds r d f));
}
numbered m r n text (two d e d_le e_le) f = record {
  s = state.Number r (10 * d + e);
  read = by_number;
  runs = ap (λ o. run o ((48 + e) ∷ [])) (ap (led (at m (state.Ask r))) (ask_goes m.bounds r d d_le (opens_two m.bounds r d e e_le f)))
      ∙ ap (led (at m (state.Digit r d))) (second_goes m.bounds r d e e_le f);
}

-- ## Behind a number

number_then : (b : Bounds) (r : Role) (n : ℕ) (s : ParserState) (byte : ℕ) → IsNumberAt r n s → fits b r n ≡ true → digit_of byte ≡ None → after b s byte ≡ after_number r n byte
number_then b r n s byte by_digit f e = ap (second_digit b r n byte) e ∙ on (fits b r n) (after_number r n byte) next.Fault f
number_then b r n s byte by_number f e = on (fits b r n) (after_number r n byte) next.Fault f

-- a part may end there
pub record Ends (b : Bounds) (s : ParserState) (p : Part) : Type 0 where
  pub is_whole : whole b s ≡ Some p
  pub comma : after b s 44 ≡ next.Comma p
  pub space : after b s 32 ≡ next.Space p

ends_at : (r : Role) (n : ℕ) → (after_number r n 44 ≡ next.Comma (part_of r n)) × (after_number r n 32 ≡ next.Space (part_of r n))
ends_at role.First n = (refl, refl)
ends_at (role.Last m) n = (refl, refl)
ends_at (role.RangeStep m k) n = (refl, refl)
ends_at role.StarStep n = (refl, refl)

whole_at : (b : Bounds) (r : Role) (n : ℕ) (s : ParserState) → IsNumberAt r n s → fits b r n ≡ true → whole b s ≡ Some (part_of r n)
whole_at b r n s by_digit f = on (fits b r n) (Some (part_of r n)) None f
whole_at b r n s by_number f = on (fits b r n) (Some (part_of r n)) None f

number_ends : (b : Bounds) (r : Role) (n : ℕ) (s : ParserState) → IsNumberAt r n s → fits b r n ≡ true → Ends b s (part_of r n)
number_ends b r n s read f = record {
  is_whole = whole_at b r n s read f;
  comma = number_then b r n s 44 read f refl ∙ (ends_at r n).0;
  space = number_then b r n s 32 read f refl ∙ (ends_at r n).1;
}

-- ## Parts

fit : (b : Bounds) (r : Role) (n : ℕ) → least b r ≤ n → n ≤ b.high → fits b r n ≡ true
fit b r n low high = grind (arith, low, high)

pub record PartRun (m : Machine) (text : List ℕ) (p : Part) : Type 0 where
  pub s : ParserState
  pub ends : Ends m.bounds s p
  pub runs : run (Some (at m (state.Ask role.First))) text ≡ Some (at m s)

-- the first number of a range, and the dash
dashed : (m : Machine) (from : List ℕ) (first : ℕ) (ys : List ℕ) → IsNumber from first → fits m.bounds role.First first ≡ true
    → run (Some (at m (state.Ask role.First))) (from ++ 45 ∷ ys) ≡ run (Some (at m (state.Ask (role.Last first)))) ys
dashed m from first ys num f =
    let n = numbered m role.First first from num f in
    through _ (at m n.s) (at m (state.Ask (role.Last first))) from ys 45 n.runs (ap (led (at m n.s)) (number_then m.bounds role.First first n.s 45 n.read f refl))

ranged : (m : Machine) (from to ys : List ℕ) (first last : ℕ) → IsNumber from first → IsNumber to last → fits m.bounds role.First first ≡ true → fits m.bounds (role.Last first) last ≡ true
    → run (Some (at m (state.Ask role.First))) (from ++ 45 ∷ (to ++ 47 ∷ ys)) ≡ run (Some (at m (state.Ask (role.RangeStep first last)))) ys
ranged m from to ys first last num num2 f f2 =
    let n = numbered m (role.Last first) last to num2 f2 in
    dashed m from first (to ++ 47 ∷ ys) num f
    ∙ through _ (at m n.s) (at m (state.Ask (role.RangeStep first last))) to ys 47 n.runs (ap (led (at m n.s)) (number_then m.bounds (role.Last first) last n.s 47 n.read f2 refl))

part_run : (m : Machine) (text : List ℕ) (p : Part) → IsPart m.bounds text p → PartRun m text p
part_run m t q (is_number text n num low high) =
    let f = fit m.bounds role.First n low high in
    let k = numbered m role.First n text num f in
    record { s = k.s; ends = number_ends m.bounds role.First n k.s k.read f; runs = k.runs }
part_run m t q (is_range from to first last num num2 low le high) =
    let f = fit m.bounds role.First first low (omega (arith, le, high)) in
    let f2 = fit m.bounds (role.Last first) last le high in
    let k = numbered m (role.Last first) last to num2 f2 in
    record { s = k.s; ends = number_ends m.bounds (role.Last first) last k.s k.read f2; runs = dashed m from first to num f ∙ k.runs }
part_run m t q (is_range_step from to by first last step num num2 num3 low le high some few) =
    let f = fit m.bounds role.First first low (omega (arith, le, high)) in
    let f2 = fit m.bounds (role.Last first) last le high in
    let f3 = fit m.bounds (role.RangeStep first last) step some few in
    let k = numbered m (role.RangeStep first last) step by num3 f3 in
    record { s = k.s; ends = number_ends m.bounds (role.RangeStep first last) step k.s k.read f3; runs = ranged m from to by first last num num2 f f2 ∙ k.runs }
part_run m t q is_star = record { s = state.Star; ends = record { is_whole = refl; comma = refl; space = refl }; runs = refl }
part_run m t q (is_star_step by step num some few) =
    let f = fit m.bounds role.StarStep step some few in
    let k = numbered m role.StarStep step by num f in
    record { s = k.s; ends = number_ends m.bounds role.StarStep step k.s k.read f; runs = k.runs }

-- ## Fields

pub record FieldRun (m : Machine) (text : List ℕ) (ps : List Part) : Type 0 where
  pub s : ParserState
  pub before : List Part
  pub p : Part
  pub are : ps ≡ before ++ p ∷ []
  pub ends : Ends m.bounds s p
  pub runs : run (Some (at m (state.Ask role.First))) text ≡ Some (record m { parts = m.parts ++ before; state = s })

-- before a part
abbrev pub before_part : Bounds → List Bounds → List (List Part) → List Part → Machine
before_part b behind done parts = record { bounds = b; behind = behind; done = done; parts = parts; state = state.Ask role.First }

field_run : (b : Bounds) (text : List ℕ) (ps : List Part) → IsField b text ps → (behind : List Bounds) (done : List (List Part)) (parts : List Part) → FieldRun (before_part b behind done parts) text ps
field_run b t all (last_part text p is) behind done parts =
    let m = before_part b behind done parts in
    let k = part_run m text p is in
    record { s = k.s; before = []; p = p; are = refl; ends = k.ends; runs = k.runs ∙ ap (λ qs. Some (record m { parts = qs; state = k.s })) (sym (append-nil parts)) }
field_run b t all (more_parts text more p qs is field) behind done parts =
    let m = before_part b behind done parts in
    let k = part_run m text p is in
    let next = field_run b more qs field behind done (parts ++ p ∷ []) in
    record {
      s = next.s;
      before = p ∷ next.before;
      p = next.p;
      are = ap (λ xs. p ∷ xs) next.are;
      ends = next.ends;
      runs = through _ (at m k.s) (before_part b behind done (parts ++ p ∷ [])) text more 44 k.runs (ap (led (at m k.s)) k.ends.comma)
          ∙ next.runs ∙ ap (λ xs. Some (record m { parts = xs; state = next.s })) (append_assoc parts (p ∷ []) next.before);
    }

-- ## All fields

-- before the field with these bounds
abbrev pub begin : Bounds → List Bounds → List (List Part) → Machine
begin b bs done = record { bounds = b; behind = bs; done = done; parts = []; state = state.Ask role.First }

-- what a text begins with that isn't a space
pub record Begins (text : List ℕ) : Type 0 where
  pub x : ℕ
  pub xs : List ℕ
  pub is : text ≡ x ∷ xs
  pub other : (x == 32) ≡ false

number_begins : (text : List ℕ) (n : ℕ) (more : List ℕ) → IsNumber text n → Begins (text ++ more)
number_begins t n more (one d le) = record { x = 48 + d; xs = more; is = refl; other = grind arith }
number_begins t n more (two d e d_le e_le) = record { x = 48 + d; xs = (48 + e) ∷ more; is = refl; other = grind arith }

begins_as : (xs ys : List ℕ) → xs ≡ ys → Begins ys → Begins xs
begins_as xs ys e b = record { x = b.x; xs = b.xs; is = e ∙ b.is; other = b.other }

part_begins : (b : Bounds) (text : List ℕ) (p : Part) (more : List ℕ) → IsPart b text p → Begins (text ++ more)
part_begins b t q more (is_number text n num low high) = number_begins text n more num
part_begins b t q more (is_range from to first last num num2 low le high) = begins_as _ _ (append_assoc from (45 ∷ to) more) (number_begins from first _ num)
part_begins b t q more (is_range_step from to by first last step num num2 num3 low le high some few) = begins_as _ _ (append_assoc from (45 ∷ (to ++ 47 ∷ by)) more) (number_begins from first _ num)
part_begins b t q more is_star = record { x = 42; xs = more; is = refl; other = refl }
part_begins b t q more (is_star_step by step num some few) = record { x = 42; xs = (47 ∷ by) ++ more; is = refl; other = refl }

field_begins : (b : Bounds) (text : List ℕ) (ps : List Part) (more : List ℕ) → IsField b text ps → Begins (text ++ more)
field_begins b t all more (last_part text p is) = part_begins b text p more is
field_begins b t all more (more_parts text rest p qs is field) = begins_as _ _ (append_assoc text (44 ∷ rest) more) (part_begins b text p _ is)

fields_begin : (bs : List Bounds) (text : List ℕ) (fields : List (List Part)) → AreFields bs text fields → Begins text
fields_begin bs t fields (last_field b text ps is) = begins_as _ _ (sym (append-nil text)) (field_begins b text ps [] is)
fields_begin bs t fields (more_fields b cs text more ps rest n is are) = field_begins b text ps (32 ∷ (spaces n ++ more)) is

led_alike : (m : Machine) (s : ParserState) (o : Next) → led (at m s) o ≡ led m o
led_alike m s (next.Stays t) = refl
led_alike m s (next.Comma p) = refl
led_alike m s (next.Space p) = by m.behind
  where
    by : (bs : List Bounds) → close (at m s) bs p ≡ close m bs p
    by [] = refl
    by (b ∷ bs) = refl
led_alike m s next.Fault = refl

-- Behind spaces a field begins as at its start.
gap_begins : (m : Machine) (text : List ℕ) → Begins text → run (Some (at m state.Gap)) text ≡ run (Some (at m (state.Ask role.First))) text
gap_begins m text b = subst (λ t. run (Some (at m state.Gap)) t ≡ run (Some (at m (state.Ask role.First))) t) (sym b.is)
    (ap (λ o. run o b.xs) (ap (led (at m state.Gap)) (off (b.x == 32) (next.Stays state.Gap) (begins m.bounds b.x) b.other)
    ∙ led_alike m state.Gap (begins m.bounds b.x) ∙ sym (led_alike m (state.Ask role.First) (begins m.bounds b.x))))

gap_spaces : (m : Machine) (n : ℕ) (text : List ℕ) → run (Some (at m state.Gap)) (spaces n ++ text) ≡ run (Some (at m state.Gap)) text
gap_spaces m zero text = refl
gap_spaces m (suc n) text = gap_spaces m n text

pub record FieldsRun (bs : List Bounds) (text : List ℕ) (done fields : List (List Part)) : Type 0 where
  pub b : Bounds
  pub behind : List Bounds
  pub are : bs ≡ b ∷ behind
  pub m : Machine
  pub runs : run (Some (begin b behind done)) text ≡ Some m
  pub ends : finish m ≡ Some (done ++ fields)

fields_run : (bs : List Bounds) (text : List ℕ) (fields : List (List Part)) → AreFields bs text fields → (done : List (List Part)) → FieldsRun bs text done fields
fields_run bs t fields (last_field b text ps is) done =
    let k = field_run b text ps is [] done [] in
    record {
      b = b;
      behind = [];
      are = refl;
      m = record { bounds = b; behind = []; done = done; parts = k.before; state = k.s };
      runs = k.runs;
      ends = ap (λ o. option_map (λ qs. done ++ qs ∷ []) (option_map (λ p. k.before ++ p ∷ []) o)) k.ends.is_whole ∙ ap (λ qs. Some (done ++ qs ∷ [])) (sym k.are);
    }
fields_run bs t fields (more_fields b cs text more ps rest n is are) done =
    let next = fields_run cs more rest are (done ++ ps ∷ []) in
    let k = field_run b text ps is cs done [] in
    let m : Machine = record { bounds = b; behind = cs; done = done; parts = k.before; state = k.s } in
    let m2 : Machine = record { bounds = next.b; behind = next.behind; done = done ++ ps ∷ []; parts = []; state = state.Gap } in
    let closes : go m 32 ≡ Some m2 = ap (led m) k.ends.space ∙ ap (λ ds. close m ds k.p) next.are ∙ ap (λ qs. Some (record m2 { done = done ++ qs ∷ [] })) (sym k.are) in
    record {
      b = b;
      behind = cs;
      are = refl;
      m = next.m;
      runs = through _ m m2 text (spaces n ++ more) 32 k.runs closes ∙ gap_spaces m2 n more ∙ gap_begins m2 more (fields_begin cs more rest are) ∙ next.runs;
      ends = next.ends ∙ ap Some (append_assoc done (ps ∷ []) rest);
    }

pub record Accepted (text : List ℕ) (fields : List (List Part)) : Type 0 where
  pub m : Machine
  pub runs : run (Some start) text ≡ Some m
  pub ends : finish m ≡ Some fields

pub accepts : (text : List ℕ) (fields : List (List Part)) → IsCronText text fields → Accepted text fields
accepts text fields is =
    let k = fields_run five text fields is [] in
    let e : begin k.b k.behind [] ≡ start = cc (sym k.are) in
    record { m = k.m; runs = ap (λ m. run (Some m) text) (sym e) ∙ k.runs; ends = k.ends }
