-- What a machine has read: whole fields, whole parts, and the text of where it is. Each such text goes on as a cron text, and is one where the
-- machine may end.
use Rattle.std.proofs.Common.{arith, ◌≡◌, ◌≢◌, ◌<◌, ◌≤◌, ◌+◌, ◌*◌, ◌-◌, ◌/◌, ◌%◌, ◌++◌, ◌∷◌, ◌∙◌, ◌⊎◌, [], List, ℕ, zero, suc, Bool, true, false, cond, Option, Some, None, inl, inr, refl, sym, ap, subst, append_assoc, append-nil, nat_le, nat_lt, ◌||◌, ◌&&◌, ◌==◌}
use Rattle.std.specs.Prelude.{option_map}
use Rattle.sk_cron.specs.declared.bounds.Bounds.{Bounds}
use Rattle.sk_cron.specs.declared.part.Part.{Part}
use Rattle.sk_cron.specs.declared.part.Part.TheVariants as part
use Rattle.sk_cron.specs.declared.parser_state.Role.{Role}
use Rattle.sk_cron.specs.declared.parser_state.Role.TheVariants as role
use Rattle.sk_cron.specs.declared.parser_state.ParserState.{ParserState}
use Rattle.sk_cron.specs.declared.parser_state.ParserState.TheVariants as state
use Rattle.sk_cron.specs.declared.parser_state.Next.{Next}
use Rattle.sk_cron.specs.declared.parser_state.Next.TheVariants as next
use Rattle.sk_cron.specs.CronText.{AreFields, IsCronText, IsField, IsNumber, IsPart, days, five, hours, is_number, is_range, is_range_step, is_star, is_star_step, last_field, last_part, minutes, months, more_fields, more_parts, one, spaces, two, weekdays}
use Rattle.sk_cron.specs.Fault.{GoesOn}
use Rattle.sk_cron.specs.Read.{start}
use Rattle.sk_cron.specs.Reading.{Machine, after, close, field_of, fields_in, finish, fits, go, least, led, opens, part_of, whole, whole_number}
use Rattle.sk_cron.proofs.Rows.{IsBegin, IsNumberAt, Led, Row, at_first, behind_gap, by_digit, by_number, comma, dash, digit, first, gap, off, on, row_of, second, slash, space, star, star_slash, tell}

-- ## Fields and parts that are whole

-- fields, each with its spaces; the bounds are those of all fields, and of the ones behind
pub data IsFront (all : List Bounds) : List Bounds → List ℕ → List (List Part) → Type 0 where
  no_front : IsFront all all [] []
  more_front : (b : Bounds) (bs : List Bounds) (front text : List ℕ) (done : List (List Part)) (ps : List Part) (n : ℕ) → IsFront all (b ∷ bs) front done → IsField b text ps →
      IsFront all bs (front ++ (text ++ 32 ∷ spaces n)) (done ++ ps ∷ [])

-- parts, each with its comma
pub data AreBefore (b : Bounds) : List ℕ → List Part → Type 0 where
  no_parts : AreBefore b [] []
  parts_more : (before text : List ℕ) (ps : List Part) (p : Part) → AreBefore b before ps → IsPart b text p → AreBefore b (before ++ (text ++ 44 ∷ [])) (ps ++ p ∷ [])

front_on : (all bs : List Bounds) (front : List ℕ) (done : List (List Part)) → IsFront all bs front done → (rest : List ℕ) (fields : List (List Part)) → AreFields bs rest fields
    → AreFields all (front ++ rest) (done ++ fields)
front_on all bs f d no_front rest fields are = are
front_on all bs f d (more_front b cs front text done ps n is field) rest fields are =
    subst (λ x. AreFields all x ((done ++ ps ∷ []) ++ fields)) (sym (ap (λ x. front ++ x) (append_assoc text (32 ∷ spaces n) rest)) ∙ sym (append_assoc front (text ++ 32 ∷ spaces n) rest))
    (subst (λ x. AreFields all (front ++ (text ++ 32 ∷ (spaces n ++ rest))) x) (sym (append_assoc done (ps ∷ []) fields))
    (front_on all (b ∷ cs) front done is (text ++ 32 ∷ (spaces n ++ rest)) (ps ∷ fields) (more_fields b cs text rest ps fields n field are)))

before_on : (b : Bounds) (before : List ℕ) (ps : List Part) → AreBefore b before ps → (rest : List ℕ) (qs : List Part) → IsField b rest qs → IsField b (before ++ rest) (ps ++ qs)
before_on b x ys no_parts rest qs field = field
before_on b x ys (parts_more before text ps p are is) rest qs field =
    subst (λ x. IsField b x ((ps ++ p ∷ []) ++ qs)) (sym (ap (λ x. before ++ x) (append_assoc text (44 ∷ []) rest)) ∙ sym (append_assoc before (text ++ 44 ∷ []) rest))
    (subst (λ x. IsField b (before ++ (text ++ 44 ∷ rest)) x) (sym (append_assoc ps (p ∷ []) qs))
    (before_on b before ps are (text ++ 44 ∷ rest) (p ∷ qs) (more_parts text rest p qs is field)))

-- ## The part that is read

-- what stands before a number
pub data IsRoleText (b : Bounds) : Role → List ℕ → Type 0 where
  first_text : IsRoleText b role.First []
  last_text : (from : List ℕ) (m : ℕ) → IsNumber from m → fits b role.First m ≡ true → IsRoleText b (role.Last m) (from ++ 45 ∷ [])
  range_text : (from to : List ℕ) (m n : ℕ) → IsNumber from m → IsNumber to n → fits b role.First m ≡ true → fits b (role.Last m) n ≡ true → IsRoleText b (role.RangeStep m n) (from ++ 45 ∷ (to ++ 47 ∷ []))
  step_text : IsRoleText b role.StarStep (42 ∷ 47 ∷ [])

pub data IsSpotText (b : Bounds) : ParserState → List ℕ → Type 0 where
  ask_text : (r : Role) (text : List ℕ) → IsRoleText b r text → IsSpotText b (state.Ask r) text
  digit_text : (r : Role) (text : List ℕ) (d : ℕ) → IsRoleText b r text → d ≤ 9 → opens b r d ≡ true → IsSpotText b (state.Digit r d) (text ++ (48 + d) ∷ [])
  number_text : (r : Role) (text : List ℕ) (d e : ℕ) → IsRoleText b r text → d ≤ 9 → e ≤ 9 → fits b r (10 * d + e) ≡ true → IsSpotText b (state.Number r (10 * d + e)) (text ++ (48 + d) ∷ (48 + e) ∷ [])
  star_text : IsSpotText b state.Star (42 ∷ [])

low_of : (b : Bounds) (r : Role) (n : ℕ) → fits b r n ≡ true → least b r ≤ n
low_of b r n f = grind (arith, f)

high_of : (b : Bounds) (r : Role) (n : ℕ) → fits b r n ≡ true → n ≤ b.high
high_of b r n f = grind (arith, f)

-- a role's text and its number are a part
role_part : (b : Bounds) (r : Role) (text digits : List ℕ) (n : ℕ) → IsRoleText b r text → IsNumber digits n → fits b r n ≡ true → IsPart b (text ++ digits) (part_of r n)
role_part b r t digits n first_text num f = is_number digits n num (low_of b role.First n f) (high_of b role.First n f)
role_part b r t digits n (last_text from m num1 f1) num f =
    subst (λ x. IsPart b x (part.Range m n 1)) (sym (append_assoc from (45 ∷ []) digits))
    (is_range from digits m n num1 num (low_of b role.First m f1) (low_of b (role.Last m) n f) (high_of b (role.Last m) n f))
role_part b r t digits n (range_text from to m k num1 num2 f1 f2) num f =
    subst (λ x. IsPart b x (part.Range m k n)) (sym (append_assoc from (45 ∷ (to ++ 47 ∷ [])) digits ∙ ap (λ x. from ++ 45 ∷ x) (append_assoc to (47 ∷ []) digits)))
    (is_range_step from to digits m k n num1 num2 num (low_of b role.First m f1) (low_of b (role.Last m) k f2) (high_of b (role.Last m) k f2) (low_of b (role.RangeStep m k) n f) (high_of b (role.RangeStep m k) n f))
role_part b r t digits n step_text num f = is_star_step digits n num (low_of b role.StarStep n f) (high_of b role.StarStep n f)

number_part : (b : Bounds) (r : Role) (text digits : List ℕ) (n : ℕ) (p : Part) → IsRoleText b r text → IsNumber digits n → whole_number b r n ≡ Some p → IsPart b (text ++ digits) p
number_part b r text digits n p is num w = elim (tell (fits b r n)) [
  | inl f ↦ let e : part_of r n ≡ p = cc (w, on (fits b r n) (Some (part_of r n)) None f) in subst (λ q. IsPart b (text ++ digits) q) e (role_part b r text digits n is num f)
  | inr f ↦ absurd (cc (w, off (fits b r n) (Some (part_of r n)) None f))
]

-- The text of where it is is a part, where a part is whole there.
state_part : (b : Bounds) (s : ParserState) (text : List ℕ) (p : Part) → IsSpotText b s text → whole b s ≡ Some p → IsPart b text p
state_part b s t p (ask_text r text is) w = absurd (cc w)
state_part b s t p (digit_text r text d is le o) w = number_part b r text ((48 + d) ∷ []) d p is (one d le) w
state_part b s t p (number_text r text d e is d_le e_le f) w = number_part b r text ((48 + d) ∷ (48 + e) ∷ []) (10 * d + e) p is (two d e d_le e_le) w
state_part b s t p star_text w = let e : part.Star ≡ p = cc w in subst (λ q. IsPart b (42 ∷ []) q) e is_star

-- ## What was read

pub record InField (b : Bounds) (bs : List Bounds) (done : List (List Part)) (parts : List Part) (s : ParserState) (text : List ℕ) : Type 0 where
  pub front : List ℕ
  pub before : List ℕ
  pub here : List ℕ
  pub is : text ≡ front ++ (before ++ here)
  pub fields : IsFront five (b ∷ bs) front done
  pub are : AreBefore b before parts
  pub state_is : IsSpotText b s here

pub record InGap (b : Bounds) (bs : List Bounds) (done : List (List Part)) (parts : List Part) (text : List ℕ) : Type 0 where
  pub c : Bounds
  pub front : List ℕ
  pub field : List ℕ
  pub n : ℕ
  pub earlier : List (List Part)
  pub ps : List Part
  pub is : text ≡ front ++ (field ++ 32 ∷ spaces n)
  pub fields : IsFront five (c ∷ b ∷ bs) front earlier
  pub whole_field : IsField c field ps
  pub done_is : done ≡ earlier ++ ps ∷ []
  pub none : parts ≡ []

abbrev pub Read : Bounds → List Bounds → List (List Part) → List Part → ParserState → List ℕ → Type 0
Read b bs done parts state.Gap text = InGap b bs done parts text
Read b bs done parts (state.Ask r) text = InField b bs done parts (state.Ask r) text
Read b bs done parts (state.Digit r n) text = InField b bs done parts (state.Digit r n) text
Read b bs done parts (state.Number r n) text = InField b bs done parts (state.Number r n) text
Read b bs done parts state.Star text = InField b bs done parts state.Star text

abbrev pub Reached : Machine → List ℕ → Type 0
Reached m text = Read m.bounds m.behind m.done m.parts m.state text

pub reached_start : Reached start []
reached_start = record { front = []; before = []; here = []; is = refl; fields = no_front; are = no_parts; state_is = ask_text role.First [] first_text }

-- Behind spaces nothing of the next field is read.
opened : (b : Bounds) (bs : List Bounds) (done : List (List Part)) (parts : List Part) (s : ParserState) (text here : List ℕ) → InGap b bs done parts text → IsSpotText b s here → InField b bs done parts s (text ++ here)
opened b bs done parts s text here g is = record {
  front = g.front ++ (g.field ++ 32 ∷ spaces g.n);
  before = [];
  here = here;
  is = ap (λ x. x ++ here) g.is;
  fields = subst (λ d. IsFront five (b ∷ bs) (g.front ++ (g.field ++ 32 ∷ spaces g.n)) d) (sym g.done_is) (more_front g.c (b ∷ bs) g.front g.field g.earlier g.ps g.n g.fields g.whole_field);
  are = subst (λ ps. AreBefore b [] ps) (sym g.none) no_parts;
  state_is = is;
}

spaces_more : (n : ℕ) → spaces n ++ 32 ∷ [] ≡ spaces (suc n)
spaces_more zero = refl
spaces_more (suc n) = ap (λ x. 32 ∷ x) (spaces_more n)

-- one more byte where it is
grown : (b : Bounds) (bs : List Bounds) (done : List (List Part)) (parts : List Part) (s t : ParserState) (text here_ : List ℕ) (x : ℕ) (f : InField b bs done parts s text)
    → f.here ++ x ∷ [] ≡ here_ → IsSpotText b t here_ → InField b bs done parts t (text ++ x ∷ [])
grown b bs done parts s t text here_ x f e is = record {
  front = f.front;
  before = f.before;
  here = here_;
  is = ap (λ y. y ++ x ∷ []) f.is ∙ append_assoc f.front (f.before ++ f.here) (x ∷ []) ∙ ap (λ y. f.front ++ y) (append_assoc f.before f.here (x ∷ []) ∙ ap (λ y. f.before ++ y) e);
  fields = f.fields;
  are = f.are;
  state_is = is;
}

-- ## One byte more

first_empty : (b : Bounds) (h : List ℕ) → IsSpotText b (state.Ask role.First) h → h ≡ []
first_empty b h (ask_text r text first_text) = refl

role_of : (b : Bounds) (r : Role) (h : List ℕ) → IsSpotText b (state.Ask r) h → IsRoleText b r h
role_of b r h (ask_text q text is) = is

-- the digits of the number that was read there, and what stands before it
pub record AtNumber (b : Bounds) (r : Role) (n : ℕ) (h : List ℕ) : Type 0 where
  pub text : List ℕ
  pub digits : List ℕ
  pub is : h ≡ text ++ digits
  pub role_is : IsRoleText b r text
  pub num : IsNumber digits n

at_number : (b : Bounds) (r : Role) (n : ℕ) (s : ParserState) (h : List ℕ) → IsNumberAt r n s → IsSpotText b s h → AtNumber b r n h
at_number b r n s h by_digit (digit_text q text d is le o) = record { text = text; digits = (48 + d) ∷ []; is = refl; role_is = is; num = one d le }
at_number b r n s h by_number (number_text q text d e is d_le e_le f) = record { text = text; digits = (48 + d) ∷ (48 + e) ∷ []; is = refl; role_is = is; num = two d e d_le e_le }

field_at : (b : Bounds) (bs : List Bounds) (done : List (List Part)) (parts : List Part) (r : Role) (n : ℕ) (s : ParserState) (text : List ℕ) → IsNumberAt r n s → Read b bs done parts s text → InField b bs done parts s text
field_at b bs done parts r n s text by_digit f = f
field_at b bs done parts r n s text by_number f = f

field_whole : (b : Bounds) (bs : List Bounds) (done : List (List Part)) (parts : List Part) (s : ParserState) (p : Part) (text : List ℕ) → whole b s ≡ Some p → Read b bs done parts s text → InField b bs done parts s text
field_whole b bs done parts state.Gap p text w f = absurd (cc w)
field_whole b bs done parts (state.Ask r) p text w f = f
field_whole b bs done parts (state.Digit r n) p text w f = f
field_whole b bs done parts (state.Number r n) p text w f = f
field_whole b bs done parts state.Star p text w f = f

-- from the start of a field or a part
begun : (b : Bounds) (bs : List Bounds) (done : List (List Part)) (parts : List Part) (s t : ParserState) (text : List ℕ) (x : ℕ) → IsBegin s → Read b bs done parts s text → IsSpotText b t (x ∷ [])
    → InField b bs done parts t (text ++ x ∷ [])
begun b bs done parts s t text x behind_gap g is = opened b bs done parts t text (x ∷ []) g is
begun b bs done parts s t text x at_first f is = grown b bs done parts (state.Ask role.First) t text (x ∷ []) x f (ap (λ h. h ++ x ∷ []) (first_empty b f.here f.state_is)) is

gap_more : (b : Bounds) (bs : List Bounds) (done : List (List Part)) (parts : List Part) (text : List ℕ) → InGap b bs done parts text → InGap b bs done parts (text ++ 32 ∷ [])
gap_more b bs done parts text g = record {
  c = g.c;
  front = g.front;
  field = g.field;
  n = suc g.n;
  earlier = g.earlier;
  ps = g.ps;
  is = ap (λ y. y ++ 32 ∷ []) g.is ∙ append_assoc g.front (g.field ++ 32 ∷ spaces g.n) (32 ∷ [])
      ∙ ap (λ y. g.front ++ y) (append_assoc g.field (32 ∷ spaces g.n) (32 ∷ []) ∙ ap (λ y. g.field ++ 32 ∷ y) (spaces_more g.n));
  fields = g.fields;
  whole_field = g.whole_field;
  done_is = g.done_is;
  none = g.none;
}

second_read : (b : Bounds) (bs : List Bounds) (done : List (List Part)) (parts : List Part) (r : Role) (n d : ℕ) (text : List ℕ) (f : InField b bs done parts (state.Digit r n) text) → d ≤ 9 → fits b r (10 * n + d) ≡ true
    → (h : List ℕ) → f.here ≡ h → IsSpotText b (state.Digit r n) h → InField b bs done parts (state.Number r (10 * n + d)) (text ++ (48 + d) ∷ [])
second_read b bs done parts r n d text f le fit h e (digit_text q before k is k_le o) =
    grown b bs done parts (state.Digit q k) (state.Number q (10 * k + d)) text (before ++ (48 + k) ∷ (48 + d) ∷ []) (48 + d) f
    (ap (λ y. y ++ (48 + d) ∷ []) e ∙ append_assoc before ((48 + k) ∷ []) ((48 + d) ∷ [])) (number_text q before k d is k_le le fit)

first_role : (b : Bounds) (text : List ℕ) → IsRoleText b role.First text → text ≡ []
first_role b text first_text = refl

dashed : (b : Bounds) (n : ℕ) (h : List ℕ) → AtNumber b role.First n h → fits b role.First n ≡ true → IsSpotText b (state.Ask (role.Last n)) (h ++ 45 ∷ [])
dashed b n h a f =
    let e : h ≡ a.digits = a.is ∙ ap (λ t. t ++ a.digits) (first_role b a.text a.role_is) in
    subst (λ x. IsSpotText b (state.Ask (role.Last n)) (x ++ 45 ∷ [])) (sym e) (ask_text (role.Last n) (a.digits ++ 45 ∷ []) (last_text a.digits n a.num f))

slashed : (b : Bounds) (m n : ℕ) (h text digits : List ℕ) → h ≡ text ++ digits → IsRoleText b (role.Last m) text → IsNumber digits n → fits b (role.Last m) n ≡ true
    → IsSpotText b (state.Ask (role.RangeStep m n)) (h ++ 47 ∷ [])
slashed b m n h text digits e (last_text from k num f1) num2 f =
    let is : h ++ 47 ∷ [] ≡ from ++ 45 ∷ (digits ++ 47 ∷ []) = ap (λ x. x ++ 47 ∷ []) e ∙ append_assoc (from ++ 45 ∷ []) digits (47 ∷ []) ∙ append_assoc from (45 ∷ []) (digits ++ 47 ∷ []) in
    subst (λ x. IsSpotText b (state.Ask (role.RangeStep k n)) x) (sym is) (ask_text (role.RangeStep k n) _ (range_text from digits k n num num2 f1 f))

star_here : (b : Bounds) (h : List ℕ) → IsSpotText b state.Star h → h ≡ 42 ∷ []
star_here b h star_text = refl

comma_read : (b : Bounds) (bs : List Bounds) (done : List (List Part)) (parts : List Part) (s : ParserState) (p : Part) (text : List ℕ) → InField b bs done parts s text → whole b s ≡ Some p
    → InField b bs done (parts ++ p ∷ []) (state.Ask role.First) (text ++ 44 ∷ [])
comma_read b bs done parts s p text f w = record {
  front = f.front;
  before = f.before ++ (f.here ++ 44 ∷ []);
  here = [];
  is = ap (λ y. y ++ 44 ∷ []) f.is ∙ append_assoc f.front (f.before ++ f.here) (44 ∷ []) ∙ ap (λ y. f.front ++ y) (append_assoc f.before f.here (44 ∷ []) ∙ sym (append-nil _));
  fields = f.fields;
  are = parts_more f.before f.here parts p f.are (state_part b s f.here p f.state_is w);
  state_is = ask_text role.First [] first_text;
}

space_read : (b c : Bounds) (bs : List Bounds) (done : List (List Part)) (parts : List Part) (s : ParserState) (p : Part) (text : List ℕ) → InField b (c ∷ bs) done parts s text → whole b s ≡ Some p
    → InGap c bs (done ++ (parts ++ p ∷ []) ∷ []) [] (text ++ 32 ∷ [])
space_read b c bs done parts s p text f w = record {
  c = b;
  front = f.front;
  field = f.before ++ f.here;
  n = 0;
  earlier = done;
  ps = parts ++ p ∷ [];
  is = ap (λ y. y ++ 32 ∷ []) f.is ∙ append_assoc f.front (f.before ++ f.here) (32 ∷ []);
  fields = f.fields;
  whole_field = before_on b f.before parts f.are f.here (p ∷ []) (last_part f.here p (state_part b s f.here p f.state_is w));
  done_is = refl;
  none = refl;
}

abbrev mach : Bounds → List Bounds → List (List Part) → List Part → ParserState → Machine
mach b bs done parts s = record { bounds = b; behind = bs; done = done; parts = parts; state = s }

went : (m n : Machine) (text : List ℕ) → Reached m text → Some m ≡ Some n → Reached n text
went m n text r e = let is : m ≡ n = cc e in subst (λ k. Reached k text) is r

by_close : (b : Bounds) (bs : List Bounds) (done : List (List Part)) (parts : List Part) (s : ParserState) (p : Part) (text : List ℕ) → InField b bs done parts s text → whole b s ≡ Some p → (n : Machine)
    → close (mach b bs done parts s) bs p ≡ Some n → Reached n (text ++ 32 ∷ [])
by_close b [] done parts s p text f w n e = absurd (cc e)
by_close b (c ∷ bs) done parts s p text f w n e = went (mach c bs (done ++ (parts ++ p ∷ []) ∷ []) [] state.Gap) n (text ++ 32 ∷ []) (space_read b c bs done parts s p text f w) e

by_row : (b : Bounds) (bs : List Bounds) (done : List (List Part)) (parts : List Part) (s : ParserState) (byte : ℕ) (o : Next) (text : List ℕ) → Row b s byte o → Read b bs done parts s text → (n : Machine)
    → led (mach b bs done parts s) o ≡ Some n → Reached n (text ++ byte ∷ [])
by_row b bs done parts s byte o text gap r n e = went (mach b bs done parts state.Gap) n _ (gap_more b bs done parts text r) e
by_row b bs done parts s byte o text (star t at) r n e = went (mach b bs done parts state.Star) n _ (begun b bs done parts t state.Star text 42 at r star_text) e
by_row b bs done parts s byte o text (first t d at le op) r n e = went (mach b bs done parts (state.Digit role.First d)) n _
    (begun b bs done parts t (state.Digit role.First d) text (48 + d) at r (digit_text role.First [] d first_text le op)) e
by_row b bs done parts s byte o text (digit q d le op) r n e = went (mach b bs done parts (state.Digit q d)) n _
    (grown b bs done parts (state.Ask q) (state.Digit q d) text _ (48 + d) r refl (digit_text q r.here d (role_of b q r.here r.state_is) le op)) e
by_row b bs done parts s byte o text (second q k d le f) r n e = went (mach b bs done parts (state.Number q (10 * k + d))) n _ (second_read b bs done parts q k d text r le f r.here refl r.state_is) e
by_row b bs done parts s byte o text (dash t k at f) r n e =
    let h = field_at b bs done parts role.First k t text at r in
    went (mach b bs done parts (state.Ask (role.Last k))) n _ (grown b bs done parts t (state.Ask (role.Last k)) text _ 45 h refl (dashed b k h.here (at_number b role.First k t h.here at h.state_is) f)) e
by_row b bs done parts s byte o text (slash t m k at f) r n e =
    let h = field_at b bs done parts (role.Last m) k t text at r in
    let a = at_number b (role.Last m) k t h.here at h.state_is in
    went (mach b bs done parts (state.Ask (role.RangeStep m k))) n _ (grown b bs done parts t (state.Ask (role.RangeStep m k)) text _ 47 h refl (slashed b m k h.here a.text a.digits a.is a.role_is a.num f)) e
by_row b bs done parts s byte o text star_slash r n e = went (mach b bs done parts (state.Ask role.StarStep)) n _
    (grown b bs done parts state.Star (state.Ask role.StarStep) text (42 ∷ 47 ∷ []) 47 r (ap (λ y. y ++ 47 ∷ []) (star_here b r.here r.state_is)) (ask_text role.StarStep _ step_text)) e
by_row b bs done parts s byte o text (comma t p w) r n e = went (mach b bs done (parts ++ p ∷ []) (state.Ask role.First)) n _ (comma_read b bs done parts t p text (field_whole b bs done parts t p text w r) w) e
by_row b bs done parts s byte o text (space t p w) r n e = by_close b bs done parts t p text (field_whole b bs done parts t p text w r) w n e

pub reached_next : (m n : Machine) (byte : ℕ) (text : List ℕ) → Reached m text → go m byte ≡ Some n → Reached n (text ++ byte ∷ [])
reached_next m n byte text r e = elim (row_of m.bounds m.state byte) [
  | inl no_row ↦ absurd (cc (sym e ∙ ap (led m) no_row))
  | inr row ↦ by_row m.bounds m.behind m.done m.parts m.state byte _ text row r n e
]

-- ## At the end

ended_at : (b : Bounds) (done : List (List Part)) (parts : List Part) (s : ParserState) (text : List ℕ) (fields : List (List Part)) (o : Option Part) → Read b [] done parts s text → whole b s ≡ o
    → option_map (λ ps. done ++ ps ∷ []) (option_map (λ p. parts ++ p ∷ []) o) ≡ Some fields → IsCronText text fields
ended_at b done parts s text fields None r w e = absurd (cc e)
ended_at b done parts s text fields (Some p) r w e =
    let f = field_whole b [] done parts s p text w r in
    let is : done ++ (parts ++ p ∷ []) ∷ [] ≡ fields = cc e in
    let field = before_on b f.before parts f.are f.here (p ∷ []) (last_part f.here p (state_part b s f.here p f.state_is w)) in
    subst (λ x. AreFields five x fields) (sym f.is) (subst (λ x. AreFields five (f.front ++ (f.before ++ f.here)) x) is
    (front_on five (b ∷ []) f.front done f.fields (f.before ++ f.here) ((parts ++ p ∷ []) ∷ []) (last_field b (f.before ++ f.here) (parts ++ p ∷ []) field)))

pub reached_end : (m : Machine) (text : List ℕ) (fields : List (List Part)) → Reached m text → finish m ≡ Some fields → IsCronText text fields
reached_end m text fields r e = by m.behind r e
  where
    by : (bs : List Bounds) → Read m.bounds bs m.done m.parts m.state text → fields_in m bs ≡ Some fields → IsCronText text fields
    by [] r e = ended_at m.bounds m.done m.parts m.state text fields (whole m.bounds m.state) r refl e
    by (b ∷ bs) r e = absurd (cc e)

-- ## Going on

-- some number of one or two digits is within the bounds, and a step too
pub record Good (b : Bounds) : Type 0 where
  pub some : 1 ≤ b.high
  pub order : b.low ≤ b.high
  pub few : b.high ≤ 99

abbrev AllGood : List Bounds → Type 0
AllGood [] = Unit {0}
AllGood (b ∷ bs) = Good b × AllGood bs

front_good : (all bs : List Bounds) (front : List ℕ) (done : List (List Part)) → AllGood all → IsFront all bs front done → AllGood bs
front_good all bs f d good no_front = good
front_good all bs f d good (more_front b cs front text done ps n is field) = (front_good all (b ∷ cs) front done good is).1

good : (b : Bounds) → 1 ≤ b.high → b.low ≤ b.high → b.high ≤ 99 → Good b
good b s o f = record { some = s; order = o; few = f }

five_good : AllGood five
five_good = (
  good minutes (omega arith) (omega arith) (omega arith),
  (
    good hours (omega arith) (omega arith) (omega arith),
    (
      good days (omega arith) (omega arith) (omega arith),
      (good months (omega arith) (omega arith) (omega arith), (good weekdays (omega arith) (omega arith) (omega arith), tt)),
    ),
  ),
)

-- the fields behind one
record Rest (bs : List Bounds) : Type 0 where
  tail : List ℕ
  fields : List (List Part)
  ends : (b : Bounds) (text : List ℕ) (ps : List Part) → IsField b text ps → AreFields (b ∷ bs) (text ++ tail) (ps ∷ fields)

rest_of : (bs : List Bounds) → Rest bs
rest_of [] = record { tail = []; fields = []; ends = λ b text ps f. subst (λ x. AreFields (b ∷ []) x (ps ∷ [])) (sym (append-nil text)) (last_field b text ps f) }
rest_of (c ∷ cs) = let r = rest_of cs in record {
  tail = 32 ∷ 42 ∷ r.tail;
  fields = (part.Star ∷ []) ∷ r.fields;
  ends = λ b text ps f. more_fields b (c ∷ cs) text (42 ∷ r.tail) ps ((part.Star ∷ []) ∷ r.fields) 0 f (r.ends c (42 ∷ []) (part.Star ∷ []) (last_part (42 ∷ []) part.Star is_star));
}

-- a part that begins so
record PartEnd (b : Bounds) (here : List ℕ) : Type 0 where
  more : List ℕ
  p : Part
  is : IsPart b (here ++ more) p

least_fits : (b : Bounds) (r : Role) (text : List ℕ) → Good b → IsRoleText b r text → fits b r (least b r) ≡ true
least_fits b r t g first_text = grind (arith, g.order)
least_fits b r t g (last_text from m num f) = grind (arith, f)
least_fits b r t g (range_text from to m n num num2 f f2) = grind (arith, g.some)
least_fits b r t g step_text = grind (arith, g.some)

two_digits : (n : ℕ) → n ≤ 99 → IsNumber ((48 + n / 10) ∷ (48 + n % 10) ∷ []) n
two_digits n le = subst (λ k. IsNumber ((48 + n / 10) ∷ (48 + n % 10) ∷ []) k) (omega arith) (two (n / 10) (n % 10) (omega (arith, le)) (omega arith))

-- the number after a first digit: the least one that fits
second_of : (b : Bounds) (r : Role) (d : ℕ) → Good b → fits b r (least b r) ≡ true → opens b r d ≡ true → fits b r d ≡ false → (e : ℕ) × (e ≤ 9) × (fits b r (10 * d + e) ≡ true)
second_of b r d g f o n = (least b r - 10 * d, grind (arith, o, n, f, g.few), grind (arith, o, n, f, g.few))

part_end : (b : Bounds) (s : ParserState) (here : List ℕ) → Good b → IsSpotText b s here → PartEnd b here
part_end b s h g (ask_text r text is) =
    let f = least_fits b r text g is in
    record { more = (48 + least b r / 10) ∷ (48 + least b r % 10) ∷ []; p = part_of r (least b r); is = role_part b r text _ (least b r) is (two_digits (least b r) (grind (arith, f, g.few))) f }
part_end b s h g (digit_text r text d is le o) = elim (tell (fits b r d)) [
  | inl f ↦ record { more = []; p = part_of r d; is = subst (λ x. IsPart b x (part_of r d)) (sym (append-nil _)) (role_part b r text ((48 + d) ∷ []) d is (one d le) f) }
  | inr n ↦ let k = second_of b r d g (least_fits b r text g is) o n in
      record {
        more = (48 + k.0) ∷ [];
        p = part_of r (10 * d + k.0);
        is = subst (λ x. IsPart b x (part_of r (10 * d + k.0))) (sym (append_assoc text ((48 + d) ∷ []) ((48 + k.0) ∷ [])))
            (role_part b r text ((48 + d) ∷ (48 + k.0) ∷ []) (10 * d + k.0) is (two d k.0 le k.1) k.2);
      }
]
part_end b s h g (number_text r text d e is d_le e_le f) =
    record { more = []; p = part_of r (10 * d + e); is = subst (λ x. IsPart b x (part_of r (10 * d + e))) (sym (append-nil _)) (role_part b r text ((48 + d) ∷ (48 + e) ∷ []) (10 * d + e) is (two d e d_le e_le) f) }
part_end b s h g star_text = record { more = []; p = part.Star; is = is_star }

field_goes_on : (b : Bounds) (bs : List Bounds) (done : List (List Part)) (parts : List Part) (s : ParserState) (text : List ℕ) → InField b bs done parts s text → GoesOn text
field_goes_on b bs done parts s text f =
    let k = part_end b s f.here (front_good five (b ∷ bs) f.front done five_good f.fields).0 f.state_is in
    let r = rest_of bs in
    let field = before_on b f.before parts f.are (f.here ++ k.more) (k.p ∷ []) (last_part (f.here ++ k.more) k.p k.is) in
    let are = front_on five (b ∷ bs) f.front done f.fields ((f.before ++ (f.here ++ k.more)) ++ r.tail) ((parts ++ k.p ∷ []) ∷ r.fields) (r.ends b (f.before ++ (f.here ++ k.more)) (parts ++ k.p ∷ []) field) in
    let e : text ++ (k.more ++ r.tail) ≡ f.front ++ ((f.before ++ (f.here ++ k.more)) ++ r.tail) =
    ap (λ x. x ++ (k.more ++ r.tail)) f.is ∙ append_assoc f.front (f.before ++ f.here) (k.more ++ r.tail)
    ∙ ap (λ x. f.front ++ x) (sym (append_assoc (f.before ++ f.here) k.more r.tail) ∙ ap (λ x. x ++ r.tail) (append_assoc f.before f.here k.more)) in
    let all = done ++ (parts ++ k.p ∷ []) ∷ r.fields in
    (k.more ++ r.tail, all, subst (λ x. AreFields five x all) (sym e) are)

gap_goes_on : (b : Bounds) (bs : List Bounds) (done : List (List Part)) (parts : List Part) (text : List ℕ) → InGap b bs done parts text → GoesOn text
gap_goes_on b bs done parts text g =
    let next = field_goes_on b bs done parts state.Star (text ++ 42 ∷ []) (opened b bs done parts state.Star text (42 ∷ []) g star_text) in
    (42 ∷ next.0, next.1, subst (λ x. AreFields five x next.1) (append_assoc text (42 ∷ []) next.0) next.2)

pub goes_on : (m : Machine) (text : List ℕ) → Reached m text → GoesOn text
goes_on m text r = by m.state r
  where
    by : (s : ParserState) → Read m.bounds m.behind m.done m.parts s text → GoesOn text
    by state.Gap r = gap_goes_on m.bounds m.behind m.done m.parts text r
    by (state.Ask q) r = field_goes_on m.bounds m.behind m.done m.parts (state.Ask q) text r
    by (state.Digit q n) r = field_goes_on m.bounds m.behind m.done m.parts (state.Digit q n) text r
    by (state.Number q n) r = field_goes_on m.bounds m.behind m.done m.parts (state.Number q n) text r
    by state.Star r = field_goes_on m.bounds m.behind m.done m.parts state.Star text r
