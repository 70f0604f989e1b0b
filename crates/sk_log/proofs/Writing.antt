-- What the two writes of an append make of a log, whole and cut short.
use Rattle.std.proofs.Common.{◌≡◌, ◌≢◌, inl, inr, ℕ, Bool, true, false, ◌+◌, ◌-◌, ◌<◌, ◌≤◌, ◌^◌, List, [], ◌∷◌, ◌++◌, length, get_or, take, drop, refl, sym, ◌∙◌, ap, arith, append_assoc, length-append, slice_set, nat_eq}
use Rattle.std.specs.Bool.{MatchBool}
use Rattle.std.proofs.lemmas.Bool.{cases_eq}
use Rattle.std.proofs.lemmas.Bool.Decides.{nat_tests}
use Rattle.std.proofs.lemmas.List.{take_at, drop_at, drop_more, append-nil}
use Rattle.sk_disk.specs.Images.{Images, Narrows, Follows, Torn, Written}
use Rattle.sk_log.specs.File.{AllFit, AllStood, Body, IsAt, IsGroup, IsStaged, Staged, Stages, Stood, StoodOrMore, framed, front, header, place, records, sealed, staged}

-- ## Lists

-- more records, and then whatever follows
records-more : (bodies group : List Body) (rest : List ℕ) → records (bodies ++ group) ++ rest ≡ records bodies ++ (records group ++ rest)
records-more [] group rest = refl
records-more (b ∷ bodies) group rest =
    ap (λ (l : List ℕ). 1 ∷ l) (append_assoc (framed b) (records (bodies ++ group)) rest ∙ ap (λ (l : List ℕ). framed b ++ l) (records-more bodies group rest) ∙ sym (append_assoc (framed b) (records bodies) (records group ++ rest)))

pub front-more : (bodies group : List Body) (rest : List ℕ) → front (bodies ++ group) ++ rest ≡ front bodies ++ (records group ++ rest)
front-more bodies group rest = append_assoc header (records (bodies ++ group)) rest ∙ ap (λ (l : List ℕ). header ++ l) (records-more bodies group rest) ∙ sym (append_assoc header (records bodies) (records group ++ rest))

-- one record more
pub front-push : (bodies : List Body) (body : Body) (rest : List ℕ) → front (bodies ++ body ∷ []) ++ rest ≡ front bodies ++ (1 ∷ (framed body ++ rest))
front-push bodies body rest = front-more bodies (body ∷ []) rest ∙ ap (λ (l : List ℕ). front bodies ++ (1 ∷ (l ++ rest))) (append-nil (framed body))

-- a front, one byte, and the rest
module _ (front : List ℕ) (gate : ℕ) (rest : List ℕ) (at : ℕ) (at_is : at ≡ length front) where
  pub through : take (at + 1) (front ++ (gate ∷ rest)) ≡ front ++ (gate ∷ [])
  through = ap (λ (l : List ℕ). take (at + 1) l) (sym (append_assoc front (gate ∷ []) rest)) ∙ take_at (front ++ (gate ∷ [])) rest (at + 1) (omega (arith, at_is, length-append front (gate ∷ [])))

  pub behind : drop (at + 1) (front ++ (gate ∷ rest)) ≡ rest
  behind = ap (λ (l : List ℕ). drop (at + 1) l) (sym (append_assoc front (gate ∷ []) rest)) ∙ drop_at (front ++ (gate ∷ [])) rest (at + 1) (omega (arith, at_is, length-append front (gate ∷ [])))

  pub long : at + 1 ≤ length (front ++ (gate ∷ rest))
  long = omega (arith, at_is, length-append front (gate ∷ rest))

-- ## The first write: behind the closed gate

-- whatever stands behind it, the gate stays closed
torn_behind : (bodies : List Body) (at n : ℕ) (old new : List ℕ) → at ≡ place bodies → Stood bodies old → Torn (at + 1) n old new → Stood bodies new
torn_behind bodies at n old new at_is stood torn =
    let before : take (at + 1) old ≡ front bodies ++ (stood.gate ∷ []) = ap (λ (l : List ℕ). take (at + 1) l) stood.is ∙ through (front bodies) stood.gate stood.rest at at_is in
    record {
      fit = stood.fit;
      gate = stood.gate;
      rest = torn.front.0;
      closed = stood.closed;
      is = torn.front.1 ∙ ap (λ (l : List ℕ). l ++ torn.front.0) before ∙ append_assoc (front bodies) (stood.gate ∷ []) torn.front.0;
    }

written_behind : (bodies : List Body) (at : ℕ) (bytes old new : List ℕ) → at ≡ place bodies → Stood bodies old → Written (at + 1) bytes old new → Staged bodies bytes new
written_behind bodies at bytes old new at_is stood written =
    let end = drop (at + 1 + length bytes) old in
    let before : take (at + 1) old ≡ front bodies ++ (stood.gate ∷ []) = ap (λ (l : List ℕ). take (at + 1) l) stood.is ∙ through (front bodies) stood.gate stood.rest at at_is in
    let reaches : at + 1 ≤ length old = omega (arith, ap length stood.is, long (front bodies) stood.gate stood.rest at at_is) in
    record {
      fit = stood.fit;
      gate = stood.gate;
      rest = end;
      closed = stood.closed;
      is = written reaches ∙ ap (λ (l : List ℕ). l ++ bytes ++ end) before ∙ append_assoc (front bodies ++ (stood.gate ∷ [])) bytes end ∙ append_assoc (front bodies) (stood.gate ∷ []) (bytes ++ end);
    }

-- ## The second: the gate

fit-more : (bodies group : List Body) → AllFit bodies → AllFit group → AllFit (bodies ++ group)
fit-more [] group fit fits = fits
fit-more (b ∷ bodies) group (first, fit) fits = (first, fit-more bodies group fit fits)

pub fit-push : (bodies : List Body) (body : Body) → AllFit bodies → length body < 2 ^ 25 → AllFit (bodies ++ body ∷ [])
fit-push bodies body fit fits = fit-more bodies (body ∷ []) fit (fits, tt)

-- a group behind an open gate
staged_is : (group : List Body) (rest : List ℕ) → group ≢ [] → 1 ∷ (staged group ++ rest) ≡ records group ++ (0 ∷ rest)
staged_is [] rest some = absurd (some refl)
staged_is (b ∷ bs) rest some = ap (λ (l : List ℕ). 1 ∷ l) (append_assoc (framed b ++ records bs) (0 ∷ []) rest)

stood_more : (bodies group : List Body) (rest image : List ℕ) → AllFit bodies → Stages group (staged group) → image ≡ front bodies ++ (1 ∷ (staged group ++ rest)) → Stood (bodies ++ group) image
stood_more bodies group rest image fit s is = record {
  fit = fit-more bodies group fit s.fit;
  gate = 0;
  rest = rest;
  closed = omega arith;
  is = is ∙ ap (λ (l : List ℕ). front bodies ++ l) (staged_is group rest s.some) ∙ sym (front-more bodies group (0 ∷ rest));
}

-- whatever the gate is, the records behind it are whole
stood_gate : (bodies group : List Body) (gate : ℕ) (rest image : List ℕ) → AllFit bodies → Stages group (staged group) → image ≡ front bodies ++ (gate ∷ (staged group ++ rest)) → StoodOrMore bodies group image
stood_gate bodies group gate rest image fit s is = elim (cases_eq gate 1) [
  | inl is_open ↦ inr (stood_more bodies group rest image fit s (is ∙ ap (λ (g : ℕ). front bodies ++ (g ∷ (staged group ++ rest))) is_open))
  | inr shut ↦ inl (record { fit = fit; gate = gate; rest = staged group ++ rest; closed = shut; is = is })
]

torn_gate : (bodies group : List Body) (at : ℕ) (old new : List ℕ) → Stages group (staged group) → at ≡ place bodies → Staged bodies (staged group) old → Torn at 1 old new → StoodOrMore bodies group new
torn_gate bodies group at old new s at_is stood torn =
    let tail = staged group ++ stood.rest in
    let before : take at old ≡ front bodies = ap (λ (l : List ℕ). take at l) stood.is ∙ take_at (front bodies) (stood.gate ∷ tail) at (sym at_is) in
    let after : drop (at + 1) new ≡ tail = torn.back ∙ ap (λ (l : List ℕ). drop (at + 1) l) stood.is ∙ behind (front bodies) stood.gate tail at at_is in
    let whole : new ≡ front bodies ++ torn.front.0 = torn.front.1 ∙ ap (λ (l : List ℕ). l ++ torn.front.0) before in
    let reaches : at + 1 ≤ length old = omega (arith, ap length stood.is, long (front bodies) stood.gate tail at at_is) in
    let more : torn.front.0 ≡ get_or new at 0 ∷ tail = sym (drop_at (front bodies) torn.front.0 at (sym at_is)) ∙ ap (λ (l : List ℕ). drop at l) (sym whole) ∙ drop_more new at 0 (omega (arith, reaches, torn.no_shorter)) ∙ ap (λ (l : List ℕ). get_or new at 0 ∷ l) after in
    stood_gate bodies group (get_or new at 0) stood.rest new stood.fit s (whole ∙ ap (λ (l : List ℕ). front bodies ++ l) more)

written_gate : (bodies group : List Body) (at : ℕ) (old new : List ℕ) → Stages group (staged group) → at ≡ place bodies → Staged bodies (staged group) old → Written at (1 ∷ []) old new → Stood (bodies ++ group) new
written_gate bodies group at old new s at_is stood written =
    let tail = staged group ++ stood.rest in
    let before : take at old ≡ front bodies = ap (λ (l : List ℕ). take at l) stood.is ∙ take_at (front bodies) (stood.gate ∷ tail) at (sym at_is) in
    let after : drop (at + 1) old ≡ tail = ap (λ (l : List ℕ). drop (at + 1) l) stood.is ∙ behind (front bodies) stood.gate tail at at_is in
    let reaches : at ≤ length old = omega (arith, ap length stood.is, long (front bodies) stood.gate tail at at_is) in
    stood_more bodies group stood.rest new stood.fit s (written reaches ∙ append_assoc (take at old) (1 ∷ []) (drop (at + 1) old) ∙ ap (λ (l : List ℕ). l ++ (1 ∷ drop (at + 1) old)) before ∙ ap (λ (l : List ℕ). front bodies ++ (1 ∷ l)) after)

-- ## The same of all that a crash may leave

pub all_torn_behind : (bodies : List Body) (at n : ℕ) (old new : Images) → IsAt bodies at old → Follows (Torn (at + 1) n) old new → AllStood bodies new
all_torn_behind bodies at n old new is_at follows c left = let from = follows c left in torn_behind bodies at n from.0 c is_at.gate_is (is_at.stood from.0 from.1) from.2

pub all_written_behind : (bodies : List Body) (at : ℕ) (bytes : List ℕ) (old new : Images) → IsAt bodies at old → Follows (Written (at + 1) bytes) old new → Narrows (Staged bodies bytes) new
all_written_behind bodies at bytes old new is_at follows c left = let from = follows c left in written_behind bodies at bytes from.0 c is_at.gate_is (is_at.stood from.0 from.1) from.2

pub all_torn_gate : (bodies group : List Body) (at : ℕ) (old new : Images) → Stages group (staged group) → IsStaged bodies at (staged group) old → Follows (Torn at 1) old new → Narrows (StoodOrMore bodies group) new
all_torn_gate bodies group at old new s all follows c left = let from = follows c left in torn_gate bodies group at from.0 c s all.gate_is (all.staged from.0 from.1) from.2

pub all_written_gate : (bodies group : List Body) (at : ℕ) (old new : Images) → Stages group (staged group) → IsStaged bodies at (staged group) old → Follows (Written at (1 ∷ [])) old new → Narrows (Stood (bodies ++ group)) new
all_written_gate bodies group at old new s all follows c left = let from = follows c left in written_gate bodies group at from.0 c s all.gate_is (all.staged from.0 from.1) from.2

pub staged_stood : (bodies : List Body) (bytes image : List ℕ) → Staged bodies bytes image → Stood bodies image
staged_stood bodies bytes image s = record { fit = s.fit; gate = s.gate; rest = bytes ++ s.rest; closed = s.closed; is = s.is }

pub narrows_at : (bodies : List Body) (at : ℕ) (old new : Images) → IsAt bodies at old → Narrows old new → IsAt bodies at new
narrows_at bodies at old new is_at fewer = record { gate_is = is_at.gate_is; stood = λ image left. is_at.stood image (fewer image left) }

-- ## Lengths

length-records : (bodies group : List Body) → length (records (bodies ++ group)) ≡ length (records bodies) + length (records group)
length-records bodies group = ap length (sym (append-nil (records (bodies ++ group))) ∙ records-more bodies group [] ∙ ap (λ (l : List ℕ). records bodies ++ l) (append-nil (records group))) ∙ length-append (records bodies) (records group)

length-staged : (group : List Body) → group ≢ [] → length (staged group) ≡ length (records group)
length-staged [] some = absurd (some refl)
length-staged (b ∷ bs) some = omega (arith, length-append (framed b ++ records bs) (0 ∷ []))

pub length-more : (bodies group : List Body) (bytes : List ℕ) → Stages group bytes → place (bodies ++ group) ≡ place bodies + length bytes
length-more bodies group bytes s =
    omega (arith, length-append header (records (bodies ++ group)), length-append header (records bodies), length-records bodies group, length-staged group s.some, ap length s.is)

pub length-push : (bodies : List Body) (body : Body) → place (bodies ++ body ∷ []) ≡ place bodies + (5 + length body)
length-push bodies body = omega (arith, length-append header (records (bodies ++ body ∷ [])), length-append header (records bodies), length-records bodies (body ∷ []), length-append (framed body) [])

-- ## Groups

pub as_staged : (group : List Body) (bytes : List ℕ) → Stages group bytes → Stages group (staged group)
as_staged group bytes s = record { some = s.some; fit = s.fit; is = refl }

pub one_stages : (body : Body) (bytes : List ℕ) → length body < 2 ^ 25 → bytes ≡ sealed body → Stages (body ∷ []) bytes
one_stages body bytes fits is = record { some = λ e. cc e; fit = (fits, tt); is = is ∙ ap (λ (l : List ℕ). l ++ 0 ∷ []) (sym (append-nil (framed body))) }

no_group : IsGroup [] (0 ∷ [])
no_group = record { fit = tt; is = refl }

-- a group that isn't empty is written without its first gate
pub group_stages : (group : List Body) (bytes : List ℕ) → IsGroup group bytes → 1 < length bytes → Stages group (drop 1 bytes)
group_stages [] bytes g long = absurd (omega (arith, long, ap length g.is))
group_stages (b ∷ bs) bytes g long = record { some = λ e. cc e; fit = g.fit; is = ap (λ (l : List ℕ). drop 1 l) g.is }

pub empty_group : (group : List Body) (bytes : List ℕ) → IsGroup group bytes → length bytes ≡ 1 → group ≡ []
empty_group [] bytes g one = refl
empty_group (b ∷ bs) bytes g one = absurd (omega (arith, one, ap length g.is, length-append (records (b ∷ bs)) (0 ∷ [])))

pub some_group : (group : List Body) (bytes : List ℕ) → IsGroup group bytes → 1 < length bytes → group ≢ []
some_group [] bytes g long = absurd (omega (arith, long, ap length g.is))
some_group (b ∷ bs) bytes g long = λ e. cc e

-- a byte is written over
set_at : (front rest : List ℕ) (n old new : ℕ) → n ≡ length front → slice_set (front ++ (old ∷ rest)) n new ≡ front ++ (new ∷ rest)
set_at front rest n old new is = ap (λ (k : ℕ). slice_set (front ++ (old ∷ rest)) k new) is ∙ here front where
  here : (front : List ℕ) → slice_set (front ++ (old ∷ rest)) (length front) new ≡ front ++ (new ∷ rest)
  here [] = refl
  here (x ∷ front) = ap (λ (l : List ℕ). x ∷ l) (here front)

-- one record more: behind what was, with the gate before it opened
pub group_more : (bodies : List Body) (body : Body) (old bytes : List ℕ) (n : ℕ) → IsGroup bodies old → Stages (body ∷ []) bytes → n + 1 ≡ length old → IsGroup (bodies ++ body ∷ []) (slice_set (old ++ bytes) n 1)
group_more bodies body old bytes n g s len = record {
  fit = fit-more bodies (body ∷ []) g.fit s.fit;
  is = ap (λ (l : List ℕ). slice_set (l ++ bytes) n 1) g.is ∙ ap (λ (l : List ℕ). slice_set l n 1) (append_assoc (records bodies) (0 ∷ []) bytes)
      ∙ set_at (records bodies) bytes n 0 1 (omega (arith, len, ap length g.is, length-append (records bodies) (0 ∷ [])))
      ∙ ap (λ (l : List ℕ). records bodies ++ (1 ∷ l)) s.is ∙ sym (records-more bodies (body ∷ []) (0 ∷ []));
}

module _ (bodies : List Body) (body : Body) (old bytes : List ℕ) (g : IsGroup (bodies ++ body ∷ []) old) (s : Stages (body ∷ []) bytes) where
  group_is : old ≡ records bodies ++ (1 ∷ bytes)
  group_is = g.is ∙ records-more bodies (body ∷ []) (0 ∷ []) ∙ ap (λ (l : List ℕ). records bodies ++ (1 ∷ l)) (sym s.is)

  pub group_len : length old ≡ length (records bodies) + (1 + length bytes)
  group_len = omega (arith, ap length group_is, length-append (records bodies) (1 ∷ bytes))

  fit-front : (bodies : List Body) → AllFit (bodies ++ body ∷ []) → AllFit bodies
  fit-front [] fit = tt
  fit-front (b ∷ bodies) (first, fit) = (first, fit-front bodies fit)

  -- one record less
  pub group_less : (len : ℕ) (new : List ℕ) → len + length bytes ≡ length old → new ≡ take len old → IsGroup bodies (slice_set new (len - 1) 0)
  group_less len new long is =
      let ends : len ≡ length (records bodies) + 1 = omega (arith, long, group_len) in
      let front : take len old ≡ records bodies ++ (1 ∷ []) =
      ap (λ (l : List ℕ). take len l) (group_is ∙ sym (append_assoc (records bodies) (1 ∷ []) bytes)) ∙ take_at (records bodies ++ (1 ∷ [])) bytes len (omega (arith, ends, length-append (records bodies) (1 ∷ []))) in
      record {
        fit = fit-front bodies g.fit;
        is = ap (λ (l : List ℕ). slice_set l (len - 1) 0) (is ∙ front) ∙ set_at (records bodies) [] (len - 1) 1 0 (omega (arith, ends));
      }

pub group_is_empty : (n : ℕ) (bodies : List Body) (bytes : List ℕ) → IsGroup bodies bytes → n ≡ length bytes → MatchBool (nat_eq n 1) (bodies ≡ []) (bodies ≢ [])
group_is_empty n bodies bytes g len = by_tests (nat_eq n 1) refl where
  by_tests : (b : Bool) → nat_eq n 1 ≡ b → MatchBool b (bodies ≡ []) (bodies ≢ [])
  by_tests true e = empty_group bodies bytes g (grind (arith, nat_tests, e, len))
  by_tests false e = some_group bodies bytes g (grind (arith, nat_tests, e, len, ap length g.is, length-append (records bodies) (0 ∷ [])))

-- ## The first write of all

pub all_created : (old new : Images) → ((c : List ℕ) → old c → c ≡ []) → Follows (Written 0 (header ++ 0 ∷ [])) old new → IsAt [] 8 new
all_created old new none follows = record {
  gate_is = refl;
  stood = λ c there.
      let from = follows c there in
      let is : c ≡ header ++ 0 ∷ [] = from.2 (omega arith) ∙ ap (λ (l : List ℕ). take 0 l ++ (header ++ 0 ∷ []) ++ drop 9 l) (none from.0 from.1) in
      record { fit = tt; gate = 0; rest = []; closed = omega arith; is = is };
}
