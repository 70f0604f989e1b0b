-- Where a log of some bodies is damaged, one of them was refused.
use Rattle.std.proofs.Common.{◌≡◌, ◌≢◌, ◌⊎◌, inl, inr, ◌≤◌, ◌<◌, ◌^◌, ℕ, List, [], ◌∷◌, ◌++◌, length, take, drop, refl, sym, ◌∙◌, ap, arith, append_assoc, length-append}
use Rattle.std.specs.Int.{w32, from_be_bytes}
use Rattle.std.proofs.lemmas.List.{take_at, drop_at}
use Rattle.std.proofs.lemmas.Nat.{from_be_bytes-to_be_bytes_4}
use Rattle.sk_log.specs.File.{AllFit, Body, framed, records, Stood}
use Rattle.sk_disk.specs.Images.{Images}
use Rattle.sk_log.specs.Reading.{IsBlamed, IsBroken, IsDamaged, IsWhole}

-- a framed body is spelled in one way
unframe : (a b : Body) (x y : List ℕ) → length a < 2 ^ 25 → length b < 2 ^ 25 → framed a ++ x ≡ framed b ++ y → (a ≡ b) × (x ≡ y)
unframe a b x y fa fb e =
    let long : length a ≡ length b = sym (from_be_bytes-to_be_bytes_4 (length a) (omega (arith, fa))) ∙ ap (λ (l : List ℕ). from_be_bytes w32 (take 4 l)) e ∙ from_be_bytes-to_be_bytes_4 (length b) (omega (arith, fb)) in
    let tails : a ++ x ≡ b ++ y = ap (λ (l : List ℕ). drop 4 l) e in (
      sym (take_at a x (length a) refl) ∙ ap (λ (l : List ℕ). take (length a) l) tails ∙ take_at b y (length a) (sym long),
      sym (drop_at a x (length a) refl) ∙ ap (λ (l : List ℕ). drop (length a) l) tails ∙ drop_at b y (length a) (sym long),
    )

module _ (X : Body → Type 0) (gate : ℕ) (end : List ℕ) (closed : gate ≢ 1) where
  here : (b : Body) (bs : List Body) (rest : List ℕ) → length b < 2 ^ 25 → rest ≡ 1 ∷ ((framed b ++ records bs) ++ (gate ∷ end)) → IsWhole b rest
  here b bs rest fits e = record {
    behind = framed b ++ (records bs ++ (gate ∷ end));
    framed = record { rest = records bs ++ (gate ∷ end); fits = fits; gate = omega (arith, length-append (records bs) (gate ∷ end)); is = refl };
    is = e ∙ ap (λ (l : List ℕ). 1 ∷ l) (append_assoc (framed b) (records bs) (gate ∷ end));
  }

  same_body : (a b : Body) (rest : List ℕ) → IsWhole a rest → IsWhole b rest → a ≡ b
  same_body a b rest v w = (unframe a b v.framed.rest w.framed.rest v.framed.fits w.framed.fits (sym v.framed.is ∙ ap (λ (l : List ℕ). drop 1 l) (sym v.is ∙ w.is) ∙ w.framed.is)).0

  blame : (done all : List Body) (rest : List ℕ) → AllFit done → AllFit all → records done ++ rest ≡ records all ++ (gate ∷ end) → IsBroken rest ⊎ ((body : Body) × (IsWhole body rest × X body)) → (body : Body) × ((more : List Body) × (all ≡ done ++ body ∷ more) × X body)
  blame [] [] rest f h e (inl b) = absurd (b.not_shut (record { gate = gate; rest = end; closed = closed; is = e }))
  blame [] [] rest f h e (inr (body, (w, x))) = let one : gate ≡ 1 = cc (sym e ∙ w.is) in absurd (closed one)
  blame [] (b ∷ bs) rest f h e (inl br) = absurd (br.not_whole b (here b bs rest h.0 e))
  blame [] (b ∷ bs) rest f h e (inr (body, (w, x))) = (body, (bs, ap (λ (z : Body). z ∷ bs) (same_body b body rest (here b bs rest h.0 e) w), x))
  blame (d ∷ ds) [] rest f h e why = let one : gate ≡ 1 = cc e in absurd (closed one)
  blame (d ∷ ds) (b ∷ bs) rest f h e why =
      let tails : framed d ++ (records ds ++ rest) ≡ framed b ++ (records bs ++ (gate ∷ end)) = sym (append_assoc (framed d) (records ds) rest) ∙ ap (λ (l : List ℕ). drop 1 l) e ∙ append_assoc (framed b) (records bs) (gate ∷ end) in
      let same = unframe d b (records ds ++ rest) (records bs ++ (gate ∷ end)) f.0 h.0 tails in
      let more = blame ds bs rest f.1 h.1 same.1 why in
      (more.0, (more.1.0, (λ i. sym same.0 i ∷ more.1.1 i), more.1.2))

-- A file is a log of one list of bodies.
same_bodies : (some other : List Body) (gate end : ℕ) (x y : List ℕ) → gate ≢ 1 → end ≢ 1 → AllFit some → AllFit other → records some ++ (gate ∷ x) ≡ records other ++ (end ∷ y) → some ≡ other
same_bodies [] [] gate end x y shut closed f h e = refl
same_bodies [] (b ∷ other) gate end x y shut closed f h e = let one : gate ≡ 1 = cc e in absurd (shut one)
same_bodies (a ∷ some) [] gate end x y shut closed f h e = let one : end ≡ 1 = cc e in absurd (closed one)
same_bodies (a ∷ some) (b ∷ other) gate end x y shut closed f h e =
    let tails : framed a ++ (records some ++ (gate ∷ x)) ≡ framed b ++ (records other ++ (end ∷ y)) =
    sym (append_assoc (framed a) (records some) (gate ∷ x)) ∙ ap (λ (l : List ℕ). drop 1 l) e ∙ append_assoc (framed b) (records other) (end ∷ y) in
    let same = unframe a b (records some ++ (gate ∷ x)) (records other ++ (end ∷ y)) f.0 h.0 tails in
    let more = same_bodies some other gate end x y shut closed f.1 h.1 same.1 in
    λ i. same.0 i ∷ more i

pub stood_once : (some other : List Body) (c : List ℕ) → Stood some c → Stood other c → some ≡ other
stood_once some other c s t = same_bodies some other s.gate t.gate s.rest t.rest s.closed t.closed s.fit t.fit (ap (λ (l : List ℕ). drop 8 l) (sym s.is ∙ t.is))

pub blamed : {R : Type 0} (runs : R → Body → R → Type 0) (refuses : R → Body → Type 0) (files : Images) (at : ℕ) (old : R) (c : List ℕ) (all : List Body) → IsDamaged runs refuses files at old → files c → length c ≤ 2 ^ 60 → Stood all c
    → IsBlamed runs refuses old all
blamed {R} runs refuses files at old c all d there short s =
    let broken = d.each c there short in
    let e : records d.bodies ++ broken.before.rest ≡ records all ++ (s.gate ∷ s.rest) = ap (λ (l : List ℕ). drop 8 l) (sym broken.before.is ∙ s.is) in
    let found = blame (refuses d.state) s.gate s.rest s.closed d.bodies all broken.before.rest broken.before.fit s.fit e broken.why in
    record { done = d.bodies; body = found.0; more = found.1.0; is = found.1.1; state = d.state; ran = d.ran; refused = found.1.2 }
