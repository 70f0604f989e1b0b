-- What stands at a gate, as a reader finds it.
use Rattle.std.proofs.Common.{◌≡◌, ◌≢◌, ◌≤◌, ◌<◌, ◌+◌, ◌^◌, ℕ, List, [], ◌∷◌, ◌++◌, length, get_or, take, drop, sym, ◌∙◌, ap, subst, arith, append_assoc, length-append, length-drop, take-append-drop}
use Rattle.std.specs.Int.{w32, to_be_bytes, from_be_bytes}
use Rattle.std.proofs.lemmas.List.{length-take, take-take}
use Rattle.std.proofs.lemmas.Nat.{from_be_bytes-to_be_bytes_4}
use Rattle.sk_log.specs.File.{Body}
use Rattle.sk_log.specs.Reading.{Finds, FindsBehind, IsBroken, IsFramed, IsShut, IsWhole}
use Rattle.sk_log.specs.declared.reading.Found.{Found}
use Rattle.sk_log.specs.declared.reading.Found.TheVariants as found

-- ## The length

pub too_short : (bytes : List ℕ) → length bytes < 4 → (body : Body) → IsFramed body bytes → ⊥
too_short bytes short body f = absurd (omega (arith, short, ap length f.is, length-append body f.rest))

front_is : (bytes : List ℕ) (body : Body) → IsFramed body bytes → take 4 bytes ≡ to_be_bytes w32 (length body)
front_is bytes body f = ap (λ (l : List ℕ). take 4 l) f.is

behind_is : (bytes : List ℕ) (body : Body) (f : IsFramed body bytes) → drop 4 bytes ≡ body ++ f.rest
behind_is bytes body f = ap (λ (l : List ℕ). drop 4 l) f.is

len_is : (bytes : List ℕ) (n : ℕ) (body : Body) → n < 2 ^ 25 → take 4 bytes ≡ to_be_bytes w32 n → IsFramed body bytes → length body ≡ n
len_is bytes n body small is f =
    sym (from_be_bytes-to_be_bytes_4 (length body) (omega (arith, f.fits))) ∙ ap (λ (l : List ℕ). from_be_bytes w32 l) (sym (front_is bytes body f) ∙ is) ∙ from_be_bytes-to_be_bytes_4 n (omega (arith, small))

pub too_long : (bytes buf : List ℕ) (n : ℕ) → buf ≡ take 4 bytes → n ≡ from_be_bytes w32 buf → 2 ^ 25 ≤ n → (body : Body) → IsFramed body bytes → ⊥
too_long bytes buf n is read long body f =
    let same : n ≡ length body = read ∙ ap (λ (l : List ℕ). from_be_bytes w32 l) (is ∙ front_is bytes body f) ∙ from_be_bytes-to_be_bytes_4 (length body) (omega (arith, f.fits)) in
    absurd (omega (arith, same, long, f.fits))

-- ## The body and the next gate

pub cut_short : (bytes : List ℕ) (n : ℕ) → n < 2 ^ 25 → take 4 bytes ≡ to_be_bytes w32 n → length (drop 4 bytes) < n + 1 → (body : Body) → IsFramed body bytes → ⊥
cut_short bytes n small is short body f = absurd (omega (arith, len_is bytes n body small is f, short, ap length (behind_is bytes body f), length-append body f.rest, f.gate))

pub whole_body : (bytes buf : List ℕ) (n : ℕ) → n < 2 ^ 25 → take 4 bytes ≡ to_be_bytes w32 n → n + 1 ≤ length (drop 4 bytes) → buf ≡ take (n + 1) (drop 4 bytes) → IsFramed (take n buf) bytes
whole_body bytes buf n small is long filled =
    let more = drop 4 bytes in
    let body_is : take n buf ≡ take n more = ap (λ (l : List ℕ). take n l) filled ∙ take-take n (n + 1) more (omega arith) in
    let body_long : length (take n buf) ≡ n = omega (arith, ap length body_is, length-take n more, long) in
    record {
      rest = drop n more;
      fits = omega (arith, body_long, small);
      gate = omega (arith, length-drop n more, long);
      is = sym (take-append-drop 4 bytes) ∙ ap (λ (l : List ℕ). l ++ more) (is ∙ ap (λ (k : ℕ). to_be_bytes w32 k) (sym body_long)) ∙ ap (λ (l : List ℕ). to_be_bytes w32 (length (take n buf)) ++ l) (sym (take-append-drop n more))
          ∙ ap (λ (l : List ℕ). to_be_bytes w32 (length (take n buf)) ++ (l ++ drop n more)) (sym body_is)
          ∙ sym (append_assoc (to_be_bytes w32 (length (take n buf))) (take n buf) (drop n more));
    }

-- ## The gate

pub gate_is : (bytes : List ℕ) (g : ℕ) → 1 ≤ length bytes → g ∷ [] ≡ take 1 bytes → bytes ≡ g ∷ drop 1 bytes
gate_is [] g some is = absurd (omega (arith, some))
gate_is (b ∷ bytes) g some is = let same : g ≡ b = cc is in ap (λ (x : ℕ). x ∷ bytes) (sym same)

pub no_gate : (bytes : List ℕ) → length bytes < 1 → IsBroken bytes
no_gate bytes short = record {
  not_shut = λ s. absurd (omega (arith, short, ap length s.is));
  not_whole = λ body w. absurd (omega (arith, short, ap length w.is));
}

pub shut : (bytes : List ℕ) (g : ℕ) → bytes ≡ g ∷ drop 1 bytes → g ≢ 1 → IsShut bytes
shut bytes g is closed = record { gate = g; rest = drop 1 bytes; closed = closed; is = is }

pub whole : (bytes : List ℕ) (body : Body) → bytes ≡ 1 ∷ drop 1 bytes → IsFramed body (drop 1 bytes) → IsWhole body bytes
whole bytes body is f = record { behind = drop 1 bytes; framed = f; is = is }

pub broken : (bytes : List ℕ) → bytes ≡ 1 ∷ drop 1 bytes → ((body : Body) → IsFramed body (drop 1 bytes) → ⊥) → IsBroken bytes
broken bytes is none = record {
  not_shut = λ s. let same : 1 ≡ s.gate = cc (sym is ∙ s.is) in s.closed (sym same);
  not_whole = λ body w. let same : w.behind ≡ drop 1 bytes = ap (λ (l : List ℕ). drop 1 l) (sym w.is) in none body (subst (λ (l : List ℕ). IsFramed body l) same w.framed);
}

pub gate_at : (bytes buf : List ℕ) (g : ℕ) → length buf ≡ 1 → length buf ≤ length bytes → buf ≡ take (length buf) bytes → get_or buf 0 0 ≡ g → bytes ≡ g ∷ drop 1 bytes
gate_at bytes [] g one le filled is = absurd (omega (arith, one))
gate_at bytes (a ∷ b ∷ buf) g one le filled is = absurd (omega (arith, one))
gate_at [] (a ∷ []) g one le filled is = absurd (omega (arith, le))
gate_at (b ∷ bytes) (a ∷ []) g one le filled is = let same : a ≡ b = cc filled in ap (λ (x : ℕ). x ∷ bytes) (sym same ∙ is)

-- behind an open gate it is what is found there
pub finds_from : (f : Found) (bytes : List ℕ) → bytes ≡ 1 ∷ drop 1 bytes → FindsBehind f (drop 1 bytes) → Finds f bytes
finds_from found.Shut bytes is none = absurd none
finds_from (found.Whole v) bytes is f = whole bytes v.items is f
finds_from found.Broken bytes is none = broken bytes is none
