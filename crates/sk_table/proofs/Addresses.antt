-- Addresses as a table grows: by one bucket, whose entries come from one other.
use Rattle.std.proofs.Common.{◌≡◌, ◌<◌, ◌≤◌, ◌+◌, ◌-◌, ◌*◌, ◌/◌, ◌%◌, ℕ, suc, Bool, true, false, nat_lt, refl, sym, ap, ◌∙◌, arith}
use Rattle.std.proofs.lemmas.Nat.{div-add-mod', mod-mul-add, mod_below}
use Rattle.sk_table.specs.Hashing.{address}

module _ (half count hash : ℕ) where
  abbrev wide : ℕ
  wide = hash % (half + half)

  pub address_low : 0 < half → wide < count → address half count hash ≡ wide
  unfolding address
  address_low some h = grind (arith, some, h)

  pub address_high : 0 < half → count ≤ wide → address half count hash ≡ wide - half
  unfolding address
  address_high some h = grind (arith, some, h)

  wide_below : 0 < half → wide < half + half
  wide_below some = mod_below hash (half + half) (grind (arith, some))

  pub address_below : 0 < half → half ≤ count → count ≤ half + half → address half count hash < count
  address_below some low high = by_test (nat_lt wide count) refl
    where
      by_test : (b : Bool) → nat_lt wide count ≡ b → address half count hash < count
      by_test true h = let is = address_low some (grind (arith, h)) in grind (arith, is, h)
      by_test false h = let is = address_high some (grind (arith, h)) in let below = wide_below some in grind (arith, is, h, below, some, low, high)

-- The new bucket takes what comes to its number, all of it from one bucket.
pub address_goes : (half count hash : ℕ) → 0 < half → hash % (half + half) ≡ count → address half (suc count) hash ≡ count
address_goes half count hash some h = address_low half (suc count) hash some (grind (arith, h)) ∙ h

pub address_came : (half count hash : ℕ) → 0 < half → hash % (half + half) ≡ count → address half count hash ≡ count - half
address_came half count hash some h = let is = address_high half count hash some (grind (arith, h)) in grind (arith, is, h)

pub address_stays : (half count hash : ℕ) → 0 < half → (hash % (half + half) ≡ count → ⊥) → address half (suc count) hash ≡ address half count hash
address_stays half count hash some apart = by_test (nat_lt (hash % (half + half)) count) refl
  where
    by_test : (b : Bool) → nat_lt (hash % (half + half)) count ≡ b → address half (suc count) hash ≡ address half count hash
    by_test true h =
        let left = address_low half (suc count) hash some (grind (arith, h)) in
        let right = address_low half count hash some (grind (arith, h)) in
        left ∙ sym right
    by_test false h =
        let left = address_high half (suc count) hash some (grind (arith, h, apart)) in
        let right = address_high half count hash some (grind (arith, h)) in
        left ∙ sym right

-- ## Twice as many addresses

twice_of : (q m : ℕ) → q * (m + m) ≡ (q + q) * m
twice_of q m = grind arith

one_more : (q m r : ℕ) → m ≤ r → (q + q) * m + r ≡ (q + q + 1) * m + (r - m)
one_more q m r h = let more : (q + q + 1) * m ≡ (q + q) * m + m = grind arith in grind (arith, more, h)

halved : (hash m : ℕ) → hash % m ≡ ((hash / (m + m) + hash / (m + m)) * m + hash % (m + m)) % m
halved hash m = ap (λ n. n % m) (sym (div-add-mod' hash (m + m)) ∙ ap (λ n. n + hash % (m + m)) (twice_of (hash / (m + m)) m))

low_half : (hash m : ℕ) → hash % (m + m) < m → hash % m ≡ hash % (m + m)
low_half hash m h = halved hash m ∙ mod-mul-add (hash / (m + m) + hash / (m + m)) m (hash % (m + m)) h

high_half : (hash m : ℕ) → 0 < m → m ≤ hash % (m + m) → hash % m ≡ hash % (m + m) - m
high_half hash m some h =
    let q = hash / (m + m) in
    let below = mod_below hash (m + m) (grind (arith, some)) in
    halved hash m ∙ ap (λ n. n % m) (one_more q m (hash % (m + m)) h) ∙ mod-mul-add (q + q + 1) m (hash % (m + m) - m) (grind (arith, below, h))

pub address_widens : (half hash : ℕ) → 0 < half → address (half + half) (half + half) hash ≡ address half (half + half) hash
address_widens half hash some = by_test (nat_lt (hash % (m + m)) m) refl
  where
    m : ℕ
    m = half + half

    right : address half m hash ≡ hash % m
    right = address_low half m hash some (mod_below hash m (grind (arith, some)))

    by_test : (b : Bool) → nat_lt (hash % (m + m)) m ≡ b → address m m hash ≡ address half m hash
    by_test true h = address_low m m hash (grind (arith, some)) (grind (arith, h)) ∙ sym (low_half hash m (grind (arith, h))) ∙ sym right
    by_test false h = address_high m m hash (grind (arith, some)) (grind (arith, h)) ∙ sym (high_half hash m (grind (arith, some)) (grind (arith, h))) ∙ sym right
