-- That the id of two words is a name, as a token is.
use Rattle.std.proofs.Common.{◌≡◌, ◌<◌, ◌/◌, ◌%◌, ◌++◌, ℕ, zero, suc, Bool, true, false, List, [], ◌∷◌, length, take, refl, sym, subst, arith}
use Rattle.std.specs.Int.{w64, byte_at, bytes_high_first, to_be_bytes}
use Rattle.std.specs.List.{list_all}
use Rattle.std.specs.Prelude.{◌&&◌, nat_le, nat_lt, slice_index}
use Rattle.std.specs.Str.{is_utf8}
use Rattle.std.proofs.lemmas.Str.{IsUtf8-from_ascii, is_utf8-from_IsUtf8}
use Rattle.hex.specs.Hex.{encode_lower, encode_with, lower_digits}
use Rattle.hex.proofs.HexLemmas.{length-encode_with, IsAscii-encode_with}
use Rattle.sk_base.specs.Name.{is_name, is_visible}

-- the bytes that an id shows
abbrev bytes : ℕ → ℕ → List ℕ
bytes first second = to_be_bytes w64 first ++ take 4 (to_be_bytes w64 second)

-- ## Bytes

abbrev Small : List ℕ → Type 0
Small [] = Unit {0}
Small (b ∷ bs) = (b < 256) × Small bs

small_byte : (k n : ℕ) → byte_at k n < 256
small_byte zero n = omega arith
small_byte (suc k) n = omega arith

small_high : (k n : ℕ) → Small (bytes_high_first k n)
small_high zero n = tt
small_high (suc k) n = (small_byte k n, small_high k n)

small_append : (xs ys : List ℕ) → Small xs → Small ys → Small (xs ++ ys)
small_append [] ys hs ks = ks
small_append (x ∷ xs) ys hs ks = (hs.0, small_append xs ys hs.1 ks)

small_take : (k : ℕ) (xs : List ℕ) → Small xs → Small (take k xs)
small_take zero xs hs = tt
small_take (suc k) [] hs = tt
small_take (suc k) (x ∷ xs) hs = (hs.0, small_take k xs hs.1)

-- ## Digits

digit : (i : ℕ) → i < 16 → is_visible (slice_index lower_digits i) ≡ true
digit zero h = refl
digit (suc zero) h = refl
digit (suc (suc zero)) h = refl
digit (suc (suc (suc zero))) h = refl
digit (suc (suc (suc (suc zero)))) h = refl
digit (suc (suc (suc (suc (suc zero))))) h = refl
digit (suc (suc (suc (suc (suc (suc zero)))))) h = refl
digit (suc (suc (suc (suc (suc (suc (suc zero))))))) h = refl
digit (suc (suc (suc (suc (suc (suc (suc (suc zero)))))))) h = refl
digit (suc (suc (suc (suc (suc (suc (suc (suc (suc zero))))))))) h = refl
digit (suc (suc (suc (suc (suc (suc (suc (suc (suc (suc zero)))))))))) h = refl
digit (suc (suc (suc (suc (suc (suc (suc (suc (suc (suc (suc zero))))))))))) h = refl
digit (suc (suc (suc (suc (suc (suc (suc (suc (suc (suc (suc (suc zero)))))))))))) h = refl
digit (suc (suc (suc (suc (suc (suc (suc (suc (suc (suc (suc (suc (suc zero))))))))))))) h = refl
digit (suc (suc (suc (suc (suc (suc (suc (suc (suc (suc (suc (suc (suc (suc zero)))))))))))))) h = refl
digit (suc (suc (suc (suc (suc (suc (suc (suc (suc (suc (suc (suc (suc (suc (suc zero))))))))))))))) h = refl
digit (suc (suc (suc (suc (suc (suc (suc (suc (suc (suc (suc (suc (suc (suc (suc (suc i)))))))))))))))) h = absurd (omega (arith, h))

ascii : (i : ℕ) → slice_index lower_digits i < 128
ascii zero = omega arith
ascii (suc zero) = omega arith
ascii (suc (suc zero)) = omega arith
ascii (suc (suc (suc zero))) = omega arith
ascii (suc (suc (suc (suc zero)))) = omega arith
ascii (suc (suc (suc (suc (suc zero))))) = omega arith
ascii (suc (suc (suc (suc (suc (suc zero)))))) = omega arith
ascii (suc (suc (suc (suc (suc (suc (suc zero))))))) = omega arith
ascii (suc (suc (suc (suc (suc (suc (suc (suc zero)))))))) = omega arith
ascii (suc (suc (suc (suc (suc (suc (suc (suc (suc zero))))))))) = omega arith
ascii (suc (suc (suc (suc (suc (suc (suc (suc (suc (suc zero)))))))))) = omega arith
ascii (suc (suc (suc (suc (suc (suc (suc (suc (suc (suc (suc zero))))))))))) = omega arith
ascii (suc (suc (suc (suc (suc (suc (suc (suc (suc (suc (suc (suc zero)))))))))))) = omega arith
ascii (suc (suc (suc (suc (suc (suc (suc (suc (suc (suc (suc (suc (suc zero))))))))))))) = omega arith
ascii (suc (suc (suc (suc (suc (suc (suc (suc (suc (suc (suc (suc (suc (suc zero)))))))))))))) = omega arith
ascii (suc (suc (suc (suc (suc (suc (suc (suc (suc (suc (suc (suc (suc (suc (suc zero))))))))))))))) = omega arith
ascii (suc (suc (suc (suc (suc (suc (suc (suc (suc (suc (suc (suc (suc (suc (suc (suc i)))))))))))))))) = omega arith

pub and_both : (a b : Bool) → a ≡ true → b ≡ true → a && b ≡ true
and_both true b p q = q
and_both false b p q = p

visible : (xs : List ℕ) → Small xs → list_all is_visible (encode_with lower_digits xs) ≡ true
unfolding encode_with
visible [] hs = refl
visible (b ∷ bs) hs = and_both _ _ (digit (b / 16) (omega (arith, hs.0))) (and_both _ _ (digit (b % 16) (omega arith)) (visible bs hs.1))

pub is_token : (first second : ℕ) → is_name 64 (encode_lower (to_be_bytes w64 first ++ take 4 (to_be_bytes w64 second))) ≡ true
is_token first second =
    let xs = bytes first second in
    let small : Small (bytes first second) = small_append (to_be_bytes w64 first) (take 4 (to_be_bytes w64 second)) (small_high 8 first) (small_take 4 (to_be_bytes w64 second) (small_high 8 second)) in
    let size : length (encode_lower (bytes first second)) ≡ 24 = length-encode_with lower_digits (bytes first second) in
    let utf8 : is_utf8 (encode_lower (bytes first second)) ≡ true = is_utf8-from_IsUtf8 _ (IsUtf8-from_ascii _ (IsAscii-encode_with lower_digits (bytes first second) ascii)) in
    let some : nat_lt 0 (length (encode_lower (bytes first second))) ≡ true = subst (λ n. nat_lt 0 n ≡ true) (sym size) refl in
    let fits : nat_le (length (encode_lower (bytes first second))) 64 ≡ true = subst (λ n. nat_le n 64 ≡ true) (sym size) refl in
    and_both _ _ (and_both _ _ (and_both _ _ some fits) utf8) (visible (bytes first second) small)
