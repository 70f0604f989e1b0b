-- Where the first line of a text ends, and what that says of the texts that begin with it.
use Rattle.std.proofs.Common.{◌≡◌, ◌≢◌, ◌<◌, ◌≤◌, ◌+◌, ◌↔◌, ◌∙◌, ℕ, [], ◌∷◌, ◌++◌, Option, Some, None, IsTrue, MatchOption, is_some, length, take, drop, get_or, refl, sym, ap, subst, arith, append_assoc, length-append}
use Rattle.std.proofs.lemmas.List.{length-take-le, take_all, take_more, drop_more, take-append-drop}
use Rattle.sk_base.specs.declared.limits.TheConstants.{LONGEST_INLINE}
use Rattle.sk_edge.specs.RequestLine.{Bytes, Lacks, StandsFirst, IsVersion, IsBeforeVersion, IsRequestLine, IsRequest, NoStar, BeginsHttp, NeverHttp}

pub lacks_append : (byte : ℕ) (a b : Bytes) → Lacks byte a → Lacks byte b → Lacks byte (a ++ b)
lacks_append byte [] b p q = q
lacks_append byte (x ∷ a) b p q = (p.0, lacks_append byte a b p.1 q)

-- one byte more was looked at
pub lacks_more : (byte : ℕ) (xs : Bytes) (i : ℕ) → i < length xs → get_or xs i 0 ≢ byte → Lacks byte (take i xs) → Lacks byte (take (i + 1) xs)
lacks_more byte xs i lt other p =
    subst (λ z. Lacks byte z) (sym (take_more xs i 0 lt)) (lacks_append byte (take i xs) (get_or xs i 0 ∷ []) p (other, tt))

-- all bytes were looked at
pub lacks_all : (byte : ℕ) (xs : Bytes) (n : ℕ) → length xs ≤ n → Lacks byte (take n xs) → Lacks byte xs
lacks_all byte xs n all p = subst (λ z. Lacks byte z) (take_all n xs all) p

-- a text parted at one of its bytes
pub stands_first : (byte : ℕ) (xs : Bytes) (i : ℕ) → i < length xs → get_or xs i 0 ≡ byte → Lacks byte (take i xs) → StandsFirst byte xs i
stands_first byte xs i lt here p =
    let parted : xs ≡ take i xs ++ get_or xs i 0 ∷ drop (i + 1) xs = sym (take-append-drop i xs) ∙ ap (λ z. take i xs ++ z) (drop_more xs i 0 lt) in
    (p, lt, subst (λ b. xs ≡ take i xs ++ b ∷ drop (i + 1) xs) here parted)

pub lacks_not : (byte : ℕ) (a b : Bytes) → Lacks byte (a ++ byte ∷ b) → ⊥
lacks_not byte [] b p = p.0 refl
lacks_not byte (x ∷ a) b p = lacks_not byte a b p.1

version_length : (text : Bytes) → IsVersion text → length text ≡ 9
version_length text h = ap length h.is

-- what stands before two equally long ends of one text
pub same_front : (a b x y : Bytes) → length x ≡ length y → a ++ x ≡ b ++ y → a ≡ b
same_front [] [] x y l e = refl
same_front [] (c ∷ b) x y l e =
    let lens : length x ≡ length ((c ∷ b) ++ y) = ap length e in absurd (omega (arith, lens, length-append (c ∷ b) y))
same_front (c ∷ a) [] x y l e =
    let lens : length ((c ∷ a) ++ x) ≡ length y = ap length e in absurd (omega (arith, lens, length-append (c ∷ a) x))
same_front (c ∷ a) (d ∷ b) x y l e =
    let head : c ≡ d = cc in
    let tail : a ++ x ≡ b ++ y = cc in
    cc (head, same_front a b x y l tail)

-- a request line has a space before its version
pub spaced : (text front : Bytes) → IsBeforeVersion text front → IsRequestLine text → Lacks 32 front → ⊥
spaced text front h r p =
    let long = version_length h.version h.versioned in
    let other = version_length r.is.version r.is.versioned in
    let lens : length h.version ≡ length r.is.version = omega (arith, long, other) in
    let same : front ≡ r.method ++ 32 ∷ r.target =
    same_front front (r.method ++ 32 ∷ r.target) h.version r.is.version lens (sym h.is ∙ r.is.is) in
    lacks_not 32 r.method r.target (subst (λ z. Lacks 32 z) same p)

-- whether a text before a version has a space is whether both are a request line
pub request_if : (text front : Bytes) (found : Option ℕ) → IsBeforeVersion text front
    → MatchOption found (Lacks 32 front) (λ at. StandsFirst 32 front at) → IsTrue (is_some found) ↔ IsRequestLine text
request_if text front None h p = (λ t. cc, λ r. absurd (spaced text front h r p))
request_if text front (Some at) h p =
    (λ t. record { method = take at front; target = drop (at + 1) front; is = subst (λ z. IsBeforeVersion text z) p.2 h }, λ r. refl)

-- two texts with the same first line
pub first_lf : (a b x y : Bytes) → Lacks 10 a → Lacks 10 b → a ++ 10 ∷ x ≡ b ++ 10 ∷ y → a ≡ b
first_lf [] [] x y p q e = refl
first_lf [] (c ∷ b) x y p q e = absurd (let same : 10 ≡ c = cc in q.0 (sym same))
first_lf (c ∷ a) [] x y p q e = absurd (let same : c ≡ 10 = cc in p.0 same)
first_lf (c ∷ a) (d ∷ b) x y p q e =
    let head : c ≡ d = cc in
    let tail : a ++ 10 ∷ x ≡ b ++ 10 ∷ y = cc in
    cc (head, first_lf a b x y p.1 q.1 tail)

-- an LF stands behind each text that has none
pub lf_past : (a b x y : Bytes) → Lacks 10 a → a ++ x ≡ b ++ 10 ∷ y → length a ≤ length b
lf_past [] b x y p e = omega arith
lf_past (c ∷ a) [] x y p e = absurd (let same : c ≡ 10 = cc in p.0 same)
lf_past (c ∷ a) (d ∷ b) x y p e =
    let tail : a ++ x ≡ b ++ 10 ∷ y = cc in
    omega (arith, lf_past a b x y p.1 tail)

-- the first line of a text that doesn't begin with a star
pub plain_line : (bytes line behind : Bytes) → bytes ≡ line ++ 10 ∷ behind → get_or bytes 0 0 ≢ 42 → NoStar line
plain_line bytes [] behind e other = tt
plain_line bytes (c ∷ line) behind e other = λ star. other (ap (λ z. get_or z 0 0) e ∙ star)

star_line : (bytes line behind : Bytes) → bytes ≡ line ++ 10 ∷ behind → get_or bytes 0 0 ≡ 42 → NoStar line → ⊥
star_line bytes [] behind e is plain = let ten : get_or bytes 0 0 ≡ 10 = ap (λ z. get_or z 0 0) e in omega (arith, ten, is)
star_line bytes (c ∷ line) behind e is plain = plain (sym (ap (λ z. get_or z 0 0) e) ∙ is)

first_append : (bytes more : Bytes) → 0 < length bytes → get_or (bytes ++ more) 0 0 ≡ get_or bytes 0 0
first_append [] more lt = absurd (omega arith)
first_append (b ∷ bytes) more lt = refl

-- a text that begins with a star
pub passes_star : (bytes : Bytes) → 0 < length bytes → get_or bytes 0 0 ≡ 42 → NeverHttp bytes
passes_star bytes lt is = λ more h. star_line (bytes ++ more) h.line h.behind h.is (first_append bytes more lt ∙ is) h.no_star

-- a line that is known
pub passes_line : (line behind : Bytes) → Lacks 10 line → (IsRequest line → length line ≤ LONGEST_INLINE → ⊥) → NeverHttp (line ++ 10 ∷ behind)
passes_line line behind p none =
    λ more h. let same : h.line ≡ line = first_lf h.line line h.behind (behind ++ more) h.no_lf p (sym h.is ∙ append_assoc line (10 ∷ behind) more) in
    none (subst (λ z. IsRequest z) same h.request) (subst (λ z. length z ≤ LONGEST_INLINE) same h.short)

-- a line that is too long
pub passes_long : (bytes : Bytes) → Lacks 10 bytes → LONGEST_INLINE < length bytes → NeverHttp bytes
passes_long bytes p long =
    λ more h. let past : length bytes ≤ length h.line = lf_past bytes h.line more h.behind p h.is in
    let short : length h.line ≤ LONGEST_INLINE = h.short in
    omega (arith, past, short)

-- a stream that begins with the line before its first LF, and one that doesn't
pub begins_at : (bytes : Bytes) (at : ℕ) → StandsFirst 10 bytes at → get_or bytes 0 0 ≢ 42 → at ≤ LONGEST_INLINE → IsRequest (take at bytes) → BeginsHttp bytes
begins_at bytes at s plain short r =
    let len : length (take at bytes) ≡ at = length-take-le at bytes (omega (arith, s.1)) in
    record {
      line = take at bytes;
      behind = drop (at + 1) bytes;
      request = r;
      no_lf = s.0;
      no_star = plain_line bytes (take at bytes) (drop (at + 1) bytes) s.2 plain;
      short = omega (arith, len, short);
      is = s.2;
    }

pub passes_at : (bytes : Bytes) (at : ℕ) → StandsFirst 10 bytes at → (IsRequest (take at bytes) → at ≤ LONGEST_INLINE → ⊥) → NeverHttp bytes
passes_at bytes at s none =
    let len : length (take at bytes) ≡ at = length-take-le at bytes (omega (arith, s.1)) in
    subst (λ z. NeverHttp z) (sym s.2) (passes_line (take at bytes) (drop (at + 1) bytes) s.0 (λ r short. none r (omega (arith, len, short))))
