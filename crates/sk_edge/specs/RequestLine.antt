-- The request lines of HTTP (RFC 9112, section 3), and the streams that begin with one.
use Rattle.std.specs.Prelude.{◌≡◌, ◌≢◌, ◌⊎◌, ◌<◌, ◌≤◌, ◌+◌, ◌++◌, ◌∷◌, ℕ, List, [], length, take, drop}
use Rattle.std.specs.List.{AllByRecursion}
use Rattle.sk_base.specs.declared.limits.TheConstants.{LONGEST_INLINE}

abbrev pub Bytes : Type 0
Bytes = List ℕ

abbrev pub lf : ℕ
lf = 10

abbrev pub cr : ℕ
cr = 13

abbrev pub space : ℕ
space = 32

abbrev pub star : ℕ
star = 42

-- The byte isn't among them.
abbrev pub Lacks : ℕ → Bytes → Type 0
Lacks byte bytes = AllByRecursion (λ b. b ≢ byte) bytes

-- The byte stands there, and nowhere before.
abbrev pub StandsFirst : ℕ → Bytes → ℕ → Type 0
StandsFirst byte bytes at = Lacks byte (take at bytes) × (at < length bytes) × (bytes ≡ take at bytes ++ byte ∷ drop (at + 1) bytes)

-- DIGIT
abbrev pub IsDigit : ℕ → Type 0
IsDigit b = (48 ≤ b) × (b ≤ 57)

-- SP HTTP-version, where HTTP-version = "HTTP" "/" DIGIT "." DIGIT
pub record IsVersion (text : Bytes) : Type 0 where
  pub major : ℕ
  pub minor : ℕ
  pub major_digit : IsDigit major
  pub minor_digit : IsDigit minor
  pub is : text ≡ space ∷ 72 ∷ 84 ∷ 84 ∷ 80 ∷ 47 ∷ major ∷ 46 ∷ minor ∷ []

-- The text ends in a version with its space, and this stands before them.
pub record IsBeforeVersion (text front : Bytes) : Type 0 where
  pub version : Bytes
  pub versioned : IsVersion version
  pub is : text ≡ front ++ version

-- request-line = method SP request-target SP HTTP-version. Method and target are any texts here, so that none of them gets through by its form.
pub record IsRequestLine (text : Bytes) : Type 0 where
  pub method : Bytes
  pub target : Bytes
  pub is : IsBeforeVersion text (method ++ space ∷ target)

-- what stands before the LF of a request line, whose line terminator is CRLF or a single LF
abbrev pub IsRequest : Bytes → Type 0
IsRequest line = IsRequestLine line ⊎ ((text : Bytes) × (IsRequestLine text × (line ≡ text ++ cr ∷ [])))

-- No array of RESP2.
abbrev pub NoStar : Bytes → Type 0
NoStar [] = Unit {0}
NoStar (b ∷ bytes) = b ≢ star

-- The stream begins with a request of HTTP, in a line that the reader of commands takes for an inline one: one behind a star, or with more bytes
-- than an inline command may have, it refuses itself.
pub record BeginsHttp (bytes : Bytes) : Type 0 where
  pub line : Bytes
  pub behind : Bytes
  pub request : IsRequest line
  pub no_lf : Lacks lf line
  pub no_star : NoStar line
  pub short : length line ≤ LONGEST_INLINE
  pub is : bytes ≡ line ++ lf ∷ behind

-- Whatever comes behind these bytes, the stream doesn't begin with a request of HTTP.
abbrev pub NeverHttp : Bytes → Type 0
NeverHttp bytes = (more : Bytes) → BeginsHttp (bytes ++ more) → ⊥
