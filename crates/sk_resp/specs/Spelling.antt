-- How RESP2 spells lines, bulk strings and the heads of arrays.
use Rattle.std.specs.Prelude.{◌<◌, ◌≤◌, ℕ, List, [], ◌∷◌, ◌++◌, ◌+◌, length}
use Rattle.std.specs.Fmt.{decimal}

abbrev pub Bytes : Type 0
Bytes = List ℕ

-- ## The bytes that mean something

-- `*`, in front of the number of elements of an array
abbrev pub star : ℕ
star = 42

-- `$`, in front of the length of a bulk string
abbrev pub dollar : ℕ
dollar = 36

abbrev pub plus : ℕ
plus = 43

abbrev pub minus : ℕ
minus = 45

abbrev pub colon : ℕ
colon = 58

abbrev pub cr : ℕ
cr = 13

abbrev pub lf : ℕ
lf = 10

-- ## Texts

-- the text, CR and LF
abbrev pub line : Bytes → Bytes
line text = text ++ cr ∷ lf ∷ []

-- the line in front of so many elements
unfoldable pub header : ℕ → Bytes
header n = line (star ∷ decimal n)

-- the line in front of so many bytes, and the bytes that have come
unfoldable pub opened : ℕ → Bytes → Bytes
opened need word = line (dollar ∷ decimal need) ++ word

-- a bulk string: the line with its length, and its bytes as a line
unfoldable pub bulk : Bytes → Bytes
bulk word = line (dollar ∷ decimal (length word)) ++ line word

-- so many bytes of the input: at least one, and no more than there are
abbrev pub IsPart : ℕ → Bytes → Type 0
IsPart n input = (0 < n) × (n ≤ length input)

-- one after another
abbrev pub joined : List Bytes → Bytes
joined [] = []
joined (text ∷ texts) = text ++ joined texts

-- the bytes of all words together
abbrev pub total_length : List Bytes → ℕ
total_length [] = 0
total_length (word ∷ words) = length word + total_length words
