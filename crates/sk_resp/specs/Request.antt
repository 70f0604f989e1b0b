-- Requests on the wire (RESP2, "Sending commands to a Redis server" and "Inline commands"), with this store's limits: what stands
-- between two commands, and where a stream of bytes is no list of commands any more.
use Rattle.std.specs.Prelude.{◌≡◌, ◌≢◌, ◌<◌, ◌≤◌, ◌+◌, ◌^◌, ℕ, ℤ, pos, negsuc, List, [], ◌∷◌, ◌++◌, length, Bool, true, false, cond, eqb, ◌||◌, ◌⊎◌}
use Rattle.std.specs.List.{flat_map, filter, slice_split, AllByRecursion}
use Rattle.std.specs.Fmt.{decimal, signed_decimal}
use Rattle.sk_base.specs.declared.limits.TheConstants.{LONGEST_COMMAND, LONGEST_INLINE, LONGEST_LENGTH_LINE, LONGEST_WORD, MOST_WORDS}
use Rattle.sk_resp.specs.Spelling.{Bytes, star, dollar, cr, lf, header, opened, bulk, total_length}
use Rattle.sk_resp.specs.declared.wire_fault.WireFault.{WireFault}
use Rattle.sk_resp.specs.declared.wire_fault.WireFault.TheVariants.{MultiLength, BulkLength, NoDollar, Quote, InlineLong, Limit, Memory}

-- ## Arrays

abbrev pub Command : Type 0
Command = List Bytes

abbrev pub bulks : Command → Bytes
bulks words = flat_map bulk words

-- the one spelling of a command as an array of bulk strings
abbrev pub array : Command → Bytes
array words = header (length words) ++ bulks words

-- at most 1,048,576 bytes
abbrev pub IsWord : Bytes → Type 0
IsWord word = length word ≤ LONGEST_WORD

-- a word, of no more bytes than these
abbrev pub IsWordWithin : ℕ → Bytes → Type 0
IsWordWithin most word = IsWord word × (length word ≤ most)

-- at least one word and at most 65,536, of at most 16,777,216 bytes together
pub record IsCommand (words : Command) : Type 0 where
  pub some : 0 < length words
  pub few : length words ≤ MOST_WORDS
  pub short : AllByRecursion IsWord words
  pub small : total_length words ≤ LONGEST_COMMAND

-- The first words of an array of that many, and not yet all of them.
pub record IsWanting (count : ℕ) (words : Command) (total : ℕ) : Type 0 where
  pub left : length words < count
  pub few : count ≤ MOST_WORDS
  pub short : AllByRecursion IsWord words
  pub adds : total ≡ total_length words
  pub small : total ≤ LONGEST_COMMAND

-- ## Lines behind `*` and `$`

abbrev pub NoLf : Bytes → Type 0
NoLf bytes = AllByRecursion (λ b. b ≢ lf) bytes

-- what may stand between the mark and the LF: 32 bytes at most, the CR among them
pub record IsLine (line : Bytes) : Type 0 where
  pub no_lf : NoLf line
  pub short : length line ≤ LONGEST_LENGTH_LINE

-- the numbers behind `*`
abbrev pub IsCount : ℤ → Type 0
IsCount (pos n) = n ≤ MOST_WORDS
IsCount (negsuc n) = n < 2 ^ 63

-- those of them that no words follow
abbrev pub IsSkipped : ℤ → Type 0
IsSkipped (pos n) = n ≡ 0
IsSkipped (negsuc n) = n < 2 ^ 63

abbrev pub IsCountLine : Bytes → Type 0
IsCountLine line = (z : ℤ) × IsCount z × (line ≡ signed_decimal z ++ cr ∷ [])

abbrev pub IsLengthLine : Bytes → Type 0
IsLengthLine line = (n : ℕ) × (n ≤ LONGEST_WORD) × (line ≡ decimal n ++ cr ∷ [])

-- Bytes behind a mark that are none of the lines allowed there: at their LF, or at the first byte past 32.
pub data IsBadLine (IsAllowed : Bytes → Type 0) (bytes : Bytes) : Type 0 where
  ended : (line : Bytes) → IsLine line → (IsAllowed line → ⊥) → bytes ≡ line ++ lf ∷ [] → IsBadLine IsAllowed bytes
  long : NoLf bytes → length bytes ≡ LONGEST_LENGTH_LINE + 1 → IsBadLine IsAllowed bytes

-- ## Inline lines

abbrev pub NoStar : Bytes → Type 0
NoStar [] = Unit {0}
NoStar (b ∷ bytes) = b ≢ star

-- neither an LF nor `"` or `'`
abbrev pub IsPlain : ℕ → Type 0
IsPlain b = (b ≢ lf) × (b ≢ 34) × (b ≢ 39)

abbrev pub IsQuote : ℕ → Type 0
IsQuote b = (b ≡ 34) ⊎ (b ≡ 39)

-- an inline line without its LF: 65,536 bytes at most
pub record IsInline (line : Bytes) : Type 0 where
  pub plain : AllByRecursion IsPlain line
  pub no_star : NoStar line
  pub short : length line ≤ LONGEST_INLINE

-- a CR at the end is dropped
unfoldable pub without_cr : Bytes → Bytes
without_cr [] = []
without_cr (b ∷ []) = cond (eqb b cr) [] (b ∷ [])
without_cr (b ∷ c ∷ bytes) = b ∷ without_cr (c ∷ bytes)

-- a space or a tab
abbrev pub is_blank : ℕ → Bool
is_blank b = eqb b 32 || eqb b 9

abbrev pub is_some_word : Bytes → Bool
is_some_word [] = false
is_some_word (b ∷ word) = true

-- the words between the blanks
abbrev pub inline_words : Bytes → Command
inline_words line = filter is_some_word (slice_split is_blank (without_cr line))

-- a command, where there are words
abbrev pub if_some : Command → List Command
if_some [] = []
if_some (word ∷ words) = (word ∷ words) ∷ []

-- ## Items and faults

-- What stands between two commands: one array, one array line without words, or one inline line, and the commands that it gives, one or none.
pub data IsItem (text : Bytes) (commands : List Command) : Type 0 where
  whole : (words : Command) → IsCommand words → text ≡ array words → commands ≡ words ∷ [] → IsItem text commands
  skipped : (z : ℤ) → IsSkipped z → text ≡ star ∷ (signed_decimal z ++ cr ∷ []) ++ lf ∷ [] → commands ≡ [] → IsItem text commands
  inline : (line : Bytes) → IsInline line → text ≡ line ++ lf ∷ [] → commands ≡ if_some (inline_words line) → IsItem text commands

-- The bytes are a header, whole words, fewer than it names, and then this part.
pub record IsInside (text : Bytes) (total : ℕ) (part : Bytes) : Type 0 where
  pub count : ℕ
  pub words : Command
  pub wanting : IsWanting count words total
  pub is : text ≡ (header count ++ bulks words) ++ part

-- The part is no bulk string any more, at its last byte: the line with the length is none, or no CRLF follows the bytes.
pub data IsBadBulk (total : ℕ) (part : Bytes) : Type 0 where
  bad_line : (behind : Bytes) → IsBadLine IsLengthLine behind → part ≡ dollar ∷ behind → IsBadBulk total part
  bad_cr : (word : Bytes) (byte : ℕ) → IsWord word → total + length word ≤ LONGEST_COMMAND → byte ≢ cr → part ≡ opened (length word) word ++ byte ∷ [] → IsBadBulk total part
  bad_lf : (word : Bytes) (byte : ℕ) → IsWord word → total + length word ≤ LONGEST_COMMAND → byte ≢ lf → part ≡ opened (length word) word ++ cr ∷ byte ∷ [] → IsBadBulk total part

-- The bytes are that fault, at exactly their last byte. `Memory` is a fault of no stream.
abbrev pub IsFault : Bytes → WireFault → Type 0
IsFault text MultiLength = (behind : Bytes) × IsBadLine IsCountLine behind × (text ≡ star ∷ behind)
IsFault text BulkLength = (total : ℕ) × ((part : Bytes) × IsBadBulk total part × IsInside text total part)
IsFault text (NoDollar byte) = (total : ℕ) × (byte ≢ dollar) × IsInside text total (byte ∷ [])
IsFault text Limit = (total need : ℕ) × (need ≤ LONGEST_WORD) × (LONGEST_COMMAND < total + need) × IsInside text total (opened need [])
IsFault text Quote = (line : Bytes) × ((byte : ℕ) × IsInline line × IsQuote byte × (text ≡ line ++ byte ∷ []))
IsFault text InlineLong = AllByRecursion IsPlain text × NoStar text × (length text ≡ LONGEST_INLINE + 1)
IsFault text Memory = ⊥
