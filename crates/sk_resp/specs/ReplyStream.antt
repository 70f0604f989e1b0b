-- How a stream of bytes is read as replies (RESP2, "RESP protocol description"), with this reader's limits. Contracts see replies as their texts.
use Rattle.std.specs.Prelude.{◌≡◌, ◌≢◌, ◌<◌, ◌≤◌, ◌⊎◌, ℕ, ℤ, zero, suc, List, [], ◌∷◌, ◌++◌, length, codes, Option}
use Rattle.std.specs.List.{AllByRecursion}
use Rattle.std.specs.Fmt.{signed_decimal}
use Rattle.sk_base.specs.declared.limits.TheConstants.{DEEPEST_REPLY, LONGEST_BULK, LONGEST_REPLY, LONGEST_TEXT, MOST_ELEMENTS}
use Rattle.sk_resp.specs.Spelling.{Bytes, plus, minus, colon, cr, lf, line, bulk, joined}
use Rattle.sk_resp.specs.Number.{IsI64}
use Rattle.sk_resp.specs.Reply.{array_text, wire}
use Rattle.sk_resp.specs.declared.reply.Reply.{Reply}
use Rattle.sk_resp.specs.declared.reply.Reply.TheVariants as reply
use Rattle.sk_resp.specs.declared.reply.fault.ReplyFault.{ReplyFault}
use Rattle.sk_resp.specs.declared.reply.fault.ReplyFault.TheVariants.{Memory}

-- ## The texts of replies

-- what may stand on the line of a simple or an error text: neither CR nor LF, and at most 65,536 bytes
pub record IsLineText (text : Bytes) : Type 0 where
  pub plain : AllByRecursion (λ b. (b ≢ cr) × (b ≢ lf)) text
  pub short : length text ≤ LONGEST_TEXT

-- the replies that are no arrays: integers of 64 bits, bulk strings of at most 2,147,483,648 bytes
pub data IsFlat (text : Bytes) : Type 0 where
  simple_text : (word : Bytes) → IsLineText word → text ≡ line (plus ∷ word) → IsFlat text
  error_text : (word : Bytes) → IsLineText word → text ≡ line (minus ∷ word) → IsFlat text
  int_text : (z : ℤ) → IsI64 z → text ≡ line (colon ∷ signed_decimal z) → IsFlat text
  bulk_text : (word : Bytes) → length word ≤ LONGEST_BULK → text ≡ bulk word → IsFlat text
  null_text : text ≡ line (codes "$-1") → IsFlat text
  null_array_text : text ≡ line (codes "*-1") → IsFlat text

-- A reply in which arrays are nested so many deep at most. An array has at most 2,147,483,648 elements.
abbrev pub IsNested : ℕ → Bytes → Type 0
IsNested zero text = IsFlat text
IsNested (suc depth) text = IsFlat text ⊎ ((texts : List Bytes) × AllByRecursion (IsNested depth) texts × (length texts ≤ MOST_ELEMENTS) × (text ≡ array_text texts))

-- a reply within the limits: eight arrays deep, and 4,294,967,296 bytes
pub record IsReplyText (text : Bytes) : Type 0 where
  pub nested : IsNested DEEPEST_REPLY text
  pub short : length text ≤ LONGEST_REPLY

-- ## Streams

-- Some list of replies begins with these bytes.
pub record BeginsSome (bytes : Bytes) : Type 0 where
  pub texts : List Bytes
  pub more : Bytes
  pub each : AllByRecursion IsReplyText texts
  pub is : bytes ++ more ≡ joined texts

-- the first part of a reply, and not the whole of it
pub record IsReplyPart (part : Bytes) : Type 0 where
  pub more : Bytes
  pub whole : IsReplyText (part ++ more)
  pub some : 0 < length more

-- The bytes are these replies, end to end, and then the first part of one.
pub record ReadsReplies (bytes : Bytes) (texts : List Bytes) (rest : Bytes) : Type 0 where
  pub is : bytes ≡ joined texts ++ rest
  pub each : AllByRecursion IsReplyText texts
  pub part : IsReplyPart rest

-- The bytes are these replies and the first part of one, and then comes a byte with which no list of replies begins.
pub record IsUnreadable (bytes : Bytes) (texts : List Bytes) : Type 0 where
  pub part : Bytes
  pub byte : ℕ
  pub more : Bytes
  pub is : bytes ≡ (joined texts ++ part) ++ byte ∷ more
  pub reads : ReadsReplies (joined texts ++ part) texts part
  pub stuck : BeginsSome ((joined texts ++ part) ++ byte ∷ []) → ⊥

-- The bytes begin with these replies, and the reader stops behind them: at the first byte with which it can't go on, or for want of memory.
pub record StopsReplies (bytes : Bytes) (texts : List Bytes) (fault : ReplyFault) : Type 0 where
  pub rest : Bytes
  pub is : bytes ≡ joined texts ++ rest
  pub each : AllByRecursion IsReplyText texts
  pub unreadable : fault ≢ Memory → IsUnreadable bytes texts

-- ## The reader

-- What a reader of replies has heard.
pub record RepliesHeard : Type 0 where
  -- the bytes behind the last whole reply
  pub rest : Bytes
  -- the fault at which it stopped; it reads nothing from then on
  pub fault : Option ReplyFault

-- a reply as a reader makes it: a fixed text comes as a simple or an error text
abbrev pub IsRead : Reply → Type 0
IsRead (reply.Say say) = ⊥
IsRead (reply.Simple text) = Unit {0}
IsRead (reply.Error text) = Unit {0}
IsRead (reply.Int n) = Unit {0}
IsRead (reply.Bulk bytes) = Unit {0}
IsRead reply.Null = Unit {0}
IsRead (reply.Array texts) = Unit {0}
IsRead reply.NullArray = Unit {0}

-- These replies were added at the end, each as a reader makes it.
pub record AddsReplies (old new added : List Reply) : Type 0 where
  pub is : new ≡ old ++ added
  pub read : AllByRecursion IsRead added

-- ## Replies that can be read again

-- A reply whose texts are lines, with its elements seven deep at most. Fixed texts are lines.
abbrev pub IsWithin : Reply → Type 0
IsWithin (reply.Say say) = Unit {0}
IsWithin (reply.Simple text) = IsLineText text
IsWithin (reply.Error text) = IsLineText text
IsWithin (reply.Int n) = IsI64 n
IsWithin (reply.Bulk bytes) = length bytes ≤ LONGEST_BULK
IsWithin reply.Null = Unit {0}
IsWithin (reply.Array texts) = AllByRecursion (IsNested 7) texts × (length texts ≤ MOST_ELEMENTS)
IsWithin reply.NullArray = Unit {0}

-- and of at most 4,294,967,296 bytes
pub record IsWritable (r : Reply) : Type 0 where
  pub within : IsWithin r
  pub short : length (wire r) ≤ LONGEST_REPLY
