-- The tags of texts. Equal texts have equal tags.
use Rattle.std.specs.Prelude.{◌-◌, ℕ, Bool, ◌&&◌, cond, drop, length, nat_eq, nat_lt, unwrap_or}
use Rattle.std.specs.Int.{from_be_bytes, w64}
use Rattle.std.specs.Str.{bytes_eq}
use Rattle.sk_resp.specs.Spelling.{Bytes}
use Rattle.sk_payload.specs.Head.{jid_of}

-- the last eight bytes as a number; of fewer bytes, how many they are
unfoldable pub number_at_end : Bytes → ℕ
number_at_end bytes = cond (nat_lt (length bytes) 8) (length bytes) (from_be_bytes w64 (drop (length bytes - 8) bytes))

-- that of the id of the job that the text names; of a text that names none, its own
unfoldable pub tag_of : Bytes → ℕ
tag_of text = number_at_end (unwrap_or (jid_of text) text)

-- the other text has this tag and is the same
abbrev pub is_tagged : ℕ → Bytes → Bytes → Bool
is_tagged tag text other = nat_eq tag (tag_of other) && bytes_eq text other
