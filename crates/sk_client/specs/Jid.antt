-- The ids of new jobs.
use Rattle.std.specs.Prelude.{ℕ, ◌++◌, take}
use Rattle.std.specs.Int.{w64, to_be_bytes}
use Rattle.hex.specs.Hex.{encode_lower}
use Rattle.sk_resp.specs.Spelling.{Bytes}

-- The eight bytes of the first word and the first four of the second, the highest byte of each in front, in lower-case hex.
abbrev pub jid_of_words : ℕ → ℕ → Bytes
jid_of_words first second = encode_lower (to_be_bytes w64 first ++ take 4 (to_be_bytes w64 second))
