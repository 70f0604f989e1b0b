-- The keys and the requests of limiters, word by word.
use Rattle.std.specs.Prelude.{ℕ, List, [], ◌∷◌, ◌++◌, codes}
use Rattle.std.specs.Fmt.{decimal}
use Rattle.sk_resp.specs.Spelling.{Bytes}

-- `limit:name:slot`
abbrev pub slot_key : Bytes → ℕ → Bytes
slot_key name slot = codes "limit:" ++ name ++ codes ":" ++ decimal slot

-- `bucket:name`
abbrev pub bucket_key : Bytes → Bytes
bucket_key name = codes "bucket:" ++ name

-- `SET key text NX PX millis`
abbrev pub set_words : Bytes → Bytes → ℕ → List Bytes
set_words key text millis = codes "SET" ∷ key ∷ text ∷ codes "NX" ∷ codes "PX" ∷ decimal millis ∷ []

-- `SK.GIVE key token`
abbrev pub give_words : Bytes → Bytes → List Bytes
give_words key token = codes "SK.GIVE" ∷ key ∷ token ∷ []

-- `INCRBY key 1`
abbrev pub count_words : Bytes → List Bytes
count_words key = codes "INCRBY" ∷ key ∷ codes "1" ∷ []

-- `PTTL key`
abbrev pub left_words : Bytes → List Bytes
left_words key = codes "PTTL" ∷ key ∷ []

-- `PEXPIRE key millis`
abbrev pub expire_words : Bytes → ℕ → List Bytes
expire_words key millis = codes "PEXPIRE" ∷ key ∷ decimal millis ∷ []
