-- The words of a worker's requests.
use Rattle.std.specs.Prelude.{ℤ, List, [], ◌∷◌, ◌++◌, codes}
use Rattle.sk_base.specs.Score.{score_text}
use Rattle.sk_resp.specs.Spelling.{Bytes}

abbrev pub queue_key : Bytes → Bytes
queue_key queue = codes "queue:" ++ queue

abbrev pub private_key : Bytes → Bytes
private_key ident = codes "sq:" ++ ident

abbrev pub fetch_words : Bytes → Bytes → List Bytes
fetch_words ident queue = codes "LMOVE" ∷ queue_key queue ∷ private_key ident ∷ codes "RIGHT" ∷ codes "LEFT" ∷ []

-- a script with a payload, as `SK.START c`
abbrev pub script_words : Bytes → Bytes → List Bytes
script_words name payload = name ∷ payload ∷ []

abbrev pub retry_words : ℤ → Bytes → List Bytes
retry_words score payload = codes "ZADD" ∷ codes "retry" ∷ score_text score ∷ payload ∷ []

abbrev pub release_words : Bytes → Bytes → List Bytes
release_words ident payload = codes "LREM" ∷ private_key ident ∷ codes "1" ∷ payload ∷ []

abbrev pub join_words : Bytes → List Bytes
join_words ident = codes "SK.JOIN" ∷ ident ∷ []
