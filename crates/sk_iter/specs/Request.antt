-- The words of the requests.
use Rattle.std.specs.Prelude.{ℕ, List, [], ◌∷◌, ◌++◌, codes}
use Rattle.std.specs.Fmt.{decimal}
use Rattle.sk_resp.specs.Spelling.{Bytes}

-- the key of a job's cursor
abbrev pub key_of : Bytes → Bytes
key_of jid = codes "it:" ++ jid

abbrev pub get_words : Bytes → List Bytes
get_words jid = codes "GET" ∷ key_of jid ∷ []

abbrev pub set_words : Bytes → ℕ → List Bytes
set_words jid next = codes "SET" ∷ key_of jid ∷ decimal next ∷ []
