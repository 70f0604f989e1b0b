-- Keys that are over and still stand: a purge left them, and nobody sees them.
use Rattle.std.specs.Prelude.{◌≡◌, ℕ, List, [], ◌∷◌, Option, Some, None, Bool, false, cond}
use Rattle.std.specs.BTreeSet.{BTreeSet}
use Rattle.std.specs.List.{AllByRecursion}
use Rattle.sk_resp.specs.Spelling.{Bytes}
use Rattle.sk_value.specs.declared.action.Action.{Action}
use Rattle.sk_value.specs.declared.action.Action.TheVariants as action
use Rattle.sk_value.specs.declared.entry.Entry.{Entry}
use Rattle.sk_value.specs.Keys.{Keys, at, is_over, purged, without}
use Rattle.sk_keys.specs.Index.{Expiry, IsIndexed}

-- what is held is over
abbrev pub is_past : ℕ → Option Entry → Bool
is_past over None = false
is_past over (Some entry) = is_over over entry.deadline

-- No key of these names is over.
abbrev pub AreAhead : ℕ → List Bytes → Keys → Type 0
AreAhead over names keys = AllByRecursion (λ name. is_past over (at name keys) ≡ false) names

-- the names that an action looks at
abbrev pub named : Action → List Bytes
named action.Ping = []
named (action.Echo text) = []
named action.Quit = []
named (action.ReadOp name look) = name ∷ []
named (action.WriteOp name edit) = name ∷ []
named (action.Set name text options) = name ∷ []
named (action.Expire name millis) = name ∷ []
named (action.Give name text) = name ∷ []
named (action.Exists names) = names
named (action.Delete names) = names
named (action.Move source destination from to) = source ∷ destination ∷ []
named action.Flush = []

-- without the key of the name, where it is over
abbrev pub dropped : ℕ → Bytes → Keys → Keys
dropped over name keys = cond (is_past over (at name keys)) (without name keys) keys

abbrev pub all_dropped : ℕ → List Bytes → Keys → Keys
all_dropped over [] keys = keys
all_dropped over (name ∷ names) keys = all_dropped over names (dropped over name keys)

-- the most keys that a purge takes, and so many where it leaves some
abbrev pub most_purged : ℕ
most_purged = 100

-- Each deadline has its pair of the index. Where nothing was left behind, nothing is over.
pub record AreKeys (over : ℕ) (behind : Bool) (keys : Keys) (expiries : BTreeSet Expiry) : Type 0 where
  pub indexed : IsIndexed keys expiries
  pub clean : behind ≡ false → purged over keys ≡ keys
