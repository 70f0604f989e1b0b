-- The last slots of periodic jobs (Sidekiq's wiki, "Ent Periodic Jobs"): each loop's, once it has one.
use Rattle.std.specs.Prelude.{ℕ, List, Option}
use Rattle.std.specs.BTreeMap.{insert_entry, is_at}
use Rattle.std.specs.Map.{lookup}
use Rattle.sk_resp.specs.Spelling.{Bytes}
use Rattle.sk_resp.specs.WordOrder.{text_cmp}

-- the names of loops in the order of their bytes, each with its last slot in milliseconds since 1970
abbrev pub Slots : Type 0
Slots = List (Bytes × ℕ)

abbrev pub last_slot : Bytes → Slots → Option ℕ
last_slot name slots = lookup (is_at (text_cmp name)) slots

abbrev pub with_slot : Bytes → ℕ → Slots → Slots
with_slot name slot slots = insert_entry text_cmp slots name slot
