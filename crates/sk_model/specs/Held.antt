-- What a key holds, plain or managed: what a command that reads it sees.
use Rattle.std.specs.Prelude.{ℕ, map, List, [], ◌∷◌, Option, Some, None, option_map}
use Rattle.std.specs.Fmt.{decimal}
use Rattle.sk_resp.specs.Spelling.{Bytes}
use Rattle.sk_value.specs.declared.value.Value.{Value}
use Rattle.sk_value.specs.declared.value.Value.TheVariants as value
use Rattle.sk_value.specs.declared.entry.Entry.{Entry}
use Rattle.sk_value.specs.Keys.{at}
use Rattle.sk_key.specs.declared.key_class.KeyClass.{KeyClass}
use Rattle.sk_key.specs.declared.key_class.KeyClass.TheVariants as class
use Rattle.sk_places.specs.declared.row.Place.TheVariants.{Queue, Private, Set}
use Rattle.sk_places.specs.Rows.{pair_of, rows_at, texts_at}
use Rattle.sk_model.specs.World.{World}
use Rattle.sk_leases.specs.Leased.{idents}
use Rattle.sk_counters.specs.Counters.{count_in}
use Rattle.sk_key.specs.Class.{class_of, queue_of, ident_of, counter_of}

-- a list as a value without a deadline; where it is empty there is no key
abbrev pub if_any : {A : Type 0} → (List A → Value) → List A → Option Entry
if_any make [] = None
if_any make (x ∷ xs) = Some (record { value = make (x ∷ xs); deadline = None })

-- a count as a string
abbrev pub count_entry : ℕ → Entry
count_entry n = record { value = value.String (decimal n); deadline = None }

abbrev pub held_as : World → Bytes → KeyClass → Option Entry
held_as w key class.Plain = at key w.keys
held_as w key class.Queue = if_any value.List (texts_at (Queue (queue_of key)) w.rows)
held_as w key class.NoQueue = None
held_as w key class.Queues = if_any value.Set w.names
held_as w key class.Private = if_any value.List (texts_at (Private (ident_of key)) w.rows)
held_as w key class.NoPrivate = None
held_as w key class.Processes = if_any value.Set (idents w.moment w.leases)
held_as w key (class.Jobs set) = if_any value.Sorted (map pair_of (rows_at (Set set) w.rows))
held_as w key class.Counter = option_map count_entry (count_in w.counters (counter_of key))

abbrev pub held : World → Bytes → Option Entry
held w key = held_as w key (class_of key)
