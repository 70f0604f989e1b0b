-- Keys that are over and still stand: what look-ups and edits see of those that aren't.
use Rattle.std.proofs.Common.{◌≡◌, ◌+◌, ◌-◌, ◌&&◌, ◌||◌, ℕ, Bool, true, false, cond, not, List, [], ◌∷◌, Option, Some, None, length, max, min, refl, sym, ap, subst, ◌∙◌, arith}
use Rattle.std.specs.BTreeMap.{is_at}
use Rattle.std.specs.Cmp.{eq_by_cmp_equiv}
use Rattle.std.specs.List.{AllByRecursion}
use Rattle.std.specs.List.Sorted.{IsStrictlySortedBy}
use Rattle.std.specs.Map.{keys_of}
use Rattle.std.specs.Option.{is_some}
use Rattle.std.specs.declared.cmp.Ordering.TheVariants.{Less}
use Rattle.std.proofs.lemmas.Cmp.{nat_list_cmp_total}
use Rattle.std.proofs.lemmas.Map.Entries.{lookup-filter-values, option_filter}
use Rattle.std.proofs.lemmas.Map.Keys.{IsDistinct-from_sorted}
use Rattle.sk_resp.specs.Spelling.{Bytes}
use Rattle.sk_resp.specs.WordOrder.{text_cmp}
use Rattle.sk_table.proofs.Ordered.{IsUp, at_itself, at_with, at_without, same_entries, up_with, up_without}
use Rattle.sk_value.specs.declared.entry.Entry.{Entry}
use Rattle.sk_value.specs.Keys.{Keys, at, how_many, is_over, purged, put, without, without_all}
use Rattle.sk_keys.specs.Past.{AreAhead, all_dropped, dropped, is_past}
use Rattle.sk_keys.proofs.Purging.{purge_without}
use Rattle.sk_keys.proofs.Puts.{count_without, without_absent}

-- ## One purge and another

over_max : (over now : ℕ) (deadline : Option ℕ) → is_over (max over now) deadline ≡ is_over over deadline || is_over now deadline
over_max over now None = refl
over_max over now (Some deadline) = grind arith

pub purge_twice : (over now : ℕ) (keys : Keys) → purged now (purged over keys) ≡ purged (max over now) keys
purge_twice over now [] = refl
purge_twice over now (key ∷ keys) = by_test (is_over over key.1.deadline) (is_over now key.1.deadline) refl refl (purge_twice over now keys) where
  by_test : (b c : Bool) → is_over over key.1.deadline ≡ b → is_over now key.1.deadline ≡ c → purged now (purged over keys) ≡ purged (max over now) keys → purged now (purged over (key ∷ keys)) ≡ purged (max over now) (key ∷ keys)
  by_test true true b c more = grind (arith, b, c, over_max over now key.1.deadline, more)
  by_test true false b c more = grind (arith, b, c, over_max over now key.1.deadline, more)
  by_test false true b c more = grind (arith, b, c, over_max over now key.1.deadline, more)
  by_test false false b c more = grind (arith, b, c, over_max over now key.1.deadline, more)

-- ## What is seen

all_purged : (P : Bytes → Type 0) (over : ℕ) (keys : Keys) → AllByRecursion P (keys_of keys) → AllByRecursion P (keys_of (purged over keys))
all_purged P over [] all = tt
all_purged P over (key ∷ keys) all = by_test (is_over over key.1.deadline) (all_purged P over keys all.1) where
  by_test : (b : Bool) → AllByRecursion P (keys_of (purged over keys)) → AllByRecursion P (keys_of (cond (not b) (key ∷ purged over keys) (purged over keys)))
  by_test true more = more
  by_test false more = (all.0, more)

pub up_purged : (over : ℕ) (keys : Keys) → IsUp keys → IsUp (purged over keys)
unfolding IsStrictlySortedBy
up_purged over [] up = tt
up_purged over (key ∷ keys) up = by_test (is_over over key.1.deadline) (up_purged over keys up.1) where
  by_test : (b : Bool) → IsUp (purged over keys) → IsUp (cond (not b) (key ∷ purged over keys) (purged over keys))
  by_test true more = more
  by_test false more = (all_purged (λ other. text_cmp key.0 other ≡ Less) over keys up.0, more)

-- what is held, unless it is over
abbrev pub seen : ℕ → Option Entry → Option Entry
seen over held = option_filter (λ entry. not (is_over over entry.deadline)) held

pub at_purged : (over : ℕ) (name : Bytes) (keys : Keys) → IsUp keys → at name (purged over keys) ≡ seen over (at name keys)
at_purged over name keys up = lookup-filter-values (eq_by_cmp_equiv nat_list_cmp_total) (λ entry. not (is_over over entry.deadline)) name keys (IsDistinct-from_sorted text_cmp (keys_of keys) up)

seen_ahead : (over : ℕ) (held : Option Entry) → is_past over held ≡ false → seen over held ≡ held
seen_ahead over None ahead = refl
seen_ahead over (Some entry) ahead = ap (λ b. cond (not b) (Some entry) None) ahead

-- at a name that isn't over nothing is hidden
pub at_ahead : (over : ℕ) (name : Bytes) (keys : Keys) → IsUp keys → is_past over (at name keys) ≡ false → at name (purged over keys) ≡ at name keys
at_ahead over name keys up ahead = at_purged over name keys up ∙ seen_ahead over (at name keys) ahead

past_seen : (over : ℕ) (held : Option Entry) → is_past over (seen over held) ≡ false
past_seen over None = refl
past_seen over (Some entry) = by_test (is_over over entry.deadline) refl where
  by_test : (b : Bool) → is_over over entry.deadline ≡ b → is_past over (cond (not b) (Some entry) None) ≡ false
  by_test true is = refl
  by_test false is = is

-- where nothing is over, no name is
pub clean_ahead : (over : ℕ) (names : List Bytes) (keys : Keys) → IsUp keys → purged over keys ≡ keys → AreAhead over names keys
clean_ahead over [] keys up clean = tt
clean_ahead over (name ∷ names) keys up clean = (ap (λ k. is_past over (at name k)) (sym clean) ∙ ap (is_past over) (at_purged over name keys up) ∙ past_seen over (at name keys), clean_ahead over names keys up clean)

-- ## Edits

pub purged_put : (over : ℕ) (name : Bytes) (entry : Entry) (keys : Keys) → IsUp keys → is_over over entry.deadline ≡ false → put name entry (purged over keys) ≡ purged over (put name entry keys)
purged_put over name entry keys up ahead = same_entries _ _ (up_with name entry (purged over keys) (up_purged over keys up)) (up_purged over (put name entry keys) (up_with name entry keys up)) (λ other.
    at_with name other entry (purged over keys)
    ∙ ap (λ held. cond (is_at (text_cmp name) other) (Some entry) held) (at_purged over other keys up)
    ∙ by_test (is_at (text_cmp name) other) (at other keys)
    ∙ sym (ap (seen over) (at_with name other entry keys))
    ∙ sym (at_purged over other (put name entry keys) (up_with name entry keys up))) where
      by_test : (b : Bool) (held : Option Entry) → cond b (Some entry) (seen over held) ≡ seen over (cond b (Some entry) held)
      by_test true held = sym (seen_ahead over (Some entry) ahead)
      by_test false held = refl

pub purged_without : (over : ℕ) (name : Bytes) (keys : Keys) → IsUp keys → without name (purged over keys) ≡ purged over (without name keys)
purged_without over name keys up = same_entries _ _ (up_without name (purged over keys) (up_purged over keys up)) (up_purged over (without name keys) (up_without name keys up)) (λ other.
    at_without name other (purged over keys) (up_purged over keys up)
    ∙ ap (λ held. cond (is_at (text_cmp name) other) None held) (at_purged over other keys up)
    ∙ by_test (is_at (text_cmp name) other) (at other keys)
    ∙ sym (ap (seen over) (at_without name other keys up))
    ∙ sym (at_purged over other (without name keys) (up_without name keys up))) where
      by_test : (b : Bool) (held : Option Entry) → cond b None (seen over held) ≡ seen over (cond b None held)
      by_test true held = refl
      by_test false held = refl

pub purged_without_all : (over : ℕ) (names : List Bytes) (keys : Keys) → IsUp keys → without_all names (purged over keys) ≡ purged over (without_all names keys)
purged_without_all over [] keys up = refl
purged_without_all over (name ∷ names) keys up = ap (without_all names) (purged_without over name keys up) ∙ purged_without_all over names (without name keys) (up_without name keys up)

-- what isn't over isn't over either where another key is gone
pub ahead_without : (over : ℕ) (name : Bytes) (names : List Bytes) (keys : Keys) → IsUp keys → AreAhead over names keys → AreAhead over names (without name keys)
ahead_without over name [] keys up ahead = tt
ahead_without over name (other ∷ names) keys up ahead = (ap (is_past over) (at_without name other keys up) ∙ by_test (is_at (text_cmp name) other), ahead_without over name names keys up ahead.1) where
  by_test : (b : Bool) → is_past over (cond b None (at other keys)) ≡ false
  by_test true = refl
  by_test false = ahead.0

-- ## Counts

pub seen_how_many : (over : ℕ) (names : List Bytes) (keys : Keys) → IsUp keys → AreAhead over names keys → how_many (λ name. at name (purged over keys)) names ≡ how_many (λ name. at name keys) names
seen_how_many over [] keys up ahead = refl
seen_how_many over (name ∷ names) keys up ahead = grind (arith, at_ahead over name keys up ahead.0, seen_how_many over names keys up ahead.1)

-- how many keys stand under one name
abbrev ones : Option Entry → ℕ
ones None = 0
ones (Some entry) = 1

count_without_one : (name : Bytes) (held : Option Entry) (keys : Keys) → at name keys ≡ held → length (without name keys) + ones held ≡ length keys
count_without_one name None keys is = grind (arith, ap length (without_absent name keys is))
count_without_one name (Some entry) keys is = count_without name entry keys is

same_sums : (a b c d e f n : ℕ) → a + n ≡ b → c + n ≡ d → c + e ≡ f + a → d + e ≡ f + b
same_sums a b c d e f n x y z = omega (arith, x, y, z)

-- as many go of all keys as of those that are seen
sums_without_all : (over : ℕ) (names : List Bytes) (keys : Keys) → IsUp keys → AreAhead over names keys → length (purged over keys) + length (without_all names keys) ≡ length (without_all names (purged over keys)) + length keys
sums_without_all over [] keys up ahead = omega arith
sums_without_all over (name ∷ names) keys up ahead =
    let rest = sums_without_all over names (without name keys) (up_without name keys up) (ahead_without over name names keys up ahead.1) in
    same_sums (length (without name keys)) (length keys) (length (without name (purged over keys))) (length (purged over keys)) (length (without_all names (without name keys))) (length (without_all names (without name (purged over keys)))) (ones (at name keys))
    (count_without_one name (at name keys) keys refl)
    (count_without_one name (at name keys) (purged over keys) (at_ahead over name keys up ahead.0))
    (subst (λ l. length l + length (without_all names (without name keys)) ≡ length (without_all names l) + length (without name keys)) (sym (purged_without over name keys up)) rest)

same_rests : (a b c d : ℕ) → a + b ≡ c + d → a - c ≡ d - b
same_rests a b c d is = omega (arith, is)

pub seen_count : (over : ℕ) (names : List Bytes) (keys : Keys) → IsUp keys → AreAhead over names keys → length (purged over keys) - length (without_all names (purged over keys)) ≡ length keys - length (without_all names keys)
seen_count over names keys up ahead = same_rests (length (purged over keys)) (length (without_all names keys)) (length (without_all names (purged over keys))) (length keys) (sums_without_all over names keys up ahead)

-- ## Keys that are over go where they are named

past_without : (over : ℕ) (name : Bytes) (held : Option Entry) (keys : Keys) → at name keys ≡ held → is_past over held ≡ true → purged over (without name keys) ≡ purged over keys
past_without over name None keys is past = ap (purged over) (without_absent name keys is)
past_without over name (Some entry) keys is past = purge_without over name entry keys is past

pub purged_dropped : (over : ℕ) (name : Bytes) (keys : Keys) → purged over (dropped over name keys) ≡ purged over keys
purged_dropped over name keys = by_test (is_past over (at name keys)) refl where
  by_test : (b : Bool) → is_past over (at name keys) ≡ b → purged over (cond b (without name keys) keys) ≡ purged over keys
  by_test true past = past_without over name (at name keys) keys refl past
  by_test false past = refl

up_dropped : (over : ℕ) (name : Bytes) (keys : Keys) → IsUp keys → IsUp (dropped over name keys)
up_dropped over name keys up = by_test (is_past over (at name keys)) where
  by_test : (b : Bool) → IsUp (cond b (without name keys) keys)
  by_test true = up_without name keys up
  by_test false = up

ahead_dropped : (over : ℕ) (name : Bytes) (keys : Keys) → IsUp keys → is_past over (at name (dropped over name keys)) ≡ false
ahead_dropped over name keys up = by_test (is_past over (at name keys)) refl where
  by_test : (b : Bool) → is_past over (at name keys) ≡ b → is_past over (at name (cond b (without name keys) keys)) ≡ false
  by_test true past = ap (is_past over) (at_without name name keys up ∙ ap (λ b. cond b None (at name keys)) (at_itself name))
  by_test false past = past

stays_ahead : (over : ℕ) (name other : Bytes) (keys : Keys) → IsUp keys → is_past over (at other keys) ≡ false → is_past over (at other (dropped over name keys)) ≡ false
stays_ahead over name other keys up ahead = by_test (is_past over (at name keys)) where
  by_test : (b : Bool) → is_past over (at other (cond b (without name keys) keys)) ≡ false
  by_test true = (ahead_without over name (other ∷ []) keys up (ahead, tt)).0
  by_test false = ahead

pub purged_all_dropped : (over : ℕ) (names : List Bytes) (keys : Keys) → purged over (all_dropped over names keys) ≡ purged over keys
purged_all_dropped over [] keys = refl
purged_all_dropped over (name ∷ names) keys = purged_all_dropped over names (dropped over name keys) ∙ purged_dropped over name keys

all_stay_ahead : (over : ℕ) (names : List Bytes) (other : Bytes) (keys : Keys) → IsUp keys → is_past over (at other keys) ≡ false → is_past over (at other (all_dropped over names keys)) ≡ false
all_stay_ahead over [] other keys up ahead = ahead
all_stay_ahead over (name ∷ names) other keys up ahead = all_stay_ahead over names other (dropped over name keys) (up_dropped over name keys up) (stays_ahead over name other keys up ahead)

pub ahead_all_dropped : (over : ℕ) (names : List Bytes) (keys : Keys) → IsUp keys → AreAhead over names (all_dropped over names keys)
ahead_all_dropped over [] keys up = tt
ahead_all_dropped over (name ∷ names) keys up = (all_stay_ahead over names name (dropped over name keys) (up_dropped over name keys up) (ahead_dropped over name keys up), ahead_all_dropped over names (dropped over name keys) (up_dropped over name keys up))

-- ## Earlier moments

max_min : (over now : ℕ) → max over (min over now) ≡ over
max_min over now = grind arith

max_same : (over : ℕ) → max over over ≡ over
max_same over = grind arith

-- where nothing is over, nothing was
pub purged_earlier : (over now : ℕ) (keys : Keys) → purged over keys ≡ keys → purged (min over now) keys ≡ keys
purged_earlier over now keys clean = ap (purged (min over now)) (sym clean) ∙ purge_twice over (min over now) keys ∙ ap (λ n. purged n keys) (max_min over now) ∙ clean

pub purged_clean : (over : ℕ) (keys after : Keys) → after ≡ purged over keys → purged over after ≡ after
purged_clean over keys after is = ap (purged over) is ∙ purge_twice over over keys ∙ ap (λ n. purged n keys) (max_same over) ∙ sym is

pub clean_without : (over : ℕ) (name : Bytes) (keys after : Keys) → IsUp keys → purged over keys ≡ keys → after ≡ without name keys → purged over after ≡ after
clean_without over name keys after up clean is = ap (purged over) is ∙ sym (purged_without over name keys up) ∙ ap (without name) clean ∙ sym is

-- whether a key is seen under the name
pub seen_has : (over : ℕ) (name : Bytes) (keys : Keys) → IsUp keys → is_some (at name keys) && not (is_past over (at name keys)) ≡ is_some (at name (purged over keys))
seen_has over name keys up = by_held (at name keys) ∙ sym (ap is_some (at_purged over name keys up)) where
  by_held : (held : Option Entry) → is_some held && not (is_past over held) ≡ is_some (seen over held)
  by_held None = refl
  by_held (Some entry) = by_test (is_over over entry.deadline) where
    by_test : (b : Bool) → not b ≡ is_some (cond (not b) (Some entry) None)
    by_test true = refl
    by_test false = refl
