-- Keys in the order of their names, each name once.
use Rattle.std.proofs.Common.{◌≡◌, ℕ, List, [], ◌∷◌, refl, ap, ◌∙◌, arith, Bool, true, false, cond}
use Rattle.std.proofs.lemmas.Cmp.{nat_list_cmp_total}
use Rattle.std.specs.BTreeMap.{is_at}
use Rattle.std.specs.Option.{is_some}
use Rattle.std.specs.Ordering.{match_ordering, is_eq, ordering_reverse}
use Rattle.std.specs.Prelude.{Option, Some, None, length, ◌==◌}
use Rattle.std.specs.Str.{bytes_eq}
use Rattle.std.specs.declared.cmp.Ordering.{Ordering}
use Rattle.std.specs.declared.cmp.Ordering.TheVariants.{Less, Equal, Greater}
use Rattle.sk_resp.specs.Spelling.{Bytes}
use Rattle.sk_resp.specs.WordOrder.{text_cmp}
use Rattle.sk_cmd.specs.declared.argument.Side.{Side}
use Rattle.sk_value.specs.Apply.{Applied, Change, Stays, Goes, Becomes, applied, carry, changed, deadline_at, edit_at, expires_at, give_at, list_at, move_keys, move_list, put_list, set_at, turn_list}
use Rattle.sk_value.specs.Keys.{Keys, at, is_over, purged, put, without, without_all}
use Rattle.sk_value.specs.Lists.{take_one}
use Rattle.sk_value.specs.declared.action.Action.{Action}
use Rattle.sk_value.specs.declared.action.Action.TheVariants as action
use Rattle.sk_value.specs.declared.entry.Entry.{Entry}

-- the name is below each of them
abbrev pub IsBelow : Bytes → Keys → Type 0
IsBelow name [] = Unit {0}
IsBelow name (key ∷ keys) = (text_cmp name key.0 ≡ Less) × IsBelow name keys

abbrev pub InOrder : Keys → Type 0
InOrder [] = Unit {0}
InOrder (key ∷ keys) = IsBelow key.0 keys × InOrder keys

by_order : (P : Keys → Type 0) (o : Ordering) (x y z : Keys) → (o ≡ Less → P x) → (o ≡ Equal → P y) → (o ≡ Greater → P z) → P (match_ordering o x y z)
by_order P Less x y z a b c = a refl
by_order P Equal x y z a b c = b refl
by_order P Greater x y z a b c = c refl

by_test : (P : Keys → Type 0) (b : Bool) (x y : Keys) → (b ≡ true → P x) → (b ≡ false → P y) → P (cond b x y)
by_test P true x y p q = p refl
by_test P false x y p q = q refl

above : (a b : Bytes) → text_cmp a b ≡ Greater → text_cmp b a ≡ Less
above a b is = nat_list_cmp_total.antisymm b a ∙ ap ordering_reverse is

below_all : (name other : Bytes) (keys : Keys) → text_cmp name other ≡ Less → IsBelow other keys → IsBelow name keys
below_all name other [] less below = tt
below_all name other (key ∷ keys) less below = (nat_list_cmp_total.trans name other key.0 less below.0, below_all name other keys less below.1)

same_below : (name other : Bytes) (keys : Keys) → text_cmp name other ≡ Equal → IsBelow other keys → IsBelow name keys
same_below name other [] same below = tt
same_below name other (key ∷ keys) same below = (nat_list_cmp_total.congr name other key.0 same ∙ below.0, same_below name other keys same below.1)

-- ## What keeps the order

put_below : (least name : Bytes) (entry : Entry) (keys : Keys) → text_cmp least name ≡ Less → IsBelow least keys → IsBelow least (put name entry keys)
put_below least name entry [] less below = (less, tt)
put_below least name entry (key ∷ keys) less below =
    by_order (IsBelow least) (text_cmp name key.0) ((name, entry) ∷ key ∷ keys) ((key.0, entry) ∷ keys) (key ∷ put name entry keys)
    (λ e. (less, below)) (λ e. below) (λ e. (below.0, put_below least name entry keys less below.1))

pub put_in_order : (name : Bytes) (entry : Entry) (keys : Keys) → InOrder keys → InOrder (put name entry keys)
put_in_order name entry [] order = (tt, tt)
put_in_order name entry (key ∷ keys) order =
    by_order InOrder (text_cmp name key.0) ((name, entry) ∷ key ∷ keys) ((key.0, entry) ∷ keys) (key ∷ put name entry keys)
    (λ e. ((e, below_all name key.0 keys e order.0), order)) (λ e. order) (λ e. (put_below key.0 name entry keys (above name key.0 e) order.0, put_in_order name entry keys order.1))

purged_below : (now : ℕ) (name : Bytes) (keys : Keys) → IsBelow name keys → IsBelow name (purged now keys)
purged_below now name [] below = tt
purged_below now name (key ∷ keys) below =
    let rest = purged_below now name keys below.1 in
    by_test (IsBelow name) _ (key ∷ purged now keys) (purged now keys) (λ e. (below.0, rest)) (λ e. rest)

pub purged_in_order : (now : ℕ) (keys : Keys) → InOrder keys → InOrder (purged now keys)
purged_in_order now [] order = tt
purged_in_order now (key ∷ keys) order =
    let rest = purged_in_order now keys order.1 in
    by_test InOrder _ (key ∷ purged now keys) (purged now keys) (λ e. (purged_below now key.0 keys order.0, rest)) (λ e. rest)

without_below : (least name : Bytes) (keys : Keys) → IsBelow least keys → IsBelow least (without name keys)
without_below least name [] below = tt
without_below least name (key ∷ keys) below =
    by_test (IsBelow least) (is_at (text_cmp name) key.0) keys (key ∷ without name keys) (λ e. below.1) (λ e. (below.0, without_below least name keys below.1))

pub without_in_order : (name : Bytes) (keys : Keys) → InOrder keys → InOrder (without name keys)
without_in_order name [] order = tt
without_in_order name (key ∷ keys) order =
    by_test InOrder (is_at (text_cmp name) key.0) keys (key ∷ without name keys) (λ e. order.1) (λ e. (without_below key.0 name keys order.0, without_in_order name keys order.1))

-- ## What time leaves

is_equal : (o : Ordering) → is_eq o ≡ true → o ≡ Equal
is_equal Less e = absurd (cc e)
is_equal Equal e = refl
is_equal Greater e = absurd (cc e)

none_below : (name : Bytes) (keys : Keys) → IsBelow name keys → at name keys ≡ None
none_below name [] below = refl
none_below name (key ∷ keys) below = let less = below.0 in let rest = none_below name keys below.1 in grind (arith, less, rest)

-- Time brings nothing.
pub none_purged : (now : ℕ) (name : Bytes) (keys : Keys) → at name keys ≡ None → at name (purged now keys) ≡ None
none_purged now name [] none = refl
none_purged now name (key ∷ keys) none = by (is_at (text_cmp name) key.0) (is_over now key.1.deadline) refl refl (λ rest. none_purged now name keys rest) where
  by : (b o : Bool) → is_at (text_cmp name) key.0 ≡ b → is_over now key.1.deadline ≡ o → (at name keys ≡ None → at name (purged now keys) ≡ None) → at name (purged now (key ∷ keys)) ≡ None
  by true o here goes more = let some : Some key.1 ≡ None = grind (arith, here, none) in absurd (cc some)
  by false true here goes more = let rest = more (grind (arith, here, none)) in grind (arith, here, goes, rest)
  by false false here goes more = let rest = more (grind (arith, here, none)) in grind (arith, here, goes, rest)

-- What is over is gone, since no other key has its name.
pub at_over : (now : ℕ) (name : Bytes) (entry : Entry) (keys : Keys) → InOrder keys → at name keys ≡ Some entry → is_over now entry.deadline ≡ true → at name (purged now keys) ≡ None
at_over now name entry [] order is over = refl
at_over now name entry (key ∷ keys) order is over =
    by (is_at (text_cmp name) key.0) (is_over now key.1.deadline) refl refl
    (λ same. none_below name (purged now keys) (purged_below now name keys (same_below name key.0 keys (is_equal (text_cmp name key.0) same) order.0)))
    (λ rest. at_over now name entry keys order.1 rest over)
  where
    by : (b o : Bool) → is_at (text_cmp name) key.0 ≡ b → is_over now key.1.deadline ≡ o → (is_at (text_cmp name) key.0 ≡ true → at name (purged now keys) ≡ None)
        → (at name keys ≡ Some entry → at name (purged now keys) ≡ None) → at name (purged now (key ∷ keys)) ≡ None
    by true true here goes none more = let rest = none here in grind (arith, here, goes, rest)
    by true false here goes none more =
        let found : Some key.1 ≡ Some entry = grind (arith, here, is) in
        let same : key.1 ≡ entry = cc found in
        let same_over : is_over now key.1.deadline ≡ is_over now entry.deadline = ap (λ (e : Entry). is_over now e.deadline) same in
        absurd (cc (goes, over, same_over))
    by false true here goes none more = let rest = more (grind (arith, here, is)) in grind (arith, here, goes, rest)
    by false false here goes none more = let rest = more (grind (arith, here, is)) in grind (arith, here, goes, rest)

-- ## Every action

pub change_in_order : (name : Bytes) (change : Change) (keys : Keys) → InOrder keys → InOrder (changed name change keys)
change_in_order name Stays keys order = order
change_in_order name Goes keys order = without_in_order name keys order
change_in_order name (Becomes entry) keys order = put_in_order name entry keys order

all_without_in_order : (names : List Bytes) (keys : Keys) → InOrder keys → InOrder (without_all names keys)
all_without_in_order [] keys order = order
all_without_in_order (name ∷ names) keys order = all_without_in_order names (without name keys) (without_in_order name keys order)

put_list_in_order : (name : Bytes) (list : List Bytes) (deadline : Option ℕ) (keys : Keys) → InOrder keys → InOrder (put_list name list deadline keys)
put_list_in_order name list deadline keys order =
    by_test InOrder (length list == 0) _ _ (λ e. without_in_order name keys order) (λ e. put_in_order name _ keys order)

turned_in_order : (name : Bytes) (to : Side) (deadline : Option ℕ) (taken : Option (Bytes × List Bytes)) (keys : Keys) → InOrder keys → InOrder (turn_list name to deadline taken keys).keys
turned_in_order name to deadline None keys order = order
turned_in_order name to deadline (Some taken) keys order = put_list_in_order name _ deadline keys order

carried_in_order : (source : Bytes) (from : Option Entry) (destination : Bytes) (to : Side) (there : Option Entry) (taken : Option (Bytes × List Bytes)) (list : Option (List Bytes)) (keys : Keys)
    → InOrder keys → InOrder (carry source from destination to there taken list keys).keys
carried_in_order source from destination to there taken None keys order = order
carried_in_order source from destination to there None (Some list) keys order = order
carried_in_order source from destination to there (Some taken) (Some list) keys order =
    put_list_in_order destination _ (deadline_at there) _ (put_list_in_order source taken.1 (deadline_at from) keys order)

applied_test : (b : Bool) (x y : Applied) → InOrder x.keys → InOrder y.keys → InOrder (cond b x y).keys
applied_test true x y p q = p
applied_test false x y p q = q

list_in_order : (source destination : Bytes) (from to : Side) (list : Option (List Bytes)) (keys : Keys) → InOrder keys → InOrder (move_list source destination from to list keys).keys
list_in_order source destination from to None keys order = order
list_in_order source destination from to (Some list) keys order =
    applied_test (bytes_eq source destination)
    (turn_list source to (deadline_at (at source keys)) (take_one from list) keys)
    (carry source (at source keys) destination to (at destination keys) (take_one from list) (list_at (at destination keys)) keys)
    (turned_in_order source to (deadline_at (at source keys)) (take_one from list) keys order)
    (carried_in_order source (at source keys) destination to (at destination keys) (take_one from list) (list_at (at destination keys)) keys order)

moved_in_order : (source destination : Bytes) (from to : Side) (keys : Keys) → InOrder keys → InOrder (move_keys source destination from to keys).keys
unfolding move_keys
moved_in_order source destination from to keys order =
    applied_test (is_some (at source keys)) (move_list source destination from to (list_at (at source keys)) keys) _ (list_in_order source destination from to (list_at (at source keys)) keys order) order

pub applied_in_order : (now : ℕ) (a : Action) (keys : Keys) → InOrder keys → InOrder (applied now a keys).keys
applied_in_order now action.Ping keys order = order
applied_in_order now (action.Echo text) keys order = order
applied_in_order now action.Quit keys order = order
applied_in_order now (action.ReadOp name look) keys order = order
applied_in_order now (action.WriteOp name edit) keys order = change_in_order name (edit_at edit (at name keys)).change keys order
applied_in_order now (action.Set name text options) keys order = change_in_order name (set_at now text options (at name keys)).change keys order
applied_in_order now (action.Expire name millis) keys order = change_in_order name (expires_at now millis (at name keys)).change keys order
applied_in_order now (action.Give name text) keys order = change_in_order name (give_at text (at name keys)).change keys order
applied_in_order now (action.Exists names) keys order = order
applied_in_order now (action.Delete names) keys order = all_without_in_order names keys order
applied_in_order now (action.Move source destination from to) keys order = moved_in_order source destination from to keys order
applied_in_order now action.Flush keys order = tt
