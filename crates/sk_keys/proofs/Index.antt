-- Pairs of the index.
use Rattle.std.proofs.Common.{◌≡◌, ◌≤◌, ℕ, refl, sym, ap, ◌∙◌, subst, arith, Bool, true, false, nat_eq}
use Rattle.std.specs.Ordering.{nat_cmp, ordering_then, is_gt, is_eq}
use Rattle.std.specs.declared.cmp.Ordering.{Ordering}
use Rattle.std.specs.Prelude.{Option, Some, None, option_map, ◌==◌, ◌&&◌, cond}
use Rattle.std.specs.Option.{option_eq}
use Rattle.std.specs.declared.cmp.Ordering.TheVariants.{Less, Equal, Greater}
use Rattle.std.specs.BTreeMap.{is_at}
use Rattle.std.specs.List.Sorted.{IsStrictlySortedBy}
use Rattle.std.specs.Map.{keys_of, set_value}
use Rattle.std.specs.BTreeSet.{BTreeSet}
use Rattle.std.proofs.lemmas.Map.Lookups.{exact_bytes}
use Rattle.sk_resp.specs.Spelling.{Bytes}
use Rattle.sk_value.specs.declared.entry.Entry.{Entry}
use Rattle.sk_resp.specs.WordOrder.{text_cmp}
use Rattle.sk_value.specs.Keys.{Keys, at, put, without}
use Rattle.sk_table.proofs.Ordered.{at_set, at_with, at_without}
use Rattle.sk_keys.specs.Index.{Expiry, expiry_cmp, has, is_moment, goes_at, HasExpiry, SetsExpiry, AddsExpiry, DropsExpiry, IsIndexed}

pub equal_at : (o : Ordering) → is_eq o ≡ true → o ≡ Equal
equal_at Less is = grind (arith, is)
equal_at Equal is = refl
equal_at Greater is = grind (arith, is)

pub expiry_at : (deadline moment : ℕ) (name other : Bytes) → is_at (expiry_cmp (deadline, name)) (moment, other) ≡ is_at (text_cmp name) other && (deadline == moment)
expiry_at deadline moment name other = grind arith

pub first_below : (a d : ℕ) (o : Ordering) → is_gt (ordering_then (nat_cmp a d) o) ≡ false → a ≤ d
first_below a d o h = grind (arith, h)

-- a deadline and another one have no moment in common
pub one_moment : (from to : Option ℕ) (moment : ℕ) → option_eq nat_eq from to ≡ false → is_moment moment from ≡ true → is_moment moment to ≡ false
one_moment None to moment apart is = grind (arith, is)
one_moment (Some from) None moment apart is = refl
one_moment (Some from) (Some to) moment apart is = grind (arith, apart, is)

pub same_moment : (from to : Option ℕ) (moment : ℕ) → option_eq nat_eq from to ≡ true → is_moment moment from ≡ is_moment moment to
same_moment None None moment same = refl
same_moment None (Some to) moment same = grind (arith, same)
same_moment (Some from) None moment same = grind (arith, same)
same_moment (Some from) (Some to) moment same = grind (arith, same)

pub has_at : (moment : ℕ) (name other : Bytes) (expiries : BTreeSet Expiry) → is_at (text_cmp name) other ≡ true → has moment other expiries ≡ has moment name expiries
has_at moment name other expiries same = ap (λ n. has moment n expiries) (sym (exact_bytes name other (equal_at _ same)))

-- a name has no deadline but this one, so this one is its own again
pub set_same : (name : Bytes) (from to : Option ℕ) (expiries : BTreeSet Expiry) → HasExpiry name from expiries → option_eq nat_eq from to ≡ true → SetsExpiry name to expiries expiries
set_same name from to expiries before same = λ moment other. at_other moment other (is_at (text_cmp name) other) refl where
  at_other : (moment : ℕ) (other : Bytes) (b : Bool) → is_at (text_cmp name) other ≡ b → has moment other expiries ≡ cond b (is_moment moment to) (has moment other expiries)
  at_other moment other false is = refl
  at_other moment other true is = grind (arith, has_at moment name other expiries is, before moment, same_moment from to moment same)

pub set_from_other : (name : Bytes) (from to : Option ℕ) (expiries between after : BTreeSet Expiry) → HasExpiry name from expiries → option_eq nat_eq from to ≡ false → AddsExpiry name to expiries between → DropsExpiry name from between after → SetsExpiry name to expiries after
set_from_other name from to expiries between after before apart adds drops = λ moment other. at_other moment other (is_at (text_cmp name) other) refl where
  at_other : (moment : ℕ) (other : Bytes) (b : Bool) → is_at (text_cmp name) other ≡ b → has moment other after ≡ cond b (is_moment moment to) (has moment other expiries)
  at_other moment other false is = grind (arith, is, adds moment other, drops moment other)
  at_other moment other true is = grind (arith, is, adds moment other, drops moment other, has_at moment name other expiries is, before moment, one_moment from to moment apart)

-- ## The keys and their index

-- afterwards this is held at the name, and at others what was held there
abbrev pub Holds : Bytes → Option Entry → Keys → Keys → Type 0
Holds name held before after = (other : Bytes) → at other after ≡ cond (is_at (text_cmp name) other) held (at other before)

pub at_same : (name other : Bytes) (keys : Keys) → is_at (text_cmp name) other ≡ true → at other keys ≡ at name keys
at_same name other keys same = ap (λ n. at n keys) (sym (exact_bytes name other (equal_at _ same)))

pub has_expiry : (name : Bytes) (entry : Entry) (keys : Keys) (expiries : BTreeSet Expiry) → IsIndexed keys expiries → at name keys ≡ Some entry → HasExpiry name entry.deadline expiries
has_expiry name entry keys expiries indexed there = λ moment. indexed moment name ∙ ap (goes_at moment) there

one_deadline : (held : Option Entry) (first moment : ℕ) → goes_at first held ≡ true → goes_at moment held ≡ is_moment moment (Some first)
one_deadline None first moment goes = grind (arith, goes)
one_deadline (Some entry) first moment goes = by_deadline entry.deadline goes where
  by_deadline : (deadline : Option ℕ) → is_moment first deadline ≡ true → is_moment moment deadline ≡ is_moment moment (Some first)
  by_deadline None is = grind (arith, is)
  by_deadline (Some deadline) is = grind (arith, is)

pub has_member : (name : Bytes) (first : ℕ) (keys : Keys) (expiries : BTreeSet Expiry) → IsIndexed keys expiries → has first name expiries ≡ true → HasExpiry name (Some first) expiries
has_member name first keys expiries indexed member = λ moment. indexed moment name ∙ one_deadline (at name keys) first moment (sym (indexed first name) ∙ member)

pub drops_first : (name : Bytes) (first : ℕ) (before after : BTreeSet Expiry) → ((expiry : Expiry) → has expiry.0 expiry.1 after ≡ cond (is_at (expiry_cmp (first, name)) expiry) false (has expiry.0 expiry.1 before)) → DropsExpiry name (Some first) before after
drops_first name first before after removes = λ moment other. grind (arith, removes (moment, other), expiry_at first moment name other)

-- the key goes with its pair
pub index_removed : (name : Bytes) (deadline : Option ℕ) (keys after : Keys) (expiries left : BTreeSet Expiry) → IsIndexed keys expiries → HasExpiry name deadline expiries → Holds name None keys after → DropsExpiry name deadline expiries left → IsIndexed after left
index_removed name deadline keys after expiries left indexed expiry holds drops = λ moment other. at_other moment other (is_at (text_cmp name) other) refl where
  at_other : (moment : ℕ) (other : Bytes) (b : Bool) → is_at (text_cmp name) other ≡ b → has moment other left ≡ goes_at moment (at other after)
  at_other moment other false is = grind (arith, is, holds other, drops moment other, indexed moment other)
  at_other moment other true is = grind (arith, is, holds other, drops moment other, has_at moment name other expiries is, expiry moment)

-- a new key comes with its pair
pub index_added : (name : Bytes) (entry : Entry) (keys after : Keys) (expiries more : BTreeSet Expiry) → IsIndexed keys expiries → at name keys ≡ None → Holds name (Some entry) keys after → AddsExpiry name entry.deadline expiries more → IsIndexed after more
index_added name entry keys after expiries more indexed absent holds adds = λ moment other. at_other moment other (is_at (text_cmp name) other) refl where
  at_other : (moment : ℕ) (other : Bytes) (b : Bool) → is_at (text_cmp name) other ≡ b → has moment other more ≡ goes_at moment (at other after)
  at_other moment other false is = grind (arith, is, holds other, adds moment other, indexed moment other)
  at_other moment other true is = grind (arith, is, holds other, adds moment other, has_at moment name other expiries is, indexed moment name, absent)

-- a pair that comes and goes again leaves the index as it was
pub index_restored : (name : Bytes) (deadline : Option ℕ) (keys : Keys) (expiries more left : BTreeSet Expiry) → IsIndexed keys expiries → at name keys ≡ None → AddsExpiry name deadline expiries more → DropsExpiry name deadline more left → IsIndexed keys left
index_restored name deadline keys expiries more left indexed absent adds drops = λ moment other. at_other moment other (is_at (text_cmp name) other) refl where
  at_other : (moment : ℕ) (other : Bytes) (b : Bool) → is_at (text_cmp name) other ≡ b → has moment other left ≡ goes_at moment (at other keys)
  at_other moment other false is = grind (arith, is, adds moment other, drops moment other, indexed moment other)
  at_other moment other true is = grind (arith, is, adds moment other, drops moment other, has_at moment name other expiries is, at_same name other keys is, indexed moment name, absent)

-- a value that is edited keeps its key's pair
pub index_edited : (name : Bytes) (old new : Entry) (keys after : Keys) (expiries : BTreeSet Expiry) → IsIndexed keys expiries → at name keys ≡ Some old → new.deadline ≡ old.deadline → Holds name (Some new) keys after → IsIndexed after expiries
index_edited name old new keys after expiries indexed there stays holds = λ moment other. at_other moment other (is_at (text_cmp name) other) refl where
  at_other : (moment : ℕ) (other : Bytes) (b : Bool) → is_at (text_cmp name) other ≡ b → has moment other expiries ≡ goes_at moment (at other after)
  at_other moment other false is = grind (arith, is, holds other, indexed moment other)
  at_other moment other true is = holding (ap (λ held. goes_at moment held) (holds other)) where
    holding : goes_at moment (at other after) ≡ goes_at moment (cond (is_at (text_cmp name) other) (Some new) (at other keys)) → has moment other expiries ≡ goes_at moment (at other after)
    holding e = grind (arith, e, is, stays, has_at moment name other expiries is, indexed moment name, there)

pub holds_set : (name : Bytes) (old new : Entry) (keys : Keys) → Some old ≡ at name keys → Holds name (Some new) keys (set_value (is_at (text_cmp name)) keys new)
holds_set name old new keys there = λ other. at_set name other new keys ∙ ap (λ held. cond (is_at (text_cmp name) other) (option_map (λ _. new) held) (at other keys)) (sym there)

-- another value comes with its pair
pub index_set : (name : Bytes) (new : Entry) (keys after : Keys) (expiries more : BTreeSet Expiry) → IsIndexed keys expiries → SetsExpiry name new.deadline expiries more → Holds name (Some new) keys after → IsIndexed after more
index_set name new keys after expiries more indexed sets holds = λ moment other. at_other moment other (is_at (text_cmp name) other) refl where
  at_other : (moment : ℕ) (other : Bytes) (b : Bool) → is_at (text_cmp name) other ≡ b → has moment other more ≡ goes_at moment (at other after)
  at_other moment other false is = grind (arith, is, holds other, sets moment other, indexed moment other)
  at_other moment other true is = grind (arith, is, holds other, sets moment other)

pub holds_put : (name : Bytes) (entry : Entry) (keys : Keys) → Holds name (Some entry) keys (put name entry keys)
holds_put name entry keys = λ other. at_with name other entry keys

pub holds_without : (name : Bytes) (keys : Keys) → IsStrictlySortedBy text_cmp (keys_of keys) → Holds name None keys (without name keys)
holds_without name keys up = λ other. at_without name other keys up

pub index_written : (name : Bytes) (old new : Entry) (keys after : Keys) (expiries : BTreeSet Expiry) → IsIndexed keys expiries → Some old ≡ at name keys → new.deadline ≡ old.deadline → after ≡ set_value (is_at (text_cmp name)) keys new → IsIndexed after expiries
index_written name old new keys after expiries indexed there stays written =
    index_edited name old new keys after expiries indexed (sym there) stays (subst (Holds name (Some new) keys) (sym written) (holds_set name old new keys there))
