-- What edits leave of the locks, and of the index of their deadlines.
use Rattle.std.proofs.Common.{◌≡◌, ℕ, Bool, true, false, not, ◌&&◌, cond, List, [], ◌∷◌, Option, Some, None, nat_lt, bytes_eq, refl, sym, subst, arith, ap, ap₂, ◌∙◌, true≢false}
use Rattle.std.proofs.lemmas.Cmp.{nat_list_cmp_total}
use Rattle.std.proofs.lemmas.Map.Text.{is_eq-slice_cmp}
use Rattle.std.proofs.lemmas.Slice.Eq.{bytes_eq-Decides}
use Rattle.std.specs.BTreeMap.{insert_entry, is_at}
use Rattle.std.specs.BTreeSet.{BTreeSet, contains}
use Rattle.std.specs.List.{count_by, list_any}
use Rattle.std.specs.Map.{keys_of, lookup, remove_entry}
use Rattle.std.specs.Ordering.{is_eq, is_lt, match_ordering, nat_cmp, ordering_then}
use Rattle.std.specs.Set.{remove_key}
use Rattle.std.specs.declared.cmp.Ordering.{Ordering}
use Rattle.std.specs.declared.cmp.Ordering.TheVariants.{Less, Equal, Greater}
use Rattle.sk_undo.specs.Partitioned.{all_pass}
use Rattle.sk_undo.specs.Sorted.{is_sorted}
use Rattle.sk_undo.specs.Versions.{BothPass, Versions, edited, passed}
use Rattle.sk_resp.specs.Spelling.{Bytes}
use Rattle.sk_resp.specs.WordOrder.{text_cmp}
use Rattle.sk_leases.specs.Index.{Expiry, HasMore, IsClear, TakesOver, covers, expiry_cmp, is_expiry_in}
use Rattle.sk_leases.specs.Lease.{Lease, names, stands_at}
use Rattle.sk_leases.specs.Lists.{standing}
use Rattle.sk_leases.specs.LockIndex.{TakesLock, covers_locks, lease_of, leases_of}
use Rattle.sk_leases.specs.Locks.{Locks, is_over_in, lock_under, locks_at, stands_until, with_lock}
use Rattle.sk_leases.specs.Parts.{is_over}
use Rattle.sk_leases.specs.declared.lock.Lock.{Lock}
use Rattle.sk_leases.proofs.Kept.{all_but, all_gone, covers_more, none_left}
use Rattle.sk_leases.proofs.Order.{named}

abbrev here : Bytes → Lease → Bool
here digest p = is_at (text_cmp digest) p.0

-- ## Each digest once

eq_at : (o : Ordering) → is_eq o ≡ true → o ≡ Equal
eq_at Less h = absurd (true≢false (sym h))
eq_at Equal h = refl
eq_at Greater h = absurd (true≢false (sym h))

lt_eq : (o : Ordering) → is_lt o ≡ true → is_eq o ≡ false
lt_eq Less h = refl
lt_eq Equal h = absurd (true≢false (sym h))
lt_eq Greater h = absurd (true≢false (sym h))

-- a text behind an equal one is another
behind : (digest text other : Bytes) → is_eq (text_cmp digest text) ≡ true → is_lt (text_cmp text other) ≡ true → is_eq (text_cmp digest other) ≡ false
behind digest text other h l = ap is_eq (nat_list_cmp_total.congr digest text other (eq_at (text_cmp digest text) h)) ∙ lt_eq (text_cmp text other) l

none_behind : (digest text : Bytes) (ls : Locks) → is_eq (text_cmp digest text) ≡ true → all_pass (λ other. is_lt (text_cmp text other)) (keys_of ls) ≡ true → list_any (here digest) (leases_of ls) ≡ false
none_behind digest text [] h rest = refl
none_behind digest text (e ∷ ls) h rest =
    let first : is_lt (text_cmp text e.0) ≡ true = grind (arith, rest) in
    let more : all_pass (λ other. is_lt (text_cmp text other)) (keys_of ls) ≡ true = grind (arith, rest) in
    grind (arith, behind digest text e.0 h first, none_behind digest text ls h more)

-- with its lock taken out there is none under the digest
pub none_under : (digest : Bytes) (ls : Locks) → is_sorted text_cmp (keys_of ls) ≡ true → list_any (here digest) (leases_of (remove_entry (is_at (text_cmp digest)) ls)) ≡ false
none_under digest [] h = refl
none_under digest (e ∷ ls) h = by_test (is_at (text_cmp digest) e.0) refl (none_under digest ls)
  where
    by_test : (b : Bool) → is_at (text_cmp digest) e.0 ≡ b → (is_sorted text_cmp (keys_of ls) ≡ true → list_any (here digest) (leases_of (remove_entry (is_at (text_cmp digest)) ls)) ≡ false)
        → list_any (here digest) (leases_of (cond b ls (e ∷ remove_entry (is_at (text_cmp digest)) ls))) ≡ false
    by_test true f more = let rest : all_pass (λ other. is_lt (text_cmp e.0 other)) (keys_of ls) ≡ true = grind (arith, h) in none_behind digest e.0 ls f rest
    by_test false f more = let rest : is_sorted text_cmp (keys_of ls) ≡ true = grind (arith, h) in grind (arith, f, more rest)

over_here : (digest : Bytes) (now : ℕ) (p : Lease) → here digest p ≡ false → is_over digest now p ≡ false
over_here digest now p h = ap (λ b. b && not (stands_at now p)) (sym (named digest p) ∙ h)

none_over : (digest : Bytes) (now : ℕ) (ps : List Lease) → list_any (here digest) ps ≡ false → list_any (is_over digest now) ps ≡ false
none_over digest now [] h = refl
none_over digest now (p ∷ ps) h =
    let first : here digest p ≡ false = grind (arith, h) in
    let more : list_any (here digest) ps ≡ false = grind (arith, h) in
    grind (arith, over_here digest now p first, none_over digest now ps more)

-- ## Purging

leases_removed : (test : Bytes → Bool) (ls : Locks) → leases_of (remove_entry test ls) ≡ remove_key (λ p. test p.0) (leases_of ls)
leases_removed test [] = refl
leases_removed test (e ∷ ls) = grind (arith, leases_removed test ls)

locks_removed : (digest : Bytes) (now : ℕ) (ls : Locks) → is_over_in now (lock_under digest ls) ≡ true → locks_at now (remove_entry (is_at (text_cmp digest)) ls) ≡ locks_at now ls
locks_removed digest now [] h = absurd (true≢false (sym h))
locks_removed digest now (e ∷ ls) h = by_test (is_at (text_cmp digest) e.0) refl (locks_removed digest now ls)
  where
    by_test : (b : Bool) → is_at (text_cmp digest) e.0 ≡ b → (is_over_in now (lock_under digest ls) ≡ true → locks_at now (remove_entry (is_at (text_cmp digest)) ls) ≡ locks_at now ls)
        → locks_at now (cond b ls (e ∷ remove_entry (is_at (text_cmp digest)) ls)) ≡ locks_at now (e ∷ ls)
    by_test true f more = grind (arith, f, h)
    by_test false f more = grind (arith, f, h, more)

standing_leases : (now : ℕ) (ls : Locks) → standing now (leases_of ls) ≡ leases_of (locks_at now ls)
standing_leases now [] = refl
standing_leases now (e ∷ ls) = grind (arith, standing_leases now ls)

pub takes_over : (digest : Bytes) (now : ℕ) (ls : Locks) → is_sorted text_cmp (keys_of ls) ≡ true → is_over_in now (lock_under digest ls) ≡ true → TakesLock digest now ls (remove_entry (is_at (text_cmp digest)) ls)
takes_over digest now ls sorted h = record {
  standing = locks_removed digest now ls h;
  leases = record {
    standing = standing_leases now (remove_entry (is_at (text_cmp digest)) ls) ∙ ap leases_of (locks_removed digest now ls h) ∙ sym (standing_leases now ls);
    none = none_left (is_over digest now) (leases_of (remove_entry (is_at (text_cmp digest)) ls)) (none_over digest now (leases_of (remove_entry (is_at (text_cmp digest)) ls)) (none_under digest ls sorted));
    covered = λ expiries k. rw (leases_removed (is_at (text_cmp digest)) ls) (all_gone (here digest) (is_expiry_in expiries) (leases_of ls) k);
  };
}

-- where none is over, none has to be taken out
fine_over : (digest : Bytes) (now : ℕ) (ls : Locks) → is_sorted text_cmp (keys_of ls) ≡ true → is_over_in now (lock_under digest ls) ≡ false → list_any (is_over digest now) (leases_of ls) ≡ false
fine_over digest now [] sorted h = refl
fine_over digest now (e ∷ ls) sorted h = by_test (is_at (text_cmp digest) e.0) refl (fine_over digest now ls)
  where
    by_test : (b : Bool) → is_at (text_cmp digest) e.0 ≡ b → (is_sorted text_cmp (keys_of ls) ≡ true → is_over_in now (lock_under digest ls) ≡ false → list_any (is_over digest now) (leases_of ls) ≡ false)
        → list_any (is_over digest now) (leases_of (e ∷ ls)) ≡ false
    by_test true f more =
        let rest : all_pass (λ other. is_lt (text_cmp e.0 other)) (keys_of ls) ≡ true = grind (arith, sorted) in
        let later = none_over digest now (leases_of ls) (none_behind digest e.0 ls f rest) in
        let current : stands_until now e.1 ≡ true = grind (arith, f, h) in
        grind (arith, current, later)
    by_test false f more =
        let rest : is_sorted text_cmp (keys_of ls) ≡ true = grind (arith, sorted) in
        let fine : is_over_in now (lock_under digest ls) ≡ false = grind (arith, f, h) in
        grind (arith, over_here digest now (lease_of e) f, more rest fine)

pub keeps_over : (digest : Bytes) (now : ℕ) (ls : Locks) → is_sorted text_cmp (keys_of ls) ≡ true → is_over_in now (lock_under digest ls) ≡ false → TakesLock digest now ls ls
keeps_over digest now ls sorted h = record {
  standing = refl;
  leases = record {
    standing = refl;
    none = none_left (is_over digest now) (leases_of ls) (fine_over digest now ls sorted h);
    covered = λ expiries k. k;
  };
}

-- where each deadline is ahead, each lock stands
pub locks_clear : (now : ℕ) (expiries : BTreeSet Expiry) (ls : Locks) → IsClear now expiries → covers_locks expiries ls ≡ true → locks_at now ls ≡ ls
locks_clear now expiries [] clear h = refl
locks_clear now expiries (e ∷ ls) clear h =
    let first : is_expiry_in expiries (lease_of e) ≡ true = grind (arith, h) in
    let more : covers_locks expiries ls ≡ true = grind (arith, h) in
    let ahead = clear e.1.deadline e.0 first in
    grind (arith, ahead, locks_clear now expiries ls clear more)

pub steps_of : (s t : Versions Locks) (ls : Locks) → s.current ≡ ls → s.saved ≡ t.saved → s ≡ edited ls t
steps_of s t ls e f = ap₂ (λ a o. record { current = a; saved = o }) e f

-- ## One lock

same_text : (text other : Bytes) → text_cmp text other ≡ Equal → text ≡ other
same_text text other h = (bytes_eq-Decides text other).0 (sym (is_eq-slice_cmp text other) ∙ ap is_eq h)

pub covers_with : (expiries : BTreeSet Expiry) (digest : Bytes) (lock : Lock) (ls : Locks) → covers_locks expiries ls ≡ true → is_expiry_in expiries (digest, lock.deadline) ≡ true → covers_locks expiries (with_lock digest lock ls) ≡ true
covers_with expiries digest lock [] h has = grind (arith, has)
covers_with expiries digest lock (e ∷ ls) h has = by_order (text_cmp digest e.0) refl (λ k. covers_with expiries digest lock ls k has)
  where
    by_order : (o : Ordering) → text_cmp digest e.0 ≡ o → (covers_locks expiries ls ≡ true → covers_locks expiries (with_lock digest lock ls) ≡ true)
        → covers_locks expiries (match_ordering o ((digest, lock) ∷ e ∷ ls) ((e.0, lock) ∷ ls) (e ∷ with_lock digest lock ls)) ≡ true
    by_order Less f more = grind (arith, h, has)
    by_order Equal f more = let same = subst (λ (d : Bytes). is_expiry_in expiries (d, lock.deadline) ≡ true) (same_text digest e.0 f) has in grind (arith, h, same)
    by_order Greater f more = grind (arith, h, more)

other_expiry : (deadline moment : ℕ) (digest other : Bytes) → is_at (text_cmp digest) other ≡ false → is_at (expiry_cmp (deadline, digest)) (moment, other) ≡ false
other_expiry deadline moment digest other h = grind (arith, h)

pub covers_removed : (before after : BTreeSet Expiry) (digest : Bytes) (deadline : ℕ) (ls : Locks) → is_sorted text_cmp (keys_of ls) ≡ true
    → ((expiry : Expiry) → contains expiry_cmp after expiry ≡ cond (is_at (expiry_cmp (deadline, digest)) expiry) false (contains expiry_cmp before expiry))
    → covers_locks before ls ≡ true → covers_locks after (remove_entry (is_at (text_cmp digest)) ls) ≡ true
covers_removed before after digest deadline ls sorted updates h =
    let ps : List Lease = leases_of (remove_entry (is_at (text_cmp digest)) ls) in
    let left : covers before ps ≡ true = rw (leases_removed (is_at (text_cmp digest)) ls) (all_gone (here digest) (is_expiry_in before) (leases_of ls) h) in
    all_but (is_expiry_in before) (is_expiry_in after) (here digest) (λ p had lost. stays p (here digest p) refl had lost) ps left (none_left (here digest) ps (none_under digest ls sorted))
  where
    stays : (p : Lease) (b : Bool) → here digest p ≡ b → is_expiry_in before p ≡ true → is_expiry_in after p ≡ false → b ≡ true
    stays p true f had lost = refl
    stays p false f had lost = grind (arith, had, lost, other_expiry deadline p.1 digest p.0 f, updates (p.1, p.0))

-- ## With an open step

passed_more : (before after : BTreeSet Expiry) (o : Option Locks) → HasMore before after → passed (covers_locks before) o ≡ true → passed (covers_locks after) o ≡ true
passed_more before after None more h = refl
passed_more before after (Some ls) more h = covers_more before after (leases_of ls) more h

pub locks_more : (before after : BTreeSet Expiry) (s : Versions Locks) → HasMore before after → BothPass (covers_locks before) s → BothPass (covers_locks after) s
locks_more before after s more k = record { current = covers_more before after (leases_of s.current) more k.current; saved = passed_more before after s.saved more k.saved }

-- a lock is made, whose deadline the index has
pub locks_with : (before after : BTreeSet Expiry) (s : Versions Locks) (digest : Bytes) (lock : Lock) → HasMore before after → is_expiry_in after (digest, lock.deadline) ≡ true → BothPass (covers_locks before) s
    → BothPass (covers_locks after) (edited (with_lock digest lock s.current) s)
locks_with before after s digest lock more has k = let all = locks_more before after s more k in record { current = covers_with after digest lock s.current all.current has; saved = all.saved }

-- one is taken out where no step is open, and its deadline goes from the index
pub locks_without : (before after : BTreeSet Expiry) (s : Versions Locks) (digest : Bytes) (deadline : ℕ) → s.saved ≡ None → is_sorted text_cmp (keys_of s.current) ≡ true
    → ((expiry : Expiry) → contains expiry_cmp after expiry ≡ cond (is_at (expiry_cmp (deadline, digest)) expiry) false (contains expiry_cmp before expiry)) → BothPass (covers_locks before) s
    → BothPass (covers_locks after) (edited (remove_entry (is_at (text_cmp digest)) s.current) s)
locks_without before after s digest deadline closed sorted updates k = record {
  current = covers_removed before after digest deadline s.current sorted updates k.current;
  saved = ap (passed (covers_locks after)) closed;
}
