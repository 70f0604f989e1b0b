-- What is left of the members, by number, when some come and when one gets a mark.
use Rattle.std.proofs.Common.{◌≡◌, ℕ, zero, suc, ◌+◌, ◌-◌, ◌<◌, ◌≤◌, Bool, true, false, cond, not, ◌&&◌, ◌||◌, List, [], ◌∷◌, length, get_or, nat_eq, refl, sym, ap, ap₂, ◌∙◌, arith}
use Rattle.std.specs.List.{count_by, list_all, list_any, position_or_len}
use Rattle.std.specs.Str.{bytes_eq}
use Rattle.std.proofs.lemmas.List.Sums.{count_by-le-length}
use Rattle.std.proofs.lemmas.List.Recursion.{is_count_by}
use Rattle.std.proofs.lemmas.Slice.Eq.{bytes_eq-Decides}
use Rattle.sk_resp.specs.Spelling.{Bytes}
use Rattle.sk_undo.specs.Balance.{most}
use Rattle.sk_batch.specs.Batched.{BatchEntry, MemberEntry, has_bid, is_in, is_job, is_there}
use Rattle.sk_batch.specs.Events.{members_of}
use Rattle.sk_batch.specs.Fires.{retagged}
use Rattle.sk_batch.specs.Ancestors.{is_under}
use Rattle.sk_batch.specs.Numbers.{changed, gained, left_after, left_of, members_after, numbers_in, one_if, plus}
use Rattle.sk_batch.specs.Open.{with_mark}
use Rattle.sk_batch.specs.Order.{precedes, put, put_all}
use Rattle.sk_batch.proofs.Along.{under_own}
use Rattle.sk_batch.proofs.Places.{first_fails, first_passes, passes_there}
use Rattle.sk_batch.proofs.Repeats.{bytes_eq-sym}
use Rattle.sk_batch.specs.declared.member.Mark.{Mark}
use Rattle.sk_batch.specs.declared.member.Mark.TheVariants.{Reported, Returned}
use Rattle.sk_batch.specs.declared.member.Progress.{Progress}
use Rattle.sk_batch.specs.declared.numbers.Change.{Change}
use Rattle.sk_batch.specs.declared.numbers.Change.TheVariants.{Came, Got}
use Rattle.sk_batch.specs.declared.numbers.Left.{Left}
use Rattle.sk_batch.specs.declared.numbers.Numbers.{Numbers}

-- ## Counts

how_many : {X : Type 0} (p : X → Bool) → List X → ℕ
how_many p [] = 0
how_many p (x ∷ xs) = cond (p x) (1 + how_many p xs) (how_many p xs)

module _ {X : Type 0} (p : X → Bool) where
  is_how_many : (xs : List X) → how_many p xs ≡ count_by p xs
  unfolding how_many
  is_how_many = is_count_by (how_many p) p refl (λ x xs. refl)

  one_more : (b : Bool) (n : ℕ) → cond b (1 + n) n ≡ one_if b + n
  one_more true n = refl
  one_more false n = omega arith

  pub count_cons : (x : X) (xs : List X) → count_by p (x ∷ xs) ≡ one_if (p x) + count_by p xs
  unfolding how_many
  count_cons x xs = sym (is_how_many (x ∷ xs)) ∙ one_more (p x) (how_many p xs) ∙ ap (λ n. one_if (p x) + n) (is_how_many xs)

pub count_none : {X : Type 0} (p : X → Bool) (xs : List X) → nat_eq (count_by p xs) 0 ≡ not (list_any p xs)
count_none p [] = refl
count_none p (x ∷ xs) = ap (λ n. nat_eq n 0) (count_cons p x xs) ∙ either (p x) (count_none p xs) where
  either : (b : Bool) → nat_eq (count_by p xs) 0 ≡ not (list_any p xs) → nat_eq (one_if b + count_by p xs) 0 ≡ not (b || list_any p xs)
  either true ih = grind arith
  either false ih = let e : 0 + count_by p xs ≡ count_by p xs = omega arith in ap (λ n. nat_eq n 0) e ∙ ih

-- one that passes no more
ones : (a b : Bool) → (b ≡ true → a ≡ true) → one_if b + one_if (a && not b) ≡ one_if a
ones true true h = refl
ones true false h = refl
ones false true h = absurd (let e = h refl in cc e)
ones false false h = refl

module _ (p : MemberEntry → Bool) where
  count_put : (new : MemberEntry) (ms : List MemberEntry) → count_by p (put new ms) ≡ one_if (p new) + count_by p ms
  count_put new [] = count_cons p new []
  count_put new (m ∷ ms) = either (precedes new.1 m.1) (count_put new ms) where
    either : (b : Bool) → count_by p (put new ms) ≡ one_if (p new) + count_by p ms → count_by p (cond b (new ∷ m ∷ ms) (m ∷ put new ms)) ≡ one_if (p new) + count_by p (m ∷ ms)
    either true ih = count_cons p new (m ∷ ms)
    either false ih = let e = count_cons p m (put new ms) in let f = count_cons p m ms in omega (arith, e, f, ih)

  count_put_all : (news ms : List MemberEntry) → count_by p (put_all news ms) ≡ count_by p news + count_by p ms
  count_put_all [] ms = let e : count_by p ms ≡ 0 + count_by p ms = omega arith in e
  count_put_all (new ∷ news) ms = let ih = count_put_all news (put new ms) in let e = count_put new ms in let f = count_cons p new news in omega (arith, ih, e, f)

  -- new members are alike
  count_new : (bid : Bytes) (v : Bool) → ((jid : Bytes) → p (record { reported = false; returned = false }, record { bid = bid; jid = jid }) ≡ v) → (jids : List Bytes) → count_by p (members_of bid jids) ≡ cond v (length jids) 0
  count_new bid true is [] = refl
  count_new bid false is [] = refl
  count_new bid true is (jid ∷ jids) = let e = ap one_if (is jid) in let ih = count_new bid true is jids in let f = count_cons p (record { reported = false; returned = false }, record { bid = bid; jid = jid }) (members_of bid jids) in omega (arith, e, ih, f)
  count_new bid false is (jid ∷ jids) = let e = ap one_if (is jid) in let ih = count_new bid false is jids in let f = count_cons p (record { reported = false; returned = false }, record { bid = bid; jid = jid }) (members_of bid jids) in omega (arith, e, ih, f)

  more : (v : Bool) (k c : ℕ) → k ≤ most → c ≤ most → cond v k 0 + c ≡ cond v (plus c k) c
  more true k c h g = omega (arith, h, g)
  more false k c h g = omega arith

  count_came : (bid : Bytes) (v : Bool) → ((jid : Bytes) → p (record { reported = false; returned = false }, record { bid = bid; jid = jid }) ≡ v) → (jids : List Bytes) (ms : List MemberEntry) → length jids ≤ most → length ms ≤ most → count_by p (put_all (members_of bid jids) ms) ≡ cond v (plus (count_by p ms) (length jids)) (count_by p ms)
  count_came bid v is jids ms h g =
      let few = count_by-le-length p ms in
      count_put_all (members_of bid jids) ms ∙ ap (λ n. n + count_by p ms) (count_new bid v is jids) ∙ more v (length jids) (count_by p ms) h (omega (arith, few, g))

  -- an entry that is changed can't come to pass
  count_got : (test : MemberEntry → Bool) (f : Progress → Progress) (ms : List MemberEntry) (at : ℕ) (d : MemberEntry) → at ≡ position_or_len test ms → at < length ms → ((m : MemberEntry) → p (f m.0, m.1) ≡ true → p m ≡ true) → count_by p (retagged test f ms) + one_if (p (get_or ms at d) && not (p (f (get_or ms at d).0, (get_or ms at d).1))) ≡ count_by p ms
  count_got test f [] at d e h less = absurd (omega (arith, h))
  count_got test f (m ∷ ms) zero d e h less =
      let r = ap (λ t. count_by p (cond t ((f m.0, m.1) ∷ ms) (m ∷ retagged test f ms))) (first_passes test m ms e) in
      let a = count_cons p (f m.0, m.1) ms in
      let b = count_cons p m ms in
      let o = ones (p m) (p (f m.0, m.1)) (less m) in
      omega (arith, r, a, b, o)
  count_got test f (m ∷ ms) (suc n) d e h less =
      let y = first_fails test m ms n e in
      let r = ap (λ t. count_by p (cond t ((f m.0, m.1) ∷ ms) (m ∷ retagged test f ms))) y.0 in
      let a = count_cons p m (retagged test f ms) in
      let b = count_cons p m ms in
      let ih = count_got test f ms n d y.1 (omega (arith, h)) less in
      omega (arith, r, a, b, ih)

  count_same : (test : MemberEntry → Bool) (f : Progress → Progress) → ((m : MemberEntry) → p (f m.0, m.1) ≡ p m) → (ms : List MemberEntry) → count_by p (retagged test f ms) ≡ count_by p ms
  count_same test f same [] = refl
  count_same test f same (m ∷ ms) = either (test m) (count_same test f same ms) where
    either : (b : Bool) → count_by p (retagged test f ms) ≡ count_by p ms → count_by p (cond b ((f m.0, m.1) ∷ ms) (m ∷ retagged test f ms)) ≡ count_by p (m ∷ ms)
    either true ih = let a = count_cons p (f m.0, m.1) ms in let b = count_cons p m ms in let s = ap one_if (same m) in omega (arith, a, b, s)
    either false ih = let a = count_cons p m (retagged test f ms) in let b = count_cons p m ms in omega (arith, a, b, ih)

-- tests that agree on the members that are at home
count_within : (p q : MemberEntry → Bool) (there : Bytes → Bool) → ((m : MemberEntry) → there m.1.bid ≡ true → p m ≡ q m) → (ms : List MemberEntry) → list_all (λ m. there m.1.bid) ms ≡ true → count_by p ms ≡ count_by q ms
count_within p q there same [] h = refl
count_within p q there same (m ∷ ms) h =
    let here = ap one_if (same m (grind (arith, h))) in
    let ih = count_within p q there same ms (grind (arith, h)) in
    let a = count_cons p m ms in
    let b = count_cons q m ms in
    omega (arith, here, ih, a, b)

-- ## What is left

abbrev left : ℕ → ℕ → Left
left u r = record { unreported = u; unreturned = r }

left_choice : (v : Bool) (u u' r r' : ℕ) → left (cond v u u') (cond v r r') ≡ cond v (left u r) (left u' r')
left_choice true u u' r r' = refl
left_choice false u u' r r' = refl

pub left_within : (p q there : Bytes → Bool) → ((b : Bytes) → there b ≡ true → p b ≡ q b) → (ms : List MemberEntry) → list_all (λ m. there m.1.bid) ms ≡ true → left_of p ms ≡ left_of q ms
left_within p q there same ms h = ap₂ left
    (count_within (λ m. not m.0.reported && p m.1.bid) (λ m. not m.0.reported && q m.1.bid) there (λ m k. ap (λ t. not m.0.reported && t) (same m.1.bid k)) ms h)
    (count_within (λ m. not m.0.returned && p m.1.bid) (λ m. not m.0.returned && q m.1.bid) there (λ m k. ap (λ t. not m.0.returned && t) (same m.1.bid k)) ms h)

-- what comes to the members of a batch changes the numbers by as much, wherever they are counted, and no others
pub record Comes (change : Change) (bid : Bytes) (ms ms' : List MemberEntry) : Type 0 where
  pub left : (test : Bytes → Bool) → left_of test ms' ≡ cond (test bid) (left_after change (left_of test ms)) (left_of test ms)
  pub members : (b : Bytes) → count_by (is_in b) ms' ≡ cond (bytes_eq bid b) (members_after change (count_by (is_in b) ms)) (count_by (is_in b) ms)

pub came_comes : (bid : Bytes) (jids : List Bytes) (ms : List MemberEntry) → length jids ≤ most → length ms ≤ most → Comes (Came (length jids)) bid ms (put_all (members_of bid jids) ms)
came_comes bid jids ms h g = record {
  left = λ test.
      let u = count_came (λ m. not m.0.reported && test m.1.bid) bid (test bid) (λ jid. refl) jids ms h g in
      let r = count_came (λ m. not m.0.returned && test m.1.bid) bid (test bid) (λ jid. refl) jids ms h g in
      ap₂ left u r ∙ left_choice (test bid) _ _ _ _;
  members = λ b. count_came (is_in b) bid (bytes_eq bid b) (λ jid. refl) jids ms h g;
}

-- a member lacks a mark less, where it lacked it
fewer : (v w : Bool) (n c : ℕ) → n + one_if (w && v) ≡ c → n ≡ cond v (c - one_if w) c
fewer true true n c e = omega (arith, e)
fewer true false n c e = omega (arith, e)
fewer false true n c e = omega (arith, e)
fewer false false n c e = omega (arith, e)

module _ (bid jid : Bytes) (ms : List MemberEntry) (at : ℕ) (d : MemberEntry) (place : at ≡ position_or_len (is_job bid jid) ms) (within : at < length ms) where
  abbrev one : MemberEntry
  one = get_or ms at d

  own : one.1.bid ≡ bid
  own = let t = passes_there (is_job bid jid) ms at d place within in (bytes_eq-Decides one.1.bid bid).0 (grind (arith, t))

  abbrev unreported : (Bytes → Bool) → MemberEntry → Bool
  unreported test m = not m.0.reported && test m.1.bid

  abbrev unreturned : (Bytes → Bool) → MemberEntry → Bool
  unreturned test m = not m.0.returned && test m.1.bid

  -- what the member at the place counts for, where it is counted
  here : (test : Bytes → Bool) (b : Bool) → (b && test one.1.bid) && true ≡ b && test bid
  here test b = plain (b && test one.1.bid) ∙ ap (λ t. b && test t) own where
    plain : (a : Bool) → a && true ≡ a
    plain true = refl
    plain false = refl

  lowered : (p : MemberEntry → Bool) (mark : Mark) (test : Bytes → Bool) (b : Bool) → count_by p (retagged (is_job bid jid) (with_mark mark) ms) + one_if ((b && test one.1.bid) && true) ≡ count_by p ms → count_by p (retagged (is_job bid jid) (with_mark mark) ms) ≡ cond (test bid) (count_by p ms - one_if b) (count_by p ms)
  lowered p mark test b e = let n = count_by p (retagged (is_job bid jid) (with_mark mark) ms) in fewer (test bid) b n (count_by p ms) (ap (λ t. n + one_if t) (sym (here test b)) ∙ e)

  unreported_got : (mark : Mark) (test : Bytes → Bool) → count_by (unreported test) (retagged (is_job bid jid) (with_mark mark) ms) ≡ cond (test bid) (count_by (unreported test) ms - one_if (gained mark one.0).reported) (count_by (unreported test) ms)
  unreported_got Reported test = lowered (unreported test) Reported test (not one.0.reported) (count_got (unreported test) (is_job bid jid) (with_mark Reported) ms at d place within (λ m h. absurd (cc h)))
  unreported_got Returned test = lowered (unreported test) Returned test (not one.0.reported) (count_got (unreported test) (is_job bid jid) (with_mark Returned) ms at d place within (λ m h. absurd (cc h)))

  as_much : (v : Bool) (n c : ℕ) → n ≡ c → n ≡ cond v (c - 0) c
  as_much true n c e = omega (arith, e)
  as_much false n c e = e

  unreturned_got : (mark : Mark) (test : Bytes → Bool) → count_by (unreturned test) (retagged (is_job bid jid) (with_mark mark) ms) ≡ cond (test bid) (count_by (unreturned test) ms - one_if (gained mark one.0).returned) (count_by (unreturned test) ms)
  unreturned_got Reported test = as_much (test bid) (count_by (unreturned test) (retagged (is_job bid jid) (with_mark Reported) ms)) (count_by (unreturned test) ms) (count_same (unreturned test) (is_job bid jid) (with_mark Reported) (λ m. refl) ms)
  unreturned_got Returned test = lowered (unreturned test) Returned test (not one.0.returned) (count_got (unreturned test) (is_job bid jid) (with_mark Returned) ms at d place within (λ m h. absurd (cc h)))

  as_before : (v : Bool) (n : ℕ) → n ≡ cond v n n
  as_before true n = refl
  as_before false n = refl

  pub got_comes : (mark : Mark) → Comes (Got (gained mark one.0)) bid ms (retagged (is_job bid jid) (with_mark mark) ms)
  got_comes mark = record {
    left = λ test. ap₂ left (unreported_got mark test) (unreturned_got mark test) ∙ left_choice (test bid) _ _ _ _;
    members = λ b. count_same (is_in b) (is_job bid jid) (with_mark mark) (λ m. refl) ms ∙ as_before (bytes_eq bid b) (count_by (is_in b) ms);
  }

-- ## The numbers of a batch

three : (m m' : ℕ) (o o' u u' : Left) → m ≡ m' → o ≡ o' → u ≡ u' → (let n : Numbers = record { members = m; own = o; under = u } in n) ≡ record { members = m'; own = o'; under = u' }
three m m' o o' u u' e f g = ap (λ n. record { members = n; own = o; under = u }) e ∙ ap (λ (n : Left). record { members = m'; own = n; under = u }) f ∙ ap (λ (n : Left). record { members = m'; own = o'; under = n }) g

changes : (own under : Bool) (change : Change) (n : Numbers) → (own ≡ true → under ≡ true) → record { members = cond own (members_after change n.members) n.members; own = cond own (left_after change n.own) n.own; under = cond under (left_after change n.under) n.under } ≡ cond under (changed change own n) n
changes true true change n h = refl
changes true false change n h = absurd (let e = h refl in cc e)
changes false true change n h = refl
changes false false change n h = refl

pub numbers_come : (change : Change) (bid : Bytes) (ms ms' : List MemberEntry) → Comes change bid ms ms' → (batches : List BatchEntry) (b : BatchEntry) → is_there b.1.bid batches ≡ true → numbers_in batches ms' b.1 ≡ cond (is_under batches bid b.1.bid) (changed change (has_bid bid b) (numbers_in batches ms b.1)) (numbers_in batches ms b.1)
numbers_come change bid ms ms' comes batches b there =
    let same : bytes_eq bid b.1.bid ≡ has_bid bid b = bytes_eq-sym bid b.1.bid in
    let ancestors : has_bid bid b ≡ true → is_under batches bid b.1.bid ≡ true = λ h. let is : b.1.bid ≡ bid = (bytes_eq-Decides b.1.bid bid).0 h in ap (λ (x : Bytes). is_under batches x b.1.bid) (sym is) ∙ under_own batches b.1.bid there in
    let m = comes.members b.1.bid ∙ ap (λ t. cond t (members_after change (count_by (is_in b.1.bid) ms)) (count_by (is_in b.1.bid) ms)) same in
    let o = comes.left (λ x. bytes_eq x b.1.bid) ∙ ap (λ t. cond t (left_after change (left_of (λ x. bytes_eq x b.1.bid) ms)) (left_of (λ x. bytes_eq x b.1.bid) ms)) same in
    let u = comes.left (λ x. is_under batches x b.1.bid) in
    three _ _ _ _ _ _ m o u ∙ changes (has_bid bid b) (is_under batches bid b.1.bid) change (numbers_in batches ms b.1) ancestors

-- ## A batch that no member is in or under

zero_of : (q : MemberEntry → Bool) → ((m : MemberEntry) → q m ≡ false) → (xs : List MemberEntry) → count_by q xs ≡ 0
zero_of q is [] = refl
zero_of q is (x ∷ xs) = let e = ap one_if (is x) in let ih = zero_of q is xs in let a = count_cons q x xs in omega (arith, e, ih, a)

pub none_members : (p there : Bytes → Bool) → ((b : Bytes) → there b ≡ true → p b ≡ false) → (ms : List MemberEntry) → list_all (λ m. there m.1.bid) ms ≡ true → count_by (λ m. p m.1.bid) ms ≡ 0
none_members p there out ms h = count_within (λ m. p m.1.bid) (λ m. false) there (λ m k. out m.1.bid k) ms h ∙ zero_of (λ m. false) (λ m. refl) ms

no_and : (a : Bool) → a && false ≡ false
no_and true = refl
no_and false = refl

pub none_left : (p there : Bytes → Bool) → ((b : Bytes) → there b ≡ true → p b ≡ false) → (ms : List MemberEntry) → list_all (λ m. there m.1.bid) ms ≡ true → left_of p ms ≡ left 0 0
none_left p there out ms h = left_within p (λ b. false) there out ms h ∙ ap₂ left (zero_of (λ m. not m.0.reported && false) (λ m. no_and (not m.0.reported)) ms) (zero_of (λ m. not m.0.returned && false) (λ m. no_and (not m.0.returned)) ms)
