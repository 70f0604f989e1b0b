-- Which batches have all their members marked, before a change and after it. A batch is settled where they have returned, and reported where they were reported.
use Rattle.std.proofs.Common.{◌≡◌, List, [], ◌∷◌, refl, ap, ◌∙◌, arith, cond, Bool, true, false, not, ◌&&◌, ◌||◌, Option, Some, None}
use Rattle.std.specs.List.{list_any}
use Rattle.sk_resp.specs.Spelling.{Bytes}
use Rattle.sk_batch.specs.Batched.{Batched, BatchEntry, MemberEntry, has_bid, is_there, is_job, is_member}
use Rattle.sk_batch.specs.Events.{joined, marked, members_of, unfired}
use Rattle.sk_batch.specs.Fires.{retagged, with_kind}
use Rattle.sk_batch.specs.Ancestors.{ancestors, ancestors_above, is_under}
use Rattle.sk_batch.specs.Open.{all_marked, has_mark, with_mark, lacks, is_settled}
use Rattle.sk_batch.specs.Order.{precedes, put, put_all}
use Rattle.sk_batch.specs.declared.batch.Batch.{Batch}
use Rattle.sk_batch.specs.declared.firing.Kind.{Kind}
use Rattle.sk_batch.specs.declared.member.Mark.{Mark}
use Rattle.sk_batch.specs.declared.member.Mark.TheVariants.{Reported, Returned}
use Rattle.sk_batch.specs.declared.member.Progress.{Progress}
use Rattle.sk_model.specs.Change.{after_fire, with_batch}
pub use Rattle.sk_model.specs.Covered.{AtHome, Sane}
use Rattle.sk_model.proofs.Tools.Texts.{bytes_tell}
use Rattle.sk_model.proofs.Changes.Ancestors.{IsTree, ParentThere, line_there, line_older, under_own, under_through, there_retagged, under_retagged, tree_retagged}

-- each member under the batch has the mark
abbrev pub is_marked : Mark → Batched → Bytes → Bool
is_marked mark s b = all_marked mark s.batches s.members b

-- ## Members at home

any_agree : (bs : List BatchEntry) (p q : MemberEntry → Bool) (ms : List MemberEntry) → AtHome bs ms → ((m : MemberEntry) → is_there m.1.bid bs ≡ true → p m ≡ q m) → list_any p ms ≡ list_any q ms
any_agree bs p q [] h f = refl
any_agree bs p q (m ∷ ms) h f = grind (arith, any_agree bs p q ms h.1 f, f m h.0)

any_weaker : (bs : List BatchEntry) (p q : MemberEntry → Bool) (ms : List MemberEntry) → AtHome bs ms → ((m : MemberEntry) → is_there m.1.bid bs ≡ true → p m ≡ true → q m ≡ true) → list_any p ms ≡ true → list_any q ms ≡ true
any_weaker bs p q [] h f a = a
any_weaker bs p q (m ∷ ms) h f a = grind (arith, any_weaker bs p q ms h.1 f, f m h.0)

none_at_home : (bs : List BatchEntry) (p : MemberEntry → Bool) (ms : List MemberEntry) → AtHome bs ms → ((m : MemberEntry) → is_there m.1.bid bs ≡ true → p m ≡ false) → list_any p ms ≡ false
none_at_home bs p [] h f = refl
none_at_home bs p (m ∷ ms) h f = grind (arith, none_at_home bs p ms h.1 f, f m h.0)

home_either : (bs : List BatchEntry) (b : Bool) (ms ns : List MemberEntry) → AtHome bs ms → AtHome bs ns → AtHome bs (cond b ms ns)
home_either bs true ms ns h k = h
home_either bs false ms ns h k = k

-- a member's batch is there
pub home_there : (bs : List BatchEntry) (ms : List MemberEntry) (bid jid : Bytes) → AtHome bs ms → is_member bid jid ms ≡ true → is_there bid bs ≡ true
home_there bs [] bid jid h m = absurd (cc m)
home_there bs (n ∷ ms) bid jid h m = grind (arith, bytes_tell, h.0, home_there bs ms bid jid h.1)

-- a batch that isn't there lacks nothing
pub marked_nowhere : (mark : Mark) (s : Batched) (b : Bytes) → Sane s → is_there b s.batches ≡ false → is_marked mark s b ≡ true
marked_nowhere mark s b sane none =
    let no = none_at_home s.batches (lacks mark s.batches b) s.members sane.homes (λ m h. let l = line_there s.batches m.1.bid b sane.tree h in grind (arith, l, none)) in
    grind (arith, no)

-- what a batch lacks, those above it lack
pub lacks_above : (mark : Mark) (s : Batched) (p b : Bytes) → Sane s → is_under s.batches p b ≡ true → is_marked mark s p ≡ false → is_marked mark s b ≡ false
lacks_above mark s p b sane u o =
    let some : list_any (lacks mark s.batches p) s.members ≡ true = grind (arith, o) in
    let above = any_weaker s.batches (lacks mark s.batches p) (lacks mark s.batches b) s.members sane.homes (λ m h k. let t = under_through s.batches m.1.bid p b sane.tree h in grind (arith, k, t, u)) some in
    grind (arith, above)

-- ## New members

any_put : (p : MemberEntry → Bool) (new : MemberEntry) (ms : List MemberEntry) → list_any p (put new ms) ≡ p new || list_any p ms
any_put p new [] = refl
any_put p new (m ∷ ms) = grind (arith, any_put p new ms)

any_put_all : (p : MemberEntry → Bool) (news ms : List MemberEntry) → list_any p (put_all news ms) ≡ list_any p news || list_any p ms
any_put_all p [] ms = refl
any_put_all p (new ∷ news) ms = grind (arith, any_put_all p news (put new ms), any_put p new ms)

home_put : (bs : List BatchEntry) (new : MemberEntry) (ms : List MemberEntry) → is_there new.1.bid bs ≡ true → AtHome bs ms → AtHome bs (put new ms)
home_put bs new [] t h = (t, tt)
home_put bs new (m ∷ ms) t h = home_either bs (precedes new.1 m.1) (new ∷ m ∷ ms) (m ∷ put new ms) (t, h) (h.0, home_put bs new ms t h.1)

home_put_all : (bs : List BatchEntry) (bid : Bytes) (jids : List Bytes) (ms : List MemberEntry) → is_there bid bs ≡ true → AtHome bs ms → AtHome bs (put_all (members_of bid jids) ms)
home_put_all bs bid [] ms t h = h
home_put_all bs bid (jid ∷ jids) ms t h = home_put_all bs bid jids _ t (home_put bs _ ms t h)

-- the new members of a batch that isn't under b are nothing to b
none_in : (mark : Mark) (bs : List BatchEntry) (b x : Bytes) (jids : List Bytes) → is_under bs x b ≡ false → list_any (lacks mark bs b) (members_of x jids) ≡ false
none_in mark bs b x [] u = refl
none_in mark bs b x (j ∷ js) u = grind (arith, none_in mark bs b x js u)

-- each new member lacks each mark
some_in : (mark : Mark) (bs : List BatchEntry) (b x j : Bytes) (jids : List Bytes) → is_under bs x b ≡ true → list_any (lacks mark bs b) (members_of x (j ∷ jids)) ≡ true
some_in Reported bs b x j jids u = grind (arith, u)
some_in Returned bs b x j jids u = grind (arith, u)

-- ## A batch is made

-- a batch takes jobs, or batches in it: it is there, and isn't settled
abbrev pub Takes : Batched → Bytes → Type 0
Takes s b = (is_there b s.batches ≡ true) × (is_settled s b ≡ false)

abbrev pub ParentTakes : Batched → Option Bytes → Type 0
ParentTakes s None = Unit {0}
ParentTakes s (Some p) = Takes s p

parent_there : (s : Batched) (o : Option Bytes) → ParentTakes s o → ParentThere s.batches o
parent_there s None t = tt
parent_there s (Some p) t = t.0

parent_open : (s : Batched) (o : Option Bytes) (b : Bytes) → Sane s → ParentTakes s o → list_any (has_bid b) (ancestors_above o (ancestors s.batches)) ≡ true → is_settled s b ≡ false
parent_open s None b sane t h = absurd (cc h)
parent_open s (Some p) b sane t h = lacks_above Returned s p b sane h t.1

module _ (s : Batched) (batch : Batch) (sane : Sane s) (new : is_there batch.bid s.batches ≡ false) (takes : ParentTakes s batch.parent) where
  abbrev made_batches : List BatchEntry
  made_batches = (unfired, batch) ∷ s.batches

  pub tree_made : IsTree ((unfired, batch) ∷ s.batches)
  tree_made = (new, parent_there s batch.parent takes, sane.tree)

  -- the members that were there lack as much as before
  old_members : (mark : Mark) (b : Bytes) → list_any (lacks mark ((unfired, batch) ∷ s.batches) b) s.members ≡ list_any (lacks mark s.batches b) s.members
  old_members mark b = any_agree s.batches _ _ s.members sane.homes (λ m k. ap (λ l. not (has_mark mark m.0) && list_any (has_bid b) l) (line_older s.batches (unfired, batch) m.1.bid tree_made k))

  not_in_new : (b : Bytes) → is_there b s.batches ≡ true → (list_any (has_bid b) (ancestors_above batch.parent (ancestors s.batches)) ≡ true → ⊥) → is_under ((unfired, batch) ∷ s.batches) batch.bid b ≡ false
  not_in_new b h u = grind (arith, bytes_tell, new, h, u)

  -- a batch that was there before is settled as before
  pub settled_made : (jids : List Bytes) (b : Bytes) → is_there b s.batches ≡ true → is_settled (joined batch.bid jids (with_batch batch s)) b ≡ is_settled s b
  settled_made jids b h =
      let p = lacks Returned ((unfired, batch) ∷ s.batches) b in
      let e = any_put_all p (members_of batch.bid jids) s.members in
      let old = old_members Returned b in
      let above = parent_open s batch.parent b sane takes in
      let none : is_settled s b ≡ true → list_any p (members_of batch.bid jids) ≡ false = λ y. none_in Returned ((unfired, batch) ∷ s.batches) b batch.bid jids (not_in_new b h (λ u. let no = above u in cc (no, y))) in
      grind (arith, e, old, none)

  -- with more jobs, no more is marked
  pub marked_made_back : (mark : Mark) (jids : List Bytes) (b : Bytes) → is_marked mark (joined batch.bid jids (with_batch batch s)) b ≡ true → is_marked mark s b ≡ true
  marked_made_back mark jids b y =
      let e = any_put_all (lacks mark ((unfired, batch) ∷ s.batches) b) (members_of batch.bid jids) s.members in
      let old = old_members mark b in
      grind (arith, e, old, y)

  -- the new batch lacks its marks exactly where it has jobs
  pub marked_empty : (mark : Mark) → is_marked mark (joined batch.bid [] (with_batch batch s)) batch.bid ≡ true
  marked_empty mark =
      let old = old_members mark batch.bid in
      let none = marked_nowhere mark s batch.bid sane new in
      grind (arith, old, none)

  pub unmarked_full : (mark : Mark) (j : Bytes) (jids : List Bytes) → is_marked mark (joined batch.bid (j ∷ jids) (with_batch batch s)) batch.bid ≡ false
  unmarked_full mark j jids =
      let e = any_put_all (lacks mark ((unfired, batch) ∷ s.batches) batch.bid) (members_of batch.bid (j ∷ jids)) s.members in
      let some = some_in mark ((unfired, batch) ∷ s.batches) batch.bid batch.bid j jids (under_own s.batches (unfired, batch)) in
      grind (arith, e, some)

  pub sane_made : (jids : List Bytes) → Sane (joined batch.bid jids (with_batch batch s))
  sane_made jids = record {
    tree = tree_made;
    homes = home_put_all ((unfired, batch) ∷ s.batches) batch.bid jids s.members (grind (arith, bytes_tell)) (homes_older s.members sane.homes);
  } where
    homes_older : (ms : List MemberEntry) → AtHome s.batches ms → AtHome ((unfired, batch) ∷ s.batches) ms
    homes_older [] h = tt
    homes_older (m ∷ ms) h = (grind (arith, h.0), homes_older ms h.1)

-- ## Jobs are added

pub settled_joined : (s : Batched) (x : Bytes) (jids : List Bytes) (b : Bytes) → Sane s → Takes s x → is_settled (joined x jids s) b ≡ is_settled s b
settled_joined s x jids b sane t =
    let p = lacks Returned s.batches b in
    let e = any_put_all p (members_of x jids) s.members in
    let above : is_under s.batches x b ≡ true → is_settled s b ≡ false = λ u. lacks_above Returned s x b sane u t.1 in
    let new : is_under s.batches x b ≡ false → list_any p (members_of x jids) ≡ false = λ u. none_in Returned s.batches b x jids u in
    grind (arith, e, above, new)

pub marked_joined_back : (mark : Mark) (s : Batched) (x : Bytes) (jids : List Bytes) (b : Bytes) → is_marked mark (joined x jids s) b ≡ true → is_marked mark s b ≡ true
marked_joined_back mark s x jids b y =
    let e = any_put_all (lacks mark s.batches b) (members_of x jids) s.members in
    grind (arith, e, y)

pub sane_joined : (s : Batched) (x : Bytes) (jids : List Bytes) → is_there x s.batches ≡ true → Sane s → Sane (joined x jids s)
sane_joined s x jids there sane = record { tree = sane.tree; homes = home_put_all s.batches x jids s.members there sane.homes }

-- ## A member is marked

has_still : (mark by : Mark) (marks : Progress) → has_mark mark marks ≡ true → has_mark mark (with_mark by marks) ≡ true
has_still Reported Reported marks h = refl
has_still Reported Returned marks h = refl
has_still Returned Reported marks h = h
has_still Returned Returned marks h = refl

-- of the members only the one that is marked may pass another test then
any_marked_weaker : (test p : MemberEntry → Bool) (f : Progress → Progress) → ((m : MemberEntry) → p (f m.0, m.1) ≡ true → p m ≡ true) → (ms : List MemberEntry) → list_any p (retagged test f ms) ≡ true → list_any p ms ≡ true
any_marked_weaker test p f is [] h = h
any_marked_weaker test p f is (m ∷ ms) h = grind (arith, h, is m, any_marked_weaker test p f is ms)

any_marked_same : (test p : MemberEntry → Bool) (f : Progress → Progress) → ((m : MemberEntry) → test m ≡ true → p (f m.0, m.1) ≡ p m) → (ms : List MemberEntry) → list_any p (retagged test f ms) ≡ list_any p ms
any_marked_same test p f is [] = refl
any_marked_same test p f is (m ∷ ms) = grind (arith, is m, any_marked_same test p f is ms)

-- with one more mark, no more is lacking
pub marked_on : (mark by : Mark) (s : Batched) (bid jid b : Bytes) → is_marked mark s b ≡ true → is_marked mark (marked by bid jid s) b ≡ true
marked_on mark by s bid jid b y =
    let fewer = any_marked_weaker (is_job bid jid) (lacks mark s.batches b) (with_mark by) (λ m k. let h = has_still mark by m.0 in grind (arith, h, k)) s.members in
    grind (arith, fewer, y)

-- a batch that the job isn't under is as before
pub marked_elsewhere : (mark by : Mark) (s : Batched) (bid jid b : Bytes) → is_under s.batches bid b ≡ false → is_marked mark (marked by bid jid s) b ≡ is_marked mark s b
marked_elsewhere mark by s bid jid b u =
    let same = any_marked_same (is_job bid jid) (lacks mark s.batches b) (with_mark by) (λ m k. grind (arith, bytes_tell, k, u)) s.members in
    grind (arith, same)

-- and a job that is reported has not returned by that
pub settled_reported : (s : Batched) (bid jid b : Bytes) → is_settled (marked Reported bid jid s) b ≡ is_settled s b
settled_reported s bid jid b =
    let same = any_marked_same (is_job bid jid) (lacks Returned s.batches b) (with_mark Reported) (λ m k. refl) s.members in
    grind (arith, same)

home_marked : (bs : List BatchEntry) (test : MemberEntry → Bool) (f : Progress → Progress) (ms : List MemberEntry) → AtHome bs ms → AtHome bs (retagged test f ms)
home_marked bs test f [] h = tt
home_marked bs test f (m ∷ ms) h = home_either bs (test m) ((f m.0, m.1) ∷ ms) (m ∷ retagged test f ms) h (h.0, home_marked bs test f ms h.1)

pub sane_marked : (by : Mark) (s : Batched) (bid jid : Bytes) → Sane s → Sane (marked by bid jid s)
sane_marked by s bid jid sane = record { tree = sane.tree; homes = home_marked s.batches (is_job bid jid) (with_mark by) s.members sane.homes }

-- ## Something is fired

-- the same members, and the same batches but for what was fired of them
pub record Alike (s t : Batched) : Type 0 where
  pub there : (b : Bytes) → is_there b s.batches ≡ is_there b t.batches
  pub under : (x b : Bytes) → is_under s.batches x b ≡ is_under t.batches x b
  pub members : s.members ≡ t.members

pub alike_own : (s : Batched) → Alike s s
alike_own s = record { there = λ b. refl; under = λ x b. refl; members = refl }

pub alike_then : (s t u : Batched) → Alike s t → Alike t u → Alike s u
alike_then s t u a b = record { there = λ x. a.there x ∙ b.there x; under = λ x y. a.under x y ∙ b.under x y; members = a.members ∙ b.members }

pub alike_fire : (bid : Bytes) (kind : Kind) (s : Batched) → Alike (after_fire bid kind s) s
alike_fire bid kind s = record { there = λ b. there_retagged (has_bid bid) (with_kind kind) s.batches b; under = λ x b. under_retagged (has_bid bid) (with_kind kind) s.batches x b; members = refl }

any_same : (p q : MemberEntry → Bool) → ((m : MemberEntry) → p m ≡ q m) → (ms : List MemberEntry) → list_any p ms ≡ list_any q ms
any_same p q is [] = refl
any_same p q is (m ∷ ms) = grind (arith, is m, any_same p q is ms)

pub marked_alike : (mark : Mark) (s t : Batched) (b : Bytes) → Alike s t → is_marked mark s b ≡ is_marked mark t b
marked_alike mark s t b a = ap not (any_same (lacks mark s.batches b) (lacks mark t.batches b) (λ m. ap (λ u. not (has_mark mark m.0) && u) (a.under m.1.bid b)) s.members ∙ ap (list_any (lacks mark t.batches b)) a.members)

home_alike : (bs cs : List BatchEntry) (ms : List MemberEntry) → ((b : Bytes) → is_there b bs ≡ is_there b cs) → AtHome cs ms → AtHome bs ms
home_alike bs cs [] same h = tt
home_alike bs cs (m ∷ ms) same h = (same m.1.bid ∙ h.0, home_alike bs cs ms same h.1)

pub sane_fire : (bid : Bytes) (kind : Kind) (s : Batched) → Sane s → Sane (after_fire bid kind s)
sane_fire bid kind s sane = record {
  tree = tree_retagged (has_bid bid) (with_kind kind) s.batches sane.tree;
  homes = home_alike (after_fire bid kind s).batches s.batches s.members (alike_fire bid kind s).there sane.homes;
}
