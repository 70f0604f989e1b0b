-- The calls of a run one after another, each with the number that stands in the store before it and after it; and what follows from that.
use Rattle.std.proofs.Common.{◌≡◌, ◌∙◌, ◌⊎◌, inl, inr, ◌<◌, ◌≤◌, ◌+◌, ◌^◌, ◌&&◌, ℕ, Bool, true, false, cond, List, [], ◌∷◌, ◌++◌, length, filter, refl, sym, ap, subst, Option, Some, None, Result, Ok, arith, append_assoc, append-nil, nat_le, unwrap_or, if◌then◌else◌}
use Rattle.std.proofs.Math.Nat.{eq-or-lt_of_le}
use Rattle.std.specs.Bool.{MatchBool}
use Rattle.sk_resp.proofs.Decide.{le_or_lt}
use Rattle.std.specs.List.{AllByRecursion}
use Rattle.sk_resp.specs.Spelling.{Bytes}
use Rattle.sk_resp.specs.declared.reply.Reply.{Reply}
use Rattle.sk_link.specs.Call.{Call, answered}
use Rattle.sk_link.specs.declared.link.LinkFault.{LinkFault}
use Rattle.sk_worker.specs.Run.{is_returned}
use Rattle.sk_worker.specs.declared.job.Outcome.{Outcome}
use Rattle.sk_worker.specs.declared.job.Outcome.TheVariants as outcome
use Rattle.sk_model.specs.Event.{Run, Step, after, world_after}
use Rattle.sk_model.specs.World.{World, first}
use Rattle.sk_model.specs.declared.limits.Limits.{Limits}
use Rattle.sk_iter.specs.Calls.{IsCallOn, IterCall}
use Rattle.sk_iter.specs.Deeds.{Pace}
use Rattle.sk_iter.specs.Event.{Event, ItemRun, asked, calls, ran, runs}
use Rattle.sk_iter.specs.Goes.{Goes, GoesOnce, GoesThrough, Merges, Took}
use Rattle.sk_iter.specs.Laws.{AreConsecutive, AreFrom, AreFromCursor, CursorsRise, FewRunAgain, HasReturned, ItemsInOrder, NoneRunAgain, OfEarlier, OfLater, SavesFrom, SavesReturned, again_count, all_runs, returned_count}
use Rattle.sk_iter.specs.Performs.{is_accepted}
use Rattle.sk_iter.specs.Request.{get_words, key_of}
use Rattle.sk_iter.specs.declared.iter_end.IterEnd.TheVariants.{Done}
use Rattle.sk_iter.proofs.Along.{Along, ByOutcome, LastEvent}
use Rattle.sk_iter.proofs.Shapes.{AtMostGet, HasGone, none, one, pace_at, done_reads, read_call, unread_call}
use Rattle.sk_iter.proofs.Store.{Holds}
use Rattle.sk_iter.proofs.Through.{Ended, ReadAt, count_raised, count_returned, none_through, read_through, through}

-- ## Items of a call

module _ (p : Pace) where
  cons : (index : ℕ) (item : ItemRun) (items : List ItemRun) → item.index ≡ index → is_returned item.outcome ≡ true → AreConsecutive (index + 1) items → AreConsecutive index (item ∷ items)
  cons index item [] is is_so then_ = is
  cons index item (next ∷ items) is is_so then_ = (is, is_so, then_)

  last_none : (n : ℕ) (es : List Event) → LastEvent p n es → runs es ≡ []
  last_none n [] h = refl
  last_none n (asked call ∷ es) h = ap runs h.1
  last_none n (ran item ∷ es) h = absurd h

  along_items : (n since : ℕ) (es : List Event) → Along p n since es → AreConsecutive (p.cursor + n) (runs es)
  along_items n since [] h = tt
  along_items n since (asked call ∷ es) h = by_reply (is_accepted call.reply) (λ d. along_items n 0 es d) h.1 where
    by_reply : (b : Bool) → (Along p n 0 es → AreConsecutive (p.cursor + n) (runs es)) → MatchBool b (Along p n 0 es) (es ≡ []) → AreConsecutive (p.cursor + n) (runs es)
    by_reply true then_ d = then_ d
    by_reply false then_ d = subst (λ xs. AreConsecutive (p.cursor + n) (runs xs)) (sym d) tt
  along_items n since (ran item ∷ es) h = by_outcome item.outcome refl (λ d. along_items (n + 1) (since + 1) es d) h.2 where
    by_outcome : (o : Outcome) → item.outcome ≡ o → (Along p (n + 1) (since + 1) es → AreConsecutive (p.cursor + (n + 1)) (runs es)) → ByOutcome o (Along p (n + 1) (since + 1) es) (LastEvent p n es) → AreConsecutive (p.cursor + n) (item ∷ runs es)
    by_outcome outcome.Returned is then_ d =
        let e : p.cursor + (n + 1) ≡ p.cursor + n + 1 = omega arith in
        cons (p.cursor + n) item (runs es) h.0 (ap is_returned is) (subst (λ k. AreConsecutive k (runs es)) e (then_ d))
    by_outcome (outcome.Raised it) is then_ d = subst (λ items. AreConsecutive (p.cursor + n) (item ∷ items)) (sym (last_none n es d)) h.0

  last_saves : (n : ℕ) (es : List Event) → LastEvent p n es → SavesFrom p.jid (p.cursor + n) es
  last_saves n [] h = tt
  last_saves n (asked call ∷ es) h = (inr (p.cursor + n, h.0, omega arith), subst (SavesFrom p.jid (p.cursor + n)) (sym h.1) tt)
  last_saves n (ran item ∷ es) h = absurd h

  along_saves : (n since : ℕ) (es : List Event) → Along p n since es → SavesFrom p.jid (p.cursor + n) es
  along_saves n since [] h = tt
  along_saves n since (asked call ∷ es) h = (inr (p.cursor + n, h.0, omega arith), by_reply (is_accepted call.reply) (λ d. along_saves n 0 es d) h.1) where
    by_reply : (b : Bool) → (Along p n 0 es → SavesFrom p.jid (p.cursor + n) es) → MatchBool b (Along p n 0 es) (es ≡ []) → SavesFrom p.jid (p.cursor + n) es
    by_reply true then_ d = then_ d
    by_reply false then_ d = subst (SavesFrom p.jid (p.cursor + n)) (sym d) tt
  along_saves n since (ran item ∷ es) h = by_outcome item.outcome refl (λ d. along_saves (n + 1) (since + 1) es d) h.2 where
    by_outcome : (o : Outcome) → item.outcome ≡ o → (Along p (n + 1) (since + 1) es → SavesFrom p.jid (p.cursor + (n + 1)) es) → ByOutcome o (Along p (n + 1) (since + 1) es) (LastEvent p n es) →
        SavesFrom p.jid (if is_returned item.outcome then p.cursor + n + 1 else p.cursor + n) es
    by_outcome outcome.Returned is then_ d =
        let e : p.cursor + (n + 1) ≡ p.cursor + n + 1 = omega arith in
        subst (λ b. SavesFrom p.jid (if b then p.cursor + n + 1 else p.cursor + n) es) (sym (ap is_returned is))
        (subst (λ k. SavesFrom p.jid k es) e (then_ d))
    by_outcome (outcome.Raised it) is then_ d =
        subst (λ b. SavesFrom p.jid (if b then p.cursor + n + 1 else p.cursor + n) es) (sym (ap is_returned is)) (last_saves n es d)

from_zero : (c : ℕ) → c + 0 ≡ c
from_zero c = omega arith

module _ (jid : Bytes) (call : IterCall) (c : IsCallOn jid call) where
  pub items_in_order : ItemsInOrder call
  items_in_order = by_cursor call.cursor refl where
    by_cursor : (o : Option ℕ) → call.cursor ≡ o → AreFromCursor o (runs call.events)
    by_cursor (Some cursor) is =
        let h = read_call jid call cursor c is in
        subst (λ es. AreConsecutive cursor (runs es)) (sym h.are)
        (subst (λ k. AreConsecutive k (runs h.behind)) (from_zero cursor) (along_items (pace_at jid call.bounds cursor) 0 0 h.behind h.along))
    by_cursor None is = no_items (unread_call jid call c is) where
      no_items : AtMostGet jid call.events → runs call.events ≡ []
      no_items (none e) = ap runs e
      no_items (one came e) = ap runs e

  pub saves_returned : SavesReturned jid call
  saves_returned = by_cursor call.cursor refl where
    by_cursor : (o : Option ℕ) → call.cursor ≡ o → SavesFrom jid (unwrap_or o 0) call.events
    by_cursor (Some cursor) is =
        let h = read_call jid call cursor c is in
        subst (SavesFrom jid cursor) (sym h.are)
        (inl refl, subst (λ k. SavesFrom jid k h.behind) (from_zero cursor) (along_saves (pace_at jid call.bounds cursor) 0 0 h.behind h.along))
    by_cursor None is = no_saves (unread_call jid call c is) where
      no_saves : AtMostGet jid call.events → SavesFrom jid 0 call.events
      no_saves (none e) = subst (SavesFrom jid 0) (sym e) tt
      no_saves (one came e) = subst (SavesFrom jid 0) (sym e) (inl refl, tt)

-- ## One call in the store

-- The number that stands before the call and the one behind it: the cursor that the call read is the first one.
pub record Led (jid : Bytes) (call : IterCall) (before last : ℕ) (cursor : ℕ) : Type 0 where
  pub is : cursor ≡ before
  pub gone : HasGone jid call.bounds call.events call.result cursor
  pub rises : before ≤ last
  pub within : last ≤ cursor + returned_count (runs call.events)
  pub few : cursor + returned_count (runs call.events) ≤ last + call.bounds.every

abbrev pub LedBy : Bytes → IterCall → ℕ → ℕ → Option ℕ → Type 0
LedBy jid call before last None = last ≡ before
LedBy jid call before last (Some cursor) = Led jid call before last cursor

-- The calls lead from this number on.
abbrev pub Chain : Bytes → ℕ → List IterCall → Type 0
Chain jid before [] = Unit {0}
Chain jid before (call ∷ more) = IsCallOn jid call × ((last : ℕ) × LedBy jid call before last call.cursor × Chain jid last more)

run_front : (w : World) (steps more : List Step) → Run w (steps ++ more) → Run w steps
run_front w [] more run = tt
run_front w (step ∷ steps) more run = (run.0, run_front (after w step) steps more run.1)

run_behind : (w : World) (steps more : List Step) → Run w (steps ++ more) → Run (world_after w steps) more
run_behind w [] more run = run
run_behind w (step ∷ steps) more run = run_behind (after w step) steps more run.1

-- what a call leads to
pub record Leads (jid : Bytes) (w : World) (call : IterCall) (steps : List Step) (before : ℕ) (cursor : Option ℕ) : Type 0 where
  pub last : ℕ
  pub holds : Holds jid (world_after w steps) last
  pub led : LedBy jid call before last cursor

leads_read : (jid : Bytes) (w : World) (call : IterCall) (steps : List Step) (before cursor : ℕ) → Run w steps → GoesOnce jid call steps → Holds jid w before → call.cursor ≡ Some cursor →
    Leads jid w call steps before (Some cursor)
leads_read jid w call steps before cursor run goes holds is =
    by_took (subst (λ es. Took (calls es) goes.taken) h.are goes.took) where
      h : HasGone jid call.bounds call.events call.result cursor
      h = read_call jid call cursor goes.is_call is

      p : Pace
      p = pace_at jid call.bounds cursor

      count : returned_count (runs call.events) ≡ returned_count (runs h.behind)
      count = ap (λ es. returned_count (runs es)) h.are

      behind_read : (more : List Call) → Took (calls h.behind) more → ReadAt jid w steps more (Ok h.reply) before → Leads jid w call steps before (Some cursor)
      behind_read more took r =
          let same : cursor ≡ before = r.tells h.reply call.bounds.len cursor refl goes.is_call.len h.is_cursor in
          let small : cursor + (0 + returned_count (runs h.behind)) < 2 ^ 62 = omega (arith, h.within, goes.is_call.len) in
          let low : before ≤ cursor + 0 = omega (arith, same) in
          let high : cursor + 0 ≤ before + 0 = omega (arith, same) in
          let e : Ended jid p r.behind.world r.behind.left before (0 + returned_count (runs h.behind)) =
          through jid p refl r.behind.world r.behind.left h.behind more before 0 0 h.along took r.behind.run r.behind.merges r.holds low high (omega arith) small in
          record {
            last = e.last;
            holds = subst (λ v. Holds jid v e.last) r.behind.same e.holds;
            led = record { is = same; gone = h; rises = e.rises; within = omega (arith, e.within, count); few = omega (arith, e.few, count) };
          }

      by_took : Took (answered (get_words jid) h.reply ∷ calls h.behind) goes.taken → Leads jid w call steps before (Some cursor)
      by_took (inl (more, are, took)) =
          behind_read more took (read_through jid w steps more (answered (get_words jid) h.reply) before refl run
          (subst (λ cs. Merges (key_of jid) cs steps) are goes.merges) holds)
      by_took (inr (lost, took)) = absurd (cc lost)

leads_unread : (jid : Bytes) (w : World) (call : IterCall) (steps : List Step) (before : ℕ) → Run w steps → GoesOnce jid call steps → Holds jid w before → call.cursor ≡ None →
    Leads jid w call steps before None
leads_unread jid w call steps before run goes holds is = by_events (unread_call jid call goes.is_call is) where
  nothing : goes.taken ≡ [] → Leads jid w call steps before None
  nothing e = record { last = before; holds = none_through jid w before steps run (subst (λ cs. Merges (key_of jid) cs steps) e goes.merges) holds; led = refl }

  one_read : (more : List Call) (reply : _) → ReadAt jid w steps more reply before → more ≡ [] → Leads jid w call steps before None
  one_read more reply r e = record {
    last = before;
    holds = subst (λ v. Holds jid v before) r.behind.same
        (none_through jid r.behind.world before r.behind.left r.behind.run (subst (λ cs. Merges (key_of jid) cs r.behind.left) e r.behind.merges) r.holds);
    led = refl;
  }

  by_took : (came : Result Reply LinkFault) → Took (record { request = get_words jid; reply = came } ∷ []) goes.taken → Leads jid w call steps before None
  by_took came (inl (more, are, took)) =
      one_read more came (read_through jid w steps more (record { request = get_words jid; reply = came }) before refl run
      (subst (λ cs. Merges (key_of jid) cs steps) are goes.merges) holds) took
  by_took came (inr (lost, took)) = nothing took

  by_events : AtMostGet jid call.events → Leads jid w call steps before None
  by_events (none e) = nothing (subst (λ es. Took (calls es) goes.taken) e goes.took)
  by_events (one came e) = by_took came (subst (λ es. Took (calls es) goes.taken) e goes.took)

leads : (jid : Bytes) (w : World) (call : IterCall) (steps : List Step) (before : ℕ) → Run w steps → GoesOnce jid call steps → Holds jid w before → Leads jid w call steps before call.cursor
leads jid w call steps before run goes holds = by_cursor call.cursor refl where
  by_cursor : (o : Option ℕ) → call.cursor ≡ o → Leads jid w call steps before o
  by_cursor (Some cursor) is = leads_read jid w call steps before cursor run goes holds is
  by_cursor None is = leads_unread jid w call steps before run goes holds is

chain_from : (jid : Bytes) (w : World) (calls_ : List IterCall) (steps : List Step) (before : ℕ) → Run w steps → GoesThrough jid calls_ steps → Holds jid w before → Chain jid before calls_
chain_from jid w [] steps before run goes holds = tt
chain_from jid w (call ∷ more) steps before run goes holds =
    let mine = goes.0 in
    let rest = goes.1 in
    let whole : Run w (mine ++ rest) = subst (Run w) goes.2 run in
    let one = leads jid w call mine before (run_front w mine rest whole) goes.3 holds in
    (goes.3.is_call, (one.last, one.led, chain_from jid (world_after w mine) more rest one.last (run_behind w mine rest whole) goes.4 one.holds))

pub chain_of : (limits : Limits) (steps : List Step) (calls_ : List IterCall) (jid : Bytes) → Goes limits steps calls_ jid → Chain jid 0 calls_
chain_of limits steps calls_ jid goes =
    chain_from jid (first limits) calls_ steps 0 goes.run goes.through (None, record { is = refl; shows = inl (refl, refl) }, omega arith)

-- ## What follows for the calls

-- the number never falls from a call to the next
led_rises : (jid : Bytes) (call : IterCall) (before last : ℕ) (o : Option ℕ) → LedBy jid call before last o → before ≤ last
led_rises jid call before last None e = omega (arith, e)
led_rises jid call before last (Some cursor) l = l.rises

at_cursor : (jid : Bytes) (call : IterCall) (before last cursor : ℕ) → LedBy jid call before last call.cursor → call.cursor ≡ Some cursor → Led jid call before last cursor
at_cursor jid call before last cursor l is = subst (LedBy jid call before last) is l

later_cursors : (jid : Bytes) (low before : ℕ) (calls_ : List IterCall) → low ≤ before → Chain jid before calls_ → AllByRecursion (λ later. (d : ℕ) → later.cursor ≡ Some d → low ≤ d) calls_
later_cursors jid low before [] le chain = tt
later_cursors jid low before (call ∷ more) le (c, (last, led, rest)) = (
  λ d is. omega (arith, le, (at_cursor jid call before last d led is).is),
  later_cursors jid low last more (omega (arith, le, led_rises jid call before last call.cursor led)) rest,
)

map_all : {A : Type 0} (P Q : A → Type 0) (xs : List A) → ((x : A) → P x → Q x) → AllByRecursion P xs → AllByRecursion Q xs
map_all P Q [] f h = tt
map_all P Q (x ∷ xs) f h = (f x h.0, map_all P Q xs f h.1)

pub cursors_rise : (jid : Bytes) (before : ℕ) (calls_ : List IterCall) → Chain jid before calls_ → CursorsRise calls_
cursors_rise jid before [] chain = tt
cursors_rise jid before (call ∷ more) (c, (last, led, rest)) = (
  map_all (λ later. (d : ℕ) → later.cursor ≡ Some d → last ≤ d) (λ later. (e d : ℕ) → call.cursor ≡ Some e → later.cursor ≡ Some d → e ≤ d) more
      (λ later low e d is is'. let l = at_cursor jid call before last e led is in omega (arith, l.is, l.rises, low d is'))
      (later_cursors jid last last more (omega arith) rest),
  cursors_rise jid last more rest,
)

-- ## Indexes that returned

has_left : (xs ys : List ItemRun) (i : ℕ) → HasReturned xs i → HasReturned (xs ++ ys) i
has_left [] ys i h = absurd h
has_left (x ∷ xs) ys i (inl h) = inl h
has_left (x ∷ xs) ys i (inr h) = inr (has_left xs ys i h)

has_right : (xs ys : List ItemRun) (i : ℕ) → HasReturned ys i → HasReturned (xs ++ ys) i
has_right [] ys i h = h
has_right (x ∷ xs) ys i h = inr (has_right xs ys i h)

all_runs-append : (xs ys : List IterCall) → all_runs (xs ++ ys) ≡ all_runs xs ++ all_runs ys
all_runs-append [] ys = refl
all_runs-append (call ∷ xs) ys = ap (λ rs. runs call.events ++ rs) (all_runs-append xs ys) ∙ sym (append_assoc (runs call.events) (all_runs xs) (all_runs ys))

-- consecutive items have returned, so many of them
consecutive_has : (c i : ℕ) (items : List ItemRun) → AreConsecutive c items → c ≤ i → i < c + returned_count items → HasReturned items i
consecutive_has c i [] h low high = absurd (omega (arith, low, high))
consecutive_has c i (item ∷ []) h low high = by_test (is_returned item.outcome) refl where
  by_test : (b : Bool) → is_returned item.outcome ≡ b → HasReturned (item ∷ []) i
  by_test true is_so =
      let one : returned_count (item ∷ []) ≡ returned_count [] + 1 = count_returned item [] is_so in
      let zero_ : returned_count [] ≡ 0 = refl in
      inl (omega (arith, h, low, high, one, zero_), is_so)
  by_test false not_so =
      let none_ : returned_count (item ∷ []) ≡ returned_count [] = count_raised item [] not_so in
      let zero_ : returned_count [] ≡ 0 = refl in
      absurd (omega (arith, low, high, none_, zero_))
consecutive_has c i (item ∷ next ∷ items) h low high = by_place (eq-or-lt_of_le low) (λ le lt. consecutive_has (c + 1) i (next ∷ items) h.2 le lt) where
  count : returned_count (item ∷ next ∷ items) ≡ returned_count (next ∷ items) + 1
  count = count_returned item (next ∷ items) h.1

  by_place : (c ≡ i) ⊎ (c < i) → (c + 1 ≤ i → i < c + 1 + returned_count (next ∷ items) → HasReturned (next ∷ items) i) → HasReturned (item ∷ next ∷ items) i
  by_place (inl e) then_ = inl (h.0 ∙ e, h.1)
  by_place (inr lt) then_ = inr (then_ (omega (arith, lt)) (omega (arith, high, count)))

-- Every index below this number has returned in these calls.
abbrev Below : List IterCall → ℕ → Type 0
Below earlier n = (i : ℕ) → i < n → HasReturned (all_runs earlier) i

more_below : (earlier : List IterCall) (call : IterCall) (n m cursor : ℕ) → Below earlier n → cursor ≡ n → AreConsecutive cursor (runs call.events) → m ≤ cursor + returned_count (runs call.events) →
    Below (earlier ++ call ∷ []) m
more_below earlier call n m cursor below is items le i lt =
    subst (λ rs. HasReturned rs i) (sym (all_runs-append earlier (call ∷ []) ∙ ap (λ rs. all_runs earlier ++ rs) (append-nil (runs call.events)))) (by_place (le_or_lt n i)) where
      by_place : (n ≤ i) ⊎ (i < n) → HasReturned (all_runs earlier ++ runs call.events) i
      by_place (inr lt') = has_left (all_runs earlier) (runs call.events) i (below i lt')
      by_place (inl le') = has_right (all_runs earlier) (runs call.events) i (consecutive_has cursor i (runs call.events) items (omega (arith, is, le')) (omega (arith, lt, le)))

items_at : (jid : Bytes) (call : IterCall) (cursor : ℕ) → IsCallOn jid call → call.cursor ≡ Some cursor → AreConsecutive cursor (runs call.events)
items_at jid call cursor c is = subst (λ o. AreFromCursor o (runs call.events)) is (items_in_order jid call c)

next_below : (jid : Bytes) (earlier : List IterCall) (call : IterCall) (before last : ℕ) → IsCallOn jid call → LedBy jid call before last call.cursor → Below earlier before → Below (earlier ++ call ∷ []) last
next_below jid earlier call before last c led below = by_cursor call.cursor refl led where
  by_cursor : (o : Option ℕ) → call.cursor ≡ o → LedBy jid call before last o → Below (earlier ++ call ∷ []) last
  by_cursor (Some cursor) is l = more_below earlier call before last cursor below l.is (items_at jid call cursor c is) l.within
  by_cursor None is l = λ i lt.
      subst (λ rs. HasReturned rs i) (sym (all_runs-append earlier (call ∷ []))) (has_left (all_runs earlier) (all_runs (call ∷ [])) i (below i (omega (arith, lt, l))))

pub below_returned : (jid : Bytes) (before : ℕ) (earlier calls_ : List IterCall) → Chain jid before calls_ → Below earlier before →
    OfEarlier (λ earlier call. (c index : ℕ) → call.cursor ≡ Some c → index < c → HasReturned (all_runs earlier) index) earlier calls_
below_returned jid before earlier [] chain below = tt
below_returned jid before earlier (call ∷ more) (c, (last, led, rest)) below = (
  λ cursor index is lt. below index (omega (arith, lt, (at_cursor jid call before last cursor led is).is)),
  below_returned jid last (earlier ++ call ∷ []) more rest (next_below jid earlier call before last c led below),
)

pub done_is_all : (jid : Bytes) (before : ℕ) (earlier calls_ : List IterCall) → Chain jid before calls_ → Below earlier before →
    OfEarlier (λ earlier call. call.result ≡ Some (Ok Done) → (index : ℕ) → index < call.bounds.len → HasReturned (all_runs (earlier ++ call ∷ [])) index) earlier calls_
done_is_all jid before earlier [] chain below = tt
done_is_all jid before earlier (call ∷ more) (c, (last, led, rest)) below =
    (λ done. by_cursor call.cursor refl led done, done_is_all jid last (earlier ++ call ∷ []) more rest (next_below jid earlier call before last c led below)) where
      by_cursor : (o : Option ℕ) → call.cursor ≡ o → LedBy jid call before last o → call.result ≡ Some (Ok Done) → Below (earlier ++ call ∷ []) call.bounds.len
      by_cursor (Some cursor) is l done =
          let count : returned_count (runs call.events) ≡ returned_count (runs l.gone.behind) = ap (λ es. returned_count (runs es)) l.gone.are in
          more_below earlier call before call.bounds.len cursor below l.is (items_at jid call cursor c is) (omega (arith, l.gone.done done, count))
      by_cursor None is l done = absurd (done_reads jid call c done is)

-- ## Indexes that are run again

consecutive_from : (low c : ℕ) (items : List ItemRun) → low ≤ c → AreConsecutive c items → AllByRecursion (λ item. low ≤ item.index) items
consecutive_from low c [] le h = tt
consecutive_from low c (item ∷ []) le h = (omega (arith, le, h), tt)
consecutive_from low c (item ∷ next ∷ items) le h = (omega (arith, le, h.0), consecutive_from low (c + 1) (next ∷ items) (omega arith) h.2)

call_from : (jid : Bytes) (low before last : ℕ) (call : IterCall) → low ≤ before → IsCallOn jid call → LedBy jid call before last call.cursor → AreFrom low call
call_from jid low before last call le c led = by_cursor call.cursor refl led where
  by_cursor : (o : Option ℕ) → call.cursor ≡ o → LedBy jid call before last o → AreFrom low call
  by_cursor (Some cursor) is l = consecutive_from low cursor (runs call.events) (omega (arith, le, l.is)) (items_at jid call cursor c is)
  by_cursor None is l =
      let no_items : runs call.events ≡ [] = subst (λ o. AreFromCursor o (runs call.events)) is (items_in_order jid call c) in
      subst (AllByRecursion (λ item. low ≤ item.index)) (sym no_items) tt

later_from : (jid : Bytes) (low before : ℕ) (calls_ : List IterCall) → low ≤ before → Chain jid before calls_ → AllByRecursion (AreFrom low) calls_
later_from jid low before [] le chain = tt
later_from jid low before (call ∷ more) le (c, (last, led, rest)) =
    (call_from jid low before last call le c led, later_from jid low last more (omega (arith, le, led_rises jid call before last call.cursor led)) rest)

own_from : (jid : Bytes) (before : ℕ) (calls_ : List IterCall) → Chain jid before calls_ → AllByRecursion (λ call. (c : ℕ) → call.cursor ≡ Some c → AreFrom c call) calls_
own_from jid before [] chain = tt
own_from jid before (call ∷ more) (c, (last, led, rest)) =
    (λ cursor is. consecutive_from cursor cursor (runs call.events) (omega arith) (items_at jid call cursor c is), own_from jid last more rest)

others_from : (jid : Bytes) (before : ℕ) (calls_ : List IterCall) → Chain jid before calls_ → OfLater (λ one later. (c : ℕ) → one.cursor ≡ Some c → AreFrom c later) calls_
others_from jid before [] chain = tt
others_from jid before (call ∷ more) (c, (last, led, rest)) = (
  map_all (λ later. (low : ℕ) → low ≤ last → AreFrom low later) (λ later. (e : ℕ) → call.cursor ≡ Some e → AreFrom e later) more
      (λ later from e is. let l = at_cursor jid call before last e led is in from e (omega (arith, l.is, l.rises)))
      (every_low more rest),
  others_from jid last more rest,
) where
  both_all : {A : Type 0} (P : ℕ → A → Type 0) (xs : List A) → ((low : ℕ) → low ≤ last → AllByRecursion (P low) xs) → AllByRecursion (λ x. (low : ℕ) → low ≤ last → P low x) xs
  both_all P [] f = tt
  both_all P (x ∷ xs) f = (λ low le. (f low le).0, both_all P xs (λ low le. (f low le).1))

  every_low : (more : List IterCall) → Chain jid last more → AllByRecursion (λ later. (low : ℕ) → low ≤ last → AreFrom low later) more
  every_low more rest = both_all AreFrom more (λ low le. later_from jid low last more le rest)

pub none_run_again : (jid : Bytes) (before : ℕ) (calls_ : List IterCall) → Chain jid before calls_ → NoneRunAgain calls_
none_run_again jid before calls_ chain = (own_from jid before calls_ chain, others_from jid before calls_ chain)

-- how many of consecutive items stand at an index or above
again_one : (d : ℕ) (item : ItemRun) (items : List ItemRun) → again_count d (item ∷ items) ≤ again_count d items + 1
again_one d item items = by_test (is_returned item.outcome && nat_le d item.index) where
  by_test : (b : Bool) → length (cond b (item ∷ filter (λ i. is_returned i.outcome && nat_le d i.index) items) (filter (λ i. is_returned i.outcome && nat_le d i.index) items)) ≤ again_count d items + 1
  by_test true = omega arith
  by_test false = omega arith

again_low : (d : ℕ) (item : ItemRun) (items : List ItemRun) → item.index < d → again_count d (item ∷ items) ≡ again_count d items
again_low d item items lt = grind (arith, lt)

again_raised : (d : ℕ) (item : ItemRun) (items : List ItemRun) → is_returned item.outcome ≡ false → again_count d (item ∷ items) ≡ again_count d items
again_raised d item items not_so = grind (arith, not_so)

again_at_most : (d : ℕ) (items : List ItemRun) → again_count d items ≤ returned_count items
again_at_most d [] = omega arith
again_at_most d (item ∷ items) = by_test (is_returned item.outcome) refl (again_at_most d items) where
  by_test : (b : Bool) → is_returned item.outcome ≡ b → again_count d items ≤ returned_count items → again_count d (item ∷ items) ≤ returned_count (item ∷ items)
  by_test true is_so most = omega (arith, again_one d item items, most, count_returned item items is_so)
  by_test false not_so most = omega (arith, again_raised d item items not_so, most, count_raised item items not_so)

again_few : (c d : ℕ) (items : List ItemRun) → AreConsecutive c items → c ≤ d → (again_count d items ≡ 0) ⊎ (again_count d items + d ≤ c + returned_count items)
again_few c d [] h le = inl refl
again_few c d (item ∷ items) h le = by_place (eq-or-lt_of_le le) (λ rest lt. again_few (c + 1) d items rest lt) where
  first_is : (items : List ItemRun) → AreConsecutive c (item ∷ items) → item.index ≡ c
  first_is [] h = h
  first_is (next ∷ items) h = h.0

  rest_are : (items : List ItemRun) → AreConsecutive c (item ∷ items) → AreConsecutive (c + 1) items
  rest_are [] h = tt
  rest_are (next ∷ items) h = h.2

  none_behind : (items : List ItemRun) → AreConsecutive c (item ∷ items) → is_returned item.outcome ≡ false → items ≡ []
  none_behind [] h not_so = refl
  none_behind (next ∷ items) h not_so = absurd (cc (sym h.1 ∙ not_so))

  by_place : (c ≡ d) ⊎ (c < d) → (AreConsecutive (c + 1) items → c + 1 ≤ d → (again_count d items ≡ 0) ⊎ (again_count d items + d ≤ c + 1 + returned_count items)) →
      (again_count d (item ∷ items) ≡ 0) ⊎ (again_count d (item ∷ items) + d ≤ c + returned_count (item ∷ items))
  by_place (inl e) then_ = inr (omega (arith, e, again_at_most d (item ∷ items)))
  by_place (inr lt) then_ = by_rest (then_ (rest_are items h) (omega (arith, lt))) where
    low : again_count d (item ∷ items) ≡ again_count d items
    low = again_low d item items (omega (arith, first_is items h, lt))

    by_rest : (again_count d items ≡ 0) ⊎ (again_count d items + d ≤ c + 1 + returned_count items) → (again_count d (item ∷ items) ≡ 0) ⊎ (again_count d (item ∷ items) + d ≤ c + returned_count (item ∷ items))
    by_rest (inl z) = inl (low ∙ z)
    by_rest (inr le') = by_test (is_returned item.outcome) refl where
      by_test : (b : Bool) → is_returned item.outcome ≡ b → (again_count d (item ∷ items) ≡ 0) ⊎ (again_count d (item ∷ items) + d ≤ c + returned_count (item ∷ items))
      by_test true is_so = inr (omega (arith, low, le', count_returned item items is_so))
      by_test false not_so =
          let e : again_count d items ≡ 0 = ap (again_count d) (none_behind items h not_so) in inl (low ∙ e)

pub few_run_again : (jid : Bytes) (before : ℕ) (calls_ : List IterCall) → Chain jid before calls_ → FewRunAgain calls_
few_run_again jid before [] chain = tt
few_run_again jid before (call ∷ more) (c, (last, led, rest)) = (
  map_all (λ later. (d : ℕ) → later.cursor ≡ Some d → last ≤ d) (λ later. (d : ℕ) → later.cursor ≡ Some d → again_count d (runs call.events) ≤ call.bounds.every) more
      (λ later low d is. few call.cursor refl led d (low d is)) (later_cursors jid last last more (omega arith) rest),
  few_run_again jid last more rest,
) where
  few : (o : Option ℕ) → call.cursor ≡ o → LedBy jid call before last o → (d : ℕ) → last ≤ d → again_count d (runs call.events) ≤ call.bounds.every
  few (Some cursor) is l d le = by_count (again_few cursor d (runs call.events) (items_at jid call cursor c is) (omega (arith, l.is, l.rises, le))) where
    by_count : (again_count d (runs call.events) ≡ 0) ⊎ (again_count d (runs call.events) + d ≤ cursor + returned_count (runs call.events)) → again_count d (runs call.events) ≤ call.bounds.every
    by_count (inl z) = omega (arith, z)
    by_count (inr le') = omega (arith, le', l.few, le)
  few None is l d le =
      let no_items : runs call.events ≡ [] = subst (λ o. AreFromCursor o (runs call.events)) is (items_in_order jid call c) in
      omega (arith, ap (again_count d) no_items)
