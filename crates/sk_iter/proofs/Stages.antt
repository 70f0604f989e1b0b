-- How the stages of a call follow one another.
use Rattle.std.proofs.Common.{◌≡◌, ◌∙◌, ◌+◌, ◌-◌, ◌<◌, ◌≤◌, ◌⊎◌, inl, inr, min, not, ℕ, zero, suc, List, [], ◌∷◌, ◌++◌, refl, sym, ap, subst, Option, Result, Ok, Err, IfOk, append_assoc, append-nil, arith}
use Rattle.sk_base.specs.Outside.{Takes}
use Rattle.sk_resp.proofs.Decide.{le_or_lt}
use Rattle.sk_resp.specs.Spelling.{Bytes}
use Rattle.sk_link.specs.Call.{Call as LinkCall}
use Rattle.sk_worker.specs.declared.job.Outcome.{Outcome}
use Rattle.sk_worker.specs.declared.job.Raised.{Raised as WorkerRaised}
use Rattle.sk_worker.specs.declared.job.Outcome.TheVariants as outcome
use Rattle.sk_iter.specs.Deeds.{Deed, Pace, is_saved, raised_at, returned, returned_one, runs, save_if, whole}
use Rattle.sk_iter.specs.Ends.{StopsAt}
use Rattle.sk_iter.specs.Event.{ItemRun, ran}
use Rattle.sk_iter.specs.Performs.{Performs}
use Rattle.sk_iter.specs.Stages.{BreaksOff, Goes, IsQuiet, RunsItem, RunsItems, item_deeds, pace_of}
use Rattle.sk_iter.specs.declared.call.Bounds.{Bounds}
use Rattle.sk_iter.specs.declared.call.Call.{Call}
use Rattle.sk_iter.specs.declared.call.Stop.{Stop}
use Rattle.sk_iter.specs.declared.iter_end.IterEnd.{IterEnd}
use Rattle.sk_iter.specs.declared.iter_end.IterEnd.TheVariants.{Done, Paused, Raised}
use Rattle.sk_iter.specs.declared.iter_end.IterFault.{IterFault}
use Rattle.sk_iter.specs.declared.iter_end.IterFault.TheVariants as fault
use Rattle.sk_iter.proofs.Performing.{More, front_none, performs_as, performs_before, performs_then}

-- ## Items

pub returned_none : (p : Pace) → returned p 0 ≡ []
unfolding returned
returned_none p = refl

pub returned_next : (p : Pace) (n : ℕ) → returned p (n + 1) ≡ returned p n ++ returned_one p n
unfolding returned
returned_next p n = let e : n + 1 ≡ suc n = omega arith in ap (returned p) e

-- the first of them come before the others
pub returned_front : (p : Pace) (m k : ℕ) → (rest : List Deed) × (returned p m ++ rest ≡ returned p (m + k))
returned_front p m zero = let e : m ≡ m + 0 = omega arith in ([], append-nil (returned p m) ∙ ap (returned p) e)
returned_front p m (suc k) =
    let before = returned_front p m k in
    let e : m + k + 1 ≡ m + suc k = omega arith in (
      before.0 ++ returned_one p (m + k),
      sym (append_assoc (returned p m) before.0 (returned_one p (m + k))) ∙ ap (λ ds. ds ++ returned_one p (m + k)) before.1
          ∙ sym (returned_next p (m + k)) ∙ ap (returned p) e,
    )

-- one item was run, over a link that carried nothing
pub performs_item : (P : List LinkCall → Type 0) (a b : Option (List ItemRun)) (jid : Bytes) (item : ItemRun) → P [] → Takes a (item ∷ []) b →
    Performs {T = Outcome} P a b jid (runs item ∷ []) (Ok item.outcome)
performs_item P a b jid item none takes = (ran item ∷ [], record { link = none; items = takes }, record { are = refl; kept = refl })

-- no item came to an outcome
pub item_starved : (P : List LinkCall → Type 0) (a b : Option (List ItemRun)) (p : Pace) (n : ℕ) → P [] → Takes a [] b → RunsItem P a b p n (Err fault.Memory)
item_starved P a b p n none takes = ([], record { link = none; items = takes }, (returned_one p n, front_none (returned_one p n)))

-- ## Where a call stops

-- the end of a call whose items all return
pub end_at : (b : Bounds) (cursor : ℕ) → cursor ≤ b.len → (end : IterEnd) × StopsAt b cursor (min b.most (b.len - cursor)) end
end_at b cursor within = by_size (le_or_lt b.len (cursor + b.most)) where
  by_size : (b.len ≤ cursor + b.most) ⊎ (cursor + b.most < b.len) → (end : IterEnd) × StopsAt b cursor (min b.most (b.len - cursor)) end
  by_size (inl le) = (Done, (omega arith, omega arith))
  by_size (inr lt) = (Paused (cursor + b.most), (omega arith, lt, omega arith))

regroup : (a rest b c : List Deed) → a ++ (rest ++ (b ++ c)) ≡ ((a ++ rest) ++ b) ++ c
regroup a rest b c = sym (append_assoc a rest (b ++ c)) ∙ sym (append_assoc (a ++ rest) b c)

sum_is : (m n : ℕ) → m ≤ n → m + (n - m) ≡ n
sum_is m n le = omega arith

-- the call stops behind items that returned
pub stops_here : (P : List LinkCall → Type 0) (a b : Option (List ItemRun)) (c : Call) (n : ℕ) (end : IterEnd) → StopsAt c.bounds c.cursor n end → IsQuiet end →
    Performs {T = Unit {0}} P a b c.jid.now (returned (pace_of c) n) (Ok tt) → RunsItems P a b c (Ok (record { returned = n; end = end }))
stops_here P a b c n Done stops quiet before =
    (stops, subst (λ ds. Performs {T = Stop} P a b c.jid.now ds (Ok (record { returned = n; end = Done }))) (sym (append-nil (returned (pace_of c) n))) before)
stops_here P a b c n (Paused next) stops quiet before =
    (stops, subst (λ ds. Performs {T = Stop} P a b c.jid.now ds (Ok (record { returned = n; end = Paused next }))) (sym (append-nil (returned (pace_of c) n))) before)
stops_here P a b c n (Raised index it) stops quiet before = absurd quiet

-- ## One stage behind another

module _ (P Q R : List LinkCall → Type 0) (a b d : Option (List ItemRun)) (more : More P Q R) where
  -- one item returned, and what came of the save behind it
  pub item_ran : (p : Pace) (n : ℕ) (result : Result Outcome IterFault) → P [] → Takes a (record { index = p.cursor + n; outcome = outcome.Returned } ∷ []) b →
      IfOk result (λ o. o ≡ outcome.Returned) → Performs {T = Outcome} Q b d p.jid (save_if (is_saved p.every (n + 1)) p.jid (p.cursor + (n + 1))) result → RunsItem R a d p n result
  item_ran p n (Ok o) none takes is saved =
      let item : ItemRun = record { index = p.cursor + n; outcome = outcome.Returned } in
      subst (λ (x : Outcome). Performs {T = Outcome} R a d p.jid (item_deeds p n x) (Ok o)) (sym is)
      (performs_then P Q R a b d more {S = Outcome} {T = Outcome} p.jid (runs item ∷ []) (save_if (is_saved p.every (n + 1)) p.jid (p.cursor + (n + 1))) outcome.Returned (Ok o)
      (performs_item P a b p.jid item none takes) saved)
  item_ran p n (Err f) none takes is saved =
      let item : ItemRun = record { index = p.cursor + n; outcome = outcome.Returned } in
      performs_then P Q R a b d more {S = Outcome} {T = Outcome} p.jid (runs item ∷ []) (save_if (is_saved p.every (n + 1)) p.jid (p.cursor + (n + 1))) outcome.Returned (Err f)
      (performs_item P a b p.jid item none takes) saved

  -- the items so far, and one more
  pub one_more : (p : Pace) (n : ℕ) → Performs {T = Unit {0}} P a b p.jid (returned p n) (Ok tt) → RunsItem Q b d p n (Ok outcome.Returned) →
      Performs {T = Unit {0}} R a d p.jid (returned p (n + 1)) (Ok tt)
  one_more p n before one =
      subst (λ ds. Performs {T = Unit {0}} R a d p.jid ds (Ok tt)) (sym (returned_next p n))
      (performs_then P Q R a b d more {S = Unit {0}} {T = Unit {0}} p.jid (returned p n) (returned_one p n) tt (Ok tt) before
      (performs_as {T = Outcome} {U = Unit {0}} Q b d p.jid (returned_one p n) outcome.Returned tt one))

  -- an item that raised, behind the items so far
  pub one_raised : (c : Call) (n : ℕ) (it : WorkerRaised) → c.cursor + n < c.bounds.len → n < c.bounds.most → Performs {T = Unit {0}} P a b c.jid.now (returned (pace_of c) n) (Ok tt) →
      RunsItem Q b d (pace_of c) n (Ok (outcome.Raised it)) → RunsItems R a d c (Ok (record { returned = n; end = Raised (c.cursor + n) it }))
  one_raised c n it below few before one =
      let end : IterEnd = Raised (c.cursor + n) it in
      let stop : Stop = record { returned = n; end = end } in (
        (refl, below, few),
        performs_then P Q R a b d more {S = Unit {0}} {T = Stop} c.jid.now (returned (pace_of c) n) (raised_at (pace_of c) n end) tt (Ok stop) before
            (performs_as {T = Outcome} {U = Stop} Q b d c.jid.now (raised_at (pace_of c) n end) (outcome.Raised it) stop one),
      )

  -- The item behind `n` others was broken off: so was the call.
  pub breaks_item : (c : Call) (n : ℕ) (f : IterFault) → c.cursor ≤ c.bounds.len → n < min c.bounds.most (c.bounds.len - c.cursor) →
      Performs {T = Unit {0}} P a b c.jid.now (returned (pace_of c) n) (Ok tt) → RunsItem Q b d (pace_of c) n (Err f) → BreaksOff R a d c f
  breaks_item c n f within below before broken =
      let p : Pace = pace_of c in
      let last : ℕ = min c.bounds.most (c.bounds.len - c.cursor) in
      let stop = end_at c.bounds c.cursor within in
      let rest = returned_front p (n + 1) (last - (n + 1)) in
      let all : returned p (n + 1) ++ rest.0 ≡ returned p last = rest.1 ∙ ap (returned p) (sum_is (n + 1) last (omega arith)) in
      let tail = raised_at p last stop.0 in
      let save = save_if (not (is_saved p.every last)) p.jid (p.cursor + last) in
      let upto : Performs {T = Outcome} R a d c.jid.now (returned p n ++ returned_one p n) (Err f) =
      performs_then P Q R a b d more {S = Unit {0}} {T = Outcome} c.jid.now (returned p n) (returned_one p n) tt (Err f) before broken in
      let is : (returned p n ++ returned_one p n) ++ (rest.0 ++ (tail ++ save)) ≡ whole p last stop.0 =
      ap (λ ds. ds ++ (rest.0 ++ (tail ++ save))) (sym (returned_next p n)) ∙ regroup (returned p (n + 1)) rest.0 tail save ∙ ap (λ ds. (ds ++ tail) ++ save) all in (
        last,
        stop.0,
        stop.1,
        subst (λ ds. Performs {T = IterEnd} R a d c.jid.now ds (Err f)) is
            (performs_before Outcome IterEnd R a d c.jid.now (returned p n ++ returned_one p n) (rest.0 ++ (tail ++ save)) f upto),
      )

  -- the items ran, and what came of the last save
  pub went : (c : Call) (stop : Stop) (result : Result IterEnd IterFault) → RunsItems P a b c (Ok stop) → IfOk result (λ end. end ≡ stop.end) →
      Performs {T = IterEnd} Q b d c.jid.now (save_if (not (is_saved c.bounds.every stop.returned)) c.jid.now (c.cursor + stop.returned)) result → Goes R a d c result
  went c stop (Ok end) items is saved = (
    stop.returned,
    subst (StopsAt c.bounds c.cursor stop.returned) (sym is) items.0,
    subst (λ e. Performs {T = IterEnd} R a d c.jid.now (whole (pace_of c) stop.returned e) (Ok end)) (sym is)
        (performs_then P Q R a b d more {S = Stop} {T = IterEnd} c.jid.now (returned (pace_of c) stop.returned ++ raised_at (pace_of c) stop.returned stop.end)
        (save_if (not (is_saved c.bounds.every stop.returned)) c.jid.now (c.cursor + stop.returned)) stop (Ok end) items.1 saved),
  )
  went c stop (Err f) items is saved = (
    stop.returned,
    stop.end,
    items.0,
    performs_then P Q R a b d more {S = Stop} {T = IterEnd} c.jid.now (returned (pace_of c) stop.returned ++ raised_at (pace_of c) stop.returned stop.end)
        (save_if (not (is_saved c.bounds.every stop.returned)) c.jid.now (c.cursor + stop.returned)) stop (Err f) items.1 saved,
  )
