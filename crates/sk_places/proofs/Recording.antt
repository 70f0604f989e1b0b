-- What is recorded of the jobs stays within the count of the rows that were pushed.
use Rattle.std.proofs.Common.{◌≡◌, Bool, true, false, List, Some, option_map, refl, sym, ap, subst, ◌∙◌}
use Rattle.std.specs.Prelude.{IfSome}
use Rattle.sk_resp.specs.Spelling.{Bytes}
use Rattle.sk_undo.specs.Versions.{Versions, map_versions}
use Rattle.sk_table.specs.Counts.{Counts}
use Rattle.sk_places.specs.JobRecords.{count_named, live_in, live_with}
use Rattle.sk_places.specs.LiveJobs.{AreAccounted, IsAccounted, Lived, is_among, job_pushed, jobs_in, lived, one_if, without_jid}
use Rattle.sk_places.specs.Totals.{IsCountable, count_end, count_push}
use Rattle.sk_places.specs.declared.ending.Ending.{Ending}
use Rattle.sk_places.specs.declared.origin.Origin.{Origin}
use Rattle.sk_places.specs.declared.totals.Totals.{Totals}
use Rattle.sk_places.proofs.Accounts.{ended_accounted, pushed_accounted}

module _ (list new : Versions Counts) (totals after before : Totals) (jid : Bytes) (was : Bool) (saved : new.saved ≡ list.saved) (was_live : was ≡ is_among jid (live_in list.current)) (held : AreAccounted (jobs_in (map_versions live_in list) totals before)) where
  abbrev AreKept : Type 0
  AreKept = AreAccounted (jobs_in (map_versions live_in new) after before)

  by_current : (live : List Bytes) → live_in new.current ≡ live → IsAccounted (lived live after) → AreKept
  by_current live is kept = record {
    current = subst (λ l. IsAccounted (lived l after)) (sym is) kept;
    saved = subst (λ o. IfSome (option_map (λ l. lived l before) (option_map live_in o)) IsAccounted) (sym saved) held.saved;
  }

  -- where the job ends in this way, if it is live
  pub ended_kept : (how : Ending) (live : Bool) → live ≡ false → live_in new.current ≡ live_with live jid (live_in list.current) → after ≡ count_end how (one_if was) totals → AreKept
  ended_kept how live over is count =
      let kept = ended_accounted how (Some jid) (lived (live_in list.current) totals) held.current in
      let same : count_end how (one_if (is_among jid (live_in list.current))) totals ≡ after = ap (λ b. count_end how (one_if b) totals) (sym was_live) ∙ sym count in
      by_current (without_jid jid (live_in list.current)) (is ∙ ap (λ b. live_with b jid (live_in list.current)) over) (subst (λ t. IsAccounted (lived (without_jid jid (live_in list.current)) t)) same kept)

  -- where a row of the job is pushed
  pub pushed_kept : (from : Origin) (fresh live : Bool) → live ≡ fresh → live_in new.current ≡ live_with live jid (live_in list.current) → after ≡ count_named fresh was (count_push from totals) → IsCountable from totals → AreKept
  pushed_kept from fresh live so is count countable =
      let old : Lived = lived (live_in list.current) totals in
      let pushed = pushed_accounted from fresh (Some jid) old held.current countable in
      by_current (job_pushed from fresh (Some jid) old).live (is ∙ ap (λ b. live_with b jid (live_in list.current)) so ∙ with_jid fresh)
      (subst (λ t. IsAccounted (lived (job_pushed from fresh (Some jid) old).live t)) (ap (λ b. count_named fresh b (count_push from totals)) (sym was_live) ∙ sym count) pushed)
    where
      with_jid : (b : Bool) → live_with b jid (live_in list.current) ≡ (job_pushed from b (Some jid) (lived (live_in list.current) totals)).live
      with_jid true = refl
      with_jid false = refl
