-- Jobs that are buried.
use Rattle.std.proofs.Common.{◌≡◌, ℤ, Bool, false, List, [], ◌∷◌, ◌++◌, refl, sym, ap, subst, ◌∙◌}
use Rattle.std.specs.Prelude.{Option, Some, None}
use Rattle.std.specs.Ordering.{is_eq}
use Rattle.sk_resp.specs.Spelling.{Bytes}
use Rattle.sk_cmd.specs.declared.argument.Scored.TheVariants.{Dead}
use Rattle.sk_cmd.specs.declared.argument.Side.TheVariants.{Left}
use Rattle.sk_batch.specs.declared.event.Event.TheVariants.{Died}
use Rattle.sk_batch.specs.declared.member.Member.{Member}
use Rattle.sk_places.specs.declared.row.Place.{Place}
use Rattle.sk_places.specs.declared.row.Place.TheVariants.{Set}
use Rattle.sk_places.specs.declared.row.Row.{Row}
use Rattle.sk_places.specs.Placed.{Placed, carried, moved_if, moved_to, without_if}
use Rattle.sk_places.specs.Rows.{is_at, place_cmp, row_of, rows_at, take_row}
use Rattle.sk_model.specs.World.{World}
use Rattle.sk_model.specs.Change.{Carry, Change, Moves, perform}
use Rattle.sk_model.specs.Jobs.{buried_by, merge, moment_score, put_dead, surplus}
use Rattle.sk_model.specs.Notify.{Notified, fired_texts, notify}
use Rattle.sk_model.proofs.Changes.Lawful.{perform-append}
use Rattle.sk_jobs.specs.declared.report.Report.{Report}
use Rattle.sk_jobs.specs.Callbacks.{IsNotified, member_of, notify_member}
use Rattle.sk_jobs.specs.Routing.{IsAside, IsRouted, dead_rows, rows_in, texts_of, trims}
use Rattle.sk_jobs.proofs.Calling.{notify_is}
use Rattle.sk_jobs.proofs.Fronts.{elsewhere, fails_at, front_taken, other_put, other_taken, place_of_row, text_of_row}

-- the world with these rows and names, and the jobs that are live
abbrev pub placed_in : World → Placed → World
placed_in w p = record w { rows = p.rows; names = p.names; live = p.jobs.live; tally = p.jobs.totals }

-- the row goes to the dead set, and one of its text there becomes one with it
pub put_dead_is : (w : World) (from : Place) (text : Bytes) (row : Row) (p mid new : Placed) (score : ℤ) → is_eq (place_cmp (Set Dead) from) ≡ false → row_of text (rows_at from p.rows) ≡ Some row → score ≡ moment_score (placed_in w p)
    → mid ≡ without_if Left (row_of text (rows_at (Set Dead) p.rows)) p → new ≡ moved_if Left (row_of text (rows_at from mid.rows)) (Set Dead) score Left mid
    → placed_in w new ≡ perform (placed_in w p) (put_dead (placed_in w p) row)
put_dead_is w from text row p mid new score apart there scored e f =
    by_found (row_of text (rows_at (Set Dead) p.rows)) refl e
    ∙ ap (λ t. perform (placed_in w p) (merge (row_of t (rows_at (Set Dead) p.rows)) ++ carry)) (text_of_row text row (rows_at from p.rows) there) where
      carry : List Change
      carry = Moves (Carry row Left (Set Dead) (moment_score (placed_in w p)) Left) ∷ []

      goes : rows_at from mid.rows ≡ rows_at from p.rows → new ≡ moved_to Left row (Set Dead) (moment_score (placed_in w p)) Left mid
      goes same = f ∙ ap (λ own. moved_if Left (row_of text own) (Set Dead) score Left mid) same ∙ ap (λ o. moved_if Left o (Set Dead) score Left mid) there ∙ ap (λ s. moved_to Left row (Set Dead) s Left mid) scored

      by_found : (o : Option Row) → row_of text (rows_at (Set Dead) p.rows) ≡ o → mid ≡ without_if Left o p → placed_in w new ≡ perform (placed_in w p) (merge o ++ carry)
      by_found None g h = ap (placed_in w) (goes (ap (λ (q : Placed). rows_at from q.rows) h) ∙ ap (moved_to Left row (Set Dead) (moment_score (placed_in w p)) Left) h)
      by_found (Some dead) g h =
          let away = elsewhere (Set Dead) from dead (place_of_row text dead (Set Dead) p.rows g) apart in
          let same = ap (λ (q : Placed). rows_at from q.rows) h ∙ other_taken (is_at from) dead p.rows away in
          ap (placed_in w) (goes same ∙ ap (moved_to Left row (Set Dead) (moment_score (placed_in w p)) Left) h)

-- ## The rows that are left

-- a row went to the dead set from where it was in front of those that pass
pub put_dead_left : (test : Place → Bool) (from : Place) (text : Bytes) (row : Row) (more : List Row) (p mid new : Placed) (score : ℤ) → IsAside test → is_eq (place_cmp (Set Dead) from) ≡ false → row_of text (rows_at from p.rows) ≡ Some row → rows_in test p.rows ≡ row ∷ more
    → mid ≡ without_if Left (row_of text (rows_at (Set Dead) p.rows)) p → new ≡ moved_if Left (row_of text (rows_at from mid.rows)) (Set Dead) score Left mid
    → rows_in test new.rows ≡ more
put_dead_left test from text row more p mid new score aside apart there front e f = by_found (row_of text (rows_at (Set Dead) p.rows)) refl e where
  -- the row goes from the rows of `mid`, of which those that pass are the same
  goes : rows_at from mid.rows ≡ rows_at from p.rows → rows_in test mid.rows ≡ rows_in test p.rows → rows_in test new.rows ≡ more
  goes same passing =
      ap (λ (q : Placed). rows_in test q.rows) (f ∙ ap (λ own. moved_if Left (row_of text own) (Set Dead) score Left mid) same ∙ ap (λ o. moved_if Left o (Set Dead) score Left mid) there)
      ∙ other_put (λ r. test r.place) Left (carried row (Set Dead) score) (take_row Left row mid.rows) aside.dead
      ∙ front_taken (λ r. test r.place) row more mid.rows (passing ∙ front)

  by_found : (o : Option Row) → row_of text (rows_at (Set Dead) p.rows) ≡ o → mid ≡ without_if Left o p → rows_in test new.rows ≡ more
  by_found None g h = goes (ap (λ (q : Placed). rows_at from q.rows) h) (ap (λ (q : Placed). rows_in test q.rows) h)
  by_found (Some dead) g h =
      let here = place_of_row text dead (Set Dead) p.rows g in
      goes (ap (λ (q : Placed). rows_at from q.rows) h ∙ other_taken (is_at from) dead p.rows (elsewhere (Set Dead) from dead here apart))
      (ap (λ (q : Placed). rows_in test q.rows) h ∙ other_taken (λ r. test r.place) dead p.rows (fails_at test (Set Dead) dead aside.dead here))

-- ## The dead set's surplus

-- what the dead set of a world drops
abbrev pub surplus_of : World → List Row
surplus_of u = surplus u (dead_rows u)

-- The surplus went, and then the batch was told.
pub buried_is : (u mid new : World) (text : Bytes) (member : Option Member) (report : Report) → mid ≡ perform u (trims (surplus_of u)) → member ≡ member_of text → IsNotified mid new report.fired.items (notify_member Died mid member)
    → report.moved ≡ 0 → report.buried ≡ 1 → report.trimmed.items ≡ texts_of (surplus_of u) → IsRouted u new report (buried_by u text [])
buried_is u mid new text member report gone same told none one texts =
    let after : World = perform u (trims (surplus_of u)) in
    let was : notify_member Died mid member ≡ notify Died after text = ap (notify_member Died mid) same ∙ notify_is Died mid text ∙ ap (λ x. notify Died x text) gone in
    record {
      moved = none;
      buried = one;
      fired = told.fired ∙ ap (λ (t : Notified). fired_texts t.firings) was;
      trimmed = texts;
      world = told.world ∙ ap (λ (t : Notified). perform mid t.changes) was ∙ ap (λ x. perform x (notify Died after text).changes) gone ∙ sym (perform-append u (trims (surplus_of u)) (notify Died after text).changes);
    }

-- The same once something was put into the dead set.
pub buried_after : (v u new : World) (put : List Change) (text : Bytes) (report : Report) → u ≡ perform v put → IsRouted u new report (buried_by u text []) → IsRouted v new report (buried_by v text put)
buried_after v u new put text report e sent =
    let begun : World = perform v put in
    let s : IsRouted begun new report (buried_by begun text []) = subst (λ x. IsRouted x new report (buried_by x text [])) e sent in
    let gone : List Change = trims (surplus_of begun) in
    let same : perform begun gone ≡ perform v (put ++ gone) = sym (perform-append v put gone) in
    record {
      moved = s.moved;
      buried = s.buried;
      fired = s.fired ∙ ap (λ x. fired_texts (notify Died x text).firings) same;
      trimmed = s.trimmed;
      world = s.world ∙ perform-append begun gone (notify Died (perform begun gone) text).changes
          ∙ ap (λ x. perform x (notify Died x text).changes) same ∙ sym (perform-append v (put ++ gone) (notify Died (perform v (put ++ gone)) text).changes);
    }
