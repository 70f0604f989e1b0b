-- Jobs that end in one way leave the same behind, in whatever order they end.
use Rattle.std.proofs.Common.{◌≡◌, ◌+◌, ◌||◌, ℕ, Bool, true, false, not, List, [], ◌∷◌, Option, Some, None, length, refl, sym, arith, ap, ap₂, subst, ◌∙◌}
use Rattle.std.specs.BTreeMap.{is_at}
use Rattle.std.specs.List.{filter}
use Rattle.sk_resp.specs.Spelling.{Bytes}
use Rattle.sk_resp.specs.WordOrder.{text_cmp}
use Rattle.sk_payload.specs.Head.{jid_of}
use Rattle.sk_places.specs.declared.ending.Ending.{Ending}
use Rattle.sk_places.specs.declared.ending.Ending.TheVariants.{Returned, Discarded, Deleted, Trimmed, Muddled}
use Rattle.sk_places.specs.declared.row.Row.{Row}
use Rattle.sk_places.specs.declared.totals.Totals.{Totals}
use Rattle.sk_places.specs.Ends.{texts_of}
use Rattle.sk_places.specs.LiveJobs.{Lived, all_ended, ended, is_among, one_if, over, was_live, without_jid}
use Rattle.sk_places.specs.Totals.{count_end}
use Rattle.sk_places.proofs.Indexed.{itself, same_word}

-- ## Two jobs

remove_swap : (a b : Bytes) (live : List Bytes) → without_jid a (without_jid b live) ≡ without_jid b (without_jid a live)
remove_swap a b [] = refl
remove_swap a b (x ∷ live) = cases (is_at (text_cmp a) x) (is_at (text_cmp b) x) refl refl (remove_swap a b live)
  where
    cases : (u v : Bool) → is_at (text_cmp a) x ≡ u → is_at (text_cmp b) x ≡ v → without_jid a (without_jid b live) ≡ without_jid b (without_jid a live) → without_jid a (without_jid b (x ∷ live)) ≡ without_jid b (without_jid a (x ∷ live))
    cases true true e f again = let same : a ≡ b = same_word a x e ∙ sym (same_word b x f) in subst (λ w. without_jid a (without_jid w (x ∷ live)) ≡ without_jid w (without_jid a (x ∷ live))) same refl
    cases true false e f again = grind (arith, e, f)
    cases false true e f again = grind (arith, e, f)
    cases false false e f again = grind (arith, e, f, again)

-- another job than this one
apart : (a b : Bytes) → is_at (text_cmp a) b ≡ false → is_at (text_cmp b) a ≡ false
apart a b h = cases (is_at (text_cmp b) a) refl
  where
    cases : (u : Bool) → is_at (text_cmp b) a ≡ u → is_at (text_cmp b) a ≡ false
    cases true e = let same = ap (λ w. is_at (text_cmp a) w) (same_word b a e) in let own = itself a in absurd (cc (same, own, h))
    cases false e = e

among_others : (a b : Bytes) (live : List Bytes) → is_at (text_cmp a) b ≡ false → is_among a (without_jid b live) ≡ is_among a live
among_others a b [] h = refl
among_others a b (x ∷ live) h = cases (is_at (text_cmp b) x) refl (among_others a b live h)
  where
    cases : (u : Bool) → is_at (text_cmp b) x ≡ u → is_among a (without_jid b live) ≡ is_among a live → is_among a (without_jid b (x ∷ live)) ≡ is_among a (x ∷ live)
    cases true e again = let same = ap (λ w. is_at (text_cmp a) w) (same_word b x e) in grind (arith, e, same, h)
    cases false e again = grind (arith, e, again)

count_swap : (how : Ending) (m n : ℕ) (t : Totals) → count_end how m (count_end how n t) ≡ count_end how n (count_end how m t)
count_swap Returned m n t = ap {B = Totals} (λ k. record t { returned = k }) (omega arith)
count_swap Discarded m n t = ap {B = Totals} (λ k. record t { discarded = k }) (omega arith)
count_swap Deleted m n t = ap {B = Totals} (λ k. record t { deleted = k }) (omega arith)
count_swap Trimmed m n t = ap {B = Totals} (λ k. record t { trimmed = k }) (omega arith)
count_swap Muddled m n t = ap {B = Totals} (λ k. record t { muddled = k }) (omega arith)

abbrev ended_job : Ending → Option Bytes → Lived → Lived
ended_job how jid l = record { live = over jid l.live; totals = count_end how (one_if (was_live jid l.live)) l.totals }

jobs_swap : (how : Ending) (a b : Option Bytes) (l : Lived) → ended_job how a (ended_job how b l) ≡ ended_job how b (ended_job how a l)
jobs_swap how None None l = refl
jobs_swap how None (Some b) l = ap {B = Lived} (λ totals. record { live = without_jid b l.live; totals = totals }) (count_swap how 0 (one_if (is_among b l.live)) l.totals)
jobs_swap how (Some a) None l = ap {B = Lived} (λ totals. record { live = without_jid a l.live; totals = totals }) (count_swap how (one_if (is_among a l.live)) 0 l.totals)
jobs_swap how (Some a) (Some b) l = cases (is_at (text_cmp a) b) refl
  where
    cases : (u : Bool) → is_at (text_cmp a) b ≡ u → ended_job how (Some a) (ended_job how (Some b) l) ≡ ended_job how (Some b) (ended_job how (Some a) l)
    cases true e = ap (λ w. ended_job how (Some w) (ended_job how (Some b) l)) (same_word a b e) ∙ ap (λ w. ended_job how (Some b) (ended_job how (Some w) l)) (sym (same_word a b e))
    cases false e =
        let one = ap (λ u. count_end how (one_if u) (count_end how (one_if (is_among b l.live)) l.totals)) (among_others a b l.live e) in
        let other = ap (λ u. count_end how (one_if u) (count_end how (one_if (is_among a l.live)) l.totals)) (among_others b a l.live (apart a b e)) in
        ap₂ {C = Lived} (λ live totals. record { live = live; totals = totals }) (remove_swap a b l.live) (one ∙ count_swap how (one_if (is_among a l.live)) (one_if (is_among b l.live)) l.totals ∙ sym other)

-- ## Many jobs

ended_later : (how : Ending) (text : Bytes) (texts : List Bytes) (l : Lived) → all_ended how texts (ended how text l) ≡ ended how text (all_ended how texts l)
ended_later how text [] l = refl
ended_later how text (first ∷ texts) l = ap (all_ended how texts) (jobs_swap how (jid_of first) (jid_of text) l) ∙ ended_later how text texts (ended how first l)

-- Rows that pass one of two tests: those that pass the one go first, and of the others those that pass the second.
module _ (t u v : Row → Bool) (both : (row : Row) → v row ≡ t row || u row) where
  pub rest_in_two : (rows : List Row) → filter (λ row. not (u row)) (filter (λ row. not (t row)) rows) ≡ filter (λ row. not (v row)) rows
  rest_in_two [] = refl
  rest_in_two (x ∷ rows) = grind (arith, both x, rest_in_two rows)

  pub count_in_two : (rows : List Row) → length (filter t rows) + length (filter u (filter (λ row. not (t row)) rows)) ≡ length (filter v rows)
  count_in_two [] = refl
  count_in_two (x ∷ rows) = grind (arith, both x, count_in_two rows)

  pub ended_in_two : (how : Ending) (rows : List Row) (l : Lived) → all_ended how (texts_of (filter u (filter (λ row. not (t row)) rows))) (all_ended how (texts_of (filter t rows)) l) ≡ all_ended how (texts_of (filter v rows)) l
  ended_in_two how [] l = refl
  ended_in_two how (x ∷ rows) l = cases (t x) (u x) refl refl (ended_in_two how rows)
    where
      cases : (a b : Bool) → t x ≡ a → u x ≡ b → ((l : Lived) → all_ended how (texts_of (filter u (filter (λ row. not (t row)) rows))) (all_ended how (texts_of (filter t rows)) l) ≡ all_ended how (texts_of (filter v rows)) l)
          → all_ended how (texts_of (filter u (filter (λ row. not (t row)) (x ∷ rows)))) (all_ended how (texts_of (filter t (x ∷ rows))) l) ≡ all_ended how (texts_of (filter v (x ∷ rows))) l
      cases true b e f again =
          let first : texts_of (filter t (x ∷ rows)) ≡ x.text ∷ texts_of (filter t rows) = grind (arith, e) in
          let second : texts_of (filter u (filter (λ row. not (t row)) (x ∷ rows))) ≡ texts_of (filter u (filter (λ row. not (t row)) rows)) = grind (arith, e) in
          let whole : texts_of (filter v (x ∷ rows)) ≡ x.text ∷ texts_of (filter v rows) = grind (arith, e, both x) in
          ap₂ (λ late soon. all_ended how late (all_ended how soon l)) second first ∙ again (ended how x.text l) ∙ ap (λ texts. all_ended how texts l) (sym whole)
      cases false true e f again =
          let first : texts_of (filter t (x ∷ rows)) ≡ texts_of (filter t rows) = grind (arith, e) in
          let second : texts_of (filter u (filter (λ row. not (t row)) (x ∷ rows))) ≡ x.text ∷ texts_of (filter u (filter (λ row. not (t row)) rows)) = grind (arith, e, f) in
          let whole : texts_of (filter v (x ∷ rows)) ≡ x.text ∷ texts_of (filter v rows) = grind (arith, e, f, both x) in
          ap₂ (λ late soon. all_ended how late (all_ended how soon l)) second first
          ∙ ap (all_ended how (texts_of (filter u (filter (λ row. not (t row)) rows)))) (sym (ended_later how x.text (texts_of (filter t rows)) l))
          ∙ again (ended how x.text l)
          ∙ ap (λ texts. all_ended how texts l) (sym whole)
      cases false false e f again =
          let first : texts_of (filter t (x ∷ rows)) ≡ texts_of (filter t rows) = grind (arith, e) in
          let second : texts_of (filter u (filter (λ row. not (t row)) (x ∷ rows))) ≡ texts_of (filter u (filter (λ row. not (t row)) rows)) = grind (arith, e, f) in
          let whole : texts_of (filter v (x ∷ rows)) ≡ texts_of (filter v rows) = grind (arith, e, f, both x) in
          ap₂ (λ late soon. all_ended how late (all_ended how soon l)) second first ∙ again l ∙ ap (λ texts. all_ended how texts l) (sym whole)
