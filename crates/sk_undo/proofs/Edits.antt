-- What a further edit does to what stood, and to whether the log fits.
use Rattle.std.proofs.Common.{subst, ap₂, slice_get, Some, ◌≡◌, ℕ, zero, suc, ◌<◌, ◌≤◌, List, [], ◌∷◌, ◌++◌, length, refl, sym, arith, ap, get_or, ◌∙◌, Bool, true, option_map}
use Rattle.std.specs.List.{insert, remove}
use Rattle.sk_undo.specs.declared.edit.Edit.{Edit}
use Rattle.sk_undo.specs.declared.sequence.Spare.{Spare}
use Rattle.sk_undo.specs.declared.edit.Edit.TheVariants.{Put, Taken, Moved}
use Rattle.sk_undo.specs.Edits.{taken_back, before, Fits, AllFit, IsSound}
use Rattle.sk_undo.specs.Moves.{put_down, moved}
use Rattle.sk_undo.specs.Balance.{most}
use Rattle.std.proofs.lemmas.List.Edits.{length-insert, length-remove}

-- the entry that was moved is the one that is moved back
module _ {X : Type 0} where
  pub remove_insert : (xs : List X) (i : ℕ) (x : X) → i ≤ length xs → remove (insert xs i x) i ≡ xs
  remove_insert xs zero x h = refl
  remove_insert [] (suc i) x h = absurd (omega (arith, h))
  remove_insert (y ∷ xs) (suc i) x h = ap (λ l. y ∷ l) (remove_insert xs i x (omega (arith, h)))

  pub insert_remove : (xs : List X) (i : ℕ) (d : X) → i < length xs → insert (remove xs i) i (get_or xs i d) ≡ xs
  insert_remove [] i d h = absurd (omega (arith, h))
  insert_remove (y ∷ xs) zero d h = refl
  insert_remove (y ∷ xs) (suc i) d h = ap (λ l. y ∷ l) (insert_remove xs i d (omega (arith, h)))

  pub get_insert : (xs : List X) (i : ℕ) (x : X) → i ≤ length xs → slice_get (insert xs i x) i ≡ Some x
  get_insert xs zero x h = refl
  get_insert [] (suc i) x h = absurd (omega (arith, h))
  get_insert (y ∷ xs) (suc i) x h = get_insert xs i x (omega (arith, h))

  pub get_at : (xs : List X) (i : ℕ) (x : X) → i < length xs → x ≡ get_or xs i x → slice_get xs i ≡ Some x
  get_at [] i x h e = absurd (omega (arith, h))
  get_at (y ∷ xs) zero x h e = ap Some (sym e)
  get_at (y ∷ xs) (suc i) x h e = get_at xs i x (omega (arith, h)) e

  same_taken : (xs : List X) (i : ℕ) (x : X) → i < length xs → x ≡ get_or xs i x → insert (remove xs i) i x ≡ xs
  same_taken xs i x h e = ap (insert (remove xs i) i) e ∙ insert_remove xs i x h

module _ {K T : Type 0} where
  pub before_push : (es : List (Edit K T)) (e : Edit K T) (xs : List (K × T)) → before (es ++ e ∷ []) xs ≡ before es (taken_back e xs)
  before_push [] e xs = refl
  before_push (f ∷ es) e xs = ap (taken_back f) (before_push es e xs)

  pub fit_push : (es : List (Edit K T)) (e : Edit K T) (xs : List (K × T)) → Fits e xs → AllFit es (taken_back e xs) → AllFit (es ++ e ∷ []) xs
  fit_push [] e xs f all = (f, tt)
  fit_push (g ∷ es) e xs f all = (subst (λ l. Fits g l) (sym (before_push es e xs)) all.0, fit_push es e xs f all.1)

  -- the newest edit of a log that fits
  pub fit_last : (es : List (Edit K T)) (e : Edit K T) (xs : List (K × T)) → AllFit (es ++ e ∷ []) xs → Fits e xs × AllFit es (taken_back e xs)
  fit_last [] e xs all = (all.0, tt)
  fit_last (g ∷ es) e xs all = let rest = fit_last es e xs all.1 in (rest.0, (subst (λ l. Fits g l) (before_push es e xs) all.0, rest.1))

  -- a put, and what it leaves of the log
  pub put_before : (es : List (Edit K T)) (xs : List (K × T)) (i : ℕ) (x : K × T) → i ≤ length xs → before (es ++ Put i ∷ []) (insert xs i x) ≡ before es xs
  put_before es xs i x h = before_push es (Put i) (insert xs i x) ∙ ap (before es) (remove_insert xs i x h)

  pub put_fit : (es : List (Edit K T)) (xs : List (K × T)) (i : ℕ) (x : K × T) → i ≤ length xs → AllFit es xs → AllFit (es ++ Put i ∷ []) (insert xs i x)
  put_fit es xs i x h all = fit_push es (Put i) (insert xs i x) (omega (arith, h, length-insert xs i x h)) (subst (AllFit es) (sym (remove_insert xs i x h)) all)

  pub taken_before : (es : List (Edit K T)) (xs : List (K × T)) (i : ℕ) (x : K × T) (spare : Spare (K × T)) → i < length xs → x ≡ get_or xs i x → before (es ++ Taken i x spare ∷ []) (remove xs i) ≡ before es xs
  taken_before es xs i x spare h e = before_push es (Taken i x spare) (remove xs i) ∙ ap (before es) (same_taken xs i x h e)

  pub taken_fit : (es : List (Edit K T)) (xs : List (K × T)) (i : ℕ) (x : K × T) (spare : Spare (K × T)) → i < length xs → x ≡ get_or xs i x → length xs ≤ most → AllFit es xs → AllFit (es ++ Taken i x spare ∷ []) (remove xs i)
  taken_fit es xs i x spare h e le all =
      let short = length-remove xs i h in
      fit_push es (Taken i x spare) (remove xs i) (omega (arith, h, short), omega (arith, le, short)) (subst (AllFit es) (sym (same_taken xs i x h e)) all)

  pub sound_put : (es : List (Edit K T)) (xs : List (K × T)) (i : ℕ) (x : K × T) (b : Bool) → b ≡ true → i ≤ length xs → IsSound es xs b → IsSound (es ++ Put i ∷ []) (insert xs i x) b
  sound_put es xs i x b t h s = record { fit = put_fit es xs i x h s.fit; idle = λ f. absurd (grind (arith, t, f)) }

  pub sound_taken : (es : List (Edit K T)) (xs : List (K × T)) (i : ℕ) (x : K × T) (spare : Spare (K × T)) (b : Bool) → b ≡ true → i < length xs → x ≡ get_or xs i x → length xs ≤ most → IsSound es xs b → IsSound (es ++ Taken i x spare ∷ []) (remove xs i) b
  sound_taken es xs i x spare b t h e le s = record { fit = taken_fit es xs i x spare h e le s.fit; idle = λ f. absurd (grind (arith, t, f)) }

  -- an entry that was moved, and is moved back
  pub moved_is : (xs : List (K × T)) (from to : ℕ) (tag : K) (e : K × T) → from < length xs → e ≡ get_or xs from e → moved from to tag xs ≡ insert (remove xs from) to (tag, e.1)
  moved_is xs from to tag e h is = ap (λ o. put_down o to tag (remove xs from)) (get_at xs from e h is)

  pub moved_back : (xs : List (K × T)) (from to : ℕ) (tag : K) (e : K × T) → from < length xs → to < length xs → e ≡ get_or xs from e → moved to from e.0 (insert (remove xs from) to (tag, e.1)) ≡ xs
  moved_back xs from to tag e h g is =
      let short = length-remove xs from h in
      let le : to ≤ length (remove xs from) = omega (arith, short, g) in
      ap₂ (λ o l. put_down o from e.0 l) (get_insert (remove xs from) to (tag, e.1) le) (remove_insert (remove xs from) to (tag, e.1) le) ∙ same_taken xs from e h is

  some_at : (xs : List (K × T)) (i : ℕ) → i < length xs → (e : K × T) × (slice_get xs i ≡ Some e) × (e ≡ get_or xs i e)
  some_at [] i h = absurd (omega (arith, h))
  some_at (x ∷ xs) zero h = (x, refl, refl)
  some_at (x ∷ xs) (suc i) h = some_at xs i (omega (arith, h))

  -- an entry that was moved and had this tag
  pub moved_there_and_back : (xs : List (K × T)) (from to : ℕ) (tag old : K) → from < length xs → to < length xs → option_map (λ e. e.0) (slice_get xs from) ≡ Some old → moved to from old (moved from to tag xs) ≡ xs
  moved_there_and_back xs from to tag old h g is =
      let there = some_at xs from h in
      let same : Some there.0.0 ≡ Some old = sym (ap (option_map (λ e. e.0)) there.1) ∙ is in
      let tags : there.0.0 ≡ old = cc same in
      subst (λ k. moved to from k (moved from to tag xs) ≡ xs) tags (ap (moved to from there.0.0) (moved_is xs from to tag there.0 h there.2) ∙ moved_back xs from to tag there.0 h g there.2)

  pub length-moved : (xs : List (K × T)) (from to : ℕ) (tag : K) → from < length xs → to < length xs → length (moved from to tag xs) ≡ length xs
  length-moved xs from to tag h g =
      let there = some_at xs from h in
      let short = length-remove xs from h in
      let long = length-insert (remove xs from) to (tag, there.0.1) (omega (arith, short, g)) in
      ap length (moved_is xs from to tag there.0 h there.2) ∙ omega (arith, short, long)

  pub moved_before : (es : List (Edit K T)) (xs : List (K × T)) (from to : ℕ) (tag old : K) → from < length xs → to < length xs → option_map (λ e. e.0) (slice_get xs from) ≡ Some old → before (es ++ Moved from to old ∷ []) (moved from to tag xs) ≡ before es xs
  moved_before es xs from to tag old h g is = before_push es (Moved from to old) (moved from to tag xs) ∙ ap (before es) (moved_there_and_back xs from to tag old h g is)

  pub sound_moved : (es : List (Edit K T)) (xs : List (K × T)) (from to : ℕ) (tag old : K) (b : Bool) → b ≡ true → from < length xs → to < length xs → option_map (λ e. e.0) (slice_get xs from) ≡ Some old → IsSound es xs b → IsSound (es ++ Moved from to old ∷ []) (moved from to tag xs) b
  sound_moved es xs from to tag old b t h g is s =
      let same = length-moved xs from to tag h g in
      record { fit = fit_push es (Moved from to old) (moved from to tag xs) (omega (arith, h, same), omega (arith, g, same)) (subst (AllFit es) (sym (moved_there_and_back xs from to tag old h g is)) s.fit); idle = λ f. absurd (grind (arith, t, f)) }
