-- UndoDeques with more memory, and one deque more: the log leads back to the same lists.
use Rattle.std.proofs.Common.{◌≡◌, Bool, true, false, cond, ℕ, zero, suc, ◌<◌, ◌≤◌, List, [], ◌∷◌, ◌++◌, Option, Some, None, length, refl, sym, arith, ap, ap₂, get_or, slice_get, slice_set, ◌∙◌, subst}
use Rattle.std.specs.List.{insert, remove}
use Rattle.sk_deques.specs.Deque.{Deque, cut_at, put_at}
use Rattle.sk_deques.specs.DequeMoves.{changed_at, with_list, list_at, lists_of, items_at, space_at, put_down, carried, IsCarry}
use Rattle.sk_deques.specs.DequeEdits.{taken_back, before, Fits, AllFit, IsSound}
use Rattle.sk_deques.specs.declared.deque_edit.DequeEdit.{DequeEdit}
use Rattle.sk_deques.specs.declared.deque_edit.DequeEdit.TheVariants.{Put, Taken, Moved}
use Rattle.sk_deques.specs.UndoDeques.{shown}
use Rattle.sk_deques.proofs.DequeMoving.{length_changed}

-- ## More memory

module _ {K T : Type 0} where
  -- the same items, and no less memory
  abbrev pub AreRoomier : List (Deque (K × T)) → List (Deque (K × T)) → Type 0
  AreRoomier [] [] = Unit {0}
  AreRoomier [] (y ∷ ys) = ⊥
  AreRoomier (x ∷ xs) [] = ⊥
  AreRoomier (x ∷ xs) (y ∷ ys) = (y.items ≡ x.items) × (x.space ≤ y.space) × AreRoomier xs ys

  roomier_same : (xs : List (Deque (K × T))) → AreRoomier xs xs
  roomier_same [] = tt
  roomier_same (x ∷ xs) = (refl, omega arith, roomier_same xs)

  pub roomier_set : (xs : List (Deque (K × T))) (n : ℕ) (l w : Deque (K × T)) → n < length xs → l ≡ get_or xs n l → w.items ≡ l.items → l.space ≤ w.space → AreRoomier xs (slice_set xs n w)
  roomier_set [] n l w h e i s = absurd (omega (arith, h))
  roomier_set (x ∷ xs) zero l w h e i s = (i ∙ ap (λ (k : Deque (K × T)). k.items) e, subst (λ (k : Deque (K × T)). k.space ≤ w.space) e s, roomier_same xs)
  roomier_set (x ∷ xs) (suc n) l w h e i s = (refl, omega arith, roomier_set xs n l w (omega (arith, h)) e i s)

  pub roomier_lists : (xs ys : List (Deque (K × T))) → AreRoomier xs ys → lists_of ys ≡ lists_of xs
  roomier_lists [] [] r = refl
  roomier_lists [] (y ∷ ys) r = absurd r
  roomier_lists (x ∷ xs) [] r = absurd r
  roomier_lists (x ∷ xs) (y ∷ ys) r = ap₂ (λ l ls. l ∷ ls) r.0 (roomier_lists xs ys r.2)

  pub roomier_spaces : (xs ys : List (Deque (K × T))) (n : ℕ) → AreRoomier xs ys → space_at n xs ≤ space_at n ys
  roomier_spaces [] [] n r = omega arith
  roomier_spaces [] (y ∷ ys) n r = absurd r
  roomier_spaces (x ∷ xs) [] n r = absurd r
  roomier_spaces (x ∷ xs) (y ∷ ys) zero r = r.1
  roomier_spaces (x ∷ xs) (y ∷ ys) (suc n) r = roomier_spaces xs ys n r.2

  roomier_length : (xs ys : List (Deque (K × T))) → AreRoomier xs ys → length ys ≡ length xs
  roomier_length [] [] r = refl
  roomier_length [] (y ∷ ys) r = absurd r
  roomier_length (x ∷ xs) [] r = absurd r
  roomier_length (x ∷ xs) (y ∷ ys) r = ap suc (roomier_length xs ys r.2)

  roomier_put : (xs ys : List (Deque (K × T))) (n i : ℕ) (z : K × T) → AreRoomier xs ys → AreRoomier (changed_at n (put_at i z) xs) (changed_at n (put_at i z) ys)
  roomier_put [] [] n i z r = tt
  roomier_put [] (y ∷ ys) n i z r = absurd r
  roomier_put (x ∷ xs) [] n i z r = absurd r
  roomier_put (x ∷ xs) (y ∷ ys) zero i z r = (ap (λ l. insert l i z) r.0, r.1, r.2)
  roomier_put (x ∷ xs) (y ∷ ys) (suc n) i z r = (r.0, r.1, roomier_put xs ys n i z r.2)

  roomier_cut : (xs ys : List (Deque (K × T))) (n i : ℕ) → AreRoomier xs ys → AreRoomier (changed_at n (cut_at i) xs) (changed_at n (cut_at i) ys)
  roomier_cut [] [] n i r = tt
  roomier_cut [] (y ∷ ys) n i r = absurd r
  roomier_cut (x ∷ xs) [] n i r = absurd r
  roomier_cut (x ∷ xs) (y ∷ ys) zero i r = (ap (λ l. remove l i) r.0, r.1, r.2)
  roomier_cut (x ∷ xs) (y ∷ ys) (suc n) i r = (r.0, r.1, roomier_cut xs ys n i r.2)

  roomier_put_down : (o : Option (K × T)) (xs ys : List (Deque (K × T))) (to j : ℕ) (tag : K) → AreRoomier xs ys → AreRoomier (put_down o to j tag xs) (put_down o to j tag ys)
  roomier_put_down None xs ys to j tag r = r
  roomier_put_down (Some z) xs ys to j tag r = roomier_put xs ys to j (tag, z.1) r

  roomier_carried : (xs ys : List (Deque (K × T))) (from i to j : ℕ) (tag : K) → AreRoomier xs ys → AreRoomier (carried from i to j tag xs) (carried from i to j tag ys)
  roomier_carried xs ys from i to j tag r =
      let same : slice_get (items_at from xs) i ≡ slice_get (items_at from ys) i = ap (λ ls. slice_get (list_at from ls) i) (sym (roomier_lists xs ys r)) in
      subst (λ o. AreRoomier (carried from i to j tag xs) (put_down o to j tag (changed_at from (cut_at i) ys))) same (roomier_put_down (slice_get (items_at from xs) i) (changed_at from (cut_at i) xs) (changed_at from (cut_at i) ys) to j tag (roomier_cut xs ys from i r))

  roomier_back : (e : DequeEdit K T) (xs ys : List (Deque (K × T))) → AreRoomier xs ys → AreRoomier (taken_back e xs) (taken_back e ys)
  roomier_back (Put n i) xs ys r = roomier_cut xs ys n i r
  roomier_back (Taken n i z) xs ys r = roomier_put xs ys n i z r
  roomier_back (Moved from i to j tag) xs ys r = roomier_carried xs ys to j from i tag r

  pub roomier_before : (es : List (DequeEdit K T)) (xs ys : List (Deque (K × T))) → AreRoomier xs ys → AreRoomier (before es xs) (before es ys)
  roomier_before [] xs ys r = r
  roomier_before (e ∷ es) xs ys r = roomier_back e (before es xs) (before es ys) (roomier_before es xs ys r)

  roomier_fits : (e : DequeEdit K T) (xs ys : List (Deque (K × T))) → AreRoomier xs ys → Fits e xs → Fits e ys
  roomier_fits (Put n i) xs ys r f =
      let long = roomier_length xs ys r in
      let same = ap (λ ls. length (list_at n ls)) (roomier_lists xs ys r) in
      (omega (arith, long, f.0), omega (arith, same, f.1))
  roomier_fits (Taken n i z) xs ys r f =
      let long = roomier_length xs ys r in
      let same = ap (λ ls. length (list_at n ls)) (roomier_lists xs ys r) in
      (omega (arith, long, f.0), omega (arith, same, f.1), omega (arith, same, f.2, roomier_spaces xs ys n r))
  roomier_fits (Moved from i to j tag) xs ys r f =
      let long = roomier_length xs ys r in
      let item = ap (λ ls. length (list_at to ls)) (roomier_lists xs ys r) in
      let same = ap (λ ls. length (list_at from ls)) (roomier_lists (changed_at to (cut_at j) xs) (changed_at to (cut_at j) ys) (roomier_cut xs ys to j r)) in
      record {
        out = omega (arith, long, f.out);
        onto = omega (arith, long, f.onto);
        item = omega (arith, item, f.item);
        place = omega (arith, same, f.place);
        room = omega (arith, same, f.room, roomier_spaces xs ys from r);
      }

  roomier_all : (es : List (DequeEdit K T)) (xs ys : List (Deque (K × T))) → AreRoomier xs ys → AllFit es xs → AllFit es ys
  roomier_all [] xs ys r all = tt
  roomier_all (e ∷ es) xs ys r all = (roomier_fits e (before es xs) (before es ys) (roomier_before es xs ys r) all.0, roomier_all es xs ys r all.1)

  pub roomier_sound : (es : List (DequeEdit K T)) (xs ys : List (Deque (K × T))) (b : Bool) → AreRoomier xs ys → IsSound es xs b → IsSound es ys b
  roomier_sound es xs ys b r s = record { fit = roomier_all es xs ys r s.fit; idle = s.idle }

-- ## One deque more

module _ {K T : Type 0} where
  changed_grown : (xs : List (Deque (K × T))) (l : Deque (K × T)) (n : ℕ) (f : Deque (K × T) → Deque (K × T)) → n < length xs → changed_at n f (xs ++ l ∷ []) ≡ changed_at n f xs ++ l ∷ []
  changed_grown [] l n f h = absurd (omega (arith, h))
  changed_grown (x ∷ xs) l zero f h = refl
  changed_grown (x ∷ xs) l (suc n) f h = ap (λ ls. x ∷ ls) (changed_grown xs l n f (omega (arith, h)))

  pub lists_grown : (xs : List (Deque (K × T))) (l : Deque (K × T)) → lists_of (xs ++ l ∷ []) ≡ lists_of xs ++ l.items ∷ []
  lists_grown [] l = refl
  lists_grown (x ∷ xs) l = ap (λ ls. x.items ∷ ls) (lists_grown xs l)

  items_grown : (xs : List (Deque (K × T))) (l : Deque (K × T)) (n : ℕ) → n < length xs → items_at n (xs ++ l ∷ []) ≡ items_at n xs
  items_grown [] l n h = absurd (omega (arith, h))
  items_grown (x ∷ xs) l zero h = refl
  items_grown (x ∷ xs) l (suc n) h = items_grown xs l n (omega (arith, h))

  space_grown : (xs : List (Deque (K × T))) (l : Deque (K × T)) (n : ℕ) → n < length xs → space_at n (xs ++ l ∷ []) ≡ space_at n xs
  space_grown [] l n h = absurd (omega (arith, h))
  space_grown (x ∷ xs) l zero h = refl
  space_grown (x ∷ xs) l (suc n) h = space_grown xs l n (omega (arith, h))

  length_grown : (xs : List (Deque (K × T))) (l : Deque (K × T)) → length (xs ++ l ∷ []) ≡ suc (length xs)
  length_grown [] l = refl
  length_grown (x ∷ xs) l = ap suc (length_grown xs l)

  put_down_grown : (o : Option (K × T)) (xs : List (Deque (K × T))) (l : Deque (K × T)) (to j : ℕ) (tag : K) → to < length xs → put_down o to j tag (xs ++ l ∷ []) ≡ put_down o to j tag xs ++ l ∷ []
  put_down_grown None xs l to j tag h = refl
  put_down_grown (Some z) xs l to j tag h = changed_grown xs l to (put_at j (tag, z.1)) h

  carried_grown : (xs : List (Deque (K × T))) (l : Deque (K × T)) (from i to j : ℕ) (tag : K) → IsCarry from i to j xs → carried from i to j tag (xs ++ l ∷ []) ≡ carried from i to j tag xs ++ l ∷ []
  carried_grown xs l from i to j tag c =
      let onto : to < length (changed_at from (cut_at i) xs) = omega (arith, c.onto, length_changed from (cut_at {T = K × T} i) xs) in
      ap₂ (λ its ls. put_down (slice_get its i) to j tag ls) (items_grown xs l from c.out) (changed_grown xs l from (cut_at i) c.out)
      ∙ put_down_grown (slice_get (items_at from xs) i) (changed_at from (cut_at i) xs) l to j tag onto

  back_grown : (e : DequeEdit K T) (xs : List (Deque (K × T))) (l : Deque (K × T)) → Fits e xs → taken_back e (xs ++ l ∷ []) ≡ taken_back e xs ++ l ∷ []
  back_grown (Put n i) xs l f = changed_grown xs l n (cut_at i) f.0
  back_grown (Taken n i z) xs l f = changed_grown xs l n (put_at i z) f.0
  back_grown (Moved from i to j tag) xs l f = carried_grown xs l to j from i tag f

  pub before_grown : (es : List (DequeEdit K T)) (xs : List (Deque (K × T))) (l : Deque (K × T)) → AllFit es xs → before es (xs ++ l ∷ []) ≡ before es xs ++ l ∷ []
  before_grown [] xs l all = refl
  before_grown (e ∷ es) xs l all = ap (taken_back e) (before_grown es xs l all.1) ∙ back_grown e (before es xs) l all.0

  fits_grown : (e : DequeEdit K T) (xs : List (Deque (K × T))) (l : Deque (K × T)) → Fits e xs → Fits e (xs ++ l ∷ [])
  fits_grown (Put n i) xs l f = (omega (arith, f.0, length_grown xs l), subst (λ its. i < length its) (sym (items_grown xs l n f.0)) f.1)
  fits_grown (Taken n i z) xs l f =
      let same = ap length (items_grown xs l n f.0) in
      (omega (arith, f.0, length_grown xs l), omega (arith, same, f.1), omega (arith, same, f.2, space_grown xs l n f.0))
  fits_grown (Moved from i to j tag) xs l f =
      let onto : from < length (changed_at to (cut_at j) xs) = omega (arith, f.onto, length_changed to (cut_at {T = K × T} j) xs) in
      let same = ap length (ap (items_at from) (changed_grown xs l to (cut_at j) f.out) ∙ items_grown (changed_at to (cut_at j) xs) l from onto) in
      record {
        out = omega (arith, f.out, length_grown xs l);
        onto = omega (arith, f.onto, length_grown xs l);
        item = subst (λ its. j < length its) (sym (items_grown xs l to f.out)) f.item;
        place = omega (arith, same, f.place);
        room = omega (arith, same, f.room, space_grown xs l from f.onto);
      }

  fit_grown : (es : List (DequeEdit K T)) (xs : List (Deque (K × T))) (l : Deque (K × T)) → AllFit es xs → AllFit es (xs ++ l ∷ [])
  fit_grown [] xs l all = tt
  fit_grown (e ∷ es) xs l all = (subst (Fits e) (sym (before_grown es xs l all.1)) (fits_grown e (before es xs) l all.0), fit_grown es xs l all.1)

  pub sound_grown : (es : List (DequeEdit K T)) (xs : List (Deque (K × T))) (l : Deque (K × T)) (b : Bool) → IsSound es xs b → IsSound es (xs ++ l ∷ []) b
  sound_grown es xs l b s = record { fit = fit_grown es xs l s.fit; idle = s.idle }

-- ## What contracts see then

module _ {K T : Type 0} where
  pub shown_roomier : (b : Bool) (es : List (DequeEdit K T)) (xs ys : List (Deque (K × T))) → AreRoomier xs ys → shown b es ys ≡ shown b es xs
  shown_roomier b es xs ys r = ap₂ (λ s t. record { current = s; saved = cond b (Some t) None }) (roomier_lists xs ys r) (roomier_lists (before es xs) (before es ys) (roomier_before es xs ys r))

  pub shown_grown : (b : Bool) (es : List (DequeEdit K T)) (xs : List (Deque (K × T))) (l : Deque (K × T)) → l.items ≡ [] → AllFit es xs → shown b es (xs ++ l ∷ []) ≡ with_list (shown b es xs)
  shown_grown true es xs l e all =
      ap₂ (λ s t. record { current = s; saved = Some t })
      (lists_grown xs l ∙ ap (λ i. lists_of xs ++ i ∷ []) e)
      (ap lists_of (before_grown es xs l all) ∙ lists_grown (before es xs) l ∙ ap (λ i. lists_of (before es xs) ++ i ∷ []) e)
  shown_grown false es xs l e all = ap (λ s. record { current = s; saved = None }) (lists_grown xs l ∙ ap (λ i. lists_of xs ++ i ∷ []) e)

  pub items_set : (xs : List (Deque (K × T))) (n : ℕ) (w : Deque (K × T)) → n < length xs → items_at n (slice_set xs n w) ≡ w.items
  items_set [] n w h = absurd (omega (arith, h))
  items_set (x ∷ xs) zero w h = refl
  items_set (x ∷ xs) (suc n) w h = items_set xs n w (omega (arith, h))

  pub space_set : (xs : List (Deque (K × T))) (n : ℕ) (w : Deque (K × T)) → n < length xs → space_at n (slice_set xs n w) ≡ w.space
  space_set [] n w h = absurd (omega (arith, h))
  space_set (x ∷ xs) zero w h = refl
  space_set (x ∷ xs) (suc n) w h = space_set xs n w (omega (arith, h))
