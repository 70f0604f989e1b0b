-- UndoDeques as lists: what an edit of a deque is to its list.
use Rattle.std.proofs.Common.{◌≡◌, ap₂, Bool, true, false, cond, ℕ, zero, suc, List, [], ◌∷◌, Option, Some, None, length, ◌<◌, refl, sym, arith, ap, slice_get, slice_set, ◌∙◌}
use Rattle.sk_deques.specs.Deque.{Deque, cut_at, put_at}
use Rattle.sk_deques.specs.DequeMoves.{changed_at, emptied, list_at, with_item, without_item, with_moved, moved, IsMove, lists_of, spaces_of, items_at, put_down, carried, IsCarry}
use Rattle.sk_deques.specs.DequeEdits.{before}
use Rattle.sk_deques.specs.UndoDeques.{shown}
use Rattle.sk_undo.specs.Versions.{edited}
use Rattle.sk_deques.specs.declared.deque_edit.DequeEdit.{DequeEdit}

module _ {T : Type 0} where
  pub length_lists : (xs : List (Deque T)) → length (lists_of xs) ≡ length xs
  length_lists [] = refl
  length_lists (l ∷ xs) = ap suc (length_lists xs)

  pub lists_put : (xs : List (Deque T)) (n i : ℕ) (x : T) → lists_of (changed_at n (put_at i x) xs) ≡ with_item n i x (lists_of xs)
  lists_put [] n i x = refl
  lists_put (l ∷ xs) zero i x = refl
  lists_put (l ∷ xs) (suc n) i x = ap (λ ls. l.items ∷ ls) (lists_put xs n i x)

  pub lists_cut : (xs : List (Deque T)) (n i : ℕ) → lists_of (changed_at n (cut_at i) xs) ≡ without_item n i (lists_of xs)
  lists_cut [] n i = refl
  lists_cut (l ∷ xs) zero i = refl
  lists_cut (l ∷ xs) (suc n) i = ap (λ ls. l.items ∷ ls) (lists_cut xs n i)

  pub spaces_put : (xs : List (Deque T)) (n i : ℕ) (x : T) → spaces_of (changed_at n (put_at i x) xs) ≡ spaces_of xs
  spaces_put [] n i x = refl
  spaces_put (l ∷ xs) zero i x = refl
  spaces_put (l ∷ xs) (suc n) i x = ap (λ ns. l.space ∷ ns) (spaces_put xs n i x)

  pub spaces_cut : (xs : List (Deque T)) (n i : ℕ) → spaces_of (changed_at n (cut_at i) xs) ≡ spaces_of xs
  spaces_cut [] n i = refl
  spaces_cut (l ∷ xs) zero i = refl
  spaces_cut (l ∷ xs) (suc n) i = ap (λ ns. l.space ∷ ns) (spaces_cut xs n i)

  pub is_carry : (xs : List (Deque T)) (from i to j : ℕ) → IsMove from i to j (lists_of xs) (spaces_of xs) → IsCarry from i to j xs
  is_carry xs from i to j m =
      let same = ap (λ ls. length (list_at to ls)) (lists_cut xs from i) in
      record {
        out = omega (arith, length_lists xs, m.out);
        onto = omega (arith, length_lists xs, m.onto);
        item = m.item;
        place = omega (arith, same, m.place);
        room = omega (arith, same, m.room);
      }

  -- a deque without items in the place of one
  pub lists_emptied : (xs : List (Deque T)) (n : ℕ) (w : Deque T) → w.items ≡ [] → lists_of (slice_set xs n w) ≡ emptied n (lists_of xs)
  lists_emptied [] n w i = refl
  lists_emptied (l ∷ xs) zero w i = ap (λ its. its ∷ lists_of xs) i
  lists_emptied (l ∷ xs) (suc n) w i = ap (λ ls. l.items ∷ ls) (lists_emptied xs n w i)

  -- the same of one that has none either
  pub lists_same : (xs : List (Deque T)) (n : ℕ) (w : Deque T) → n < length xs → items_at n xs ≡ [] → w.items ≡ [] → lists_of (slice_set xs n w) ≡ lists_of xs
  lists_same [] n w h e i = absurd (omega (arith, h))
  lists_same (l ∷ xs) zero w h e i = ap (λ its. its ∷ lists_of xs) (i ∙ sym e)
  lists_same (l ∷ xs) (suc n) w h e i = ap (λ ls. l.items ∷ ls) (lists_same xs n w (omega (arith, h)) e i)

module _ {K T : Type 0} where
  lists_put_down : (o : Option (K × T)) (to j : ℕ) (tag : K) (xs : List (Deque (K × T))) → lists_of (put_down o to j tag xs) ≡ with_moved o to j tag (lists_of xs)
  lists_put_down None to j tag xs = refl
  lists_put_down (Some e) to j tag xs = lists_put xs to j (tag, e.1)

  spaces_put_down : (o : Option (K × T)) (to j : ℕ) (tag : K) (xs : List (Deque (K × T))) → spaces_of (put_down o to j tag xs) ≡ spaces_of xs
  spaces_put_down None to j tag xs = refl
  spaces_put_down (Some e) to j tag xs = spaces_put xs to j (tag, e.1)

  pub lists_carried : (xs : List (Deque (K × T))) (from i to j : ℕ) (tag : K) → lists_of (carried from i to j tag xs) ≡ moved from i to j tag (lists_of xs)
  lists_carried xs from i to j tag = lists_put_down (slice_get (items_at from xs) i) to j tag (changed_at from (cut_at i) xs) ∙ ap (with_moved (slice_get (items_at from xs) i) to j tag) (lists_cut xs from i)

  pub spaces_carried : (xs : List (Deque (K × T))) (from i to j : ℕ) (tag : K) → spaces_of (carried from i to j tag xs) ≡ spaces_of xs
  spaces_carried xs from i to j tag = spaces_put_down (slice_get (items_at from xs) i) to j tag (changed_at from (cut_at i) xs) ∙ spaces_cut xs from i

-- ## What contracts see after an edit

module _ {K T : Type 0} where
  -- of an open step, whose log leads back to what it led back to
  pub shown_open : (b : Bool) (es fs : List (DequeEdit K T)) (xs ys : List (Deque (K × T))) (ls : List (List (K × T))) → before fs ys ≡ before es xs → lists_of ys ≡ ls → shown b fs ys ≡ edited ls (shown b es xs)
  shown_open b es fs xs ys ls back is = ap₂ (λ s l. record { current = s; saved = cond b (Some (lists_of l)) None }) is back

  -- where no step is open
  pub shown_closed : (b : Bool) (es : List (DequeEdit K T)) (xs ys : List (Deque (K × T))) (ls : List (List (K × T))) → b ≡ false → lists_of ys ≡ ls → shown b es ys ≡ edited ls (shown b es xs)
  shown_closed true es xs ys ls h is = absurd (grind (arith, h))
  shown_closed false es xs ys ls h is = ap (λ s. record { current = s; saved = None }) is
