-- The lists of the three sets as one list of entries: where the entries of each stand, and what an edit of one list is to all entries.
use Rattle.std.proofs.Common.{◌≡◌, ◌+◌, ◌-◌, ◌<◌, ◌≤◌, ℕ, Bool, true, false, not, List, [], ◌∷◌, ◌++◌, filter, length, map, slice_index_or, refl, sym, arith, ap, ap₂, subst, subst₂, ◌∙◌}
use Rattle.std.specs.List.{insert, remove, position_or_len}
use Rattle.std.specs.Ordering.{is_eq, is_le}
use Rattle.std.proofs.lemmas.List.{append-nil}
use Rattle.std.proofs.lemmas.List.Edits.{insert-append_left, insert-append_right, remove-append_left, remove-append_right}
use Rattle.std.proofs.lemmas.List.Elements.{filter-append}
use Rattle.sk_cmd.specs.declared.argument.Scored.{Scored}
use Rattle.sk_cmd.specs.declared.argument.Scored.TheVariants.{Schedule, Retry, Dead}
use Rattle.sk_undo.specs.UndoView.{UndoView}
use Rattle.sk_undo.specs.Versions.{Versions, both, edited}
use Rattle.sk_places.specs.declared.row.Place.TheVariants.{Set}
use Rattle.sk_places.specs.Entries.{Entry, Item}
use Rattle.sk_places.specs.JobSets.{all_entries, begin_of, entry_in, items_of, others_of, sets_view}
use Rattle.sk_places.specs.Rows.{place_cmp}
use Rattle.sk_places.proofs.Entries.{length_map, map_insert, map_remove}

-- ## Lists

module _ {X Y : Type 0} (f : X → Y) (t : Y → Bool) where
  all_kept : ((x : X) → t (f x) ≡ true) → (xs : List X) → filter t (map f xs) ≡ map f xs
  all_kept h [] = refl
  all_kept h (x ∷ xs) = let e = h x in grind (arith, e, all_kept h xs)

  none_kept : ((x : X) → t (f x) ≡ false) → (xs : List X) → filter t (map f xs) ≡ []
  none_kept h [] = refl
  none_kept h (x ∷ xs) = let e = h x in grind (arith, e, none_kept h xs)

  place_past : ((x : X) → t (f x) ≡ false) → (xs : List X) (ys : List Y) → position_or_len t (map f xs ++ ys) ≡ length xs + position_or_len t ys
  place_past h [] ys = omega arith
  place_past h (x ∷ xs) ys = let e = h x in grind (arith, e, place_past h xs ys)

  place_first : ((x : X) → t (f x) ≡ true) → (xs : List X) (ys : List Y) → position_or_len t ys ≡ 0 → position_or_len t (map f xs ++ ys) ≡ 0
  place_first h [] ys k = k
  place_first h (x ∷ xs) ys k = let e = h x in grind (arith, e)

  place_all : ((x : X) → t (f x) ≡ true) → (xs : List X) → position_or_len t (map f xs) ≡ 0
  place_all h xs = sym (ap (position_or_len t) (append-nil (map f xs))) ∙ place_first h xs [] refl

past : (n at : ℕ) → n + at - n ≡ at
past n at = omega arith

module _ {X Y : Type 0} (f : X → Y) where
  -- an edit behind a part, whose length is that of what it is made of
  insert_behind : (xs : List X) (ys : List Y) (at : ℕ) (y : Y) → insert (map f xs ++ ys) (length xs + at) y ≡ map f xs ++ insert ys at y
  insert_behind xs ys at y = insert-append_right (map f xs) ys (length xs) (length xs + at) y (length_map f xs) (omega arith) ∙ ap (λ i. map f xs ++ insert ys i y) (past (length xs) at)

  remove_behind : (xs : List X) (ys : List Y) (at : ℕ) → remove (map f xs ++ ys) (length xs + at) ≡ map f xs ++ remove ys at
  remove_behind xs ys at = remove-append_right (map f xs) ys (length xs) (length xs + at) (length_map f xs) (omega arith) ∙ ap (λ i. map f xs ++ remove ys i) (past (length xs) at)

  -- an edit of what a front part is made of
  insert_front : (xs : List X) (ys : List Y) (at : ℕ) (x : X) → at ≤ length xs → insert (map f xs ++ ys) at (f x) ≡ map f (insert xs at x) ++ ys
  insert_front xs ys at x h = let n = length_map f xs in insert-append_left (map f xs) ys at (f x) (omega (arith, n, h)) ∙ ap (λ l. l ++ ys) (sym (map_insert f xs at x))

  remove_front : (xs : List X) (ys : List Y) (at : ℕ) → at < length xs → remove (map f xs ++ ys) at ≡ map f (remove xs at) ++ ys
  remove_front xs ys at h = let n = length_map f xs in remove-append_left (map f xs) ys at (omega (arith, n, h)) ∙ ap (λ l. l ++ ys) (sym (map_remove f xs at))

-- ## The items of a set

abbrev is_own : Scored → Entry → Bool
is_own set e = is_eq (place_cmp (Set set) e.0.place)

abbrev is_behind : Scored → Entry → Bool
is_behind set e = is_le (place_cmp (Set set) e.0.place)

abbrev item_of : Entry → Item
item_of e = (e.0.score, e.1)

-- one list of the three
abbrev own : {A : Type 0} → Scored → A → A → A → A
own Schedule s r d = s
own Retry s r d = r
own Dead s r d = d

-- all entries, where one list is another
abbrev with_own : Scored → List Item → List Item → List Item → List Item → List Entry
with_own Schedule xs s r d = all_entries xs r d
with_own Retry xs s r d = all_entries s xs d
with_own Dead xs s r d = all_entries s r xs

-- how many entries stand before those of a set
abbrev before : Scored → List Item → List Item → ℕ
before Schedule s r = 0
before Retry s r = length s
before Dead s r = length s + length r

read_back : (set : Scored) (xs : List Item) → map item_of (map (entry_in set) xs) ≡ xs
read_back set [] = refl
read_back set (x ∷ xs) = ap (λ l. x ∷ l) (read_back set xs)

module _ (s r d : List Item) where
  kept : (t : Entry → Bool) (xs ys zs : List Entry) → filter t (map (entry_in Schedule) s) ≡ xs → filter t (map (entry_in Retry) r) ≡ ys → filter t (map (entry_in Dead) d) ≡ zs → filter t (all_entries s r d) ≡ xs ++ (ys ++ zs)
  kept t xs ys zs a b c =
      filter-append t (map (entry_in Schedule) s) (map (entry_in Retry) r ++ map (entry_in Dead) d)
      ∙ ap₂ (λ l m. l ++ m) a (filter-append t (map (entry_in Retry) r) (map (entry_in Dead) d) ∙ ap₂ (λ l m. l ++ m) b c)

  items_are : (set : Scored) → items_of set (all_entries s r d) ≡ own set s r d
  items_are Schedule =
      ap (map item_of) (kept (is_own Schedule) _ _ _ (all_kept (entry_in Schedule) (is_own Schedule) (λ _. refl) s) (none_kept (entry_in Retry) (is_own Schedule) (λ _. refl) r) (none_kept (entry_in Dead) (is_own Schedule) (λ _. refl) d) ∙ append-nil (map (entry_in Schedule) s))
      ∙ read_back Schedule s
  items_are Retry =
      ap (map item_of) (kept (is_own Retry) _ _ _ (none_kept (entry_in Schedule) (is_own Retry) (λ _. refl) s) (all_kept (entry_in Retry) (is_own Retry) (λ _. refl) r) (none_kept (entry_in Dead) (is_own Retry) (λ _. refl) d) ∙ append-nil (map (entry_in Retry) r))
      ∙ read_back Retry r
  items_are Dead =
      ap (map item_of) (kept (is_own Dead) _ _ _ (none_kept (entry_in Schedule) (is_own Dead) (λ _. refl) s) (none_kept (entry_in Retry) (is_own Dead) (λ _. refl) r) (all_kept (entry_in Dead) (is_own Dead) (λ _. refl) d))
      ∙ read_back Dead d

  others_are : (set : Scored) → others_of set (all_entries s r d) ≡ with_own set [] s r d
  others_are Schedule = kept (λ e. not (is_own Schedule e)) _ _ _ (none_kept (entry_in Schedule) (λ e. not (is_own Schedule e)) (λ _. refl) s) (all_kept (entry_in Retry) (λ e. not (is_own Schedule e)) (λ _. refl) r) (all_kept (entry_in Dead) (λ e. not (is_own Schedule e)) (λ _. refl) d)
  others_are Retry = kept (λ e. not (is_own Retry e)) _ _ _ (all_kept (entry_in Schedule) (λ e. not (is_own Retry e)) (λ _. refl) s) (none_kept (entry_in Retry) (λ e. not (is_own Retry e)) (λ _. refl) r) (all_kept (entry_in Dead) (λ e. not (is_own Retry e)) (λ _. refl) d)
  others_are Dead = kept (λ e. not (is_own Dead e)) _ _ _ (all_kept (entry_in Schedule) (λ e. not (is_own Dead e)) (λ _. refl) s) (all_kept (entry_in Retry) (λ e. not (is_own Dead e)) (λ _. refl) r) (none_kept (entry_in Dead) (λ e. not (is_own Dead e)) (λ _. refl) d)

  begin_is : (set : Scored) → begin_of set (all_entries s r d) ≡ before set s r
  begin_is Schedule =
      place_first (entry_in Schedule) (is_behind Schedule) (λ _. refl) s (map (entry_in Retry) r ++ map (entry_in Dead) d)
      (place_first (entry_in Retry) (is_behind Schedule) (λ _. refl) r (map (entry_in Dead) d) (place_all (entry_in Dead) (is_behind Schedule) (λ _. refl) d))
  begin_is Retry =
      let a = place_past (entry_in Schedule) (is_behind Retry) (λ _. refl) s (map (entry_in Retry) r ++ map (entry_in Dead) d) in
      let b = place_first (entry_in Retry) (is_behind Retry) (λ _. refl) r (map (entry_in Dead) d) (place_all (entry_in Dead) (is_behind Retry) (λ _. refl) d) in
      omega (arith, a, b)
  begin_is Dead =
      let a = place_past (entry_in Schedule) (is_behind Dead) (λ _. refl) s (map (entry_in Retry) r ++ map (entry_in Dead) d) in
      let b = place_past (entry_in Retry) (is_behind Dead) (λ _. refl) r (map (entry_in Dead) d) in
      let c = place_all (entry_in Dead) (is_behind Dead) (λ _. refl) d in
      omega (arith, a, b, c)

  -- ## Edits of one list

  put_in : (set : Scored) (at : ℕ) (item : Item) → at ≤ length (own set s r d) → with_own set (insert (own set s r d) at item) s r d ≡ insert (all_entries s r d) (before set s r + at) (entry_in set item)
  put_in Schedule at item h =
      let n : 0 + at ≡ at = omega arith in
      sym (ap (λ i. insert (all_entries s r d) i (entry_in Schedule item)) n ∙ insert_front (entry_in Schedule) s (map (entry_in Retry) r ++ map (entry_in Dead) d) at item h)
  put_in Retry at item h =
      sym (insert_behind (entry_in Schedule) s (map (entry_in Retry) r ++ map (entry_in Dead) d) at (entry_in Retry item) ∙ ap (λ l. map (entry_in Schedule) s ++ l) (insert_front (entry_in Retry) r (map (entry_in Dead) d) at item h))
  put_in Dead at item h =
      let n : length s + length r + at ≡ length s + (length r + at) = omega arith in
      sym (ap (λ i. insert (all_entries s r d) i (entry_in Dead item)) n
      ∙ insert_behind (entry_in Schedule) s (map (entry_in Retry) r ++ map (entry_in Dead) d) (length r + at) (entry_in Dead item)
      ∙ ap (λ l. map (entry_in Schedule) s ++ l) (insert_behind (entry_in Retry) r (map (entry_in Dead) d) at (entry_in Dead item) ∙ ap (λ l. map (entry_in Retry) r ++ l) (sym (map_insert (entry_in Dead) d at item))))

  taken_from : (set : Scored) (at : ℕ) → at < length (own set s r d) → with_own set (remove (own set s r d) at) s r d ≡ remove (all_entries s r d) (before set s r + at)
  taken_from Schedule at h =
      let n : 0 + at ≡ at = omega arith in
      sym (ap (remove (all_entries s r d)) n ∙ remove_front (entry_in Schedule) s (map (entry_in Retry) r ++ map (entry_in Dead) d) at h)
  taken_from Retry at h =
      sym (remove_behind (entry_in Schedule) s (map (entry_in Retry) r ++ map (entry_in Dead) d) at ∙ ap (λ l. map (entry_in Schedule) s ++ l) (remove_front (entry_in Retry) r (map (entry_in Dead) d) at h))
  taken_from Dead at h =
      let n : length s + length r + at ≡ length s + (length r + at) = omega arith in
      sym (ap (remove (all_entries s r d)) n
      ∙ remove_behind (entry_in Schedule) s (map (entry_in Retry) r ++ map (entry_in Dead) d) (length r + at)
      ∙ ap (λ l. map (entry_in Schedule) s ++ l) (remove_behind (entry_in Retry) r (map (entry_in Dead) d) at ∙ ap (λ l. map (entry_in Retry) r ++ l) (sym (map_remove (entry_in Dead) d at))))

-- ## The view

abbrev lists_view : Versions (List Item) → Versions (List Item) → Versions (List Item) → Versions (List Entry)
lists_view schedule retry dead = both (λ entries items. entries items) (both all_entries schedule retry) dead

-- the view, where one list is another
abbrev view_with : Scored → Versions (List Item) → Versions (List Item) → Versions (List Item) → Versions (List Item) → Versions (List Entry)
view_with Schedule new schedule retry dead = lists_view new retry dead
view_with Retry new schedule retry dead = lists_view schedule new dead
view_with Dead new schedule retry dead = lists_view schedule retry new

one_edited : (set : Scored) (schedule retry dead new : Versions (List Item)) (xs : List Item) (entries : List Entry) → new ≡ edited xs (own set schedule retry dead) → with_own set xs schedule.current retry.current dead.current ≡ entries
    → view_with set new schedule retry dead ≡ edited entries (lists_view schedule retry dead)
one_edited Schedule schedule retry dead new xs entries is e = ap (λ l. lists_view l retry dead) is ∙ ap (λ l. edited l (lists_view schedule retry dead)) e
one_edited Retry schedule retry dead new xs entries is e = ap (λ l. lists_view schedule l dead) is ∙ ap (λ l. edited l (lists_view schedule retry dead)) e
one_edited Dead schedule retry dead new xs entries is e = ap (λ l. lists_view schedule retry l) is ∙ ap (λ l. edited l (lists_view schedule retry dead)) e

own_current : (set : Scored) (schedule retry dead : Versions (List Item)) → (own set schedule retry dead).current ≡ own set schedule.current retry.current dead.current
own_current Schedule schedule retry dead = refl
own_current Retry schedule retry dead = refl
own_current Dead schedule retry dead = refl

module _ (schedule retry dead : Versions (List Item)) (set : Scored) where
  abbrev all : List Entry
  all = all_entries schedule.current retry.current dead.current

  abbrev here : Versions (List Item)
  here = own set schedule retry dead

  current : here.current ≡ own set schedule.current retry.current dead.current
  current = own_current set schedule retry dead

  begin : begin_of set all ≡ before set schedule.current retry.current
  begin = begin_is schedule.current retry.current dead.current set

  own_list : here.current ≡ items_of set all
  own_list = current ∙ sym (items_are schedule.current retry.current dead.current set)

  inserted : (new : Versions (List Item)) (at : ℕ) (item : Item) → at ≤ length here.current → new ≡ edited (insert here.current at item) here
      → view_with set new schedule retry dead ≡ edited (insert all (begin_of set all + at) (entry_in set item)) (lists_view schedule retry dead)
  inserted new at item h e =
      one_edited set schedule retry dead new (insert here.current at item) (insert all (begin_of set all + at) (entry_in set item)) e
      (ap (λ l. with_own set (insert l at item) schedule.current retry.current dead.current) current
      ∙ put_in schedule.current retry.current dead.current set at item (subst (λ l. at ≤ length l) current h)
      ∙ ap (λ n. insert all (n + at) (entry_in set item)) (sym begin))

  removed : (new : Versions (List Item)) (at : ℕ) → at < length here.current → new ≡ edited (remove here.current at) here
      → view_with set new schedule retry dead ≡ edited (remove all (begin_of set all + at)) (lists_view schedule retry dead)
  removed new at h e =
      one_edited set schedule retry dead new (remove here.current at) (remove all (begin_of set all + at)) e
      (ap (λ l. with_own set (remove l at) schedule.current retry.current dead.current) current
      ∙ taken_from schedule.current retry.current dead.current set at (subst (λ l. at < length l) current h)
      ∙ ap (λ n. remove all (n + at)) (sym begin))

  emptied : (new : Versions (List Item)) → new ≡ edited [] here → view_with set new schedule retry dead ≡ edited (others_of set all) (lists_view schedule retry dead)
  emptied new e = one_edited set schedule retry dead new [] (others_of set all) e (sym (others_are schedule.current retry.current dead.current set))

-- What the code says of a set that it has told apart: `set` is what it was given, `arm` the one that it turned out to be.
module _ (schedule retry dead : UndoView (List Item)) (now : UndoView (List Entry)) (view_is : sets_view schedule retry dead ≡ now) (set arm : Scored) (is : set ≡ arm) where
  abbrev kept_list : Versions (List Item)
  kept_list = own arm schedule.list retry.list dead.list

  pub own_items : kept_list.current ≡ items_of set now.list.current
  own_items = subst₂ (λ t (v : UndoView (List Entry)). kept_list.current ≡ items_of t v.list.current) (sym is) view_is (own_list schedule.list retry.list dead.list arm)

  pub own_at : (at : ℕ) → at ≤ length (items_of set now.list.current) → at ≤ length kept_list.current
  own_at at h = subst (λ l. at ≤ length l) (sym own_items) h

  pub own_within : (at : ℕ) → at < length (items_of set now.list.current) → at < length kept_list.current
  own_within at h = subst (λ l. at < length l) (sym own_items) h

  pub own_item : (at : ℕ) (item : Item) → item ≡ slice_index_or kept_list.current at item → item ≡ slice_index_or (items_of set now.list.current) at item
  own_item at item e = e ∙ ap (λ l. slice_index_or l at item) own_items

  pub own_inserted : (new : Versions (List Item)) (at : ℕ) (item : Item) → at ≤ length (items_of set now.list.current) → new ≡ edited (insert kept_list.current at item) kept_list
      → view_with arm new schedule.list retry.list dead.list ≡ edited (insert now.list.current (begin_of set now.list.current + at) (entry_in set item)) now.list
  own_inserted new at item h e =
      subst₂ (λ t (v : UndoView (List Entry)). view_with arm new schedule.list retry.list dead.list ≡ edited (insert v.list.current (begin_of t v.list.current + at) (entry_in t item)) v.list) (sym is) view_is
      (inserted schedule.list retry.list dead.list arm new at item (own_at at h) e)

  pub own_removed : (new : Versions (List Item)) (at : ℕ) → at < length (items_of set now.list.current) → new ≡ edited (remove kept_list.current at) kept_list
      → view_with arm new schedule.list retry.list dead.list ≡ edited (remove now.list.current (begin_of set now.list.current + at)) now.list
  own_removed new at h e =
      subst₂ (λ t (v : UndoView (List Entry)). view_with arm new schedule.list retry.list dead.list ≡ edited (remove v.list.current (begin_of t v.list.current + at)) v.list) (sym is) view_is
      (removed schedule.list retry.list dead.list arm new at (own_within at h) e)

  pub own_emptied : (new : Versions (List Item)) → new ≡ edited [] kept_list → view_with arm new schedule.list retry.list dead.list ≡ edited (others_of set now.list.current) now.list
  own_emptied new e =
      subst₂ (λ t (v : UndoView (List Entry)). view_with arm new schedule.list retry.list dead.list ≡ edited (others_of t v.list.current) v.list) (sym is) view_is
      (emptied schedule.list retry.list dead.list arm new e)
