-- Spare deques stay so over edits of the others, and come and go.
use Rattle.std.proofs.Common.{◌≡◌, ℕ, Bool, true, false, List, [], ◌∷◌, ◌++◌, Some, length, map, refl, sym, arith, ap, subst, ◌∙◌}
use Rattle.std.specs.List.{AllByRecursion}
use Rattle.std.specs.Map.{keys_of, values_of, lookup, remove_entry}
use Rattle.sk_deques.specs.DequeMoves.{changed_at, list_at}
use Rattle.sk_deques.proofs.DequeNumbers.{at_other}
use Rattle.sk_undo.specs.Partitioned.{all_pass}
use Rattle.sk_undo.specs.Versions.{Versions, edited}
use Rattle.sk_places.specs.declared.row.Place.{Place}
use Rattle.sk_places.specs.Entries.{Item}
use Rattle.sk_places.specs.RowLists.{AreApart, AreSpare, IsIdle, IsNameless, IsSpare, is_list, listed, rows_in_lists}
use Rattle.sk_places.proofs.Listed.{found_apart}

-- ## Numbers

module _ (P : ℕ → Type 0) where
  pub all_last : (ns : List ℕ) (n : ℕ) → AllByRecursion P ns → P n → AllByRecursion P (ns ++ n ∷ [])
  all_last [] n a h = (h, tt)
  all_last (m ∷ ns) n a h = (a.0, all_last ns n a.1 h)

  pub all_front : (ns : List ℕ) (n : ℕ) → AllByRecursion P (ns ++ n ∷ []) → AllByRecursion P ns × P n
  all_front [] n a = (tt, a.0)
  all_front (m ∷ ns) n a = let rest = all_front ns n a.1 in ((a.0, rest.0), rest.1)

pub all_so : (P Q : ℕ → Type 0) (ns : List ℕ) → ((n : ℕ) → P n → Q n) → AllByRecursion P ns → AllByRecursion Q ns
all_so P Q [] f a = tt
all_so P Q (n ∷ ns) f a = (f n a.0, all_so P Q ns f a.1)

pub all_with : (P Q R : ℕ → Type 0) (ns : List ℕ) → ((n : ℕ) → P n → Q n → R n) → AllByRecursion P ns → AllByRecursion Q ns → AllByRecursion R ns
all_with P Q R [] f a b = tt
all_with P Q R (n ∷ ns) f a b = (f n a.0 b.0, all_with P Q R ns f a.1 b.1)

turned : (n k : ℕ) → ¬ (n ≡ k) → ¬ (k ≡ n)
turned n k d = λ e. d (sym e)

apart_last : (ns : List ℕ) (n : ℕ) → AreApart ns → AllByRecursion (λ m. ¬ (m ≡ n)) ns → AreApart (ns ++ n ∷ [])
apart_last [] n d o = (tt, tt)
apart_last (m ∷ ns) n d o = (all_last (λ k. ¬ (k ≡ m)) ns n d.0 (turned m n o.0), apart_last ns n d.1 o.1)

pub apart_front : (ns : List ℕ) (n : ℕ) → AreApart (ns ++ n ∷ []) → AreApart ns × AllByRecursion (λ m. ¬ (m ≡ n)) ns
apart_front [] n d = (tt, tt)
apart_front (m ∷ ns) n d =
    let first = all_front (λ k. ¬ (k ≡ m)) ns n d.0 in
    let rest = apart_front ns n d.1 in
    ((first.0, rest.0), (turned n m first.1, rest.1))

-- ## Edits of other deques

-- an edit of a place's deque
pub nameless_stays : (test : Place → Bool) (es : List (Place × ℕ)) (n m : ℕ) (f : List Item → List Item) (ls : List (List Item)) → lookup test es ≡ Some n → IsNameless m es → list_at m (changed_at n f ls) ≡ list_at m ls
nameless_stays test es n m f ls found nameless = at_other m n f ls (turned n m (found_apart test es n m found nameless))

pub spare_edited : (numbers : List ℕ) (es : List (Place × ℕ)) (s : Versions (List (List Item))) (ls : List (List Item)) → length ls ≡ length s.current → ((m : ℕ) → IsNameless m es → list_at m ls ≡ list_at m s.current) → AreSpare numbers es s → AreSpare numbers es (edited ls s)
spare_edited numbers es s ls long stays a = record {
  apart = a.apart;
  spare = all_so (IsSpare es s) (IsSpare es (edited ls s)) numbers (λ m h. record {
    nameless = h.nameless;
    idle = record { below = (let b = h.idle.below in omega (arith, b, long)); empty = stays m h.nameless ∙ h.idle.empty; was_empty = h.idle.was_empty };
  }) a.spare;
}

-- ## A place's deque goes

module _ (test : Place → Bool) where
  pub all_removed : (P : ℕ → Type 0) (es : List (Place × ℕ)) → AllByRecursion P (values_of es) → AllByRecursion P (values_of (remove_entry test es))
  all_removed P [] a = tt
  all_removed P (e ∷ es) a = by (test e.0) refl (all_removed P es a.1)
    where
      by : (b : Bool) → test e.0 ≡ b → AllByRecursion P (values_of (remove_entry test es)) → AllByRecursion P (values_of (remove_entry test (e ∷ es)))
      by true t rest = rw t a.1
      by false t rest = rw t (a.0, rest)

  pub apart_removed : (es : List (Place × ℕ)) → AreApart (values_of es) → AreApart (values_of (remove_entry test es))
  apart_removed [] d = tt
  apart_removed (e ∷ es) d = by (test e.0) refl (apart_removed es d.1)
    where
      by : (b : Bool) → test e.0 ≡ b → AreApart (values_of (remove_entry test es)) → AreApart (values_of (remove_entry test (e ∷ es)))
      by true t rest = rw t d.1
      by false t rest = rw t (all_removed (λ m. ¬ (m ≡ e.1)) es d.0, rest)

  pub kinds_removed : (es : List (Place × ℕ)) → all_pass is_list (keys_of es) ≡ true → all_pass is_list (keys_of (remove_entry test es)) ≡ true
  kinds_removed [] h = refl
  kinds_removed (e ∷ es) h = by (test e.0) refl (kinds_removed es (grind (arith, h)))
    where
      by : (b : Bool) → test e.0 ≡ b → all_pass is_list (keys_of (remove_entry test es)) ≡ true → all_pass is_list (keys_of (remove_entry test (e ∷ es))) ≡ true
      by true t rest = rw t (grind (arith, h))
      by false t rest = rw t (grind (arith, h, rest))

  -- then no place has it
  pub nameless_removed : (es : List (Place × ℕ)) (n : ℕ) → AreApart (values_of es) → lookup test es ≡ Some n → IsNameless n (remove_entry test es)
  nameless_removed [] n d f = tt
  nameless_removed (e ∷ es) n d f = by (test e.0) refl (λ g. nameless_removed es n d.1 g)
    where
      by : (b : Bool) → test e.0 ≡ b → (lookup test es ≡ Some n → IsNameless n (remove_entry test es)) → IsNameless n (remove_entry test (e ∷ es))
      by true t again = let g = rw t at f in let same : e.1 ≡ n = cc g in rw t (subst (λ k. AllByRecursion (λ m. ¬ (m ≡ k)) (values_of es)) same d.0)
      by false t again = let g : lookup test es ≡ Some n = rw t at f in rw t (turned n e.1 (found_apart test es n e.1 g d.0), again g)

  -- and no row goes, where it has none
  pub rows_removed : (es : List (Place × ℕ)) (n : ℕ) (ls : List (List Item)) → lookup test es ≡ Some n → list_at n ls ≡ [] → rows_in_lists (remove_entry test es) ls ≡ rows_in_lists es ls
  rows_removed [] n ls f h = refl
  rows_removed (e ∷ es) n ls f h = by (test e.0) refl (λ g. rows_removed es n ls g h)
    where
      by : (b : Bool) → test e.0 ≡ b → (lookup test es ≡ Some n → rows_in_lists (remove_entry test es) ls ≡ rows_in_lists es ls) → rows_in_lists (remove_entry test (e ∷ es)) ls ≡ rows_in_lists (e ∷ es) ls
      by true t again = let g = rw t at f in let same : e.1 ≡ n = cc g in rw t (ap (λ l. map (listed e.0) l ++ rows_in_lists es ls) (sym (ap (λ k. list_at k ls) same ∙ h)))
      by false t again = let g : lookup test es ≡ Some n = rw t at f in rw t (ap (λ rows. map (listed e.0) (list_at e.1 ls) ++ rows) (again g))

  pub spare_removed : (numbers : List ℕ) (es : List (Place × ℕ)) (s : Versions (List (List Item))) (n : ℕ) → AreApart (values_of es) → lookup test es ≡ Some n → IsIdle n s → AreSpare numbers es s → AreSpare (numbers ++ n ∷ []) (remove_entry test es) s
  spare_removed numbers es s n d found idle a = record {
    apart = apart_last numbers n a.apart (all_so (IsSpare es s) (λ m. ¬ (m ≡ n)) numbers (λ m h. turned n m (found_apart test es n m found h.nameless)) a.spare);
    spare = all_last (IsSpare (remove_entry test es) s) numbers n
        (all_so (IsSpare es s) (IsSpare (remove_entry test es) s) numbers (λ m h. record { nameless = all_removed (λ k. ¬ (k ≡ m)) es h.nameless; idle = h.idle }) a.spare)
        (record { nameless = nameless_removed es n d found; idle = idle });
  }
