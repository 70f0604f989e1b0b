-- What is left of the memory that was taken, after an edit.
use Rattle.std.proofs.Common.{◌≡◌, ◌+◌, ◌<◌, ◌≤◌, ℕ, suc, length, arith, ap, ◌∙◌}
use Rattle.std.specs.Prelude.{slice_index_or}
use Rattle.std.specs.BTreeMap.{is_at}
use Rattle.std.specs.Map.{lookup}
use Rattle.sk_deques.specs.DequeMoves.{list_at, without_item}
use Rattle.sk_undo.specs.Versions.{edited}
use Rattle.sk_places.specs.declared.row_lists.RowLists.{RowLists}
use Rattle.sk_places.specs.declared.row.Place.{Place}
use Rattle.sk_places.specs.RowLists.{HasSpace, IsOneLess}
use Rattle.sk_places.specs.Rows.{place_cmp}
use Rattle.sk_places.proofs.Shifts.{no_longer}

-- an item was taken out of a deque
pub one_less_listed : (l m : RowLists) (n at : ℕ) → m.names ≡ l.names → m.sets ≡ l.sets → m.deques.lists ≡ edited (without_item n at l.deques.lists.current) l.deques.lists → m.deques.spaces ≡ l.deques.spaces → l.deques.room ≤ m.deques.room + 1 → n < length l.deques.lists.current → at < length (list_at n l.deques.lists.current) → IsOneLess l m
one_less_listed l m n at names sets is spaces room out item = record {
  ready = λ count place r. record {
    edits = (let e = r.edits in omega (arith, e, room));
    sets = (let e = r.sets in let same = ap (λ s. s.room) sets in omega (arith, e, same));
    space = λ list. by count place (r.space list);
  };
}
  where
    by : (count : ℕ) (place : Place) → HasSpace (suc count) place l.names.list.current l.deques.lists.current l.deques.spaces → HasSpace count place m.names.list.current m.deques.lists.current m.deques.spaces
    by count place s =
        let short = no_longer l.deques.lists.current n s.number at out item in
        let after = ap (λ u. length (list_at s.number u.current)) is in
        let there = ap (λ k. slice_index_or k s.number 0) spaces in
        let w = s.within in
        record {
          number = s.number;
          found = ap (λ k. lookup (is_at (place_cmp place)) k.list.current) names ∙ s.found;
          within = omega (arith, short, after, there, w);
        }

-- a row was taken out of the sets
pub one_less_set : (l m : RowLists) → m.names ≡ l.names → m.deques ≡ l.deques → l.sets.room ≤ m.sets.room + 1 → IsOneLess l m
one_less_set l m names deques room = record {
  ready = λ count place r. record {
    edits = (let e = r.edits in let same = ap (λ s. s.room) deques in omega (arith, e, same));
    sets = (let e = r.sets in omega (arith, e, room));
    space = λ list. by count place (r.space list);
  };
}
  where
    by : (count : ℕ) (place : Place) → HasSpace (suc count) place l.names.list.current l.deques.lists.current l.deques.spaces → HasSpace count place m.names.list.current m.deques.lists.current m.deques.spaces
    by count place s =
        let after = ap (λ u. length (list_at s.number u.lists.current)) deques in
        let there = ap (λ u. slice_index_or u.spaces s.number 0) deques in
        let w = s.within in
        record {
          number = s.number;
          found = ap (λ k. lookup (is_at (place_cmp place)) k.list.current) names ∙ s.found;
          within = omega (arith, after, there, w);
        }
