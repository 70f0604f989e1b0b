-- The map agrees with the pairs after each edit of both.
use Rattle.std.proofs.Common.{◌≡◌, ℕ, ◌<◌, Bool, true, false, cond, List, Option, Some, None, get_or, length, refl, sym, ap, ◌∙◌}
use Rattle.std.specs.BTreeMap.{insert_entry, is_at}
use Rattle.std.specs.List.{position_or_len, remove}
use Rattle.std.specs.Map.{keys_of, remove_entry}
use Rattle.std.specs.Str.{bytes_eq}
use Rattle.sk_resp.specs.WordOrder.{text_cmp}
use Rattle.sk_undo.specs.Sorted.{is_sorted}
use Rattle.sk_undo.specs.Versions.{Versions, edited}
use Rattle.sk_zset.specs.Order.{is_ordered}
use Rattle.sk_zset.specs.Pair.{Pair, names, precedes}
use Rattle.sk_zset.specs.Pairs.{put, score_of, without}
use Rattle.sk_zset.specs.Scores.{Agree, IsTied, Scores}
use Rattle.sk_zset.proofs.Order.{ordered_remove, ordered_without}
use Rattle.sk_zset.proofs.Places.{place_at}
use Rattle.sk_zset.proofs.Scores.{has_without, ordered_added, score_given, score_put, score_removed, score_without}

over : {X : Type 0} (b : Bool) (v w x : Option X) → cond b v x ≡ cond b v (cond b w x)
over true v w x = refl
over false v w x = refl

agree_put : (p : Pair) (ps : List Pair) (es : Scores) → is_ordered ps ≡ true → Agree ps es → Agree (put p (without p.1 ps)) (insert_entry text_cmp es p.1 p.0)
unfolding put without
agree_put p ps es h agree m =
    let b : Bool = bytes_eq p.1 m in
    let rest : List Pair = remove ps (position_or_len (names p.1) ps) in
    let gone = score_without p.1 m ps h in
    let added = score_put rest (position_or_len (precedes p) rest) p m (has_without p.1 ps h) in
    score_given p.1 p.0 m es ∙ ap (cond b (Some p.0)) (agree m) ∙ over b (Some p.0) None (score_of m ps) ∙ sym (added ∙ ap (cond b (Some p.0)) gone)

agree_without : (k : List ℕ) (ps : List Pair) (es : Scores) → is_ordered ps ≡ true → is_sorted text_cmp (keys_of es) ≡ true → Agree ps es → Agree (remove ps (position_or_len (names k) ps)) (remove_entry (is_at (text_cmp k)) es)
agree_without k ps es h up agree m = score_removed k m es up ∙ ap (cond (bytes_eq k m) None) (agree m) ∙ sym (score_without k m ps h)

module _ (s : Versions (List Pair)) (t : Versions Scores) (tied : IsTied s t) where
  pub tied_put : (p : Pair) → IsTied (edited (put p (without p.1 s.current)) s) (edited (insert_entry text_cmp t.current p.1 p.0) t)
  tied_put p = record {
    order = record { current = ordered_added p s.current tied.order.current; saved = tied.order.saved };
    current = agree_put p s.current t.current tied.order.current tied.current;
    saved = tied.saved;
  }

  pub tied_without : (k : List ℕ) → is_sorted text_cmp (keys_of t.current) ≡ true → IsTied (edited (without k s.current) s) (edited (remove_entry (is_at (text_cmp k)) t.current) t)
  unfolding without
  tied_without k up = record {
    order = record { current = ordered_without k s.current tied.order.current; saved = tied.order.saved };
    current = agree_without k s.current t.current tied.order.current up tied.current;
    saved = tied.saved;
  }

  pub tied_remove : (p : Pair) (at : ℕ) → at < length s.current → p ≡ get_or s.current at p → is_sorted text_cmp (keys_of t.current) ≡ true → IsTied (edited (remove s.current at) s) (edited (remove_entry (is_at (text_cmp p.1)) t.current) t)
  tied_remove p at h e up = record {
    order = record { current = ordered_remove s.current at tied.order.current; saved = tied.order.saved };
    current = λ m. agree_without p.1 s.current t.current tied.order.current up tied.current m ∙ ap (λ i. score_of m (remove s.current i)) (place_at p s.current at tied.order.current h e);
    saved = tied.saved;
  }
