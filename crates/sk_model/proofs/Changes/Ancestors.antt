-- A batch and those that it is in.
use Rattle.std.proofs.Common.{◌≡◌, ℕ, ◌+◌, List, [], ◌∷◌, refl, sym, ap, ◌∙◌, arith, cond, Bool, true, false, Option, Some, None}
use Rattle.std.specs.List.{list_any}
use Rattle.sk_resp.specs.Spelling.{Bytes}
use Rattle.sk_batch.specs.Batched.{BatchEntry, has_bid, is_there}
use Rattle.sk_batch.specs.Fires.{retagged}
use Rattle.sk_batch.specs.Ancestors.{ancestors, ancestors_above, is_under}
use Rattle.sk_batch.specs.declared.batch.Fired.{Fired}
use Rattle.sk_places.specs.LiveJobs.{one_if}
pub use Rattle.sk_model.specs.Covered.{IsTree, ParentThere}
use Rattle.sk_model.proofs.Tools.Texts.{bytes_tell}

above_there : (bs : List BatchEntry) (o : Option Bytes) (b : Bytes) → ((p : Bytes) → is_there p bs ≡ true → is_under bs p b ≡ true → is_there b bs ≡ true) → ParentThere bs o → list_any (has_bid b) (ancestors_above o (ancestors bs)) ≡ true → is_there b bs ≡ true
above_there bs None b ih t h = absurd (cc h)
above_there bs (Some p) b ih t h = ih p t h

-- what is above a batch that is there, is there
pub line_there : (bs : List BatchEntry) (x b : Bytes) → IsTree bs → is_there x bs ≡ true → is_under bs x b ≡ true → is_there b bs ≡ true
line_there [] x b t s u = absurd (cc s)
line_there (r ∷ bs) x b t s u = grind (arith, bytes_tell, above_there bs r.1.parent b (λ p. line_there bs p b t.2) t.1, line_there bs x b t.2)

-- a batch isn't above those made before it
pub not_above : (bs : List BatchEntry) (r : BatchEntry) (x : Bytes) → IsTree (r ∷ bs) → is_there x bs ≡ true → is_under bs x r.1.bid ≡ false
not_above bs r x t s = grind (arith, line_there bs x r.1.bid t.2 s)

above_through : (bs : List BatchEntry) (o : Option Bytes) (p b : Bytes) → ((q : Bytes) → is_there q bs ≡ true → is_under bs q p ≡ true → is_under bs p b ≡ true → is_under bs q b ≡ true) → ParentThere bs o → list_any (has_bid p) (ancestors_above o (ancestors bs)) ≡ true → is_under bs p b ≡ true → list_any (has_bid b) (ancestors_above o (ancestors bs)) ≡ true
above_through bs None p b ih t h u = absurd (cc h)
above_through bs (Some q) p b ih t h u = ih q t h u

-- a newer batch changes no line of those that are there
pub line_older : (bs : List BatchEntry) (r : BatchEntry) (x : Bytes) → IsTree (r ∷ bs) → is_there x bs ≡ true → ancestors (r ∷ bs) x ≡ ancestors bs x
line_older bs r x t s = grind (arith, bytes_tell, t.0)

-- what is above what is above
pub under_through : (bs : List BatchEntry) (x p b : Bytes) → IsTree bs → is_there x bs ≡ true → is_under bs x p ≡ true → is_under bs p b ≡ true → is_under bs x b ≡ true
under_through [] x p b t s u v = absurd (cc s)
under_through (r ∷ bs) x p b t s u v =
    let older : is_there p bs ≡ true → is_under bs p b ≡ true = λ h. ap (list_any (has_bid b)) (sym (line_older bs r p t h)) ∙ v in
    let above = above_there bs r.1.parent p (λ q. line_there bs q p t.2) t.1 in
    let through : list_any (has_bid p) (ancestors_above r.1.parent (ancestors bs)) ≡ true → list_any (has_bid b) (ancestors_above r.1.parent (ancestors bs)) ≡ true = λ h. above_through bs r.1.parent p b (λ q. under_through bs q p b t.2) t.1 h (older (above h)) in
    let below : is_there x bs ≡ true → is_under bs x p ≡ true → is_under bs x b ≡ true = λ h k. under_through bs x p b t.2 h k (older (line_there bs x p t.2 h k)) in
    grind (arith, bytes_tell)

-- how often a batch stands in a list
abbrev pub in_list : Bytes → List BatchEntry → ℕ
in_list b [] = 0
in_list b (e ∷ es) = one_if (has_bid b e) + in_list b es

above_once : (bs : List BatchEntry) (o : Option Bytes) (b : Bytes) → ((p : Bytes) → is_there p bs ≡ true → in_list b (ancestors bs p) ≡ one_if (is_under bs p b)) → ParentThere bs o → in_list b (ancestors_above o (ancestors bs)) ≡ one_if (list_any (has_bid b) (ancestors_above o (ancestors bs)))
above_once bs None b ih t = refl
above_once bs (Some p) b ih t = ih p t

-- nothing stands twice in a line
pub line_once : (bs : List BatchEntry) (x b : Bytes) → IsTree bs → is_there x bs ≡ true → in_list b (ancestors bs x) ≡ one_if (is_under bs x b)
line_once [] x b t s = absurd (cc s)
line_once (r ∷ bs) x b t s =
    let above = above_once bs r.1.parent b (λ p. line_once bs p b t.2) t.1 in
    let below = line_once bs x b t.2 in
    let apart = above_there bs r.1.parent b (λ q. line_there bs q b t.2) t.1 in
    grind (arith, bytes_tell, t.0)

-- a batch is under itself
pub under_own : (bs : List BatchEntry) (r : BatchEntry) → is_under (r ∷ bs) r.1.bid r.1.bid ≡ true
under_own bs r = grind (arith, bytes_tell)

-- ## Tags don't matter

tree_either : (b : Bool) (bs cs : List BatchEntry) → IsTree bs → IsTree cs → IsTree (cond b bs cs)
tree_either true bs cs t u = t
tree_either false bs cs t u = u

module _ (test : BatchEntry → Bool) (f : Fired → Fired) where
  pub there_retagged : (bs : List BatchEntry) (b : Bytes) → is_there b (retagged test f bs) ≡ is_there b bs
  there_retagged [] b = refl
  there_retagged (e ∷ es) b = grind (arith, there_retagged es b)

  above_retagged : (bs cs : List BatchEntry) (o : Option Bytes) (b : Bytes) → ((p : Bytes) → is_under bs p b ≡ is_under cs p b) → list_any (has_bid b) (ancestors_above o (ancestors bs)) ≡ list_any (has_bid b) (ancestors_above o (ancestors cs))
  above_retagged bs cs None b same = refl
  above_retagged bs cs (Some p) b same = same p

  pub under_retagged : (bs : List BatchEntry) (x b : Bytes) → is_under (retagged test f bs) x b ≡ is_under bs x b
  under_retagged [] x b = refl
  under_retagged (e ∷ es) x b =
      let above = above_retagged (retagged test f es) es e.1.parent b (λ p. under_retagged es p b) in
      let below = under_retagged es x b in
      grind (arith, above, below)

  parent_retagged : (bs : List BatchEntry) (o : Option Bytes) → ParentThere bs o → ParentThere (retagged test f bs) o
  parent_retagged bs None t = tt
  parent_retagged bs (Some p) t = there_retagged bs p ∙ t

  pub tree_retagged : (bs : List BatchEntry) → IsTree bs → IsTree (retagged test f bs)
  tree_retagged [] t = tt
  tree_retagged (e ∷ es) t = tree_either (test e) ((f e.0, e.1) ∷ es) (e ∷ retagged test f es) t (there_retagged es e.1.bid ∙ t.0, parent_retagged es e.1.parent t.1, tree_retagged es t.2)
