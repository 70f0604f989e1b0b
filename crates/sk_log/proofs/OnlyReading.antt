-- Calls that only read, one after another.
use Rattle.std.proofs.Common.{◌≡◌, ◌≤◌, ◌+◌, ◌-◌, ℕ, List, ◌++◌, length, take, drop, sym, ◌∙◌, ap, arith}
use Rattle.std.proofs.lemmas.List.{length-take, take_at, drop_at, take-append-le}
use borrow.Rule.Slice.PartMut.{put_mid, post_of}
use Rattle.std.proofs.Math.Seq.{take-add}
use Rattle.sk_disk.specs.Images.{Images, Narrows, Same, Elapses}
use Rattle.sk_disk.proofs.Moments.{started, goes_on, joins, weakens}
use Rattle.sk_log.specs.Reading.{OnlyRead}

module _ {D : Type 0} (reads may_leave : D → Images) (moment : D → ℕ) (left_since : D → ℕ → Images) where
  pub nothing_read : (disk : D) → Narrows (may_leave disk) (left_since disk (moment disk)) → OnlyRead reads may_leave moment left_since disk disk
  nothing_read disk only = record { same = record { forth = λ c r. r; back = λ c r. r }; fewer = λ c l. l; leaves = started moment left_since disk (may_leave disk) only }

  pub one_read : (old mid new : D) → OnlyRead reads may_leave moment left_since old mid → Same (reads mid) (reads new) → Narrows (may_leave mid) (may_leave new)
      → Elapses (moment mid) (moment new) (left_since mid) (left_since new) (may_leave new) → OnlyRead reads may_leave moment left_since old new
  one_read old mid new so_far same fewer time = record {
    same = record { forth = λ c r. same.forth c (so_far.same.forth c r); back = λ c r. so_far.same.back c (same.back c r) };
    fewer = λ c l. so_far.fewer c (fewer c l);
    leaves = goes_on moment left_since old mid new (may_leave old) (may_leave new) so_far.leaves time (λ c l. so_far.fewer c (fewer c l));
  }

  pub read_on : (old mid new : D) → OnlyRead reads may_leave moment left_since old mid → OnlyRead reads may_leave moment left_since mid new → OnlyRead reads may_leave moment left_since old new
  read_on old mid new first second = record {
    same = record { forth = λ c r. second.same.forth c (first.same.forth c r); back = λ c r. first.same.back c (second.same.back c r) };
    fewer = λ c l. first.fewer c (second.fewer c l);
    leaves = joins moment left_since old mid new (may_leave old) first.leaves (weakens moment left_since mid new (may_leave mid) (may_leave old) second.leaves first.fewer);
  }

-- a front, and a piece behind it
pub piece : (done n : ℕ) (old new bytes : List ℕ) → take done old ≡ take done bytes → take done new ≡ take done old → take n (drop done new) ≡ take n (drop done bytes) → take (done + n) new ≡ take (done + n) bytes
piece done n old new bytes so_far kept more = take-add done n new ∙ ap (λ (l : List ℕ). l ++ take n (drop done new)) (kept ∙ so_far) ∙ ap (λ (l : List ℕ). take done bytes ++ l) more ∙ sym (take-add done n bytes)

-- what is read so far is there
pub there : (done : ℕ) (buf bytes : List ℕ) → done ≤ length buf → take done buf ≡ take done bytes → done ≤ length bytes
there done buf bytes le e = omega (arith, le, ap length e, length-take done buf, length-take done bytes)

-- and as a part of a buffer that was filled
pub piece_put : (done n : ℕ) (buf new bytes : List ℕ) → done ≤ length buf → n ≤ length new → take done buf ≡ take done bytes → take n new ≡ take n (drop done bytes) → take (done + n) (put_mid done (length buf - done) buf new) ≡ take (done + n) bytes
piece_put done n buf new bytes le fits so_far more =
    let front : List ℕ = take done buf in
    let behind : List ℕ = new ++ post_of done (length buf - done) buf in
    let front_long : length front ≡ done = omega (arith, le, length-take done buf) in
    take-add done n (front ++ behind) ∙ ap (λ (l : List ℕ). l ++ take n (drop done (front ++ behind))) (take_at front behind done front_long)
    ∙ ap (λ (l : List ℕ). front ++ take n l) (drop_at front behind done front_long)
    ∙ ap (λ (l : List ℕ). front ++ l) (take-append-le n new (post_of done (length buf - done) buf) fits ∙ more)
    ∙ ap (λ (l : List ℕ). l ++ take n (drop done bytes)) so_far ∙ sym (take-add done n bytes)
