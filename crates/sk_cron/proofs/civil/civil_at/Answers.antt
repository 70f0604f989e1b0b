use Rattle.std.proofs.Common.{arith, FitsSigned, w8, w32, ◌∙◌, ◌≡◌, ◌<◌, ◌≤◌, ◌+◌, ◌%◌, ◌^◌, ℤ, pos, ◌+ℤ◌, ◌*ℤ◌, ℕ, to_z, of_z, unsigned_abs, sym, ap, rules}
use Rattle.std.proofs.lemmas.Int.{to_z-of_z}
use Rattle.sk_cron.proofs.civil.civil_at.Goals as goal

back : (z : ℤ) (n : ℕ) → FitsSigned w8 z → z ≡ pos n → unsigned_abs (to_z w8 (of_z w8 z)) ≡ n
back z n f e = rw (to_z-of_z w8 z f, e)

pub returns : goal.returns
returns c =
    let offset : FitsSigned w32 c.args.offset = c.ranges.offset in
    let at = simp to_z-of_z at c.shown-shown.ensures in
    let minute : FitsSigned w8 c.minute.result = search rules in
    let hour : FitsSigned w8 c.hour.result = search rules in
    let day : FitsSigned w8 c.day.result = search rules in
    let month : FitsSigned w8 c.month.result = search rules in
    let weekday : FitsSigned w8 c.to_sunday_zero_offset.result = search rules in
    record {
      shown = c.shown-shown.result;
      at = at;
      minute = back _ _ minute c.minute.ensures;
      hour = back _ _ hour c.hour.ensures;
      day = back _ _ day c.day.ensures;
      month = back _ _ month c.month.ensures;
      weekday = back _ _ weekday (c.to_sunday_zero_offset.ensures.value ∙ ap (λ (n : ℕ). pos ((n + 1) % 7)) c.weekday.ensures);
    }
