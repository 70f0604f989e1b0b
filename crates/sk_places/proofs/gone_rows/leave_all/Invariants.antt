use Rattle.std.proofs.Common.{◌≡◌, ◌+◌, ◌-◌, ◌≤◌, None, drop, length}
use Rattle.sk_places.specs.GoneRows.{all_left, bytes_in, texts_in}
use Rattle.sk_places.proofs.gone_rows.leave_all.Given as goal

abbrev pub invariant-loop-at : goal.invariant-loop-at
invariant-loop-at l = record {
  within : l.at ≤ length (texts_in l.gone);
  rows : l.left.rows + length (texts_in l.gone) ≡ l.fn.size.rows + length (drop l.at (texts_in l.gone));
  bytes : l.left.bytes + bytes_in (texts_in l.gone) ≡ l.fn.size.bytes + bytes_in (drop l.at (texts_in l.gone));
  closed : l.jobs.saved ≡ None;
  jobs : all_left (drop l.at (texts_in l.gone)) l.jobs.current ≡ all_left (texts_in l.gone) l.initial.jobs.current;
}

abbrev pub decreases-loop-at : goal.decreases-loop-at
decreases-loop-at l = length (texts_in l.gone) - l.at
