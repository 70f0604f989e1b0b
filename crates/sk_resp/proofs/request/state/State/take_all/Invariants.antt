use Rattle.std.proofs.Common.{◌≡◌, ◌-◌, ◌≤◌, ℕ, List, ◌++◌, take, length}
use Rattle.sk_resp.specs.Request.{Command}
use Rattle.sk_resp.specs.Stream.{Opens}
use Rattle.sk_resp.specs.Reading.{seen, IsOpen}
use Rattle.sk_resp.proofs.request.state.State.take_all.Given as goal

-- the bytes so far are items that give the commands that were added, and what is open
abbrev pub invariant-loop-at : goal.invariant-loop-at
invariant-loop-at l = record {
  is_open : IsOpen l.self;
  within : l.at ≤ length l.piece;
  so_far : (added : List Command) × (l.out.items ≡ l.fn.out.items ++ added) × Opens (seen l.fn.self ++ take l.at l.piece) added (seen l.self);
}

abbrev pub decreases-loop-at : goal.decreases-loop-at
decreases-loop-at l = length l.piece - l.at
