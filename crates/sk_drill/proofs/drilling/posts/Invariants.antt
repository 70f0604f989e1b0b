use Rattle.std.proofs.Common.{◌≡◌, ◌≤◌, ◌+◌, ◌*◌, length, true}
use Rattle.std.specs.List.{AllByRecursion}
use Rattle.sk_drill.specs.Crews.{ApartSoFar, Room}
use Rattle.sk_drill.proofs.drilling.posts.Given as goal

abbrev pub invariant-loop-worker : goal.invariant-loop-worker
invariant-loop-worker g l = record {
  len : length l.working.items ≡ l._worker;
  room : AllByRecursion (λ s. Room true s.pass.count l.fn.plan.jobs) l.working.items;
  apart : ApartSoFar (λ s. s.pass.given) (λ s. s.pass.count) 2 l.working.items l.pass.given;
  left : (17 * 1040001) ≤ l.pass.count + l._worker * 1040001;
}
