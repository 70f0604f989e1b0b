use Rattle.std.proofs.Common.{◌≡◌, ◌+◌, ◌++◌, Bool, List, length}
use Rattle.sk_places.specs.declared.row.Place.{Place}
use Rattle.sk_places.specs.declared.row.Place.TheVariants.{Private}
use Rattle.sk_places.specs.declared.row.Row.{Row}
use Rattle.sk_model.specs.Rescue.{rescue_row}
use Rattle.sk_store.specs.Stored.{InStep, world}
use Rattle.sk_jobs.specs.Callbacks.{AreCovered}
use Rattle.sk_jobs.specs.Rescuing.{own_rows}
use Rattle.sk_jobs.specs.Routing.{IsAside, rows_in}
use Rattle.sk_jobs.proofs.Routing.{IsLeft}
use Rattle.sk_jobs.proofs.rescues.rescue_list.Given as goal

abbrev pub decreases-loop-left : goal.decreases-loop-left
decreases-loop-left l = l.left

abbrev pub invariant-loop-left : goal.invariant-loop-left
invariant-loop-left l = record {
  place : l.list ≡ Private l.fn.ident;
  sent : IsLeft rescue_row (world l.initial.store) (world l.store) l.report (own_rows l.fn.ident (world l.initial.store)) (own_rows l.fn.ident (world l.store));
  left : (test : Place → Bool) (others : List Row) → IsAside test → rows_in test (world l.initial.store).rows ≡ own_rows l.fn.ident (world l.initial.store) ++ others → rows_in test (world l.store).rows ≡ own_rows l.fn.ident (world l.store) ++ others;
  enough : l.left ≡ length (own_rows l.fn.ident (world l.store));
  number : l.report.moved + l.report.buried + l.left ≡ length (own_rows l.fn.ident (world l.initial.store));
  covered : AreCovered l.store;
  step : InStep l.initial.store l.store;
}
