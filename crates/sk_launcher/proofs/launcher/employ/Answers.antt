use Rattle.std.proofs.Common.{◌≡◌, [], false, refl, arith}
use Rattle.std.proofs.lemmas.List.{length-map}
use Rattle.sk_launcher.specs.Connections.{none}
use Rattle.sk_launcher.specs.Working.{hired_worker, hired_workers}
use Rattle.sk_launcher.proofs.Employed.{all_placed, back, none_taken, on_ok, stood_still, went_on_began}
use Rattle.sk_launcher.proofs.Hiring.{empty_staff}
use Rattle.sk_launcher.proofs.launcher.employ.Goals as goal

pub returns-then-is_some-clause-is : goal.returns-then-is_some-clause-is
returns-then-is_some-clause-is g c =
    let nobody = empty_staff (hired_worker g.C.Clock.moments (λ v. (goal.Job-dyn g v).runs v.1)) c.args.staff.now.items (omega (arith, c.requires.room)) in
    record {
      hired = [];
      hiring = ([], none, refl);
      working = rw nobody (stood_still _ _ _ []);
    }

pub returns-clause-all : goal.returns-clause-all
returns-clause-all g c =
    let moments = g.C.Clock.moments in
    let mid = c.hire_all-hired.new.staff.items in
    let new = c.work.new.staff.items in
    on_ok c.hire_all-hired.result c.hire_all-hired.ensures.enough (λ enough some whole.
    let before = back _ (λ w. w.ended ≡ false) (λ w. w.ended ≡ false) (went_on_began _ _) (hired_workers moments (λ v. (goal.Job-dyn g v).runs v.1) mid) (hired_workers moments (λ v. (goal.Job-dyn g v).runs v.1) new) c.work.ensures.worked.worked whole.1 in
    let all = enough (all_placed (λ w. w.ended ≡ false) (hired_worker moments (λ v. (goal.Job-dyn g v).runs v.1)) mid before) in
    record {
      some = some;
      all = omega (arith, length-map new (hired_worker moments (λ v. (goal.Job-dyn g v).runs v.1)), c.work.ensures.same, all);
      taken = c.work.ensures.taken all some (c.requires.begun, none_taken _ _ _ _ _ c.hire_all-hired.ensures.hired) whole;
    })
