use Rattle.std.proofs.Common.{◌≡◌, ◌*◌, ◌∙◌, List, ap, arith, min, pos, subst, take}
use Rattle.std.specs.Prelude.{filter, nat_abs}
use Rattle.std.specs.Ordering.{int_cmp, is_le}
use Rattle.sk_base.specs.Score.{last_moment}
use Rattle.sk_places.specs.declared.row.Row.{Row}
use Rattle.sk_store.specs.Stored.{world}
use Rattle.sk_jobs.specs.Routing.{set_rows}
use Rattle.sk_jobs.proofs.Fronts.{due_is}
use Rattle.sk_jobs.proofs.scripts.due_count.Goals as goal

pub returns-clause-is : goal.returns-clause-is
returns-clause-is c =
    let w = world c.args.store.now in
    let rows : List Row = set_rows c.args.set w in
    let few : min w.moment last_moment ≡ w.moment = omega (arith, c.requires) in
    let number : min c.range_of-end.result.1 (nat_abs c.args.limit) ≡ c.min.result = grind (arith, c.min.ensures, c.unsigned_abs.ensures.value) in
    subst (λ b. take (nat_abs c.args.limit) (filter (λ (row : Row). is_le (int_cmp row.score b)) rows) ≡ take c.min.result rows) (c.of_moment.ensures ∙ ap (λ n. pos (n * 1000)) few)
    (due_is c.of_moment.result (nat_abs c.args.limit) _ _ rows c.range_of-end.ensures ∙ ap (λ n. take n rows) number)
