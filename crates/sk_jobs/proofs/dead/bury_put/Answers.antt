use Rattle.std.proofs.Common.{◌∙◌, List, ap, refl, sym, take}
use Rattle.sk_places.specs.declared.row.Row.{Row}
use Rattle.sk_model.specs.Change.{perform}
use Rattle.sk_model.proofs.Commands.Sets.{trims_quiet}
use Rattle.sk_store.specs.Stored.{world}
use Rattle.sk_jobs.specs.Routing.{dead_rows, texts_of, trims}
use Rattle.sk_jobs.proofs.Burying.{buried_is}
use Rattle.sk_jobs.proofs.Covering.{quiet_covered}
use Rattle.sk_jobs.proofs.dead.bury_put.Goals as goal

pub returns-clause-ok : goal.returns-clause-ok
returns-clause-ok c = λ text same.
    let u = world c.args.store.now in
    let front = sym c.surplus_count-count.ensures.is in
    buried_is u (world c.trim_front.new.store) (world c.notify.new.store) text c.args.member _ (c.in_ok-trimmed.ensures.ok ∙ ap (λ rows. perform u (trims rows)) front) same c.in_ok-fired.ensures.ok refl refl
    (c.in_ok-trimmed.ensures.texts ∙ ap texts_of front)

pub returns-clause-aside : goal.returns-clause-aside
returns-clause-aside c = λ test others aside is. c.in_ok-fired.ensures.aside test others aside (c.in_ok-trimmed.ensures.aside test others aside is)

pub notify-requires : goal.notify-requires
notify-requires c =
    let u = world c.args.store.now in
    let rows : List Row = take c.surplus_count-count.result (dead_rows u) in
    quiet_covered u (world c.trim_front.new.store) (trims rows) c.in_ok-trimmed.ensures.ok (trims_quiet rows) c.requires.covered
