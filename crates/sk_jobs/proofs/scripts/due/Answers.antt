use Rattle.std.proofs.Common.{◌≡◌, ◌∙◌, IfOk, of_z, rules, subst, sym, to_z, w64}
use Rattle.std.specs.Prelude.{nat_abs}
use Rattle.sk_model.specs.Jobs.{due}
use Rattle.sk_model.specs.Outcome.{Realizes}
use Rattle.sk_model.specs.World.{World, phase_of}
use Rattle.sk_store.proofs.Steps.{whole}
use Rattle.sk_store.specs.Stored.{Executes, world}
use Rattle.sk_jobs.proofs.Working.{plain_is}
use Rattle.sk_jobs.proofs.scripts.due.Goals as goal

pub returns-in-Plain : goal.returns-in-Plain
returns-in-Plain c =
    let old = c.args.store.now in
    let o = λ (v : World). due v c.args.set (nat_abs c.args.limit) in
    let same : to_z w64 (of_z w64 c.args.limit) ≡ c.args.limit = search rules in
    let did = subst (λ n. IfOk c.due_open-done.result (λ reply. Realizes (world c.begin.new.self) (due (world c.begin.new.self) c.args.set (nat_abs n)) reply (world c.due_open-done.new.store))) same c.due_open-done.ensures.ok in
    let ran = whole old c.begin.new.self c.due_open-done.new.store c.close.new.self o c.due_open-done.result c.close.result
    c.requires.ready c.begin.ensures c.due_open-done.ensures.step did c.close.ensures.same c.close.ensures.ok c.close.ensures.err in
    subst (λ outcome. Executes old outcome c.close.result c.close.new.self) (sym (plain_is (phase_of (world old) c.args.seat) (o (world old)) (sym c.get.ensures.is ∙ c.in-Plain.is))) ran
