use Rattle.std.proofs.Common.{◌∙◌, subst, sym}
use Rattle.sk_model.specs.Rescue.{rescue}
use Rattle.sk_model.specs.World.{World, phase_of}
use Rattle.sk_store.proofs.Steps.{whole}
use Rattle.sk_store.specs.Stored.{Executes, world}
use Rattle.sk_jobs.proofs.Working.{plain_is}
use Rattle.sk_jobs.proofs.scripts.rescue.Goals as goal

pub returns-in-Plain : goal.returns-in-Plain
returns-in-Plain c =
    let old = c.args.store.now in
    let o = λ (v : World). rescue v in
    let ran = whole old c.begin.new.self c.rescue_open-done.new.store c.close.new.self o c.rescue_open-done.result c.close.result
    c.requires.ready c.begin.ensures c.rescue_open-done.ensures.step c.rescue_open-done.ensures.ok c.close.ensures.same c.close.ensures.ok c.close.ensures.err in
    subst (λ outcome. Executes old outcome c.close.result c.close.new.self) (sym (plain_is (phase_of (world old) c.args.seat) (o (world old)) (sym c.get.ensures.is ∙ c.in-Plain.is))) ran
