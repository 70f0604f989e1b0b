use Rattle.std.proofs.Common.{◌∙◌, refl, sym, subst, Ok, arith}
use Rattle.sk_worker.specs.declared.job.Outcome.{Outcome}
use Rattle.sk_worker.specs.declared.job.Outcome.TheVariants.{Raised, Returned}
use Rattle.sk_iter.specs.Performs.{Performs}
use Rattle.sk_iter.specs.Stages.{RunsItem, pace_of}
use Rattle.sk_iter.proofs.Performing.{performs_nothing}
use Rattle.sk_iter.proofs.Stages.{breaks_item, one_more, one_raised, returned_none}
use Rattle.sk_iter.proofs.call.Call.run_items.Goals as goal

pub loop-n-init : goal.loop-n-init
loop-n-init g c =
    let done : Unit {0} = tt in
    let P = g.L.Link.carried c.args.link.now c.args.link.now in
    let told = g.I.Items.told c.args.items.now in (
      refl,
      subst (λ ds. Performs {T = Unit {0}} P told told c.args.self.now.jid.now ds (Ok done)) (sym (returned_none (pace_of c.args.self.now)))
          (performs_nothing {T = Unit {0}} P told c.args.self.now.jid.now done (g.met.L.Link.carried_none c.args.link.now)),
    )

pub returns-in-Ok-Raised-clause-ran : goal.returns-in-Ok-Raised-clause-ran
returns-in-Ok-Raised-clause-ran g c =
    let P = g.L.Link.carried c.args.link.now c.loop-n.link in
    let Q = g.L.Link.carried c.loop-n.link c.run_item.new.link in
    let R = g.L.Link.carried c.args.link.now c.run_item.new.link in
    let a = g.I.Items.told c.args.items.now in
    let b = g.I.Items.told c.loop-n.items in
    let d = g.I.Items.told c.run_item.new.items in
    let one : RunsItem Q b d (pace_of c.args.self.now) c.loop-n.n (Ok (Raised c.in-Ok-Raised.it)) =
    subst (λ (o : Outcome). RunsItem Q b d (pace_of c.args.self.now) c.loop-n.n (Ok o)) c.in-Ok-Raised.field-0-is c.in-Ok-Raised.ensures.ran in
    one_raised P Q R a b d (λ cs ds p q. g.met.L.Link.carried_more c.args.link.now c.loop-n.link c.run_item.new.link cs ds p q) c.args.self.now c.loop-n.n c.in-Ok-Raised.it
    (omega arith) (omega arith) c.loop-n.invariant.1 one

pub returns-in-Err-clause-ran : goal.returns-in-Err-clause-ran
returns-in-Err-clause-ran g c =
    let P = g.L.Link.carried c.args.link.now c.loop-n.link in
    let Q = g.L.Link.carried c.loop-n.link c.run_item.new.link in
    let R = g.L.Link.carried c.args.link.now c.run_item.new.link in
    breaks_item P Q R (g.I.Items.told c.args.items.now) (g.I.Items.told c.loop-n.items) (g.I.Items.told c.run_item.new.items)
    (λ cs ds p q. g.met.L.Link.carried_more c.args.link.now c.loop-n.link c.run_item.new.link cs ds p q) c.args.self.now c.loop-n.n c.in-Err.fault
    (omega arith) (omega arith) c.loop-n.invariant.1 c.in-Err.ensures.ran

pub loop-n-preserved : goal.loop-n-preserved
loop-n-preserved g c =
    let P = g.L.Link.carried c.args.link.now c.loop-n.link in
    let Q = g.L.Link.carried c.loop-n.link c.run_item.new.link in
    let R = g.L.Link.carried c.args.link.now c.run_item.new.link in
    let a = g.I.Items.told c.args.items.now in
    let b = g.I.Items.told c.loop-n.items in
    let d = g.I.Items.told c.run_item.new.items in
    let one : RunsItem Q b d (pace_of c.args.self.now) c.loop-n.n (Ok Returned) =
    subst (λ (o : Outcome). RunsItem Q b d (pace_of c.args.self.now) c.loop-n.n (Ok o)) c.in-Ok-Returned.field-0-is c.in-Ok-Returned.ensures.ran in (
      c.run_item.ensures.count ∙ c.loop-n.invariant.0,
      one_more P Q R a b d (λ cs ds p q. g.met.L.Link.carried_more c.args.link.now c.loop-n.link c.run_item.new.link cs ds p q) (pace_of c.args.self.now) c.loop-n.n
          c.loop-n.invariant.1 one,
    )
