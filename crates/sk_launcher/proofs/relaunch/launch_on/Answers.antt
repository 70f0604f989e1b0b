use Rattle.std.proofs.Common.{◌≡◌, ◌∙◌, ap, arith, refl, subst, sym}
use Rattle.sk_launcher.specs.Patience.{numbered, result_of}
use Rattle.sk_launcher.specs.Promises.{EndedBy}
use Rattle.sk_launcher.proofs.Relaunches.{all_end, as_long, stands_first, stands_next, starved_end, unlaunched}
use Rattle.sk_launcher.proofs.relaunch.launch_on.Goals as goal

pub loop-init : goal.loop-init
loop-init g c = (tt, tt, stands_first _ _ _ _ _ c.new-series.ensures.number c.new-series.ensures.counts, c.new-series.ensures.patience, refl, refl, refl, refl, omega arith)

pub loop-preserved : goal.loop-preserved
loop-preserved g c =
    let i = c.loop.invariant in
    let e = c.launch_once-end.ensures in
    let went = c.in-Ok.ensures in
    let told = subst (λ rs. EndedBy g.N.Door g.N.Conn.Source g.N.Conn.Sink (λ v. (goal.Job-dyn g v).runs v.1) rs c.loop.own c.loop.series.counts
    (c.loop.net, g.D.Dice.words c.loop.dice, c.loop.teams) c.launch_once-end.result
    (c.launch_once-end.new.net, g.D.Dice.words c.launch_once-end.new.dice, c.launch_once-end.new.teams)) i.4 e.told in (
      tt,
      tt,
      stands_next _ _ _ _ _ _ _ _ _ _ c.launch_once-end.new.own _ c.launch_once-end.result c.args.ident.now i.2 (c.loop.own, i.2.own_is, told) went.lost
          (λ z. went.none (i.3 ∙ z)) went.number went.counts e.same e.loops c.requires.ident c.in-Ok-rename.ensures.renamed,
      went.patience ∙ i.3,
      e.plain ∙ i.4,
      omega (arith, as_long (λ (team : _). team.classes) c.launch_once-end.new.teams.items c.loop.teams.items e.teams, i.5),
      e.teams ∙ i.6,
      e.rules ∙ i.7,
      omega (arith, i.8, e.later),
    )

pub returns-in-Err-clause-told : goal.returns-in-Err-clause-told
returns-in-Err-clause-told g c =
    let i = c.loop.invariant in
    let told = subst (λ rs. EndedBy g.N.Door g.N.Conn.Source g.N.Conn.Sink (λ v. (goal.Job-dyn g v).runs v.1) rs c.loop.own c.loop.series.counts
    (c.loop.net, g.D.Dice.words c.loop.dice, c.loop.teams) c.launch_once-end.result
    (c.launch_once-end.new.net, g.D.Dice.words c.launch_once-end.new.dice, c.launch_once-end.new.teams)) i.4 c.launch_once-end.ensures.told in
    all_end g.N.Door g.N.Conn.Source g.N.Conn.Sink (λ v. (goal.Job-dyn g v).runs v.1) c.args.rules.now c.args.own.now _ _ _ _ _ _ _ _ _ c.loop.own
    c.launch_once-end.result _ i.2 told (c.result.ensures ∙ ap result_of c.in-Err.ensures.last)

pub returns-in_default-clause-told : goal.returns-in_default-clause-told
returns-in_default-clause-told g c =
    let i = c.loop.invariant in
    let e = c.launch_once-end.ensures in
    let went = c.in-Ok.ensures in
    let told = subst (λ rs. EndedBy g.N.Door g.N.Conn.Source g.N.Conn.Sink (λ v. (goal.Job-dyn g v).runs v.1) rs c.loop.own c.loop.series.counts
    (c.loop.net, g.D.Dice.words c.loop.dice, c.loop.teams) c.launch_once-end.result
    (c.launch_once-end.new.net, g.D.Dice.words c.launch_once-end.new.dice, c.launch_once-end.new.teams)) i.4 e.told in
    all_end g.N.Door g.N.Conn.Source g.N.Conn.Sink (λ v. (goal.Job-dyn g v).runs v.1) c.args.rules.now c.args.own.now _ _ _ _ _ _
    (c.launch_once-end.new.net, g.D.Dice.words c.launch_once-end.new.dice, c.launch_once-end.new.teams) c.go_on.new.self.number c.go_on.new.self.counts
    (record c.launch_once-end.new.own { ident = numbered c.args.ident.now c.go_on.new.self.number }) (starved_end c.go_on.new.self.counts) _
    (stands_next _ _ _ _ _ _ _ _ _ _ c.launch_once-end.new.own _ c.launch_once-end.result c.args.ident.now i.2 (c.loop.own, i.2.own_is, told) went.lost
    (λ z. went.none (i.3 ∙ z)) went.number went.counts e.same e.loops c.requires.ident refl) (unlaunched _ _ _ _ _ _ _) refl
