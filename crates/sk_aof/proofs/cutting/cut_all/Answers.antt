use Rattle.std.proofs.Common.{◌≡◌, List, [], ◌∷◌, ◌++◌, refl, sym, ap, ◌∙◌, subst, arith, true}
use Rattle.std.specs.Prelude.{Err}
use Rattle.sk_log.specs.File.{Body}
use Rattle.sk_log.specs.declared.fault.LogFault.{LogFault}
use Rattle.sk_log.specs.declared.fault.LogFault.TheVariants.{Memory}
use Rattle.sk_log.specs.Appending.{Adds, AddsOrKeeps}
use Rattle.sk_seats.specs.Phases.{is_plain}
use Rattle.sk_model.specs.World.{World, phase_of}
use Rattle.sk_model.specs.Event.{Cut}
use Rattle.sk_model.specs.Change.{perform}
use Rattle.sk_model.specs.Step.{cut}
use Rattle.sk_aof.specs.Appends.{Appends, LeavesFront}
use Rattle.sk_aof.specs.Bodies.{body_of}
use Rattle.sk_aof.specs.Causes.{Hinders}
use Rattle.sk_aof.specs.Cuts.{CutsStop, cut_bodies}
use Rattle.sk_aof.proofs.Appending.{more_appended, more_left, none_appended, one_appended, one_left}
use Rattle.sk_aof.proofs.Beginning.{if_err_from}
use Rattle.sk_aof.proofs.Hindering.{hindered, starved}
use Rattle.sk_aof.proofs.SeatsCut.{bodies_cut, least_plain, plain_on, world_cut}
use Rattle.sk_aof.proofs.cutting.cut_all.Goals as goal

pub loop-seat-init : goal.loop-seat-init
loop-seat-init g c =
    let D = g.D.Disk in
    record {
      cuts = record { seats = []; world_is = refl; appends = none_appended D.may_leave D.moment D.left_since c.args.log.now c.args.disk.now (λ image left. g.met.D.Disk.only_now c.args.disk.now image left) };
      plain = λ seat none. absurd none;
      later = omega arith;
    }

pub returns-in_err-append-clause-any_moment : goal.returns-in_err-append-clause-any_moment
returns-in_err-append-clause-any_moment g c =
    let D = g.D.Disk in
    let cuts = c.loop-seat.invariant.cuts in
    let body = body_of (Cut c.in-Some.seat) in
    let adds : AddsOrKeeps D.may_leave D.moment D.left_since (body ∷ []) c.loop-seat.log c.loop-seat.disk c.append.new.disk =
    subst (λ (b : Body). AddsOrKeeps D.may_leave D.moment D.left_since (b ∷ []) c.loop-seat.log c.loop-seat.disk c.append.new.disk) c.in_ok-entry.ensures c.in_err-append.ensures.any_moment in
    let left = more_left D.may_leave D.moment D.left_since (cut_bodies cuts.seats) (body ∷ []) c.args.log.now c.args.disk.now c.loop-seat.log c.loop-seat.disk cuts.appends c.append.new.disk
    (one_left D.may_leave D.moment D.left_since body c.loop-seat.log c.loop-seat.disk c.append.new.disk adds) in
    (cuts.seats ++ c.in-Some.seat ∷ [], subst (λ (bodies : List Body). LeavesFront D.may_leave D.moment D.left_since bodies c.args.log.now c.args.disk.now c.append.new.disk) (sym (bodies_cut cuts.seats c.in-Some.seat)) left)

pub loop-seat-preserved : goal.loop-seat-preserved
loop-seat-preserved g c =
    let D = g.D.Disk in
    let inv = c.loop-seat.invariant in
    let cuts = inv.cuts in
    let seat = c.in-Some.seat in
    let body = body_of (Cut seat) in
    let keeps = subst (λ (b : Body). AddsOrKeeps D.may_leave D.moment D.left_since (b ∷ []) c.loop-seat.log c.loop-seat.disk c.append.new.disk) c.in_ok-entry.ensures c.in_ok-append.ensures.any_moment in
    let adds = subst (λ (b : Body). Adds (b ∷ []) c.loop-seat.log (D.may_leave c.loop-seat.disk) c.append.new.self (D.may_leave c.append.new.disk)) c.in_ok-entry.ensures c.in_ok-append.ensures.ok in
    let logged = one_appended D.may_leave D.moment D.left_since body c.loop-seat.log c.loop-seat.disk c.append.new.self c.append.new.disk keeps adds in
    record {
      cuts = record {
        seats = cuts.seats ++ seat ∷ [];
        world_is = c.cut.ensures ∙ ap (λ (w : World). perform w (cut seat).changes) cuts.world_is ∙ world_cut c.args.core.now cuts.seats seat;
        appends = subst (λ (bodies : List Body). Appends D.may_leave D.moment D.left_since bodies c.args.log.now c.args.disk.now c.append.new.self c.append.new.disk) (sym (bodies_cut cuts.seats seat))
            (more_appended D.may_leave D.moment D.left_since (cut_bodies cuts.seats) (body ∷ []) c.args.log.now c.args.disk.now c.loop-seat.log c.loop-seat.disk cuts.appends c.append.new.self c.append.new.disk logged);
      };
      plain = λ other le. subst (λ (w : World). is_plain (phase_of w other) ≡ true) (sym c.cut.ensures)
          (plain_on c.loop-seat.core.phases seat other (least_plain c.loop-seat.core.phases c.loop-seat.after seat other c.in-Some.ensures inv.plain le));
      later = omega (arith, inv.later, c.in_ok-append.ensures.later);
    }

pub returns-in_err-entry-clause-err : goal.returns-in_err-entry-clause-err
returns-in_err-entry-clause-err g c =
    let D = g.D.Disk in
    let seat = c.in-Some.seat in
    if_err_from c.from_residual.result (CutsStop D.may_leave D.moment D.left_since c.args.log.now c.args.disk.now c.args.core.now c.loop-seat.core)
    (λ e is.
    let same : e ≡ Memory = cc is in
    record { gate = c.loop-seat.log; disk = c.loop-seat.disk; cuts = c.loop-seat.invariant.cuts; seat = seat; cause = starved c.loop-seat.log (cut_bodies (seat ∷ [])) e same }) c.from_residual.ensures.1

pub returns-in_err-append-clause-err : goal.returns-in_err-append-clause-err
returns-in_err-append-clause-err g c =
    let D = g.D.Disk in
    let seat = c.in-Some.seat in
    let why = c.in_err-append.field-0.0 in
    let gate = c.loop-seat.log in
    let hinders = hindered gate c.in_ok-entry.entry why (λ is. c.in_err-append.ensures.full.0 (ap Err is)) c.in_err-append.ensures.only in
    let cause : Hinders gate (cut_bodies (seat ∷ [])) why = subst (λ (body : Body). Hinders gate (body ∷ []) why) c.in_ok-entry.ensures hinders in
    if_err_from c.from_residual-in_err-append.result (CutsStop D.may_leave D.moment D.left_since c.args.log.now c.args.disk.now c.args.core.now c.loop-seat.core)
    (λ e is.
    let same : why ≡ e = cc is in
    record { gate = gate; disk = c.loop-seat.disk; cuts = c.loop-seat.invariant.cuts; seat = seat; cause = subst (λ (f : LogFault). Hinders gate (cut_bodies (seat ∷ [])) f) same cause })
    c.from_residual-in_err-append.ensures.1
