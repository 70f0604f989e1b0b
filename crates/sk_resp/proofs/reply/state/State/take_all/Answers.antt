use Rattle.std.proofs.Common.{◌≡◌, ◌-◌, [], ◌∷◌, ◌++◌, length, take, drop, map, subst, sym, ap, ◌∙◌, arith, append_assoc, append-nil, length-take-le, length-drop}
use Rattle.std.proofs.lemmas.Result.{err_from_is_err_and}
use Rattle.std.proofs.lemmas.List.{take_all, map-append}
use Rattle.sk_resp.specs.Reply.{wire}
use Rattle.sk_resp.specs.ReplyStream.{IsRead}
use Rattle.sk_resp.specs.ReplyMachine.{says, given, run_within, go_within, gives, AreRead}
use Rattle.sk_resp.proofs.ReplyOpens.{all-append}
use Rattle.sk_resp.proofs.ReplyRuns.{runs-more}
use Rattle.sk_resp.proofs.ReplyHearing.{reached_next, reads, stops, rest_is, first_is}
use Rattle.sk_resp.proofs.reply.state.State.take_all.Goals as goal

pub returns-in_err-taken-clause-fault : goal.returns-in_err-taken-clause-fault
returns-in_err-taken-clause-fault c =
    let p = err_from_is_err_and c.from_residual.result c.from_residual.ensures.1 in
    let l = c.loop-at in
    let piece = c.args.piece.now in
    let so_far = l.invariant.so_far in
    rw p.1 (
      so_far.0,
      so_far.1,
      stops (says c.args.self.now) (says l.self) piece l.at (map wire so_far.0) p.0 c.requires.0 (omega (arith, c.loop-at-test.true)) so_far.2
          (λ fault. ap (go_within (says l.self)) (sym (first_is piece l.at (omega (arith, c.loop-at-test.true)))) ∙ c.in_err-taken.ensures.fault (λ e. fault (p.2 ∙ e))),
    )

pub returns-in_err-push-in-Some-clause-fault : goal.returns-in_err-push-in-Some-clause-fault
returns-in_err-push-in-Some-clause-fault c =
    let p = err_from_is_err_and c.from_residual-in_err-push-in-Some.result c.from_residual-in_err-push-in-Some.ensures.1 in
    let l = c.loop-at in
    let so_far = l.invariant.so_far in
    rw p.1 (
      so_far.0,
      record { is = c.in_err-push-in-Some.ensures.items ∙ so_far.1.is; read = so_far.1.read },
      stops (says c.args.self.now) (says l.self) c.args.piece.now l.at (map wire so_far.0) p.0 c.requires.0 (omega (arith, c.loop-at-test.true)) so_far.2 (λ fault. absurd (fault p.2)),
    )

pub loop-at-preserved-in-None : goal.loop-at-preserved-in-None
loop-at-preserved-in-None c =
    let l = c.loop-at in
    let piece = c.args.piece.now in
    let so_far = l.invariant.so_far in
    let taken = c.in_ok-taken.taken in
    let n = says c.take_some.new.self in
    let ok = c.in_ok-taken.ensures.ok in
    let e : run_within (says l.self) (take taken (drop l.at piece)) ≡ gives [] n =
    ap (λ z. run_within (says l.self) (take taken z)) (sym (rest_is piece l.at)) ∙ ok.1 ∙ ap (λ f. gives (given f) n) c.in-None.is in
    record {
      heard = (reached_next (says l.self) n (take taken (drop l.at piece)) [] l.invariant.heard.0 e, c.in_ok-taken.ensures.sized);
      within = omega (arith, ok.0.1, l.invariant.within, length-take-le (length piece - l.at) (drop l.at piece), length-drop l.at piece);
      so_far = (
        so_far.0,
        so_far.1,
        runs-more go_within (says c.args.self.now) (says l.self) n piece l.at taken (map wire so_far.0) [] so_far.2 e ∙ ap (λ z. gives z n) (append-nil (map wire so_far.0)),
      );
    }

pub loop-at-preserved : goal.loop-at-preserved
loop-at-preserved c =
    let l = c.loop-at in
    let piece = c.args.piece.now in
    let so_far = l.invariant.so_far in
    let taken = c.in_ok-taken.taken in
    let reply = c.in-Some.reply in
    let n = says c.take_some.new.self in
    let ok = c.in_ok-taken.ensures.ok in
    let e : run_within (says l.self) (take taken (drop l.at piece)) ≡ gives (wire reply ∷ []) n =
    ap (λ z. run_within (says l.self) (take taken z)) (sym (rest_is piece l.at)) ∙ ok.1 ∙ ap (λ f. gives (given f) n) c.in-Some.is in
    let read : IsRead reply = subst AreRead c.in-Some.is c.in_ok-taken.ensures.read in
    record {
      heard = (reached_next (says l.self) n (take taken (drop l.at piece)) (wire reply ∷ []) l.invariant.heard.0 e, c.in_ok-taken.ensures.sized);
      within = omega (arith, ok.0.1, l.invariant.within, length-take-le (length piece - l.at) (drop l.at piece), length-drop l.at piece);
      so_far = (
        so_far.0 ++ reply ∷ [],
        record {
          is = c.in_ok-push-in-Some.ensures.items ∙ ap (λ z. z ++ reply ∷ []) so_far.1.is ∙ append_assoc c.args.out.now.items so_far.0 (reply ∷ []);
          read = all-append IsRead so_far.0 (reply ∷ []) so_far.1.read (read, tt);
        },
        runs-more go_within (says c.args.self.now) (says l.self) n piece l.at taken (map wire so_far.0) (wire reply ∷ []) so_far.2 e ∙ ap (λ z. gives z n) (sym (map-append wire so_far.0 (reply ∷ []))),
      );
    }

pub returns-clause-ok : goal.returns-clause-ok
returns-clause-ok c =
    let l = c.loop-at in
    let piece = c.args.piece.now in
    let so_far = l.invariant.so_far in
    let e : run_within (says c.args.self.now) piece ≡ gives (map wire so_far.0) (says l.self) = ap (run_within (says c.args.self.now)) (sym (take_all l.at piece (omega (arith, c.loop-at-test.false)))) ∙ so_far.2 in (
      l.invariant.heard,
      (so_far.0, so_far.1, reads (says c.args.self.now) (says l.self) piece (map wire so_far.0) c.requires.0 e),
    )
