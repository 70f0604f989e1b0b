use Rattle.std.proofs.Common.{◌+◌, ◌-◌, [], ◌∷◌, ◌++◌, length, take, drop, subst, sym, ap, ◌∙◌, arith, append_assoc, append-nil, length-take-le, length-drop}
use Rattle.std.proofs.lemmas.Result.{err_from_is_err_and}
use Rattle.std.proofs.lemmas.List.{take_all}
use Rattle.sk_resp.specs.Stream.{Opens, Faulty}
use Rattle.sk_resp.specs.Reading.{seen, Took, given}
use Rattle.sk_resp.proofs.Streams.{open_at, took_open, opens_took, whole_piece, faulty_at}
use Rattle.sk_resp.proofs.request.state.State.take_all.Goals as goal

pub returns-in_err-taken-clause-fault : goal.returns-in_err-taken-clause-fault
returns-in_err-taken-clause-fault c =
    let p = err_from_is_err_and c.from_residual.result c.from_residual.ensures.1 in
    let l = c.loop-at in
    let so_far = l.invariant.so_far in
    rw p.1 (
      so_far.0,
      so_far.1,
      record {
        rest = seen l.self ++ drop l.at c.args.piece.now;
        opens = whole_piece (seen c.args.self.now) c.args.piece.now l.at so_far.0 (seen l.self) so_far.2;
        faulty = λ fault. subst (λ e. Faulty (seen c.args.self.now ++ c.args.piece.now) so_far.0 e) (sym p.2)
            (faulty_at (seen c.args.self.now) c.args.piece.now l.at so_far.0 l.self c.in_err-taken.field-0.0 so_far.2 (c.in_err-taken.ensures.fault (λ e. fault (p.2 ∙ e))));
      },
    )

pub returns-in_err-push-in-Some-clause-fault : goal.returns-in_err-push-in-Some-clause-fault
returns-in_err-push-in-Some-clause-fault c =
    let p = err_from_is_err_and c.from_residual-in_err-push-in-Some.result c.from_residual-in_err-push-in-Some.ensures.1 in
    let l = c.loop-at in
    let so_far = l.invariant.so_far in
    rw p.1 (
      so_far.0,
      c.in_err-push-in-Some.ensures.items ∙ so_far.1,
      record {
        rest = seen l.self ++ drop l.at c.args.piece.now;
        opens = whole_piece (seen c.args.self.now) c.args.piece.now l.at so_far.0 (seen l.self) so_far.2;
        faulty = λ fault. absurd (fault p.2);
      },
    )

pub loop-at-preserved-in-None : goal.loop-at-preserved-in-None
loop-at-preserved-in-None c =
    let l = c.loop-at in
    let piece = c.args.piece.now in
    let so_far = l.invariant.so_far in
    let ok = c.in_ok-taken.ensures.ok in
    let text = seen l.self ++ take c.in_ok-taken.taken (take (length piece - l.at) (drop l.at piece)) in
    let took : Took text [] c.take_some.new.self = subst (λ f. Took text (given f) c.take_some.new.self) c.in-None.is ok.1 in
    record {
      is_open = took_open text [] c.take_some.new.self took;
      within = omega (arith, ok.0.1, l.invariant.within, length-take-le (length piece - l.at) (drop l.at piece), length-drop l.at piece);
      so_far = (
        so_far.0,
        so_far.1,
        subst (λ z. Opens (seen c.args.self.now ++ take (l.at + c.in_ok-taken.taken) piece) z (seen c.take_some.new.self)) (append-nil so_far.0)
            (opens_took (seen c.args.self.now) piece l.at c.in_ok-taken.taken so_far.0 [] l.self c.take_some.new.self so_far.2 took),
      );
    }

pub loop-at-preserved : goal.loop-at-preserved
loop-at-preserved c =
    let l = c.loop-at in
    let piece = c.args.piece.now in
    let so_far = l.invariant.so_far in
    let ok = c.in_ok-taken.ensures.ok in
    let text = seen l.self ++ take c.in_ok-taken.taken (take (length piece - l.at) (drop l.at piece)) in
    let words = c.in-Some.words in
    let took : Took text (words ∷ []) c.take_some.new.self = subst (λ f. Took text (given f) c.take_some.new.self) c.in-Some.is ok.1 in
    record {
      is_open = took_open text (words ∷ []) c.take_some.new.self took;
      within = omega (arith, ok.0.1, l.invariant.within, length-take-le (length piece - l.at) (drop l.at piece), length-drop l.at piece);
      so_far = (
        so_far.0 ++ words ∷ [],
        c.in_ok-push-in-Some.ensures.items ∙ ap (λ z. z ++ words ∷ []) so_far.1 ∙ append_assoc c.args.out.now.items so_far.0 (words ∷ []),
        opens_took (seen c.args.self.now) piece l.at c.in_ok-taken.taken so_far.0 (words ∷ []) l.self c.take_some.new.self so_far.2 took,
      );
    }

pub returns-clause-ok : goal.returns-clause-ok
returns-clause-ok c =
    let l = c.loop-at in
    let so_far = l.invariant.so_far in (
      l.invariant.is_open,
      (
        so_far.0,
        so_far.1,
        record {
          opens = subst (λ z. Opens (seen c.args.self.now ++ z) so_far.0 (seen l.self)) (take_all l.at c.args.piece.now (omega arith)) so_far.2;
          none = open_at l.self.stage l.self l.invariant.is_open;
        },
      ),
    )
