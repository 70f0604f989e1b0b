use Rattle.std.proofs.Common.{◌∙◌, ap, arith}
use Rattle.sk_desk.specs.Pass.{DeskView, PassView}
use Rattle.sk_serve.proofs.Attended.{summary_of}
use Rattle.sk_serve.proofs.Seated.{some_left}
use Rattle.sk_serve.proofs.accept_loop.serve_one.Goals as goal

pub returns-clause-served : goal.returns-clause-served
returns-clause-served g c =
    let seated = ap (λ (p : PassView). p.count) c.in-Ok.ensures.pass in
    let some = some_left c.args.pass.now.count (λ none. absurd (cc (c.in-Ok.ensures.spent.1 none))) in
    let ended = c.end.ensures in
    let new = ap (λ (d : DeskView). d.amount) c.new-gated.ensures ∙ ap (λ (d : DeskView). d.amount) c.new-desk.ensures ∙ ap (λ (d : DeskView). d.amount) c.in-Ok.ensures.seat in (
      omega (arith, some, seated, ap (λ (p : PassView). p.count) ended),
      (
        c.attend-conn.new.desk.desk.amount,
        summary_of g.B.Book.wants_words (λ d. d.desk.amount) g.C.Source g.C.Sink g.K.Clock g.W.Settler.Settler c.new-gated.result c.attend-conn.new.desk c.args.clock.now c.attend-conn.new.clock c.args.conn
            c.attend-conn.result.0 c.attend-conn.result.1 new g.W.Settlers.holds_back c.attend-conn.ensures,
        omega (arith, ap (λ (p : PassView). p.amount) ended, ap (λ (p : PassView). p.amount) c.in-Ok.ensures.pass, ap (λ (d : DeskView). d.amount) c.into_parts-desk.ensures),
      ),
    )
