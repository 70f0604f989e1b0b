use Rattle.std.proofs.Common.{◌≡◌, ◌∙◌, ◌/◌, ap, arith, length, sym, Err, subst}
use Rattle.std.specs.Prelude.{All, map, reverse, vec_len}
use Rattle.std.specs.List.{sum_by}
use Rattle.std.proofs.lemmas.List.{take_at}
use Rattle.std.proofs.lemmas.List.Elements.{length_all_zip}
use Rattle.sk_desk.specs.Pass.{PassView}
use Rattle.sk_serve.specs.Attending.{Attends}
use Rattle.sk_serve.specs.Server.{HaveRun, IsFresh}
use Rattle.sk_serve.proofs.Accounts.{all_run, became, by_fault}
use Rattle.sk_serve.proofs.Counting.{some_each}
use Rattle.sk_serve.proofs.Parts.{parts_back}
use Rattle.sk_serve.proofs.server.serve_at.Goals as goal

pub loops_for-requires-clause-some : goal.loops_for-requires-clause-some
loops_for-requires-clause-some g c κs within = some_each 4294967294 c.len-count.result (omega (arith, c.requires.ears, c.len-count.ensures)) (omega (arith, c.requires.ears, c.len-count.ensures))

pub returns-in-Ok-ended-clause-parts : goal.returns-in-Ok-ended-clause-parts
returns-in-Ok-ended-clause-parts g c =
    parts_back g.E.Ear (Attends g.W.Settlers.holds_back g.B.Book.wants_words g.E.Conn.Source g.E.Conn.Sink g.K.Clock g.W.Settler.Settler) c.args.shared.now.others _ _ _ _ _ _ _ _ _ _
    c.run_on-ended.ensures.ran c.loops_for.ensures.fresh c.as_mut_slice.ensures.value c.as_mut_slice.ensures.len c.gather-served.ensures.parts c.loops_for.ensures.parts c.loops_for.ensures.len

pub returns-in-Err-clause-parts : goal.returns-in-Err-clause-parts
returns-in-Err-clause-parts g c =
    parts_back g.E.Ear (Attends g.W.Settlers.holds_back g.B.Book.wants_words g.E.Conn.Source g.E.Conn.Sink g.K.Clock g.W.Settler.Settler) c.args.shared.now.others _ _ _ _ _ _ _ _ _ _
    c.run_on-ended.ensures.ran c.loops_for.ensures.fresh c.as_mut_slice.ensures.value c.as_mut_slice.ensures.len c.gather-served.ensures.parts c.loops_for.ensures.parts c.loops_for.ensures.len

pub returns-in-Ok-ended-clause-ended : goal.returns-in-Ok-ended-clause-ended
returns-in-Ok-ended-clause-ended g c =
    let old = c.as_mut_slice.result.now in
    let new = c.run_on-ended.new.loops in
    let ran = c.run_on-ended.ensures.ran in
    let long : length new ≡ vec_len c.loops_for.new.loops = sym (length_all_zip _ old new ran) ∙ c.as_mut_slice.ensures.len in
    let back = take_at new _ (vec_len c.loops_for.new.loops) long in
    let numbers = 4294967294 / c.len-count.result in
    let fresh = subst (All (IsFresh numbers)) (sym c.as_mut_slice.ensures.value) c.loops_for.ensures.fresh in
    let none = c.loops_for.ensures.amount ∙ ap (λ (p : PassView). p.amount) c.requires.pass in
    became g.E.Ear (Attends g.W.Settlers.holds_back g.B.Book.wants_words g.E.Conn.Source g.E.Conn.Sink g.K.Clock g.W.Settler.Settler) c.args.shared.now.others numbers old new ran fresh c.args.ears.now.items c.gather-served.new.ears.items
    (HaveRun g.E.Ear c.args.shared.now.sessions (vec_len c.args.ears.now) c.gather-served.result c.gather-served.new.pass.amount)
    (ap (map (λ l. l.ear)) c.as_mut_slice.ensures.value ∙ c.loops_for.ensures.ears) (c.gather-served.ensures.ears ∙ ap (λ loops. reverse (map (λ l. l.ear) loops)) back)
    (all_run g.E.Ear (Attends g.W.Settlers.holds_back g.B.Book.wants_words g.E.Conn.Source g.E.Conn.Sink g.K.Clock g.W.Settler.Settler) c.args.shared.now.others numbers old new ran fresh c.args.shared.now.sessions (vec_len c.args.ears.now) _ _
    (omega (arith, c.requires.ears)) c.in-Ok-ended.ensures.settled c.in-Ok-ended.ensures.whole
    (c.gather-served.ensures.sessions ∙ ap (sum_by (λ l. l.served)) back)
    (omega (arith, c.gather-served.ensures.amount, none, ap (sum_by (λ l. l.pass.amount)) back)))

pub returns-in-Err-clause-ended : goal.returns-in-Err-clause-ended
returns-in-Err-clause-ended g c =
    let old = c.as_mut_slice.result.now in
    let new = c.run_on-ended.new.loops in
    let ran = c.run_on-ended.ensures.ran in
    let long : length new ≡ vec_len c.loops_for.new.loops = sym (length_all_zip _ old new ran) ∙ c.as_mut_slice.ensures.len in
    let back = take_at new _ (vec_len c.loops_for.new.loops) long in
    let numbers = 4294967294 / c.len-count.result in
    let fresh = subst (All (IsFresh numbers)) (sym c.as_mut_slice.ensures.value) c.loops_for.ensures.fresh in
    by_fault g.E.Ear (Attends g.W.Settlers.holds_back g.B.Book.wants_words g.E.Conn.Source g.E.Conn.Sink g.K.Clock g.W.Settler.Settler) c.args.shared.now.others numbers old new ran fresh (vec_len c.args.ears.now) c.args.ears.now.items c.gather-served.new.ears.items
    c.in-Err.fault (ap (λ k. 4294967294 / k) c.len-count.ensures)
    (ap (map (λ l. l.ear)) c.as_mut_slice.ensures.value ∙ c.loops_for.ensures.ears) (c.gather-served.ensures.ears ∙ ap (λ loops. reverse (map (λ l. l.ear) loops)) back)
    (λ is. c.run_on-ended.ensures.failed (c.in-Err.is ∙ ap Err is)) (λ is. c.run_on-ended.ensures.spent (c.in-Err.is ∙ ap Err is)) (λ is. c.run_on-ended.ensures.unsettled (c.in-Err.is ∙ ap Err is))
