use Rattle.std.proofs.Common.{false, [], ◌∷◌, Ok, Err}
use Rattle.sk_link.specs.Call.{answered}
use Rattle.sk_link.specs.declared.asking.Answer.TheVariants as answer
use Rattle.sk_worker.specs.Request.{join_words}
use Rattle.sk_worker.specs.Saying.{JoinOf}
use Rattle.sk_worker.proofs.Events.{by_test}
use Rattle.sk_worker.proofs.Lost.{says_ends}
use Rattle.sk_worker.proofs.worker.Worker.join.Goals as goal

pub returns-in-Ok-clause-told : goal.returns-in-Ok-clause-told
returns-in-Ok-clause-told g c =
    let ident = c.args.self.now.ident in
    by_test (λ b. JoinOf b (λ cs. g.L.Link.carried c.args.link.now c.say.new.link cs) ident (Ok tt)) c.args.self.now.ended false c.if-self.false
    (c.in-Ok.field-0, c.in-Ok.ensures (join_words ident) c.join_request-words.ensures)

pub returns-in-Ok-clause-link : goal.returns-in-Ok-clause-link
returns-in-Ok-clause-link g c =
    let request = join_words c.args.self.now.ident in
    g.met.L.Link.carried_ends _ _ (answered request c.in-Ok.field-0 ∷ []) (c.in-Ok.ensures request c.join_request-words.ensures).0

pub returns-clause-told : goal.returns-clause-told
returns-clause-told g c =
    let ident = c.args.self.now.ident in
    by_test (λ b. JoinOf b (λ cs. g.L.Link.carried c.args.link.now c.say.new.link cs) ident (Err c.in-Err.fault)) c.args.self.now.ended false c.if-self.false
    (c.in-Err.ensures (join_words ident) c.join_request-words.ensures)

pub returns-clause-link : goal.returns-clause-link
returns-clause-link g c =
    let request = join_words c.args.self.now.ident in
    says_ends (λ cs. g.L.Link.carried c.args.link.now c.say.new.link cs) _ _ request answer.Okay c.in-Err.fault
    (λ cs h. g.met.L.Link.carried_ends _ _ cs h) (c.in-Err.ensures request c.join_request-words.ensures)
