use Rattle.sk_desk.proofs.Journals.{ask_acknowledged, ask_counted, ask_cuts_none}
use Rattle.sk_desk.proofs.hub.Hub.ask.Goals as goal

pub returns-clause-acked : goal.returns-clause-acked
returns-clause-acked g c = ask_acknowledged _ _ _ _ _ _ _ _ _ c.ask-reply.ensures.asks

pub returns-clause-asked : goal.returns-clause-asked
returns-clause-asked g c = ask_counted _ _ _ _ _ _ _ _ _ c.ask-reply.ensures.asks

pub returns-clause-cuts : goal.returns-clause-cuts
returns-clause-cuts g c = ask_cuts_none _ _ _ _ _ _ _ _ _ c.ask-reply.ensures.asks
