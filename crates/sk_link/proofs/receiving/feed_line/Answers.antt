use Rattle.std.proofs.Common.{◌++◌, ap, sym, ◌∙◌, map}
use Rattle.sk_resp.specs.Reply.{wire}
use Rattle.sk_link.proofs.Lines.{at_most_one, found, found_text, stuck}
use Rattle.sk_link.proofs.receiving.feed_line.Goals as goal

pub returns-in-Ok-clause-whole : goal.returns-in-Ok-clause-whole
returns-in-Ok-clause-whole c =
    let k = c.in-Ok.ensures.ok in
    found c.args.feeder.now.rest c.args.line.now _ k.2.0 c.pop.new.self.items c.pop.result
    (at_most_one c.no_reply_begins_another.ensures c.args.feeder.now.rest c.args.line.now (map wire k.2.0) _ c.requires.line c.requires.part k.2.2)
    (sym (k.2.1.is ∙ ap (λ xs. xs ++ k.2.0) c.new-out.ensures.items) ∙ c.pop.ensures.items)

pub returns-in-Ok-clause-text : goal.returns-in-Ok-clause-text
returns-in-Ok-clause-text c =
    let k = c.in-Ok.ensures.ok in
    found_text k.2.0 c.pop.new.self.items c.pop.result k.2.2.each (sym (k.2.1.is ∙ ap (λ xs. xs ++ k.2.0) c.new-out.ensures.items) ∙ c.pop.ensures.items)

pub returns-clause-fault : goal.returns-clause-fault
returns-clause-fault c = λ real. let k = c.in-Err.ensures.fault c.requires.open in
    stuck c.no_reply_begins_another.ensures c.args.feeder.now.rest c.args.line.now _ c.requires.line c.requires.part (k.2.unreadable real)
