use Rattle.std.proofs.Common.{◌≡◌, ◌∙◌, ap, position, rules, tests}
use Rattle.std.proofs.lemmas.Iterator.{YieldsList-from_slice}
use Rattle.std.proofs.lemmas.Iterator.Search.{position_from_yields_List}
use Rattle.sk_seats.specs.Works.{is_retried_as}
use Rattle.sk_seats.proofs.works.Works.find_retried.Goals as goal

pub returns-clause-is : goal.returns-clause-is
returns-clause-is c =
    let same : c.deref.result.now ≡ c.args.self.now = cc in
    position_from_yields_List (is_retried_as c.args.next.now) _ _ c.position.result c.position.ensures.ran (YieldsList-from_slice _ c.iter.ensures.rest) (λ x b q k. search (rules, tests))
    ∙ ap (position (is_retried_as c.args.next.now)) same
