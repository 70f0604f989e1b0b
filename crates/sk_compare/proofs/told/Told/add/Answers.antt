use Rattle.std.proofs.Common.{◌<◌, ◌++◌, ◌∙◌, ap, arith, length, map}
use Rattle.std.proofs.lemmas.List.{length-map}
use Rattle.sk_compare.specs.Alike.{told_at, told_by}
use Rattle.sk_compare.specs.Exchange.{exchange_of}
use Rattle.sk_compare.proofs.Telling.{told_added, when_ok}
use Rattle.sk_compare.proofs.told.Told.add.Goals as goal

pub returns : goal.returns
returns c =
    let story = c.args.story.now in
    let within : story.seat < length c.self.inside.seats.items =
    omega (arith, c.in_ok-reach.ensures.reached, ap (λ t. length t) c.self.view_is, length-map c.self.inside.seats.items (λ asks. map (λ a. exchange_of a.now) asks.items)) in
    when_ok c.append.result c.append.ensures (λ grown s.
    told_added (λ asks. map (λ a. exchange_of a.now) asks.items) c.self.inside.seats.items story.seat c.index_mut.result.now c.append.new.own
    (map exchange_of story.asks.items) within c.index_mut.ensures.value
    (grown ∙ ap (λ l. map (λ a. exchange_of a.now) c.index_mut.result.now.items ++ map exchange_of l) c.deref.ensures.value) s
    ∙ ap (λ l. l ++ told_by s story) (ap (λ t. told_at t s) c.self.view_is ∙ c.reach.ensures.same s))
