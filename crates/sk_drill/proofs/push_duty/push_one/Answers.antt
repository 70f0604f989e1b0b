use Rattle.std.proofs.Common.{◌∙◌, ◌++◌, ◌∷◌, [], ap, map, refl}
use Rattle.sk_compare.specs.Exchange.{exchange_of}
use Rattle.sk_link.specs.Call.{answered}
use Rattle.sk_drill.specs.Telling.{exchange}
use Rattle.sk_drill.proofs.Answered.{all_served, kept}
use Rattle.sk_drill.proofs.OnTime.{stays_on_time}
use Rattle.sk_drill.proofs.push_duty.push_one.Goals as goal

pub returns-in-Ok-clause-pushed : goal.returns-in-Ok-clause-pushed
returns-in-Ok-clause-pushed g c = record {
  answer = c.in-Ok.field-0;
  served = (all_served _ _ (answered c.in_ok-words.words c.in-Ok.field-0 ∷ []) c.in-Ok.ensures.carried).0;
  are = kept _ _ (answered c.in_ok-words.words c.in-Ok.field-0 ∷ []) c.in-Ok.ensures.carried
      ∙ ap (λ w. map exchange_of c.args.link.now.asks.items ++ exchange w c.in-Ok.field-0 ∷ []) c.in_ok-words.ensures;
}

pub returns-in-Ok-clause-time : goal.returns-in-Ok-clause-time
returns-in-Ok-clause-time g c = λ moment s.
    let now = stays_on_time moment _ _ (answered c.in_ok-words.words c.in-Ok.field-0 ∷ []) c.in-Ok.ensures.carried (refl, tt) (record { asked = s.asked; next = s.next }) in
    record { asked = now.asked; next = now.next }
