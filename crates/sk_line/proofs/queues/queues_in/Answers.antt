use Rattle.std.proofs.Common.{◌∙◌, ap, map, subst}
use Rattle.std.specs.List.{AllZip}
use Rattle.sk_line.specs.Lines.{ReadsAs}
use Rattle.sk_line.specs.Work.{IsQueue}
use Rattle.sk_line.proofs.queues.queues_in.Goals as goal

pub returns : goal.returns
returns c = subst (λ words. ReadsAs (λ queues. queues.items) (AllZip IsQueue words) c.queues.result) (ap (map (λ word. word.now)) c.deref.ensures.value ∙ c.in_ok-words.ensures) c.queues.ensures
