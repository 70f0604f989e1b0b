use Rattle.std.proofs.Common.{◌∙◌, ap, nat_eq}
use Rattle.sk_batch.specs.States.{StateEntry}
use Rattle.sk_batch.proofs.Looks.{settled_at}
use Rattle.sk_batch.proofs.faults.is_settled.Goals as goal

pub returns : goal.returns
returns c = λ members bid kept place. ap (λ (e : StateEntry). nat_eq e.0.numbers.under.unreturned 0) c.get.ensures ∙ settled_at c.args.batches.now.list.current members kept c.args.at c.get.result.now c.requires bid place
