use Rattle.std.proofs.Common.{◌≡◌, ◌-◌, ◌≤◌, ◌⊎◌, inl, inr, false, arith, length}
use Rattle.std.specs.Str.{bytes_eq}
use Rattle.sk_value.specs.Lists.{read_from}
use Rattle.sk_value.proofs.Dropping.{kept_turn}
use Rattle.sk_value.proofs.Ends.{length_read_from}
use Rattle.sk_value.proofs.items.remove_first.Goals as goal
use Rattle.sk_value.proofs.items.remove_first.Goals.{else-most-gt0-via-then-most-gt0+else-eq, else-most-gt0-via-else-most-gt0}

pub loop-rest-preserved-else-most-gt0 : goal.loop-rest-preserved-else-most-gt0
loop-rest-preserved-else-most-gt0 c =
    let before = read_from c.args.side c.loop-rest.list.items in
    let others = read_from c.args.side c.pop.new.list.items in
    let stays : (c.loop-rest.most ≡ 0) ⊎ (bytes_eq c.in-Some.item c.args.text.now ≡ false) =
    elim c.else-most-gt0.branch [ else-most-gt0-via-then-most-gt0+else-eq w ↦ inr (grind arith) | else-most-gt0-via-else-most-gt0 w ↦ inl (omega arith) ] in
    let within : c.loop-rest.rest - 1 ≤ length others = grind (arith, length_read_from c.args.side c.pop.new.list.items) in
    let turn = kept_turn c.loop-rest.most (c.loop-rest.rest - 1) c.args.text.now c.in-Some.item before others c.in-Some.ensures.some stays within in
    grind (arith, turn, c.put_behind.ensures.items)
