use Rattle.std.proofs.Common.{◌≡◌, ◌==◌, cond, true, false, [], ◌∷◌, ◌++◌, get_or, arith}
use Rattle.std.specs.List.{list_any}
use Rattle.sk_policy.proofs.Orders.{firsts-step}
use Rattle.sk_policy.proofs.order.keep_firsts.Goals as goal
use Rattle.sk_policy.proofs.order.keep_firsts.Goals.{then-not-contains, else-not-contains}

pub loop-place-preserved : goal.loop-place-preserved
loop-place-preserved c =
    let k = c.loop-place.place-index in
    let x = get_or c.args.lot.now k 0 in
    let olds = c.loop-place.room.items in
    elim c.if-not-contains.branch [
      | then-not-contains w ↦
          let found : list_any (λ y. y == x) olds ≡ false = cc (c.contains.ensures.value, c.deref.ensures.value, w.if-not-contains.true) in
          let grown : c.if-not-contains.room.items ≡ cond (list_any (λ y. y == x) olds) olds (olds ++ x ∷ []) = rw found (cc (w.push_reserved.ensures.items, w.room-is)) in
          record {
            kept = firsts-step c.args.lot.now k olds _ (omega arith) c.loop-place.invariant.kept grown;
            few = grind (arith, w.push_reserved.ensures.len, w.room-is);
            room = grind (arith, w.push_reserved.ensures.capacity, w.room-is);
          }
      | else-not-contains w ↦
          let found : list_any (λ y. y == x) olds ≡ true = cc (c.contains.ensures.value, c.deref.ensures.value, w.if-not-contains.false) in
          let grown : c.if-not-contains.room.items ≡ cond (list_any (λ y. y == x) olds) olds (olds ++ x ∷ []) = rw found (cc w.room-is) in
          record {
            kept = firsts-step c.args.lot.now k olds _ (omega arith) c.loop-place.invariant.kept grown;
            few = grind (arith, w.room-is);
            room = grind (arith, w.room-is);
          }
    ]
