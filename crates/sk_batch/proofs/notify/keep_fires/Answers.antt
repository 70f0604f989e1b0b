use Rattle.std.proofs.Common.{List, subst, sym}
use Rattle.sk_undo.specs.Versions.{Versions}
use Rattle.sk_batch.specs.Places.{AreAncestors}
use Rattle.sk_batch.specs.States.{StateEntry}
use Rattle.sk_batch.proofs.Climbs.{ancestors_fired}
use Rattle.sk_batch.proofs.notify.keep_fires.Goals as goal

pub change_ancestors-requires-clause-places : goal.change_ancestors-requires-clause-places
change_ancestors-requires-clause-places c =
    let kept = subst (λ (v : Versions (List StateEntry)). AreAncestors c.args.bid.now c.args.places.now v.current) (sym c.in_ok-reserve.ensures.list) c.requires in
    subst (λ (v : Versions (List StateEntry)). AreAncestors c.args.bid.now c.args.places.now v.current) (sym c.mark_fired.ensures.list) (ancestors_fired c.args.firings.now c.args.bid.now c.args.places.now c.reserve.new.self.list.current kept)
