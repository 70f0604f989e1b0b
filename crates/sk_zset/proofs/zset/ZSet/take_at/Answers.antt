use Rattle.std.proofs.Common.{◌<◌, length, subst, sym}
use Rattle.sk_zset.proofs.Ties.{tied_remove}
use Rattle.sk_zset.proofs.zset.ZSet.take_at.Goals as goal

pub invariant_of-self : goal.invariant_of-self
invariant_of-self c =
    let within = subst (λ s. c.args.at < length s.current) (sym c.self.view_is) c.requires.within in
    rw (c.take-pair.ensures.list, c.take.ensures.list) (tied_remove _ _ c.self.invariant c.take-pair.result c.args.at within c.take-pair.ensures.entry c.len-len.ensures.sorted)
