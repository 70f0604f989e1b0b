use Rattle.std.proofs.Common.{◌≡◌, ◌++◌, map, take}
use Rattle.sk_compare.specs.Exchange.{exchange_of}
use Rattle.sk_compare.proofs.told.append.Given as goal

abbrev pub invariant-loop-ask : goal.invariant-loop-ask
invariant-loop-ask l =
    map (λ a. exchange_of a.now) l.own.items ≡ map (λ a. exchange_of a.now) l.fn.own.items ++ map exchange_of (take l.ask-index l.asks)
