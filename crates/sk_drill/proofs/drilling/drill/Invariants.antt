use Rattle.sk_drill.specs.Drilled.{shipped}
use Rattle.sk_drill.proofs.drilling.drill.Given as goal

abbrev pub ghosts-drill_on : goal.ghosts-drill_on
ghosts-drill_on g a = record { acks = a.blank.acks; asks = a.blank.asks; cuts = a.blank.cuts; start = shipped }
