use Rattle.std.proofs.Common.{◌∙◌, ap, arith, codes, subst, sym, take, length, ◌-◌}
use Rattle.sk_line.specs.Values.{IsNumber}
use Rattle.sk_line.specs.Work.{joined}
use Rattle.sk_line.proofs.Cuts.{front_map, joined_map, last_map}
use Rattle.sk_line.proofs.queues.weighed.Goals as goal

pub returns : goal.returns
returns c = record {
  name = c.new.ensures ∙ c.in_ok-name.ensures.ok ∙ joined_map (λ part. part.now) (codes ":") (take (length c.args.parts.now - 1) c.args.parts.now) ∙ ap (joined (codes ":")) (sym (front_map (λ part. part.now) c.args.parts.now));
  weight = subst (λ text. IsNumber 1 100 text c.in-Some.weight) (sym (last_map (λ part. part.now) c.args.parts.now _ (omega (arith, c.requires)))) c.in-Some.ensures;
}

pub returns-in_default : goal.returns-in_default
returns-in_default c = λ queue p. c.in_default.ensures queue.1
    (subst (λ text. IsNumber 1 100 text queue.1) (last_map (λ part. part.now) c.args.parts.now _ (omega (arith, c.requires))) p.weight)
