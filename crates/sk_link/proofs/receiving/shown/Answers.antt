use Rattle.std.proofs.Common.{◌∙◌, ap, take}
use Rattle.std.proofs.lemmas.List.{take_min}
use Rattle.sk_link.proofs.receiving.shown.Goals as goal

pub returns : goal.returns
returns c = c.new.ensures ∙ c.in_ok-to_vec.ensures.items_if_clones_equal (λ x y same. same) ∙ ap (λ n. take n c.args.bytes.now) c.min-n.ensures ∙ take_min 64 c.args.bytes.now
