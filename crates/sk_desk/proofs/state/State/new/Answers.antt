use Rattle.std.proofs.Common.{ap, ◌∙◌}
use Rattle.sk_desk.specs.State.{pushed_in}
use Rattle.sk_desk.proofs.Journals.{kept_first}
use Rattle.sk_desk.proofs.state.State.new.Goals as goal

pub invariant_of-result : goal.invariant_of-result
invariant_of-result g c = (kept_first _ _ _ _ _ _ c.requires.start c.requires.total c.requires.book c.requires.writing, ap (λ t. t.outside) c.tally-before.ensures.is ∙ ap pushed_in c.requires.start)
