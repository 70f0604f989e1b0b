use Rattle.std.proofs.Common.{ap, ◌∙◌}
use Rattle.sk_batch.specs.Open.{with_mark}
use Rattle.sk_batch.proofs.Places.{tag_moved}
use Rattle.sk_undo.specs.Versions.{edited}
use Rattle.sk_batch.proofs.edits.mark_member.Goals as goal

pub returns : goal.returns
returns c = λ test place. c.shift.ensures.list ∙ ap (λ xs. edited xs c.args.members.now.list) (tag_moved test (with_mark c.args.mark) c.args.members.now.list.current c.args.at c.get.result.now c.with_mark.result c.get.ensures c.with_mark.ensures place c.requires.within)
