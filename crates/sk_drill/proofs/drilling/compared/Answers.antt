use Rattle.std.proofs.Common.{◌∙◌, ap, sym}
use Rattle.sk_desk.specs.State.{StateView}
use Rattle.sk_drill.proofs.Ending.{has_log, recorded}
use Rattle.sk_drill.proofs.drilling.compared.Goals as goal

pub returns : goal.returns
returns g c =
    let here = has_log c.closed.inside.book c.len.result c.entries-journal.result.now c.len.ensures.value c.if-len-ge-MOST_ENTRIES.false c.entries-journal.ensures in
    recorded c.args.closed.now c.args.stories.now c.entries-journal.result.now here.0 c.compare.result c.requires
    (sym (ap (λ (s : StateView). s.log) c.closed.view_is) ∙ here.1) here.2 c.compare.ensures.compared c.compare.ensures.answered
