use Rattle.std.proofs.Common.{ap, ap₂, length, subst, ◌+◌, ◌<◌, ◌^◌, ◌∙◌}
use Rattle.sk_undo.specs.Versions.{edited}
use Rattle.sk_places.specs.Entries.{as_row}
use Rattle.sk_places.specs.Rows.{put_row}
use Rattle.sk_places.specs.TextIndex.{with_key}
use Rattle.sk_places.proofs.Sound.{bytes_bound, put_sound}
use Rattle.sk_places.specs.RowsView.{counts_of}
use Rattle.sk_places.proofs.rows.Rows.put_back.Goals as goal

pub raised-self-inside-requires-clause-small : goal.raised-self-inside-requires-clause-small
raised-self-inside-requires-clause-small c = bytes_bound c.self.inside.lists c.self.inside.size c.self.inside.size_then (counts_of c.self.inside.jobs) c.self.inside.text_index.list c.self.invariant

pub invariant_of-self-2 : goal.invariant_of-self-2
invariant_of-self-2 c =
    let short = subst (λ t. length t < 2 ^ 64) c.text.ensures c.raised-self-inside.ensures.short in
    let bytes = c.raised-self-inside.ensures.bytes ∙ ap (λ t. c.self.inside.size.bytes + length t) c.text.ensures in
    let rows = c.put.ensures.rows ∙ ap (λ s. edited (put_row c.args.end (as_row (c.args.row_key, c.args.payload)) s.current) s) c.prepare.ensures.rows in
    let index = ap counts_of c.in_ok-add.ensures.ok in
    let keys = c.add_key.ensures ∙ ap₂ (λ k s. edited (with_key k s.current) s) c.in_ok-key.ensures c.reserve.ensures.list in
    put_sound c.self.inside.lists c.put.new.self c.self.inside.size c.self.inside.size_then (counts_of c.self.inside.jobs) c.self.inside.text_index.list c.self.invariant c.put.ensures.lists c.args.end (as_row (c.args.row_key, c.args.payload)) c.raised-self-inside.result (counts_of c.add.new.self) c.add_key.new.index.list rows c.raised-self-inside.ensures.rows c.raised-self-inside.ensures.few bytes short index keys
