use Rattle.std.proofs.Common.{[], ap, arith, refl, sym, ◌∙◌}
use Rattle.sk_undo.specs.Versions.{edited}
use Rattle.sk_places.specs.LiveJobs.{all_ended}
use Rattle.sk_places.specs.declared.ending.Ending.TheVariants.{Deleted}
use Rattle.sk_places.specs.GoneRows.{texts_in}
use Rattle.sk_places.proofs.GoneRows.{enough_bytes, enough_rows, gone_sound}
use Rattle.sk_places.specs.RowsView.{counts_of, lived_of}
use Rattle.sk_places.proofs.rows.Rows.take_all.Goals as goal

pub invariant_of-self : goal.invariant_of-self
invariant_of-self c = gone_sound c.self.inside.lists c.self.inside.size c.self.inside.size_then (counts_of c.self.inside.jobs) c.self.inside.text_index.list c.self.invariant c.args.place.now [] c.in_err-gone.ensures.own c.take_out.new.lists c.self.inside.size (counts_of c.self.inside.jobs) c.take_out.new.text_index.list c.take_out.ensures.lists c.take_out.ensures.rows (omega arith) (omega arith) refl c.take_out.ensures.index

pub leave_all-self-inside-requires-clause-rows : goal.leave_all-self-inside-requires-clause-rows
leave_all-self-inside-requires-clause-rows c = enough_rows c.self.inside.lists c.self.inside.size c.self.inside.size_then (counts_of c.self.inside.jobs) c.self.inside.text_index.list c.self.invariant c.args.place.now (texts_in c.in_ok-gone.gone) c.in_ok-gone.ensures.own

pub leave_all-self-inside-requires-clause-bytes : goal.leave_all-self-inside-requires-clause-bytes
leave_all-self-inside-requires-clause-bytes c = enough_bytes c.self.inside.lists c.self.inside.size c.self.inside.size_then (counts_of c.self.inside.jobs) c.self.inside.text_index.list c.self.invariant c.args.place.now (texts_in c.in_ok-gone.gone) c.in_ok-gone.ensures.own

pub invariant_of-self-2 : goal.invariant_of-self-2
invariant_of-self-2 c = gone_sound c.self.inside.lists c.self.inside.size c.self.inside.size_then (counts_of c.self.inside.jobs) c.self.inside.text_index.list c.self.invariant c.args.place.now (texts_in c.in_ok-gone.gone) c.in_ok-gone.ensures.own c.take_out.new.lists c.leave_all-self-inside.result (counts_of c.leave_all-self-inside.new.jobs) c.take_out.new.text_index.list c.take_out.ensures.lists c.take_out.ensures.rows c.leave_all-self-inside.ensures.rows c.leave_all-self-inside.ensures.bytes (ap counts_of c.leave_all-self-inside.ensures.jobs) c.take_out.ensures.index

pub returns-clause-jobs : goal.returns-clause-jobs
returns-clause-jobs c =
    let jobs = lived_of c.self.inside.jobs in
    rw (← c.self.view_is) (ap lived_of c.leave_all-self-inside.ensures.jobs ∙ ap (λ ts. edited (all_ended Deleted ts jobs.current) jobs) (sym c.in_ok-gone.ensures.own))
