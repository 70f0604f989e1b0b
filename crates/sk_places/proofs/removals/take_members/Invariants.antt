use Rattle.std.proofs.Common.{◌≡◌, ◌≤◌, None, drop, length, not}
use Rattle.std.specs.List.{filter}
use Rattle.sk_places.specs.declared.ending.Ending.TheVariants.{Deleted}
use Rattle.sk_places.specs.Ends.{texts_of}
use Rattle.sk_places.specs.LiveJobs.{all_ended}
use Rattle.sk_places.proofs.MembersTaken.{IsLeft, is_wanted}
use Rattle.sk_places.proofs.removals.take_members.Given as goal

-- the texts from the index on are left to be looked up
abbrev pub invariant-loop-member : goal.invariant-loop-member
invariant-loop-member l = record {
  closed : l.rows.list.saved ≡ None;
  jobs_closed : l.rows.jobs.saved ≡ None;
  few : length l.rows.list.current ≤ l.most;
  left : IsLeft l.place (drop l.member-index l.member-items) l.rows.list.current l.rows.jobs.current l.gone (filter (λ row. not (is_wanted l.place l.member-items row)) l.initial.rows.list.current) (all_ended Deleted (texts_of (filter (is_wanted l.place l.member-items) l.initial.rows.list.current)) l.initial.rows.jobs.current) (length (filter (is_wanted l.place l.member-items) l.initial.rows.list.current));
}
