-- SK.DUE and SK.RESCUE that report no row leave the store as it was, but for time: each row that they send on is moved or buried, and counted.
use Rattle.std.proofs.Common.{◌≡◌, ◌<◌, ◌+◌, ℕ, ℤ, Bool, true, false, List, [], ◌∷◌, refl, arith, cond, inr}
use Rattle.std.specs.Prelude.{pos, Option, Some, None, nat_abs}
use Rattle.std.proofs.lemmas.Bool.{and_parts}
use Rattle.sk_resp.specs.Reply.{wire}
use Rattle.sk_resp.specs.declared.reply.Reply.TheVariants as reply
use Rattle.sk_cmd.specs.declared.argument.Scored.{Scored}
use Rattle.sk_cmd.specs.declared.argument.Side.TheVariants.{Right}
use Rattle.sk_cmd.specs.declared.command.Command.TheVariants as command
use Rattle.sk_cmd.specs.declared.command.ScriptCommand.TheVariants as script
use Rattle.sk_payload.specs.Head.{head}
use Rattle.sk_payload.specs.declared.head.Head.{Head}
use Rattle.sk_places.specs.declared.row.Row.{Row}
use Rattle.sk_seats.specs.declared.phase.Phase.{Phase}
use Rattle.sk_seats.specs.declared.phase.Phase.TheVariants.{Plain, Joined}
use Rattle.sk_model.specs.Change.{Recovers, changed, passed, perform}
use Rattle.sk_model.specs.Jobs.{Routed, due, due_rows, each, promote, reports, to_queue}
use Rattle.sk_model.specs.Outcome.{Outcome}
use Rattle.sk_model.specs.Replay.{Idles}
use Rattle.sk_model.specs.Rescue.{bury_poison, is_poison, left_rows, rescue, rescue_row}
use Rattle.sk_model.specs.Seats.{where_plain}
use Rattle.sk_model.specs.Step.{outcome}
use Rattle.sk_model.specs.World.{World, phase_of}
use Rattle.sk_desk.specs.Writing.{reports_zero, spells_zero}
use Rattle.sk_desk.proofs.Zeros.{zero_spelled}

-- ## Each row is counted

abbrev IsCounted : Routed → Type 0
IsCounted sent = 0 < sent.moved + sent.buried

counted_either : (b : Bool) (one other : Routed) → IsCounted one → IsCounted other → IsCounted (cond b one other)
counted_either true one other p q = p
counted_either false one other p q = q

one_counts : 0 < 1
one_counts = omega arith

-- whatever becomes of it in this way
abbrev CountsEach : (World → Row → Option Head → Routed) → Type 0
CountsEach way = (w : World) (row : Row) (found : Option Head) → IsCounted (way w row found)

promote_counts : CountsEach promote
promote_counts w row None = one_counts
promote_counts w row (Some h) = one_counts

rescue_counts : CountsEach rescue_row
rescue_counts w row None = one_counts
rescue_counts w row (Some h) =
    let noted : World = changed w (Recovers h.jid) in
    counted_either (is_poison noted h.jid) (bury_poison noted row h.jid) (to_queue Right row h) one_counts one_counts

-- ## A report of no row

module _ (way : World → Row → Option Head → Routed) (counts : CountsEach way) where
  none_sent : (w : World) (rows : List Row) → reports_zero (reports (each way w rows)).reply ≡ true → perform w (each way w rows).changes ≡ w
  none_sent w [] is = refl
  none_sent w (row ∷ rows) is =
      let one : Routed = way w row (head row.text) in
      let more : Routed = each way (perform w one.changes) rows in
      let moved : ℕ = one.moved + more.moved in
      let buried : ℕ = one.buried + more.buried in
      let both = and_parts (spells_zero (wire (reply.Int (pos moved)))) (spells_zero (wire (reply.Int (pos buried)))) is in
      let some : 0 < one.moved + one.buried = counts w row (head row.text) in
      absurd (let none : ⊥ = omega (arith, some, zero_spelled moved both.0, zero_spelled buried both.1) in none)

-- what a Plain seat alone may send
idle_where_plain : (w : World) (phase : Phase) (o : Outcome) → (reports_zero o.reply ≡ true → perform w o.changes ≡ w)
    → reports_zero (where_plain phase o).reply ≡ true → perform w (where_plain phase o).changes ≡ w
idle_where_plain w Plain o idle is = idle is
idle_where_plain w (Joined ident works) o idle is = refl

pub zero_dues_idle : (w : World) (seat now : ℕ) (set : Scored) (limit : ℤ)
    → reports_zero (outcome w seat now (command.Script (script.Due set limit))).reply ≡ true → Idles w (outcome w seat now (command.Script (script.Due set limit)))
zero_dues_idle w seat now set limit is =
    let u : World = passed now w in
    inr (now, idle_where_plain u (phase_of w seat) (due u set (nat_abs limit)) (none_sent promote promote_counts u (due_rows u set (nat_abs limit))) is)

pub zero_rescues_idle : (w : World) (seat now : ℕ) → reports_zero (outcome w seat now (command.Script script.Rescue)).reply ≡ true → Idles w (outcome w seat now (command.Script script.Rescue))
zero_rescues_idle w seat now is =
    let u : World = passed now w in
    inr (now, idle_where_plain u (phase_of w seat) (rescue u) (none_sent rescue_row rescue_counts u (left_rows u)) is)
