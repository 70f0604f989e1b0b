use Rattle.std.proofs.Common.{◌≡◌, ◌∙◌, ap}
use Rattle.std.specs.Prelude.{Some}
use Rattle.sk_resp.specs.Spelling.{Bytes}
use Rattle.sk_payload.specs.Head.{head as head_of}
use Rattle.sk_payload.specs.declared.head.Head.{Head}
use Rattle.sk_leases.specs.Leased.{forgotten}
use Rattle.sk_model.specs.Change.{Forgets, changed}
use Rattle.sk_model.specs.World.{World}
use Rattle.sk_places.specs.Rows.{rows_at}
use Rattle.sk_store.specs.Stored.{world}
use Rattle.sk_jobs.proofs.Fronts.{text_of_row}
use Rattle.sk_jobs.proofs.Rescuing.{poison_sent, same_head}
use Rattle.sk_jobs.proofs.rescues.bury_poison.Goals as goal
use Rattle.sk_jobs.proofs.rescues.bury_poison.Goals.{in-Some+in_ok-jid+in_ok-forget, in_default}

pub returns-clause-ok : goal.returns-clause-ok
returns-clause-ok c = λ row found h named.
    let old : World = world c.args.store.now in
    let mid : World = world c.bury.new.store in
    let new : World = world c.match-head.store in
    let there : head_of c.args.payload.now ≡ Some h = ap head_of (text_of_row c.args.payload.now row (rows_at c.args.list.now old.rows) found) ∙ named in
    let same_text : c.text.result.now ≡ c.args.payload.now = c.text.ensures in
    let gone : new ≡ changed mid (Forgets h.jid) = elim c.match-head.branch [
      | in-Some+in_ok-jid+in_ok-forget u ↦ (
          let same = same_head u.in-Some.head h (head_of c.args.payload.now) u.in-Some.ensures there in
          let job : u.in_ok-jid.jid ≡ h.jid = u.in_ok-jid.ensures ∙ ap (λ (o : Head). o.jid) same in
          ap world u.store-is ∙ ap (λ s. record mid { leases = s.current }) u.in_ok-forget.ensures.ok ∙ ap (λ (jid : Bytes). record mid { leases = forgotten jid mid.leases }) job
          )
      | in_default u ↦ absurd (cc there)
    ] in
    poison_sent old mid new c.in_ok-report.report row h.jid (c.in_ok-report.ensures.ok row (rw same_text found)) gone
