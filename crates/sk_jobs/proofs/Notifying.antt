-- What commands come to that tell a batch of a job.
use Rattle.std.proofs.Common.{◌≡◌, ◌∙◌, List, ap, subst, sym}
use Rattle.std.specs.Prelude.{Option, Some, None}
use Rattle.sk_resp.specs.declared.reply.Reply.{Reply}
use Rattle.sk_places.specs.declared.row.Row.{Row}
use Rattle.sk_resp.specs.Spelling.{Bytes}
use Rattle.sk_batch.specs.declared.event.Event.{Event}
use Rattle.sk_batch.specs.declared.member.Member.{Member}
use Rattle.sk_value.specs.Answer.{texts}
use Rattle.sk_model.specs.World.{World}
use Rattle.sk_model.specs.Notify.{Notified, and_notify, fired_texts, notify}
use Rattle.sk_model.proofs.Changes.Lawful.{perform-append}
use Rattle.sk_jobs.specs.Callbacks.{IsNotified, member_of, notify_member}
use Rattle.sk_model.specs.Change.{Change, perform}
use Rattle.sk_model.specs.Jobs.{bury, kill_row, nothing, reports}
use Rattle.sk_model.specs.Outcome.{Realizes}
use Rattle.sk_jobs.proofs.Calling.{notify_is}

pub killed : (v after : World) (found : Option Row) (row : Row) (reply : Reply) → found ≡ Some row → Realizes v (reports (bury v row)) reply after → Realizes v (kill_row v found) reply after
killed v after found row reply e comes = subst (λ o. Realizes v (kill_row v o) reply after) (sym e) comes

pub none_killed : (v : World) (found : Option Row) (reply : Reply) → found ≡ None → Realizes v (reports nothing) reply v → Realizes v (kill_row v found) reply v
none_killed v found reply e comes = subst (λ o. Realizes v (kill_row v o) reply v) (sym e) comes

-- after these changes the batch of a job was told
pub notified_comes : (v mid new : World) (e : Event) (text : Bytes) (member : Option Member) (changes : List Change) (names : List Bytes) (reply : Reply) → mid ≡ perform v changes → member ≡ member_of text
    → IsNotified mid new names (notify_member e mid member) → reply ≡ texts names → Realizes v (and_notify e v text changes) reply new
notified_comes v mid new e text member changes names reply is same told named =
    let was : notify_member e mid member ≡ notify e (perform v changes) text = ap (notify_member e mid) same ∙ notify_is e mid text ∙ ap (λ u. notify e u text) is in
    record {
      reply_is = named ∙ ap texts (told.fired ∙ ap (λ (t : Notified). fired_texts t.firings) was);
      new_is = told.world ∙ ap (λ (t : Notified). perform mid t.changes) was ∙ ap (λ u. perform u (notify e (perform v changes) text).changes) is ∙ sym (perform-append v changes (notify e (perform v changes) text).changes);
    }
