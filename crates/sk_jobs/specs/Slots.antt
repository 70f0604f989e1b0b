-- What SK.CRON comes to, rule by rule.
use Rattle.std.specs.Prelude.{ℕ, ◌∷◌, Result, Ok, Err}
use Rattle.sk_resp.specs.Spelling.{Bytes}
use Rattle.sk_resp.specs.declared.reply.Reply.TheVariants as reply
use Rattle.sk_resp.specs.declared.say.Say.TheVariants as say
use Rattle.sk_resp.specs.declared.refusal.Refusal.{Refusal}
use Rattle.sk_places.specs.declared.origin.Origin.TheVariants.{Inner}
use Rattle.sk_model.specs.Change.{TakesSlot}
use Rattle.sk_model.specs.Outcome.{Outcome, refuses}
use Rattle.sk_model.specs.Notify.{push_job}

-- where a rule was broken that is refused, and else this is done
abbrev pub unless_refused : {A : Type 0} → Result A Refusal → Outcome → Outcome
unless_refused (Ok kept) o = o
unless_refused (Err refusal) o = refuses refusal

-- the slot is the loop's last one, and the job is pushed
abbrev pub slotted : Bytes → ℕ → Bytes → Outcome
slotted loop slot text = record { reply = reply.Say say.Ok; changes = TakesSlot loop slot text ∷ push_job Inner text }
