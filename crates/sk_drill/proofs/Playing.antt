-- Events that come about, one after another.
use Rattle.std.proofs.Common.{◌≡◌, ◌∙◌, ap, refl, sym, ℕ, List, [], ◌∷◌, ◌++◌, length, map, arith, true, false}
use Rattle.std.specs.Prelude.{◌&&◌, not, Result, Ok, Err, OnOk}
use Rattle.std.specs.List.{list_all}
use Rattle.std.proofs.lemmas.List.{map-append}
use Rattle.std.proofs.lemmas.List.Folds.{list_all-append}
use Rattle.sk_resp.specs.declared.reply.Reply.{Reply}
use Rattle.sk_resp.specs.declared.reply.Reply.TheVariants as reply
use Rattle.sk_cmd.specs.Fault.{fault_say}
use Rattle.sk_cmd.specs.Table.{IsRead}
use Rattle.sk_cmd.specs.declared.cmd_fault.CmdFault.{CmdFault}
use Rattle.sk_cmd.specs.declared.cmd_fault.CmdFault.TheVariants as fault_
use Rattle.sk_model.specs.Change.{perform}
use Rattle.sk_model.specs.Event.{Ask, Cut, Event, Happens, Step}
use Rattle.sk_model.specs.Outcome.{Outcome, Realizes, tells}
use Rattle.sk_model.specs.Reading.{Words}
use Rattle.sk_model.specs.Step.{cut}
use Rattle.sk_model.specs.World.{World}
use Rattle.sk_model.proofs.Theorems.Runs.{leads_on}
use Rattle.sk_drill.specs.Soaked.{PlaysSome, is_oom, is_served}

abbrev event_in : Step → Event
event_in step = step.event

-- nothing happens
pub plays_none : (w : World) → PlaysSome w [] w
plays_none w = ([], record { events_are = refl; leads = record { run = tt; new_is = refl }; served = refl })

-- one event, for which there was memory
pub plays_one : (w v : World) (e : Event) (o : Outcome) (r : Reply) → Happens w e o → Realizes w o r v → is_oom r ≡ false → PlaysSome w (e ∷ []) v
plays_one w v e o r happens realized memory = (
  record { event = e; outcome = o } ∷ [],
  record {
    events_are = refl;
    leads = record { run = (happens, tt); new_is = realized.new_is };
    served = ap (λ r. not (is_oom r) && true) (sym realized.reply_is) ∙ ap (λ b. not b && true) memory;
  },
)

pub both_served : (steps more : List Step) → list_all is_served steps ≡ true → list_all is_served more ≡ true → list_all is_served (steps ++ more) ≡ true
both_served steps more a b = list_all-append is_served steps more ∙ ap (λ b. b && list_all is_served more) a ∙ b

-- some events, and then others
pub plays_both : (u v w : World) (es fs : List Event) → PlaysSome u es v → PlaysSome v fs w → PlaysSome u (es ++ fs) w
plays_both u v w es fs (steps, a) (more, b) = (
  steps ++ more,
  record {
    events_are = map-append event_in steps more ∙ ap (λ es. es ++ map event_in more) a.events_are ∙ ap (λ fs. es ++ fs) b.events_are;
    leads = leads_on u v w steps more a.leads b.leads;
    served = both_served steps more a.served b.served;
  },
)

-- ## One event

-- words that are no command are told their fault, and nothing changes
pub faulted : (w : World) (seat now : ℕ) (words : Words) (fault : CmdFault) (r : Reply) → IsRead words (Err fault) → r ≡ reply.Say (fault_say fault)
    → (o : Outcome) × Happens w (Ask seat now words) o × Realizes w o r w
faulted w seat now words fault r read is = (tells (fault_say fault), (Err fault, read, refl), record { reply_is = is; new_is = refl })

-- no words are no command
pub unread : (words : Words) → length words ≡ 0 → IsRead words (Err fault_.Unknown)
unread [] none = refl
unread (word ∷ words) none = absurd (omega arith)

-- what follows from a fact for Ok
pub on_ok : {X E : Type 0} (r : Result X E) (P Q : Type 0) → (P → Q) → OnOk r P → OnOk r Q
on_ok (Ok x) P Q f p = f p
on_ok (Err e) P Q f p = tt

-- a seat is cut off
pub plays_cut : (w v : World) (seat : ℕ) → v ≡ perform w (cut seat).changes → PlaysSome w (Cut seat ∷ []) v
plays_cut w v seat is = plays_one w v (Cut seat) (cut seat) (cut seat).reply refl (record { reply_is = refl; new_is = is }) refl
