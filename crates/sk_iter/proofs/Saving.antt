-- What comes of a save and of a read, by what came of their requests.
use Rattle.std.proofs.Common.{◌≡◌, ◌∙◌, ◌&&◌, ℕ, true, List, [], ◌∷◌, sym, ap, subst, Option, Result, Ok, Err}
use Rattle.sk_base.proofs.OutsideLaws.{takes_nothing}
use Rattle.sk_resp.specs.Spelling.{Bytes}
use Rattle.sk_resp.specs.declared.reply.Reply.{Reply}
use Rattle.sk_link.specs.Asking.{Asked, is_popped}
use Rattle.sk_link.specs.Call.{Call, answered, lost}
use Rattle.sk_link.specs.declared.asking.Answer.TheVariants as answer
use Rattle.sk_link.specs.declared.asking.AskFault.{AskFault}
use Rattle.sk_link.specs.declared.asking.AskFault.TheVariants as ask
use Rattle.sk_link.specs.declared.link.LinkFault.{LinkFault}
use Rattle.sk_iter.specs.Cursor.{IsCursor}
use Rattle.sk_iter.specs.Deeds.{saves, sends}
use Rattle.sk_iter.specs.Event.{ItemRun, asked}
use Rattle.sk_iter.specs.Performs.{EndsAtSave, Performs}
use Rattle.sk_iter.specs.Reads.{Reads, TellsCursor, fault_in}
use Rattle.sk_iter.specs.Request.{get_words, set_words}
use Rattle.sk_iter.specs.declared.iter_end.IterFault.{IterFault}
use Rattle.sk_iter.specs.declared.iter_end.IterFault.TheVariants as fault
use Rattle.sk_iter.proofs.Performing.{front_none}

-- ## A save

module _ (jid : Bytes) (next : ℕ) (words : List Bytes) (are : words ≡ set_words jid next) where
  ends_at : (reply : Result Reply LinkFault) → EndsAtSave jid (saves jid next ∷ []) (asked (record { request = words; reply = reply }) ∷ []) reply
  ends_at reply = record {
    done = [];
    next = next;
    left = [];
    front = front_none (saves jid next ∷ []);
    are = ap (λ (ws : List Bytes). asked (record { request = ws; reply = reply }) ∷ []) are;
  }

  pub saved : (P : List Call → Type 0) (told : Option (List ItemRun)) (r : Reply) → Asked P words answer.Okay (Ok r) → Performs {T = Unit {0}} P told told jid (saves jid next ∷ []) (Ok tt)
  saved P told r came = (
    asked (answered words r) ∷ [],
    record { link = came.0; items = takes_nothing told },
    record { are = ap (λ (ws : List Bytes). sends ws ∷ []) are; kept = ap (λ b. b && true) came.1 },
  )

  pub not_saved : (P : List Call → Type 0) (told : Option (List ItemRun)) (f : AskFault) → Asked P words answer.Okay (Err f) →
      Performs {T = Unit {0}} P told told jid (saves jid next ∷ []) (Err (fault_in f))
  not_saved P told (ask.Refused r) came =
      (asked (answered words r) ∷ [], record { link = came.0; items = takes_nothing told }, (ends_at (Ok r), came.1))
  not_saved P told (ask.Link f) came = (asked (lost words f) ∷ [], record { link = came; items = takes_nothing told }, ends_at (Err f))

-- ## A read

module _ (P : List Call → Type 0) (jid : Bytes) (len : ℕ) (words : List Bytes) (are : words ≡ get_words jid) where
  pub was_read : (r : Reply) (result : Result ℕ IterFault) → Asked P words answer.Popped (Ok r) → TellsCursor len r result → Reads P jid len result
  was_read r (Ok n) came tells = (r, subst (λ (ws : List Bytes). P (answered ws r ∷ [])) are came.0, tells)
  was_read r (Err (fault.Cursor found)) came tells = (
    subst (λ (s : Reply). P (answered (get_words jid) s ∷ [])) (sym tells.0) (subst (λ (ws : List Bytes). P (answered ws r ∷ [])) are came.0),
    ap is_popped tells.0 ∙ came.1,
    subst (λ (s : Reply). (n : ℕ) → IsCursor len s n → ⊥) (sym tells.0) tells.1,
  )
  was_read r (Err (fault.Refused found)) came tells = absurd tells
  was_read r (Err (fault.Link f)) came tells = absurd tells
  was_read r (Err fault.Memory) came tells = absurd tells

  pub not_read : (f : AskFault) → Asked P words answer.Popped (Err f) → Reads P jid len (Err (fault_in f))
  not_read (ask.Refused r) came = (subst (λ (ws : List Bytes). P (answered ws r ∷ [])) are came.0, came.1)
  not_read (ask.Link f) came = subst (λ (ws : List Bytes). P (lost ws f ∷ [])) are came
