-- Actions on plain keys.
use Rattle.std.proofs.Common.{◌≡◌, ℕ, ◌∙◌, ap, arith, sym}
use Rattle.std.specs.Prelude.{◌≢◌, Err, IfErr, IfOk, IsErr, Ok, OnErr, OnOk, Result}
use Rattle.sk_value.specs.declared.action.Action.{Action}
use Rattle.sk_value.specs.declared.keys_fault.KeysFault.{KeysFault}
use Rattle.sk_value.specs.declared.keys_fault.KeysFault.TheVariants as fault
use Rattle.sk_value.specs.Apply.{applied, edit_at, set_at, expires_at, give_at, move_keys}
use Rattle.sk_value.specs.Keys.{Keys}
use Rattle.sk_value.specs.Answer.{Answer, AnswersWith}
use Rattle.sk_resp.specs.declared.reply.Reply.{Reply}
use Rattle.sk_model.specs.Outcome.{reply_of}
use Rattle.sk_model.specs.Step.{on_keys}
use Rattle.sk_store.specs.declared.store.Store.{Store}
use Rattle.sk_store.specs.Stored.{IsReady, Executes, world}
use Rattle.sk_store.proofs.Steps.{keyed_ready}

-- what is refused leaves the keys as they are
refused_keeps : (now : ℕ) (a : Action) (keys : Keys) (f : KeysFault) → (applied now a keys).answer ≡ Err f → (applied now a keys).keys ≡ keys
unfolding edit_at set_at expires_at give_at move_keys
refused_keeps now a keys f e = grind (arith, e)

-- what an action comes to, where the keys' answer and what they became are known
pub on_keys_runs : {E : Type 0} (s : Store) (new : Keys) (a : Action) (answer : Answer) (r : Result Reply E) → IsReady s → AnswersWith (applied s.moment a s.keys).answer answer
    → OnOk answer (new ≡ (applied s.moment a s.keys).keys) → OnErr answer (new ≡ s.keys) → IfOk r (λ reply. (due : Answer) → AnswersWith due answer → reply ≡ reply_of due)
    → OnOk r (IfErr answer (λ f. f ≢ fault.Memory)) → OnErr r (IsErr answer) → Executes s (on_keys (world s) a) r (record s { keys = new })
on_keys_runs s new a (Ok x) (Ok r) ready gives ok err reply refused none = (record { reply_is = reply (applied s.moment a s.keys).answer gives; new_is = ap (λ keys. world (record s { keys = keys })) ok }, keyed_ready s new ready)
on_keys_runs s new a (Err f) (Ok r) ready gives ok err reply refused none = (
  record {
    reply_is = reply (applied s.moment a s.keys).answer gives;
    new_is = ap (λ keys. world (record s { keys = keys })) (err ∙ sym (refused_keeps s.moment a s.keys f (gives refused)));
  },
  keyed_ready s new ready,
)
on_keys_runs s new a (Ok x) (Err m) ready gives ok err reply refused none = absurd (cc none)
on_keys_runs s new a (Err f) (Err m) ready gives ok err reply refused none = ap (λ keys. record s { keys = keys }) err
