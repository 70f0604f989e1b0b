-- What SK.GIVE comes to.
use Rattle.std.proofs.Common.{◌≡◌, ◌⊎◌, ℕ, [], ◌∷◌, refl, sym, ap, subst, Bool, true, false, cond, inl, inr}
use Rattle.std.proofs.lemmas.Slice.Eq.{bytes_eq-Decides}
use Rattle.std.specs.Prelude.{Option, Some, None}
use Rattle.sk_resp.specs.Spelling.{Bytes}
use Rattle.sk_resp.specs.declared.reply.Reply.{Reply}
use Rattle.sk_cmd.specs.declared.command.PlainCommand.TheVariants as plain
use Rattle.sk_key.specs.Class.{class_of, is_plain}
use Rattle.sk_value.specs.Action.{action_of}
use Rattle.sk_value.specs.Answer.{counted}
use Rattle.sk_value.specs.Apply.{Stays, Turn, changed as key_changed, give_at, goes, says}
use Rattle.sk_value.specs.Keys.{at, purged}
use Rattle.sk_value.specs.Values.{is_string}
use Rattle.sk_value.specs.declared.entry.Entry.{Entry}
use Rattle.sk_value.specs.declared.value.Value.{Value}
use Rattle.sk_value.specs.declared.value.Value.TheVariants as value
use Rattle.sk_model.specs.Change.{Keeps, Passes, moment_after, perform}
use Rattle.sk_model.specs.Event.{Happens, Step, after}
use Rattle.sk_model.specs.Outcome.{Outcome, reply_of}
use Rattle.sk_model.specs.Step.{act}
use Rattle.sk_model.specs.World.{World}
use Rattle.sk_limit.proofs.Acting.{Acts, Rules, acted, by_test, kept, not_one, request_acts, standing_at, turn_at, waited}
use Rattle.sk_limit.proofs.Readings.{give_read}
use Rattle.sk_limit.specs.Own.{Leaves, is_one, words_of}
use Rattle.sk_limit.specs.Requests.{give_words}

abbrev pub entry_with : Bytes → Option ℕ → Entry
entry_with text deadline = record { value = value.String text; deadline = deadline }

give_rule : Bytes → ℕ → Option Entry → Turn
give_rule token now before = give_at token before

string_is : (v : Value) (token : Bytes) → is_string token v ≡ true → v ≡ value.String token
string_is (value.String own) token e = ap value.String ((bytes_eq-Decides own token).0 e)
string_is (value.List list) token e = absurd (cc e)
string_is (value.Set members) token e = absurd (cc e)
string_is (value.Hash pairs) token e = absurd (cc e)
string_is (value.Sorted pairs) token e = absurd (cc e)

-- The key stays, and the answer isn't 1; or it is, and the key held this text.
abbrev GiveTurn : Bytes → Option Entry → Turn → Type 0
GiveTurn token before turn =
    ((turn.change ≡ Stays) × (is_one (reply_of turn.answer) ≡ false))
    ⊎ ((is_one (reply_of turn.answer) ≡ true) × ((deadline : Option ℕ) × (before ≡ Some (entry_with token deadline))))

give_turn : (token : Bytes) (now : ℕ) (before : Option Entry) → GiveTurn token before (give_rule token now before)
unfolding give_rule give_at
give_turn token now None = inl (refl, refl)
give_turn token now (Some entry) = by (is_string token entry.value) refl where
  by : (b : Bool) → is_string token entry.value ≡ b → GiveTurn token (Some entry) (cond (is_string token entry.value) (goes (counted 1)) (says (counted 0)))
  by true e = inr (rw e refl, (entry.deadline, ap (λ (v : Value). Some (record entry { value = v })) (string_is entry.value token e)))
  by false e = inl (rw e refl, rw e refl)

-- It isn't answered 1, and leaves the key; or it is, and the key held this text.
abbrev pub GiveResult : Bytes → Bytes → World → World → Reply → Type 0
GiveResult key token before now reply =
    ((is_one reply ≡ false) × Leaves key before now)
    ⊎ ((is_one reply ≡ true) × ((deadline : Option ℕ) × (at key (purged now.moment before.keys) ≡ Some (entry_with token deadline))))

module _ (key token : Bytes) (w : World) where
  by_turn : (now : ℕ) (turn : Turn) → GiveTurn token (at key (standing_at now w)) turn
      → GiveResult key token w (perform w (Passes now ∷ Keeps (key_changed key turn.change (standing_at now w)) ∷ [])) (reply_of turn.answer)
  by_turn now turn (inl (stays, refused)) = inl (refused, inr (ap (λ change. at key (key_changed key change (standing_at now w))) stays))
  by_turn now turn (inr given) = inr given

  give_result : (o : Outcome) → Acts key (give_rule token) w o → GiveResult key token w (perform w o.changes) o.reply
  give_result o (kept e refused) = inl (not_one o.reply refused, subst (λ cs. Leaves key w (perform w cs)) (sym e) (inl (refl, refl)))
  give_result o (waited now e refused) = inl (not_one o.reply refused, subst (λ cs. Leaves key w (perform w cs)) (sym e) (inr refl))
  give_result o (acted now e) =
      subst (λ (u : Outcome). GiveResult key token w (perform w u.changes) u.reply) (sym e)
      (by_turn now (turn_at key (give_rule token) now w) (give_turn token (moment_after now w) (at key (standing_at now w))))

give_rules : (key token : Bytes) (v : World) → Rules key (give_rule token) v (act v (action_of (plain.Give key token)))
unfolding give_rule
give_rules key token v = by_test (Rules key (give_rule token) v) (is_plain (class_of key)) _ _ (inr (inr refl)) (inl refl)

pub give_comes : (key token : Bytes) (w : World) (step : Step) → words_of step.event ≡ give_words key token → Happens w step.event step.outcome
    → GiveResult key token w (after w step) step.outcome.reply
give_comes key token w step words happens =
    give_result key token w step.outcome
    (request_acts key (give_rule token) (plain.Give key token) refl (give_rules key token) _ _ w step.event step.outcome words (give_read key token) happens)
