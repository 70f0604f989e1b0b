-- How the whole text is read.
use Rattle.std.proofs.Common.{arith, ◌≡◌, ◌≢◌, ◌<◌, ◌≤◌, ◌+◌, ◌++◌, ◌∷◌, ◌∙◌, [], List, ℕ, suc, Bool, true, false, Option, Some, None, refl, sym, ap, subst, take, drop, get_or, length, MatchOption, append_assoc}
use Rattle.std.proofs.Math.Seq.{take-length, take-suc}
use Rattle.std.proofs.lemmas.List.{take-append-drop}
use Rattle.sk_cron.specs.declared.cron_fault.CronFault.{CronFault}
use Rattle.sk_cron.specs.declared.field.Field.{Field}
use Rattle.sk_cron.specs.declared.part.Part.{Part}
use Rattle.sk_cron.specs.declared.reader.Reader.{Reader}
use Rattle.sk_cron.specs.CronText.{IsCronText}
use Rattle.sk_cron.specs.Fault.{GoesOn, IsFault, ended_fields}
use Rattle.sk_cron.specs.Read.{Agrees, AllHold, HasRead, start}
use Rattle.sk_cron.specs.Reading.{Machine, finish, go, run}
use Rattle.sk_cron.proofs.Accepts.{accepts, run-append, run_none}
use Rattle.sk_cron.proofs.Counting.{Counted, counted_next, counted_none}
use Rattle.sk_cron.proofs.Reached.{Reached, goes_on, reached_end, reached_next, reached_start}

-- the reader has read this text
pub record IsAt (text : List ℕ) (r : Reader) : Type 0 where
  pub m : Machine
  pub agrees : Agrees m r
  pub reached : Reached m text
  pub runs : run (Some start) text ≡ Some m
  pub counted : Counted m.done m.state text

pub at_start : (r : Reader) → Agrees start r → IsAt [] r
at_start r a = record { m = start; agrees = a; reached = reached_start; runs = refl; counted = counted_none }

-- what the reader says of a byte
abbrev pub Takes : Reader → ℕ → Bool → Reader → Type 0
Takes r byte taken after = (m : Machine) → Agrees m r → MatchOption (go m byte) (taken ≡ false) (λ next. (taken ≡ true) × Agrees next after)

pub at_next : (text : List ℕ) (r : Reader) (byte : ℕ) (after : Reader) → IsAt text r → Takes r byte true after → IsAt (text ++ byte ∷ []) after
at_next text r byte after i t = by (go i.m byte) refl (t i.m i.agrees)
  where
    by : (o : Option Machine) → go i.m byte ≡ o → MatchOption o (true ≡ false) (λ next. (true ≡ true) × Agrees next after) → IsAt (text ++ byte ∷ []) after
    by None e h = absurd (cc h)
    by (Some n) e h = record {
      m = n;
      agrees = h.1;
      reached = reached_next i.m n byte text i.reached e;
      runs = run-append (Some start) text (byte ∷ []) ∙ ap (λ o. run o (byte ∷ [])) i.runs ∙ e;
      counted = counted_next i.m n byte text i.counted e;
    }

-- With a byte that isn't taken no cron text goes on.
stuck : (text : List ℕ) (r : Reader) (byte : ℕ) (after : Reader) → IsAt text r → Takes r byte false after → GoesOn (text ++ byte ∷ []) → ⊥
stuck text r byte after i t g = by (go i.m byte) refl (t i.m i.agrees)
  where
    whole : List ℕ
    whole = (text ++ byte ∷ []) ++ g.0

    runs_on : (o : Option Machine) → go i.m byte ≡ o → run (Some start) ((text ++ byte ∷ []) ++ g.0) ≡ run o g.0
    runs_on o e = run-append (Some start) (text ++ byte ∷ []) g.0 ∙ ap (λ p. run p g.0) (run-append (Some start) text (byte ∷ []) ∙ ap (λ p. run p (byte ∷ [])) i.runs ∙ e)

    by : (o : Option Machine) → go i.m byte ≡ o → MatchOption o (false ≡ false) (λ next. (false ≡ true) × Agrees next after) → ⊥
    by None e h = let a = accepts ((text ++ byte ∷ []) ++ g.0) g.1 g.2 in cc (sym a.runs ∙ runs_on None e ∙ run_none g.0)
    by (Some n) e h = cc h.0

pub next_taken : (text : List ℕ) (place byte : ℕ) → place < length text → byte ≡ get_or text place 0 → take (place + 1) text ≡ take place text ++ byte ∷ []
next_taken text place byte lt is =
    let e : place + 1 ≡ suc place = omega arith in
    ap (λ n. take n text) e ∙ take-suc text place 0 lt ∙ ap (λ b. take place text ++ b ∷ []) (sym is)

pub fault_here : (text : List ℕ) (place : ℕ) (r : Reader) (byte field : ℕ) (after : Reader) → place < length text → byte ≡ get_or text place 0 → field ≡ r.at → IsAt (take place text) r → Takes r byte false after
    → IsFault text (record { field = field; place = place })
fault_here text place r byte field after lt is at i t =
    let one_more : take (place + 1) text ≡ take place text ++ byte ∷ [] = next_taken text place byte lt is in
    let stop : GoesOn (take (place + 1) text) → ⊥ = λ g. stuck (take place text) r byte after i t (subst GoesOn one_more g) in
    record {
      before = goes_on i.m (take place text) i.reached;
      place = λ lt g. stop g;
      none = λ fields c. stop (drop (place + 1) text, fields, subst (λ x. IsCronText x fields) (sym (take-append-drop (place + 1) text)) c);
      field = at ∙ sym i.agrees.done ∙ sym i.counted.count;
    }

-- what the reader says of the end
abbrev pub Finishes : Reader → Bool → Reader → Type 0
Finishes r ended after = (m : Machine) → Agrees m r → MatchOption (finish m) (ended ≡ false) (λ fields. (ended ≡ true) × AllHold fields after.fields)

pub end_read : (text : List ℕ) (r after : Reader) → IsAt text r → Finishes r true after → HasRead text after.fields
end_read text r after i t = by (finish i.m) refl (t i.m i.agrees)
  where
    by : (o : Option (List (List Part))) → finish i.m ≡ o → MatchOption o (true ≡ false) (λ fields. (true ≡ true) × AllHold fields after.fields) → HasRead text after.fields
    by None e h = absurd (cc h)
    by (Some fields) e h = (fields, reached_end i.m text fields i.reached e, h.1)

pub end_fault : (text : List ℕ) (r after : Reader) (field : ℕ) → field ≡ r.at → IsAt text r → Finishes r false after → IsFault text (record { field = field; place = length text })
end_fault text r after field at i t = record {
  before = subst GoesOn (sym (take-length text)) (goes_on i.m text i.reached);
  place = λ lt g. absurd (omega (arith, lt));
  none = λ fields c. by fields c (finish i.m) refl (t i.m i.agrees);
  field = at ∙ sym i.agrees.done ∙ sym i.counted.count ∙ sym (ap ended_fields (take-length text));
}
  where
    by : (fields : List (List Part)) → IsCronText text fields → (o : Option (List (List Part))) → finish i.m ≡ o → MatchOption o (false ≡ false) (λ fields. (false ≡ true) × AllHold fields after.fields) → ⊥
    by fields c None e h = let a = accepts text fields c in let same : a.m ≡ i.m = cc (sym a.runs ∙ i.runs) in cc (sym e ∙ ap finish (sym same) ∙ a.ends)
    by fields c (Some f) e h = cc h.0
