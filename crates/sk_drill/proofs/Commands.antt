-- The requests of workers and pollers: which commands they are read as, and that these push nothing.
use Rattle.std.proofs.Common.{◌≡◌, ℕ, ℤ, List, [], ◌∷◌, ◌++◌, Bool, true, false, codes, IsTrue, refl, sym, ap, subst, ◌∙◌, length, arith}
use Rattle.std.specs.Prelude.{drop, get_or, nat_le, Some, Ok, Err, MatchOption}
use Rattle.std.specs.Bool.{MatchBool}
use Rattle.std.specs.Str.{chars, is_utf8, str_eq_ignore_ascii_case}
use Rattle.sk_resp.specs.Name.{spelling}
use Rattle.sk_resp.specs.Spelling.{Bytes}
use Rattle.sk_resp.specs.declared.name.Name.{Name}
use Rattle.sk_resp.specs.declared.name.Name.TheVariants as name
use Rattle.sk_resp.specs.declared.reply.Reply.{Reply}
use Rattle.sk_cmd.specs.Arguments.{IsDueSet, IsLimit, IsScores, IsSide, IsWhole}
use Rattle.sk_cmd.specs.Counts.{IsFour, IsOne, IsOneAnd, IsThree, IsTwo, IsZero, is_odd}
use Rattle.sk_cmd.specs.Reading.{OrMemory, Read, Then}
use Rattle.sk_cmd.specs.Table.{IsPlain, IsRead, IsScript, Reads}
use Rattle.sk_cmd.specs.declared.cmd_fault.CmdFault.TheVariants as fault
use Rattle.sk_cmd.specs.declared.command.Command.{Command}
use Rattle.sk_cmd.specs.declared.command.Command.TheVariants as command
use Rattle.sk_cmd.specs.declared.command.PlainCommand.TheVariants as plain
use Rattle.sk_cmd.specs.declared.command.ScriptCommand.{ScriptCommand}
use Rattle.sk_cmd.specs.declared.command.ScriptCommand.TheVariants as script
use Rattle.sk_cmd.proofs.Names.{names_same}
use Rattle.sk_key.specs.Class.{class_of}
use Rattle.sk_key.specs.declared.key_class.KeyClass.{KeyClass}
use Rattle.sk_key.specs.declared.key_class.KeyClass.TheVariants as class
use Rattle.sk_cmd.specs.declared.argument.Scored.TheVariants.{Retry}
use Rattle.sk_cmd.specs.declared.argument.Side.TheVariants.{Left}
use Rattle.sk_value.specs.declared.write_op.WriteOp.TheVariants as edit
use Rattle.sk_seats.specs.declared.phase.Phase.{Phase}
use Rattle.sk_model.specs.Acked.{Acks, AcksScript, acked_by_edit, where_number}
use Rattle.sk_model.specs.Change.{Passes, changed}
use Rattle.sk_model.specs.Outcome.{Outcome}
use Rattle.sk_model.specs.Step.{MayComeTo, run}
use Rattle.sk_model.specs.World.{World, phase_of}
use Rattle.sk_drill.proofs.Ordinary.{Ordinary, all_ordinary, may_ordinary, by_seat_ordinary, push_ordinary, lrem_ordinary, zadd_ordinary, moves_ordinary, beat_ordinary, join_ordinary, start_ordinary, ok_ordinary, fail_ordinary, drop_ordinary, bury_text_ordinary, due_ordinary, rescue_ordinary, lead_ordinary}

-- ## Commands

-- Its changes are ordinary, and its reply acknowledges so many rows.
pub record Pushes (c : Command) (count : Reply → ℕ) : Type 0 where
  pub acks : (answer : Reply) (n : ℕ) → Acks c answer n → n ≡ count answer
  pub ordinary : (w : World) (seat now : ℕ) (o : Outcome) → MayComeTo w seat now c o → all_ordinary o.changes ≡ true

-- no row
abbrev pub none : Reply → ℕ
none answer = 0

-- one row, where a number was answered
abbrev pub one : Reply → ℕ
one answer = where_number answer 1

by_script : (c : ScriptCommand) → ((answer : Reply) (n : ℕ) → AcksScript c answer n → n ≡ 0) →
    ((w : World) (seat : ℕ) (phase : Phase) → Ordinary (run w seat phase c)) → Pushes (command.Script c) none
by_script c acks ordinary = record {
  acks = acks;
  ordinary = may_ordinary (command.Script c) (λ w seat now. ordinary (changed w (Passes now)) seat (phase_of w seat));
}

lrem_acks : (c : KeyClass) (count : ℤ) (text : Bytes) (answer : Reply) → acked_by_edit c (edit.Lrem count text) answer ≡ 0
lrem_acks c count text answer = grind arith

lrem : (key : Bytes) (count : ℤ) (text : Bytes) → Pushes (command.Plain (plain.Lrem key count text)) none
lrem key count text = record {
  acks = λ answer n is. is ∙ lrem_acks (class_of key) count text answer;
  ordinary = may_ordinary (command.Plain (plain.Lrem key count text)) (λ w seat now.
      by_seat_ordinary (changed w (Passes now)) seat (phase_of w seat) (plain.Lrem key count text) (lrem_ordinary (changed w (Passes now)) key count text (class_of key)));
}

lmove : (source destination : Bytes) (from to : _) → Pushes (command.Plain (plain.Lmove source destination from to)) none
lmove source destination from to = record {
  acks = λ answer n is. is;
  ordinary = may_ordinary (command.Plain (plain.Lmove source destination from to)) (λ w seat now.
      by_seat_ordinary (changed w (Passes now)) seat (phase_of w seat) (plain.Lmove source destination from to)
      (moves_ordinary (changed w (Passes now)) source destination from to (class_of source) (class_of destination)));
}

-- ZADD on `retry`
retry_class : (key : Bytes) → codes "retry" ≡ key → class_of key ≡ class.Jobs Retry
unfolding class_of
retry_class key is = sym (ap (λ k. class_of k) is)

zadd : (key : Bytes) (pairs : _) → class_of key ≡ class.Jobs Retry → Pushes (command.Plain (plain.Zadd key pairs)) none
zadd key pairs is = record {
  acks = λ answer n acks. acks ∙ ap (λ c. acked_by_edit c (edit.Zadd pairs) answer) is;
  ordinary = may_ordinary (command.Plain (plain.Zadd key pairs)) (λ w seat now.
      by_seat_ordinary (changed w (Passes now)) seat (phase_of w seat) (plain.Zadd key pairs) (zadd_ordinary (changed w (Passes now)) key pairs (class_of key)));
}

-- LPUSH of one job to `queue:default`
queue_class : (key : Bytes) → codes "queue:" ++ codes "default" ≡ key → class_of key ≡ class.Queue
unfolding class_of is_utf8 chars lib.Utf8.encode
queue_class key is = sym (ap (λ k. class_of k) is)

lpush : (key text : Bytes) → class_of key ≡ class.Queue → Pushes (command.Plain (plain.Lpush key (text ∷ []))) one
lpush key text is = record {
  acks = λ answer n acks. acks ∙ ap (λ c. acked_by_edit c (edit.Push Left (text ∷ [])) answer) is;
  ordinary = may_ordinary (command.Plain (plain.Lpush key (text ∷ []))) (λ w seat now.
      by_seat_ordinary (changed w (Passes now)) seat (phase_of w seat) (plain.Lpush key (text ∷ [])) (push_ordinary (changed w (Passes now)) key Left (text ∷ []) (class_of key)));
}

-- ## Words

-- Whatever command these words are read as.
abbrev pub ReadPushes : List Bytes → (Reply → ℕ) → Type 0
ReadPushes words count = (c : Command) → IsRead words (Ok c) → Pushes c count

-- what was read first, and what follows
followed : {A : Type 0} (IsFirst : Read A → Type 0) (c : Command) (next : A → Type 0) → Then IsFirst (Ok c) next → (a : A) × IsFirst (Ok a) × next a
followed IsFirst c next (Ok a, is, then_) = (a, is, then_)
followed IsFirst c next (Err e, is, then_) = absurd (cc then_)

by_name : (name : Name) (word : Bytes) (words : List Bytes) (c : Command) → IsTrue (str_eq_ignore_ascii_case word (spelling name)) → IsRead (word ∷ words) (Ok c) → Reads name words (Ok c)
by_name name word words c is read =
    subst (λ found. MatchOption found (◌≡◌ {A = Read Command} (Ok c) (Err fault.Unknown)) (λ n. Reads n words (Ok c))) (names_same word read.0 (Some name) read.1 is) read.2

same_command : (c d : Command) (count : Reply → ℕ) → ◌≡◌ {A = Read Command} (Ok c) (Ok d) → Pushes d count → Pushes c count
same_command c d count e p = let same : c ≡ d = cc e in subst (λ k. Pushes k count) (sym same) p

-- ## Requests

abbrev Reading : Type 0
Reading = Read Command

one_word : (name : Name) (of : Bytes → ScriptCommand) (words : List Bytes) (c : Command) → Then (IsOne name words) (Ok c) (λ w. IsScript (of w) (Ok c)) →
    ((text : Bytes) → Pushes (command.Script (of text)) none) → Pushes c none
one_word name of words c reads each = let f = followed (IsOne name words) c (λ w. IsScript (of w) (Ok c)) reads in
    same_command c (command.Script (of f.0)) none f.2 (each f.0)

pub beats : (ident : Bytes) → ReadPushes (codes "SK.BEAT" ∷ ident ∷ []) none
beats ident c read = one_word name.Beat (λ w. script.Beat w) (ident ∷ []) c (by_name name.Beat (codes "SK.BEAT") (ident ∷ []) c refl read)
    (λ text. by_script (script.Beat text) (λ answer n is. is) (λ w seat phase. beat_ordinary w seat phase text))

pub joins : (ident : Bytes) → ReadPushes (codes "SK.JOIN" ∷ ident ∷ []) none
joins ident c read = one_word name.Join (λ w. script.Join w) (ident ∷ []) c (by_name name.Join (codes "SK.JOIN") (ident ∷ []) c refl read)
    (λ text. by_script (script.Join text) (λ answer n is. is) (λ w seat phase. join_ordinary w seat phase text))

pub starts : (payload : Bytes) → ReadPushes (codes "SK.START" ∷ payload ∷ []) none
starts payload c read = one_word name.Start (λ w. script.Start w) (payload ∷ []) c (by_name name.Start (codes "SK.START") (payload ∷ []) c refl read)
    (λ text. by_script (script.Start text) (λ answer n is. is) (λ w seat phase. start_ordinary w seat phase text))

pub oks : (payload : Bytes) → ReadPushes (codes "SK.OK" ∷ payload ∷ []) none
oks payload c read = one_word name.Ok (λ w. script.Ok w) (payload ∷ []) c (by_name name.Ok (codes "SK.OK") (payload ∷ []) c refl read)
    (λ text. by_script (script.Ok text) (λ answer n is. is) (λ w seat phase. ok_ordinary w seat phase text))

pub fails : (payload : Bytes) → ReadPushes (codes "SK.FAIL" ∷ payload ∷ []) none
fails payload c read = one_word name.Fail (λ w. script.Fail w) (payload ∷ []) c (by_name name.Fail (codes "SK.FAIL") (payload ∷ []) c refl read)
    (λ text. by_script (script.Fail text) (λ answer n is. is) (λ w seat phase. fail_ordinary w seat phase text))

pub drops : (payload : Bytes) → ReadPushes (codes "SK.DROP" ∷ payload ∷ []) none
drops payload c read = one_word name.Drop (λ w. script.Drop w) (payload ∷ []) c (by_name name.Drop (codes "SK.DROP") (payload ∷ []) c refl read)
    (λ text. by_script (script.Drop text) (λ answer n is. is) (λ w seat phase. drop_ordinary w seat phase text))

pub buries : (payload : Bytes) → ReadPushes (codes "SK.BURY" ∷ payload ∷ []) none
buries payload c read = one_word name.Bury (λ w. script.Bury w) (payload ∷ []) c (by_name name.Bury (codes "SK.BURY") (payload ∷ []) c refl read)
    (λ text. by_script (script.Bury text) (λ answer n is. is) (λ w seat phase. bury_text_ordinary w seat phase text))

pub leads : (ident : Bytes) → ReadPushes (codes "SK.LEAD" ∷ ident ∷ []) none
leads ident c read = one_word name.Lead (λ w. script.Lead w) (ident ∷ []) c (by_name name.Lead (codes "SK.LEAD") (ident ∷ []) c refl read)
    (λ text. by_script (script.Lead text) (λ answer n is. is) (λ w seat phase. lead_ordinary w seat phase text))

pub dues : (set limit : Bytes) → ReadPushes (codes "SK.DUE" ∷ set ∷ limit ∷ []) none
dues set limit c read =
    let words = set ∷ limit ∷ [] in
    let f = followed (IsTwo name.Due words) c (λ w. Then (IsDueSet w.0) (Ok c) (λ s. Then (IsLimit w.1) (Ok c) (λ l. IsScript (script.Due s l) (Ok c)))) (by_name name.Due (codes "SK.DUE") words c refl read) in
    let g = followed (IsDueSet f.0.0) c (λ s. Then (IsLimit f.0.1) (Ok c) (λ l. IsScript (script.Due s l) (Ok c))) f.2 in
    let h = followed (IsLimit f.0.1) c (λ l. IsScript (script.Due g.0 l) (Ok c)) g.2 in
    same_command c (command.Script (script.Due g.0 h.0)) none h.2 (by_script (script.Due g.0 h.0) (λ answer n is. is) (λ w seat phase. due_ordinary w seat phase g.0 h.0))

pub rescues : ReadPushes (codes "SK.RESCUE" ∷ []) none
rescues c read =
    let f = followed (IsZero name.Rescue []) c (λ _. IsScript script.Rescue (Ok c)) (by_name name.Rescue (codes "SK.RESCUE") [] c refl read) in
    same_command c (command.Script script.Rescue) none f.2 (by_script script.Rescue (λ answer n is. is) (λ w seat phase. rescue_ordinary w seat phase))

pub fetches : (source destination from to : Bytes) → ReadPushes (codes "LMOVE" ∷ source ∷ destination ∷ from ∷ to ∷ []) none
fetches source destination from to c read =
    let words = source ∷ destination ∷ from ∷ to ∷ [] in
    let f = followed (IsFour name.Lmove words) c (λ w. Then (IsSide w.2) (Ok c) (λ s. Then (IsSide w.3) (Ok c) (λ t. IsPlain (plain.Lmove w.0 w.1 s t) (Ok c))))
    (by_name name.Lmove (codes "LMOVE") words c refl read) in
    let g = followed (IsSide f.0.2) c (λ s. Then (IsSide f.0.3) (Ok c) (λ t. IsPlain (plain.Lmove f.0.0 f.0.1 s t) (Ok c))) f.2 in
    let h = followed (IsSide f.0.3) c (λ t. IsPlain (plain.Lmove f.0.0 f.0.1 g.0 t) (Ok c)) g.2 in
    same_command c (command.Plain (plain.Lmove f.0.0 f.0.1 g.0 h.0)) none h.2 (lmove f.0.0 f.0.1 g.0 h.0)

pub releases : (key count text : Bytes) → ReadPushes (codes "LREM" ∷ key ∷ count ∷ text ∷ []) none
releases key count text c read =
    let words = key ∷ count ∷ text ∷ [] in
    let f = followed (IsThree name.Lrem words) c (λ w. Then (IsWhole w.1) (Ok c) (λ n. IsPlain (plain.Lrem w.0 n w.2) (Ok c))) (by_name name.Lrem (codes "LREM") words c refl read) in
    let g = followed (IsWhole f.0.1) c (λ n. IsPlain (plain.Lrem f.0.0 n f.0.2) (Ok c)) f.2 in
    same_command c (command.Plain (plain.Lrem f.0.0 g.0 f.0.2)) none g.2 (lrem f.0.0 g.0 f.0.2)

scores_read : (odd : Bool) (c : Command) (key : Bytes) (words : List Bytes) →
    MatchBool odd (◌≡◌ {A = Reading} (Ok c) (Err fault.Syntax)) (Then (OrMemory (IsScores words [])) (Ok c) (λ scores. IsPlain (plain.Zadd key scores) (Ok c))) →
    (scores : _) × IsPlain (plain.Zadd key scores) (Ok c)
scores_read true c key words m = absurd (cc m)
scores_read false c key words m = let f = followed (OrMemory (IsScores words [])) c (λ scores. IsPlain (plain.Zadd key scores) (Ok c)) m in (f.0, f.2)

pub retries : (score text : Bytes) → ReadPushes (codes "ZADD" ∷ codes "retry" ∷ score ∷ text ∷ []) none
retries score text c read =
    let words = codes "retry" ∷ score ∷ text ∷ [] in
    let f = followed (IsOneAnd name.Zadd (nat_le 3 (length words)) words) c (λ w.
    MatchBool (is_odd (length w.1)) (◌≡◌ {A = Reading} (Ok c) (Err fault.Syntax)) (Then (OrMemory (IsScores w.1 [])) (Ok c) (λ scores. IsPlain (plain.Zadd w.0 scores) (Ok c))))
    (by_name name.Zadd (codes "ZADD") words c refl read) in
    let g = scores_read (is_odd (length f.0.1)) c f.0.0 f.0.1 f.2 in
    let key : codes "retry" ≡ f.0.0 = ap (λ l. get_or l 0 []) f.1.1 in
    same_command c (command.Plain (plain.Zadd f.0.0 g.0)) none g.1 (zadd f.0.0 g.0 (retry_class f.0.0 key))

-- the push of a job to the queue `default`
pub job_pushed : (text : Bytes) → ReadPushes (codes "LPUSH" ∷ (codes "queue:" ++ codes "default") ∷ text ∷ []) one
job_pushed text c read =
    let words = (codes "queue:" ++ codes "default") ∷ text ∷ [] in
    let f = followed (IsOneAnd name.Lpush (nat_le 2 (length words)) words) c (λ w. IsPlain (plain.Lpush w.0 w.1) (Ok c)) (by_name name.Lpush (codes "LPUSH") words c refl read) in
    let key : codes "queue:" ++ codes "default" ≡ f.0.0 = ap (λ l. get_or l 0 []) f.1.1 in
    let texts : text ∷ [] ≡ f.0.1 = ap (λ l. drop 1 l) f.1.1 in
    same_command c (command.Plain (plain.Lpush f.0.0 f.0.1)) one f.2 (subst (λ ts. Pushes (command.Plain (plain.Lpush f.0.0 ts)) one) texts (lpush f.0.0 text (queue_class f.0.0 key)))
