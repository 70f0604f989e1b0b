-- What has been written is kept up with each command and each cut.
use Rattle.std.proofs.Common.{◌≡◌, ◌⊎◌, ◌∙◌, ◌||◌, List, [], ◌∷◌, ◌++◌, ℕ, Bool, true, false, Option, Some, None, IfSome, inl, inr, refl, sym, ap, subst}
use Rattle.std.specs.Prelude.{cond, Ok}
use Rattle.std.proofs.lemmas.List.{append-nil}
use Rattle.sk_resp.specs.Errors.{is_error}
use Rattle.sk_resp.specs.Spelling.{Bytes}
use Rattle.sk_resp.specs.declared.reply.Reply.{Reply}
use Rattle.sk_resp.specs.declared.reply.Reply.TheVariants as reply
use Rattle.sk_cmd.specs.ReadOnly.{is_quiet}
use Rattle.sk_cmd.specs.Table.{IsRead}
use Rattle.sk_cmd.specs.declared.command.Command.{Command}
use Rattle.sk_cmd.specs.declared.command.Command.TheVariants as command
use Rattle.sk_cmd.specs.declared.command.PlainCommand.{PlainCommand}
use Rattle.sk_cmd.specs.declared.command.PlainCommand.TheVariants as plain
use Rattle.sk_cmd.specs.declared.command.ScriptCommand.{ScriptCommand}
use Rattle.sk_cmd.specs.declared.command.ScriptCommand.TheVariants as script
use Rattle.sk_model.specs.Change.{moment_after, perform}
use Rattle.sk_model.specs.Event.{Ask, Cut, Event, Happens, Reaches, Step, after, world_after}
use Rattle.sk_model.specs.Outcome.{Outcome}
use Rattle.sk_model.specs.Reading.{Words}
use Rattle.sk_model.specs.Replay.{Entry, Idles, Written, acted, entry_of}
use Rattle.sk_model.specs.Step.{MayComeTo, cut, outcome}
use Rattle.sk_model.specs.World.{World}
use Rattle.sk_model.proofs.Replay.NullMoves.{null_moves_idle}
use Rattle.sk_model.proofs.Replay.Replaying.{error_still, quiet_still}
use Rattle.sk_model.proofs.Theorems.Runs.{leads_on}
use Rattle.sk_desk.specs.declared.stamp.Effect.{Effect}
use Rattle.sk_desk.specs.declared.stamp.Effect.TheVariants as effect
use Rattle.sk_desk.specs.declared.stamp.Stamp.{Stamp}
use Rattle.sk_desk.specs.Writing.{Drafts, IsDraft, IsIdle, IsKeptUp, IsWritten, Settles, Spelling, SpellsAll, Writing, WritesCut, WroteSome, WroteUpTo, nothing_written, effect_of, effect_of_plain, effect_of_script, idles_at, is_null, moves_or_changes, reports_zero}
use Rattle.sk_desk.proofs.Idles.{zero_dues_idle, zero_rescues_idle}

-- ## A command that changes nothing

null_is : (answer : Reply) → is_null answer ≡ true → answer ≡ reply.Null
null_is reply.Null is = refl
null_is (reply.Say say) is = absurd (cc is)
null_is (reply.Simple text) is = absurd (cc is)
null_is (reply.Error text) is = absurd (cc is)
null_is (reply.Int n) is = absurd (cc is)
null_is (reply.Bulk bytes) is = absurd (cc is)
null_is (reply.Array texts) is = absurd (cc is)
null_is reply.NullArray is = absurd (cc is)

either : (a b : Bool) → (a || b) ≡ true → (a ≡ true) ⊎ (b ≡ true)
either true b is = inl refl
either false b is = inr is

neither : (a b : Bool) → (a || b) ≡ false → a ≡ false
neither true b is = absurd (cc is)
neither false b is = refl

module _ (w : World) (seat now : ℕ) where
  -- A command that is answered with an error leaves the world but for time.
  idle_error : (c : Command) → is_error (outcome w seat now c).reply ≡ true → Idles w (outcome w seat now c)
  idle_error c error = inr (now, error_still w seat now c error)

  -- So does one whose reply tells in another way that nothing changed.
  idle_or : (c : Command) (told : Bool) → (told ≡ true → Idles w (outcome w seat now c)) → (is_error (outcome w seat now c).reply || told) ≡ true → Idles w (outcome w seat now c)
  idle_or c told tells is = by_reply (either (is_error (outcome w seat now c).reply) told is) where
    by_reply : (is_error (outcome w seat now c).reply ≡ true) ⊎ (told ≡ true) → Idles w (outcome w seat now c)
    by_reply (inl error) = idle_error c error
    by_reply (inr told_is) = tells told_is

  idle_plain : (c : PlainCommand) → idles_at (effect_of_plain c) (outcome w seat now (command.Plain c)).reply ≡ true → Idles w (outcome w seat now (command.Plain c))
  idle_plain (plain.Lmove source destination from to) is =
      let answer : Reply = (outcome w seat now (command.Plain (plain.Lmove source destination from to))).reply in
      idle_or (command.Plain (plain.Lmove source destination from to)) (is_null answer) (λ null. null_moves_idle w seat now source destination from to (null_is answer null)) is
  idle_plain other is = idle_error (command.Plain other) is

  idle_script : (c : ScriptCommand) → idles_at (effect_of_script c) (outcome w seat now (command.Script c)).reply ≡ true → Idles w (outcome w seat now (command.Script c))
  idle_script (script.Due set limit) is =
      let answer : Reply = (outcome w seat now (command.Script (script.Due set limit))).reply in
      idle_or (command.Script (script.Due set limit)) (reports_zero answer) (zero_dues_idle w seat now set limit) is
  idle_script script.Rescue is =
      let answer : Reply = (outcome w seat now (command.Script script.Rescue)).reply in
      idle_or (command.Script script.Rescue) (reports_zero answer) (zero_rescues_idle w seat now) is
  idle_script other is = idle_error (command.Script other) is

  idle_loud : (c : Command) → idles_at (moves_or_changes c) (outcome w seat now c).reply ≡ true → Idles w (outcome w seat now c)
  idle_loud (command.Plain c) is = idle_plain c is
  idle_loud (command.Script c) is = idle_script c is

  idle_by : (c : Command) (quiet : Bool) → is_quiet c ≡ quiet → idles_at (cond quiet effect.Never (moves_or_changes c)) (outcome w seat now c).reply ≡ true → Idles w (outcome w seat now c)
  idle_by c true quiet is = inr (now, quiet_still w seat now c quiet)
  idle_by c false loud is = idle_loud c is

  -- So does one that starves.
  idles : (c : Command) (o : Outcome) → MayComeTo w seat now c o → idles_at (effect_of c) o.reply ≡ true → Idles w o
  idles c o (inl e) is = subst (Idles w) (sym e) (idle_by c (is_quiet c) refl (ap (λ (p : Outcome). idles_at (effect_of c) p.reply) (sym e) ∙ is))
  idles c o (inr (may, e)) is = inr (now, ap (λ (p : Outcome). perform w p.changes) e)

-- ## Entries behind entries

written_on : (w : World) (steps more : List Step) (entries others : List Entry) → Written w steps entries → Written (world_after w steps) more others → Written w (steps ++ more) (entries ++ others)
written_on w [] more entries others first then = subst (λ (l : List Entry). Written w more (l ++ others)) (sym first) then
written_on w (step ∷ steps) more entries others (inl (ok, (rest, is, writes))) then =
    inl (ok, (rest ++ others, ap (λ (l : List Entry). l ++ others) is, written_on (after w step) steps more rest others writes then))
written_on w (step ∷ steps) more entries others (inr (idle, writes)) then = inr (idle, written_on (after w step) steps more entries others writes then)

spelled_on : (spells : Spelling) (entries : List Entry) (e : Entry) (bodies : List Bytes) (body : Bytes) → SpellsAll spells entries bodies → spells e.event body → SpellsAll spells (entries ++ e ∷ []) (bodies ++ body ∷ [])
spelled_on spells [] e bodies body all one = (body, [], one, ap (λ (l : List Bytes). l ++ body ∷ []) all, refl)
spelled_on spells (x ∷ entries) e bodies body (first, more, is, whole, all) one =
    (first, more ++ body ∷ [], is, ap (λ (l : List Bytes). l ++ body ∷ []) whole, spelled_on spells entries e more body all one)

module _ (spells : Spelling) (start w v : World) (bodies : List Bytes) (step : Step) (happens : Happens w step.event step.outcome) (new_is : v ≡ after w step) (old : IsWritten spells start w bodies) where
  leads : Reaches start (old.steps ++ step ∷ []) v
  leads = leads_on start w v old.steps (step ∷ []) old.leads (record { run = (happens, tt); new_is = new_is })

  from_here : (entries : List Entry) → Written w (step ∷ []) entries → Written (world_after start old.steps) (step ∷ []) entries
  from_here entries writes = subst (λ (u : World). Written u (step ∷ []) entries) old.leads.new_is writes

  -- with nothing more
  idled : Idles w step.outcome → IsWritten spells start v bodies
  idled idle = record {
    steps = old.steps ++ step ∷ [];
    leads = leads;
    entries = old.entries ++ [];
    written = written_on start old.steps (step ∷ []) old.entries [] old.written (from_here [] (inr (idle, refl)));
    spelled = subst (λ (l : List Entry). SpellsAll spells l bodies) (sym (append-nil old.entries)) old.spelled;
  }

  -- with the body of this step
  added : (body : Bytes) → is_error step.outcome.reply ≡ false → spells (acted w step.event) body → IsWritten spells start v (bodies ++ body ∷ [])
  added body ok spelled = record {
    steps = old.steps ++ step ∷ [];
    leads = leads;
    entries = old.entries ++ entry_of w step ∷ [];
    written = written_on start old.steps (step ∷ []) old.entries (entry_of w step ∷ []) old.written (from_here (entry_of w step ∷ []) (inl (ok, ([], refl, refl))));
    spelled = spelled_on spells old.entries (entry_of w step) bodies body old.spelled spelled;
  }

-- ## A command and a cut

loud : (how : Effect) (answer : Reply) (spells : Spelling) (event : Event) (draft : List Bytes) → idles_at how answer ≡ false → IsDraft spells how event draft
    → (is_error answer ≡ false) × ((body : Bytes) × spells event body × (draft ≡ body ∷ []))
loud effect.Never answer spells event draft is drafted = absurd (cc is)
loud effect.UnlessNull answer spells event draft is drafted = (neither (is_error answer) (is_null answer) is, drafted)
loud effect.UnlessZero answer spells event draft is drafted = (neither (is_error answer) (reports_zero answer) is, drafted)
loud effect.Always answer spells event draft is drafted = (is, drafted)

module _ (spells : Spelling) (start w v : World) (seat now : ℕ) (words : Words) (c : Command) (o : Outcome) (happens : Happens w (Ask seat now words) o) (may : MayComeTo w seat now c o) (new_is : v ≡ perform w o.changes) where
  abbrev step : Step
  step = record { event = Ask seat now words; outcome = o }

  by_idle : (bodies draft : List Bytes) (idle : Bool) → idles_at (effect_of c) o.reply ≡ idle → IsWritten spells start w bodies → IsDraft spells (effect_of c) (Ask seat (moment_after now w) words) draft
      → IsWritten spells start v (cond idle bodies (bodies ++ draft))
  by_idle bodies draft true is old drafted = idled spells start w v bodies step happens new_is old (idles w seat now c o may is)
  by_idle bodies draft false is old drafted =
      let heard = loud (effect_of c) o.reply spells (Ask seat (moment_after now w) words) draft is drafted in
      let (ok, (body, spelled, draft_is)) = heard in
      subst (λ (l : List Bytes). IsWritten spells start v (bodies ++ l)) (sym draft_is) (added spells start w v bodies step happens new_is old body ok spelled)

pub idle_at : (spells : Spelling) (start w : World) (writing : Option Writing) → IfSome writing (IsKeptUp spells start w) → IsIdle writing
idle_at spells start w None kept = tt
idle_at spells start w (Some writing) kept = kept.idle

-- what a book is told of the command
abbrev pub stamp_of : World → ℕ → ℕ → Command → Stamp
stamp_of w seat now c = record { seat = seat; sent_at = now; acts_at = moment_after now w; effect = effect_of c }

module _ (spells : Spelling) (start w v : World) (seat now : ℕ) (words : Words) (c : Command) (o : Outcome) (answer : Reply) (may : MayComeTo w seat now c o) (new_is : v ≡ perform w o.changes) (reply_is : answer ≡ o.reply) where
  drafted : (writing : Writing) (mid next : Option Writing) → IsRead words (Ok c) → IsKeptUp spells start w writing → Drafts spells (stamp_of w seat now c) words (Some writing) mid → Settles (effect_of c) answer mid next
      → IfSome next (IsKeptUp spells start v)
  drafted writing mid next read kept (draft, is, mid_is) settles = by_settled (subst (λ (m : Option Writing). Settles (effect_of c) answer m next) mid_is settles) where
    by_settled : Settles (effect_of c) answer (Some (record { bodies = writing.bodies; draft = draft })) next → IfSome next (IsKeptUp spells start v)
    by_settled (inr none) = subst (λ (a : Option Writing). IfSome a (IsKeptUp spells start v)) (sym none) tt
    by_settled (inl is_now) = subst (λ (a : Option Writing). IfSome a (IsKeptUp spells start v)) (sym is_now) (record {
      idle = refl;
      is = subst (λ (r : Reply). IsWritten spells start v (cond (idles_at (effect_of c) r) writing.bodies (writing.bodies ++ draft))) (sym reply_is)
          (by_idle spells start w v seat now words c o (Ok c, read, may) may new_is writing.bodies draft (idles_at (effect_of c) o.reply) refl kept.is is);
    })

  pub asked_written : (wants : Bool) (writing mid next : Option Writing) → (wants ≡ true → IsRead words (Ok c)) → (wants ≡ false → writing ≡ None) → IfSome writing (IsKeptUp spells start w)
      → Drafts spells (stamp_of w seat now c) words writing mid → Settles (effect_of c) answer mid next → IfSome next (IsKeptUp spells start v)
  asked_written true (Some writing) mid next read unwritten kept drafts settles = drafted writing mid next (read refl) kept drafts settles
  asked_written false (Some writing) mid next read unwritten kept drafts settles = absurd (cc (unwritten refl))
  asked_written wants None mid next read unwritten kept drafts settles =
      let none : next ≡ None = subst (λ (m : Option Writing). Settles (effect_of c) answer m next) drafts settles in
      subst (λ (a : Option Writing). IfSome a (IsKeptUp spells start v)) (sym none) tt

pub cut_written : (spells : Spelling) (start w v : World) (seat : ℕ) (writing next : Option Writing) → v ≡ perform w (cut seat).changes → IfSome writing (IsKeptUp spells start w) → WritesCut spells seat writing next → IfSome next (IsKeptUp spells start v)
cut_written spells start w v seat None next new_is kept is = subst (λ (a : Option Writing). IfSome a (IsKeptUp spells start v)) (sym is) tt
cut_written spells start w v seat (Some writing) next new_is kept (inr none) = subst (λ (a : Option Writing). IfSome a (IsKeptUp spells start v)) (sym none) tt
cut_written spells start w v seat (Some writing) next new_is kept (inl (body, spelled, is)) = subst (λ (a : Option Writing). IfSome a (IsKeptUp spells start v)) (sym is) (record {
  idle = refl;
  is = added spells start w v writing.bodies (record { event = Cut seat; outcome = cut seat }) refl new_is kept.is body refl spelled;
})

pub written_first : (spells : Spelling) (start : World) (writing : Option Writing) → IfSome writing (λ w. w ≡ nothing_written) → IfSome writing (IsKeptUp spells start start)
written_first spells start None none = tt
written_first spells start (Some writing) none = subst (IsKeptUp spells start start) (sym none) (record {
  idle = refl;
  is = record { steps = []; leads = record { run = tt; new_is = refl }; entries = []; written = refl; spelled = refl };
})

-- what is said of all that was written is said of a run
pub wrote : (spells : Spelling) (start w : World) (writing : Option Writing) (Holds : List Bytes → Type 0) → IfSome writing (IsKeptUp spells start w) → WroteUpTo Holds writing → WroteSome spells start Holds
wrote spells start w None Holds kept holds = absurd holds
wrote spells start w (Some writing) Holds kept holds = record { world = w; bodies = writing.bodies; written = kept.is; holds = holds }
