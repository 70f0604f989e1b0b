-- An event is served, or starves.
use Rattle.std.proofs.Common.{◌≡◌, ◌≢◌, ◌⊎◌, ℕ, List, [], ◌∷◌, refl, sym, ap, subst, ◌∙◌, inl, inr, arith, Bool, true, false, cond, lit<}
use Rattle.std.specs.Prelude.{Ok, Err, ℤ, pos, negsuc, Option, Some, None, nat_le, codes, MatchOption, MatchResult}
use Rattle.sk_resp.specs.Number.{IsInt}
use Rattle.sk_resp.specs.Spelling.{Bytes}
use Rattle.std.specs.Bool.{MatchBool}
use Rattle.std.specs.Fmt.{digits}
use Rattle.sk_resp.specs.declared.name.Name.{Name}
use Rattle.sk_resp.specs.declared.name.Name.TheVariants as name
use Rattle.sk_resp.specs.declared.reply.Reply.TheVariants as reply
use Rattle.sk_resp.specs.declared.say.Say.{Say}
use Rattle.sk_resp.specs.declared.say.Say.TheVariants as say
use Rattle.sk_cmd.proofs.AgreeArguments.{int_same}
use Rattle.sk_cmd.proofs.Names.{names_same}
use Rattle.sk_cmd.specs.Arguments.{IsWhole}
use Rattle.sk_cmd.specs.Fault.{fault_say}
use Rattle.sk_cmd.specs.Reading.{Read, Then}
use Rattle.sk_cmd.specs.Table.{IsPlain, IsRead, Reads}
use Rattle.sk_cmd.specs.declared.cmd_fault.CmdFault.{CmdFault}
use Rattle.sk_cmd.specs.declared.cmd_fault.CmdFault.TheVariants as fault
use Rattle.sk_cmd.specs.declared.command.Command.{Command}
use Rattle.sk_cmd.specs.declared.command.Command.TheVariants as command
use Rattle.sk_cmd.specs.declared.command.PlainCommand.TheVariants as plain
use Rattle.sk_value.specs.declared.action.Action.TheVariants as action
use Rattle.sk_value.specs.declared.write_op.WriteOp.TheVariants as edit
use Rattle.sk_seats.specs.declared.phase.Phase.{Phase}
use Rattle.sk_seats.specs.declared.phase.Phase.TheVariants.{Plain, Joined}
use Rattle.sk_seats.specs.declared.work.Stage.{Stage}
use Rattle.sk_seats.specs.declared.work.Stage.TheVariants.{Held, Put, Settled}
use Rattle.sk_seats.specs.declared.work.Work.{Work}
use Rattle.sk_seats.specs.Works.{first as first_work, is_done_as}
use Rattle.sk_model.specs.World.{World, phase_of}
use Rattle.sk_model.specs.Change.{Add, Carry, Take, Trim, Merge, PutBack, Free, Fire, Change, Moves, Passes, Names, Unnames, Keeps, Turns, Beats, Counts, Recovers, Forgets, Locks, Unlocks, Elects, TakesSlot, Makes, Joins, Notifies, changed, freed, freed_at, freed_work, perform}
use Rattle.sk_model.specs.Outcome.{Outcome, tells}
use Rattle.sk_model.specs.Seats.{releases}
use Rattle.sk_model.specs.Step.{MayComeTo, may_starve, outcome}
use Rattle.sk_model.specs.Reading.{Words, PipeCommand, Refused, SetTime, ActAs, CutSeat, RunCommand, IsNumber, IsSaid, is_own, is_word, last_seat, moment_said, seat_said}
use Rattle.sk_model.specs.Event.{Ask, Cut, ResultsIn, Run, after}
use Rattle.sk_model.specs.Run.{Turn, IsAskTurn, IsOwnTurn, happened}
use Rattle.sk_model.specs.Starving.{IsServed, IsStarved, LimitsStay, OwnWordsNeverStarve, ReleasesNeverStarve, ServedOrStarved}

not_oom : reply.Say say.Ok ≢ reply.Say say.Oom
not_oom e = cc e

is_memory : (f : CmdFault) → (f ≡ fault.Memory) ⊎ (f ≢ fault.Memory)
is_memory fault.Memory = inl refl
is_memory fault.Unknown = inr (λ e. cc e)
is_memory (fault.Arity name) = inr (λ e. cc e)
is_memory fault.NotInt = inr (λ e. cc e)
is_memory fault.NotScore = inr (λ e. cc e)
is_memory fault.BadBound = inr (λ e. cc e)
is_memory fault.Syntax = inr (λ e. cc e)

module _ (w : World) (seat now : ℕ) (words : Words) (o : Outcome) where
  fault_served : (f : CmdFault) → IsRead words (Err f) → ResultsIn w seat now (Err f) o → (f ≡ fault.Memory) ⊎ (f ≢ fault.Memory) → IsServed w (Ask seat now words) o ⊎ (f ≡ fault.Memory)
  fault_served f read e (inl m) = inr m
  fault_served f read e (inr n) = inl (Err f, read, (λ m. n (cc m)), e)

  starved_or : (f : CmdFault) → o ≡ tells (fault_say f) → IsServed w (Ask seat now words) o ⊎ (f ≡ fault.Memory) → IsServed w (Ask seat now words) o ⊎ IsStarved (Ask seat now words) o
  starved_or f e (inl served) = inl served
  starved_or f e (inr m) = inr (inr (e ∙ ap (λ f. tells (fault_say f)) m))

  given : (r : Read Command) → IsRead words r → ResultsIn w seat now r o → IsServed w (Ask seat now words) o ⊎ IsStarved (Ask seat now words) o
  given (Ok c) read (inl e) = inl (Ok c, read, (λ n. cc n), e)
  given (Ok c) read (inr starved) = inr (inl starved.1)
  given (Err f) read e = starved_or f e (fault_served f read e (is_memory f))

pub served_or_starved : ServedOrStarved
served_or_starved w (Ask seat now words) o (r, read, gives) = given w seat now words o r read gives
served_or_starved w (Cut seat) o e = inl e

-- ## Releases

-- LREM takes three words, the second of which is a number
one_is : IsInt (codes "1") (Some (pos 1))
unfolding digits
one_is = (lit< tt, refl)

count_is : (r : Read ℤ) → IsWhole (codes "1") r → r ≡ Ok (pos 1)
count_is r (n, is, read) = from_int (int_same (codes "1") n (Some (pos 1)) is one_is) read where
  from_int : n ≡ Some (pos 1) → MatchOption n (r ≡ Err fault.NotInt) (λ z. r ≡ Ok z) → r ≡ Ok (pos 1)
  from_int e m = subst (λ n. MatchOption n (r ≡ Err fault.NotInt) (λ z. r ≡ Ok z)) e m

module _ (key held : Bytes) where
  abbrev three : Words
  three = key ∷ codes "1" ∷ held ∷ []

  abbrev Rest : Read Command → (Bytes × Bytes × Bytes) → Type 0
  Rest r p = Then (IsWhole p.1) r (λ count. IsPlain (plain.Lrem p.0 count p.2) r)

  counted : (r : Read Command) (n : Read ℤ) → n ≡ Ok (pos 1) → MatchResult n (λ count. IsPlain (plain.Lrem key count held) r) (λ e. r ≡ Err e) → r ≡ Ok (command.Plain (plain.Lrem key (pos 1) held))
  counted r n e m = subst (λ n. MatchResult n (λ count. IsPlain (plain.Lrem key count held) r) (λ e. r ≡ Err e)) e m

  parted : (r : Read Command) (a b c : Bytes) → key ≡ a → codes "1" ≡ b → held ≡ c → Rest r (a, b, c) → r ≡ Ok (command.Plain (plain.Lrem key (pos 1) held))
  parted r a b c e f g rest =
      let mine : Rest r (key, codes "1", held) = subst (λ a. Rest r (a, codes "1", held)) (sym e) (subst (λ b. Rest r (a, b, held)) (sym f) (subst (λ c. Rest r (a, b, c)) (sym g) rest)) in
      counted r mine.0 (count_is mine.0 mine.1) mine.2

  lrem_read : (r : Read Command) → Reads name.Lrem three r → r ≡ Ok (command.Plain (plain.Lrem key (pos 1) held))
  lrem_read r (Ok p, is, rest) = parted r p.0 p.1 p.2 (cc is) (cc is) (cc is) rest
  lrem_read r (Err e, is, rest) = absurd (is.1 refl)

  release_read : (word : Bytes) (r : Read Command) → is_word name.Lrem word ≡ true → IsRead (word ∷ three) r → r ≡ Ok (command.Plain (plain.Lrem key (pos 1) held))
  release_read word r is (None, names, reads) = absurd (names name.Lrem is)
  release_read word r is (Some n, names, reads) =
      let same : Some n ≡ Some name.Lrem = names_same word (Some n) (Some name.Lrem) names is in
      let lrem : n ≡ name.Lrem = cc same in
      lrem_read r (subst (λ n. Reads n three r) lrem reads)

no_starving : (w : World) (seat : ℕ) (key held : Bytes) → releases (phase_of w seat) (action.WriteOp key (edit.Lrem (pos 1) held)) ≡ true → may_starve w seat (command.Plain (plain.Lrem key (pos 1) held)) ≡ true → ⊥
no_starving w seat key held release may = grind (arith, release, may)

pub releases_never_starve : ReleasesNeverStarve
releases_never_starve w seat now words key held o rel (r, read, gives) =
    served (subst (λ r. ResultsIn w seat now r o) (release_read key held rel.word r rel.word_is (subst (λ words. IsRead words r) rel.words_are read)) gives)
  where
    served : MayComeTo w seat now (command.Plain (plain.Lrem key (pos 1) held)) o → o ≡ outcome w seat now (command.Plain (plain.Lrem key (pos 1) held))
    served (inl e) = e
    served (inr (may, e)) = absurd (no_starving w seat key held rel.release may)

-- ## Words of a pipe's own

-- a refusal of them isn't `-OOM`
moment_text : (n : Option ℤ) (s : Say) → Refused s ≡ moment_said n → s ≢ say.Oom
moment_text (Some (pos n)) s e = absurd (cc e)
moment_text (Some (negsuc n)) s e = λ f. cc (e, f)
moment_text None s e = λ f. cc (e, f)

seat_text : (says : ℕ → PipeCommand) (n : Option ℤ) (s : Say) → ((m : ℕ) → Refused s ≡ says m → ⊥) → Refused s ≡ seat_said says n → s ≢ say.Oom
seat_text says (Some (pos n)) s none e = by_size (nat_le n last_seat) e where
  by_size : (b : Bool) → Refused s ≡ cond b (says n) (Refused say.NotInt) → s ≢ say.Oom
  by_size true e = absurd (none n e)
  by_size false e = λ f. cc (e, f)
seat_text says (Some (negsuc n)) s none e = λ f. cc (e, f)
seat_text says None s none e = λ f. cc (e, f)

number_text : (name : Name) (meant : Option ℤ → PipeCommand) (words : Words) (s : Say) → ((n : Option ℤ) → Refused s ≡ meant n → s ≢ say.Oom) → IsNumber name meant words (Refused s) → s ≢ say.Oom
number_text name meant [] s none is = λ f. cc (is, f)
number_text name meant (text ∷ []) s none is = none is.0 is.2
number_text name meant (text ∷ more ∷ words) s none is = λ f. cc (is, f)

either_text : {P Q : Type 0} (s : Say) (test : Bool) → (P → s ≢ say.Oom) → (test ≡ false → Q → s ≢ say.Oom) → MatchBool test P Q → s ≢ say.Oom
either_text s true f g m = f m
either_text s false f g m = g refl m

refused_text : (words : Words) (s : Say) → is_own words ≡ true → IsSaid words (Refused s) → s ≢ say.Oom
refused_text [] s own is = absurd (cc own)
refused_text (word ∷ words) s own is =
    either_text s (is_word name.Now word) (number_text name.Now moment_said words s (λ n. moment_text n s)) (λ now.
    either_text s (is_word name.As word) (number_text name.As (seat_said ActAs) words s (λ n. seat_text ActAs n s (λ m e. cc e))) (λ acts.
    either_text s (is_word name.Cut word) (number_text name.Cut (seat_said CutSeat) words s (λ n. seat_text CutSeat n s (λ m e. cc e))) (λ cut. absurd (grind (arith, own, now, acts, cut))))) is

own_text : (w : World) (seat now : ℕ) (words : Words) (t : Turn) (said : PipeCommand) → is_own words ≡ true → IsSaid words said → IsOwnTurn seat now said t → Run w t.steps → t.reply ≢ reply.Say say.Oom
own_text w seat now words t (Refused s) own is turn run = λ f. refused_text words s own is (say_of s (sym (ap (λ (t : Turn). t.reply) turn) ∙ f)) where
  say_of : (s : Say) → reply.Say s ≡ reply.Say say.Oom → s ≡ say.Oom
  say_of s e = cc e
own_text w seat now words t (SetTime other) own is turn run = λ f. not_oom (sym (ap (λ (t : Turn). t.reply) turn) ∙ f)
own_text w seat now words t (ActAs other) own is turn run = λ f. not_oom (sym (ap (λ (t : Turn). t.reply) turn) ∙ f)
own_text w seat now words t (CutSeat other) own is (o, turn) run =
    let cut_run : Run w (happened seat now (Cut other) o false).steps = subst (λ (t : Turn). Run w t.steps) turn run in
    λ f. not_oom (sym (ap (λ (o : Outcome). o.reply) cut_run.0) ∙ sym (ap (λ (t : Turn). t.reply) turn) ∙ f)
own_text w seat now words t (RunCommand c) own is turn run = absurd turn

pub own_words_never_starve : OwnWordsNeverStarve
own_words_never_starve w seat now words t own is run = from_own (is_own words) own is where
  from_own : (b : Bool) → b ≡ true → MatchBool b ((said : PipeCommand) × IsSaid words said × IsOwnTurn seat now said t) (IsAskTurn seat now words t) → t.reply ≢ reply.Say say.Oom
  from_own true e (said, read, turn) = own_text w seat now words t said own read turn run
  from_own false e m = absurd (cc e)

-- ## The limits stay

at_limits : (ident text : Bytes) (w : World) (stage : Stage) → (freed_at stage ident text w).limits ≡ w.limits
at_limits ident text w Held = refl
at_limits ident text w Put = refl
at_limits ident text w (Settled end) = refl

work_limits : (ident : Bytes) (w : World) (found : Option Work) → (freed_work ident w found).limits ≡ w.limits
work_limits ident w None = refl
work_limits ident w (Some work) = at_limits ident work.payload w work.stage

freed_limits : (text : Bytes) (w : World) (phase : Phase) → (freed text w phase).limits ≡ w.limits
freed_limits text w Plain = refl
freed_limits text w (Joined ident works) = work_limits ident w (first_work (is_done_as text) works)

changed_limits : (w : World) (change : Change) → (changed w change).limits ≡ w.limits
changed_limits w (Moves (Free seat text)) = freed_limits text w (phase_of w seat)
changed_limits w (Moves (Add row end from)) = refl
changed_limits w (Moves (Carry row from to score end)) = refl
changed_limits w (Moves (Take row from)) = refl
changed_limits w (Moves (Trim row)) = refl
changed_limits w (Moves (Merge row)) = refl
changed_limits w (Moves (PutBack row)) = refl
changed_limits w (Moves (Fire bid kind)) = refl
changed_limits w (Passes now) = refl
changed_limits w (Names queue) = refl
changed_limits w (Unnames queue) = refl
changed_limits w (Keeps keys) = refl
changed_limits w (Turns seat phase) = refl
changed_limits w (Beats ident) = refl
changed_limits w (Counts name) = refl
changed_limits w (Recovers jid) = refl
changed_limits w (Forgets jid) = refl
changed_limits w (Locks digest jid seconds) = refl
changed_limits w (Unlocks digest jid) = refl
changed_limits w (Elects ident) = refl
changed_limits w (TakesSlot loop slot text) = refl
changed_limits w (Makes batch jids) = refl
changed_limits w (Joins bid jids) = refl
changed_limits w (Notifies event bid jid) = refl

pub limits_kept : (w : World) (changes : List Change) → (perform w changes).limits ≡ w.limits
limits_kept w [] = refl
limits_kept w (change ∷ changes) = limits_kept (changed w change) changes ∙ changed_limits w change

pub limits_stay : LimitsStay
limits_stay w [] = refl
limits_stay w (step ∷ steps) = limits_stay (after w step) steps ∙ limits_kept w step.outcome.changes
