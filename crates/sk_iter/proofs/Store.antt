-- What GET and SET of a cursor do in a run of the store, and what stands under its key.
use Rattle.std.proofs.Common.{◌≡◌, ◌∙◌, ◌⊎◌, ◌<◌, ◌≤◌, ◌^◌, ◌==◌, inl, inr, ℕ, Bool, true, false, cond, not, [], ◌∷◌, refl, sym, ap, subst, Option, Some, None, Result, Ok, Err, arith, get_or}
use Rattle.std.specs.Fmt.{decimal}
use Rattle.std.specs.Ordering.{is_eq}
use Rattle.std.proofs.lemmas.Cmp.{nat_list_cmp_total}
use Rattle.std.proofs.lemmas.Fmt.{decimal_injective}
use Rattle.std.proofs.lemmas.Map.Text.{is_eq-slice_cmp}
use Rattle.std.proofs.lemmas.Slice.Eq.{bytes_eq-Decides}
use Rattle.sk_resp.specs.Reply.{say_text, wire}
use Rattle.sk_resp.specs.Spelling.{Bytes, bulk, line}
use Rattle.sk_resp.specs.WordOrder.{text_cmp}
use Rattle.sk_resp.specs.declared.name.Name.TheVariants as name
use Rattle.sk_resp.specs.declared.refusal.Refusal.TheVariants.{OutOfTurn}
use Rattle.sk_resp.specs.declared.reply.Reply.{Reply}
use Rattle.sk_resp.specs.declared.reply.Reply.TheVariants as reply
use Rattle.sk_resp.specs.declared.say.Say.{Say}
use Rattle.sk_resp.specs.declared.say.Say.TheVariants as say
use Rattle.sk_cmd.proofs.AgreeTable.{one_command}
use Rattle.sk_cmd.specs.Fault.{fault_say}
use Rattle.sk_cmd.specs.Reading.{Read}
use Rattle.sk_cmd.specs.Table.{IsRead}
use Rattle.sk_cmd.specs.declared.argument.Expire.TheVariants.{Never}
use Rattle.sk_cmd.specs.declared.argument.SetOptions.{SetOptions}
use Rattle.sk_cmd.specs.declared.cmd_fault.CmdFault.{CmdFault}
use Rattle.sk_cmd.specs.declared.cmd_fault.CmdFault.TheVariants as fault
use Rattle.sk_cmd.specs.declared.command.Command.{Command}
use Rattle.sk_cmd.specs.declared.command.Command.TheVariants as command
use Rattle.sk_cmd.specs.declared.command.PlainCommand.TheVariants as plain
use Rattle.sk_value.specs.Apply.{set_at}
use Rattle.sk_value.specs.Keys.{Keys, at, is_over, purged, put}
use Rattle.sk_value.specs.Values.{look_at}
use Rattle.sk_value.specs.declared.action.Action.TheVariants as action
use Rattle.sk_value.specs.declared.entry.Entry.{Entry}
use Rattle.sk_value.specs.declared.read_op.ReadOp.TheVariants as look
use Rattle.sk_value.specs.declared.value.Value.TheVariants as value
use Rattle.sk_key.specs.Class.{class_of}
use Rattle.sk_key.specs.declared.key_class.KeyClass.TheVariants as class
use Rattle.sk_batch.proofs.Indexed.{lookup_put}
use Rattle.sk_seats.specs.declared.phase.Phase.{Phase}
use Rattle.sk_seats.specs.declared.phase.Phase.TheVariants.{Plain, Joined}
use Rattle.sk_model.specs.Change.{Keeps, Passes, changed, perform}
use Rattle.sk_model.specs.Event.{Ask, Happens, ResultsIn}
use Rattle.sk_model.specs.Held.{held, held_as}
use Rattle.sk_model.specs.Outcome.{Outcome, reply_of, says, tells}
use Rattle.sk_model.specs.Reading.{Words}
use Rattle.sk_model.specs.Step.{MayComeTo, act, at_moment, by_seat, on_keys, on_plain}
use Rattle.sk_model.specs.World.{World, phase_of}
use Rattle.sk_model.proofs.Theorems.LockHolders.{same_command}
use Rattle.sk_link.specs.Asking.{is_okay}
use Rattle.sk_link.specs.declared.link.LinkFault.{LinkFault}
use Rattle.sk_iter.specs.Cursor.{IsCursor}
use Rattle.sk_iter.specs.Goes.{CameAs, IsReply}
use Rattle.sk_iter.specs.Performs.{is_accepted}
use Rattle.sk_iter.specs.Request.{get_words, key_of, set_words}

-- ## Plain keys

-- an entry without a deadline, or none
abbrev pub Endless : Option Entry → Type 0
Endless None = Unit {0}
Endless (Some entry) = entry.deadline ≡ None

-- what has no deadline outlasts every moment
pub at_purged : (moment : ℕ) (key : Bytes) (keys : Keys) (x : Option Entry) → at key keys ≡ x → Endless x → at key (purged moment keys) ≡ x
at_purged moment key [] x is endless = is
at_purged moment key (e ∷ es) x is endless = by_key (is_eq (text_cmp key e.0)) refl (λ next. at_purged moment key es x next endless) is where
  kept : (here over : Bool) (rest : Option Entry) → (here ≡ true → over ≡ false) → (here ≡ false → at key (purged moment es) ≡ rest) → cond here (Some e.1) rest ≡ x →
      is_eq (text_cmp key e.0) ≡ here → is_over moment e.1.deadline ≡ over → at key (purged moment (e ∷ es)) ≡ x
  kept true true rest stays others so same over = absurd (cc (stays refl))
  kept true false rest stays others so same over = grind (arith, same, over, so)
  kept false true rest stays others so same over = let o = others refl in grind (arith, same, over, so, o)
  kept false false rest stays others so same over = let o = others refl in grind (arith, same, over, so, o)

  endless_here : x ≡ Some e.1 → is_over moment e.1.deadline ≡ false
  endless_here eq = let end : e.1.deadline ≡ None = subst Endless eq endless in ap (is_over moment) end

  by_key : (here : Bool) → is_eq (text_cmp key e.0) ≡ here → (at key es ≡ x → at key (purged moment es) ≡ x) → at key (e ∷ es) ≡ x → at key (purged moment (e ∷ es)) ≡ x
  by_key true same others so =
      let first : Some e.1 ≡ x = subst (λ b. cond b (Some e.1) (at key es) ≡ x) same so in
      kept true (is_over moment e.1.deadline) (at key es) (λ h. endless_here (sym first)) (λ h. absurd (cc h)) first same refl
  by_key false same others so =
      let next : at key es ≡ x = subst (λ b. cond b (Some e.1) (at key es) ≡ x) same so in
      kept false (is_over moment e.1.deadline) (at key es) (λ h. absurd (cc h)) (λ h. others next ∙ sym next) next same refl

pub at_put : (key : Bytes) (entry : Entry) (keys : Keys) → at key (put key entry keys) ≡ Some entry
at_put key entry keys =
    let same : is_eq (text_cmp key key) ≡ true = is_eq-slice_cmp key key ∙ (bytes_eq-Decides key key).1 refl in
    lookup_put nat_list_cmp_total keys key entry key ∙ ap (λ b. cond b (Some entry) (at key keys)) same

-- ## What stands under the key of a cursor

abbrev pub entry_of : ℕ → Entry
entry_of n = record { value = value.String (decimal n); deadline = None }

-- the number, or nothing where it is 0
pub record Stands (jid : Bytes) (keys : Keys) (n : ℕ) (x : Option Entry) : Type 0 where
  pub is : at (key_of jid) keys ≡ x
  pub shows : ((n ≡ 0) × (x ≡ None)) ⊎ (x ≡ Some (entry_of n))

abbrev pub Holds : Bytes → World → ℕ → Type 0
Holds jid w n = (x : Option Entry) × Stands jid w.keys n x × (n < 2 ^ 62)

pub is_endless : (n : ℕ) (x : Option Entry) → ((n ≡ 0) × (x ≡ None)) ⊎ (x ≡ Some (entry_of n)) → Endless x
is_endless n x (inl none) = subst Endless (sym none.1) tt
is_endless n x (inr some) = subst Endless (sym some) refl

pub holds_passed : (jid : Bytes) (w : World) (now_ n : ℕ) → Holds jid w n → Holds jid (changed w (Passes now_)) n
holds_passed jid w now_ n h =
    (h.0, record { is = at_purged (changed w (Passes now_)).moment (key_of jid) w.keys h.0 h.1.is (is_endless n h.0 h.1.shows); shows = h.1.shows }, h.2)

-- ## Its requests

pub plain_key : (jid : Bytes) → class_of (key_of jid) ≡ class.Plain
unfolding class_of
plain_key jid = refl

abbrev plainly : SetOptions
plainly = record { only_new = false; expire = Never }

abbrev get_command : Bytes → Command
get_command jid = command.Plain (plain.Get (key_of jid))

abbrev set_command : Bytes → ℕ → Command
set_command jid n = command.Plain (plain.Set (key_of jid) (decimal n) plainly)

get_read : (jid : Bytes) → IsRead (get_words jid) (Ok (get_command jid))
get_read jid = (Some name.Get, refl, (Ok (key_of jid), refl, refl))

set_read : (jid : Bytes) (n : ℕ) → IsRead (set_words jid n) (Ok (set_command jid n))
set_read jid n = (Some name.Set, refl, (Ok (key_of jid, decimal n, []), (refl, refl), (Ok plainly, refl, refl)))

-- words that are read so are read as nothing else, but for want of memory
no_fault : (words : Words) (f : CmdFault) (c : Command) → IsRead words (Err f) → IsRead words (Ok c) → (f ≡ fault.Memory → ⊥) → ⊥
no_fault words f c read is not = cc (one_command words (Err f) (Ok c) read is (λ e. not (cc e)) (λ e. cc e))

-- ## GET

held_plain : (jid : Bytes) (w : World) → held w (key_of jid) ≡ at (key_of jid) w.keys
held_plain jid w = ap (held_as w (key_of jid)) (plain_key jid)

get_acts : (jid : Bytes) (w : World) (seat : ℕ) (phase : Phase) → by_seat w seat phase (plain.Get (key_of jid)) ≡ act w (action.ReadOp (key_of jid) look.Get)
get_acts jid w seat Plain = refl
get_acts jid w seat (Joined ident works) = refl

-- A GET is answered by the number that stands, or by a fixed text that is no cursor.
abbrev pub Tells : Bytes → ℕ → Reply → Type 0
Tells jid n given = (came : Reply) (len k : ℕ) → len < 2 ^ 62 → CameAs given came → IsCursor len came k → k ≡ n

-- the first byte of `$`
abbrev is_dollar : Bytes → Bool
is_dollar text = get_or text 0 0 == 36

cursor_dollar : (len k : ℕ) (came : Reply) → IsCursor len came k → is_dollar (wire came) ≡ true
unfolding bulk
cursor_dollar len k reply.Null is = refl
cursor_dollar len k (reply.Bulk text) is = refl
cursor_dollar len k (reply.Say s) is = absurd is
cursor_dollar len k (reply.Simple text) is = absurd is
cursor_dollar len k (reply.Error text) is = absurd is
cursor_dollar len k (reply.Int z) is = absurd is
cursor_dollar len k (reply.Array texts) is = absurd is
cursor_dollar len k reply.NullArray is = absurd is

tells_text : (jid : Bytes) (n : ℕ) (s : Say) → is_dollar (line (say_text s)) ≡ false → Tells jid n (reply.Say s)
tells_text jid n s not_so came len k few reply_is is = absurd (cc (sym (cursor_dollar len k came is) ∙ ap is_dollar reply_is ∙ not_so))

tells_fault : (jid : Bytes) (n : ℕ) (f : CmdFault) → Tells jid n (reply.Say (fault_say f))
tells_fault jid n fault.Unknown = tells_text jid n say.Unknown refl
tells_fault jid n (fault.Arity name) = tells_text jid n (say.Arity name) refl
tells_fault jid n fault.NotInt = tells_text jid n say.NotInt refl
tells_fault jid n fault.NotScore = tells_text jid n say.NotScore refl
tells_fault jid n fault.BadBound = tells_text jid n say.BadBound refl
tells_fault jid n fault.Syntax = tells_text jid n say.Syntax refl
tells_fault jid n fault.Memory = tells_text jid n say.Oom refl

tells_entry : (jid : Bytes) (moment n : ℕ) (x : Option Entry) → n < 2 ^ 62 → ((n ≡ 0) × (x ≡ None)) ⊎ (x ≡ Some (entry_of n)) → Tells jid n (reply_of (look_at moment look.Get x))
tells_entry jid moment n x small (inl none) came len k few reply_is is =
    let null : came ≡ reply.Null = subst (λ o. CameAs (reply_of (look_at moment look.Get o)) came) none.1 reply_is in
    let zero_ : k ≡ 0 = subst (λ r. IsCursor len r k) null is in zero_ ∙ sym none.0
tells_entry jid moment n x small (inr some) came len k few reply_is is =
    let bulk_ : came ≡ reply.Bulk (decimal n) = subst (λ o. CameAs (reply_of (look_at moment look.Get o)) came) some reply_is in
    let text : (k ≤ len) × (decimal n ≡ decimal k) = subst (λ r. IsCursor len r k) bulk_ is in
    decimal_injective k n (omega (arith, text.0, few)) (omega (arith, small)) (sym text.1)

-- what came of a GET
pub record Got (jid : Bytes) (w : World) (n : ℕ) (o : Outcome) : Type 0 where
  pub stays : Holds jid (perform w o.changes) n
  pub tells : Tells jid n o.reply

get_comes : (jid : Bytes) (w : World) (seat now_ n : ℕ) (o : Outcome) → Holds jid w n → MayComeTo w seat now_ (get_command jid) o → Got jid w n o
get_comes jid w seat now_ n o h (inl e) =
    let later : World = changed w (Passes now_) in
    let held_ : Holds jid later n = holds_passed jid w now_ n h in
    let acts : by_seat later seat (phase_of w seat) (plain.Get (key_of jid)) ≡ says (reply_of (look_at later.moment look.Get held_.0)) =
    get_acts jid later seat (phase_of w seat) ∙ ap (λ x. says (reply_of (look_at later.moment look.Get x))) (held_plain jid later ∙ held_.1.is) in
    let is : o ≡ at_moment now_ (says (reply_of (look_at later.moment look.Get held_.0))) = e ∙ ap (at_moment now_) acts in
    subst (Got jid w n) (sym is) (record { stays = held_; tells = tells_entry jid later.moment n held_.0 held_.2 held_.1.shows })
get_comes jid w seat now_ n o h (inr (may, e)) =
    subst (Got jid w n) (sym e) (record { stays = holds_passed jid w now_ n h; tells = tells_text jid n say.Oom refl })

get_results : (jid : Bytes) (w : World) (seat now_ n : ℕ) (r : Read Command) (o : Outcome) → Holds jid w n → IsRead (get_words jid) r → ResultsIn w seat now_ r o → Got jid w n o
get_results jid w seat now_ n (Ok c) o h read comes =
    let same = same_command c (get_command jid) (one_command (get_words jid) (Ok c) (Ok (get_command jid)) read (get_read jid) (λ e. cc e) (λ e. cc e)) in
    get_comes jid w seat now_ n o h (subst (λ (d : Command). MayComeTo w seat now_ d o) same comes)
get_results jid w seat now_ n (Err f) o h read e = subst (Got jid w n) (sym e) (record { stays = h; tells = tells_fault jid n f })

pub get_happens : (jid : Bytes) (w : World) (seat now_ n : ℕ) (words : Words) (o : Outcome) → words ≡ get_words jid → Holds jid w n → Happens w (Ask seat now_ words) o → Got jid w n o
get_happens jid w seat now_ n words o are h (r, read, comes) = get_results jid w seat now_ n r o h (subst (λ ws. IsRead ws r) are read) comes

-- ## SET

-- The number stands, or what stood before does, and the reply isn't `+OK`.
pub record Put (jid : Bytes) (w : World) (n next : ℕ) (o : Outcome) : Type 0 where
  pub value : ℕ
  pub stands : Holds jid (perform w o.changes) value
  pub comes : (value ≡ next) ⊎ ((value ≡ n) × ((came : Result Reply LinkFault) → IsReply o.reply came → is_accepted came ≡ true → ⊥))

-- the first byte of `+`
abbrev is_plus : Bytes → Bool
is_plus text = get_or text 0 0 == 43

okay_plus : (came : Reply) → is_okay came ≡ true → is_plus (wire came) ≡ true
okay_plus (reply.Say say.Ok) is = refl
okay_plus (reply.Simple text) is = refl
okay_plus other is = absurd (cc is)

not_okay : (s : Say) (came : Result Reply LinkFault) → is_plus (line (say_text s)) ≡ false → IsReply (reply.Say s) came → is_accepted came ≡ true → ⊥
not_okay s (Ok came) not_so reply_is is = cc (sym (okay_plus came is) ∙ ap is_plus reply_is ∙ not_so)
not_okay s (Err f) not_so reply_is is = cc is

not_put : (jid : Bytes) (w : World) (n next : ℕ) (o : Outcome) (s : Say) → is_plus (line (say_text s)) ≡ false → o.reply ≡ reply.Say s → Holds jid (perform w o.changes) n → Put jid w n next o
not_put jid w n next o s not_so is h = record { value = n; stands = h; comes = inr (refl, λ came reply_is ok. not_okay s came not_so (subst (λ r. IsReply r came) is reply_is) ok) }

set_fails : (jid : Bytes) (w : World) (n next : ℕ) (f : CmdFault) → Holds jid w n → Put jid w n next (tells (fault_say f))
set_fails jid w n next fault.Unknown h = not_put jid w n next _ say.Unknown refl refl h
set_fails jid w n next (fault.Arity name) h = not_put jid w n next _ (say.Arity name) refl refl h
set_fails jid w n next fault.NotInt h = not_put jid w n next _ say.NotInt refl refl h
set_fails jid w n next fault.NotScore h = not_put jid w n next _ say.NotScore refl refl h
set_fails jid w n next fault.BadBound h = not_put jid w n next _ say.BadBound refl refl h
set_fails jid w n next fault.Syntax h = not_put jid w n next _ say.Syntax refl refl h
set_fails jid w n next fault.Memory h = not_put jid w n next _ say.Oom refl refl h

set_keys : (jid : Bytes) (w : World) (next : ℕ) → on_keys w (action.Set (key_of jid) (decimal next) plainly)
    ≡ record { reply = reply.Say say.Ok; changes = Keeps (put (key_of jid) (entry_of next) w.keys) ∷ [] }
unfolding set_at
set_keys jid w next = refl

set_acts : (jid : Bytes) (w : World) (next : ℕ) → act w (action.Set (key_of jid) (decimal next) plainly)
    ≡ record { reply = reply.Say say.Ok; changes = Keeps (put (key_of jid) (entry_of next) w.keys) ∷ [] }
set_acts jid w next = ap (on_plain w (action.Set (key_of jid) (decimal next) plainly)) (plain_key jid) ∙ set_keys jid w next

set_by : (jid : Bytes) (w : World) (seat now_ n next : ℕ) (phase : Phase) → next < 2 ^ 62 → Holds jid w n →
    Put jid w n next (at_moment now_ (by_seat (changed w (Passes now_)) seat phase (plain.Set (key_of jid) (decimal next) plainly)))
set_by jid w seat now_ n next Plain small h =
    let later : World = changed w (Passes now_) in
    subst (λ o. Put jid w n next (at_moment now_ o)) (sym (set_acts jid later next)) (record {
      value = next;
      stands = (Some (entry_of next), record { is = at_put (key_of jid) (entry_of next) later.keys; shows = inr refl }, small);
      comes = inl refl;
    })
set_by jid w seat now_ n next (Joined ident works) small h = not_put jid w n next _ (say.Refused OutOfTurn) refl refl (holds_passed jid w now_ n h)

set_comes : (jid : Bytes) (w : World) (seat now_ n next : ℕ) (o : Outcome) → next < 2 ^ 62 → Holds jid w n → MayComeTo w seat now_ (set_command jid next) o → Put jid w n next o
set_comes jid w seat now_ n next o small h (inl e) = subst (Put jid w n next) (sym e) (set_by jid w seat now_ n next (phase_of w seat) small h)
set_comes jid w seat now_ n next o small h (inr (may, e)) =
    subst (Put jid w n next) (sym e) (not_put jid w n next _ say.Oom refl refl (holds_passed jid w now_ n h))

set_results : (jid : Bytes) (w : World) (seat now_ n next : ℕ) (r : Read Command) (o : Outcome) → next < 2 ^ 62 → Holds jid w n → IsRead (set_words jid next) r → ResultsIn w seat now_ r o →
    Put jid w n next o
set_results jid w seat now_ n next (Ok c) o small h read comes =
    let same = same_command c (set_command jid next) (one_command (set_words jid next) (Ok c) (Ok (set_command jid next)) read (set_read jid next) (λ e. cc e) (λ e. cc e)) in
    set_comes jid w seat now_ n next o small h (subst (λ (d : Command). MayComeTo w seat now_ d o) same comes)
set_results jid w seat now_ n next (Err f) o small h read e = subst (Put jid w n next) (sym e) (set_fails jid w n next f h)

pub set_happens : (jid : Bytes) (w : World) (seat now_ n next : ℕ) (words : Words) (o : Outcome) → words ≡ set_words jid next → next < 2 ^ 62 → Holds jid w n →
    Happens w (Ask seat now_ words) o → Put jid w n next o
set_happens jid w seat now_ n next words o are small h (r, read, comes) = set_results jid w seat now_ n next r o small h (subst (λ ws. IsRead ws r) are read) comes
