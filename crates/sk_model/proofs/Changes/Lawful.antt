-- What the changes of every command owe to the laws. Proved for each kind of change, and for one list of changes after another.
use Rattle.std.proofs.Common.{◌≡◌, ℕ, ℤ, ◌+◌, List, [], ◌∷◌, ◌++◌, refl, sym, ap, subst, ◌∙◌, arith, Bool, true, false, not, ◌&&◌, ◌||◌}
use Rattle.std.specs.List.{list_any}
use Rattle.sk_resp.specs.Spelling.{Bytes}
use Rattle.sk_places.specs.declared.row.Place.{Place}
use Rattle.sk_places.specs.declared.row.Row.{Row}
use Rattle.sk_cmd.specs.declared.argument.Side.{Side}
use Rattle.sk_value.specs.Keys.{Keys}
use Rattle.sk_places.specs.Rows.{is_same}
use Rattle.sk_batch.specs.Batched.{Batched}
use Rattle.sk_batch.specs.declared.firing.Kind.TheVariants.{Death}
use Rattle.sk_seats.specs.declared.phase.Phase.{Phase}
use Rattle.sk_model.specs.World.{World, phase_of}
use Rattle.sk_model.specs.Change.{Add, Carry, Take, Trim, PutBack, Free, Change, Moves, Passes, Names, Unnames, Keeps, Turns, Beats, Counts, Recovers, Forgets, Locks, Unlocks, Elects, changed, perform}
use Rattle.sk_places.specs.LiveJobs.{one_if}
use Rattle.sk_model.specs.Once.{CallsFollow, times, buries, is_dead_set}
use Rattle.sk_model.specs.Order.{InOrder}
use Rattle.sk_places.specs.declared.origin.Origin.TheVariants.{Outside}
use Rattle.sk_model.proofs.Changes.Kept.{Ready}
use Rattle.sk_model.proofs.Changes.Marked.{Sane}
pub use Rattle.sk_model.proofs.Changes.Fired.{perform-append}
use Rattle.sk_model.proofs.Changes.Fired.{was_fired, all_quiet, quiet_batches, quiet_times, times-append}
use Rattle.sk_model.proofs.Changes.Batches.{Leads, StaysWhole, leads_own, leads_same, leads_then}
use Rattle.sk_model.proofs.Changes.Callbacks.{calls-append, calls_quiet}
use Rattle.sk_model.proofs.Changes.Covered.{Covers, covers_append, covers_quiet}
use Rattle.sk_model.proofs.Changes.Order.{is_late, late_append, no_fires, none_late, order_append, order_behind, order_none, quiet_none}
use Rattle.sk_model.proofs.Changes.Jobs.{KeepsJobs, keeps_nothing, keeps_append, keeps_others, keeps_add, keeps_put, keeps_carry, keeps_take, keeps_trim, keeps_free, keeps_turn, keeps_passes, keeps_names, keeps_unnames, keeps_keeps, keeps_beats, keeps_counts, keeps_recovers, keeps_forgets, keeps_locks, keeps_unlocks, keeps_leads}

-- a member of the batch was buried, and death was fired
abbrev pub has_died : Batched → Bytes → Bool
has_died s b = was_fired Death b s.batches

-- Death is fired where a member is buried for the first time.
pub record Deaths (w : World) (changes : List Change) : Type 0 where
  pub once : Sane w.batches → (b : Bytes) → times Death b changes ≡ one_if (buries b w changes && not (has_died w.batches b))
  pub died : Sane w.batches → (b : Bytes) → has_died (perform w changes).batches b ≡ has_died w.batches b || buries b w changes

-- what all laws ask
pub record Lawful (w : World) (changes : List Change) : Type 0 where
  pub keeps : KeepsJobs w changes
  pub leads : Leads w.batches (perform w changes).batches (λ kind b. times kind b changes)
  pub deaths : Deaths w changes
  pub calls : Sane w.batches → CallsFollow w changes
  pub order : Sane w.batches → InOrder w changes
  pub covers : Covers w changes

-- the same, where no batch gets jobs
pub record Told (w : World) (changes : List Change) : Type 0 where
  pub lawful : Lawful w changes
  pub stays : StaysWhole w.batches (perform w changes).batches

-- and where nothing is fired but for what was buried, so that they may come behind others
pub record Good (w : World) (changes : List Change) : Type 0 where
  pub lawful : Lawful w changes
  pub stays : StaysWhole w.batches (perform w changes).batches
  pub late : is_late changes ≡ true

-- ## One list of changes after another

pub buries-append : (b : Bytes) (w : World) (one more : List Change) → buries b w (one ++ more) ≡ buries b w one || buries b (perform w one) more
buries-append b w [] more = refl
buries-append b w (change ∷ one) more = grind (arith, buries-append b (changed w change) one more)

dies_once : (x y d : Bool) (l m n : ℕ) → l ≡ m + n → m ≡ one_if (x && not d) → n ≡ one_if (y && not (d || x)) → l ≡ one_if ((x || y) && not d)
dies_once x y d l m n sum one more = grind (arith, sum, one, more)

deaths_append : (w : World) (one more : List Change) → (Sane w.batches → Sane (perform w one).batches) → Deaths w one → Deaths (perform w one) more → Deaths w (one ++ more)
deaths_append w one more sane first then_ = record {
  once = λ s b.
      let both = buries-append b w one more in
      let after = first.died s b in
      dies_once (buries b w one) (buries b (perform w one) more) (has_died w.batches b) _ _ _ (times-append Death b one more) (first.once s b) (then_.once (sane s) b ∙ ap (λ d. one_if (buries b (perform w one) more && not d)) after)
      ∙ ap (λ x. one_if (x && not (has_died w.batches b))) (sym both);
  died = λ s b.
      let both = buries-append b w one more in
      let first_ = first.died s b in
      let last = then_.died (sane s) b in
      let end = ap (λ (v : World). has_died v.batches b) (perform-append w one more) in
      grind (arith, both, first_, last, end);
}

lawful_append : (w : World) (one more : List Change) → Lawful w one → Told (perform w one) more → (Sane w.batches → InOrder w (one ++ more)) → Lawful w (one ++ more)
lawful_append w one more first then_ order = record {
  keeps = keeps_append w one more first.keeps then_.lawful.keeps;
  leads = subst (λ (v : World). Leads w.batches v.batches (λ kind b. times kind b (one ++ more))) (sym (perform-append w one more))
      (leads_then w.batches (perform w one).batches (perform (perform w one) more).batches _ _ _ (λ kind b. times-append kind b one more) first.leads then_.lawful.leads then_.stays);
  deaths = deaths_append w one more first.leads.sane first.deaths then_.lawful.deaths;
  calls = λ s. calls-append w one more (first.calls s) (then_.lawful.calls (first.leads.sane s));
  order = order;
  covers = covers_append w one more first.covers then_.lawful.covers;
}

stays_append : (w : World) (one more : List Change) → StaysWhole w.batches (perform w one).batches → StaysWhole (perform w one).batches (perform (perform w one) more).batches → StaysWhole w.batches (perform w (one ++ more)).batches
stays_append w one more first then_ = subst (λ (v : World). StaysWhole w.batches v.batches) (sym (perform-append w one more)) (λ b h. then_ b (first b h))

abbrev pub told_of : (w : World) (changes : List Change) → Good w changes → Told w changes
told_of w changes good = record { lawful = good.lawful; stays = good.stays }

-- what is told, behind changes that fire nothing
pub told_behind : (w : World) (one more : List Change) → no_fires one ≡ true → Good w one → Told (perform w one) more → Told w (one ++ more)
told_behind w one more none first then_ = record {
  lawful = lawful_append w one more first.lawful then_ (λ s. order_behind w one more none (then_.lawful.order (first.lawful.leads.sane s)));
  stays = stays_append w one more first.stays then_.stays;
}

-- and others behind what is told
pub told_append : (w : World) (one more : List Change) → Told w one → Good (perform w one) more → Told w (one ++ more)
told_append w one more first then_ = record {
  lawful = lawful_append w one more first.lawful (told_of (perform w one) more then_) (λ s. order_append w one more (first.lawful.order s) (then_.lawful.order (first.lawful.leads.sane s)) then_.late);
  stays = stays_append w one more first.stays then_.stays;
}

pub good_append : (w : World) (one more : List Change) → Good w one → Good (perform w one) more → Good w (one ++ more)
good_append w one more first then_ =
    let told = told_append w one more (told_of w one first) then_ in
    record { lawful = told.lawful; stays = told.stays; late = late_append one more first.late then_.late }

-- one change, and then others
pub then_others : (w : World) (change : Change) (changes : List Change) → Good w (change ∷ []) → Good (changed w change) changes → Good w (change ∷ changes)
then_others w change changes one more = good_append w (change ∷ []) changes one more

-- ## Changes that leave the batches alone

pub leads_quiet : (w : World) (changes : List Change) → all_quiet changes ≡ true → Leads w.batches (perform w changes).batches (λ kind b. times kind b changes)
leads_quiet w changes quiet = subst (λ (s : Batched). Leads w.batches s (λ kind b. times kind b changes)) (sym (quiet_batches w changes quiet)) (leads_own w.batches _ (λ kind b. quiet_times kind b changes quiet))

pub stays_quiet : (w : World) (changes : List Change) → all_quiet changes ≡ true → StaysWhole w.batches (perform w changes).batches
stays_quiet w changes quiet = subst (StaysWhole w.batches) (sym (quiet_batches w changes quiet)) (λ b h. h)

-- and bury no member
pub good_quiet : (w : World) (changes : List Change) → KeepsJobs w changes → all_quiet changes ≡ true → ((b : Bytes) → buries b w changes ≡ false) → Good w changes
good_quiet w changes keeps quiet none =
    let same = quiet_batches w changes quiet in
    let none_fired : no_fires changes ≡ true = quiet_none changes quiet in
    record {
      lawful = record {
        keeps = keeps;
        leads = leads_quiet w changes quiet;
        deaths = record {
          once = λ s b. let zero' = quiet_times Death b changes quiet in let no = none b in grind (arith, zero', no);
          died = λ s b. let end = ap (λ (t : Batched). has_died t b) same in let no = none b in grind (arith, end, no);
        };
        calls = λ s. calls_quiet w changes quiet;
        order = λ s. order_none w changes none_fired;
        covers = covers_quiet w changes quiet;
      };
      stays = stays_quiet w changes quiet;
      late = none_late changes none_fired;
    }

pub good_nothing : (w : World) → Good w []
good_nothing w = good_quiet w [] (keeps_nothing w) refl (λ b. refl)

-- a client pushes
pub good_add : (w : World) (row : Row) (end : Side) → Good w (Moves (Add row end Outside) ∷ [])
good_add w row end = good_quiet w _ (keeps_add w row end Outside) refl (λ b. refl)

-- a text may be put back, but for the dead set
pub good_put : (w : World) (row : Row) → is_dead_set row.place ≡ false → Good w (Moves (PutBack row) ∷ [])
good_put w row alive = good_quiet w _ (keeps_put w row) refl (λ b. grind (arith, alive))

-- a row that is there may go to another place, but for the dead set
pub good_carry : (w : World) (row : Row) (from : Side) (to : Place) (score : ℤ) (end : Side) → list_any (is_same row) w.rows ≡ true → is_dead_set to ≡ false → Good w (Moves (Carry row from to score end) ∷ [])
good_carry w row from to score end there alive = good_quiet w _ (keeps_carry w row from to score end there) refl (λ b. grind (arith, alive))

-- a row that is there may be taken away
pub good_take : (w : World) (row : Row) (from : Side) → list_any (is_same row) w.rows ≡ true → Good w (Moves (Take row from) ∷ [])
good_take w row from there = good_quiet w _ (keeps_take w row from there) refl (λ b. refl)

-- or be trimmed
pub good_trim : (w : World) (row : Row) → list_any (is_same row) w.rows ≡ true → Good w (Moves (Trim row) ∷ [])
good_trim w row there = good_quiet w _ (keeps_trim w row there) refl (λ b. refl)

-- a seat releases a job of this text, whatever stands of it
pub good_free : (w : World) (seat : ℕ) (text : Bytes) → Good w (Moves (Free seat text) ∷ [])
good_free w seat text = good_quiet w _ (keeps_free w seat text) refl (λ b. refl)

-- a seat turns to a phase that it is ready for
pub good_turn : (w : World) (seat : ℕ) (phase : Phase) → Ready w (phase_of w seat) phase → Good w (Turns seat phase ∷ [])
good_turn w seat phase ready = good_quiet w _ (keeps_turn w seat phase ready) refl (λ b. refl)

pub good_passes : (w : World) (now : ℕ) → Good w (Passes now ∷ [])
good_passes w now = good_quiet w _ (keeps_passes w now) refl (λ b. refl)

pub good_names : (w : World) (queue : Bytes) → Good w (Names queue ∷ [])
good_names w queue = good_quiet w _ (keeps_names w queue) refl (λ b. refl)

pub good_unnames : (w : World) (queue : Bytes) → Good w (Unnames queue ∷ [])
good_unnames w queue = good_quiet w _ (keeps_unnames w queue) refl (λ b. refl)

pub good_keeps : (w : World) (keys : Keys) → Good w (Keeps keys ∷ [])
good_keeps w keys = good_quiet w _ (keeps_keeps w keys) refl (λ b. refl)

pub good_beats : (w : World) (ident : Bytes) → Good w (Beats ident ∷ [])
good_beats w ident = good_quiet w _ (keeps_beats w ident) refl (λ b. refl)

pub good_counts : (w : World) (name : Bytes) → Good w (Counts name ∷ [])
good_counts w name = good_quiet w _ (keeps_counts w name) refl (λ b. refl)

pub good_recovers : (w : World) (jid : Bytes) → Good w (Recovers jid ∷ [])
good_recovers w jid = good_quiet w _ (keeps_recovers w jid) refl (λ b. refl)

pub good_forgets : (w : World) (jid : Bytes) → Good w (Forgets jid ∷ [])
good_forgets w jid = good_quiet w _ (keeps_forgets w jid) refl (λ b. refl)

pub good_locks : (w : World) (digest jid : Bytes) (seconds : ℕ) → Good w (Locks digest jid seconds ∷ [])
good_locks w digest jid seconds = good_quiet w _ (keeps_locks w digest jid seconds) refl (λ b. refl)

pub good_unlocks : (w : World) (digest jid : Bytes) → Good w (Unlocks digest jid ∷ [])
good_unlocks w digest jid = good_quiet w _ (keeps_unlocks w digest jid) refl (λ b. refl)

pub good_leads : (w : World) (ident : Bytes) → Good w (Elects ident ∷ [])
good_leads w ident = good_quiet w _ (keeps_leads w ident) refl (λ b. refl)

-- ## Time goes on, and then any changes

pub lawful_passes : (w : World) (now : ℕ) (changes : List Change) → Lawful (changed w (Passes now)) changes → Lawful w (Passes now ∷ changes)
lawful_passes w now changes l = record {
  keeps = keeps_others w (Passes now) changes (keeps_passes w now) l.keeps;
  leads = leads_same w.batches (perform w (Passes now ∷ changes)).batches _ _ (λ kind b. omega arith) l.leads;
  deaths = deaths_append w (Passes now ∷ []) changes (λ s. s) (good_passes w now).lawful.deaths l.deaths;
  calls = λ s. ((changes, refl), l.calls s);
  order = λ s. (refl, l.order s);
  covers = l.covers;
}
