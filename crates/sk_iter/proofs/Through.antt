-- How the store's number under the key goes on through the steps of a call.
use Rattle.std.proofs.Common.{◌≡◌, ◌∙◌, ◌⊎◌, inl, inr, ◌<◌, ◌≤◌, ◌+◌, ◌^◌, ℕ, Bool, true, false, List, [], ◌∷◌, refl, ap, subst, Result, Ok, Err, arith}
use Rattle.std.specs.Bool.{MatchBool}
use Rattle.std.specs.Result.{is_err}
use Rattle.sk_resp.specs.Spelling.{Bytes}
use Rattle.sk_resp.specs.declared.reply.Reply.{Reply}
use Rattle.sk_link.specs.Call.{Call}
use Rattle.sk_link.specs.declared.link.LinkFault.{LinkFault}
use Rattle.sk_worker.specs.Run.{is_returned}
use Rattle.sk_worker.specs.declared.job.Outcome.{Outcome}
use Rattle.sk_worker.specs.declared.job.Outcome.TheVariants as outcome
use Rattle.sk_model.specs.Event.{Ask, Cut, Happens, Run, Step, after, world_after}
use Rattle.sk_model.specs.Event.{Event as StoreEvent}
use Rattle.sk_model.specs.World.{World}
use Rattle.sk_iter.specs.Cursor.{IsCursor}
use Rattle.sk_iter.specs.Deeds.{Pace}
use Rattle.sk_iter.specs.Event.{Event, ItemRun, asked, calls, ran, runs}
use Rattle.sk_iter.specs.Goes.{IsReply, IsRequest, Merges, Took}
use Rattle.sk_iter.specs.Laws.{returned_count}
use Rattle.sk_iter.specs.Performs.{is_accepted}
use Rattle.sk_iter.specs.Request.{get_words, key_of, set_words}
use Rattle.sk_iter.proofs.Along.{Along, ByOutcome, LastEvent}
use Rattle.sk_iter.proofs.Others.{others_leave}
use Rattle.sk_iter.proofs.Store.{Got, Holds, Put, get_happens, is_endless, set_happens}
use Rattle.sk_iter.specs.Writes.{IsOther}

-- ## One request among the steps

-- a step that may not write the key
holds_other : (jid : Bytes) (w : World) (step : Step) (n : ℕ) → IsOther (key_of jid) step.event → Happens w step.event step.outcome → Holds jid w n → Holds jid (after w step) n
holds_other jid w step n other happens h =
    (h.0, record { is = others_leave (key_of jid) w step.event step.outcome other happens h.0 h.1.is (is_endless n h.0 h.1.shows); shows = h.1.shows }, h.2)

-- steps without a request
pub none_through : (jid : Bytes) (w : World) (n : ℕ) (steps : List Step) → Run w steps → Merges (key_of jid) [] steps → Holds jid w n → Holds jid (world_after w steps) n
none_through jid w n [] run merges h = h
none_through jid w n (step ∷ steps) run merges h = none_through jid (after w step) n steps run.1 merges.1 (holds_other jid w step n merges.0 run.0 h)

nothing_sent : (jid : Bytes) (w : World) (calls : List Call) (steps : List Step) → calls ≡ [] → Merges (key_of jid) calls steps → Merges (key_of jid) [] steps
nothing_sent jid w calls steps e merges = subst (λ cs. Merges (key_of jid) cs steps) e merges

-- what is left behind a request: the steps from some world on
pub record Behind (jid : Bytes) (w : World) (steps : List Step) (more : List Call) : Type 0 where
  pub world : World
  pub left : List Step
  pub run : Run world left
  pub merges : Merges (key_of jid) more left
  pub same : world_after world left ≡ world_after w steps

-- The number that stands behind a save: the new one, or the old one, where the reply isn't `+OK`.
pub record SavedAt (jid : Bytes) (w : World) (steps : List Step) (more : List Call) (reply : Result Reply LinkFault) (n next : ℕ) : Type 0 where
  pub behind : Behind jid w steps more
  pub value : ℕ
  pub holds : Holds jid behind.world value
  pub comes : (value ≡ next) ⊎ ((value ≡ n) × (is_accepted reply ≡ true → ⊥))

save_here : (jid : Bytes) (w : World) (step : Step) (steps : List Step) (more : List Call) (call : Call) (n next : ℕ) → call.request ≡ set_words jid next → next < 2 ^ 62 →
    IsRequest call step.event step.outcome → Happens w step.event step.outcome → Run (after w step) steps → Merges (key_of jid) more steps → Holds jid w n →
    SavedAt jid w (step ∷ steps) more call.reply n next
save_here jid w step steps more call n next is small request happens run merges h = by_event step.event request happens where
  by_event : (event : StoreEvent) → IsRequest call event step.outcome → Happens w event step.outcome → SavedAt jid w (step ∷ steps) more call.reply n next
  by_event (Ask seat now_ words) req hap =
      let put : Put jid w n next step.outcome = set_happens jid w seat now_ n next words step.outcome (req.0 ∙ is) small h hap in
      record {
        behind = record { world = after w step; left = steps; run = run; merges = merges; same = refl };
        value = put.value;
        holds = put.stands;
        comes = by_value put.comes;
      } where
        by_value : {value : ℕ} → (value ≡ next) ⊎ ((value ≡ n) × ((came : Result Reply LinkFault) → IsReply step.outcome.reply came → is_accepted came ≡ true → ⊥)) →
            (value ≡ next) ⊎ ((value ≡ n) × (is_accepted call.reply ≡ true → ⊥))
        by_value (inl e) = inl e
        by_value (inr (e, not_so)) = inr (e, not_so call.reply req.1)
  by_event (Cut seat) req hap = absurd req

abbrev behind_later : (jid : Bytes) (w : World) (step : Step) (steps : List Step) (more : List Call) → Behind jid (after w step) steps more → Behind jid w (step ∷ steps) more
behind_later jid w step steps more b = record { world = b.world; left = b.left; run = b.run; merges = b.merges; same = b.same }

pub save_through : (jid : Bytes) (w : World) (steps : List Step) (more : List Call) (call : Call) (n next : ℕ) → call.request ≡ set_words jid next → next < 2 ^ 62 →
    Run w steps → Merges (key_of jid) (call ∷ more) steps → Holds jid w n → SavedAt jid w steps more call.reply n next
save_through jid w [] more call n next is small run merges h = absurd (cc merges)
save_through jid w (step ∷ steps) more call n next is small run (inl (leaves, merges)) h =
    let later = save_through jid (after w step) steps more call n next is small run.1 merges (holds_other jid w step n leaves run.0 h) in
    record { behind = behind_later jid w step steps more later.behind; value = later.value; holds = later.holds; comes = later.comes }
save_through jid w (step ∷ steps) more call n next is small run (inr (request, merges)) h =
    save_here jid w step steps more call n next is small request run.0 run.1 merges h

-- A read: the number stays, and a cursor that it was answered by is that number.
pub record ReadAt (jid : Bytes) (w : World) (steps : List Step) (more : List Call) (reply : Result Reply LinkFault) (n : ℕ) : Type 0 where
  pub behind : Behind jid w steps more
  pub holds : Holds jid behind.world n
  pub tells : (came : Reply) (len k : ℕ) → reply ≡ Ok came → len < 2 ^ 62 → IsCursor len came k → k ≡ n

read_here : (jid : Bytes) (w : World) (step : Step) (steps : List Step) (more : List Call) (call : Call) (n : ℕ) → call.request ≡ get_words jid →
    IsRequest call step.event step.outcome → Happens w step.event step.outcome → Run (after w step) steps → Merges (key_of jid) more steps → Holds jid w n →
    ReadAt jid w (step ∷ steps) more call.reply n
read_here jid w step steps more call n is request happens run merges h = by_event step.event request happens where
  by_event : (event : StoreEvent) → IsRequest call event step.outcome → Happens w event step.outcome → ReadAt jid w (step ∷ steps) more call.reply n
  by_event (Ask seat now_ words) req hap =
      let got : Got jid w n step.outcome = get_happens jid w seat now_ n words step.outcome (req.0 ∙ is) h hap in
      record {
        behind = record { world = after w step; left = steps; run = run; merges = merges; same = refl };
        holds = got.stays;
        tells = λ came len k e few cursor. got.tells came len k few (subst (IsReply step.outcome.reply) e req.1) cursor;
      }
  by_event (Cut seat) req hap = absurd req

pub read_through : (jid : Bytes) (w : World) (steps : List Step) (more : List Call) (call : Call) (n : ℕ) → call.request ≡ get_words jid →
    Run w steps → Merges (key_of jid) (call ∷ more) steps → Holds jid w n → ReadAt jid w steps more call.reply n
read_through jid w [] more call n is run merges h = absurd (cc merges)
read_through jid w (step ∷ steps) more call n is run (inl (leaves, merges)) h =
    let later = read_through jid (after w step) steps more call n is run.1 merges (holds_other jid w step n leaves run.0 h) in
    record { behind = behind_later jid w step steps more later.behind; holds = later.holds; tells = later.tells }
read_through jid w (step ∷ steps) more call n is run (inr (request, merges)) h = read_here jid w step steps more call n is request run.0 run.1 merges h

-- ## Behind the read

-- The number that stands at the end, where it was `value` and `n` items had returned: it doesn't fall, and at most `every` items that returned aren't
-- below it.
pub record Ended (jid : Bytes) (p : Pace) (w : World) (steps : List Step) (value count : ℕ) : Type 0 where
  pub last : ℕ
  pub holds : Holds jid (world_after w steps) last
  pub rises : value ≤ last
  pub within : last ≤ p.cursor + count
  pub few : p.cursor + count ≤ last + p.every

-- the steps lead to the same world
moved : (jid : Bytes) (p : Pace) (w : World) (steps : List Step) (more : List Call) (value count : ℕ) (b : Behind jid w steps more) → Ended jid p b.world b.left value count →
    Ended jid p w steps value count
moved jid p w steps more value count b e =
    record { last = e.last; holds = subst (λ v. Holds jid v e.last) b.same e.holds; rises = e.rises; within = e.within; few = e.few }

-- no more requests
ended_here : (jid : Bytes) (p : Pace) (w : World) (steps : List Step) (value n since : ℕ) → Run w steps → Merges (key_of jid) [] steps → Holds jid w value → value ≤ p.cursor + n →
    p.cursor + n ≤ value + since → since ≤ p.every → Ended jid p w steps value n
ended_here jid p w steps value n since run merges h low high few =
    record { last = value; holds = none_through jid w value steps run merges h; rises = omega arith; within = low; few = omega arith }

-- a last save, which may have been lost
module _ (jid : Bytes) (p : Pace) (same : p.jid ≡ jid) where
  request_is : (call : Call) (n : ℕ) → call.request ≡ set_words p.jid n → call.request ≡ set_words jid n
  request_is call n e = subst (λ j. call.request ≡ set_words j n) same e

  last_save : (w : World) (steps : List Step) (call : Call) (rest taken : List Call) (value n since : ℕ) → call.request ≡ set_words p.jid (p.cursor + n) → rest ≡ [] →
      Took (call ∷ rest) taken → Run w steps → Merges (key_of jid) taken steps → Holds jid w value → value ≤ p.cursor + n → p.cursor + n ≤ value + since → since ≤ p.every →
      p.cursor + n < 2 ^ 62 → Ended jid p w steps value n
  last_save w steps call rest taken value n since is none (inl (more, are, took)) run merges h low high few small =
      let empty : more ≡ [] = subst (λ cs. Took cs more) none took in
      let merged : Merges (key_of jid) (call ∷ []) steps = subst (λ cs. Merges (key_of jid) cs steps) (are ∙ ap (λ cs. call ∷ cs) empty) merges in
      let s : SavedAt jid w steps [] call.reply value (p.cursor + n) = save_through jid w steps [] call value (p.cursor + n) (request_is call (p.cursor + n) is) small run merged h in
      let bounds : (value ≤ s.value) × (s.value ≤ p.cursor + n) × (p.cursor + n ≤ s.value + p.every) = by_value s.value s.comes in
      moved jid p w steps [] value n s.behind (record {
        last = s.value;
        holds = none_through jid s.behind.world s.value s.behind.left s.behind.run s.behind.merges s.holds;
        rises = bounds.0;
        within = bounds.1;
        few = bounds.2;
      }) where
        by_value : (now_ : ℕ) → (now_ ≡ p.cursor + n) ⊎ ((now_ ≡ value) × (is_accepted call.reply ≡ true → ⊥)) → (value ≤ now_) × (now_ ≤ p.cursor + n) × (p.cursor + n ≤ now_ + p.every)
        by_value now_ (inl e) = (omega arith, omega arith, omega arith)
        by_value now_ (inr (e, not_so)) = (omega arith, omega arith, omega arith)
  last_save w steps call rest taken value n since is none (inr (lost, took)) run merges h low high few small =
      let empty : taken ≡ [] = subst (λ cs. Took cs taken) none took in
      ended_here jid p w steps value n since run (nothing_sent jid w taken steps empty merges) h low high few

  -- at most a save behind an item that raised
  raised_through : (w : World) (steps : List Step) (es : List Event) (taken : List Call) (value n since : ℕ) → LastEvent p n es → Took (calls es) taken → Run w steps →
      Merges (key_of jid) taken steps → Holds jid w value → value ≤ p.cursor + n → p.cursor + n ≤ value + since → since ≤ p.every → p.cursor + n < 2 ^ 62 →
      Ended jid p w steps value (n + returned_count (runs es))
  raised_through w steps [] taken value n since last took run merges h low high few small =
      let e : n ≡ n + returned_count (runs []) = omega arith in
      subst (Ended jid p w steps value) e (ended_here jid p w steps value n since run (nothing_sent jid w taken steps took merges) h low high few)
  raised_through w steps (asked call ∷ []) taken value n since last took run merges h low high few small =
      let e : n ≡ n + returned_count (runs (asked call ∷ [])) = omega arith in
      subst (Ended jid p w steps value) e (last_save w steps call [] taken value n since last.0 refl took run merges h low high few small)
  raised_through w steps (asked call ∷ e ∷ es) taken value n since last took run merges h low high few small = absurd (cc last.1)
  raised_through w steps (ran item ∷ es) taken value n since last took run merges h low high few small = absurd last

-- ## Counts

pub count_returned : (item : ItemRun) (items : List ItemRun) → is_returned item.outcome ≡ true → returned_count (item ∷ items) ≡ returned_count items + 1
count_returned item items e = grind (arith, e)

pub count_raised : (item : ItemRun) (items : List ItemRun) → is_returned item.outcome ≡ false → returned_count (item ∷ items) ≡ returned_count items
count_raised item items e = grind (arith, e)

accepted_not_lost : (reply : Result Reply LinkFault) → is_accepted reply ≡ true → is_err reply ≡ true → ⊥
accepted_not_lost (Ok r) is_so lost = cc lost
accepted_not_lost (Err f) is_so lost = cc is_so

-- ## All events behind the read

module _ (jid : Bytes) (p : Pace) (same : p.jid ≡ jid) where
  pub through : (w : World) (steps : List Step) (es : List Event) (taken : List Call) (value n since : ℕ) → Along p n since es → Took (calls es) taken → Run w steps →
      Merges (key_of jid) taken steps → Holds jid w value → value ≤ p.cursor + n → p.cursor + n ≤ value + since → since ≤ p.every →
      p.cursor + (n + returned_count (runs es)) < 2 ^ 62 → Ended jid p w steps value (n + returned_count (runs es))
  through w steps [] taken value n since along took run merges h low high few small =
      let e : n ≡ n + returned_count (runs []) = omega arith in
      subst (Ended jid p w steps value) e (ended_here jid p w steps value n since run (nothing_sent jid w taken steps took merges) h low high few)
  through w steps (ran item ∷ es) taken value n since along took run merges h low high few small =
      by_outcome item.outcome refl (λ d small_. through w steps es taken value (n + 1) (since + 1) d took run merges h (omega arith) (omega arith) (omega (arith, along.1)) small_) along.2 where
        by_outcome : (o : Outcome) → item.outcome ≡ o →
            (Along p (n + 1) (since + 1) es → p.cursor + (n + 1 + returned_count (runs es)) < 2 ^ 62 → Ended jid p w steps value (n + 1 + returned_count (runs es))) →
            ByOutcome o (Along p (n + 1) (since + 1) es) (LastEvent p n es) → Ended jid p w steps value (n + returned_count (runs (ran item ∷ es)))
        by_outcome outcome.Returned is then_ d =
            let count : returned_count (item ∷ runs es) ≡ returned_count (runs es) + 1 = count_returned item (runs es) (ap is_returned is) in
            let e : n + 1 + returned_count (runs es) ≡ n + returned_count (runs (ran item ∷ es)) = omega (arith, count) in
            subst (Ended jid p w steps value) e (then_ d (omega (arith, small, count)))
        by_outcome (outcome.Raised it) is then_ d =
            let count : returned_count (item ∷ runs es) ≡ returned_count (runs es) = count_raised item (runs es) (ap is_returned is) in
            let e : n + returned_count (runs es) ≡ n + returned_count (runs (ran item ∷ es)) = omega (arith, count) in
            subst (Ended jid p w steps value) e
            (raised_through jid p same w steps es taken value n since d took run merges h low high few (omega (arith, small, count)))
  through w steps (asked call ∷ es) taken value n since along took run merges h low high few small =
      by_reply (is_accepted call.reply) refl
      (λ world left more d tk run_ merges_ held. through world left es more (p.cursor + n) n 0 d tk run_ merges_ held (omega arith) (omega arith) (omega arith) small) along.1 took where
        saved : (v : ℕ) → is_accepted call.reply ≡ true → (v ≡ p.cursor + n) ⊎ ((v ≡ value) × (is_accepted call.reply ≡ true → ⊥)) → v ≡ p.cursor + n
        saved v is_so (inl e) = e
        saved v is_so (inr (e, not_so)) = absurd (not_so is_so)

        by_reply : (b : Bool) → is_accepted call.reply ≡ b →
            ((world : World) (left : List Step) (more : List Call) → Along p n 0 es → Took (calls es) more → Run world left → Merges (key_of jid) more left →
            Holds jid world (p.cursor + n) → Ended jid p world left (p.cursor + n) (n + returned_count (runs es))) →
            MatchBool b (Along p n 0 es) (es ≡ []) → Took (call ∷ calls es) taken →
            Ended jid p w steps value (n + returned_count (runs es))
        by_reply false not_so later none tk =
            let e : n ≡ n + returned_count (runs es) = omega (arith, ap (λ xs. returned_count (runs xs)) none) in
            subst (Ended jid p w steps value) e (last_save jid p same w steps call (calls es) taken value n since along.0 (ap calls none) tk run merges h low high few (omega (arith, small)))
        by_reply true is_so later d (inr (lost, tk)) = absurd (accepted_not_lost call.reply is_so lost)
        by_reply true is_so later d (inl (more, are, tk)) =
            let next : ℕ = p.cursor + n in
            let small_ : next < 2 ^ 62 = omega (arith, small) in
            let merged : Merges (key_of jid) (call ∷ more) steps = subst (λ cs. Merges (key_of jid) cs steps) are merges in
            let s : SavedAt jid w steps more call.reply value next = save_through jid w steps more call value next (request_is jid p same call next along.0) small_ run merged h in
            let held : Holds jid s.behind.world next = subst (Holds jid s.behind.world) (saved s.value is_so s.comes) s.holds in
            let rest : Ended jid p s.behind.world s.behind.left next (n + returned_count (runs es)) =
            later s.behind.world s.behind.left more d tk s.behind.run s.behind.merges held in
            let up : value ≤ rest.last = omega (arith, low, rest.rises) in
            moved jid p w steps more value (n + returned_count (runs es)) s.behind (record { last = rest.last; holds = rest.holds; rises = up; within = rest.within; few = rest.few })
