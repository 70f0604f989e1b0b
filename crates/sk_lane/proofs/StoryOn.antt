-- How a story is told, and how stories go on.
use Rattle.std.proofs.Common.{◌≡◌, ◌+◌, ◌++◌, ◌∙◌, ℕ, Bool, true, false, List, [], ◌∷◌, length, Option, Some, None, Result, Ok, Err, IfOk, refl, sym, ap, subst, append-nil, append_assoc, arith, get_or}
use Rattle.std.proofs.lemmas.List.{length_push}
use Rattle.std.proofs.lemmas.List.Elements.{filter-append}
use Rattle.sk_base.specs.Outside.{Takes}
use Rattle.sk_base.proofs.OutsideLaws.{takes_more, takes_nothing}
use Rattle.sk_resp.specs.Spelling.{Bytes}
use Rattle.sk_worker.specs.Event.{Choice}
use Rattle.sk_worker.specs.Request.{join_words}
use Rattle.sk_worker.specs.Run.{Run, RunsTold, runs_at}
use Rattle.sk_worker.specs.Stage.{Settings}
use Rattle.sk_desk.specs.declared.call.Call.{Call}
use Rattle.sk_desk.specs.declared.entry.Ask.{Ask}
use Rattle.sk_lane.specs.Asks.{AddsPast, AreCalls}
use Rattle.sk_lane.specs.Carrying.{LinkState}
use Rattle.sk_lane.specs.Drawing.{in_turn}
use Rattle.sk_lane.specs.Progress.{LaneSoFar, Said, TurnsTold}
use Rattle.sk_lane.specs.Story.{Seated, Sitting, Stories, StoryRan, StoryTold, all_told, beat, beat_words, join, one_more, turned, unbeaten, unjoined}
use Rattle.sk_lane.specs.Turns.{Turns, asks_of, marks_of, runs_of}
use Rattle.sk_lane.specs.declared.crashes.Crashes.{Crashes}
use Rattle.sk_lane.specs.declared.crashes.Drawing.{Drawing}
use Rattle.sk_lane.specs.declared.past_seat.PastSeat.{PastSeat}
use Rattle.sk_lane.specs.declared.story.Story.{Story}

-- ## One story

pub ends_unbeaten : (w : Settings) (OfRules : List Choice → Type 0) (OfJobs : List Run → Type 0) (a b : LinkState) (marks : List ℕ) (todo left : ℕ) →
    Said (beat_words w.ident) a b false → a.asks ≡ [] → marks ≡ [] → todo ≡ left + 1 → OfJobs [] →
    StoryRan w OfRules OfJobs a.drawing.crashes todo b.asks marks b.drawing.crashes left
ends_unbeaten w OfRules OfJobs a b marks todo left said fresh none one ran = record {
  runs = [];
  ran = ran;
  told = subst (λ asks. StoryTold w OfRules a.drawing.crashes todo asks marks [] b.drawing.crashes left) (sym (said.kept ∙ ap (λ l. l ++ beat w said.answer ∷ []) fresh))
      (subst (λ ms. StoryTold w OfRules a.drawing.crashes todo (beat w said.answer ∷ []) ms [] b.drawing.crashes left) (sym none)
      (subst (λ (d : Drawing). StoryTold w OfRules a.drawing.crashes todo (beat w said.answer ∷ []) [] [] d.crashes left) (sym said.undrawn)
      (unbeaten a.drawing.crashes todo left said.answer one said.is said.served)));
}

two_asks : (w : Settings) (a m b : LinkState) (x y : Bool) (first : Said (beat_words w.ident) a m x) (second : Said (join_words w.ident) m b y) → a.asks ≡ [] →
    b.asks ≡ beat w first.answer ∷ join w second.answer ∷ []
two_asks w a m b x y first second fresh = second.kept ∙ ap (λ l. l ++ join w second.answer ∷ []) (first.kept ∙ ap (λ l. l ++ beat w first.answer ∷ []) fresh)

pub ends_unjoined : (w : Settings) (OfRules : List Choice → Type 0) (OfJobs : List Run → Type 0) (a m b : LinkState) (marks : List ℕ) (todo left : ℕ) →
    Said (beat_words w.ident) a m true → Said (join_words w.ident) m b false → a.asks ≡ [] → marks ≡ [] → todo ≡ left + 1 → OfJobs [] →
    StoryRan w OfRules OfJobs a.drawing.crashes todo b.asks marks b.drawing.crashes left
ends_unjoined w OfRules OfJobs a m b marks todo left first second fresh none one ran = record {
  runs = [];
  ran = ran;
  told = subst (λ asks. StoryTold w OfRules a.drawing.crashes todo asks marks [] b.drawing.crashes left) (sym (two_asks w a m b true false first second fresh))
      (subst (λ ms. StoryTold w OfRules a.drawing.crashes todo (beat w first.answer ∷ join w second.answer ∷ []) ms [] b.drawing.crashes left) (sym none)
      (subst (λ (d : Drawing). StoryTold w OfRules a.drawing.crashes todo (beat w first.answer ∷ join w second.answer ∷ []) [] [] d.crashes left) (sym (second.undrawn ∙ first.undrawn))
      (unjoined a.drawing.crashes todo left first.answer second.answer one first.is second.is second.served)));
}

pub ends_turned : {E : Type 0} (w : Settings) (OfRules : List Choice → Type 0) (OfJobs : List Run → Type 0) (result : Result ℕ E) (a m b : LinkState) (held : List Bytes) (d e : Drawing)
    (asks : List Ask) (marks marks_now : List ℕ) (todo : ℕ) → Said (beat_words w.ident) a m true → Said (join_words w.ident) m b true → a.asks ≡ [] → marks ≡ [] → held ≡ [] →
    d ≡ in_turn a.drawing.crashes → IfOk result (λ left. TurnsTold w OfRules OfJobs d todo held b.asks asks marks marks_now e left) →
    IfOk result (λ left. StoryRan w OfRules OfJobs a.drawing.crashes todo asks marks_now e.crashes left)
ends_turned w OfRules OfJobs (Err f) a m b held d e asks marks marks_now todo first second fresh none rested begins told = tt
ends_turned w OfRules OfJobs (Ok left) a m b held d e asks marks marks_now todo first second fresh none rested begins told =
    let both = two_asks w a m b true true first second fresh in
    record {
      runs = runs_of told.turns;
      ran = told.ran;
      told = subst (λ l. StoryTold w OfRules a.drawing.crashes todo l marks_now (runs_of told.turns) e.crashes left) (sym (told.asked ∙ ap (λ l. l ++ asks_of told.turns) both))
          (subst (λ ms. StoryTold w OfRules a.drawing.crashes todo (beat w first.answer ∷ join w second.answer ∷ asks_of told.turns) ms (runs_of told.turns) e.crashes left)
          (sym (told.marked ∙ (ap (λ l. l ++ marks_of (length b.asks) told.turns) none ∙ ap (λ l. marks_of (length l) told.turns) both)))
          (turned a.drawing.crashes todo left first.answer second.answer told.turns e first.is second.is
          (subst (λ h. Turns w OfRules (in_turn a.drawing.crashes) todo h told.turns e left) rested
          (subst (λ f. Turns w OfRules f todo held told.turns e left) begins told.taken))));
    }

-- ## At a seat

pub seated : (last0 last1 last2 left0 left1 left2 : ℕ) (past0 past1 past2 : Option (List PastSeat)) (seat : ℕ) (calls : Option (List Call)) (asks : List Ask) →
    last1 ≡ last0 + 1 → last1 ≡ seat → left1 + 1 ≡ left0 → past1 ≡ past0 → AddsPast past1 (record { seat = last1; calls = calls } ∷ []) past2 → left2 ≡ left1 → last2 ≡ last1 →
    AreCalls calls asks → Seated (record { last = last0; left = left0; past = past0 }) (record { last = last2; left = left2; past = past2 }) seat asks
seated last0 last1 last2 left0 left1 left2 past0 past1 past2 seat calls asks above is fewer same adds left last are = record {
  calls = calls;
  next = sym is ∙ above;
  last_is = last ∙ is;
  left_is = ap (λ n. n + 1) left ∙ fewer;
  past_is = subst (λ s. AddsPast s (record { seat = seat; calls = calls } ∷ []) past2) same
      (subst (λ n. AddsPast past1 (record { seat = n; calls = calls } ∷ []) past2) is adds);
  same = are;
}

-- ## Stories

past_none : (past : Option (List PastSeat)) → AddsPast past [] past
past_none None = tt
past_none (Some told) = (told, refl, sym (append-nil told))

past_more : (a : Option (List PastSeat)) (xs : List PastSeat) (b : Option (List PastSeat)) (ys : List PastSeat) (c : Option (List PastSeat)) → AddsPast a xs b → AddsPast b ys c → AddsPast a (xs ++ ys) c
past_more a xs b ys None p q = tt
past_more a xs None ys (Some c) p q = absurd (let e : None ≡ Some q.0 = q.1 in cc)
past_more a xs (Some b) ys (Some c) p q =
    let e : b ≡ q.0 = cc q.1 in
    (p.0, p.1, q.2 ∙ (ap (λ l. l ++ ys) (sym e ∙ p.2) ∙ append_assoc p.0 xs ys))

pub past_added : (a b : Option (List PastSeat)) (n m : ℕ) (x y : Option (List Call)) (now : Option (List PastSeat)) → b ≡ a → m ≡ n → y ≡ x →
    AddsPast b (record { seat = m; calls = y } ∷ []) now → AddsPast a (record { seat = n; calls = x } ∷ []) now
past_added a b n m x y now e f g adds = subst (λ s. AddsPast s (record { seat = n; calls = x } ∷ []) now) e
    (subst (λ k. AddsPast b (record { seat = k; calls = x } ∷ []) now) f (subst (λ c. AddsPast b (record { seat = m; calls = c } ∷ []) now) g adds))

pub lane_none : (thread : ℕ) (w : Settings) (OfRules : List Choice → Type 0) (OfJobs : List Run → Type 0) (c : Crashes) (todo : ℕ) (seats : Sitting) →
    OfJobs [] → LaneSoFar thread w OfRules OfJobs c todo seats seats [] c todo
lane_none thread w OfRules OfJobs c todo seats ran = record {
  runs = [];
  seats_ended = [];
  ran = ran;
  past_is = past_none seats.past;
  left_is = omega arith;
  on = λ rest more later told. told;
}

pub lane_begins : (thread : ℕ) (w : Settings) (OfRules : List Choice → Type 0) (OfJobs : List Run → Type 0) (c now : Crashes) (todo : ℕ) (seats : Sitting) (stories : List Story) →
    now ≡ c → stories ≡ [] → OfJobs [] → LaneSoFar thread w OfRules OfJobs c todo seats seats stories now todo
lane_begins thread w OfRules OfJobs c now todo seats stories e none ran =
    subst (λ l. LaneSoFar thread w OfRules OfJobs c todo seats seats l now todo) (sym none)
    (subst (λ d. LaneSoFar thread w OfRules OfJobs c todo seats seats [] d todo) (sym e) (lane_none thread w OfRules OfJobs c todo seats ran))

pub lane_on : (thread : ℕ) (w : Settings) (OfRules : List Choice → Type 0) (Before First Now : List Run → Type 0) (c d e : Crashes) (todo left next : ℕ) (seats0 seats1 seats2 : Sitting)
    (s1 s2 : List Story) (story : Story) → LaneSoFar thread w OfRules Before c todo seats0 seats1 s1 d left → story.thread ≡ thread →
    StoryRan w OfRules First d left story.asks.items story.marks.items e next → Seated seats1 seats2 story.seat story.asks.items → s2 ≡ s1 ++ story ∷ [] →
    ((xs ys : List Run) → Before xs → First ys → Now (xs ++ ys)) → LaneSoFar thread w OfRules Now c todo seats0 seats2 s2 e next
lane_on thread w OfRules Before First Now c d e todo left next seats0 seats1 seats2 s1 s2 story far is one seated pushed more =
    let ended : PastSeat = record { seat = story.seat; calls = seated.calls } in
    let last0 = seats0.last in
    record {
      runs = far.runs ++ one.runs;
      seats_ended = far.seats_ended ++ ended ∷ [];
      ran = more far.runs one.runs far.ran one.ran;
      past_is = past_more seats0.past far.seats_ended seats1.past (ended ∷ []) seats2.past far.past_is seated.past_is;
      left_is = omega (arith, far.left_is, seated.left_is, ap (λ l. length l) pushed, length_push s1 story);
      on = λ rest runs later told.
          subst (λ l. Stories thread w OfRules c todo last0 l ((far.runs ++ one.runs) ++ runs) ((far.seats_ended ++ ended ∷ []) ++ later))
          (sym (ap (λ l. l ++ rest) pushed ∙ append_assoc s1 (story ∷ []) rest))
          (subst (λ l. Stories thread w OfRules c todo last0 (s1 ++ story ∷ rest) l ((far.seats_ended ++ ended ∷ []) ++ later)) (sym (append_assoc far.runs one.runs runs))
          (subst (λ l. Stories thread w OfRules c todo last0 (s1 ++ story ∷ rest) (far.runs ++ (one.runs ++ runs)) l) (sym (append_assoc far.seats_ended (ended ∷ []) later))
          (far.on (story ∷ rest) (one.runs ++ runs) (ended ∷ later)
          (one_more d e left next seats1.last story rest one.runs runs seated.calls later is seated.next one.told seated.same
          (subst (λ n. Stories thread w OfRules e next n rest runs later) seated.last_is told)))));
    }

-- All stories, where no turn is left.
pub lane_all : (thread : ℕ) (w : Settings) (OfRules : List Choice → Type 0) (OfJobs : List Run → Type 0) (c d : Crashes) (todo left : ℕ) (seats0 seats1 : Sitting)
    (stories : List Story) → left ≡ 0 → (far : LaneSoFar thread w OfRules OfJobs c todo seats0 seats1 stories d left) →
    Stories thread w OfRules c todo seats0.last stories far.runs far.seats_ended
lane_all thread w OfRules OfJobs c d todo left seats0 seats1 stories none far =
    let last0 = seats0.last in
    subst (λ l. Stories thread w OfRules c todo last0 l far.runs far.seats_ended) (append-nil stories)
    (subst (λ l. Stories thread w OfRules c todo last0 (stories ++ []) l far.seats_ended) (append-nil far.runs)
    (subst (λ l. Stories thread w OfRules c todo last0 (stories ++ []) (far.runs ++ []) l) (append-nil far.seats_ended)
    (far.on [] [] [] (subst (λ n. Stories thread w OfRules d n seats1.last [] [] []) (sym none) (all_told d seats1.last)))))

-- ## Runs

runs-append : (classes : List Bytes) (i : ℕ) (xs ys : List Run) → runs_at classes i (xs ++ ys) ≡ runs_at classes i xs ++ runs_at classes i ys
runs-append classes i xs ys = filter-append _ xs ys

pub ran_none : (classes : List Bytes) (told : List (Option (List Run))) → RunsTold classes [] told told
ran_none classes told = record { each = λ i. takes_nothing (get_or told i None) }

pub ran_more : (classes : List Bytes) (a b c : List (Option (List Run))) (xs ys : List Run) → RunsTold classes xs a b → RunsTold classes ys b c → RunsTold classes (xs ++ ys) a c
ran_more classes a b c xs ys p q = record {
  each = λ i. subst (λ rs. Takes (get_or a i None) rs (get_or c i None)) (sym (runs-append classes i xs ys))
      (takes_more (get_or a i None) (runs_at classes i xs) (get_or b i None) (runs_at classes i ys) (get_or c i None) (p.each i) (q.each i));
}

-- the same, where the classes stay
pub ran_later : (k l : List Bytes) (a b c : List (Option (List Run))) (xs ys : List Run) → l ≡ k → RunsTold k xs a b → RunsTold l ys b c → RunsTold k (xs ++ ys) a c
ran_later k l a b c xs ys e p q = ran_more k a b c xs ys p (subst (λ cs. RunsTold cs ys b c) e q)
