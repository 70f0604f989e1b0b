-- That the jobs which workers did are the runs of their teams that returned.
use Rattle.std.proofs.Common.{◌≡◌, ◌+◌, ◌-◌, ◌^◌, ◌++◌, ◌∙◌, sym, ap, subst, ℕ, Bool, true, false, List, [], ◌∷◌, map, length, Ok, refl, arith, length-append, min}
use Rattle.std.proofs.lemmas.Bool.{true≢false}
use Rattle.std.proofs.lemmas.List.Elements.{filter-append}
use Rattle.std.specs.Bool.{MatchBool}
use Rattle.std.specs.List.{AllByRecursion, AllZip}
use Rattle.sk_link.specs.Call.{Call}
use Rattle.sk_worker.specs.Event.{runs as runs_of}
use Rattle.sk_worker.specs.Laws.{returns_in}
use Rattle.sk_worker.specs.Run.{Run, RunsTold, returned_runs}
use Rattle.sk_worker.specs.declared.turn.Turn.{Turn}
use Rattle.sk_worker.specs.declared.turn.Turn.TheVariants as turn
use Rattle.sk_worker.proofs.Done.{done_turns}
use Rattle.sk_worker.proofs.Runs.{RunsTold-more, RunsTold-none}
use Rattle.sk_launcher.specs.Counting.{TallyView, counted, plus, total_from}
use Rattle.sk_launcher.specs.Launching.{HasLeft, Leaves}
use Rattle.sk_launcher.specs.Teams.{HaveReturned, Team, TeamsRan, done_in}
use Rattle.sk_launcher.specs.Turning.{Turns, none, one_more, WentOn, whole, broken}
use Rattle.sk_launcher.specs.Working.{WorkState, WorkerTurn, own_team}
use Rattle.sk_launcher.specs.declared.counts.Counts.{Counts}

-- ## One worker

-- A worker's jobs told runs, and it did as many jobs as returned of these.
pub record Ran {Link Delay Dice : Type 0} (a b : WorkState Link Delay Dice) : Type 0 where
  pub runs : List Run
  pub told : RunsTold a.settings.classes runs a.told b.told
  pub classes : b.settings.classes ≡ a.settings.classes
  pub rules : b.rules ≡ a.rules
  pub done : b.tally.counts.done ≡ a.tally.counts.done + length (returned_runs runs)

returned-append : (xs ys : List Run) → length (returned_runs (xs ++ ys)) ≡ length (returned_runs xs) + length (returned_runs ys)
returned-append xs ys = ap length (filter-append _ xs ys) ∙ length-append (returned_runs xs) (returned_runs ys)

pub ran_then : {Link Delay Dice : Type 0} (a b c : WorkState Link Delay Dice) → Ran a b → Ran b c → Ran a c
ran_then a b c p q = record {
  runs = p.runs ++ q.runs;
  told = RunsTold-more a.settings.classes p.runs q.runs a.told b.told c.told p.told (subst (λ cs. RunsTold cs q.runs b.told c.told) p.classes q.told);
  classes = q.classes ∙ p.classes;
  rules = q.rules ∙ p.rules;
  done = omega (arith, p.done, q.done, returned-append p.runs q.runs);
}

-- one that is as it was, as far as its team goes
pub ran_alike : {Link Delay Dice : Type 0} (a b : WorkState Link Delay Dice) → b.settings ≡ a.settings → b.rules ≡ a.rules → b.told ≡ a.told →
    b.tally ≡ a.tally → Ran a b
ran_alike a b settled ruled same tallied = record {
  runs = [];
  told = subst (λ t. RunsTold a.settings.classes [] a.told t) (sym same) (RunsTold-none a.settings.classes a.told);
  classes = ap (λ (s : _). s.classes) settled;
  rules = ruled;
  done = let is = ap (λ (t : TallyView). t.counts.done) tallied in omega (arith, is);
}

counted_done : (t : Turn) (c : Counts) → (counted t c).done ≡ c.done + returns_in t
counted_done turn.Empty c = omega arith
counted_done turn.Done c = refl
counted_done turn.Retried c = omega arith
counted_done turn.Buried c = omega arith
counted_done turn.Discarded c = omega arith

module _ {Link Delay Dice : Type 0} (Carried : Link → Link → List Call → Type 0) where
  left_ran : (a b : WorkState Link Delay Dice) (ended : Bool) → MatchBool ended (b ≡ a) (HasLeft Carried a b) → Ran a b
  left_ran a b false left = ran_alike a b (ap (λ (w : WorkState _ _ _). w.settings) left.becomes) (ap (λ (w : WorkState _ _ _). w.rules) left.becomes) (ap (λ (w : WorkState _ _ _). w.told) left.becomes) (ap (λ (w : WorkState _ _ _). w.tally) left.becomes)
  left_ran a b true left = ran_alike a b (ap (λ (w : WorkState _ _ _). w.settings) left) (ap (λ (w : WorkState _ _ _). w.rules) left) (ap (λ (w : WorkState _ _ _). w.told) left) (ap (λ (w : WorkState _ _ _). w.tally) left)

  pub leaves_ran : (a b : WorkState Link Delay Dice) → Leaves Carried a b → Ran a b
  leaves_ran a b left = left_ran a b a.ended left

  module _ (Answers : Delay → ℕ → ℕ → Type 0) where
    turn_ran : (a b : WorkState Link Delay Dice) (t : Turn) → WorkerTurn Carried Answers a (Ok t) b → Ran a b
    turn_ran a b t one = record {
      runs = runs_of one.events;
      told = one.parts.jobs;
      classes = ap (λ (s : _). s.classes) one.settings_same;
      rules = one.rules_same;
      done =
          let returned = done_turns a.settings a.held one.events b.held t one.told in
          let tallied = ap (λ (v : TallyView). v.counts.done) one.noted.2 in
          omega (arith, returned, tallied, counted_done t a.tally.counts);
    }

    turns_ran : (answers : List Turn) (a b : WorkState Link Delay Dice) → Turns (WorkerTurn Carried Answers) a answers b → Ran a b
    turns_ran [] a b none = ran_alike a a refl refl refl refl
    turns_ran (t ∷ answers) a b (one_more answers' mid to t' before last) = ran_then a mid b (turns_ran answers a mid before) (turn_ran mid b t last)

    pub went_on_ran : (a b : WorkState Link Delay Dice) → WentOn (WorkerTurn Carried Answers) a b → b.ended ≡ false → Ran a b
    went_on_ran a b (whole answers turns) goes_on = turns_ran answers a b turns
    went_on_ran a b (broken answers last f turns broke) goes_on = absurd (true≢false (sym broke.noted.0 ∙ goes_on))

-- ## All of them

returned_more : (own others : List Run) (m n : ℕ) → length (returned_runs own) ≡ m → length (returned_runs others) ≡ n → length (returned_runs (own ++ others)) ≡ m + n
returned_more own others m n p q = omega (arith, returned-append own others, p, q)

pub all_returned : {Link Delay Dice : Type 0} (before after : List (WorkState Link Delay Dice)) → AllZip Ran before after → AllByRecursion (λ w. w.tally.counts.done ≡ 0) before →
    HaveReturned (map own_team before) (map own_team after) (done_in (map (λ w. w.tally.counts) after))
all_returned [] [] zip fresh = ([], refl, refl)
all_returned (a ∷ before) (b ∷ after) zip fresh =
    let (others, rest, counted) = all_returned before after zip.1 fresh.1 in
    let one = zip.0 in
    let own : length (returned_runs one.runs) ≡ b.tally.counts.done = omega (arith, one.done, fresh.0) in (
      one.runs ++ others,
      (one.runs, others, refl, one.classes, one.rules, one.told, rest),
      returned_more one.runs others b.tally.counts.done (done_in (map (λ w. w.tally.counts) after)) own counted,
    )
all_returned [] (b ∷ after) zip fresh = absurd zip
all_returned (a ∷ before) [] zip fresh = absurd zip

-- Teams without a worker told nothing.
none_ran : {Delay : Type 0} (teams : List (Team Delay)) → TeamsRan teams teams []
none_ran [] = refl
none_ran (t ∷ teams) = ([], [], refl, refl, refl, RunsTold-none t.classes t.told, none_ran teams)

ran_others : {Delay : Type 0} (others before after : List (Team Delay)) (runs : List Run) → TeamsRan before after runs → TeamsRan (before ++ others) (after ++ others) runs
ran_others others [] [] runs ran = subst (λ rs. TeamsRan others others rs) (sym ran) (none_ran others)
ran_others others (a ∷ before) (b ∷ after) runs (own, more, are, classes, ruled, told, rest) = (own, more, are, classes, ruled, told, ran_others others before after more rest)
ran_others others [] (b ∷ after) runs ran = absurd ran
ran_others others (a ∷ before) [] runs ran = absurd ran

pub with_others : {Delay : Type 0} (others before after : List (Team Delay)) (n : ℕ) → HaveReturned before after n → HaveReturned (before ++ others) (after ++ others) n
with_others others before after n (runs, ran, returned) = (runs, ran_others others before after runs ran, returned)

-- ## Their sum

pub total_done : (counts : List Counts) (sum : Counts) (n : ℕ) → sum.done ≡ min n (2 ^ 64 - 1) → (total_from sum counts).done ≡ min (n + done_in counts) (2 ^ 64 - 1)
total_done [] sum n is = omega (arith, is)
total_done (c ∷ counts) sum n is =
    let further = total_done counts (plus sum c) (n + c.done) (omega (arith, is)) in
    omega (arith, further)
