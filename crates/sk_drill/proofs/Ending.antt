-- How a drill ends.
use Rattle.std.proofs.Common.{◌≡◌, ◌<◌, ◌≤◌, ◌^◌, ◌==◌, ◌++◌, ◌∷◌, ◌∙◌, ℕ, Bool, true, false, List, [], if◌then◌else◌, map, Option, Some, None, Result, Ok, Err, IfErr, IfOk, IfSome, OnOk, IsSome, MatchOption, zero, suc, ap, arith, length, refl, subst, sym}
use Rattle.std.specs.Prelude.{◌≢◌}
use Rattle.std.specs.List.{AllByRecursion, slice_get}
use Rattle.std.proofs.lemmas.List.{append-nil}
use Rattle.sk_compare.specs.Alike.{Alike, AllAnswered, Compares, noted, told, told_by}
use Rattle.sk_compare.specs.Exchange.{Exchange, WasAnswered, exchange_of}
use Rattle.sk_compare.specs.declared.difference.Difference.{Difference}
use Rattle.sk_desk.specs.declared.entry.Entry.{Entry}
use Rattle.sk_desk.specs.Log.{Log}
use Rattle.sk_desk.specs.State.{IsConsistent, IsLogged, StateView}
use Rattle.sk_jobs.specs.Counting.{tally_of}
use Rattle.sk_lane.specs.declared.story.Story.{Story}
use Rattle.sk_model.specs.World.{World}
use Rattle.sk_drill.specs.Crews.{HaveOwnSeats}
use Rattle.sk_drill.specs.Drilled.{AreBySeat, EndsAs, IsAnswered, IsDrilled, IsRecorded, shipped}
use Rattle.sk_drill.specs.Soaked.{IsBalanced}
use Rattle.sk_drill.proofs.Each.{all_told, noted_answered}
use Rattle.sk_drill.specs.declared.drill_end.DrillEnd.{DrillEnd}
use Rattle.sk_drill.specs.declared.drill_end.DrillEnd.TheVariants as end
use Rattle.sk_drill.specs.declared.drill_end.Drilled.{Drilled}

-- A book with fewer entries than it may have tells its log.
pub has_log : (log : Option Log) (n : ℕ) (entries : List Entry) → n ≡ length entries → n < 2 ^ 62 → MatchOption log (2 ^ 62 ≤ length entries) (λ l. entries ≡ l.entries) →
    (l : Log) × (log ≡ Some l) × (entries ≡ l.entries)
has_log None n entries is few m = absurd (omega (arith, is, few, m))
has_log (Some l) n entries is few m = (l, refl, m)

pub logged_at : (start : World) (s : StateView) (l : Log) → IsConsistent start s → s.log ≡ Some l → IsLogged start s.world l
logged_at start s l c is = subst (λ o. IfSome o (IsLogged start s.world)) is c.logged

pub count_at : (log : Option Log) (l : Log) (n : ℕ) → log ≡ Some l → MatchOption log (2 ^ 62 ≤ n) (λ k. n ≡ length k.entries) → n ≡ length l.entries
count_at log l n is m = subst (λ o. MatchOption o (2 ^ 62 ≤ n) (λ k. n ≡ length k.entries)) is m

-- The comparison with a book that tells its log.
pub recorded : {E : Type 0} (s : StateView) (stories : List Story) (entries : List Entry) (l : Log) (came : Result (Option Difference) E) → IsConsistent shipped s → s.log ≡ Some l →
    entries ≡ l.entries → IfOk came (Compares (told stories) (noted entries)) → OnOk came (AllAnswered entries) → IfOk came (IsRecorded s stories)
recorded s stories entries l (Ok d) sound is are h a = record {
  log = l;
  log_is = is;
  journal = (logged_at shipped s l sound is).journal;
  answered = subst AllAnswered are a;
  compares = subst (λ es. Compares (told stories) (noted es) d) are h;
}
recorded s stories entries l (Err e) sound is are h a = tt

-- ## Stories and their seats

told_other : (story : Story) (s : ℕ) (b : Bool) → (story.seat == s) ≡ b → story.seat ≢ s → told_by s story ≡ []
told_other story s true at other = absurd (other (grind (arith, at)))
told_other story s false at other = ap (λ t. if t then map exchange_of story.asks.items else []) at

told_self : (story : Story) → told_by story.seat story ≡ map exchange_of story.asks.items
told_self story =
    let own : (story.seat == story.seat) ≡ true = grind arith in
    ap (λ t. if t then map exchange_of story.asks.items else []) own

pub told_none : (stories : List Story) (s : ℕ) → AllByRecursion (λ story. story.seat ≢ s) stories → told stories s ≡ []
told_none [] s others = refl
told_none (story ∷ stories) s others = ap (λ l. l ++ told stories s) (told_other story s (story.seat == s) refl others.0) ∙ told_none stories s others.1

own_on : (story : Story) (stories rest : List Story) → AllByRecursion (λ other. other.seat ≢ story.seat) rest →
    AllByRecursion (λ y. told stories y.seat ≡ map exchange_of y.asks.items) rest → AllByRecursion (λ y. told (story ∷ stories) y.seat ≡ map exchange_of y.asks.items) rest
own_on story stories [] others own = tt
own_on story stories (y ∷ rest) others own = (
  ap (λ l. l ++ told stories y.seat) (told_other story y.seat (story.seat == y.seat) refl (λ e. others.0 (sym e))) ∙ own.0,
  own_on story stories rest others.1 own.1,
)

all_own : (stories : List Story) → HaveOwnSeats stories → AllByRecursion (λ y. told stories y.seat ≡ map exchange_of y.asks.items) stories
all_own [] own = tt
all_own (story ∷ stories) own = (
  ap (λ l. l ++ told stories story.seat) (told_self story) ∙ ap (λ l. map exchange_of story.asks.items ++ l) (told_none stories story.seat own.0)
      ∙ append-nil (map exchange_of story.asks.items),
  own_on story stories stories own.0 (all_own stories own.1),
)

noted_own : (stories rest : List Story) (entries : List Entry) → Alike (told stories) (noted entries) →
    AllByRecursion (λ y. told stories y.seat ≡ map exchange_of y.asks.items) rest → AllByRecursion (λ y. noted entries y.seat ≡ map exchange_of y.asks.items) rest
noted_own stories [] entries alike own = tt
noted_own stories (y ∷ rest) entries alike own = (sym (alike.each y.seat) ∙ own.0, noted_own stories rest entries alike own.1)

are_by_seat : (stories : List Story) (entries : List Entry) → HaveOwnSeats stories → Alike (told stories) (noted entries) → AreBySeat stories entries
are_by_seat stories entries own alike = record {
  own = noted_own stories stories entries alike (all_own stories own);
  others = λ s others. sym (alike.each s) ∙ told_none stories s others;
}

-- ## Asks that have their replies

reply_at : (xs : List Exchange) (n : ℕ) → AllByRecursion (λ x. IsSome x.reply) xs → WasAnswered (slice_get xs n)
reply_at [] n all = tt
reply_at (x ∷ xs) zero all = all.0
reply_at (x ∷ xs) (suc n) all = reply_at xs n all.1

-- ## How it ends

alike_as : (s : StateView) (d : Drilled) (stories : List Story) → IsRecorded s stories None → HaveOwnSeats stories → d.book ≡ s.log → d.stories.items ≡ stories →
    d.summary.tally ≡ tally_of s.world → IsBalanced d.summary.tally →
    MatchOption s.log (2 ^ 62 ≤ d.summary.events) (λ k. d.summary.events ≡ length k.entries) → IsDrilled stories d
alike_as s d stories r own book_is stories_are tally_is balanced events = record {
  log = r.log;
  book_is = book_is ∙ r.log_is;
  world = s.world;
  journal = r.journal;
  events_are = count_at s.log r.log d.summary.events r.log_is events;
  tally_is = tally_is;
  balanced = balanced;
  stories_are = stories_are;
  answered = r.answered;
  alike = r.compares;
  by_seat = are_by_seat stories r.log.entries own r.compares;
}

-- The end, by what the comparison came to.
pub ends_as : {E : Type 0} (s : StateView) (d : Drilled) (stories : List Story) (came : Result (Option Difference) E) (end_now : DrillEnd) →
    IfOk came (IsRecorded s stories) → HaveOwnSeats stories → AllByRecursion IsAnswered stories → d.book ≡ s.log → d.stories.items ≡ stories →
    d.summary.tally ≡ tally_of s.world → IsBalanced d.summary.tally → MatchOption s.log (2 ^ 62 ≤ d.summary.events) (λ k. d.summary.events ≡ length k.entries) →
    (came ≡ Ok None → end_now ≡ end.Alike d) → IfOk came (λ r. IfSome r (λ x. end_now ≡ end.Differs x.seat x.place x.told x.noted)) →
    IfErr came (λ e. end_now ≡ end.Memory) → EndsAs stories end_now
ends_as s d stories (Ok None) end_now r own answered book_is stories_are tally_is balanced events alike differs memory =
    subst (EndsAs stories) (sym (alike refl)) (alike_as s d stories r own book_is stories_are tally_is balanced events)
ends_as s d stories (Ok (Some x)) end_now r own answered book_is stories_are tally_is balanced events alike differs memory =
    subst (EndsAs stories) (sym differs) (record {
      log = r.log;
      world = s.world;
      journal = r.journal;
      answered = r.answered;
      differs = r.compares;
      texts = r.compares.texts (reply_at (told stories x.seat) x.place (all_told (λ y. IsSome y.reply) stories x.seat answered))
          (reply_at (noted r.log.entries x.seat) x.place (noted_answered r.log.entries x.seat r.answered));
    })
ends_as s d stories (Err e) end_now r own answered book_is stories_are tally_is balanced events alike differs memory = subst (EndsAs stories) (sym memory) tt
