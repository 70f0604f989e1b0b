-- All that holds of a run of events from the first world on, wherever memory ran out and seats were cut off.
use Rattle.std.specs.Prelude.{List, false}
use Rattle.sk_model.specs.declared.limits.Limits.{Limits}
use Rattle.sk_model.specs.World.{first}
use Rattle.sk_model.specs.Causes.{CausesFrom}
use Rattle.sk_model.specs.Event.{Step, Run}
use Rattle.sk_model.specs.Laws.{BalanceFrom, CopiesKeptFrom, LiveJobsStand, OneHolderFrom, OneLeaderFrom, SlotsRiseFrom}
use Rattle.sk_model.specs.Life.{Unborn}
use Rattle.sk_model.specs.Once.{CallsFollowFrom, CompleteOnceFrom, DeathOnceFrom, SettledStaysFrom, SuccessOnceFrom}
use Rattle.sk_model.specs.Order.{InOrderFrom}

pub record IsReliable (limits : Limits) (steps : List Step) : Type 0 where
  -- After each step every live job stands in a queue, a private list or a set.
  pub live_jobs_stand : LiveJobsStand limits steps
  -- After each step every row that was ever pushed is accounted for.
  pub tally_balances : BalanceFrom (first limits) (λ jid. Unborn) steps
  -- After each step every text stands as often as it was brought and not taken.
  pub nothing_is_lost : CopiesKeptFrom (first limits) (λ text. 0) (λ text. 0) steps
  -- Success of a batch is fired once, at the very step that leaves no unreturned member in it or in the batches within it.
  pub success_once : SuccessOnceFrom (first limits) steps
  -- A batch that is settled stays so.
  pub settled_stays : SettledStaysFrom (first limits) steps
  -- Complete of a batch is fired once, at the first step that leaves each of these members reported.
  pub complete_once : CompleteOnceFrom (first limits) (λ bid. false) steps
  -- Death of a batch is fired once, at the first step that buries a member of it.
  pub death_once : DeathOnceFrom (first limits) (λ bid. false) steps
  -- What is fired for one job stands in order: complete before success, success before death, and of each kind the inner batch first.
  pub firings_in_order : InOrderFrom (first limits) steps
  -- Each firing is followed at once by the push of the batch's callback, where it has one.
  pub callbacks_follow : CallsFollowFrom (first limits) steps
  -- Whatever takes a row away, puts a text back or is the store's own push has its cause.
  pub moves_have_causes : CausesFrom (first limits) steps
  -- While a lock stands, a unique push under its digest is answered by the holder's id or by a refusal, and moves nothing.
  pub one_holder : OneHolderFrom (first limits) steps
  -- While one process leads no other one comes to.
  pub one_leader : OneLeaderFrom (first limits) steps
  -- The slots of each periodic job rise, each sent in time by the leader of that moment.
  pub slots_rise : SlotsRiseFrom (first limits) steps

-- every run is
abbrev pub Reliable : Type 0
Reliable = (limits : Limits) (steps : List Step) → Run (first limits) steps → IsReliable limits steps
