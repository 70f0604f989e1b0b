-- The stories of a whole crew.
use denote.Param.Members.{Mut}
use Rattle.std.proofs.Common.{◌≡◌, ◌+◌, ◌++◌, ◌∙◌, ℕ, List, Option, Some, ap, length, map, subst, sym}
use Rattle.std.specs.Global.{Vec}
use Rattle.sk_policy.specs.declared.delay.DelayRule.{DelayRule}
use Rattle.sk_worker.specs.Run.{Run}
use Rattle.sk_worker.specs.declared.registry.Registry.{Registry}
use Rattle.sk_lane.specs.Lane.{WorksAt}
use Rattle.sk_lane.specs.declared.seats.Seats as the_seats
use Rattle.sk_lane.specs.declared.story.Story.{Story}
use Rattle.sk_drill.specs.Crews.{AreStories, Assigned, HasWorked, IsHired, Lanes, StandApart, TellAll, Worked, seats_of, task_of}
use Rattle.sk_drill.specs.Telling.{PollStory, PushStory}
use Rattle.sk_drill.specs.declared.plan.Plan.{Plan}
use Rattle.sk_drill.specs.declared.poll_duty.PollDuty.{PollDuty}
use Rattle.sk_drill.specs.declared.push_duty.PushDuty.{PushDuty}
use Rattle.sk_drill.specs.declared.work_duty.WorkDuty.{WorkDuty}
use Rattle.sk_drill.proofs.Apart.{Rising, all_apart, lane_rises, lanes_rise}
use Rattle.sk_drill.proofs.Assigning.{all_lanes, if_some, lanes_len}

module _ {Job Rule : Type 0} {OfJob : Job → Type 0} {OfRule : Rule → Type 0} {Delays : Mut ((rule : Rule) × OfRule rule) (ℕ × Unit {0}) ℕ} {S Desk : Type 0} where
  one_lane : (OfSeats : the_seats.Ghosts S Desk) (runs : (job : Job) × OfJob job → Option (List Run)) (plan : Plan) (n : ℕ) (team : Registry Job Rule OfJob OfRule Delays)
      (rule : DelayRule Rule OfRule Delays) (a b : WorkDuty S Job Rule OfJob OfRule Delays) (v : Vec Story) → IsHired plan n team rule a → Worked OfSeats runs a b →
      b.stories ≡ Some v → HasWorked runs (task_of plan n) rule team b.registry v.items
  one_lane OfSeats runs plan n team rule a b v h w is =
      let told = if_some _ b.stories v is w.told in
      let same : told.0 ≡ rule = let e : Some told.0 ≡ Some rule = sym told.1 ∙ h.rule_is in cc in (
        _,
        _,
        subst (λ r. WorksAt OfSeats runs (task_of plan n) r team a.seats b.registry b.seats v.items) same
            (subst (λ t. WorksAt OfSeats runs (task_of plan n) told.0 t a.seats b.registry b.seats v.items) h.team_is
            (subst (λ k. WorksAt OfSeats runs (task_of plan k) told.0 a.registry a.seats b.registry b.seats v.items) h.number_is
            (subst (λ p. WorksAt OfSeats runs (task_of p a.number) told.0 a.registry a.seats b.registry b.seats v.items) h.plan_is told.2))),
      )

  one_rises : (OfSeats : the_seats.Ghosts S Desk) (runs : (job : Job) × OfJob job → Option (List Run)) (a b : WorkDuty S Job Rule OfJob OfRule Delays) (v : Vec Story) →
      Worked OfSeats runs a b → b.stories ≡ Some v → Rising (OfSeats.last a.seats) v.items (OfSeats.last a.seats + OfSeats.left a.seats)
  one_rises OfSeats runs a b v w is =
      let told = if_some _ b.stories v is w.told in
      lane_rises _ _ _ _ _ _ v.items told.2

  pub all_stories : (OfSeats : the_seats.Ghosts S Desk) (runs : (job : Job) × OfJob job → Option (List Run)) (plan : Plan) (workers : ℕ)
      (teams0 teams teams_now back left : List (Registry Job Rule OfJob OfRule Delays)) (rules0 rules : List (DelayRule Rule OfRule Delays)) (pushes : PushDuty S)
      (polls : PollDuty S) (staff : List (WorkDuty S Job Rule OfJob OfRule Delays)) (stories : List Story) → teams0 ≡ teams → rules0 ≡ rules → teams_now ≡ back ++ left →
      Assigned (IsHired plan) 1 teams0 rules0 staff → length staff ≡ workers → pushes.jobs ≡ plan.jobs → polls.turns ≡ plan.jobs →
      StandApart OfSeats.last OfSeats.left 0 (seats_of pushes polls staff) → TellAll OfSeats runs pushes polls staff back stories →
      AreStories runs plan workers rules teams teams_now stories
  all_stories OfSeats runs plan workers teams0 teams teams_now back left rules0 rules pushes polls staff stories teams_are rules_are now_are hired count jobs turns apart t =
      let lanes = lanes_rise OfSeats.last OfSeats.left (λ w. w.seats) (Worked OfSeats runs) (λ w. w.stories) (λ lane. lane.items) (one_rises OfSeats runs)
      (OfSeats.last polls.seats + OfSeats.left polls.seats) staff t.staff_now t.lanes apart.1.1 t.worked t.told in
      record {
        pushing = t.pushing;
        polling = t.polling;
        lanes = map (λ lane. lane.items) t.lanes;
        are = t.are;
        apart = all_apart OfSeats.last OfSeats.left pushes.seats polls.seats _ t.pushing t.polling _ stories apart t.pushed.seat t.polled.seat lanes.0 lanes.1 t.are;
        pushed = subst (λ n. PushStory n t.pushing) jobs t.pushed.told;
        polled = subst (λ n. PollStory n t.polling) turns t.polled.told;
        count = lanes_len (Worked OfSeats runs) (λ w. w.stories) (λ lane. lane.items) staff t.staff_now t.lanes t.worked t.told ∙ count;
        worked = subst (λ l. Lanes runs plan rules teams l (map (λ lane. lane.items) t.lanes)) (sym (now_are ∙ ap (λ l. l ++ left) t.back_is))
            (all_lanes (IsHired plan) (Worked OfSeats runs) (λ w. w.stories) (λ lane. lane.items) (λ w. w.registry)
            (λ n team rule lane. HasWorked runs (task_of plan n) rule team lane.0 lane.1) (one_lane OfSeats runs plan) 1 teams rules staff t.staff_now t.lanes left
            (subst (λ rs. Assigned (IsHired plan) 1 teams rs staff) rules_are (subst (λ ts. Assigned (IsHired plan) 1 ts rules0 staff) teams_are hired)) t.worked t.told);
      }

module _ {Job Rule : Type 0} {OfJob : Job → Type 0} {OfRule : Rule → Type 0} {Delays : Mut ((rule : Rule) × OfRule rule) (ℕ × Unit {0}) ℕ} where
  pub stories_of : (runs : (job : Job) × OfJob job → Option (List Run)) (plan : Plan) (n m : ℕ) (rules : List (DelayRule Rule OfRule Delays))
      (teams teams_now : List (Registry Job Rule OfJob OfRule Delays)) (stories : List Story) → n ≡ m →
      AreStories runs plan n rules teams teams_now stories → AreStories runs plan m rules teams teams_now stories
  stories_of runs plan n m rules teams teams_now stories same s = subst (λ k. AreStories runs plan k rules teams teams_now stories) same s
