-- Launches one after another.
use Rattle.std.proofs.Common.{◌≡◌, ◌∙◌, ◌+◌, ap, arith, length, map, refl, subst, sym, ℕ, List, Err, Option, Result, Some}
use denote.Param.Members.{Mut}
use Rattle.std.proofs.lemmas.List.{length-map}
use Rattle.std.specs.declared.alloc.Global.{Global}
use Rattle.std.specs.declared.vec.Vec.{Vec}
use Rattle.sk_base.specs.declared.sink.Sink as a_sink
use Rattle.sk_base.specs.declared.source.Source as a_source
use Rattle.sk_edge.specs.declared.door.Door as a_door
use Rattle.sk_policy.specs.declared.delay.DelayRule.{DelayRule}
use Rattle.sk_worker.specs.Run.{Run}
use Rattle.sk_worker.specs.declared.registry.Registry.{Registry}
use Rattle.sk_launcher.specs.Promises.{EndedAt, EndedBy, LaunchesAll, LaunchesBy}
use Rattle.sk_link.specs.Call.{Call}
use Rattle.sk_link.specs.Wire.{WireState}
use Rattle.sk_launcher.specs.Counting.{no_turns, total_from}
use Rattle.sk_launcher.specs.Launching.{Given, Launched, starved}
use Rattle.sk_launcher.specs.Patience.{IsLost, IsSettingsAt, LaunchEnded, Lost, either, none, numbered, one_more, Outlasts, result_of, workers_counts}
use Rattle.sk_launcher.specs.declared.counts.Counts.{Counts}
use Rattle.sk_launcher.specs.declared.launch_end.LaunchEnd.{LaunchEnd}
use Rattle.sk_launcher.specs.declared.launch_fault.LaunchFault.{LaunchFault}
use Rattle.sk_launcher.specs.declared.launch_fault.LaunchFault.TheVariants as fault
use Rattle.sk_launcher.specs.declared.work_settings.WorkSettings.{WorkSettings}

pub none_lost : {S : Type 0} (Launch : ℕ → Counts → S → LaunchEnd → S → Type 0) (from to : S) (n : ℕ) (sum : Counts) → Lost Launch from n sum to → n ≡ 0 →
    (sum ≡ no_turns) × (to ≡ from)
none_lost Launch from to n sum none is = (refl, refl)
none_lost Launch from to n sum (one_more m before mid to' end lost launch away) is = absurd (omega (arith, is))

-- A launch before which nothing was counted answers what its own clause says.
pub alone : {Conn Delay : Type 0} (Carried : WireState Conn → WireState Conn → List Call → Type 0) (Answers : Delay → ℕ → ℕ → Type 0) (DoorFailed : Type 0)
    (settings : WorkSettings) (rules : List Delay) (before after : Given Conn Delay) (sum : Counts) (end : LaunchEnd) (result : Result Counts LaunchFault) →
    LaunchEnded Carried Answers DoorFailed settings rules before after sum end → sum ≡ no_turns → result ≡ result_of end →
    Launched Carried Answers DoorFailed settings rules before after result
alone Carried Answers DoorFailed settings rules before after sum end result e nothing is =
    let counts = workers_counts e.own e.launch in
    subst (λ r. Launched Carried Answers DoorFailed settings rules before after r)
    (e.own_is ∙ ap (λ c. either end.fault c) (sym (e.counted ∙ ap (λ c. total_from c counts) nothing)) ∙ sym is) e.launch

-- What stands before each launch: those before it were lost, it has its number and its settings, and without patience none was lost.
pub record Stands {S : Type 0} (Launch : ℕ → Counts → S → LaunchEnd → S → Type 0) (settings : WorkSettings) (from : S) (number : ℕ) (sum : Counts)
    (own : WorkSettings) (to : S) : Type 0 where
  pub lost : ℕ
  pub are : Lost Launch from lost sum to
  pub number_is : number ≡ lost + 1
  pub own_is : IsSettingsAt settings (lost + 1) own
  pub few : settings.patience ≡ 0 → lost ≡ 0

-- ## Settings

-- The first launch has the settings.
pub settings_first : (settings : WorkSettings) → IsSettingsAt settings 1 settings
settings_first settings = record { first = λ e. refl; same = refl; loops = refl }

-- The next launch has the same, but for its name.
pub settings_next : (settings own mid after : WorkSettings) (n number : ℕ) (ident : _) → IsSettingsAt settings (n + 1) own → mid ≡ record own { loops = mid.loops } →
    mid.loops.items ≡ own.loops.items → number ≡ n + 1 + 1 → ident ≡ settings.ident → after ≡ record mid { ident = numbered ident number } →
    IsSettingsAt settings (n + 1 + 1) after
settings_next settings own mid after n number ident is same loops counted named renamed = record {
  first = λ e. absurd (omega (arith, e));
  same = renamed ∙ ap (λ (s : WorkSettings). record s { ident = numbered ident number }) (same ∙ ap (λ (s : WorkSettings). record s { loops = mid.loops }) is.same)
      ∙ ap (λ i. record settings { ident = i; loops = mid.loops }) (ap (λ i. numbered i number) named ∙ ap (numbered settings.ident) counted)
      ∙ ap (λ l. record settings { ident = numbered settings.ident (n + 1 + 1); loops = l }) (sym (ap (λ (s : WorkSettings). s.loops) renamed));
  loops = ap (λ (s : WorkSettings). s.loops.items) renamed ∙ loops ∙ is.loops;
}

-- At first none was lost.
pub stands_first : {S : Type 0} (Launch : ℕ → Counts → S → LaunchEnd → S → Type 0) (settings : WorkSettings) (from : S) (number : ℕ) (sum : Counts) → number ≡ 1 →
    sum ≡ no_turns → Stands Launch settings from number sum settings from
stands_first Launch settings from number sum first nothing = record {
  lost = 0;
  are = subst (λ c. Lost Launch from 0 c from) (sym nothing) none;
  number_is = first;
  own_is = settings_first settings;
  few = λ e. refl;
}

-- One more was lost.
pub stands_next : {S : Type 0} (Launch : ℕ → Counts → S → LaunchEnd → S → Type 0) (settings : WorkSettings) (from mid to : S) (number number' : ℕ) (sum sum' : Counts)
    (own between after : WorkSettings) (end : LaunchEnd) (ident : _) → (s : Stands Launch settings from number sum own mid) → Launch (s.lost + 1) sum mid end to →
    IsLost end → (settings.patience ≡ 0 → ⊥) → number' ≡ number + 1 → sum' ≡ end.counts → between ≡ record own { loops = between.loops } →
    between.loops.items ≡ own.loops.items → ident ≡ settings.ident → after ≡ record between { ident = numbered ident number' } →
    Stands Launch settings from number' sum' after to
stands_next Launch settings from mid to number number' sum sum' own between after end ident s launch lost patience next summed same loops named renamed =
    let counted : number' ≡ s.lost + 1 + 1 = omega (arith, next, s.number_is) in
    record {
      lost = s.lost + 1;
      are = subst (λ c. Lost Launch from (s.lost + 1) c to) (sym summed) (one_more s.lost sum mid to end s.are launch lost);
      number_is = omega (arith, counted);
      own_is = settings_next settings own between after s.lost number' ident s.own_is same loops counted named renamed;
      few = λ e. absurd (patience e);
    }

-- ## The last launch

-- what holds of the last launch with its own settings holds of one alone with the settings, where there is no patience
pub last_alone : {S : Type 0} (Launch : ℕ → Counts → S → LaunchEnd → S → Type 0) (settings : WorkSettings) (from mid : S) (number : ℕ) (sum : Counts) (own : WorkSettings)
    (Told : WorkSettings → S → Type 0) → Stands Launch settings from number sum own mid → (sum ≡ no_turns → Told own mid) → settings.patience ≡ 0 → Told settings from
last_alone Launch settings from mid number sum own Told s told without =
    let lost = s.few without in
    let start = none_lost Launch from mid s.lost sum s.are lost in
    subst (λ m. Told settings m) start.1 (subst (λ o. Told o mid) (s.own_is.first (omega (arith, lost))) (told start.0))

-- the end of a launch for which there was no memory
abbrev pub starved_end : Counts → LaunchEnd
starved_end sum = record { counts = sum; fault = Some fault.Memory }

pub unlaunched : {Conn Delay : Type 0} (Carried : WireState Conn → WireState Conn → List Call → Type 0) (Answers : Delay → ℕ → ℕ → Type 0) (DoorFailed : Type 0)
    (settings : WorkSettings) (rules : List Delay) (before : Given Conn Delay) (sum : Counts) → LaunchEnded Carried Answers DoorFailed settings rules before before sum (starved_end sum)
unlaunched Carried Answers DoorFailed settings rules before sum = record { own = Err fault.Memory; launch = starved refl; own_is = refl; counted = refl }

pub ends : {S : Type 0} (Launch : ℕ → Counts → S → LaunchEnd → S → Type 0) (settings : WorkSettings) (from mid to : S) (number : ℕ) (sum : Counts) (own : WorkSettings)
    (end : LaunchEnd) (result : Result Counts LaunchFault) → (s : Stands Launch settings from number sum own mid) → Launch (s.lost + 1) sum mid end to →
    result ≡ result_of end → Outlasts Launch settings.patience from to result
ends Launch settings from mid to number sum own end result s last is =
    record { lost = s.lost; sum = sum; mid = mid; end = end; away = s.are; last = last; result_is = is; once = s.few }

-- ## By the traits of the door and its connections

module _ {Rule Job : Type 0} {OfRule : Rule → Type 0} {OfJob : Job → Type 0} {Delays : Mut ((rule : Rule) × OfRule rule) (ℕ × Unit {0}) ℕ}
    {N Conn Ear : Type 0} (Door : a_door.Ghosts N Conn Ear) (Source : a_source.Ghosts Conn) (Sink : a_sink.Ghosts Conn)
    (runs : (job : Job) × OfJob job → Option (List Run)) (rules : Vec (DelayRule Rule OfRule Delays) Global) (settings : WorkSettings) where
  -- What stands before the last launch, and its end, are what launches came to.
  pub all_end : (net : N) (words : Option (ℕ → ℕ)) (teams : Vec (Registry Job Rule OfJob OfRule Delays) Global) (net' : N) (words' : Option (ℕ → ℕ))
      (teams' : Vec (Registry Job Rule OfJob OfRule Delays) Global) (mid : N × Option (ℕ → ℕ) × Vec (Registry Job Rule OfJob OfRule Delays) Global)
      (number : ℕ) (sum : Counts) (own : WorkSettings) (end : LaunchEnd) (result : Result Counts LaunchFault) →
      Stands (EndedAt Door Source Sink runs rules.items settings) settings (net, words, teams) number sum own mid →
      EndedBy Door Source Sink runs rules.items own sum mid end (net', words', teams') → result ≡ result_of end →
      LaunchesAll Door Source Sink runs words words' rules net teams net' teams' settings result
  all_end net words teams net' words' teams' (net0, words0, teams0) number sum own end result s last is = (
    ends (EndedAt Door Source Sink runs rules.items settings) settings (net, words, teams) (net0, words0, teams0) (net', words', teams') number sum own end result s (own, s.own_is, last) is,
    λ without. last_alone (EndedAt Door Source Sink runs rules.items settings) settings (net, words, teams) (net0, words0, teams0) number sum own
        (λ o m. LaunchesBy Door Source Sink runs m.1 words' rules m.0 m.2 net' teams' o result) s (λ nothing. alone _ _ _ _ _ _ _ _ _ _ last nothing is) without,
  )

-- lists of which the same is seen are of one length
pub as_long : {A B : Type 0} (f : A → B) (xs ys : List A) → map f xs ≡ map f ys → length xs ≡ length ys
as_long f xs ys same = sym (length-map xs f) ∙ ap length same ∙ length-map ys f
