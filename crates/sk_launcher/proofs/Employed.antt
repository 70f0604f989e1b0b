-- What follows of workers that were hired, took turns and left, where none had a fault.
use Rattle.std.proofs.Common.{◌≡◌, ◌≤◌, ◌<◌, ◌++◌, ◌∙◌, sym, ap, subst, ℕ, zero, suc, Bool, true, false, List, [], ◌∷◌, map, length, Option, Some, None, option_map, Result, Ok, Err, refl, arith, append_assoc, length-append, take, ◌+◌}
use Rattle.std.specs.Prelude.{option_to_list}
use Rattle.std.proofs.Math.Seq.{take-append_seam}
use Rattle.std.specs.Bool.{MatchBool}
use Rattle.std.specs.List.{All, AllByRecursion, AllZip}
use Rattle.std.specs.Result.{OnOk, is_err}
use Rattle.sk_link.specs.Call.{Call}
use Rattle.sk_link.specs.Wire.{WireState}
use Rattle.sk_resp.specs.Spelling.{Bytes}
use Rattle.sk_worker.specs.Stage.{Settings}
use Rattle.sk_worker.specs.declared.turn.Turn.{Turn}
use Rattle.sk_worker.specs.declared.turn.WorkFault.{WorkFault}
use Rattle.sk_launcher.specs.Connections.{Each, none as none_hired, one_more as one_hired}
use Rattle.sk_launcher.specs.Faults.{by_poll, by_work}
use Rattle.sk_launcher.specs.Counting.{TallyView}
use Rattle.sk_launcher.specs.Launching.{AllWorked, AreWhole, Employs, HasLeft, Hire, Hires, HiresAll, InThreads, Leaves, Office, hindrance_of, kept_fault, work_faults}
use Rattle.sk_launcher.specs.Polling.{PollState, PollerTurn}
use Rattle.sk_launcher.specs.Teams.{HaveReturned, Team, done_in}
use Rattle.sk_launcher.specs.Turning.{Turns, none, one_more, WentOn, whole, broken}
use Rattle.sk_launcher.specs.TurningLaws.{went_on_none}
use Rattle.sk_launcher.specs.Working.{IsNoted, WorkState, WorkerTurn, own_team}
use Rattle.sk_launcher.proofs.Done.{Ran, all_returned, leaves_ran, ran_alike, ran_then, went_on_ran, with_others}
use Rattle.sk_launcher.proofs.Zips.{all_alike, all_of, all_on, map_both, zip_along, zip_by, zip_if}
use Rattle.sk_launcher.specs.declared.launch_fault.LaunchFault.{LaunchFault}

-- ## Lists

pub all_end : {A : Type 0} (P : A → Type 0) (xs : List A) (x : A) → AllByRecursion P xs → P x → AllByRecursion P (xs ++ x ∷ [])
all_end P [] x all last = (last, tt)
all_end P (y ∷ ys) x all last = (all.0, all_end P ys x all.1 last)

pub map_end : {A B : Type 0} (f : A → B) (xs : List A) (x : A) → map f (xs ++ x ∷ []) ≡ map f xs ++ f x ∷ []
map_end f [] x = refl
map_end f (y ∷ ys) x = ap (λ t. f y ∷ t) (map_end f ys x)

pub all_placed : {A B : Type 0} (P : B → Type 0) (f : A → B) (xs : List A) → AllByRecursion P (map f xs) → All (λ x. P (f x)) xs
all_placed P f [] all k d within = absurd (omega (arith, within))
all_placed P f (x ∷ xs) all zero d within = all.0
all_placed P f (x ∷ xs) all (suc k) d within = all_placed P f xs all.1 k d (omega (arith, within))

pub all_listed : {A B : Type 0} (P : B → Type 0) (f : A → B) (xs : List A) → All (λ x. P (f x)) xs → AllByRecursion P (map f xs)
all_listed P f [] all = tt
all_listed P f (x ∷ xs) all = (all 0 x (omega arith), all_listed P f xs (λ k d within. all (suc k) d (omega (arith, within))))

pub both : {A : Type 0} (P Q R : A → Type 0) → ((x : A) → P x → Q x → R x) → (xs : List A) → AllByRecursion P xs → AllByRecursion Q xs → AllByRecursion R xs
both P Q R f [] p q = tt
both P Q R f (x ∷ xs) p q = (f x p.0 q.0, both P Q R f xs p.1 q.1)

pub along : {A B : Type 0} (Step : A → B → Type 0) (P : A → Type 0) (Q : B → Type 0) → ((a : A) (b : B) → Step a b → P a → Q b) →
    (xs : List A) (ys : List B) → AllZip Step xs ys → AllByRecursion P xs → AllByRecursion Q ys
along Step P Q f [] [] zip p = tt
along Step P Q f (x ∷ xs) (y ∷ ys) zip p = (f x y zip.0 p.0, along Step P Q f xs ys zip.1 p.1)
along Step P Q f [] (y ∷ ys) zip p = absurd zip
along Step P Q f (x ∷ xs) [] zip p = absurd zip

pub back : {A B : Type 0} (Step : A → B → Type 0) (P : A → Type 0) (Q : B → Type 0) → ((a : A) (b : B) → Step a b → Q b → P a) →
    (xs : List A) (ys : List B) → AllZip Step xs ys → AllByRecursion Q ys → AllByRecursion P xs
back Step P Q f [] [] zip q = tt
back Step P Q f (x ∷ xs) (y ∷ ys) zip q = (f x y zip.0 q.0, back Step P Q f xs ys zip.1 q.1)
back Step P Q f [] (y ∷ ys) zip q = absurd zip
back Step P Q f (x ∷ xs) [] zip q = absurd zip

pub same_length : {A B : Type 0} (Step : A → B → Type 0) (xs : List A) (ys : List B) → AllZip Step xs ys → length ys ≡ length xs
same_length Step [] [] zip = refl
same_length Step (x ∷ xs) (y ∷ ys) zip = ap suc (same_length Step xs ys zip.1)
same_length Step [] (y ∷ ys) zip = absurd zip
same_length Step (x ∷ xs) [] zip = absurd zip

pub all_same : {A : Type 0} (R : A → A → Type 0) → ((x : A) → R x x) → (xs : List A) → AllZip R xs xs
all_same R same [] = tt
all_same R same (x ∷ xs) = (same x, all_same R same xs)

pub seam : {A : Type 0} (ws xs : List A) (n : ℕ) → n ≡ length ws → take n (ws ++ xs) ≡ ws
seam ws xs n is = rw is (take-append_seam ws xs)

-- Who took so many turns at least, and no more, took so many.
pub all_taken : {B : Type 0} (taken : B → ℕ) (R : B → B → Type 0) (turns : ℕ) → ((x y : B) → R x y → taken x ≤ turns → taken y ≤ turns) →
    (xs ys : List B) → AllZip R xs ys → AllByRecursion (λ b. taken b ≤ turns) xs → AllByRecursion (λ b. turns ≤ taken b) ys →
    AllByRecursion (λ b. taken b ≡ turns) ys
all_taken taken R turns keeps xs ys zip most least =
    both (λ b. taken b ≤ turns) (λ b. turns ≤ taken b) (λ b. taken b ≡ turns) (λ b p q. omega (arith, p, q)) ys
    (along R (λ b. taken b ≤ turns) (λ b. taken b ≤ turns) keeps xs ys zip most) least

pub all_up : {A : Type 0} (f : A → ℕ) (turns : ℕ) (xs : List A) → AllByRecursion (λ x. f x ≤ 0) xs → AllByRecursion (λ x. f x ≤ turns) xs
all_up f turns [] all = tt
all_up f turns (x ∷ xs) all = (omega (arith, all.0), all_up f turns xs all.1)

pub on_ok : {T E A B : Type 0} (r : Result T E) → OnOk r A → (A → B) → OnOk r B
on_ok (Ok x) a f = f a
on_ok (Err e) a f = tt

pub zip_seen : {A B C : Type 0} (R : B → C → Type 0) (f : A → B) (xs : List A) (ys : List C) → AllZip (λ x y. R (f x) y) xs ys → AllZip R (map f xs) ys
zip_seen R f [] [] zip = tt
zip_seen R f (x ∷ xs) (y ∷ ys) zip = (zip.0, zip_seen R f xs ys zip.1)
zip_seen R f [] (y ∷ ys) zip = absurd zip
zip_seen R f (x ∷ xs) [] zip = absurd zip

pub mapped : {A B C : Type 0} (f : A → B) (g : B → C) (xs : List A) → map g (map f xs) ≡ map (λ x. g (f x)) xs
mapped f g [] = refl
mapped f g (x ∷ xs) = ap (λ t. g (f x) ∷ t) (mapped f g xs)

pub same_map : {A B C : Type 0} (R : A → B → Type 0) (f : A → C) (g : B → C) → ((x : A) (y : B) → R x y → g y ≡ f x) → (xs : List A) (ys : List B) → AllZip R xs ys → map g ys ≡ map f xs
same_map R f g by [] [] zip = refl
same_map R f g by (x ∷ xs) (y ∷ ys) zip = ap (λ t. t ∷ map g ys) (by x y zip.0) ∙ ap (λ ts. f x ∷ ts) (same_map R f g by xs ys zip.1)
same_map R f g by [] (y ∷ ys) zip = absurd zip
same_map R f g by (x ∷ xs) [] zip = absurd zip

none_left : {A : Type 0} (xs ys : List A) → xs ++ ys ≡ [] → xs ≡ []
none_left [] ys is = refl
none_left (x ∷ xs) ys is = absurd (cc is)

none_right : {A : Type 0} (xs ys : List A) → xs ++ ys ≡ [] → ys ≡ []
none_right [] ys is = is
none_right (x ∷ xs) ys is = absurd (cc is)

no_option : {A B : Type 0} (f : A → B) (o : Option A) → option_to_list (option_map f o) ≡ [] → o ≡ None
no_option f None is = refl
no_option f (Some x) is = absurd (cc is)

-- Where nobody had a fault, none of those who left had one.
pub none_faulty : {A : Type 0} (now before mid gone others : List A) → now ≡ mid ++ others → mid ≡ before ++ gone → now ≡ [] → gone ≡ []
none_faulty now before mid gone others is grown empty = none_right before gone (sym grown ∙ none_left mid others (sym is ∙ empty))

-- what was given back by those who left, and what is left over
pub teams_now : {A : Type 0} (now before gone others : List A) (mid : List A) → now ≡ mid ++ others → mid ≡ before ++ gone → before ≡ [] → now ≡ gone ++ others
teams_now now before gone others mid is grown empty = is ∙ ap (λ ts. ts ++ others) (grown ∙ ap (λ ts. ts ++ gone) empty)

-- as many as there were in all
pub room_left : {A : Type 0} (before gone others total now : List A) → now ≡ before ++ gone → before ≡ [] → gone ++ others ≡ total →
    length now + length others ≡ length total
room_left before gone others total now grown empty all =
    ap (λ xs. length xs + length others) (grown ∙ ap (λ xs. xs ++ gone) empty) ∙ sym (length-append gone others) ∙ ap length all

-- ## A worker without a fault hasn't ended

abbrev pub Tells : {Link Delay Dice : Type 0} → WorkState Link Delay Dice → Type 0
Tells w = w.fault ≡ None → w.ended ≡ false

joined_tells : {Link Delay Dice : Type 0} (a b : WorkState Link Delay Dice) (result : Result (Unit {0}) WorkFault) →
    b ≡ record a { link = b.link; ended = is_err result; fault = kept_fault a.fault result } → Tells b
joined_tells a b (Ok done) is no_fault = ap (λ (w : WorkState _ _ _). w.ended) is
joined_tells a b (Err f) is no_fault = absurd (cc (sym no_fault ∙ ap (λ (w : WorkState _ _ _). w.fault) is))

noted_tells : {Link Delay Dice : Type 0} (a b : WorkState Link Delay Dice) (r : Result Turn WorkFault) → IsNoted a r b → Tells b
noted_tells a b (Ok t) noted no_fault = noted.0
noted_tells a b (Err f) noted no_fault = absurd (cc (sym no_fault ∙ noted.1))

module _ {Link Delay Dice : Type 0} (Carried : Link → Link → List Call → Type 0) where
  leaves_by : (a b : WorkState Link Delay Dice) (ended : Bool) → a.ended ≡ ended → MatchBool ended (b ≡ a) (HasLeft Carried a b) → Tells a → b.fault ≡ None → a.ended ≡ false
  leaves_by a b false is left tells no_fault = is
  leaves_by a b true is left tells no_fault = tells (ap (λ (w : WorkState _ _ _). w.fault) (sym left) ∙ no_fault)

  tally_by : (a b : WorkState Link Delay Dice) (ended : Bool) → MatchBool ended (b ≡ a) (HasLeft Carried a b) → b.tally ≡ a.tally
  tally_by a b false left = ap (λ (w : WorkState _ _ _). w.tally) left.becomes
  tally_by a b true left = ap (λ (w : WorkState _ _ _). w.tally) left

  -- One that left without a fault hadn't ended before.
  leaves_whole : (a b : WorkState Link Delay Dice) → Leaves Carried a b → Tells a → b.fault ≡ None → a.ended ≡ false
  leaves_whole a b left tells no_fault = leaves_by a b a.ended refl left tells no_fault

  pub leaves_tally : (a b : WorkState Link Delay Dice) → Leaves Carried a b → b.tally ≡ a.tally
  leaves_tally a b left = tally_by a b a.ended left

  pub all_left_whole : (worked gone : List (WorkState Link Delay Dice)) → AllZip (Leaves Carried) worked gone → AllByRecursion Tells worked → work_faults gone ≡ [] →
      AllByRecursion (λ w. w.ended ≡ false) worked
  all_left_whole [] [] zip tells no_fault = tt
  all_left_whole (w ∷ worked) (g ∷ gone) zip tells no_fault = (
    leaves_whole w g zip.0 tells.0 (no_option by_work g.fault (none_left (option_to_list (option_map by_work g.fault)) (work_faults gone) no_fault)),
    all_left_whole worked gone zip.1 tells.1 (none_right (option_to_list (option_map by_work g.fault)) (work_faults gone) no_fault),
  )
  all_left_whole [] (g ∷ gone) zip tells no_fault = absurd zip
  all_left_whole (w ∷ worked) [] zip tells no_fault = absurd zip

  settings_by : (a b : WorkState Link Delay Dice) (ended : Bool) → MatchBool ended (b ≡ a) (HasLeft Carried a b) → b.settings ≡ a.settings
  settings_by a b false left = ap (λ (w : WorkState _ _ _). w.settings) left.becomes
  settings_by a b true left = ap (λ (w : WorkState _ _ _). w.settings) left

  leaves_settled : (a b : WorkState Link Delay Dice) → Leaves Carried a b → b.settings ≡ a.settings
  leaves_settled a b left = settings_by a b a.ended left

  rules_by : (a b : WorkState Link Delay Dice) (ended : Bool) → MatchBool ended (b ≡ a) (HasLeft Carried a b) → b.rules ≡ a.rules
  rules_by a b false left = ap (λ (w : WorkState _ _ _). w.rules) left.becomes
  rules_by a b true left = ap (λ (w : WorkState _ _ _). w.rules) left

  leaves_ruled : (a b : WorkState Link Delay Dice) → Leaves Carried a b → b.rules ≡ a.rules
  leaves_ruled a b left = rules_by a b a.ended left

  plain_by : (a b : WorkState Link Delay Dice) (ended : Bool) → MatchBool ended (b ≡ a) (HasLeft Carried a b) → b.plain ≡ a.plain
  plain_by a b false left = ap (λ (w : WorkState _ _ _). w.plain) left.becomes
  plain_by a b true left = ap (λ (w : WorkState _ _ _). w.plain) left

  leaves_plain : (a b : WorkState Link Delay Dice) → Leaves Carried a b → b.plain ≡ a.plain
  leaves_plain a b left = plain_by a b a.ended left

  module _ (Answers : Delay → ℕ → ℕ → Type 0) where
    turns_tell : (answers : List Turn) (a b : WorkState Link Delay Dice) → Tells a → Turns (WorkerTurn Carried Answers) a answers b → Tells b
    turns_tell [] a b tells none = tells
    turns_tell (t ∷ answers) a b tells (one_more answers' mid to t' before last) = noted_tells mid b (Ok t) last.noted

    pub went_on_tells : (a b : WorkState Link Delay Dice) → WentOn (WorkerTurn Carried Answers) a b → Tells a → Tells b
    went_on_tells a b (whole answers turns) tells = turns_tell answers a b tells turns
    went_on_tells a b (broken answers last f turns broke) tells = noted_tells last b (Err f) broke.noted

    -- It hadn't ended before either.
    turns_began : (answers : List Turn) (a b : WorkState Link Delay Dice) → Turns (WorkerTurn Carried Answers) a answers b → b.ended ≡ false → a.ended ≡ false
    turns_began [] a b none goes_on = goes_on
    turns_began (t ∷ answers) a b (one_more answers' mid to t' before last) goes_on = turns_began answers a mid before last.whole

    pub went_on_began : (a b : WorkState Link Delay Dice) → WentOn (WorkerTurn Carried Answers) a b → b.ended ≡ false → a.ended ≡ false
    went_on_began a b (whole answers turns) goes_on = turns_began answers a b turns goes_on
    went_on_began a b (broken answers last f turns broke) goes_on = turns_began answers a last turns broke.whole

    turns_settle : (answers : List Turn) (a b : WorkState Link Delay Dice) → Turns (WorkerTurn Carried Answers) a answers b → b.settings ≡ a.settings
    turns_settle [] a b none = refl
    turns_settle (t ∷ answers) a b (one_more answers' mid to t' before last) = last.settings_same ∙ turns_settle answers a mid before

    pub went_on_settles : (a b : WorkState Link Delay Dice) → WentOn (WorkerTurn Carried Answers) a b → b.settings ≡ a.settings
    went_on_settles a b (whole answers turns) = turns_settle answers a b turns
    went_on_settles a b (broken answers last f turns broke) = broke.settings_same ∙ turns_settle answers a last turns

    turns_rule : (answers : List Turn) (a b : WorkState Link Delay Dice) → Turns (WorkerTurn Carried Answers) a answers b → b.rules ≡ a.rules
    turns_rule [] a b none = refl
    turns_rule (t ∷ answers) a b (one_more answers' mid to t' before last) = last.rules_same ∙ turns_rule answers a mid before

    pub went_on_rules : (a b : WorkState Link Delay Dice) → WentOn (WorkerTurn Carried Answers) a b → b.rules ≡ a.rules
    went_on_rules a b (whole answers turns) = turns_rule answers a b turns
    went_on_rules a b (broken answers last f turns broke) = broke.rules_same ∙ turns_rule answers a last turns

    turns_plain : (answers : List Turn) (a b : WorkState Link Delay Dice) → Turns (WorkerTurn Carried Answers) a answers b → b.plain ≡ a.plain
    turns_plain [] a b none = refl
    turns_plain (t ∷ answers) a b (one_more answers' mid to t' before last) = last.plain_same ∙ turns_plain answers a mid before

    went_on_plain : (a b : WorkState Link Delay Dice) → WentOn (WorkerTurn Carried Answers) a b → b.plain ≡ a.plain
    went_on_plain a b (whole answers turns) = turns_plain answers a b turns
    went_on_plain a b (broken answers last f turns broke) = broke.plain_same ∙ turns_plain answers a last turns

    -- Nobody took a turn.
    pub stood_still : (poller : PollState Link Dice) (workers : List (WorkState Link Delay Dice)) → InThreads Carried Answers poller poller workers workers
    stood_still poller workers = record {
      polled = went_on_none (PollerTurn Carried) poller;
      worked = all_same (WentOn (WorkerTurn Carried Answers)) (went_on_none (WorkerTurn Carried Answers)) workers;
    }

no_hindrance : (T : Type 0) (hired : Result (Unit {0}) LaunchFault) → hindrance_of hired ≡ [] → OnOk hired T → T
no_hindrance T (Ok done) is t = t
no_hindrance T (Err f) is t = absurd (cc is)

-- ## What is seen of a team

abbrev pub seen_classes : {Delay : Type 0} → Team Delay → List Bytes
seen_classes t = t.classes

abbrev pub seen_rules : {Delay : Type 0} → Team Delay → List Delay
seen_rules t = t.rules

-- ## Those who were hired

module _ {Conn Delay Dice : Type 0} (Carried : WireState Conn → WireState Conn → List Call → Type 0) (own : List Bytes → Settings) where
  each_hired : (P : WorkState (WireState Conn) Delay Dice → Type 0) → ((a b : Office Conn Delay Dice) (h : Hire (WireState Conn) Delay Dice) → Hires Carried own a h b → P h.joined) →
      (a b : Office Conn Delay Dice) (hires : List (Hire (WireState Conn) Delay Dice)) → Each (Hires Carried own) a hires b → AllByRecursion P (map (λ h. h.joined) hires)
  each_hired P one a b hires none_hired = tt
  each_hired P one a b hires (one_hired xs mid to h before last) =
      subst (AllByRecursion P) (sym (map_end (λ (z : Hire (WireState Conn) Delay Dice). z.joined) xs h)) (all_end P (map (λ z. z.joined) xs) h.joined (each_hired P one a mid xs before) (one mid b h last))

  tells_hired : (a b : Office Conn Delay Dice) (h : Hire (WireState Conn) Delay Dice) → Hires Carried own a h b → Tells h.joined
  tells_hired a b h hires = let joins = hires.starts.joins in joined_tells h.fresh h.joined joins.result joins.becomes

  taken_hired : (a b : Office Conn Delay Dice) (h : Hire (WireState Conn) Delay Dice) → Hires Carried own a h b → h.joined.tally.taken ≤ 0
  taken_hired a b h hires =
      let same = ap (λ (w : WorkState _ _ _). w.tally.taken) hires.starts.joins.becomes in
      let none_yet = ap (λ (t : _). t.taken) hires.starts.tally in
      omega (arith, same, none_yet)

  pub all_tell : (a b : Office Conn Delay Dice) (workers : List (WorkState (WireState Conn) Delay Dice)) → HiresAll Carried own a workers b → AllByRecursion Tells workers
  all_tell a b workers (hires, chain, is) = subst (AllByRecursion Tells) (sym is) (each_hired Tells tells_hired a b hires chain)

  pub none_taken : (a b : Office Conn Delay Dice) (workers : List (WorkState (WireState Conn) Delay Dice)) → HiresAll Carried own a workers b → AllByRecursion (λ w. w.tally.taken ≤ 0) workers
  none_taken a b workers (hires, chain, is) =
      subst (AllByRecursion (λ w. w.tally.taken ≤ 0)) (sym is) (each_hired (λ w. w.tally.taken ≤ 0) taken_hired a b hires chain)

  teams_used : (a b : Office Conn Delay Dice) (hires : List (Hire (WireState Conn) Delay Dice)) → Each (Hires Carried own) a hires b → a.teams ≡ map (λ h. own_team h.fresh) hires ++ b.teams
  teams_used a b hires none_hired = refl
  teams_used a b hires (one_hired xs mid to h before last) =
      let used = map (λ (z : Hire (WireState Conn) Delay Dice). own_team z.fresh) xs in
      teams_used a mid xs before ∙ ap (λ ts. used ++ ts) last.next_team ∙ sym (append_assoc used (own_team h.fresh ∷ []) b.teams)
      ∙ ap (λ ts. ts ++ b.teams) (sym (map_end (λ (z : Hire (WireState Conn) Delay Dice). own_team z.fresh) xs h))

  rules_used : (a b : Office Conn Delay Dice) (hires : List (Hire (WireState Conn) Delay Dice)) → Each (Hires Carried own) a hires b → a.rules ≡ map (λ h. h.fresh.plain) hires ++ b.rules
  rules_used a b hires none_hired = refl
  rules_used a b hires (one_hired xs mid to h before last) =
      let used = map (λ (z : Hire (WireState Conn) Delay Dice). z.fresh.plain) xs in
      rules_used a mid xs before ∙ ap (λ rs. used ++ rs) last.next_rule ∙ sym (append_assoc used (h.fresh.plain ∷ []) b.rules)
      ∙ ap (λ rs. rs ++ b.rules) (sym (map_end (λ (z : Hire (WireState Conn) Delay Dice). z.fresh.plain) xs h))

  hired_ran : (a b : Office Conn Delay Dice) (h : Hire (WireState Conn) Delay Dice) → Hires Carried own a h b → Ran h.fresh h.joined
  hired_ran a b h hires = ran_alike h.fresh h.joined (ap (λ (w : WorkState _ _ _). w.settings) hires.starts.joins.becomes)
      (ap (λ (w : WorkState _ _ _). w.rules) hires.starts.joins.becomes) (ap (λ (w : WorkState _ _ _). w.told) hires.starts.joins.becomes) (ap (λ (w : WorkState _ _ _). w.tally) hires.starts.joins.becomes)

  hired_none : (a b : Office Conn Delay Dice) (h : Hire (WireState Conn) Delay Dice) → Hires Carried own a h b → h.fresh.tally.counts.done ≡ 0
  hired_none a b h hires = ap (λ (t : TallyView). t.counts.done) hires.starts.tally

  each_of : (P : Hire (WireState Conn) Delay Dice → Type 0) → ((a b : Office Conn Delay Dice) (h : Hire (WireState Conn) Delay Dice) → Hires Carried own a h b → P h) →
      (a b : Office Conn Delay Dice) (hires : List (Hire (WireState Conn) Delay Dice)) → Each (Hires Carried own) a hires b → AllByRecursion P hires
  each_of P one a b hires none_hired = tt
  each_of P one a b hires (one_hired xs mid to h before last) = all_end P xs h (each_of P one a mid xs before) (one mid b h last)

  module _ (Answers : Delay → ℕ → ℕ → Type 0) where
    -- ## All took their turns

    turns_same : (turns : ℕ) (a b : WorkState (WireState Conn) Delay Dice) → Leaves Carried a b → a.tally.taken ≡ turns → b.tally.taken ≡ turns
    turns_same turns a b left taken = ap (λ (t : _). t.taken) (leaves_tally Carried a b left) ∙ taken

    pub all_worked : (threads turns : ℕ) (poller done : PollState (WireState Conn) Dice) (before after : Office Conn Delay Dice) (worked gone : List (WorkState (WireState Conn) Delay Dice))
        (hired : Result (Unit {0}) LaunchFault) (faults : List LaunchFault) → Employs Carried Answers own poller done before after worked → AllZip (Leaves Carried) worked gone →
        faults ≡ option_to_list (option_map by_poll done.fault) ++ (work_faults gone ++ hindrance_of hired) →
        OnOk hired (0 < turns → AreWhole done worked → AllWorked threads turns done worked) → 0 < turns → faults ≡ [] → AllWorked threads turns done gone
    all_worked threads turns poller done before after worked gone hired faults e left are worked_all some empty =
        let polls = option_to_list (option_map by_poll done.fault) in
        let others = work_faults gone ++ hindrance_of hired in
        let nothing : polls ++ others ≡ [] = sym are ∙ empty in
        let no_others : others ≡ [] = none_right polls others nothing in
        let tells : AllByRecursion Tells worked = along (WentOn (WorkerTurn Carried Answers)) Tells Tells (went_on_tells Carried Answers) e.hired worked e.working.worked
        (all_tell before after e.hired e.hiring) in
        let unended = all_left_whole Carried worked gone left tells (none_left (work_faults gone) (hindrance_of hired) no_others) in
        let all : AllWorked threads turns done worked = no_hindrance _ hired (none_right (work_faults gone) (hindrance_of hired) no_others) worked_all some
        (no_option by_poll done.fault (none_left polls others nothing), unended) in
        record {
          some = some;
          all = same_length (Leaves Carried) worked gone left ∙ all.all;
          taken = (all.taken.0, along (Leaves Carried) (λ w. w.tally.taken ≡ turns) (λ w. w.tally.taken ≡ turns) (turns_same turns) worked gone left all.taken.1);
        }

    -- ## The teams

    -- Where none had a fault, the workers did what the runs of their teams returned.
    pub teams_returned : (poller done : PollState (WireState Conn) Dice) (before after : Office Conn Delay Dice) (worked gone : List (WorkState (WireState Conn) Delay Dice)) →
        Employs Carried Answers own poller done before after worked → AllZip (Leaves Carried) worked gone → work_faults gone ≡ [] →
        HaveReturned before.teams (map own_team gone ++ after.teams) (done_in (map (λ w. w.tally.counts) gone))
    teams_returned poller done before after worked gone e left no_fault =
        let hires = e.hiring.0 in
        let fresh = λ (h : Hire (WireState Conn) Delay Dice). h.fresh in
        let joined = λ (h : Hire (WireState Conn) Delay Dice). h.joined in
        let tells : AllByRecursion Tells worked = along (WentOn (WorkerTurn Carried Answers)) Tells Tells (went_on_tells Carried Answers) e.hired worked e.working.worked
        (all_tell before after e.hired e.hiring) in
        let unended = all_left_whole Carried worked gone left tells no_fault in
        let first : AllZip Ran (map fresh hires) (map joined hires) = zip_by Ran fresh joined hires (each_of (λ h. Ran h.fresh h.joined) hired_ran before after hires e.hiring.1) in
        let second : AllZip Ran (map joined hires) worked = subst (λ ws. AllZip Ran ws worked) e.hiring.2
        (zip_if (WentOn (WorkerTurn Carried Answers)) Ran (λ w. w.ended ≡ false) (went_on_ran Carried Answers) e.hired worked e.working.worked unended) in
        let third : AllZip Ran worked gone = zip_along (Leaves Carried) Ran (leaves_ran Carried) worked gone left in
        let all : AllZip Ran (map fresh hires) gone = all_on Ran ran_then (map fresh hires) worked gone (all_on Ran ran_then (map fresh hires) (map joined hires) worked first second) third in
        let none : AllByRecursion (λ w. w.tally.counts.done ≡ 0) (map fresh hires) = all_of fresh (λ w. w.tally.counts.done ≡ 0) hires
        (each_of (λ h. h.fresh.tally.counts.done ≡ 0) hired_none before after hires e.hiring.1) in
        subst (λ ts. HaveReturned ts (map own_team gone ++ after.teams) (done_in (map (λ w. w.tally.counts) gone)))
        (sym (teams_used before after hires e.hiring.1 ∙ ap (λ ts. ts ++ after.teams) (sym (mapped fresh own_team hires))))
        (with_others after.teams (map own_team (map fresh hires)) (map own_team gone) (done_in (map (λ w. w.tally.counts) gone)) (all_returned (map fresh hires) gone all none))

    -- ## The plain rules

    -- Who left had the plain rules that are used up.
    pub rules_back : (poller done : PollState (WireState Conn) Dice) (before after : Office Conn Delay Dice) (worked gone : List (WorkState (WireState Conn) Delay Dice)) →
        Employs Carried Answers own poller done before after worked → AllZip (Leaves Carried) worked gone → map (λ w. w.plain) gone ++ after.rules ≡ before.rules
    rules_back poller done before after worked gone e left =
        let plain = λ (w : WorkState (WireState Conn) Delay Dice). w.plain in
        let worked_same = same_map (Leaves Carried) plain plain (leaves_plain Carried) worked gone left in
        let hired_same = same_map (WentOn (WorkerTurn Carried Answers)) plain plain (went_on_plain Carried Answers) e.hired worked e.working.worked in
        let joined_same = all_alike (λ (h : Hire (WireState Conn) Delay Dice). h.fresh.plain) (λ (h : Hire (WireState Conn) Delay Dice). h.joined.plain) e.hiring.0
        (each_of (λ h. h.joined.plain ≡ h.fresh.plain) (λ a b h hires. ap (λ (w : WorkState _ _ _). w.plain) hires.starts.joins.becomes) before after e.hiring.0 e.hiring.1) in
        ap (λ rs. rs ++ after.rules) (worked_same ∙ hired_same ∙ ap (map plain) e.hiring.2 ∙ mapped (λ h. h.joined) plain e.hiring.0 ∙ joined_same)
        ∙ sym (rules_used before after e.hiring.0 e.hiring.1)

    -- Whatever is seen of a team by its classes and its rules.
    module _ {X : Type 0} (seen : Team Delay → X) (alike : (a b : Team Delay) → b.classes ≡ a.classes → b.rules ≡ a.rules → seen b ≡ seen a) where
      seen_alike : (a b : WorkState (WireState Conn) Delay Dice) → b.settings ≡ a.settings → b.rules ≡ a.rules → seen (own_team b) ≡ seen (own_team a)
      seen_alike a b settled ruled = alike (own_team a) (own_team b) (ap (λ (s : Settings). s.classes) settled) ruled

      -- Who left had the teams that are used up.
      pub teams_back : (poller done : PollState (WireState Conn) Dice) (before after : Office Conn Delay Dice) (worked gone : List (WorkState (WireState Conn) Delay Dice)) →
          Employs Carried Answers own poller done before after worked → AllZip (Leaves Carried) worked gone →
          map seen (map own_team gone ++ after.teams) ≡ map seen before.teams
      teams_back poller done before after worked gone e left =
          let own_seen = λ (w : WorkState (WireState Conn) Delay Dice). seen (own_team w) in
          let worked_same = same_map (Leaves Carried) own_seen own_seen (λ x y p. seen_alike x y (leaves_settled Carried x y p) (leaves_ruled Carried x y p)) worked gone left in
          let hired_same = same_map (WentOn (WorkerTurn Carried Answers)) own_seen own_seen
          (λ x y p. seen_alike x y (went_on_settles Carried Answers x y p) (went_on_rules Carried Answers x y p)) e.hired worked e.working.worked in
          let joined_same = all_alike (λ (h : Hire (WireState Conn) Delay Dice). seen (own_team h.fresh)) (λ (h : Hire (WireState Conn) Delay Dice). seen (own_team h.joined)) e.hiring.0
          (each_of (λ h. seen (own_team h.joined) ≡ seen (own_team h.fresh)) (λ a b h hires. ap (λ (w : WorkState _ _ _). seen (own_team w)) hires.starts.joins.becomes) before after e.hiring.0 e.hiring.1) in
          map_both seen (map own_team gone) after.teams
          ∙ ap (λ cs. cs ++ map seen after.teams) (mapped own_team seen gone ∙ worked_same ∙ hired_same ∙ ap (map own_seen) e.hiring.2 ∙ mapped (λ h. h.joined) own_seen e.hiring.0 ∙ joined_same
          ∙ sym (mapped (λ h. own_team h.fresh) seen e.hiring.0))
          ∙ sym (map_both seen (map (λ h. own_team h.fresh) e.hiring.0) after.teams) ∙ ap (map seen) (sym (teams_used before after e.hiring.0 e.hiring.1))
