-- How workers are hired.
use Rattle.std.proofs.Common.{◌≡◌, ◌∙◌, sym, ap, subst, ℕ, Bool, true, false, List, [], ◌∷◌, ◌++◌, map, length, None, refl, arith}
use Rattle.std.proofs.lemmas.Bool.{true≢false}
use Rattle.std.specs.List.{All, AllByRecursion}
use Rattle.sk_resp.specs.Spelling.{Bytes}
use Rattle.sk_link.specs.Call.{Call}
use Rattle.sk_link.specs.Wire.{WireState}
use Rattle.sk_policy.specs.Order.{Order}
use Rattle.sk_worker.specs.Stage.{Settings}
use Rattle.sk_launcher.specs.Connections.{one_more, Gives}
use Rattle.sk_launcher.specs.Counting.{no_turns}
use Rattle.sk_launcher.specs.Launching.{HasJoined, Hire, HiresAll, HiresOne, IsStarted, Office}
use Rattle.sk_launcher.specs.Teams.{Team}
use Rattle.sk_launcher.specs.Working.{WorkState, own_team, worker_settings}
use Rattle.sk_launcher.proofs.Employed.{all_listed, map_end}

module _ {Conn Delay Dice : Type 0} (Carried : WireState Conn → WireState Conn → List Call → Type 0) where
  pub started_by : (conn : Conn) (own : List Bytes → Settings) (team : Team Delay) (plain : Delay) (dice : Dice) (a b : WorkState (WireState Conn) Delay Dice) →
      a.link ≡ record { conn = conn; pending = []; ended = false } → a.settings ≡ own a.settings.classes → own_team a ≡ team → a.plain ≡ plain → a.dice ≡ dice →
      a.held ≡ [] → a.ended ≡ false → a.fault ≡ None → a.tally ≡ record { taken = 0; counts = no_turns } → HasJoined Carried a b →
      (h : Hire (WireState Conn) Delay Dice) × IsStarted Carried conn own h × (own_team h.fresh ≡ team) × (h.fresh.plain ≡ plain) × (h.fresh.dice ≡ dice) × (b ≡ h.joined)
  started_by conn own team plain dice a b link settled teamed ruled diced held whole fault tally joins = (
    record { fresh = a; joined = b },
    record { link = link; settings_are = settled; held = held; whole = whole; fault = fault; tally = tally; joins = joins },
    teamed,
    ruled,
    diced,
    refl,
  )

  pub hires_by : (ident' : Bytes) (order' : Order) (prefetch : ℕ) (a b : Office Conn Delay Dice) (conn : Conn) (ident : Bytes) (order : Order) (team : Team Delay)
      (plain : Delay) (dice : Dice) (w : WorkState (WireState Conn) Delay Dice) → Gives a.door conn b.door → a.teams ≡ team ∷ b.teams → a.rules ≡ plain ∷ b.rules →
      a.dice ≡ dice ∷ b.dice → ident ≡ ident' → order ≡ order' →
      ((h : Hire (WireState Conn) Delay Dice) × IsStarted Carried conn (worker_settings ident order prefetch) h × (own_team h.fresh ≡ team) × (h.fresh.plain ≡ plain)
      × (h.fresh.dice ≡ dice) × (w ≡ h.joined)) →
      HiresOne Carried (worker_settings ident' order' prefetch) a w b
  hires_by ident' order' prefetch a b conn ident order team plain dice w gives teams rules dices ident_is order_is (h, started, teamed, ruled, diced, is) = (
    h,
    record {
      conn = conn;
      gives = gives;
      next_team = teams ∙ ap (λ t. t ∷ b.teams) (sym teamed);
      next_rule = rules ∙ ap (λ r. r ∷ b.rules) (sym ruled);
      next_dice = dices ∙ ap (λ d. d ∷ b.dice) (sym diced);
      starts = subst (λ z. IsStarted Carried conn (worker_settings z order' prefetch) h) ident_is
          (subst (λ z. IsStarted Carried conn (worker_settings ident z prefetch) h) order_is started);
    },
    is,
  )

  -- one more was hired
  pub hired_more : (own : List Bytes → Settings) (from mid to : Office Conn Delay Dice) (workers workers' : List (WorkState (WireState Conn) Delay Dice)) (w : WorkState (WireState Conn) Delay Dice) →
      HiresAll Carried own from workers mid → HiresOne Carried own mid w to → workers' ≡ workers ++ w ∷ [] → HiresAll Carried own from workers' to
  hired_more own from mid to workers workers' w (hires, chain, are) (h, one, is) grown = (
    hires ++ h ∷ [],
    one_more hires mid to h chain one,
    grown ∙ ap (λ xs. xs ++ w ∷ []) are ∙ ap (λ z. map (λ (g : Hire _ _ _). g.joined) hires ++ z ∷ []) is ∙ sym (map_end (λ (g : Hire _ _ _). g.joined) hires h),
  )

-- a map over one more
pub mapped_end : {A B : Type 0} (f : A → B) (xs : List A) (x : A) (ys : List A) → ys ≡ xs ++ x ∷ [] → map f ys ≡ map f xs ++ f x ∷ []
mapped_end f xs x ys is = ap (map f) is ∙ map_end f xs x

pub empty_staff : {A B : Type 0} (f : A → B) (xs : List A) → length xs ≡ 0 → map f xs ≡ []
empty_staff f [] e = refl
empty_staff f (x ∷ xs) e = absurd (omega (arith, e))

-- Not all of them are whole where the last isn't.
pub last_broken : {A : Type 0} (ended : A → Bool) (xs : List A) (x : A) (ys : List A) → ys ≡ xs ++ x ∷ [] → ended x ≡ true → All (λ y. ended y ≡ false) ys → ⊥
last_broken ended xs x ys is broken all =
    true≢false (sym broken ∙ last xs (all_listed (λ y. y ≡ false) ended (xs ++ x ∷ []) (subst (λ zs. All (λ y. ended y ≡ false) zs) is all)))
  where
    last : (zs : List _) → AllByRecursion (λ y. y ≡ false) (map ended (zs ++ x ∷ [])) → ended x ≡ false
    last [] p = p.0
    last (z ∷ zs) p = last zs p.1
