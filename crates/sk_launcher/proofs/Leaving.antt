-- How workers leave, one after another.
use Rattle.std.proofs.Common.{◌≡◌, ◌∙◌, sym, ap, List, [], ◌∷◌, ◌++◌, append_assoc, append-nil, map, option_map}
use Rattle.std.specs.Prelude.{option_to_list}
use Rattle.std.specs.List.{AllZip}
use Rattle.sk_link.specs.Wire.{WireState}
use Rattle.sk_launcher.specs.Connections.{DoorTells, Each, one_more, Keeping}
use Rattle.sk_launcher.specs.Faults.{by_work}
use Rattle.sk_launcher.specs.Launching.{AllReturned, Returned, Returns, work_faults}
use Rattle.sk_launcher.specs.Working.{WorkState, own_team}
use Rattle.sk_launcher.proofs.Employed.{map_end}

grow : {A : Type 0} (before xs xs' m m' l : List A) → xs ≡ before ++ m → xs' ≡ xs ++ l → m' ≡ m ++ l → xs' ≡ before ++ m'
grow before xs xs' m m' l a b c = b ∙ ap (λ z. z ++ l) a ∙ append_assoc before m l ∙ ap (λ z. before ++ z) (sym c)

zip_end : {A B : Type 0} (R : A → B → Type 0) (xs : List A) (ys : List B) (x : A) (y : B) → AllZip R xs ys → R x y → AllZip R (xs ++ x ∷ []) (ys ++ y ∷ [])
zip_end R [] [] x y all one = (one, tt)
zip_end R (a ∷ xs) (b ∷ ys) x y all one = (all.0, zip_end R xs ys x y all.1 one)
zip_end R [] (b ∷ ys) x y all one = absurd all
zip_end R (a ∷ xs) [] x y all one = absurd all

work_faults_end : {Link Delay Dice : Type 0} (gone : List (WorkState Link Delay Dice)) (one : WorkState Link Delay Dice)
    → work_faults (gone ++ one ∷ []) ≡ work_faults gone ++ option_to_list (option_map by_work one.fault)
work_faults_end [] one = append-nil (option_to_list (option_map by_work one.fault))
work_faults_end (w ∷ gone) one =
    ap (λ z. option_to_list (option_map by_work w.fault) ++ z) (work_faults_end gone one)
    ∙ sym (append_assoc (option_to_list (option_map by_work w.fault)) (work_faults gone) (option_to_list (option_map by_work one.fault)))

returned_more : {Link Delay Dice : Type 0} (gone : List (WorkState Link Delay Dice)) (one : WorkState Link Delay Dice) (first before after : Returns Delay) → AllReturned gone first before →
    Returned one before after → AllReturned (gone ++ one ∷ []) first after
returned_more gone one first before after p q = record {
  rules = grow first.rules before.rules after.rules (map (λ w. w.plain) gone) _ (one.plain ∷ []) p.rules q.rules (map_end (λ (w : WorkState _ _ _). w.plain) gone one);
  teams = grow first.teams before.teams after.teams (map own_team gone) _ (own_team one ∷ []) p.teams q.teams (map_end own_team gone one);
  tallies = grow first.tallies before.tallies after.tallies (map (λ w. w.tally) gone) _ (one.tally ∷ []) p.tallies q.tallies (map_end (λ (w : WorkState _ _ _). w.tally) gone one);
  faults = grow first.faults before.faults after.faults (work_faults gone) _ (option_to_list (option_map by_work one.fault)) p.faults q.faults (work_faults_end gone one);
}

pub nobody_returned : {Link Delay Dice : Type 0} (r : Returns Delay) → AllReturned {Link = Link} {Dice = Dice} [] r r
nobody_returned r = record { teams = sym (append-nil r.teams); rules = sym (append-nil r.rules); tallies = sym (append-nil r.tallies); faults = sym (append-nil r.faults) }

-- one more left
pub gone_more : {Conn Delay Dice Row : Type 0} (Leaving : Row → WorkState (WireState Conn) Delay Dice → Type 0) (from mid to : DoorTells Conn) (rows : List Row) (row : Row)
    (first before after : Returns Delay)
    → ((gone : List (WorkState (WireState Conn) Delay Dice)) × AllZip Leaving rows gone × Each (λ a gone b. Keeping a gone.link.conn b) from gone mid
    × AllReturned gone first before)
    → ((one : WorkState (WireState Conn) Delay Dice) × Leaving row one × Keeping mid one.link.conn to × Returned one before after)
    → (gone : List (WorkState (WireState Conn) Delay Dice)) × AllZip Leaving (rows ++ row ∷ []) gone
    × Each (λ a gone b. Keeping a gone.link.conn b) from gone to × AllReturned gone first after
gone_more Leaving from mid to rows row first before after (gone, zipped, chain, returned) (one, left, kept, more) = (
  gone ++ one ∷ [],
  zip_end Leaving rows gone row one zipped left,
  one_more gone mid to one chain kept,
  returned_more gone one first before after returned more,
)
