-- What edits of the map of the seats' phases are in the abstract store.
use Rattle.std.proofs.Common.{◌≡◌, ℕ, ◌<◌, length, List, [], ◌∷◌, refl, sym, ap, subst, ◌∙◌, arith, Bool, false, not}
use Rattle.std.specs.Prelude.{Option, Some, None, filter}
use Rattle.std.specs.List.{AllByRecursion, list_any}
use Rattle.std.specs.Map.{keys_of, lookup, remove_entry, set_value, values_of}
use Rattle.std.specs.BTreeMap.{is_at, insert_entry}
use Rattle.std.specs.Ordering.{nat_cmp}
use Rattle.std.specs.declared.cmp.Ordering.{Ordering}
use Rattle.std.specs.declared.cmp.Ordering.TheVariants.{Less, Equal, Greater}
use Rattle.std.proofs.lemmas.Map.Keys.{sorted_head, sorted_tail}
use Rattle.std.proofs.lemmas.Map.Lookups.{exact_unsigned}
use Rattle.sk_resp.specs.Spelling.{Bytes}
use Rattle.sk_seats.specs.declared.phase.Phase.{Phase}
use Rattle.sk_payload.specs.Head.{names}
use Rattle.sk_seats.specs.declared.phase.Phase.TheVariants.{Plain, Joined}
use Rattle.sk_seats.specs.declared.work.Stage.{Stage}
use Rattle.sk_seats.specs.declared.work.Work.{Work}
use Rattle.sk_seats.specs.Phases.{Phases, has, is_plain, or_plain, phase_in, some_has, staging, turned, with_works, works_of}
use Rattle.sk_seats.specs.Order.{InOrder}
use Rattle.sk_seats.specs.Works.{staged}

-- all stand behind the seat
abbrev pub AreBehind : ℕ → Phases → Type 0
AreBehind seat phases = AllByRecursion (λ other. nat_cmp seat other ≡ Less) (keys_of phases)

none_goes : (seat : ℕ) (phases : Phases) → AreBehind seat phases → filter (λ p. not (is_at (nat_cmp seat) p.0)) phases ≡ phases
none_goes seat [] behind = refl
none_goes seat (p ∷ phases) behind = grind (arith, behind, none_goes seat phases)

pub none_found : (seat : ℕ) (phases : Phases) → AreBehind seat phases → lookup (is_at (nat_cmp seat)) phases ≡ None
none_found seat [] behind = refl
none_found seat (p ∷ phases) behind = grind (arith, behind, none_found seat phases)

pub further : (seat other : ℕ) (phases : Phases) → nat_cmp seat other ≡ Less → AreBehind other phases → AreBehind seat phases
further seat other [] before behind = tt
further seat other (p ∷ phases) before behind = (grind (arith, behind, before), further seat other phases before behind.1)

-- the seat's entry goes
pub dropped : (seat : ℕ) (phases : Phases) → InOrder phases → remove_entry (is_at (nat_cmp seat)) phases ≡ turned seat Plain phases
dropped seat [] ordered = refl
dropped seat (p ∷ phases) ordered =
    let behind : AreBehind p.0 phases = sorted_head nat_cmp p.0 (keys_of phases) ordered in
    let more : remove_entry (is_at (nat_cmp seat)) phases ≡ turned seat Plain phases = dropped seat phases (sorted_tail nat_cmp p.0 (keys_of phases) ordered) in
    by_order (nat_cmp seat p.0) refl behind more where
      by_order : (r : Ordering) → nat_cmp seat p.0 ≡ r → AreBehind p.0 phases → remove_entry (is_at (nat_cmp seat)) phases ≡ turned seat Plain phases → remove_entry (is_at (nat_cmp seat)) (p ∷ phases) ≡ turned seat Plain (p ∷ phases)
      by_order Less r behind more = rw r (ap (λ ps. p ∷ ps) more)
      by_order Equal r behind more = rw r (sym (none_goes seat phases (subst (λ s. AreBehind s phases) (sym (exact_unsigned seat p.0 r)) behind)))
      by_order Greater r behind more = rw r (ap (λ ps. p ∷ ps) more)

-- the seat's entry gets another phase
pub written : (seat : ℕ) (phases : Phases) (old next : Phase) → InOrder phases → lookup (is_at (nat_cmp seat)) phases ≡ Some old → set_value (is_at (nat_cmp seat)) phases next ≡ insert_entry nat_cmp phases seat next
written seat [] old next ordered found = absurd (cc found)
written seat (p ∷ phases) old next ordered found =
    by_order (nat_cmp seat p.0) refl (sorted_head nat_cmp p.0 (keys_of phases) ordered) (written seat phases old next (sorted_tail nat_cmp p.0 (keys_of phases) ordered)) found where
      by_order : (r : Ordering) → nat_cmp seat p.0 ≡ r → AreBehind p.0 phases → (lookup (is_at (nat_cmp seat)) phases ≡ Some old → set_value (is_at (nat_cmp seat)) phases next ≡ insert_entry nat_cmp phases seat next)
          → lookup (is_at (nat_cmp seat)) (p ∷ phases) ≡ Some old → set_value (is_at (nat_cmp seat)) (p ∷ phases) next ≡ insert_entry nat_cmp (p ∷ phases) seat next
      by_order Less r behind more found = absurd (grind (arith, r, found, none_found seat phases (further seat p.0 phases r behind)))
      by_order Equal r behind more found = rw r refl
      by_order Greater r behind more found = rw r (ap (λ ps. p ∷ ps) (more (rw r at found)))

-- ## Payloads

-- a seat that has the job is one of those in the map
pub among_values : (jid : Bytes) (phases : Phases) → list_any (has jid) (values_of phases) ≡ some_has jid phases
among_values jid [] = refl
among_values jid (p ∷ phases) = grind (arith, among_values jid phases)

-- ## Other works in a seat's hands

inserted : (seat : ℕ) (phase : Phase) (phases : Phases) → is_plain phase ≡ false → turned seat phase phases ≡ insert_entry nat_cmp phases seat phase
inserted seat phase phases e = grind (arith, e)

found : (phases : Phases) (seat : ℕ) → is_plain (phase_in phases seat) ≡ false → lookup (is_at (nat_cmp seat)) phases ≡ Some (phase_in phases seat)
found phases seat kept = by_found (lookup (is_at (nat_cmp seat)) phases) kept where
  by_found : (o : Option Phase) → is_plain (or_plain o) ≡ false → o ≡ Some (or_plain o)
  by_found None kept = absurd (cc kept)
  by_found (Some phase) kept = refl

stays_joined : (works : List Work) (phase : Phase) → is_plain (with_works works phase) ≡ is_plain phase
stays_joined works Plain = refl
stays_joined works (Joined ident before) = refl

-- a Plain seat has no works
pub has_works : (phase : Phase) (at : ℕ) → at < length (works_of phase) → is_plain phase ≡ false
has_works Plain at within = absurd (omega (arith, within))
has_works (Joined ident works) at within = refl

-- the seat's entry with other works
pub worked : (seat : ℕ) (phases : Phases) (works : List Work) → InOrder phases → is_plain (phase_in phases seat) ≡ false
    → set_value (is_at (nat_cmp seat)) phases (with_works works (phase_in phases seat)) ≡ turned seat (with_works works (phase_in phases seat)) phases
worked seat phases works ordered kept =
    let next : Phase = with_works works (phase_in phases seat) in
    written seat phases (phase_in phases seat) next ordered (found phases seat kept) ∙ sym (inserted seat next phases (stays_joined works (phase_in phases seat) ∙ kept))

-- ## The same hands

any_set : (jid : Bytes) (seat : ℕ) (phases : Phases) (old next : Phase) → lookup (is_at (nat_cmp seat)) phases ≡ Some old → has jid next ≡ has jid old → some_has jid (set_value (is_at (nat_cmp seat)) phases next) ≡ some_has jid phases
any_set jid seat [] old next found same = absurd (cc found)
any_set jid seat (p ∷ phases) old next found same = grind (arith, found, same, any_set jid seat phases old next)

-- a seat that isn't Plain turns to another phase, with the same payload in its hands
pub hands_stay : (jid : Bytes) (seat : ℕ) (phases : Phases) (old next : Phase) → InOrder phases → lookup (is_at (nat_cmp seat)) phases ≡ Some old → has jid next ≡ has jid old → some_has jid (insert_entry nat_cmp phases seat next) ≡ some_has jid phases
hands_stay jid seat phases old next ordered found same = ap (some_has jid) (sym (written seat phases old next ordered found)) ∙ any_set jid seat phases old next found same

staged_jobs : (jid : Bytes) (test : Work → Bool) (stage : Stage) (works : List Work) → list_any (λ work. names work.payload jid) (staged test stage works) ≡ list_any (λ work. names work.payload jid) works
staged_jobs jid test stage [] = refl
staged_jobs jid test stage (work ∷ works) = grind (arith, staged_jobs jid test stage works)

same_jobs : (jid : Bytes) (test : Work → Bool) (stage : Stage) (phase : Phase) → has jid (staging test stage phase) ≡ has jid phase
same_jobs jid test stage Plain = refl
same_jobs jid test stage (Joined ident works) = staged_jobs jid test stage works

-- a work of a seat comes to another stage
pub stage_stays : (jid : Bytes) (seat : ℕ) (phases : Phases) (test : Work → Bool) (stage : Stage) → InOrder phases → is_plain (phase_in phases seat) ≡ false
    → some_has jid (turned seat (staging test stage (phase_in phases seat)) phases) ≡ some_has jid phases
stage_stays jid seat phases test stage ordered kept =
    let old : Phase = phase_in phases seat in
    ap (some_has jid) (inserted seat (staging test stage old) phases (stays_joined (staged test stage (works_of old)) old ∙ kept))
    ∙ hands_stay jid seat phases old (staging test stage old) ordered (found phases seat kept) (same_jobs jid test stage old)
