-- The laws on what is fired, by induction over runs.
use Rattle.std.proofs.Common.{◌≡◌, ℕ, List, [], ◌∷◌, refl, sym, ap, ◌∙◌, ◌⊎◌, arith, Bool, true, false, not, ◌&&◌, ◌||◌}
use Rattle.sk_resp.specs.Spelling.{Bytes}
use Rattle.sk_model.specs.declared.limits.Limits.{Limits}
use Rattle.sk_model.specs.World.{World, first}
use Rattle.sk_places.specs.LiveJobs.{one_if}
use Rattle.sk_model.specs.Event.{Step, Run, after}
use Rattle.sk_model.specs.Once.{is_whole, buries, SuccessOnceFrom, BatchOnce, AllSettled, SettledStaysFrom, SettledStays, CompleteOnceFrom, CompleteOnce, DeathOnceFrom, DeathOnce, CallsFollowFrom, CallbacksFollow}
use Rattle.sk_model.specs.Order.{FiringsInOrder, InOrderFrom}
use Rattle.sk_model.proofs.Changes.Marked.{Sane}
use Rattle.sk_model.proofs.Changes.Batches.{Done, IsWhole, was_completed}
use Rattle.sk_model.proofs.Changes.Lawful.{has_died}
use Rattle.sk_model.proofs.Commands.All.{lawful}

-- in the first world no batch was made
pub sane_first : (limits : Limits) → Sane (first limits).batches
sane_first limits = record { tree = tt; homes = tt }

whole_first : (limits : Limits) → IsWhole (first limits).batches
whole_first limits b h = absurd (cc h)

-- ## Success

success_from : (w : World) (steps : List Step) → Sane w.batches → Run w steps → SuccessOnceFrom w steps
success_from w [] sane run = tt
success_from w (step ∷ steps) sane run =
    let l = (lawful w step.event step.outcome run.0).leads in
    (l.success sane, success_from (after w step) steps (l.sane sane) run.1)

pub batch_once : BatchOnce
batch_once limits steps run = success_from (first limits) steps (sane_first limits) run

-- ## Settled stays

all_settled : (w : World) (b : Bytes) (steps : List Step) → Sane w.batches → Done w.batches b → Run w steps → AllSettled b w steps
all_settled w b [] sane done run = tt
all_settled w b (step ∷ steps) sane done run =
    let l = (lawful w step.event step.outcome run.0).leads in
    let now : Done (after w step).batches b = l.done sane b done in
    (now.1, all_settled (after w step) b steps (l.sane sane) now run.1)

stays_from : (w : World) (steps : List Step) → Sane w.batches → Run w steps → SettledStaysFrom w steps
stays_from w [] sane run = tt
stays_from w (step ∷ steps) sane run =
    let sane' = (lawful w step.event step.outcome run.0).leads.sane sane in
    let v : World = after w step in (
      λ b there settled. all_settled (after w step) b steps sane' (there, settled) run.1,
      stays_from (after w step) steps sane' run.1,
    )

pub settled_stays : SettledStays
settled_stays limits steps run = stays_from (first limits) steps (sane_first limits) run

-- ## Complete

same_count : (m : ℕ) (p q r : Bool) → m ≡ one_if (q && not p) → (r ≡ true → q ≡ true) → (q ≡ true → (p ≡ true) ⊎ (r ≡ true)) → m ≡ one_if (r && not p)
same_count m p q r e f g = grind (arith, e, f, g)

same_had : (p q r : Bool) → (p ≡ true → q ≡ true) → (r ≡ true → q ≡ true) → (q ≡ true → (p ≡ true) ⊎ (r ≡ true)) → p || r ≡ q
same_had p q r f g h = grind (arith, f, g, h)

complete_from : (w : World) (had : Bytes → Bool) (steps : List Step) → Sane w.batches → IsWhole w.batches → ((b : Bytes) → had b ≡ was_completed w.batches b) → Run w steps → CompleteOnceFrom w had steps
complete_from w had [] sane whole so_far run = tt
complete_from w had (step ∷ steps) sane whole so_far run =
    let l = (lawful w step.event step.outcome run.0).leads in
    let v : World = after w step in
    let had' : Bytes → Bool = λ b. had b || is_whole v.batches b in
    let whole' : IsWhole v.batches = l.whole sane whole in (
      λ b. same_count _ _ _ _ (l.complete sane b) (whole' b) (l.only sane b) ∙ ap (λ p. one_if (is_whole v.batches b && not p)) (sym (so_far b)),
      complete_from (after w step) had' steps (l.sane sane) whole' (λ b. ap (λ p. p || is_whole v.batches b) (so_far b) ∙ same_had _ _ _ (l.completed b) (whole' b) (l.only sane b)) run.1,
    )

pub complete_once : CompleteOnce
complete_once limits steps run = complete_from (first limits) (λ b. false) steps (sane_first limits) (whole_first limits) (λ b. refl) run

-- ## Death

death_from : (w : World) (had : Bytes → Bool) (steps : List Step) → Sane w.batches → ((b : Bytes) → had b ≡ has_died w.batches b) → Run w steps → DeathOnceFrom w had steps
death_from w had [] sane so_far run = tt
death_from w had (step ∷ steps) sane so_far run =
    let l = lawful w step.event step.outcome run.0 in
    let v : World = after w step in
    let had' : Bytes → Bool = λ b. had b || buries b w step.outcome.changes in (
      λ b. l.deaths.once sane b ∙ ap (λ p. one_if (buries b w step.outcome.changes && not p)) (sym (so_far b)),
      death_from (after w step) had' steps (l.leads.sane sane) (λ b. ap (λ p. p || buries b w step.outcome.changes) (so_far b) ∙ sym (l.deaths.died sane b)) run.1,
    )

pub death_once : DeathOnce
death_once limits steps run = death_from (first limits) (λ b. false) steps (sane_first limits) (λ b. refl) run

-- ## Callbacks

calls_from : (w : World) (steps : List Step) → Sane w.batches → Run w steps → CallsFollowFrom w steps
calls_from w [] sane run = tt
calls_from w (step ∷ steps) sane run =
    let l = lawful w step.event step.outcome run.0 in
    (l.calls sane, calls_from (after w step) steps (l.leads.sane sane) run.1)

pub callbacks_follow : CallbacksFollow
callbacks_follow limits steps run = calls_from (first limits) steps (sane_first limits) run

-- ## Order

order_from : (w : World) (steps : List Step) → Sane w.batches → Run w steps → InOrderFrom w steps
order_from w [] sane run = tt
order_from w (step ∷ steps) sane run =
    let l = lawful w step.event step.outcome run.0 in
    (l.order sane, order_from (after w step) steps (l.leads.sane sane) run.1)

pub firings_in_order : FiringsInOrder
firings_in_order limits steps run = order_from (first limits) steps (sane_first limits) run
