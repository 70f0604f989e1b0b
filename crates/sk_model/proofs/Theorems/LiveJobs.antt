-- The laws, by induction over runs.
use Rattle.std.proofs.Common.{◌≡◌, ℕ, ◌+◌, List, [], ◌∷◌, refl, arith}
use Rattle.sk_resp.specs.Spelling.{Bytes}
use Rattle.sk_model.specs.declared.limits.Limits.{Limits}
use Rattle.sk_model.specs.World.{World, first}
use Rattle.sk_model.specs.Event.{Step, Run, after}
use Rattle.sk_model.specs.Life.{Life, Unborn, Kept, IsSound, Knows, life_through}
use Rattle.sk_model.specs.Laws.{copies, pushed, taken, ConserveFrom, Conserve, CopiesKeptFrom, CopiesKept, BalanceFrom, Balance}
use Rattle.sk_model.proofs.Commands.All.{lawful}

conserve_from : (w : World) (lives : Bytes → Life) (steps : List Step) → Kept w lives → Run w steps → ConserveFrom w lives steps
conserve_from w lives [] kept run = tt
conserve_from w lives (step ∷ steps) kept run =
    let lives' : Bytes → Life = λ jid. life_through w jid (lives jid) step.outcome.changes in
    let now : Kept (after w step) lives' = λ jid. (lawful w step.event step.outcome run.0).keeps.lives jid (lives jid) (kept jid) in
    (now, conserve_from (after w step) lives' steps now run.1)

pub conserve : Conserve
conserve limits steps run = conserve_from (first limits) (λ jid. Unborn) steps (λ jid live. cc live) run

copies_from : (w : World) (before gone : Bytes → ℕ) (steps : List Step) → ((text : Bytes) → copies text w + gone text ≡ before text) → Run w steps → CopiesKeptFrom w before gone steps
copies_from w before gone [] so_far run = tt
copies_from w before gone (step ∷ steps) so_far run =
    let all : Bytes → ℕ = λ text. pushed text step.outcome.changes + before text in
    let lost : Bytes → ℕ = λ text. taken text w step.outcome.changes + gone text in
    let now : (text : Bytes) → copies text (after w step) + lost text ≡ all text = λ text. omega (arith, (lawful w step.event step.outcome run.0).keeps.counts text, so_far text) in
    (now, copies_from (after w step) all lost steps now run.1)

pub copies_kept : CopiesKept
copies_kept limits steps run = copies_from (first limits) (λ text. 0) (λ text. 0) steps (λ text. refl) run

-- ## What the world knows of lives is sound

-- the first world is sound
pub sound_first : (limits : Limits) → IsSound (first limits)
sound_first limits = record { kept = λ jid live. absurd (cc live); distinct = refl; balanced = refl }

balance_from : (w : World) (lives : Bytes → Life) (steps : List Step) → IsSound w → ((jid : Bytes) → Knows w jid (lives jid)) → Run w steps → BalanceFrom w lives steps
balance_from w lives [] sound knows run = tt
balance_from w lives (step ∷ steps) sound knows run =
    let lives' : Bytes → Life = λ jid. life_through w jid (lives jid) step.outcome.changes in
    let g = (lawful w step.event step.outcome run.0).keeps in
    let now : IsSound (after w step) = g.sound sound in
    let known : (jid : Bytes) → Knows (after w step) jid (lives' jid) = λ jid. g.knows jid (lives jid) sound (knows jid) in
    (record { balanced = now.balanced; once = now.distinct; known = known }, balance_from (after w step) lives' steps now known run.1)

pub balance : Balance
balance limits steps run = balance_from (first limits) (λ jid. Unborn) steps (sound_first limits) (λ jid. (λ live. cc live, λ live. cc live)) run
