-- What holds of whatever is written holds of what is taken.
use Rattle.std.proofs.Common.{◌≡◌, ◌∙◌, ℕ, List, Option, Some, None, IfSome, subst, sym}
use Rattle.sk_log.specs.File.{Body}
use Rattle.sk_model.specs.World.{World}
use Rattle.sk_desk.specs.Writing.{IsKeptUp, IsWritten, Writing, WroteSome, WroteUpTo}
use Rattle.sk_commit.specs.Shared.{HasBehind}
use Rattle.sk_disk.specs.Images.{Images}
use Rattle.sk_durable.specs.Serving.{HasAll}
use Rattle.sk_durable.specs.Writes.{KeepsLog, SpellsBody, TellsOf}

pub holds_taken : (start : World) (Holds : List Body → Type 0) → TellsOf start Holds → (taken : Option (List Body))
    → IfSome taken (λ t. WroteSome SpellsBody start (λ bodies. t ≡ bodies)) → IfSome taken Holds
holds_taken start Holds law None wrote = tt
holds_taken start Holds law (Some t) wrote = subst Holds (sym wrote.holds) ((law wrote.bodies).0 (wrote.world, wrote.written))

-- and what is stored is what a log keeps
pub keeps_log : (start : World) (Holds : List Body → Type 0) → TellsOf start Holds → (stored : Option (List Body)) → IfSome stored Holds → (found : List Body) → stored ≡ Some found → KeepsLog start stored
keeps_log start Holds law None holds found is = absurd (cc is)
keeps_log start Holds law (Some durable) holds found is = (law durable).1 holds

-- What was taken of all that was written on the way to this world, and stored, is all of it.
pub has_all : {D : Type 0} (may_leave : D → Images) (starts : List Body → Type 0) (start w : World) (disk : D) (writing : Option Writing) (taken stored : List Body) (gate : ℕ)
    → IfSome writing (IsKeptUp SpellsBody start w) → WroteUpTo (λ bodies. taken ≡ bodies) writing → stored ≡ taken → HasBehind starts stored gate (may_leave disk)
    → HasAll may_leave starts start w disk
has_all may_leave starts start w disk None taken stored gate kept wrote is behind = absurd wrote
has_all may_leave starts start w disk (Some writing) taken stored gate kept wrote is behind = record {
  bodies = stored;
  written = subst (IsWritten SpellsBody start w) (sym (is ∙ wrote)) kept.is;
  gate = gate;
  behind = behind;
}
