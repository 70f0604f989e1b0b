-- Walks through a table: stages, and the steps that lead from one to the next. What a worker or a poller does over a link is told so.
use Rattle.std.specs.Prelude.{◌≡◌, ◌∷◌, [], List}

-- The events lead from the one stage to the other.
abbrev pub Walk : {S E : Type 0} → (S → E → S → Type 0) → S → List E → S → Type 0
Walk Step from [] to = to ≡ from
Walk Step from (event ∷ events) to = (next : _) × Step from event next × Walk Step next events to
