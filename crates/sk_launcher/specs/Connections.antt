-- The connections of a launcher: the door gives them, and in the end they are left to it.
use denote.Param.Members.{Mut}
use Rattle.std.specs.Prelude.{◌≡◌, ◌++◌, ℕ, List, [], ◌∷◌, map, Option}
use Rattle.sk_edge.specs.Collected.{Collected, Keeps, MakesRoom}
use Rattle.sk_edge.specs.Doors.{GivesFirst}
use Rattle.sk_resp.specs.Spelling.{Bytes}
use Rattle.sk_policy.specs.declared.delay.DelayRule.{DelayRule}
use Rattle.sk_worker.specs.declared.registry.Registry.{Registry}

-- Each of these in turn led from one state to the next.
pub data Each {S A : Type 0} (Step : S → A → S → Type 0) (from : S) : List A → S → Type 0 where
  none : Each Step from [] from
  one_more : (xs : List A) (mid to : S) (x : A) → Each Step from xs mid → Step mid x to → Each Step from (xs ++ x ∷ []) to

-- what a door tells of the connections that it will make, and of those that were left to it
pub record DoorTells (Conn : Type 0) : Type 0 where
  pub dialled : Option (List Conn)
  pub kept : Option (Collected Conn)

abbrev pub door_tells : {Conn : Type 0} → Option (List Conn) → Option (Collected Conn) → DoorTells Conn
door_tells dialled kept = record { dialled = dialled; kept = kept }

-- the classes of each team, whatever its boxed jobs and delay rules are made of
abbrev pub classes_of : {Job Rule : Type 0} {OfJob : Job → Type 0} {OfRule : Rule → Type 0} {Delays : Mut ((rule : Rule) × OfRule rule) (ℕ × Unit {0}) ℕ} →
    List (Registry Job Rule OfJob OfRule Delays) → List (List Bytes)
classes_of teams = map (λ team. team.classes) teams

-- the delay rules of each team's classes
abbrev pub rules_of : {Job Rule : Type 0} {OfJob : Job → Type 0} {OfRule : Rule → Type 0} {Delays : Mut ((rule : Rule) × OfRule rule) (ℕ × Unit {0}) ℕ} →
    List (Registry Job Rule OfJob OfRule Delays) → List (List (DelayRule Rule OfRule Delays))
rules_of teams = map (λ team. team.rules.items) teams

-- The door gave this connection, and made room to keep one.
abbrev pub Gives : {Conn : Type 0} → DoorTells Conn → Conn → DoorTells Conn → Type 0
Gives a conn b = GivesFirst a.dialled conn b.dialled × MakesRoom a.kept 1 b.kept

-- The connection was left to the door.
abbrev pub Keeping : {Conn : Type 0} → DoorTells Conn → Conn → DoorTells Conn → Type 0
Keeping a conn b = (b.dialled ≡ a.dialled) × Keeps a.kept (conn ∷ []) b.kept
