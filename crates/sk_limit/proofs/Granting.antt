-- How the calls on a window go on.
use Rattle.std.proofs.Common.{◌≡◌, ◌<◌, ℕ, ℤ, Bool, List, [], ◌∷◌, ◌++◌, true, false, Err, refl, arith, if◌then◌else◌}
use Rattle.std.specs.Bool.{MatchBool}
use Rattle.sk_resp.specs.Spelling.{Bytes}
use Rattle.sk_resp.specs.declared.reply.Reply.{Reply}
use Rattle.sk_link.specs.Asking.{answers}
use Rattle.sk_link.specs.Call.{Call, answered}
use Rattle.sk_link.proofs.Walks.{walk-append}
use Rattle.sk_limit.specs.Asking.{Stops, number_in}
use Rattle.sk_limit.specs.Grant.{Window, Breaks, Grants, Leads, Step, after, asks, counted, is_endless, request_at, wanted_at, window_of}
use Rattle.sk_limit.specs.Limiter.{is_limiter}
use Rattle.sk_limit.specs.declared.limit_fault.LimitFault.{LimitFault}
use Rattle.sk_limit.specs.declared.limit_fault.LimitFault.TheVariants as fault
use Rattle.sk_limit.specs.declared.stage.Next.{Next}
use Rattle.sk_limit.specs.declared.stage.Next.TheVariants.{Ask, Over}
use Rattle.sk_limit.specs.declared.stage.Stage.{Stage}
use Rattle.sk_limit.specs.declared.stage.Stage.TheVariants.{Opening, Counting, Looking, Bounding}
use Rattle.sk_limit.proofs.Calls.{Joins, stops_behind}

pub begun : (P : List Call → Type 0) (window : Window) → P [] → Leads P window (Ask Opening)
begun P window none = record { calls = []; walk = refl; carried = none }

pub unsent : (P : List Call → Type 0) (window : Window) (stage : Stage) → Leads P window (Ask stage) → Breaks P window fault.Memory
unsent P window stage l = record { calls = l.calls; stage = stage; walk = l.walk; stops = l.carried }

match_both : (A B : Type 0) (b : Bool) → A → B → MatchBool b A B
match_both A B true x y = x
match_both A B false x y = y

-- no memory for the window's key
pub unsent_grant : (P : List Call → Type 0) (name : Bytes) (most millis : ℕ) → P [] → Grants P name most millis (Err fault.Memory)
unsent_grant P name most millis none =
    let window : Window = window_of name millis in
    match_both _ _ (is_limiter name most millis) (unsent P window Opening (begun P window none)) none

module _ (P P' P'' : List Call → Type 0) (window : Window) (stage : Stage) (more : Joins P P' P'') (l : Leads P window (Ask stage)) where
  pub leads_on : (r : Reply) → P' (answered (request_at window stage) r ∷ []) → answers (wanted_at stage) r ≡ true → Leads P'' window (after stage r)
  leads_on r carried is =
      let call : Call = answered (request_at window stage) r in
      record {
        calls = l.calls ++ call ∷ [];
        walk = walk-append (Step window) (Ask Opening) (Ask stage) (after stage r) l.calls (call ∷ []) l.walk (after stage r, asks stage r is, refl);
        carried = more l.calls (call ∷ []) l.carried carried;
      }

  pub broken : (f : LimitFault) → Stops P' [] (request_at window stage) (wanted_at stage) f → Breaks P'' window f
  broken f stops = record {
    calls = l.calls;
    stage = stage;
    walk = l.walk;
    stops = stops_behind P P' P'' l.calls (request_at window stage) (wanted_at stage) f more l.carried stops;
  }

-- ## How many requests are left

abbrev pub left : Next → ℕ
left (Ask Opening) = 4
left (Ask (Counting fresh)) = 3
left (Ask (Looking count)) = 2
left (Ask (Bounding count)) = 1
left (Over count) = 0

counted_left : (fresh : Bool) (count : ℤ) → left (counted fresh count) < 3
counted_left true count = omega arith
counted_left false count = omega arith

looked_left : (endless : Bool) (count : ℤ) → left (if endless then Ask (Bounding count) else Over count) < 2
looked_left true count = omega arith
looked_left false count = omega arith

pub fewer_left : (stage : Stage) (r : Reply) → left (after stage r) < left (Ask stage)
fewer_left Opening r = omega arith
fewer_left (Counting fresh) r = counted_left fresh (number_in r)
fewer_left (Looking count) r = looked_left (is_endless (number_in r)) count
fewer_left (Bounding count) r = omega arith
