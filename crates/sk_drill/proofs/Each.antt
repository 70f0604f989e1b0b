-- What holds of each in a list: of calls and asks, of what stories tell, and of what a journal has noted.
use Rattle.std.proofs.Common.{◌++◌, ◌∷◌, ◌==◌, ℕ, Bool, true, false, List, [], if◌then◌else◌, IsSome, flat_map, map}
use Rattle.std.specs.List.{AllByRecursion}
use Rattle.sk_link.specs.Walk.{Walk}
use Rattle.sk_compare.specs.Alike.{AllAnswered, HasReply, noted, told, told_by, with_deed}
use Rattle.sk_compare.specs.Exchange.{Exchange, exchange_of}
use Rattle.sk_desk.specs.declared.entry.Deed.{Deed}
use Rattle.sk_desk.specs.declared.entry.Deed.TheVariants as deed
use Rattle.sk_desk.specs.declared.entry.Entry.{Entry}
use Rattle.sk_lane.specs.declared.story.Story.{Story}

-- ## Lists

pub all_append : {X : Type 0} (P : X → Type 0) (xs ys : List X) → AllByRecursion P xs → AllByRecursion P ys → AllByRecursion P (xs ++ ys)
all_append P [] ys p q = q
all_append P (x ∷ xs) ys p q = (p.0, all_append P xs ys p.1 q)

pub all_in : {X : Type 0} (P : X → Type 0) (xss : List (List X)) → AllByRecursion (AllByRecursion P) xss → AllByRecursion P (flat_map (λ xs. xs) xss)
all_in P [] p = tt
all_in P (xs ∷ xss) p = all_append P xs (flat_map (λ ys. ys) xss) p.0 (all_in P xss p.1)

pub all_weaker : {X : Type 0} (P Q : X → Type 0) → ((x : X) → P x → Q x) → (xs : List X) → AllByRecursion P xs → AllByRecursion Q xs
all_weaker P Q weaker [] p = tt
all_weaker P Q weaker (x ∷ xs) p = (weaker x p.0, all_weaker P Q weaker xs p.1)

-- each event of a walk
pub walk_all : {S E : Type 0} (Step : S → E → S → Type 0) (Of : E → Type 0) → ((a b : S) (e : E) → Step a e b → Of e) →
    (from to : S) (events : List E) → Walk Step from events to → AllByRecursion Of events
walk_all Step Of each from to [] p = tt
walk_all Step Of each from to (e ∷ es) p = (each from p.0 e p.1, walk_all Step Of each p.0 to es p.2)

-- ## Stories and journals

pub own_told : (P : Exchange → Type 0) (own : Bool) (xs : List Exchange) → AllByRecursion P xs → AllByRecursion P (if own then xs else [])
own_told P true xs h = h
own_told P false xs h = tt

pub all_told : (P : Exchange → Type 0) (stories : List Story) (s : ℕ) → AllByRecursion (λ story. AllByRecursion P (map exchange_of story.asks.items)) stories → AllByRecursion P (told stories s)
all_told P [] s h = tt
all_told P (story ∷ stories) s h =
    all_append P (told_by s story) (told stories s) (own_told P (story.seat == s) (map exchange_of story.asks.items) h.0) (all_told P stories s h.1)

-- each that is noted of a seat has its reply, where all asks have theirs
pub noted_answered : (entries : List Entry) (s : ℕ) → AllAnswered entries → AllByRecursion (λ x. IsSome x.reply) (noted entries s)
noted_answered [] s all = tt
noted_answered (e ∷ entries) s all = by_test (e.seat == s) e.deed (noted entries s) all.0 (noted_answered entries s all.1) where
  by_test : (own : Bool) (d : Deed) (xs : List Exchange) → HasReply d → AllByRecursion (λ x. IsSome x.reply) xs → AllByRecursion (λ x. IsSome x.reply) (if own then with_deed d xs else xs)
  by_test true (deed.Ask ask) xs has rest = (has, rest)
  by_test true deed.Cut xs has rest = rest
  by_test false d xs has rest = rest
