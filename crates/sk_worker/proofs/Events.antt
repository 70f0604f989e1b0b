-- What lists of events are to the objects that a turn meets.
use Rattle.std.proofs.Common.{◌≡◌, ◌∙◌, ℕ, Bool, List, [], ◌∷◌, ◌++◌, map, refl, sym, subst, ap, Option, append_assoc, append-nil}
use Rattle.std.specs.List.{AllByRecursion}
use Rattle.sk_base.specs.Yields.{YieldsAll}
use Rattle.sk_link.specs.Call.{Call}
use Rattle.sk_worker.specs.Event.{Event, Choice, asked, ordered, ran, chose, calls, runs, words, moments, choices}
use Rattle.sk_worker.specs.Run.{Run}
use Rattle.sk_worker.specs.Turn.{Parts}

-- ## Lists of calls alone

pub calls-asked : (cs : List Call) → calls (map asked cs) ≡ cs
calls-asked [] = refl
calls-asked (c ∷ cs) = ap (λ ds. c ∷ ds) (calls-asked cs)

pub runs-asked : (cs : List Call) → runs (map asked cs) ≡ []
runs-asked [] = refl
runs-asked (c ∷ cs) = runs-asked cs

pub choices-asked : (cs : List Call) → choices (map asked cs) ≡ []
choices-asked [] = refl
choices-asked (c ∷ cs) = choices-asked cs

pub moments-asked : (cs : List Call) → moments (map asked cs) ≡ []
moments-asked [] = refl
moments-asked (c ∷ cs) = moments-asked cs

pub words-asked : (cs : List Call) → words (map asked cs) ≡ []
words-asked [] = refl
words-asked (c ∷ cs) = words-asked cs

pub parts_calls : {P : List Call → Type 0} {R : List Run → Type 0} {K W : List ℕ → Type 0} {Q : List Choice → Type 0} (cs : List Call) →
    P cs → R [] → K [] → W [] → Q [] → Parts P R K W Q (map asked cs)
parts_calls {P} {R} {K} {W} {Q} cs p r k w q = record {
  link = subst P (sym (calls-asked cs)) p;
  jobs = subst R (sym (runs-asked cs)) r;
  clock = subst K (sym (moments-asked cs)) k;
  dice = subst W (sym (words-asked cs)) w;
  rules = subst Q (sym (choices-asked cs)) q;
}

pub parts_choice : {P : List Call → Type 0} {R : List Run → Type 0} {K W : List ℕ → Type 0} {Q : List Choice → Type 0} (choice : Choice) (cs : List Call) →
    P cs → R [] → K (choice.moment ∷ []) → W (choice.word ∷ []) → Q (choice ∷ []) → Parts P R K W Q (chose choice ∷ map asked cs)
parts_choice {P} {R} {K} {W} {Q} choice cs p r k w q = record {
  link = subst P (sym (calls-asked cs)) p;
  jobs = subst R (sym (runs-asked cs)) r;
  clock = subst (λ ms. K (choice.moment ∷ ms)) (sym (moments-asked cs)) k;
  dice = subst (λ ws. W (choice.word ∷ ws)) (sym (words-asked cs)) w;
  rules = subst (λ cs. Q (choice ∷ cs)) (sym (choices-asked cs)) q;
}

-- a call in front
pub parts_call : {P P' : List Call → Type 0} {R : List Run → Type 0} {K W : List ℕ → Type 0} {Q : List Choice → Type 0} (call : Call) (ds : List Event) →
    ((cs : List Call) → P' cs → P (call ∷ cs)) → Parts P' R K W Q ds → Parts P R K W Q (asked call ∷ ds)
parts_call call ds more d = record { link = more (calls ds) d.link; jobs = d.jobs; clock = d.clock; dice = d.dice; rules = d.rules }

-- a run in front of events with none
pub parts_run : {P : List Call → Type 0} {R R' : List Run → Type 0} {K W : List ℕ → Type 0} {Q Q' : List Choice → Type 0} (run : Run) (ds : List Event) →
    (runs ds ≡ [] → R (run ∷ runs ds)) → (R' (runs ds) → runs ds ≡ []) → (Q' (choices ds) → Q (choices ds)) → Parts P R' K W Q' ds → Parts P R K W Q (ran run ∷ ds)
parts_run run ds more none rules d = record { link = d.link; jobs = more (none d.jobs); clock = d.clock; dice = d.dice; rules = rules d.rules }

pub parts_ran : {P : List Call → Type 0} {R : List Run → Type 0} {K W : List ℕ → Type 0} {Q : List Choice → Type 0} (run : Run) (cs : List Call) →
    P cs → R (run ∷ []) → K [] → W [] → Q [] → Parts P R K W Q (ran run ∷ map asked cs)
parts_ran {P} {R} {K} {W} {Q} run cs p r k w q = record {
  link = subst P (sym (calls-asked cs)) p;
  jobs = subst (λ rs. R (run ∷ rs)) (sym (runs-asked cs)) r;
  clock = subst K (sym (moments-asked cs)) k;
  dice = subst W (sym (words-asked cs)) w;
  rules = subst Q (sym (choices-asked cs)) q;
}

pub parts_same : {P : List Call → Type 0} {R R' : List Run → Type 0} {K W : List ℕ → Type 0} {Q Q' : List Choice → Type 0} (ds : List Event) →
    (R' (runs ds) → R (runs ds)) → (Q' (choices ds) → Q (choices ds)) → Parts P R' K W Q' ds → Parts P R K W Q ds
parts_same ds jobs rules d = record { link = d.link; jobs = jobs d.jobs; clock = d.clock; dice = d.dice; rules = rules d.rules }

pub each_weaker : {X : Type 0} (P Q : X → Type 0) → ((x : X) → P x → Q x) → (xs : List X) → AllByRecursion P xs → AllByRecursion Q xs
each_weaker P Q f [] h = tt
each_weaker P Q f (x ∷ xs) h = (f x h.0, each_weaker P Q f xs h.1)

pub by_test : (P : Bool → Type 0) (b t : Bool) → b ≡ t → P t → P b
by_test P b t e p = subst P (sym e) p

-- ## One list after another

pub calls-append : (xs ys : List Event) → calls (xs ++ ys) ≡ calls xs ++ calls ys
calls-append [] ys = refl
calls-append (ordered drawn ∷ xs) ys = calls-append xs ys
calls-append (asked call ∷ xs) ys = ap (λ cs. call ∷ cs) (calls-append xs ys)
calls-append (ran run ∷ xs) ys = calls-append xs ys
calls-append (chose choice ∷ xs) ys = calls-append xs ys

pub runs-append : (xs ys : List Event) → runs (xs ++ ys) ≡ runs xs ++ runs ys
runs-append [] ys = refl
runs-append (ordered drawn ∷ xs) ys = runs-append xs ys
runs-append (asked call ∷ xs) ys = runs-append xs ys
runs-append (ran run ∷ xs) ys = ap (λ rs. run ∷ rs) (runs-append xs ys)
runs-append (chose choice ∷ xs) ys = runs-append xs ys

choices-append : (xs ys : List Event) → choices (xs ++ ys) ≡ choices xs ++ choices ys
choices-append [] ys = refl
choices-append (ordered drawn ∷ xs) ys = choices-append xs ys
choices-append (asked call ∷ xs) ys = choices-append xs ys
choices-append (ran run ∷ xs) ys = choices-append xs ys
choices-append (chose choice ∷ xs) ys = ap (λ cs. choice ∷ cs) (choices-append xs ys)

moments-append : (xs ys : List Event) → moments (xs ++ ys) ≡ moments xs ++ moments ys
moments-append [] ys = refl
moments-append (ordered drawn ∷ xs) ys = moments-append xs ys
moments-append (asked call ∷ xs) ys = moments-append xs ys
moments-append (ran run ∷ xs) ys = moments-append xs ys
moments-append (chose choice ∷ xs) ys = ap (λ ms. choice.moment ∷ ms) (moments-append xs ys)

words-append : (xs ys : List Event) → words (xs ++ ys) ≡ words xs ++ words ys
words-append [] ys = refl
words-append (ordered drawn ∷ xs) ys = ap (λ ws. drawn ++ ws) (words-append xs ys) ∙ sym (append_assoc drawn (words xs) (words ys))
words-append (asked call ∷ xs) ys = words-append xs ys
words-append (ran run ∷ xs) ys = words-append xs ys
words-append (chose choice ∷ xs) ys = ap (λ ws. choice.word ∷ ws) (words-append xs ys)

pub yields-append : (before : Option (ℕ → ℕ)) (xs : List ℕ) (mid : Option (ℕ → ℕ)) (ys : List ℕ) (after : Option (ℕ → ℕ)) →
    YieldsAll before xs mid → YieldsAll mid ys after → YieldsAll before (xs ++ ys) after
yields-append before [] mid ys after p q = subst (λ m. YieldsAll m ys after) p q
yields-append before (x ∷ xs) mid ys after p q = (p.0, p.1, yields-append p.0 xs mid ys after p.2 q)

-- Events of fetching, and then those of one job.
pub parts_then : {P P' P'' : List Call → Type 0} {R : List Run → Type 0} {K : List ℕ → Type 0} {W W' W'' : List ℕ → Type 0} {Q : List Choice → Type 0} (xs ys : List Event) →
    ((cs ds : List Call) → P' cs → P'' ds → P (cs ++ ds)) → ((ws vs : List ℕ) → W' ws → W'' vs → W (ws ++ vs)) →
    Parts P' (λ rs. rs ≡ []) (λ ms. ms ≡ []) W' (λ cs. cs ≡ []) xs → Parts P'' R K W'' Q ys → Parts P R K W Q (xs ++ ys)
parts_then {P} {P'} {P''} {R} {K} {W} {W'} {W''} {Q} xs ys links dices p q = record {
  link = subst P (sym (calls-append xs ys)) (links (calls xs) (calls ys) p.link q.link);
  jobs = subst R (sym (runs-append xs ys ∙ ap (λ rs. rs ++ runs ys) p.jobs)) q.jobs;
  clock = subst K (sym (moments-append xs ys ∙ ap (λ ms. ms ++ moments ys) p.clock)) q.clock;
  dice = subst W (sym (words-append xs ys)) (dices (words xs) (words ys) p.dice q.dice);
  rules = subst Q (sym (choices-append xs ys ∙ ap (λ cs. cs ++ choices ys) p.rules)) q.rules;
}

-- Events of fetching alone.
pub parts_only : {P : List Call → Type 0} {R : List Run → Type 0} {K W : List ℕ → Type 0} {Q : List Choice → Type 0} (xs : List Event) → R [] → K [] → Q [] →
    Parts P (λ rs. rs ≡ []) (λ ms. ms ≡ []) W (λ cs. cs ≡ []) xs → Parts P R K W Q xs
parts_only {P} {R} {K} {W} {Q} xs r k q p = record {
  link = p.link;
  jobs = subst R (sym p.jobs) r;
  clock = subst K (sym p.clock) k;
  dice = p.dice;
  rules = subst Q (sym p.rules) q;
}

-- the words of an order, and then calls alone
pub parts_order : {P : List Call → Type 0} {W : List ℕ → Type 0} (drawn : List ℕ) (cs : List Call) → P cs → W drawn →
    Parts P (λ rs. rs ≡ []) (λ ms. ms ≡ []) W (λ xs. xs ≡ []) (ordered drawn ∷ map asked cs)
parts_order {P} {W} drawn cs p w = record {
  link = subst P (sym (calls-asked cs)) p;
  jobs = runs-asked cs;
  clock = moments-asked cs;
  dice = subst W (sym (ap (λ ws. drawn ++ ws) (words-asked cs) ∙ append-nil drawn)) w;
  rules = choices-asked cs;
}
