-- How deeds are performed, one list behind another.
use Rattle.std.proofs.Common.{◌≡◌, ◌∙◌, Bool, true, ◌&&◌, List, [], ◌∷◌, ◌++◌, map, refl, sym, ap, subst, Option, Result, Ok, Err, append_assoc, append-nil}
use Rattle.std.specs.List.{list_all}
use Rattle.std.proofs.lemmas.List.{map-append}
use Rattle.std.proofs.lemmas.List.Folds.{list_all-append}
use Rattle.sk_base.proofs.OutsideLaws.{takes_more, takes_nothing}
use Rattle.sk_base.specs.Outside.{Takes}
use Rattle.sk_resp.specs.Spelling.{Bytes}
use Rattle.sk_resp.specs.declared.reply.Reply.{Reply}
use Rattle.sk_link.specs.Call.{Call}
use Rattle.sk_link.specs.declared.link.LinkFault.{LinkFault}
use Rattle.sk_iter.specs.Deeds.{Deed, deed_of, saves}
use Rattle.sk_iter.specs.Event.{Did, Event, ItemRun, asked, calls, ran, runs}
use Rattle.sk_iter.specs.Performs.{EndsAtSave, EndsIn, Front, Performs, is_kept}
use Rattle.sk_iter.specs.declared.iter_end.IterFault.{IterFault}
use Rattle.sk_iter.specs.declared.iter_end.IterFault.TheVariants as fault

-- ## Events

pub calls-append : (xs ys : List Event) → calls (xs ++ ys) ≡ calls xs ++ calls ys
calls-append [] ys = refl
calls-append (asked call ∷ xs) ys = ap (λ cs. call ∷ cs) (calls-append xs ys)
calls-append (ran run ∷ xs) ys = calls-append xs ys

pub runs-append : (xs ys : List Event) → runs (xs ++ ys) ≡ runs xs ++ runs ys
runs-append [] ys = refl
runs-append (asked call ∷ xs) ys = runs-append xs ys
runs-append (ran run ∷ xs) ys = ap (λ rs. run ∷ rs) (runs-append xs ys)

-- what two links carry one after another, a third carries
abbrev pub More : (List Call → Type 0) → (List Call → Type 0) → (List Call → Type 0) → Type 0
More P Q R = (cs ds : List Call) → P cs → Q ds → R (cs ++ ds)

pub did_more : {P Q R : List Call → Type 0} {a b c : Option (List ItemRun)} (xs ys : List Event) → More P Q R → Did P a b xs → Did Q b c ys → Did R a c (xs ++ ys)
did_more {P} {Q} {R} {a} {b} {c} xs ys more p q = record {
  link = subst R (sym (calls-append xs ys)) (more (calls xs) (calls ys) p.link q.link);
  items = subst (λ rs. Takes a rs c) (sym (runs-append xs ys)) (takes_more a (runs xs) b (runs ys) c p.items q.items);
}

-- ## Fronts of deeds

both : (a b : Bool) → a ≡ true → b ≡ true → (a && b) ≡ true
both a b e f = ap (λ x. x && b) e ∙ f

pub front_nothing : Front [] [] []
front_nothing = record { are = refl; kept = refl }

pub front_none : (deeds : List Deed) → Front [] deeds deeds
front_none deeds = record { are = refl; kept = refl }

-- all of the first deeds, and then a front of the others
pub front_then : (xs ys : List Event) (ds left bs : List Deed) → Front xs [] ds → Front ys left bs → Front (xs ++ ys) left (ds ++ bs)
front_then xs ys ds left bs p q = record {
  are = ap (λ xs_. xs_ ++ left) (map-append deed_of xs ys) ∙ append_assoc (map deed_of xs) (map deed_of ys) left
      ∙ ap (λ zs. map deed_of xs ++ zs) q.are ∙ ap (λ xs_. xs_ ++ bs) (sym (append-nil (map deed_of xs)) ∙ p.are);
  kept = list_all-append is_kept xs ys ∙ both (list_all is_kept xs) (list_all is_kept ys) p.kept q.kept;
}

-- a front of the first deeds is one of all
pub front_before : (xs : List Event) (left ds bs : List Deed) → Front xs left ds → Front xs (left ++ bs) (ds ++ bs)
front_before xs left ds bs p = record {
  are = sym (append_assoc (map deed_of xs) left bs) ∙ ap (λ xs_. xs_ ++ bs) p.are;
  kept = p.kept;
}

-- ## Where a save ends the events

save_then : (jid : Bytes) (xs ys : List Event) (ds bs : List Deed) (reply : Result Reply LinkFault) → Front xs [] ds → EndsAtSave jid bs ys reply → EndsAtSave jid (ds ++ bs) (xs ++ ys) reply
save_then jid xs ys ds bs reply p q = record {
  done = xs ++ q.done;
  next = q.next;
  left = q.left;
  front = front_then xs q.done ds (saves jid q.next ∷ q.left) bs p q.front;
  are = ap (λ es. xs ++ es) q.are ∙ sym (append_assoc xs q.done _);
}

save_before : (jid : Bytes) (ds bs : List Deed) (events : List Event) (reply : Result Reply LinkFault) → EndsAtSave jid ds events reply → EndsAtSave jid (ds ++ bs) events reply
save_before jid ds bs events reply q = record {
  done = q.done;
  next = q.next;
  left = q.left ++ bs;
  front = front_before q.done (saves jid q.next ∷ q.left) ds bs q.front;
  are = q.are;
}

-- ## How events end

pub ends_then : {T : Type 0} (jid : Bytes) (xs ys : List Event) (ds bs : List Deed) (result : Result T IterFault) → Front xs [] ds → EndsIn jid bs ys result → EndsIn jid (ds ++ bs) (xs ++ ys) result
ends_then jid xs ys ds bs (Ok x) p q = front_then xs ys ds [] bs p q
ends_then jid xs ys ds bs (Err (fault.Cursor r)) p q = q
ends_then jid xs ys ds bs (Err (fault.Link f)) p q = save_then jid xs ys ds bs (Err f) p q
ends_then jid xs ys ds bs (Err (fault.Refused r)) p q = (save_then jid xs ys ds bs (Ok r) p q.0, q.1)
ends_then jid xs ys ds bs (Err fault.Memory) p q = (q.0, front_then xs ys ds q.0 bs p q.1)

pub ends_before : (T U : Type 0) (jid : Bytes) (ds bs : List Deed) (events : List Event) (f : IterFault) → EndsIn {T = T} jid ds events (Err f) → EndsIn {T = U} jid (ds ++ bs) events (Err f)
ends_before T U jid ds bs events (fault.Cursor r) q = q
ends_before T U jid ds bs events (fault.Link f) q = save_before jid ds bs events (Err f) q
ends_before T U jid ds bs events (fault.Refused r) q = (save_before jid ds bs events (Ok r) q.0, q.1)
ends_before T U jid ds bs events fault.Memory q = (q.0 ++ bs, front_before events q.0 ds bs q.1)

-- ## What is performed

pub performs_nothing : {T : Type 0} (P : List Call → Type 0) (told : Option (List ItemRun)) (jid : Bytes) (x : T) → P [] → Performs {T = T} P told told jid [] (Ok x)
performs_nothing P told jid x none = ([], record { link = none; items = takes_nothing told }, front_nothing)

-- the same with another value
pub performs_as : {T U : Type 0} (P : List Call → Type 0) (a b : Option (List ItemRun)) (jid : Bytes) (deeds : List Deed) (x : T) (y : U) →
    Performs {T = T} P a b jid deeds (Ok x) → Performs {T = U} P a b jid deeds (Ok y)
performs_as P a b jid deeds x y p = p

-- the same with another type, where a fault ended it
pub performs_err : (T U : Type 0) (P : List Call → Type 0) (a b : Option (List ItemRun)) (jid : Bytes) (deeds : List Deed) (f : IterFault) →
    Performs {T = T} P a b jid deeds (Err f) → Performs {T = U} P a b jid deeds (Err f)
performs_err T U P a b jid deeds (fault.Cursor r) p = p
performs_err T U P a b jid deeds (fault.Link f) p = p
performs_err T U P a b jid deeds (fault.Refused r) p = p
performs_err T U P a b jid deeds fault.Memory p = p

-- the first deeds were broken off
pub performs_before : (T U : Type 0) (P : List Call → Type 0) (a b : Option (List ItemRun)) (jid : Bytes) (ds bs : List Deed) (f : IterFault) →
    Performs {T = T} P a b jid ds (Err f) → Performs {T = U} P a b jid (ds ++ bs) (Err f)
performs_before T U P a b jid ds bs f p = (p.0, p.1, ends_before T U jid ds bs p.0 f p.2)

-- the first deeds, and then what came of the others
module _ (P Q R : List Call → Type 0) (a b d : Option (List ItemRun)) (more : More P Q R) where
  pub performs_then : {S T : Type 0} (jid : Bytes) (ds bs : List Deed) (x : S) (result : Result T IterFault) →
      Performs {T = S} P a b jid ds (Ok x) → Performs {T = T} Q b d jid bs result → Performs {T = T} R a d jid (ds ++ bs) result
  performs_then jid ds bs x result p q = (p.0 ++ q.0, did_more p.0 q.0 more p.1 q.1, ends_then jid p.0 q.0 ds bs result p.2 q.2)
