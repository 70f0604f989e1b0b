-- When all rows go and some row names each live job, none lives any more and each is counted once.
use Rattle.std.proofs.Common.{◌≡◌, Bool, true, false, List, [], ◌∷◌, Option, Some, None, refl, sym, arith, ap, ap₂, ◌∙◌}
use Rattle.std.specs.BTreeMap.{is_at}
use Rattle.std.specs.Ordering.{is_lt}
use Rattle.sk_resp.specs.Spelling.{Bytes}
use Rattle.sk_resp.specs.WordOrder.{text_cmp}
use Rattle.sk_payload.specs.Head.{jid_of, names}
use Rattle.sk_undo.specs.Partitioned.{all_pass}
use Rattle.sk_undo.specs.Sorted.{is_sorted}
use Rattle.sk_undo.specs.Versions.{Versions, both, closed, edited}
use Rattle.sk_places.specs.declared.ending.Ending.TheVariants.{Deleted}
use Rattle.sk_places.specs.declared.row.Row.{Row}
use Rattle.sk_places.specs.declared.totals.Totals.{Totals}
use Rattle.sk_places.specs.Cleared.{AllStand, every_deleted}
use Rattle.sk_places.specs.Ends.{texts_of}
use Rattle.sk_places.specs.LiveJobs.{Lived, all_ended, ended, is_among, lived, one_if, over, was_live, without_jid}
use Rattle.sk_places.specs.Placed.{Placed, ended_rows, placed}
use Rattle.sk_places.specs.Rows.{stands_in}
use Rattle.sk_places.specs.Totals.{count_end}
use Rattle.sk_places.proofs.Accounts.{over_length}
use Rattle.sk_places.proofs.Gone.{every_ended}
use Rattle.sk_places.proofs.Indexed.{itself, named, names_is, same_word}
use Rattle.sk_places.proofs.LiveKeys.{none_before}

-- ## A job that has ended

all_without : (test : Bytes → Bool) (jid : Bytes) (live : List Bytes) → all_pass test live ≡ true → all_pass test (without_jid jid live) ≡ true
all_without test jid [] h = refl
all_without test jid (first ∷ live) h = grind (arith, h, all_without test jid live)

sorted_without : (jid : Bytes) (live : List Bytes) → is_sorted text_cmp live ≡ true → is_sorted text_cmp (without_jid jid live) ≡ true
sorted_without jid [] up = refl
sorted_without jid (first ∷ live) up = grind (arith, up, all_without (λ other. is_lt (text_cmp first other)) jid live, sorted_without jid live)

sorted_over : (job : Option Bytes) (live : List Bytes) → is_sorted text_cmp live ≡ true → is_sorted text_cmp (over job live) ≡ true
sorted_over None live up = up
sorted_over (Some jid) live up = sorted_without jid live up

was_among : (other jid : Bytes) (live : List Bytes) → is_among other (without_jid jid live) ≡ true → is_among other live ≡ true
was_among other jid [] h = h
was_among other jid (first ∷ live) h = grind (arith, h, was_among other jid live)

was_over : (other : Bytes) (job : Option Bytes) (live : List Bytes) → is_among other (over job live) ≡ true → is_among other live ≡ true
was_over other None live h = h
was_over other (Some jid) live h = was_among other jid live h

-- no job lives twice
none_left : (jid : Bytes) (live : List Bytes) → is_sorted text_cmp live ≡ true → is_among jid (without_jid jid live) ≡ false
none_left jid [] up = refl
none_left jid (first ∷ live) up = cases (is_at (text_cmp jid) first) refl (none_left jid live)
  where
    cases : (b : Bool) → is_at (text_cmp jid) first ≡ b → (is_sorted text_cmp live ≡ true → is_among jid (without_jid jid live) ≡ false) → is_among jid (without_jid jid (first ∷ live)) ≡ false
    cases true e again =
        let gone : without_jid jid (first ∷ live) ≡ live = grind (arith, e) in
        let rest : all_pass (λ other. is_lt (text_cmp first other)) live ≡ true = grind (arith, up) in
        ap (is_among jid) gone ∙ ap (λ word. is_among word live) (same_word jid first e) ∙ none_before first live rest
    cases false e again =
        let left : without_jid jid (first ∷ live) ≡ first ∷ without_jid jid live = grind (arith, e) in
        let none : is_among jid (without_jid jid live) ≡ false = again (grind (arith, up)) in
        ap (is_among jid) left ∙ grind (arith, e, none)

-- the job of a row isn't among those that are left
not_named : (other : Bytes) (job : Option Bytes) (live : List Bytes) → is_sorted text_cmp live ≡ true → is_among other (over job live) ≡ true → named job other ≡ 0
not_named other None live up h = refl
not_named other (Some jid) live up h = cases (is_at (text_cmp other) jid) refl
  where
    cases : (b : Bool) → is_at (text_cmp other) jid ≡ b → one_if (is_at (text_cmp other) jid) ≡ 0
    cases true e =
        let gone = ap (λ word. is_among other (without_jid word live)) (sym (same_word other jid e)) ∙ none_left other live up in
        absurd (cc (gone, h))
    cases false e = ap one_if e

others_stand : (row : Row) (rows : List Row) (live : List Bytes) → is_sorted text_cmp live ≡ true → AllStand (row ∷ rows) live → AllStand rows (over (jid_of row.text) live)
others_stand row rows live up stand jid left =
    cases (names row.text jid) refl (stand jid (was_over jid (jid_of row.text) live left)) (names_is row.text jid ∙ not_named jid (jid_of row.text) live up left)
  where
    cases : (b : Bool) → names row.text jid ≡ b → stands_in (row ∷ rows) jid ≡ true → one_if (names row.text jid) ≡ 0 → stands_in rows jid ≡ true
    cases true e stood apart = absurd (cc (ap one_if e, apart))
    cases false e stood apart = grind (arith, e, stood)

-- ## All of them

no_more : (live : List Bytes) (t : Totals) → AllStand [] live → lived live t ≡ every_deleted (lived live t)
no_more [] t stand = ap (λ n. lived [] (record t { deleted = n })) (omega arith)
no_more (jid ∷ live) t stand =
    let own = itself jid in
    let never : false ≡ true = stand jid (grind (arith, own)) in
    absurd (cc never)

counted_on : (job : Option Bytes) (l : Lived) → every_deleted (lived (over job l.live) (count_end Deleted (one_if (was_live job l.live)) l.totals)) ≡ every_deleted l
counted_on job l = let n = over_length job l.live in ap (λ n. lived [] (record l.totals { deleted = n })) (omega (arith, n))

pub all_deleted : (rows : List Row) (l : Lived) → is_sorted text_cmp l.live ≡ true → AllStand rows l.live → all_ended Deleted (texts_of rows) l ≡ every_deleted l
all_deleted [] l up stand = no_more l.live l.totals stand
all_deleted (row ∷ rows) l up stand =
    all_deleted rows (ended Deleted row.text l) (sorted_over (jid_of row.text) l.live up) (others_stand row rows l.live up stand) ∙ counted_on (jid_of row.text) l

pub cleared : (p : Placed) → is_sorted text_cmp p.jobs.live ≡ true → AllStand p.rows p.jobs.live → record (ended_rows Deleted p.rows p) { names = [] } ≡ placed [] [] (every_deleted p.jobs)
cleared p up stand = ap {A = Placed} (λ q. placed q.rows [] q.jobs) (every_ended Deleted p) ∙ ap (placed [] []) (all_deleted p.rows p.jobs up stand)

-- no row, no name and no job is left
pub emptied : (old : Versions Placed) (rows : Versions (List Row)) (names : Versions (List Bytes)) (jobs : Versions Lived) → rows ≡ closed [] → names ≡ closed [] → jobs ≡ closed (every_deleted old.current.jobs) → old.saved ≡ None
    → is_sorted text_cmp old.current.jobs.live ≡ true → AllStand old.current.rows old.current.jobs.live → both (λ listed jobs. listed jobs) (both placed rows names) jobs ≡ edited (record (ended_rows Deleted old.current.rows old.current) { names = [] }) old
emptied old rows names jobs r n j none up stand =
    ap₂ (λ rows names. both (λ listed jobs. listed jobs) (both placed rows names) jobs) r n
    ∙ ap (both (λ listed jobs. listed jobs) (both placed (closed []) (closed []))) j
    ∙ ap₂ {C = Versions Placed} (λ p o. record { current = p; saved = o }) (sym (cleared old.current up stand)) (sym none)
