-- How often a text stands in the rows after an edit.
use Rattle.std.proofs.Common.{◌≡◌, ◌+◌, List, [], ◌∷◌, refl, sym, ap, subst, arith, Bool, true, false, cond, ◌&&◌}
use Rattle.std.specs.Prelude.{Option, Some, None}
use Rattle.std.specs.Option.{is_some}
use Rattle.std.specs.List.{list_any}
use Rattle.std.specs.Str.{bytes_eq}
use Rattle.sk_resp.specs.Spelling.{Bytes}
use Rattle.sk_places.specs.declared.row.Row.{Row}
use Rattle.sk_cmd.specs.declared.argument.Side.{Side}
use Rattle.sk_cmd.specs.declared.argument.Side.TheVariants.{Left, Right}
use Rattle.sk_places.specs.Rows.{is_same, insert_after, put_row, row_at, without_first, without_last, take_row}
use Rattle.sk_places.specs.declared.row.Place.TheVariants.{Private}
use Rattle.sk_seats.specs.declared.phase.Phase.{Phase}
use Rattle.sk_seats.specs.declared.phase.Phase.TheVariants.{Plain, Joined}
use Rattle.sk_seats.specs.declared.work.Stage.{Stage}
use Rattle.sk_seats.specs.declared.work.Stage.TheVariants.{Held, Put, Settled}
use Rattle.sk_seats.specs.declared.work.Work.{Work}
use Rattle.sk_seats.specs.Works.{first, is_done_as, is_held}
use Rattle.sk_model.specs.World.{World}
use Rattle.sk_model.specs.Change.{freed, freed_at, freed_work}
use Rattle.sk_model.specs.Laws.{copies, copies_in, freed_by, is_listed}
use Rattle.sk_model.proofs.Tools.Texts.{bytes_tell, same_text}
use Rattle.sk_model.proofs.Tools.Works.{any_first, first_passes}

copies-insert_after : (text : Bytes) (test : Row → Bool) (new : Row) (rows : List Row) → copies_in text (insert_after test new rows) ≡ cond (bytes_eq text new.text) 1 0 + copies_in text rows
copies-insert_after text test new [] = refl
copies-insert_after text test new (row ∷ rows) = grind (arith, copies-insert_after text test new rows)

pub copies-put_row : (text : Bytes) (end : Side) (new : Row) (rows : List Row) → copies_in text (put_row end new rows) ≡ cond (bytes_eq text new.text) 1 0 + copies_in text rows
copies-put_row text end new rows = copies-insert_after text _ new rows

copies-without_first : (text : Bytes) (row : Row) (rows : List Row) → list_any (is_same row) rows ≡ true → cond (bytes_eq text row.text) 1 0 + copies_in text (without_first (is_same row) rows) ≡ copies_in text rows
copies-without_first text row [] there = grind arith
copies-without_first text row (other ∷ rows) there = grind (arith, copies-without_first text row rows, same_text row other)

copies-without_last : (text : Bytes) (row : Row) (rows : List Row) → list_any (is_same row) rows ≡ true → cond (bytes_eq text row.text) 1 0 + copies_in text (without_last (is_same row) rows) ≡ copies_in text rows
copies-without_last text row [] there = grind arith
copies-without_last text row (other ∷ rows) there = grind (arith, copies-without_last text row rows, same_text row other)

-- a row that is there is taken out once
pub copies-take_row : (text : Bytes) (end : Side) (row : Row) (rows : List Row) → list_any (is_same row) rows ≡ true → cond (bytes_eq text row.text) 1 0 + copies_in text (take_row end row rows) ≡ copies_in text rows
copies-take_row text Left row rows there = copies-without_first text row rows there
copies-take_row text Right row rows there = copies-without_last text row rows there

-- ## A release

none_taken : (row : Row) (rows : List Row) → list_any (is_same row) rows ≡ false → take_row Left row rows ≡ rows
none_taken row [] none = refl
none_taken row (other ∷ rows) none = grind (arith, none_taken row rows)

released : (text : Bytes) (row : Row) (rows : List Row) → copies_in text (take_row Left row rows) + cond (bytes_eq text row.text && list_any (is_same row) rows) 1 0 ≡ copies_in text rows
released text row rows = by_there (list_any (is_same row) rows) refl where
  by_there : (there : Bool) → list_any (is_same row) rows ≡ there → copies_in text (take_row Left row rows) + cond (bytes_eq text row.text && there) 1 0 ≡ copies_in text rows
  by_there true e = let one = copies-take_row text Left row rows e in grind (arith, one)
  by_there false e = let none = ap (copies_in text) (none_taken row rows e) in grind (arith, none)

-- a work that isn't held any more is released
at_copies : (text ident held : Bytes) (w : World) (stage : Stage) → is_held stage ≡ false → copies text (freed_at stage ident held w) + cond (bytes_eq text held && is_listed w ident held) 1 0 ≡ copies text w
at_copies text ident held w Held e = absurd (cc e)
at_copies text ident held w Put e = released text (row_at (Private ident) held) w.rows
at_copies text ident held w (Settled end) e = released text (row_at (Private ident) held) w.rows

work_copies : (text ident freed : Bytes) (w : World) (works : List Work) (found : Option Work) → first (is_done_as freed) works ≡ found → copies text (freed_work ident w found) + cond (is_some found && (bytes_eq text freed && is_listed w ident freed)) 1 0 ≡ copies text w
work_copies text ident freed w works None e = omega arith
work_copies text ident freed w works (Some work) e =
    let done = first_passes (is_done_as freed) works work e in
    let same : work.payload ≡ freed = grind (arith, done, bytes_tell) in
    let let_go : is_held work.stage ≡ false = grind (arith, done) in
    subst (λ held. copies text (freed_at work.stage ident work.payload w) + cond (bytes_eq text held && is_listed w ident held) 1 0 ≡ copies text w) same (at_copies text ident work.payload w work.stage let_go)

pub copies-freed : (text freed_text : Bytes) (w : World) (phase : Phase) → copies text (freed freed_text w phase) + freed_by text freed_text w phase ≡ copies text w
copies-freed text freed_text w Plain = omega arith
copies-freed text freed_text w (Joined ident works) =
    let found = first (is_done_as freed_text) works in
    let any = any_first (is_done_as freed_text) works in
    subst (λ b. copies text (freed_work ident w found) + cond (b && (bytes_eq text freed_text && is_listed w ident freed_text)) 1 0 ≡ copies text w) (sym any) (work_copies text ident freed_text w works found refl)
