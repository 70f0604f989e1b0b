use Rattle.std.proofs.Common.{◌≡◌, Some, Ok, arith, sym, ap, ◌∙◌, true}
use Rattle.std.specs.Option.{is_some}
use Rattle.sk_value.specs.Answer.{text_or_null}
use Rattle.sk_value.specs.Apply.{answers, list_at, move_keys}
use Rattle.sk_value.specs.Keys.{at}
use Rattle.sk_value.specs.Lists.{end_of}
use Rattle.sk_keys.proofs.Moves.{moved_between}
use Rattle.sk_keys.proofs.move_list.move_between.Goals as goal

moves : (c : goal.After-text_or_null) → move_keys c.args.source.now c.args.destination c.args.from c.args.to c.args.table.now.entries ≡ answers (Ok (text_or_null c.take_at.result)) c.take_at.new.table.entries
moves c =
    let other : is_some (list_at (at c.args.destination c.args.table.now.entries)) ≡ true = grind (arith, c.may_hold_list.ensures, c.if-not-may_hold_list.false) in
    let end : end_of c.args.from c.in-List.list ≡ Some c.in-Some-2.text = grind (arith, c.in_ok-text.ensures, c.in-Some-2.is) in
    moved_between c.args.source.now c.args.destination c.args.from c.args.to c.in-Some-2.text c.in-Some.there.now c.in-List.list c.args.table.now.entries c.push_at.new.table.entries c.take_at.new.table.entries c.take_at.result c.in_ok-push_at.ensures.was_ordered c.requires.apart (sym c.in-Some.ensures) c.in-List.is other end c.in_ok-push_at.ensures.ok c.take_at.ensures.taken

pub returns-clause-answer : goal.returns-clause-answer
returns-clause-answer c = ap (λ a. a.answer) (moves c) ∙ ap Ok (sym c.text_or_null.ensures)

pub returns-clause-ok : goal.returns-clause-ok
returns-clause-ok c = sym (ap (λ a. a.keys) (moves c))
