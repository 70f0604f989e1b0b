use Rattle.std.proofs.Common.{◌≡◌, ◌∙◌, List, ap, drop, min, of_z, rules, subst, sym, take, to_z, w64}
use Rattle.std.specs.Prelude.{IfOk}
use Rattle.sk_resp.specs.Spelling.{Bytes}
use Rattle.sk_value.specs.Answer.{texts}
use Rattle.sk_value.specs.Lists.{end_index, first_index, range_of}
use Rattle.sk_places.specs.Rows.{texts_at}
use Rattle.sk_keyspace.proofs.Looking.{how_many_texts, part_of_texts}
use Rattle.sk_keyspace.proofs.Scores.{range_is}
use Rattle.sk_keyspace.proofs.looks.range.Goals as goal

pub returns : goal.returns
returns c =
    let rows = c.args.places.now.current.rows in
    let all : List Bytes = texts_at c.args.place.now rows in
    let a : to_z w64 (of_z w64 c.args.first) ≡ c.args.first = search rules in
    let b : to_z w64 (of_z w64 c.args.last) ≡ c.args.last = search rules in
    let count = c.len-count.ensures.is ∙ sym (how_many_texts c.args.place.now rows) in
    let part : drop c.first_index-start.result (take c.end_index-end.result all) ≡ range_of c.args.first c.args.last all =
    range_is c.args.first c.args.last _ _ _ all (c.first_index-start.ensures ∙ ap (λ z. first_index z c.len-count.result) a) (c.end_index-end.ensures ∙ ap (λ z. min c.len-count.result (end_index z c.len-count.result)) b) count in
    subst (λ list. IfOk c.as_reply.result (λ reply. reply ≡ texts list)) (c.in_ok-part.ensures ∙ part_of_texts c.first_index-start.result c.end_index-end.result c.args.place.now rows ∙ part) c.as_reply.ensures
