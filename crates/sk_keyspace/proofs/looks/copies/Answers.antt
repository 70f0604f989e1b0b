use Rattle.std.proofs.Common.{◌++◌, [], ◌∷◌, ◌∙◌, ap, map, sym}
use Rattle.std.proofs.lemmas.List.{map-append}
use Rattle.sk_resp.specs.Reply.{wire}
use Rattle.sk_resp.specs.Spelling.{bulk}
use Rattle.sk_keyspace.proofs.Looking.{one_more_name}
use Rattle.sk_keyspace.proofs.looks.copies.Goals as goal

pub loop-at-preserved : goal.loop-at-preserved
loop-at-preserved c =
    let name = c.in_ok-copy_name.field-0 in
    ap (map wire) c.in_ok-push.ensures.items ∙ map-append wire c.loop-at.replies.items _ ∙ ap (λ bulks. bulks ++ bulk name ∷ []) c.loop-at.invariant
    ∙ sym (one_more_name c.args.places.now.current.names c.loop-at.at name c.in_ok-copy_name.ensures)
