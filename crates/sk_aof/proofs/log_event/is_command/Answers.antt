use Rattle.std.proofs.Common.{arith, ◌≡◌, ◌+◌, ◌∷◌, ◌++◌, [], take, sym, ap, ◌∙◌, subst}
use Rattle.std.specs.List.{AllByRecursion}
use Rattle.std.proofs.lemmas.List.{take_more}
use Rattle.sk_resp.specs.Spelling.{Bytes, total_length}
use Rattle.sk_resp.specs.Request.{Command, IsWord}
use Rattle.sk_resp.proofs.Items.{total_length-append, words-append}
use Rattle.sk_aof.proofs.log_event.is_command.Goals as goal

pub loop-word-preserved : goal.loop-word-preserved
loop-word-preserved c =
    let list = c.list-list.result.now in
    let i = c.loop-word.word-index in
    let word = c.bytes-len.result.now in
    let inv = c.loop-word.invariant in
    let next : take (i + 1) list ≡ take i list ++ word ∷ [] = take_more list i c.word-item.result c.loop-word-test.true ∙ ap (λ (w : Bytes). take i list ++ w ∷ []) (sym c.word-item.is ∙ sym c.bytes-len.ensures) in
    record {
      total_is = omega (arith, inv.total_is, total_length-append (take i list) word, ap total_length next);
      small = omega (arith, inv.small, c.if-len-gt-LONGEST_WORD.false);
      short = subst (λ (l : Command). AllByRecursion IsWord l) (sym next) (words-append (take i list) word inv.short c.if-len-gt-LONGEST_WORD.false);
    }
