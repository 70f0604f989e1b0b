use Rattle.std.proofs.Common.{◌≡◌, ◌∷◌, [], sym, subst, ◌∙◌}
use Rattle.std.proofs.lemmas.Slice.Eq.{slice_eq-Decides}
use Rattle.std.proofs.lemmas.Bool.Decides.{Decides-eqb}
use Rattle.sk_resp.specs.Spelling.{Bytes}
use Rattle.sk_resp.specs.Number.{IsInt}
use Rattle.sk_resp.specs.Request.{Command}
use Rattle.sk_aof.specs.Read.{IsNumbered, natural}
use Rattle.sk_aof.proofs.Numbers.{numbered, two_words}
use Rattle.sk_aof.proofs.log_event.number_of.Goals as goal

pub returns-then-eq : goal.returns-then-eq
returns-then-eq c =
    let word = c.args.word.now in
    let text = c.text-item.result in
    let z = c.read_int.result in
    let first_is : c.first-item.result ≡ word = sym c.bytes.ensures ∙ (slice_eq-Decides Decides-eqb c.bytes.result.now word c.eq.result c.eq.ensures).0 c.if-eq.true in
    let words_are : c.args.words.now ≡ word ∷ text ∷ [] =
    subst (λ (first : Bytes). c.args.words.now ≡ first ∷ text ∷ []) first_is
    (sym c.list.ensures ∙ two_words c.list.result.now c.first-item.result text c.in-len2.len_at_least c.in-len2.len_below c.first-item.is c.text-item.is) in
    let is : IsInt text z = subst (λ t. IsInt t z) c.bytes-then-eq.ensures c.read_int.ensures in
    subst (λ (found : _). IsNumbered word c.args.words.now found) (sym c.natural.ensures)
    (subst (λ (words : Command). IsNumbered word words (natural z)) (sym words_are) (numbered word text z is))
