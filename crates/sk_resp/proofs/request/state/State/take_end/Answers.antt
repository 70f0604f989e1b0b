use Rattle.std.proofs.Common.{◌≡◌, [], ◌∷◌, ◌++◌, subst, sym, ap, ◌∙◌, append_assoc, IfOk}
use Rattle.sk_resp.specs.Spelling.{header, opened, bulk}
use Rattle.sk_resp.specs.Request.{bulks}
use Rattle.sk_resp.specs.Reading.{Took, given}
use Rattle.sk_resp.proofs.Items.{fault-no_lf, bulk-whole}
use Rattle.sk_resp.proofs.request.state.State.take_end.Goals as goal

pub returns-then-byte-ne10-clause-fault : goal.returns-then-byte-ne10-clause-fault
returns-then-byte-ne10-clause-fault c = λ fault.
    let s = c.args.self.now in
    fault-no_lf s.count s.words.items s.total s.need s.word.items c.args.byte c.requires.0 c.requires.1 c.requires.2 c.if-byte-ne10.true

pub returns-clause-ok : goal.returns-clause-ok
returns-clause-ok c =
    let s = c.args.self.now in
    let front = header s.count ++ bulks s.words.items in
    let word : c.new-word.result ≡ s.word.items = cc in
    let text : front ++ bulk c.new-word.result ≡ (front ++ (opened s.need s.word.items ++ 13 ∷ [])) ++ c.args.byte ∷ [] =
    ap (λ w. front ++ bulk w) word ∙ ap (λ z. front ++ z) (bulk-whole s.need s.word.items c.requires.2)
    ∙ sym (append_assoc front (opened s.need s.word.items ++ 13 ∷ []) (10 ∷ [])) ∙ ap (λ b. (front ++ (opened s.need s.word.items ++ 13 ∷ [])) ++ b ∷ []) (sym c.if-byte-ne10.false) in
    subst (λ t. IfOk c.add_word.result (λ found. Took t (given found) c.add_word.new.self)) text c.add_word.ensures.ok
