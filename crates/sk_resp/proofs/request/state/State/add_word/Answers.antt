use Rattle.std.proofs.Common.{◌≡◌, [], ◌∷◌, ◌++◌, length, sym, ap, ◌∙◌, refl, arith, append-nil}
use Rattle.sk_resp.specs.Spelling.{header}
use Rattle.sk_resp.specs.Request.{bulks, whole}
use Rattle.sk_resp.specs.Reading.{goes, ends}
use Rattle.sk_resp.proofs.Items.{wanting_more, command_whole}
use Rattle.sk_resp.proofs.Fronts.{bulks-word}
use Rattle.sk_resp.proofs.request.state.State.add_word.Goals as goal

pub returns-then-len-self-clause-ok : goal.returns-then-len-self-clause-ok
returns-then-len-self-clause-ok c =
    let s = c.args.self.now in
    let more = c.in_ok-push.ensures.items ∙ ap (λ words. words ++ c.args.word ∷ []) c.make_room.ensures in
    let size : length c.args.word ≡ length c.bytes-len.result.now = ap length (sym c.bytes-len.ensures) in
    goes
    (wanting_more s.count s.total (length c.bytes-len.result.now) s.words.items c.push.new.self.items c.args.word c.requires.wanting
    (record { fits = omega (arith, size); short = omega (arith, size, c.requires.fits.0); small = omega (arith, size, c.requires.fits.1) }) size more (omega (arith, c.len.ensures, c.push.new.self.ok.0)))
    (append-nil (header s.count ++ bulks c.push.new.self.items) ∙ ap (λ ws. header s.count ++ bulks ws) more ∙ bulks-word (header s.count) s.words.items c.args.word)
    refl

pub returns-clause-ok : goal.returns-clause-ok
returns-clause-ok c =
    let s = c.args.self.now in
    let more = c.in_ok-push.ensures.items ∙ ap (λ words. words ++ c.args.word ∷ []) c.make_room.ensures in
    let size : length c.args.word ≡ length c.bytes-len.result.now = ap length (sym c.bytes-len.ensures) in
    let result : c.new-2.result ≡ c.push.new.self.items = c.new-2.ensures ∙ ap (λ v. v.items) c.replace.ensures.value in
    let is_command = command_whole s.count s.total (length c.bytes-len.result.now) s.words.items c.push.new.self.items c.args.word c.requires.wanting
    (record { fits = omega (arith, size); short = omega (arith, size, c.requires.fits.0); small = omega (arith, size, c.requires.fits.1) }) size more (omega (arith, c.len.ensures, c.push.new.self.ok.0)) in
    ends
    (whole c.push.new.self.items is_command.0
    (sym (ap (λ n. header n ++ bulks c.push.new.self.items) is_command.1 ∙ ap (λ ws. header s.count ++ bulks ws) more ∙ bulks-word (header s.count) s.words.items c.args.word))
    (ap (λ ws. ws ∷ []) result))
    refl
