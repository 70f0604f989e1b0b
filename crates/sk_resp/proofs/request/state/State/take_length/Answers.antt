use Rattle.std.proofs.Common.{[], ◌∷◌, ◌++◌, sym, ap, ◌∙◌, refl, arith}
use Rattle.sk_resp.specs.Spelling.{header}
use Rattle.sk_resp.specs.Request.{bulks}
use Rattle.sk_resp.specs.Reading.{goes}
use Rattle.sk_resp.proofs.Items.{fault-length_ends, fault-length_long, fault-limit, opened-whole, line_only}
use Rattle.sk_resp.proofs.request.state.State.take_length.Goals as goal

pub returns-in_default-clause-fault : goal.returns-in_default-clause-fault
returns-in_default-clause-fault c = λ fault.
    let s = c.args.self.now in
    fault-length_ends s.count s.words.items s.total s.line.items c.args.byte c.requires.0 c.requires.1 (λ allowed. c.in_default.ensures allowed.0 (omega (arith, allowed.1)) (c.deref.ensures.value ∙ allowed.2)) c.if-byte-eq10.true

pub returns-then-n-gt-LONGEST_WORD-clause-fault : goal.returns-then-n-gt-LONGEST_WORD-clause-fault
returns-then-n-gt-LONGEST_WORD-clause-fault c = λ fault.
    let s = c.args.self.now in
    fault-length_ends s.count s.words.items s.total s.line.items c.args.byte c.requires.0 c.requires.1
    (λ allowed. omega (arith, allowed.1, line_only s.line.items c.in-Some.n allowed.0 (omega (arith, c.in-Some.ensures.0)) (omega (arith, allowed.1)) (sym c.deref.ensures.value ∙ c.in-Some.ensures.1) allowed.2)) c.if-byte-eq10.true

pub returns-then-n-self-clause-fault : goal.returns-then-n-self-clause-fault
returns-then-n-self-clause-fault c = λ fault.
    let s = c.args.self.now in
    fault-limit s.count s.words.items s.total s.line.items c.args.byte c.in-Some.n c.requires.0 (sym c.deref.ensures.value ∙ c.in-Some.ensures.1) (omega arith) (omega (arith, c.requires.0.small)) c.if-byte-eq10.true

pub returns-then-byte-eq10-clause-ok : goal.returns-then-byte-eq10-clause-ok
returns-then-byte-eq10-clause-ok c = goes
    (c.requires.0, record { fits = rw c.clear.ensures.items (omega arith); short = omega arith; small = omega (arith, c.requires.0.small) })
    (rw c.clear.ensures.items (opened-whole (header c.args.self.now.count ++ bulks c.args.self.now.words.items) c.args.self.now.line.items c.in-Some.n (sym c.deref.ensures.value ∙ c.in-Some.ensures.1)
    ∙ ap (λ b. ((header c.args.self.now.count ++ bulks c.args.self.now.words.items) ++ 36 ∷ c.args.self.now.line.items) ++ b ∷ []) (sym c.if-byte-eq10.true)))
    refl

pub returns-then-len-ge-LONGEST_LENGTH_LINE-clause-fault : goal.returns-then-len-ge-LONGEST_LENGTH_LINE-clause-fault
returns-then-len-ge-LONGEST_LENGTH_LINE-clause-fault c = λ fault.
    let s = c.args.self.now in
    fault-length_long s.count s.words.items s.total s.line.items c.args.byte c.requires.0 c.requires.1 (omega (arith, c.len.ensures, s.line.ok.0)) c.if-byte-eq10.false
