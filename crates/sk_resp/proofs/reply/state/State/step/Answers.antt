use Rattle.std.proofs.Common.{◌≡◌, ◌+◌, [], subst, sym, ◌∙◌}
use Rattle.sk_resp.specs.ReplyMachine.{go, gives, given, says, Made}
use Rattle.sk_resp.proofs.ReplyRuns.{went_to}
use Rattle.sk_resp.proofs.ReplySizes.{counted_size, goes_within, fails_within}
use Rattle.sk_resp.proofs.reply.state.State.step.Goals as goal

pub fits-requires-clause-is_open : goal.fits-requires-clause-is_open
fits-requires-clause-is_open c =
    let m = says c.args.self.now in
    let n = says c.take_byte.new.self in
    let e : go m c.args.byte ≡ gives [] n = subst (λ f. go m c.args.byte ≡ gives (given f) n) c.in-Ok-None.field-0-is c.in-Ok-None.ensures.ok in
    (went_to m n c.args.byte [] c.requires.within.is_open e).is_open

pub returns-then-not-fits-clause-fault : goal.returns-then-not-fits-clause-fault
returns-then-not-fits-clause-fault c = λ fault.
    let m = says c.args.self.now in
    let n = says c.take_byte.new.self in
    let e : go m c.args.byte ≡ gives [] n = subst (λ f. go m c.args.byte ≡ gives (given f) n) c.in-Ok-None.field-0-is c.in-Ok-None.ensures.ok in
    let made = subst (λ f. Made c.args.self.now c.take_byte.new.self f) c.in-Ok-None.field-0-is c.in-Ok-None.ensures.made in
    fails_within m n c.args.byte (c.take_byte.new.self.size + 1) e (counted_size m n c.args.byte c.args.self.now.size c.take_byte.new.self.size c.requires.within.is_open e c.requires.sized made.same) (sym c.fits.ensures ∙ c.if-not-fits.true)

pub returns-else-not-fits-clause-ok : goal.returns-else-not-fits-clause-ok
returns-else-not-fits-clause-ok c =
    let m = says c.args.self.now in
    let n = says c.take_byte.new.self in
    let e : go m c.args.byte ≡ gives [] n = subst (λ f. go m c.args.byte ≡ gives (given f) n) c.in-Ok-None.field-0-is c.in-Ok-None.ensures.ok in
    let made = subst (λ f. Made c.args.self.now c.take_byte.new.self f) c.in-Ok-None.field-0-is c.in-Ok-None.ensures.made in
    goes_within m n c.args.byte (c.take_byte.new.self.size + 1) e (counted_size m n c.args.byte c.args.self.now.size c.take_byte.new.self.size c.requires.within.is_open e c.requires.sized made.same) (sym c.fits.ensures ∙ c.if-not-fits.false)

pub returns-else-not-fits-clause-sized : goal.returns-else-not-fits-clause-sized
returns-else-not-fits-clause-sized c =
    let m = says c.args.self.now in
    let n = says c.take_byte.new.self in
    let e : go m c.args.byte ≡ gives [] n = subst (λ f. go m c.args.byte ≡ gives (given f) n) c.in-Ok-None.field-0-is c.in-Ok-None.ensures.ok in
    let made = subst (λ f. Made c.args.self.now c.take_byte.new.self f) c.in-Ok-None.field-0-is c.in-Ok-None.ensures.made in
    counted_size m n c.args.byte c.args.self.now.size c.take_byte.new.self.size c.requires.within.is_open e c.requires.sized made.same
