use Rattle.std.proofs.Common.{◌+◌, [], take, refl, sym, ap, ◌∙◌, arith, length-take-le}
use Rattle.sk_resp.specs.ReplyMachine.{says, levels, at, gives}
use Rattle.sk_resp.proofs.ReplySizes.{taken_size}
use Rattle.sk_resp.proofs.reply.state.State.take_some.Goals as goal

pub returns-then-taken-gt0-clause-sized : goal.returns-then-taken-gt0-clause-sized
returns-then-taken-gt0-clause-sized c =
    let s = c.args.self.now in
    let n = c.more_of_line-taken.result in
    let text = take n c.args.input.now in
    let line = c.extend_from_slice.new.self.items in
    taken_size (says s) (at s.stage line (levels s.stack.items)) s.size (s.size + n) text c.requires.within
    (c.more_of_line-taken.ensures.goes ∙ ap (λ z. gives [] (at s.stage z (levels s.stack.items))) (sym c.in_ok-extend_from_slice.ensures.items)) c.requires.sized
    (omega (arith, c.more_of_line-taken.ensures.fits, length-take-le n c.args.input.now)) refl
