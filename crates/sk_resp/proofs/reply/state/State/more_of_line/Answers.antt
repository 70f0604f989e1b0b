use Rattle.std.proofs.Common.{length, take, subst, arith, length-take-le}
use Rattle.sk_resp.specs.ReplyMachine.{levels, IsOpenAt}
use Rattle.sk_resp.proofs.ReplySizes.{body_taken, simple_taken, error_taken}
use Rattle.sk_resp.proofs.reply.state.State.more_of_line.Goals as goal

pub returns-in-Body-clause-goes : goal.returns-in-Body-clause-goes
returns-in-Body-clause-goes c =
    let s = c.args.self.now in
    let is_open = subst (λ stage. IsOpenAt stage s.line.items (length (levels s.stack.items))) c.in-Body.is c.requires.within.is_open.0 in
    body_taken s.stage s.line.items (levels s.stack.items) c.in-Body.need (take c.min.result c.args.input.now) c.in-Body.is (omega (arith, is_open.0, c.len.ensures, c.min.ensures, length-take-le c.min.result c.args.input.now)) c.requires.within.small

pub returns-in-Simple-clause-goes : goal.returns-in-Simple-clause-goes
returns-in-Simple-clause-goes c =
    let s = c.args.self.now in
    let n = c.plain_front.result in
    let len = length-take-le n c.args.input.now in
    simple_taken s.stage s.line.items (levels s.stack.items) (take n c.args.input.now) s.size c.in-Simple.is c.requires.sized c.plain_front.ensures.plain
    (omega (arith, len, c.plain_front.ensures.most, c.text_room.ensures.short)) (omega (arith, len, c.plain_front.ensures.most, c.text_room.ensures.small))

pub returns-in-Error-clause-goes : goal.returns-in-Error-clause-goes
returns-in-Error-clause-goes c =
    let s = c.args.self.now in
    let n = c.plain_front-in-Error.result in
    let len = length-take-le n c.args.input.now in
    error_taken s.stage s.line.items (levels s.stack.items) (take n c.args.input.now) s.size c.in-Error.is c.requires.sized c.plain_front-in-Error.ensures.plain
    (omega (arith, len, c.plain_front-in-Error.ensures.most, c.text_room-in-Error.ensures.short)) (omega (arith, len, c.plain_front-in-Error.ensures.most, c.text_room-in-Error.ensures.small))
