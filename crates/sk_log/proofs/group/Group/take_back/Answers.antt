use Rattle.std.proofs.Common.{◌≡◌, ◌+◌, ◌-◌, ◌∷◌, [], List, ℕ, length, take, arith, ap, ◌∙◌, length-append}
use Rattle.sk_log.specs.File.{records}
use Rattle.sk_log.proofs.Writing.{group_len, group_less}
use Rattle.sk_log.proofs.group.Group.take_back.Goals as goal

pub overflow_sub-len : goal.overflow_sub-len
overflow_sub-len c = omega (arith, c.len.ensures, ap length c.self.view_is, group_len c.requires.0 c.args.entry.now c.args.self.now c.bytes.result.now c.requires.1 c.bytes.ensures)

pub overflow_sub-len-2 : goal.overflow_sub-len-2
overflow_sub-len-2 c = omega (arith, c.len.ensures, ap length c.self.view_is, group_len c.requires.0 c.args.entry.now c.args.self.now c.bytes.result.now c.requires.1 c.bytes.ensures)

pub index_mut-requires : goal.index_mut-requires
index_mut-requires c =
    omega (arith, c.truncate.ensures.len, c.len.ensures, ap length c.self.view_is, group_len c.requires.0 c.args.entry.now c.args.self.now c.bytes.result.now c.requires.1 c.bytes.ensures)

pub invariant_of-self : goal.invariant_of-self
invariant_of-self c =
    let len : ℕ = c.len.result - length c.bytes.result.now in
    let long : len + length c.bytes.result.now ≡ length c.args.self.now =
    omega (arith, c.len.ensures, ap length c.self.view_is, group_len c.requires.0 c.args.entry.now c.args.self.now c.bytes.result.now c.requires.1 c.bytes.ensures) in
    let less = group_less c.requires.0 c.args.entry.now c.args.self.now c.bytes.result.now c.requires.1 c.bytes.ensures len c.truncate.new.self.items long (c.truncate.ensures.items ∙ ap (λ (l : List ℕ). take len l) c.self.view_is) in
    omega (arith, ap length less.is, length-append (records c.requires.0) (0 ∷ []))

pub returns : goal.returns
returns c = λ bodies g.
    let len : ℕ = c.len.result - length c.bytes.result.now in
    let long : len + length c.bytes.result.now ≡ length c.args.self.now =
    omega (arith, c.len.ensures, ap length c.self.view_is, group_len bodies c.args.entry.now c.args.self.now c.bytes.result.now g c.bytes.ensures) in
    group_less bodies c.args.entry.now c.args.self.now c.bytes.result.now g c.bytes.ensures len c.truncate.new.self.items long (c.truncate.ensures.items ∙ ap (λ (l : List ℕ). take len l) c.self.view_is)
