use Rattle.std.proofs.Common.{◌-◌, length, take, drop, ap, arith, length-drop}
use Rattle.std.proofs.lemmas.List.{length-take}
use Rattle.sk_link.proofs.Unread.{read_same, written}
use Rattle.sk_link.proofs.receiving.read_more.Goals as goal

pub returns-in-Ok-clause-same : goal.returns-in-Ok-clause-same
returns-in-Ok-clause-same g c =
    let old = c.args.buffer.now.items in
    let room = c.deref_mut.result.now in
    let len = c.len-len.result in
    let k = c.in_ok-grow.ensures in
    let a = c.len-len.ensures in
    let l = c.deref_mut.ensures.len in
    let w = c.in-Ok.ensures.within in
    let b = c.read.auto.buf in
    let t = length-take (length room - len) (drop len room) in
    let d = length-drop len room in
    let v = ap (λ xs. length xs) c.deref_mut.ensures.value in
    read_same old c.truncate.new.self.items (take c.in-Ok.n c.read.new.buf) (g.S.Source.left c.args.source.now) (g.S.Source.left c.read.new.self)
    (written old room c.read.new.buf _ _ c.truncate.new.self.items len c.in-Ok.n c.grow.new.buffer.len c.truncate.ensures.items
    (grind (arith, w, a, l, t, d, v, k.size)) (grind (arith, a, c.deref_mut.ensures.value, k.front)) (grind (arith, a)) (omega (arith, w, b)))
    c.in-Ok.ensures.told
