use Rattle.std.proofs.Common.{◌<◌, arith, length, subst, sym}
use Rattle.sk_undo.specs.Entries.{keys_in}
use Rattle.sk_undo.proofs.Copies.{key_at, length_keys}
use Rattle.sk_undo.proofs.undo_multiset.UndoMultiset.at.Goals as goal

pub get-requires : goal.get-requires
get-requires g c =
    let current = c.self.inside.keys.list.current in
    let within : c.args.index < length (keys_in current) = subst (λ v. c.args.index < length v.list.current) (sym c.self.view_is) c.requires in
    let len = length_keys current in
    omega (arith, within, len)

pub returns : goal.returns
returns g c =
    let current = c.self.inside.keys.list.current in
    let within : c.args.index < length (keys_in current) = subst (λ v. c.args.index < length v.list.current) (sym c.self.view_is) c.requires in
    let len = length_keys current in
    let inside : c.args.index < length current = omega (arith, within, len) in
    rw (← c.self.view_is) (key_at current c.args.index c.get.result.now inside c.get.ensures)
