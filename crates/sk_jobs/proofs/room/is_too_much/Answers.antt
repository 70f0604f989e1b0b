use Rattle.std.proofs.Common.{◌≡◌, ◌+◌, ◌<◌, ◌∙◌, ◌∷◌, [], ap, arith, length, refl, sym}
use Rattle.sk_resp.specs.Spelling.{Bytes}
use Rattle.sk_model.specs.Room.{bytes_of}
use Rattle.sk_model.proofs.Tools.Room.{room_left}
use Rattle.sk_store.specs.Stored.{world}
use Rattle.sk_jobs.proofs.UniquePushes.{size_is}
use Rattle.sk_jobs.proofs.room.is_too_much.Goals as goal

pub returns-clause-is : goal.returns-clause-is
returns-clause-is c = c.is_full.ensures (c.args.payload.now ∷ []) refl (size_is c.args.payload.now c.bytes.result.now (c.bytes.ensures ∙ c.text.ensures))

pub returns-clause-room : goal.returns-clause-room
returns-clause-room c = λ few.
    let size = size_is c.args.payload.now c.bytes.result.now (c.bytes.ensures ∙ c.text.ensures) in
    let some : 0 < 1 = omega arith in
    let room = room_left (world c.args.store.now) (c.args.payload.now ∷ []) (sym (c.is_full.ensures (c.args.payload.now ∷ []) refl size) ∙ few) some in
    omega (arith, room)
