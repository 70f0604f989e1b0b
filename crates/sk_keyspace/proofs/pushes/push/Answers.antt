use Rattle.std.proofs.Common.{◌≡◌, ◌∙◌, ap, false, length, subst, sym, true}
use Rattle.sk_resp.specs.declared.reply.Reply.{Reply}
use Rattle.sk_places.specs.declared.row.Place.TheVariants.{Queue}
use Rattle.sk_model.specs.Change.{perform}
use Rattle.sk_model.specs.Outcome.{Realizes}
use Rattle.sk_model.specs.Queues.{push, pushes}
use Rattle.sk_model.specs.Room.{HasRoom, bytes_of, is_full}
use Rattle.sk_model.proofs.Tools.Room.{room_left}
use Rattle.sk_store.specs.Stored.{world}
use Rattle.sk_keyspace.proofs.Editing.{full_comes, push_comes}
use Rattle.sk_keyspace.proofs.pushes.push.Goals as goal

pub returns-then-is_full : goal.returns-then-is_full
returns-then-is_full c =
    let w = world c.args.store.now in
    let full : is_full w c.args.texts ≡ true = sym (c.is_full.ensures c.args.texts (ap length c.list-count.ensures) (c.bytes_of-bytes.ensures ∙ ap bytes_of c.list.ensures)) ∙ c.if-is_full.true in
    (subst (λ (r : Reply). Realizes w (push w c.args.end (Queue c.args.queue) c.args.texts) r w) (sym c.refused.ensures) (full_comes w c.args.end (Queue c.args.queue) c.args.texts full), c.requires)

pub returns : goal.returns
returns c =
    let w = world c.args.store.now in
    let new = world c.push_all.new.store in
    let room : is_full w c.args.texts ≡ false = sym (c.is_full.ensures c.args.texts (ap length c.list-count.ensures) (c.bytes_of-bytes.ensures ∙ ap bytes_of c.list.ensures)) ∙ c.if-is_full.false in
    let pushed : new ≡ perform w (pushes c.args.end (Queue c.args.queue) c.args.texts) =
    c.in_ok-push_all.ensures.0 ∙ ap (λ texts. perform w (pushes c.args.end (Queue c.args.queue) texts)) (c.in_ok-payloads.ensures ∙ c.into_list.ensures) in (
      subst (λ (r : Reply). Realizes w (push w c.args.end (Queue c.args.queue) c.args.texts) r new) (sym c.counted.ensures)
          (push_comes w new c.len.result c.args.end (Queue c.args.queue) c.args.texts room pushed c.len.ensures.is),
      c.in_ok-push_all.ensures.1,
    )

pub push_all-requires-clause-room : goal.push_all-requires-clause-room
push_all-requires-clause-room c =
    let w = world c.args.store.now in
    let room : is_full w c.args.texts ≡ false = sym (c.is_full.ensures c.args.texts (ap length c.list-count.ensures) (c.bytes_of-bytes.ensures ∙ ap bytes_of c.list.ensures)) ∙ c.if-is_full.false in
    subst (λ texts. HasRoom (length texts) w.tally) (sym (c.in_ok-payloads.ensures ∙ c.into_list.ensures)) (room_left w c.args.texts room)
