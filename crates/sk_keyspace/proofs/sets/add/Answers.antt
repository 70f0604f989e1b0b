use Rattle.std.proofs.Common.{◌≡◌, ◌-◌, ◌∙◌, List, ap, arith, false, length, map, subst, sym, true}
use Rattle.sk_resp.specs.Spelling.{Bytes}
use Rattle.sk_resp.specs.declared.reply.Reply.{Reply}
use Rattle.sk_value.specs.Answer.{counted}
use Rattle.sk_zset.specs.Pair.{Pair}
use Rattle.sk_places.specs.declared.row.Place.TheVariants.{Set}
use Rattle.sk_places.specs.Rows.{rows_at}
use Rattle.sk_model.specs.Outcome.{Realizes}
use Rattle.sk_model.specs.Room.{HasRoom, bytes_of, is_full}
use Rattle.sk_model.specs.Sets.{add}
use Rattle.sk_model.proofs.Tools.Room.{room_left}
use Rattle.sk_store.specs.Stored.{world}
use Rattle.sk_store.proofs.Bytes.{how_many_pairs}
use Rattle.sk_keyspace.proofs.Editing.{add_comes, add_full}
use Rattle.sk_keyspace.proofs.sets.add.Goals as goal

pub returns-then-is_full : goal.returns-then-is_full
returns-then-is_full c =
    let w = world c.args.store.now in
    let pairs = c.into_list-pairs.result.items in
    let full : is_full w (map (λ (pair : Pair). pair.1) pairs) ≡ true =
    sym (c.is_full.ensures (map (λ (pair : Pair). pair.1) pairs) (omega (arith, c.len.ensures, how_many_pairs pairs)) (c.bytes_scored.ensures ∙ ap (λ list. bytes_of (map (λ (pair : Pair). pair.1) list)) c.deref.ensures.value)) ∙ c.if-is_full.true in
    (subst (λ (r : Reply). Realizes w (add w c.args.set c.args.scores) r w) (sym c.refused.ensures) (subst (λ list. Realizes w (add w c.args.set list) _ w) c.into_list-pairs.ensures (add_full w c.args.set pairs full)), c.requires)

pub returns : goal.returns
returns c =
    let w = world c.args.store.now in
    let new = world c.add_all.new.store in
    let pairs = c.into_list-pairs.result.items in
    let room : is_full w (map (λ (pair : Pair). pair.1) pairs) ≡ false =
    sym (c.is_full.ensures (map (λ (pair : Pair). pair.1) pairs) (omega (arith, c.len.ensures, how_many_pairs pairs)) (c.bytes_scored.ensures ∙ ap (λ list. bytes_of (map (λ (pair : Pair). pair.1) list)) c.deref.ensures.value)) ∙ c.if-is_full.false in
    let number : c.saturating_sub.result ≡ length (rows_at (Set c.args.set) new.rows) - length (rows_at (Set c.args.set) w.rows) = grind (arith, c.saturating_sub.ensures, c.len-after.ensures.is, c.len-before.ensures.is) in (
      subst (λ (r : Reply). Realizes w (add w c.args.set c.args.scores) r new) (sym c.counted.ensures)
          (subst (λ list. Realizes w (add w c.args.set list) (counted c.saturating_sub.result) new) c.into_list-pairs.ensures
          (add_comes w new c.saturating_sub.result c.args.set pairs room c.in_ok-add_all.ensures.0 number)),
      c.in_ok-add_all.ensures.1,
    )

pub add_all-requires-clause-room : goal.add_all-requires-clause-room
add_all-requires-clause-room c =
    let w = world c.args.store.now in
    let pairs = c.into_list-pairs.result.items in
    let texts : List Bytes = map (λ (pair : Pair). pair.1) pairs in
    let room : is_full w texts ≡ false =
    sym (c.is_full.ensures texts (omega (arith, c.len.ensures, how_many_pairs pairs)) (c.bytes_scored.ensures ∙ ap (λ list. bytes_of (map (λ (pair : Pair). pair.1) list)) c.deref.ensures.value)) ∙ c.if-is_full.false in
    subst (λ n. HasRoom n w.tally) (how_many_pairs pairs) (room_left w texts room)
