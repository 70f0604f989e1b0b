use Rattle.std.proofs.Common.{◌≡◌, ◌-◌, ◌∙◌, ap, arith, length, map, subst, sym, true}
use Rattle.std.specs.List.{list_all}
use Rattle.sk_payload.specs.Member.{is_name}
use Rattle.sk_resp.specs.declared.reply.Reply.{Reply}
use Rattle.sk_model.specs.Change.{Names, perform}
use Rattle.sk_model.specs.Outcome.{Realizes}
use Rattle.sk_model.specs.Queues.{add_names}
use Rattle.sk_store.specs.Stored.{world}
use Rattle.sk_keyspace.proofs.Editing.{names_come}
use Rattle.sk_keyspace.proofs.names.add_names.Goals as goal

pub returns : goal.returns
returns c =
    let w = world c.args.store.now in
    let new = world c.name_all.new.store in
    let are : list_all (is_name 255) c.args.names ≡ true = grind (arith, c.are_names.ensures, c.list.ensures, c.if-not-are_names.false) in
    let named : new ≡ perform w (map Names c.args.names) = c.in_ok-name_all.ensures.0 ∙ ap (λ names. perform w (map Names names)) c.into_list.ensures in
    let number : c.saturating_sub.result ≡ length new.names - length w.names = grind (arith, c.saturating_sub.ensures, c.name_count.ensures.is, c.name_count-before.ensures.is) in
    (subst (λ (r : Reply). Realizes w (add_names w c.args.names) r new) (sym c.counted.ensures) (names_come w new c.args.names c.saturating_sub.result are named number), c.in_ok-name_all.ensures.1)

pub name_all-requires-clause-names : goal.name_all-requires-clause-names
name_all-requires-clause-names c =
    let are : list_all (is_name 255) c.args.names ≡ true = grind (arith, c.are_names.ensures, c.list.ensures, c.if-not-are_names.false) in
    ap (list_all (is_name 255)) c.into_list.ensures ∙ are
