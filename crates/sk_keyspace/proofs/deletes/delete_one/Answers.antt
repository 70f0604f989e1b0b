use Rattle.std.proofs.Common.{◌∙◌, ap, subst, sym}
use Rattle.std.specs.Prelude.{nat_lt}
use Rattle.sk_key.specs.Class.{class_of}
use Rattle.sk_key.specs.declared.key_class.KeyClass.{KeyClass}
use Rattle.sk_model.specs.Deletes.{delete_as}
use Rattle.sk_store.specs.Stored.{world}
use Rattle.sk_keyspace.specs.Deleted.{Deletes}
use Rattle.sk_keyspace.proofs.Deleting.{jobs_deleted, one_if}
use Rattle.sk_keyspace.proofs.deletes.delete_one.Goals as goal

pub returns-in-Jobs-clause-done : goal.returns-in-Jobs-clause-done
returns-in-Jobs-clause-done c =
    let s = c.args.store.now in
    let new = c.remove_all.new.self in
    let was = nat_lt 0 c.remove_all.result in
    subst (λ (k : KeyClass). Deletes (world s) (delete_as (world s) c.args.key k) (one_if was) (world (record s { places = new }))) (sym (ap class_of (sym c.bytes.ensures) ∙ sym c.class_of.ensures ∙ c.in-Jobs.is))
    (jobs_deleted s c.args.key c.in-Jobs.set new was (ap (nat_lt 0) c.remove_all.ensures.count) c.remove_all.ensures.rest)
