use Rattle.std.proofs.Common.{◌∙◌, ap}
use Rattle.sk_payload.specs.Member.{is_name}
use Rattle.sk_key.proofs.Named.{queue_is_named}
use Rattle.sk_key.proofs.key_class.queue_of.Goals as goal

pub name_text-requires : goal.name_text-requires
name_text-requires c = ap (is_name 255) c.behind.ensures ∙ queue_is_named c.args.key c.requires
