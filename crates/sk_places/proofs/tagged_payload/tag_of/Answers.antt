use Rattle.std.proofs.Common.{ap, option_map, sym, ◌∙◌}
use Rattle.sk_places.specs.Tags.{number_at_end}
use Rattle.sk_places.proofs.Tags.{tag_named, tag_unnamed}
use Rattle.sk_places.proofs.tagged_payload.tag_of.Goals as goal

pub returns-in-Some : goal.returns-in-Some
returns-in-Some c = c.number_at_end.ensures ∙ tag_named c.args.payload.now c.in-Some.jid.now (sym c.jid.ensures ∙ ap (option_map (λ jid. jid.now)) c.in-Some.is)

pub returns-in-None : goal.returns-in-None
returns-in-None c = c.number_at_end-in-None.ensures ∙ ap number_at_end (c.bytes.ensures ∙ c.text.ensures) ∙ tag_unnamed c.args.payload.now (sym c.jid.ensures ∙ ap (option_map (λ jid. jid.now)) c.in-None.is)
