use Rattle.std.proofs.Common.{◌++◌, ◌∷◌, [], ◌∙◌, ap, ap₂, pos, sym}
use Rattle.sk_counters.proofs.Dates.{date_is}
use Rattle.sk_counters.proofs.day.of_day.Goals as goal

pub returns : goal.returns
returns c =
    let date = date_is c.args.moment c.date_of.result c.requires (c.date_of.ensures ∙ ap pos c.day_of.ensures) in
    let text = c.as_bytes.ensures.value ∙ c.as_str.ensures.value ∙ c.date_text-date.ensures ∙ sym date in
    let name = c.in_ok-extend_from_slice.ensures.items ∙ ap (λ none. none ++ c.args.name.now) c.in_ok-bytes.ensures.items in
    let front = c.in_ok-push.ensures.items ∙ ap (λ name. name ++ 58 ∷ []) name in
    c.new-2.ensures ∙ c.in_ok-extend_from_slice-2.ensures.items ∙ ap₂ (λ a b. a ++ b) front text
