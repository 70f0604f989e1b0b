use Rattle.std.proofs.Common.{rules, refl, subst, sym, ◌∙◌, ◌≡◌, MatchOption, true, false, ap, get_or, ◌+◌}
use Rattle.sk_cron.specs.CronText.{five, minutes}
use Rattle.sk_cron.specs.declared.parser_state.Role.TheVariants as role
use Rattle.sk_cron.specs.declared.parser_state.ParserState.TheVariants as state
use Rattle.sk_cron.specs.Reading.{after, go}
use Rattle.sk_cron.proofs.Taking.{Follows, comma_step, space_step, stays, commas, spaces}
use Rattle.sk_cron.proofs.reader.Reader.take.Goals as goal

-- src/reader.rt:53:17
pub add-requires-clause-step : goal.add-requires-clause-step
add-requires-clause-step c = comma_step c.bounds_of.result c.args.self.now.state c.args.byte _ (sym c.after.ensures ∙ c.in-Comma.is)

-- src/reader.rt:60:17
pub add-requires-in-Space-clause-step : goal.add-requires-in-Space-clause-step
add-requires-in-Space-clause-step c = space_step c.bounds_of.result c.args.self.now.state c.args.byte _ (sym c.after.ensures ∙ c.in-Space.is)

-- src/reader.rt:45:5
pub returns-in-Stays-clause-is : goal.returns-in-Stays-clause-is
returns-in-Stays-clause-is c = λ m a.
    stays m _ _ _ a (ap (λ b. after b c.args.self.now.state c.args.byte) (sym c.bounds_of.ensures) ∙ sym c.after.ensures ∙ c.in-Stays.is)

-- src/reader.rt:45:5
pub returns-in-Comma-clause-is : goal.returns-in-Comma-clause-is
returns-in-Comma-clause-is c = λ m a.
    subst (λ at. Follows (go m c.args.byte) (record { fields = c.add.new.self.fields; at = at; state = state.Ask role.First })) (sym c.add.ensures.others.0)
    (commas m c.args.self.now c.args.byte _ c.add.new.self.fields a (ap (λ b. after b c.args.self.now.state c.args.byte) (sym c.bounds_of.ensures) ∙ sym c.after.ensures ∙ c.in-Comma.is)
    (c.add.ensures.fields m.done m.parts a.done a.fields))

-- src/reader.rt:45:5
pub returns-else-self-eq4-clause-is : goal.returns-else-self-eq4-clause-is
returns-else-self-eq4-clause-is c = λ m a.
    subst (λ at. Follows (go m c.args.byte) (record { fields = c.add-in-Space.new.self.fields; at = at + 1; state = state.Gap })) (sym c.add-in-Space.ensures.others.0)
    (spaces m c.args.self.now c.args.byte _ c.add-in-Space.new.self.fields a (ap (λ b. after b c.args.self.now.state c.args.byte) (sym c.bounds_of.ensures) ∙ sym c.after.ensures ∙ c.in-Space.is)
    c.if-self-eq4.false (c.add-in-Space.ensures.fields m.done m.parts a.done a.fields))
