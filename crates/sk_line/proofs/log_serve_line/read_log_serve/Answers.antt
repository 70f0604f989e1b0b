use Rattle.std.proofs.Common.{◌≡◌, ◌∙◌, ap, map, refl, true}
use Rattle.std.specs.Prelude.{string_bytes}
use Rattle.clap.specs.Words.{is_simple_and_free}
use Rattle.clap.proofs.OnLiterals.{clap_on_literals}
use Rattle.sk_line.specs.LogServe.{log_serve_app, IsLogServeValues}
use Rattle.sk_line.proofs.Reading.{line_read}
use Rattle.sk_line.proofs.log_serve_line.read_log_serve.Goals as goal

simple : is_simple_and_free log_serve_app ≡ true
unfolding clap_on_literals
simple = refl

pub matches_of-requires : goal.matches_of-requires
matches_of-requires c = ap is_simple_and_free c.in_ok-command.ensures ∙ simple

pub returns : goal.returns
returns c = line_read IsLogServeValues _ _ (map string_bytes c.args.words.now) _ c.line_of.result c.in_ok-command.ensures c.in_ok-matches.ensures.taken c.in_ok-matches.ensures.values c.line_of.ensures
