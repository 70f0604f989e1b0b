use Rattle.std.proofs.Common.{◌≡◌, ◌≤◌, drop}
use Rattle.std.specs.Str.Parse.{digits_value_after}
use Rattle.sk_base.specs.Score.{IsDigits, greatest}
use Rattle.sk_base.proofs.score.number.Given as goal

abbrev pub invariant-loop-digit : goal.invariant-loop-digit
invariant-loop-digit l = record {
  small : l.n ≤ greatest;
  digits : IsDigits (drop l.digit-index l.digits);
  value : digits_value_after 10 l.fn.n l.digits ≡ digits_value_after 10 l.n (drop l.digit-index l.digits);
}
