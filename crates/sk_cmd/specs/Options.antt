-- Options: in any order, each at most once, read word by word from left to right.
use Rattle.std.specs.Prelude.{◌≡◌, [], ◌∷◌, Some, None, is_some, Ok, Err, codes, Bool, true, false}
use Rattle.std.specs.Bool.{MatchBool}
use Rattle.sk_resp.specs.Spelling.{Bytes}
use Rattle.sk_resp.specs.Request.{Command as Words}
use Rattle.sk_cmd.specs.declared.cmd_fault.CmdFault.TheVariants as fault
use Rattle.sk_cmd.specs.declared.argument.Expire.{Expire}
use Rattle.sk_cmd.specs.declared.argument.Expire.TheVariants as expire
use Rattle.sk_cmd.specs.declared.argument.SetOptions.{SetOptions}
use Rattle.sk_cmd.specs.declared.argument.RangeOptions.{RangeOptions}
use Rattle.sk_cmd.specs.declared.options.SetSoFar.{SetSoFar}
use Rattle.sk_cmd.specs.declared.options.SetNext.{SetNext}
use Rattle.sk_cmd.specs.declared.options.SetNext.TheVariants as set
use Rattle.sk_cmd.specs.declared.options.RangeSoFar.{RangeSoFar}
use Rattle.sk_cmd.specs.declared.options.RangeNext.{RangeNext}
use Rattle.sk_cmd.specs.declared.options.RangeNext.TheVariants as range
use Rattle.sk_cmd.specs.Reading.{Read, Then}
use Rattle.sk_cmd.specs.Arguments.{Says, IsWhole}

-- ## SET: [NX] [EX seconds | PX milliseconds]

abbrev pub expires : Expire → Bool
expires expire.Never = false
expires (expire.Seconds n) = true
expires (expire.Millis n) = true

abbrev pub no_set_options : SetSoFar
no_set_options = record { only_new = false; expire = expire.Never; next = set.Word }

-- one word
abbrev pub IsSetWord : SetNext → Bytes → SetSoFar → Read SetSoFar → Type 0
IsSetWord set.Seconds word before out = Then (IsWhole word) out (λ n. out ≡ Ok (record before { expire = expire.Seconds n; next = set.Word }))
IsSetWord set.Millis word before out = Then (IsWhole word) out (λ n. out ≡ Ok (record before { expire = expire.Millis n; next = set.Word }))
IsSetWord set.Word word before out = Says word (codes "NX") (MatchBool before.only_new (out ≡ Err fault.Syntax) (out ≡ Ok (record before { only_new = true; next = set.Word })))
    (MatchBool (expires before.expire) (out ≡ Err fault.Syntax)
    (Says word (codes "EX") (out ≡ Ok (record before { next = set.Seconds }))
    (Says word (codes "PX") (out ≡ Ok (record before { next = set.Millis })) (out ≡ Err fault.Syntax))))

abbrev pub IsSetStep : Bytes → SetSoFar → Read SetSoFar → Type 0
IsSetStep word before out = IsSetWord before.next word before out

-- an option that wants a value isn't whole
abbrev pub IsSetLast : SetNext → SetSoFar → Read SetOptions → Type 0
IsSetLast set.Word before out = out ≡ Ok (record { only_new = before.only_new; expire = before.expire })
IsSetLast set.Seconds before out = out ≡ Err fault.Syntax
IsSetLast set.Millis before out = out ≡ Err fault.Syntax

abbrev pub IsSetEnd : SetSoFar → Read SetOptions → Type 0
IsSetEnd before out = IsSetLast before.next before out

abbrev pub IsSetOptions : Words → SetSoFar → Read SetOptions → Type 0
IsSetOptions [] before out = IsSetEnd before out
IsSetOptions (word ∷ more) before out = Then (IsSetStep word before) out (λ after. IsSetOptions more after out)

-- ## ZRANGEBYSCORE: [WITHSCORES] [LIMIT skip count]

abbrev pub no_range_options : RangeSoFar
no_range_options = record { with_scores = false; limit = None; next = range.Word }

abbrev pub IsRangeWord : RangeNext → Bytes → RangeSoFar → Read RangeSoFar → Type 0
IsRangeWord range.Skip word before out = Then (IsWhole word) out (λ skip. out ≡ Ok (record before { next = range.Count skip }))
IsRangeWord (range.Count skip) word before out = Then (IsWhole word) out (λ count. out ≡ Ok (record before { limit = Some (skip, count); next = range.Word }))
IsRangeWord range.Word word before out = Says word (codes "WITHSCORES") (MatchBool before.with_scores (out ≡ Err fault.Syntax) (out ≡ Ok (record before { with_scores = true; next = range.Word })))
    (Says word (codes "LIMIT") (MatchBool (is_some before.limit) (out ≡ Err fault.Syntax) (out ≡ Ok (record before { next = range.Skip }))) (out ≡ Err fault.Syntax))

abbrev pub IsRangeStep : Bytes → RangeSoFar → Read RangeSoFar → Type 0
IsRangeStep word before out = IsRangeWord before.next word before out

abbrev pub IsRangeLast : RangeNext → RangeSoFar → Read RangeOptions → Type 0
IsRangeLast range.Word before out = out ≡ Ok (record { with_scores = before.with_scores; limit = before.limit })
IsRangeLast range.Skip before out = out ≡ Err fault.Syntax
IsRangeLast (range.Count skip) before out = out ≡ Err fault.Syntax

abbrev pub IsRangeEnd : RangeSoFar → Read RangeOptions → Type 0
IsRangeEnd before out = IsRangeLast before.next before out

abbrev pub IsRangeOptions : Words → RangeSoFar → Read RangeOptions → Type 0
IsRangeOptions [] before out = IsRangeEnd before out
IsRangeOptions (word ∷ more) before out = Then (IsRangeStep word before) out (λ after. IsRangeOptions more after out)

-- ## ZRANGE: [WITHSCORES]

abbrev pub IsWithScores : Words → Read Bool → Type 0
IsWithScores [] out = out ≡ Ok false
IsWithScores (word ∷ more) out = Says word (codes "WITHSCORES") (out ≡ Ok true) (out ≡ Err fault.Syntax)
