use Rattle.std.proofs.Common.{arith}
use Rattle.sk_edge.specs.RequestLine.{Lacks, StandsFirst}
use Rattle.sk_edge.proofs.Requests.{begins_at, passes_at, passes_long, passes_star}
use Rattle.sk_edge.proofs.first_line.line_stage.Goals as goal
use Rattle.sk_edge.proofs.first_line.line_stage.Goals.{else-at-le-LONGEST_INLINE-via-then-at-le-LONGEST_INLINE+else-is_request, else-at-le-LONGEST_INLINE-via-else-at-le-LONGEST_INLINE}

pub returns-then-is_array-clause-passed : goal.returns-then-is_array-clause-passed
returns-then-is_array-clause-passed c =
    let is = c.is_array.ensures.star c.if-is_array.true in
    λ e. passes_star c.args.bytes.now is.0 is.1

pub returns-then-is_request-clause-shut : goal.returns-then-is_request-clause-shut
returns-then-is_request-clause-shut c =
    let first : StandsFirst 10 c.args.bytes.now c.in-Some.at = c.in-Some.ensures in
    λ e. begins_at c.args.bytes.now c.in-Some.at first (c.is_array.ensures.plain (λ t. cc)) c.if-at-le-LONGEST_INLINE.true
    (c.is_request.ensures.0 c.if-is_request.true)

pub returns-else-at-le-LONGEST_INLINE-clause-passed : goal.returns-else-at-le-LONGEST_INLINE-clause-passed
returns-else-at-le-LONGEST_INLINE-clause-passed c =
    let first : StandsFirst 10 c.args.bytes.now c.in-Some.at = c.in-Some.ensures in
    λ e. passes_at c.args.bytes.now c.in-Some.at first (λ r short. elim c.else-at-le-LONGEST_INLINE.branch [
      | else-at-le-LONGEST_INLINE-via-then-at-le-LONGEST_INLINE+else-is_request w ↦ let is = w.is_request.ensures.1 r in cc
      | else-at-le-LONGEST_INLINE-via-else-at-le-LONGEST_INLINE w ↦ omega (arith, short)
    ])

pub returns-else-bytes-le-LONGEST_INLINE-clause-passed : goal.returns-else-bytes-le-LONGEST_INLINE-clause-passed
returns-else-bytes-le-LONGEST_INLINE-clause-passed c =
    let none : Lacks 10 c.args.bytes.now = c.in-None.ensures in
    λ e. passes_long c.args.bytes.now none c.if-bytes-le-LONGEST_INLINE.false
