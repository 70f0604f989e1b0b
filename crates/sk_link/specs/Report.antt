-- What the commands answer that move or bury rows: an array of two numbers, how many were moved and how many were buried, and of two arrays, the
-- callbacks that fired and the texts that were trimmed. The elements of an array are seen as their texts.
use Rattle.std.specs.Prelude.{ℕ, ℤ, pos, negsuc, true, false, ◌-◌, Bool, ◌&&◌, ◌==◌, List, [], ◌∷◌, Option, Some, None, length, take, drop, get_or, bytes_eq, nat_le, option_map, option_and_then, if◌then◌else◌}
use Rattle.std.specs.Fmt.{decimal}
use Rattle.std.specs.Str.Parse.{digits_value}
use Rattle.sk_base.specs.declared.limits.TheConstants.{MOST_REPORTED}
use Rattle.sk_resp.specs.Spelling.{Bytes, line, colon, star}
use Rattle.sk_resp.specs.declared.reply.Reply.{Reply}
use Rattle.sk_resp.specs.declared.reply.Reply.TheVariants as reply
use Rattle.sk_link.specs.declared.report.Report.{Report}

-- the digits between `:` and CR LF
abbrev pub digits_of : Bytes → Bytes
digits_of text = take (length text - 3) (drop 1 text)

-- the number from 0 to 2^62 that a text is
abbrev pub count_of : Bytes → Option ℕ
count_of text = let n = digits_value 10 (digits_of text) in if nat_le n MOST_REPORTED && bytes_eq text (line (colon ∷ decimal n)) then Some n else None

-- the number that an integer is, from 0 to 2^62
abbrev pub as_count : ℤ → Option ℕ
as_count (pos n) = if nat_le n MOST_REPORTED then Some n else None
as_count (negsuc n) = None

-- an array, or the null array
abbrev pub is_array : Bytes → Bool
is_array text = get_or text 0 0 == star

-- a report with these two numbers
abbrev pub with_counts : Option ℕ → Option ℕ → Option Report
with_counts moved buried = option_and_then (λ m. option_map (λ b. record { moved = m; buried = b }) buried) moved

abbrev pub report_in : List Bytes → Option Report
report_in (moved ∷ buried ∷ fired ∷ trimmed ∷ []) = if is_array fired && is_array trimmed then with_counts (count_of moved) (count_of buried) else None
report_in texts = None

-- the report that a reply is
abbrev pub report_of : Reply → Option Report
report_of (reply.Array texts) = report_in texts
report_of r = None

-- ## Elements that aren't seen as their texts

abbrev pub int_of : Reply → Option ℤ
int_of (reply.Int z) = Some z
int_of r = None

abbrev pub is_array_reply : Reply → Bool
is_array_reply (reply.Array texts) = true
is_array_reply reply.NullArray = true
is_array_reply r = false
