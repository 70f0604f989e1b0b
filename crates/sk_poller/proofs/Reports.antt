-- The numbers of a report are at most 2^62.
use Rattle.std.proofs.Common.{◌≡◌, ◌≤◌, ◌&&◌, ℕ, Bool, true, false, List, [], ◌∷◌, refl, ap, Option, Some, None}
use Rattle.std.specs.Prelude.{if◌then◌else◌, nat_le, bytes_eq}
use Rattle.std.specs.Fmt.{decimal}
use Rattle.std.specs.Str.Parse.{digits_value}
use Rattle.std.proofs.lemmas.Bool.{leb-true}
use Rattle.sk_base.specs.declared.limits.TheConstants.{MOST_REPORTED}
use Rattle.sk_resp.specs.Spelling.{Bytes, line, colon}
use Rattle.sk_resp.specs.declared.reply.Reply.{Reply}
use Rattle.sk_resp.specs.declared.reply.Reply.TheVariants as reply
use Rattle.sk_link.specs.Report.{count_of, digits_of, is_array, report_in, report_of, with_counts}
use Rattle.sk_link.specs.declared.report.Report.{Report}

both_then : (a b : Bool) (x y : ℕ) → (if a && b then Some x else None) ≡ Some y → (a ≡ true) × (y ≡ x)
both_then true true x y e = let f : Some x ≡ Some y = e in (refl, cc)
both_then true false x y e = let f : None ≡ Some y = e in absurd (cc f)
both_then false b x y e = let f : None ≡ Some y = e in absurd (cc f)

small : (text : Bytes) (n : ℕ) → count_of text ≡ Some n → n ≤ MOST_REPORTED
small text n e =
    let v = digits_value 10 (digits_of text) in
    let h = both_then (nat_le v MOST_REPORTED) (bytes_eq text (line (colon ∷ decimal v))) v n e in
    let le : v ≤ MOST_REPORTED = leb-true v MOST_REPORTED h.0 in
    rw h.1 le

abbrev of_counts : ℕ → ℕ → Report
of_counts moved buried = record { moved = moved; buried = buried }

counted : (moved buried : Option ℕ) (report : Report) → with_counts moved buried ≡ Some report → (moved ≡ Some report.moved) × (buried ≡ Some report.buried)
counted None buried report e = let f : None ≡ Some report = e in absurd (cc f)
counted (Some m) None report e = let f : None ≡ Some report = e in absurd (cc f)
counted (Some m) (Some b) report e =
    let f : Some (of_counts m b) ≡ Some report = e in
    let g : of_counts m b ≡ report = cc f in
    (ap (λ r. Some r.moved) g, ap (λ r. Some r.buried) g)

arrays_then : (a b : Bool) (o : Option Report) (report : Report) → (if a && b then o else None) ≡ Some report → o ≡ Some report
arrays_then true true o report e = e
arrays_then true false o report e = let f : None ≡ Some report = e in absurd (cc f)
arrays_then false b o report e = let f : None ≡ Some report = e in absurd (cc f)

in_elements : (texts : List Bytes) (report : Report) → report_in texts ≡ Some report → (report.moved ≤ MOST_REPORTED) × (report.buried ≤ MOST_REPORTED)
in_elements (moved ∷ buried ∷ fired ∷ trimmed ∷ []) report e =
    let h = counted (count_of moved) (count_of buried) report (arrays_then (is_array fired) (is_array trimmed) (with_counts (count_of moved) (count_of buried)) report e) in
    (small moved report.moved h.0, small buried report.buried h.1)
in_elements texts report e = let f : None ≡ Some report = e in absurd (cc f)

pub reported : (r : Reply) (report : Report) → report_of r ≡ Some report → (report.moved ≤ MOST_REPORTED) × (report.buried ≤ MOST_REPORTED)
reported (reply.Array texts) report e = in_elements texts report e
reported r report e = let f : None ≡ Some report = e in absurd (cc f)
