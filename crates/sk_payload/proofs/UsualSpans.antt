-- The spans of a text's head, and that its names are text.
use Rattle.std.proofs.Common.{◌≡◌, List, ℕ, Bool, true, false, cond, if◌then◌else◌, Option, Some, None, IfSome, option_and_then, unwrap_or, codes, refl, sym, ap, subst}
use Rattle.std.specs.Str.{IsUtf8}
use Rattle.std.proofs.lemmas.Option.{same_Some, option_and_then_some}
use Rattle.serde_json.specs.Data.{Data, Members, object}
use Rattle.serde_json.specs.Find.{as_str, get}
use Rattle.serde_json.specs.Written.{members_have_float}
use Rattle.sk_resp.specs.Spelling.{Bytes}
use Rattle.sk_payload.specs.Head.{head, head_of_value, head_of_object}
use Rattle.sk_payload.specs.JobHead.{HasParts, head_in, no_head}
use Rattle.sk_payload.specs.Json.{value, is_short}
use Rattle.sk_payload.specs.Member.{is_name, name_of, required}
use Rattle.sk_payload.specs.Spans.{AreSpans, HasSpans}
use Rattle.sk_payload.specs.Usual.{Tells, head_of_sketch}
use Rattle.sk_payload.specs.declared.front.Found.{Found}
use Rattle.sk_payload.specs.declared.head.Head.{Head}
use Rattle.sk_payload.specs.declared.job_head.Parts.{Parts}
use Rattle.sk_payload.specs.declared.job_head.Parts.TheVariants as parts
use Rattle.sk_payload.specs.declared.sketch.Sketch.{Sketch}
use Rattle.sk_payload.specs.declared.spans.Spans.{Spans}
use Rattle.sk_payload.proofs.Heads.{next_of_object, sound_of}
use Rattle.sk_payload.proofs.Names.{is_name-Decides}
use Rattle.sk_payload.proofs.Usual.{head_of_usual}

-- The spans of what a sketch shows are those of the text's head.
pub has_usual_spans : (text : Bytes) (found : List (Option Found)) (s : Sketch) (r : Option Spans) → ((ms : Members) × (IsUtf8 text → value text ≡ Some (object ms)) × (members_have_float ms ≡ false) × (is_short (object ms) ≡ true) × Tells found ms) → IsUtf8 text
    → ((ms : Members) → Tells found ms → head_of_object (object ms) ≡ Some (head_of_sketch s)) → IfSome r (λ p. AreSpans p text (head_of_sketch s)) → IfSome r (λ p. HasSpans p text)
has_usual_spans text found s None is utf8 drawn at = tt
has_usual_spans text found s (Some p) is utf8 drawn at = (head_of_sketch s, head_of_usual text found (Some s) is utf8 drawn, at)

-- ---- names are text

name_at : (most : ℕ) (s t : Bytes) (b : Bool) → is_name most s ≡ b → cond b (Some s) None ≡ Some t → IsUtf8 t
name_at most s t true is same = subst IsUtf8 (same_Some s t same) ((is_name-Decides most s).0 is).utf8
name_at most s t false is same = absurd (cc)

name_is_text : (most : ℕ) (o : Option Data) (t : Bytes) → required (name_of most) o ≡ Some t → IsUtf8 t
name_is_text most o t is =
    option_and_then_some (name_of most) o t is (λ d at of. option_and_then_some (λ s. if is_name most s then Some s else None) (as_str d) t of (λ s named same. name_at most s t (is_name most s) refl same))

object_names : (d : Data) (h : Head) → head_of_object d ≡ Some h → IsUtf8 h.jid × IsUtf8 h.queue
object_names d h is =
    let found = next_of_object d h is in
    (name_is_text 64 (get (codes "jid") d) h.jid found.3, name_is_text 255 (get (codes "queue") d) h.queue found.4)

-- The id and the queue of a head are text.
pub names_are_text : (text : Bytes) (h : Head) → head text ≡ Some h → IsUtf8 h.jid × IsUtf8 h.queue
unfolding head
names_are_text text h is = option_and_then_some head_of_value (value text) h is (λ d at of. object_names d h (sound_of d h of).2)

named_in : (text : Bytes) (h : Head) → head text ≡ Some h → IsUtf8 (head_in text).jid × IsUtf8 (head_in text).queue
named_in text h is =
    let same : h ≡ head_in text = sym (ap (λ (o : Option Head). unwrap_or o no_head) is) in
    let named = names_are_text text h is in
    (subst IsUtf8 (ap (λ (k : Head). k.jid) same) named.0, subst IsUtf8 (ap (λ (k : Head). k.queue) same) named.1)

pub parts_are_text : (p : Parts) (text : Bytes) → HasParts p text → IsUtf8 (head_in text).jid × IsUtf8 (head_in text).queue
parts_are_text (parts.Spans s) text has = named_in text has.0 has.1
parts_are_text (parts.Head h) text has = named_in text h.now has
