-- What is known of a bulk string that answers a request.
use Rattle.std.proofs.Common.{◌≡◌, ◌≢◌, Bool, true, false, refl, ◌&&◌, nat_lt, nat_le, length}
use Rattle.std.proofs.lemmas.Str.{IsUtf8-from_is_utf8}
use Rattle.std.specs.Str.{is_utf8, IsUtf8}
use Rattle.std.specs.List.{list_all}
use Rattle.sk_base.specs.Name.{is_visible}
use Rattle.sk_resp.specs.Spelling.{Bytes}
use Rattle.sk_resp.specs.declared.reply.Reply.TheVariants as reply
use Rattle.sk_link.specs.Asking.{answers}
use Rattle.sk_link.specs.declared.asking.Answer.{Answer}
use Rattle.sk_link.specs.declared.asking.Answer.TheVariants as answer

third : (a b c d : Bool) → (((a && b) && c) && d) ≡ true → c ≡ true
third a b true d e = refl
third true true false d e = e
third true false false d e = e
third false b false d e = e

-- A bulk string that answers is text, unless any bytes are wanted.
pub IsUtf8-answer : (wanted : Answer) (jid : Bytes) → wanted ≢ answer.Popped → answers wanted (reply.Bulk jid) ≡ true → IsUtf8 jid
IsUtf8-answer answer.Okay jid bytes e = cc
IsUtf8-answer answer.OkayOrNull jid bytes e = cc
IsUtf8-answer answer.Number jid bytes e = cc
IsUtf8-answer answer.List jid bytes e = cc
IsUtf8-answer answer.Report jid bytes e = cc
IsUtf8-answer answer.Popped jid bytes e = absurd (bytes refl)
IsUtf8-answer answer.Unique jid bytes e =
    IsUtf8-from_is_utf8 jid (third (nat_lt 0 (length jid)) (nat_le (length jid) 64) (is_utf8 jid) (list_all is_visible jid) e)
