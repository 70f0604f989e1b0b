-- The replies that are errors.
use Rattle.std.specs.Prelude.{Bool, true, false}
use Rattle.sk_resp.specs.declared.say.Say.{Say}
use Rattle.sk_resp.specs.declared.say.Say.TheVariants as say
use Rattle.sk_resp.specs.declared.reply.Reply.{Reply}
use Rattle.sk_resp.specs.declared.reply.Reply.TheVariants as reply

-- a fixed text that begins with `-`
abbrev pub says_error : Say → Bool
says_error say.Ok = false
says_error say.Pong = false
says_error (say.Kind kind) = false
says_error other = true

-- a reply whose text begins so
abbrev pub is_error : Reply → Bool
is_error (reply.Say say) = says_error say
is_error (reply.Error text) = true
is_error other = false
