-- What a session over a held connection is seen to do.
use Rattle.std.specs.Prelude.{◌≡◌, [], Result, OnOk}
use Rattle.sk_base.specs.declared.clock.Clock as a_clock
use Rattle.sk_base.specs.declared.failed.Failed.{Failed}
use Rattle.sk_base.specs.declared.sink.Sink as a_sink
use Rattle.sk_base.specs.declared.source.Source as a_source
use Rattle.sk_resp.specs.Spelling.{Bytes}
use Rattle.sk_desk.specs.declared.desk.Desk as a_desk
use Rattle.sk_held.specs.Holding.{with_gathered}
use Rattle.sk_talk.specs.declared.talk_end.TalkEnd.{TalkEnd}
use Rattle.sk_serve.specs.Session.{IsSession}

module _ {D K C : Type 0} (Desk : a_desk.Ghosts D) (Source : a_source.Ghosts C) (Sink : a_sink.Ghosts C) (Clock : a_clock.Ghosts K) where
  -- It is a session, as told of what the connection took and, behind that, of what is kept from it in the end. Where all was handed on, that is nothing.
  pub record IsHeldSession (desk : D) (clock : K) (conn : C) (end : TalkEnd) (desk' : D) (clock' : K) (conn' : C) (handed : Result (Unit {0}) Failed) : Type 0 where
    pub kept : Bytes
    pub session : IsSession {C = C × Bytes} Desk.wants_words Desk.calls Desk.acked Clock.moments (λ p. Source.left p.0) (λ p. with_gathered (Sink.taken p.0) p.1)
        desk clock (conn, []) end desk' clock' (conn', kept)
    pub all : OnOk handed (kept ≡ [])
