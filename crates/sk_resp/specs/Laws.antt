-- What follows from the definitions of streams, whatever reads them.
use Rattle.std.specs.Prelude.{◌≡◌, ◌∷◌, ◌++◌, ◌⊎◌, [], List, length, map}
use Rattle.std.specs.List.{AllByRecursion}
use Rattle.sk_resp.specs.Spelling.{Bytes, joined}
use Rattle.sk_resp.specs.Request.{Command, IsCommand, array}
use Rattle.sk_resp.specs.Stream.{Reads, Faulty}
use Rattle.sk_resp.specs.Reply.{wire}
use Rattle.sk_resp.specs.ReplyStream.{IsReplyText, IsUnreadable, IsWritable, ReadsReplies}
use Rattle.sk_resp.specs.declared.reply.Reply.{Reply}
use Rattle.sk_resp.specs.declared.wire_fault.WireFault.{WireFault}

-- ## Streams of requests

-- each is read as commands, or has a fault behind some
abbrev pub SomeReading : Type 0
SomeReading = (bytes : Bytes) →
    ((commands : List Command) × ((rest : Bytes) × Reads bytes commands rest)) ⊎ ((commands : List Command) × ((fault : WireFault) × Faulty bytes commands fault))

-- in one way
abbrev pub OneReading : Type 0
OneReading = (bytes : Bytes) (commands others : List Command) (rest more : Bytes) →
    Reads bytes commands rest → Reads bytes others more → (commands ≡ others) × (rest ≡ more)

abbrev pub OneFault : Type 0
OneFault = (bytes : Bytes) (commands others : List Command) (fault other : WireFault) →
    Faulty bytes commands fault → Faulty bytes others other → (commands ≡ others) × (fault ≡ other)

-- and never both
abbrev pub ReadOrFaulty : Type 0
ReadOrFaulty = (bytes : Bytes) (commands others : List Command) (rest : Bytes) (fault : WireFault) → Reads bytes commands rest → Faulty bytes others fault → ⊥

-- what is behind a piece may be read later, with what was left
abbrev pub ReadsOn : Type 0
ReadsOn = (bytes piece rest more : Bytes) (commands others : List Command) →
    Reads bytes commands rest → Reads (rest ++ piece) others more → Reads (bytes ++ piece) (commands ++ others) more

abbrev pub FaultsOn : Type 0
FaultsOn = (bytes piece rest : Bytes) (commands others : List Command) (fault : WireFault) →
    Reads bytes commands rest → Faulty (rest ++ piece) others fault → Faulty (bytes ++ piece) (commands ++ others) fault

-- a fault stays, whatever follows
abbrev pub FaultStays : Type 0
FaultStays = (bytes piece : Bytes) (commands : List Command) (fault : WireFault) → Faulty bytes commands fault → Faulty (bytes ++ piece) commands fault

-- a command that is written is read again
abbrev pub WrittenIsRead : Type 0
WrittenIsRead = (words : Command) (more rest : Bytes) (commands : List Command) →
    IsCommand words → Reads more commands rest → Reads (array words ++ more) (words ∷ commands) rest

-- ## Streams of replies

-- each is read as replies, or is unreadable behind some
abbrev pub SomeReplies : Type 0
SomeReplies = (bytes : Bytes) → ((texts : List Bytes) × ((rest : Bytes) × ReadsReplies bytes texts rest)) ⊎ ((texts : List Bytes) × IsUnreadable bytes texts)

-- in one way
abbrev pub OneReplies : Type 0
OneReplies = (bytes rest more : Bytes) (texts others : List Bytes) →
    ReadsReplies bytes texts rest → ReadsReplies bytes others more → (texts ≡ others) × (rest ≡ more)

-- at one byte
abbrev pub OneUnreadable : Type 0
OneUnreadable = (bytes : Bytes) (texts others : List Bytes) (u : IsUnreadable bytes texts) (v : IsUnreadable bytes others) →
    (texts ≡ others) × (length (joined texts ++ u.part) ≡ length (joined others ++ v.part))

-- and never both
abbrev pub ReadOrUnreadable : Type 0
ReadOrUnreadable = (bytes rest : Bytes) (texts others : List Bytes) → ReadsReplies bytes texts rest → IsUnreadable bytes others → ⊥

-- what is behind a piece may be read later, with what was left
abbrev pub RepliesReadOn : Type 0
RepliesReadOn = (bytes piece rest more : Bytes) (texts others : List Bytes) →
    ReadsReplies bytes texts rest → ReadsReplies (rest ++ piece) others more → ReadsReplies (bytes ++ piece) (texts ++ others) more

abbrev pub UnreadableOn : Type 0
UnreadableOn = (bytes piece rest : Bytes) (texts others : List Bytes) →
    ReadsReplies bytes texts rest → IsUnreadable (rest ++ piece) others → IsUnreadable (bytes ++ piece) (texts ++ others)

-- an unreadable stream stays so, whatever follows
abbrev pub UnreadableStays : Type 0
UnreadableStays = (bytes piece : Bytes) (texts : List Bytes) → IsUnreadable bytes texts → IsUnreadable (bytes ++ piece) texts

-- replies that are written are read again, all of them and nothing else
abbrev pub WrittenRepliesAreRead : Type 0
WrittenRepliesAreRead = (replies others : List Reply) (rest : Bytes) → AllByRecursion IsWritable replies →
    ReadsReplies (joined (map wire replies)) (map wire others) rest → (map wire others ≡ map wire replies) × (rest ≡ [])

-- and no byte of them is unreadable
abbrev pub WrittenRepliesAreReadable : Type 0
WrittenRepliesAreReadable = (texts others : List Bytes) → AllByRecursion IsReplyText texts → IsUnreadable (joined texts) others → ⊥
