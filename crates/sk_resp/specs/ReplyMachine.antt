-- The reader of replies as a machine over bytes: what it keeps of a reply that isn't whole, what a byte does to it, and how many bytes the
-- reply must still have. No public contract speaks of it.
use Rattle.std.specs.Prelude.{◌≡◌, ◌<◌, ◌≤◌, ◌+◌, ◌-◌, ◌*◌, ◌^◌, ℕ, suc, List, [], ◌∷◌, ◌++◌, length, map, reverse, Option, Some, None, Bool, true, false, cond, eqb, ltb, leb, codes}
use Rattle.std.specs.Fmt.{decimal}
use Rattle.std.specs.List.{AllByRecursion}
use Rattle.sk_base.specs.declared.limits.TheConstants.{DEEPEST_REPLY, LONGEST_BULK, LONGEST_REPLY, LONGEST_TEXT, MOST_ELEMENTS}
use Rattle.sk_resp.specs.Spelling.{Bytes, star, dollar, plus, minus, colon, cr, lf, line, header, opened, bulk, joined}
use Rattle.sk_resp.specs.Reply.{wire, array_text}
use Rattle.sk_resp.specs.ReplyStream.{IsLineText, IsNested, IsRead}
use Rattle.sk_resp.specs.declared.reply.Reply.{Reply}
use Rattle.sk_resp.specs.declared.reply.state.Kind.{Kind}
use Rattle.sk_resp.specs.declared.reply.state.Kind.TheVariants as kind
use Rattle.sk_resp.specs.declared.reply.state.Stage.{Stage}
use Rattle.sk_resp.specs.declared.reply.state.Stage.TheVariants as stage
use Rattle.sk_resp.specs.declared.reply.state.State.{State}
use Rattle.sk_resp.specs.declared.reply.state.Level.{Level}

-- ## What a byte does

-- the open arrays, innermost first: how many elements each names, and the texts of those that are whole
abbrev pub Levels : Type 0
Levels = List (ℕ × List Bytes)

pub record Machine : Type 0 where
  pub stage : Stage
  pub line : Bytes
  pub stack : Levels

abbrev pub at : Stage → Bytes → Levels → Machine
at stage line stack = record { stage = stage; line = line; stack = stack }

-- A byte gives replies, one or none, and the machine goes on; or nothing goes on.
pub data Out : Type 0 where
  gives : List Bytes → Machine → Out
  fails : Out

-- A whole text goes to the array that wants it, and that array on to the next where it is whole now.
abbrev pub settled : Levels → Bytes → Out
settled [] text = gives (text ∷ []) (at stage.Start [] [])
settled ((count, texts) ∷ stack) text = cond (ltb (suc (length texts)) count) (gives [] (at stage.Start [] ((count, texts ++ text ∷ []) ∷ stack))) (settled stack (array_text (texts ++ text ∷ [])))

-- the greatest number of its kind and sign
abbrev pub most : Kind → Bool → ℕ
most kind.Int false = 2 ^ 63 - 1
most kind.Int true = 2 ^ 63
most kind.Bulk false = LONGEST_BULK
most kind.Bulk true = 1
most kind.Array false = MOST_ELEMENTS
most kind.Array true = 1

-- an array that would be the ninth
abbrev pub is_full : Kind → ℕ → Bool
is_full kind.Int depth = false
is_full kind.Bulk depth = false
is_full kind.Array depth = leb DEEPEST_REPLY depth

abbrev pub digit_of : ℕ → Option ℕ
digit_of b = cond (ltb b 48) None (cond (ltb 57 b) None (Some (b - 48)))

abbrev pub starts : Bytes → Levels → ℕ → Out
starts line stack b =
    cond (eqb b plus) (gives [] (at stage.Simple line stack))
    (cond (eqb b minus) (gives [] (at stage.Error line stack))
    (cond (eqb b colon) (gives [] (at (stage.Sign kind.Int) line stack))
    (cond (eqb b dollar) (gives [] (at (stage.Sign kind.Bulk) line stack))
    (cond (eqb b star) (gives [] (at (stage.Sign kind.Array) line stack)) fails))))

abbrev pub lines : Stage → Stage → Bytes → Levels → ℕ → Out
lines stay end line stack b =
    cond (eqb b cr) (gives [] (at end line stack))
    (cond (eqb b lf) fails
    (cond (leb LONGEST_TEXT (length line)) fails (gives [] (at stay (line ++ b ∷ []) stack))))

abbrev pub ends : Levels → Bytes → ℕ → Out
ends stack text b = cond (eqb b lf) (settled stack text) fails

abbrev pub first_digit : Kind → Bytes → Levels → Option ℕ → Out
first_digit k line stack None = fails
first_digit k line stack (Some d) = cond (is_full k (length stack)) fails (gives [] (at (stage.Digits k false d) line stack))

abbrev pub signs : Kind → Bytes → Levels → ℕ → Out
signs k line stack b = cond (eqb b minus) (gives [] (at (stage.Minus k) line stack)) (first_digit k line stack (digit_of b))

abbrev pub minus_digit : Kind → Bytes → Levels → Option ℕ → Out
minus_digit k line stack None = fails
minus_digit k line stack (Some d) = cond (eqb d 0) fails (cond (ltb (most k true) d) fails (gives [] (at (stage.Digits k true d) line stack)))

abbrev pub more_digit : Kind → Bool → ℕ → Bytes → Levels → Option ℕ → Out
more_digit k neg n line stack None = fails
more_digit k neg n line stack (Some d) =
    cond (eqb n 0) fails
    (cond (ltb 922337203685477580 n) fails
    (cond (ltb (most k neg) (10 * n + d)) fails (gives [] (at (stage.Digits k neg (10 * n + d)) line stack))))

abbrev pub digits : Kind → Bool → ℕ → Bytes → Levels → ℕ → Out
digits k neg n line stack b = cond (eqb b cr) (gives [] (at (stage.DigitsEnd k neg n) line stack)) (more_digit k neg n line stack (digit_of b))

abbrev pub number_text : Bool → ℕ → Bytes
number_text false n = line (colon ∷ decimal n)
number_text true n = line (colon ∷ minus ∷ decimal n)

-- a whole line with a number
abbrev pub number : Kind → Bool → ℕ → Levels → Out
number kind.Int neg n stack = settled stack (number_text neg n)
number kind.Bulk false n stack = gives [] (at (stage.Body n) [] stack)
number kind.Bulk true n stack = settled stack (line (codes "$-1"))
number kind.Array false n stack = cond (eqb n 0) (settled stack (array_text [])) (gives [] (at stage.Start [] ((n, []) ∷ stack)))
number kind.Array true n stack = settled stack (line (codes "*-1"))

abbrev pub digits_end : Kind → Bool → ℕ → Levels → ℕ → Out
digits_end k neg n stack b = cond (eqb b lf) (number k neg n stack) fails

abbrev pub bodies : ℕ → Bytes → Levels → ℕ → Out
bodies need line stack b =
    cond (ltb (length line) need) (gives [] (at (stage.Body need) (line ++ b ∷ []) stack))
    (cond (eqb b cr) (gives [] (at stage.BodyEnd line stack)) fails)

abbrev pub go_at : Stage → Bytes → Levels → ℕ → Out
go_at stage.Start text stack b = starts text stack b
go_at stage.Simple text stack b = lines stage.Simple stage.SimpleEnd text stack b
go_at stage.SimpleEnd text stack b = ends stack (line (plus ∷ text)) b
go_at stage.Error text stack b = lines stage.Error stage.ErrorEnd text stack b
go_at stage.ErrorEnd text stack b = ends stack (line (minus ∷ text)) b
go_at (stage.Sign k) text stack b = signs k text stack b
go_at (stage.Minus k) text stack b = minus_digit k text stack (digit_of b)
go_at (stage.Digits k neg n) text stack b = digits k neg n text stack b
go_at (stage.DigitsEnd k neg n) text stack b = digits_end k neg n stack b
go_at (stage.Body need) text stack b = bodies need text stack b
go_at stage.BodyEnd text stack b = ends stack (bulk text) b

-- with no regard to the limit on the bytes of a whole reply
abbrev pub go : Machine → ℕ → Out
go m b = go_at m.stage m.line m.stack b

-- ## What has come

abbrev pub mark : Kind → ℕ
mark kind.Int = colon
mark kind.Bulk = dollar
mark kind.Array = star

abbrev pub spelled : Bool → ℕ → Bytes
spelled false n = decimal n
spelled true n = minus ∷ decimal n

-- the bytes of the line or bulk string that isn't whole
abbrev pub part : Stage → Bytes → Bytes
part stage.Start text = []
part stage.Simple text = plus ∷ text
part stage.SimpleEnd text = (plus ∷ text) ++ cr ∷ []
part stage.Error text = minus ∷ text
part stage.ErrorEnd text = (minus ∷ text) ++ cr ∷ []
part (stage.Sign k) text = mark k ∷ []
part (stage.Minus k) text = mark k ∷ minus ∷ []
part (stage.Digits k neg n) text = mark k ∷ spelled neg n
part (stage.DigitsEnd k neg n) text = (mark k ∷ spelled neg n) ++ cr ∷ []
part (stage.Body need) text = opened need text
part stage.BodyEnd text = opened (length text) text ++ cr ∷ []

abbrev pub seen_levels : Levels → Bytes
seen_levels [] = []
seen_levels ((count, texts) ∷ stack) = seen_levels stack ++ (header count ++ joined texts)

-- the bytes since the last whole reply
abbrev pub seen : Machine → Bytes
seen m = seen_levels m.stack ++ part m.stage m.line

-- ## What must still come

-- behind a line with a number
abbrev pub behind : Kind → Bool → ℕ → ℕ
behind kind.Int neg n = 0
behind kind.Bulk false n = n + 2
behind kind.Bulk true n = 0
behind kind.Array false n = 3 * n
behind kind.Array true n = 0

-- behind a mark: `0` and CRLF, or `-1` and CRLF
abbrev pub sign_needs : Kind → ℕ → ℕ
sign_needs kind.Int depth = 3
sign_needs kind.Bulk depth = 4
sign_needs kind.Array depth = cond (ltb depth 8) 3 4

-- to end the line or bulk string, and the elements that an array's line names; the shortest reply has 3 bytes
abbrev pub stage_needs : Stage → ℕ → ℕ → ℕ
stage_needs stage.Start len depth = 3
stage_needs stage.Simple len depth = 2
stage_needs stage.SimpleEnd len depth = 1
stage_needs stage.Error len depth = 2
stage_needs stage.ErrorEnd len depth = 1
stage_needs (stage.Sign k) len depth = sign_needs k depth
stage_needs (stage.Minus k) len depth = 3
stage_needs (stage.Digits k neg n) len depth = 2 + behind k neg n
stage_needs (stage.DigitsEnd k neg n) len depth = 1 + behind k neg n
stage_needs (stage.Body need) len depth = (need - len) + 2
stage_needs stage.BodyEnd len depth = 1

-- three for each element behind the one that is open
abbrev pub owed : Levels → ℕ
owed [] = 0
owed ((count, texts) ∷ stack) = 3 * (count - suc (length texts)) + owed stack

abbrev pub needs : Machine → ℕ
needs m = stage_needs m.stage (length m.line) (length m.stack) + owed m.stack

-- the least length of a reply that begins with what has come
abbrev pub weight : Machine → ℕ
weight m = length (seen m) + needs m

-- a reply has at most 4,294,967,296 bytes
abbrev pub fit : Out → Out
fit (gives texts m) = cond (leb (weight m) LONGEST_REPLY) (gives texts m) fails
fit fails = fails

abbrev pub go_within : Machine → ℕ → Out
go_within m b = fit (go m b)

-- ## Bytes one after another

-- more replies in front
abbrev pub after : List Bytes → Out → Out
after texts (gives more m) = gives (texts ++ more) m
after texts fails = fails

abbrev pub onward : Out → (Machine → Out) → Out
onward (gives texts m) next = after texts (next m)
onward fails next = fails

-- up to the first byte with which nothing goes on
abbrev pub runs : (Machine → ℕ → Out) → Machine → Bytes → Out
runs step m [] = gives [] m
runs step m (b ∷ bytes) = onward (step m b) (λ next. runs step next bytes)

abbrev pub run : Machine → Bytes → Out
run m bytes = runs go m bytes

abbrev pub run_within : Machine → Bytes → Out
run_within m bytes = runs go_within m bytes

-- before a reply
abbrev pub fresh : Machine
fresh = at stage.Start [] []

-- ## States that a stream leads to

-- a number that its kind and sign can have
abbrev pub IsNumber : Kind → Bool → ℕ → Type 0
IsNumber k false n = n ≤ most k false
IsNumber k true n = (0 < n) × (n ≤ most k true)

-- an array may be opened here
abbrev pub HasRoom : Kind → Bool → ℕ → Type 0
HasRoom k neg depth = k ≡ kind.Array → neg ≡ false → depth < 8

abbrev pub IsOpenAt : Stage → Bytes → ℕ → Type 0
IsOpenAt stage.Start text depth = text ≡ []
IsOpenAt stage.Simple text depth = IsLineText text
IsOpenAt stage.SimpleEnd text depth = IsLineText text
IsOpenAt stage.Error text depth = IsLineText text
IsOpenAt stage.ErrorEnd text depth = IsLineText text
IsOpenAt (stage.Sign k) text depth = Unit {0}
IsOpenAt (stage.Minus k) text depth = Unit {0}
IsOpenAt (stage.Digits k neg n) text depth = IsNumber k neg n × HasRoom k neg depth
IsOpenAt (stage.DigitsEnd k neg n) text depth = IsNumber k neg n × HasRoom k neg depth
IsOpenAt (stage.Body need) text depth = (length text ≤ need) × (need ≤ LONGEST_BULK)
IsOpenAt stage.BodyEnd text depth = length text ≤ LONGEST_BULK

-- the levels, in which arrays so many deep may stand
abbrev pub AreOpen : ℕ → Levels → Type 0
AreOpen depth [] = depth ≡ 8
AreOpen depth ((count, texts) ∷ stack) = (length texts < count) × (count ≤ MOST_ELEMENTS) × AllByRecursion (IsNested depth) texts × AreOpen (suc depth) stack

abbrev pub IsOpen : Machine → Type 0
IsOpen m = IsOpenAt m.stage m.line (length m.stack) × ((depth : ℕ) × AreOpen depth m.stack)

-- and the reply can end within its limit
pub record IsOpenWithin (m : Machine) : Type 0 where
  pub is_open : IsOpen m
  pub small : weight m ≤ LONGEST_REPLY

-- a state that its own bytes lead to
pub record IsReached (m : Machine) : Type 0 where
  pub within : IsOpenWithin m
  pub reached : run_within fresh (seen m) ≡ gives [] m

-- ## The reader's state

abbrev pub level : Level → ℕ × List Bytes
level l = (l.count, map wire l.replies.items)

abbrev pub levels : List Level → Levels
levels xs = reverse (map level xs)

abbrev pub says : State → Machine
says s = record { stage = s.stage; line = s.line.items; stack = levels s.stack.items }

-- the reply that a step made whole, as a list
abbrev pub given : Option Reply → List Bytes
given None = []
given (Some r) = wire r ∷ []

-- what a part of the machine does with what the reader keeps
abbrev pub done_to : {A : Type 0} → (Bytes → Levels → A → Out) → State → A → Out
done_to part s byte = part s.line.items (levels s.stack.items) byte

-- the machine made this reply whole, or none, and goes on as the reader does
abbrev pub LeadsTo : Out → Option Reply → State → Type 0
LeadsTo out found s = out ≡ gives (given found) (says s)

-- the reader with so many more bytes of the open line
abbrev pub with_more : Bytes → State → Machine
with_more bytes s = at s.stage (s.line.items ++ bytes) (levels s.stack.items)

-- how many bytes the reply must still have
abbrev pub still_needs : State → ℕ
still_needs s = stage_needs s.stage (length s.line.items) (length (levels s.stack.items))

abbrev pub AreRead : Option Reply → Type 0
AreRead None = Unit {0}
AreRead (Some r) = IsRead r

-- the bytes that have come, and three for each element that no byte has come of
abbrev pub IsSized : State → Type 0
IsSized s = s.size ≡ length (seen (says s)) + owed (levels s.stack.items)

-- The bytes have not been counted, but the elements that came or were opened have.
pub record IsCounted (old new : State) : Type 0 where
  pub same : new.size + owed (levels old.stack.items) ≡ old.size + owed (levels new.stack.items)
  pub small : new.size ≤ LONGEST_REPLY

-- What a byte made of the state: it has counted, or it gave a reply and is before the next.
abbrev pub Made : State → State → Option Reply → Type 0
Made old new None = IsCounted old new
Made old new (Some r) = IsRead r × (says new ≡ fresh)

abbrev pub IsHeard : State → Type 0
IsHeard s = IsReached (says s) × IsSized s
