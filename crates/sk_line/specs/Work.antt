-- The command line of `work`.
use Rattle.std.specs.Prelude.{◌≡◌, ◌^◌, ◌-◌, ◌==◌, ◌&&◌, ℕ, ℤ, pos, Bool, true, false, List, [], length, take, get_or, map, unwrap_or, nat_lt, codes, ◌-ℤ◌, if◌then◌else◌}
use Rattle.sk_base.specs.declared.limits.TheConstants.{LAST_OFFSET, LONGEST_NAME, MOST_PREFETCH, MOST_WEIGHT, OFFSET_UTC}
use Rattle.std.specs.Bool.{MatchBool}
use Rattle.std.specs.List.{AllZip, join_by, list_all, slice_split}
use Rattle.std.specs.Char.{is_ascii_digit}
use Rattle.clap.specs.Words.{App, Row, Text, all_of, new_app, with_rule}
use Rattle.sk_cron.specs.Times.{Means}
use Rattle.sk_launcher.specs.declared.work_settings.WorkSettings.{WorkSettings}
use Rattle.sk_policy.specs.Order.{IsOrder, Order, strict_order, weighted_order}
use Rattle.sk_policy.specs.declared.order_fault.OrderFault.{OrderFault}
use Rattle.sk_policy.specs.declared.order_fault.OrderFault.TheVariants as order_fault
use Rattle.sk_poller.specs.Loop.{is_loop}
use Rattle.sk_poller.specs.declared.poller.Loop.{Loop}
use Rattle.sk_line.specs.declared.work_line.TheConstants.{MOST_PATIENCE}
use Rattle.sk_line.specs.Lines.{IsAddress, IsLine, addressed}
use Rattle.sk_line.specs.Options.{flag, positionals, with_default}
use Rattle.sk_line.specs.Values.{Has, IsNamed, IsNumber}
use Rattle.sk_line.specs.declared.fault.LineFault.{LineFault}
use Rattle.sk_line.specs.declared.fault.LineFault.TheVariants as line_fault

-- the parts of a text between these bytes
abbrev pub parts : ℕ → Text → List Text
parts byte text = slice_split (λ b. b == byte) text

-- the parts with this text between them
abbrev pub joined : Text → List Text → Text
joined between texts = join_by (λ text. text) between texts

-- ## The order of queues

abbrev pub last_part : List Text → Text
last_part texts = get_or texts (length texts - 1) []

abbrev pub front_parts : List Text → List Text
front_parts texts = take (length texts - 1) texts

-- Of the parts of a word between its colons, the last is digits to the end.
abbrev pub is_weighed : List Text → Bool
is_weighed texts = nat_lt 1 (length texts) && nat_lt 0 (length (last_part texts)) && list_all is_ascii_digit (last_part texts)

-- what stands before the last colon, and the weight behind it
pub record IsWeighed (texts : List Text) (queue : Text × ℕ) : Type 0 where
  pub name : queue.0 ≡ joined (codes ":") (front_parts texts)
  pub weight : IsNumber 1 MOST_WEIGHT (last_part texts) queue.1

-- A queue with its weight: the digits behind the last colon; or where there are none, the word is its name, and it weighs 1.
abbrev pub IsQueue : Text → Text × ℕ → Type 0
IsQueue word queue = MatchBool (is_weighed (parts 58 word)) (IsWeighed (parts 58 word) queue) (queue ≡ (word, 1))

-- queues with commas between them
abbrev pub IsQueues : Text → List (Text × ℕ) → Type 0
IsQueues text queues = AllZip IsQueue (parts 44 text) queues

-- whether a flag is written
abbrev pub IsFlag : Text → Bool → Type 0
IsFlag text true = text ≡ codes "true"
IsFlag text false = text ≡ codes "false"

abbrev pub order_of : Bool → List (Text × ℕ) → Order
order_of strict queues = if strict then strict_order (map (λ queue. queue.0) queues) else weighted_order queues

-- the order that `--queues` and `--strict` say
pub record IsOrderLine (rows : List Row) (order : Order) : Type 0 where
  pub strict : Bool
  pub strict_is : Has IsFlag rows (codes "strict") strict
  pub queues : List (Text × ℕ)
  pub queues_are : Has IsQueues rows (codes "queues") queues
  pub is : order ≡ order_of strict queues
  pub accepted : IsOrder order

-- want of memory, or an order that is refused
abbrev pub by_order : OrderFault → LineFault
by_order order_fault.Memory = line_fault.Memory
by_order other = line_fault.Refused

-- ## Periodic jobs

-- The periodic job with this name, of the parts of a word: the five fields of a cron text, a class and a queue.
pub record IsLoopBy (name : Text) (texts : List Text) (l : Loop) : Type 0 where
  pub name_is : l.name ≡ name
  pub cron : Means (joined (codes " ") (take 5 texts)) l.cron
  pub class : l.class ≡ get_or texts 5 []
  pub queue : l.queue ≡ get_or texts 6 []
  pub names : is_loop l ≡ true

-- A cron word: seven parts with single spaces between them. The word is the loop's name.
abbrev pub IsLoop : Text → Loop → Type 0
IsLoop word l = (length (parts 32 word) ≡ 7) × IsLoopBy word (parts 32 word) l

-- the words without an option
abbrev pub words_in : List Row → Text → List Text
words_in rows name = unwrap_or (all_of name rows) []

-- ## The clock

-- minutes ahead of UTC, written with as many more as the greatest offset has
pub record IsOffsetText (text : Text) (value : ℤ) : Type 0 where
  pub minutes : ℕ
  pub is : IsNumber 0 LAST_OFFSET text minutes
  pub ahead : value ≡ pos minutes -ℤ OFFSET_UTC

-- ## The line

abbrev pub work_app : App
work_app = with_rule (with_rule (with_rule (with_rule (with_rule (with_rule (with_rule (with_rule (with_rule (addressed (new_app (codes "work")))
    (with_default (codes "ident") (codes "local:1:0"))) (with_default (codes "queues") (codes "default"))) (flag (codes "strict")))
    (with_default (codes "threads") (codes "4"))) (with_default (codes "turns") (codes "0"))) (with_default (codes "offset") (codes "1439")))
    (with_default (codes "prefetch") (codes "1"))) (with_default (codes "patience") (codes "0"))) (positionals (codes "CRON"))

-- The values, where there are so many teams.
pub record IsWorkValues (teams : ℕ) (rows : List Row) (settings : WorkSettings) : Type 0 where
  pub address : IsAddress rows settings.address
  pub ident : Has (IsNamed LONGEST_NAME) rows (codes "ident") settings.ident
  pub order : IsOrderLine rows settings.order
  pub threads : Has (IsNumber 1 teams) rows (codes "threads") settings.threads
  pub turns : Has (IsNumber 0 (2 ^ 32 - 1)) rows (codes "turns") settings.turns
  pub offset : Has IsOffsetText rows (codes "offset") settings.offset
  pub prefetch : Has (IsNumber 1 MOST_PREFETCH) rows (codes "prefetch") settings.prefetch
  pub patience : Has (IsNumber 0 MOST_PATIENCE) rows (codes "patience") settings.patience
  pub loops : AllZip IsLoop (words_in rows (codes "CRON")) settings.loops.items

-- The words, which begin with `work`, ask for this, where there are so many teams.
abbrev pub IsWork : ℕ → List Text → WorkSettings → Type 0
IsWork teams = IsLine work_app (IsWorkValues teams)
