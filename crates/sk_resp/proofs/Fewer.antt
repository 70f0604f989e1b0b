-- The first of the commands that a stream begins with, and streams that go on.
use Rattle.std.proofs.Common.{◌≤◌, ℕ, List, [], ◌∷◌, ◌++◌, length, take, sym, ap, arith, append_assoc, subst, zero, suc, inl, refl}
use Rattle.std.specs.List.{AllByRecursion}
use Rattle.sk_resp.specs.Spelling.{Bytes}
use Rattle.sk_resp.specs.declared.wire_fault.WireFault.TheVariants.{Quote}
use Rattle.sk_resp.specs.Request.{Command, IsItem, whole, skipped, inline, if_some, inline_words}
use Rattle.sk_resp.specs.Stream.{Item, texts_of, commands_of, Opens, Reads}
use Rattle.sk_resp.proofs.Streams.{opens-none, opens-more, opens-then, opens-item, none-before}

one_at_most : (words : Command) → length (if_some words) ≤ 1
one_at_most [] = omega arith
one_at_most (word ∷ words) = omega arith

few_commands : (text : Bytes) (commands : List Command) → IsItem text commands → length commands ≤ 1
few_commands text commands (whole words command is gives) = omega (arith, ap length gives)
few_commands text commands (skipped z none is gives) = omega (arith, ap length gives)
few_commands text commands (inline line plain is gives) = omega (arith, ap length gives, one_at_most (inline_words line))

first_of : (text : Bytes) (commands : List Command) (items : List Item) (count : ℕ) (rest : Bytes) → IsItem text commands
    → ((n : ℕ) → (more : Bytes) × Opens (texts_of items ++ rest) (take n (commands_of items)) more)
    → (more : Bytes) × Opens ((text ++ texts_of items) ++ rest) (take count (commands ++ commands_of items)) more
first_of text commands items zero rest item later = ((text ++ texts_of items) ++ rest, opens-none ((text ++ texts_of items) ++ rest))
first_of text [] items (suc n) rest item later =
    let next = later (suc n) in (
      next.0,
      subst (λ z. Opens z (take (suc n) (commands_of items)) next.0) (sym (append_assoc text (texts_of items) rest))
          (opens-then (text ++ (texts_of items ++ rest)) (texts_of items ++ rest) next.0 [] (take (suc n) (commands_of items)) (opens-item text (texts_of items ++ rest) [] item) next.1),
    )
first_of text (words ∷ []) items (suc n) rest item later =
    let next = later n in (
      next.0,
      subst (λ z. Opens z (words ∷ take n (commands_of items)) next.0) (sym (append_assoc text (texts_of items) rest))
          (opens-then (text ++ (texts_of items ++ rest)) (texts_of items ++ rest) next.0 (words ∷ []) (take n (commands_of items)) (opens-item text (texts_of items ++ rest) (words ∷ []) item) next.1),
    )
first_of text (words ∷ others ∷ commands) items (suc n) rest item later = absurd (omega (arith, few_commands text (words ∷ others ∷ commands) item))

first_commands : (items : List Item) (rest : Bytes) → AllByRecursion (λ item. IsItem item.0 item.1) items → (count : ℕ)
    → (more : Bytes) × Opens (texts_of items ++ rest) (take count (commands_of items)) more
first_commands [] rest each zero = (rest, opens-none rest)
first_commands [] rest each (suc n) = (rest, opens-none rest)
first_commands (item ∷ items) rest each count = first_of item.0 item.1 items count rest each.0 (first_commands items rest each.1)

-- the first of the commands that a stream begins with
pub opens_fewer : (bytes : Bytes) (commands : List Command) (rest : Bytes) (count : ℕ) → Opens bytes commands rest → (more : Bytes) × Opens bytes (take count commands) more
opens_fewer bytes commands rest count opens =
    let fewer = first_commands opens.items rest opens.each count in
    (fewer.0, subst (λ z. Opens z (take count commands) fewer.0) (sym opens.bytes_are) (subst (λ cs. Opens (texts_of opens.items ++ rest) (take count cs) fewer.0) (sym opens.commands_are) fewer.1))

pub opens_on : (bytes piece rest more : Bytes) (commands others : List Command) → Opens bytes commands rest → Opens (rest ++ piece) others more → Opens (bytes ++ piece) (commands ++ others) more
opens_on bytes piece rest more commands others opens next = opens-then (bytes ++ piece) (rest ++ piece) more commands others (opens-more bytes commands rest piece opens) next

pub reads_nothing : Reads [] [] []
reads_nothing = record {
  opens = opens-none [];
  none = none-before [] (34 ∷ []) Quote ([], (34, record { plain = tt; no_star = tt; short = omega arith }, inl refl, refl)) (omega arith);
}
