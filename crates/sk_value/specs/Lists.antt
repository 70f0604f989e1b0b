-- Lists (Redis, "Lists"): LRANGE, LLEN, LPUSH, RPUSH, LREM, and the parts of LMOVE.
use Rattle.std.specs.Prelude.{ℕ, ◌-◌, ◌+◌, ℤ, pos, negsuc, zero, suc, List, [], ◌∷◌, ◌++◌, Option, Some, None, option_map, take, drop, length, cond, not, filter, reverse, Ok, Err}
use Rattle.std.specs.Str.{bytes_eq}
use Rattle.sk_resp.specs.Spelling.{Bytes}
use Rattle.sk_cmd.specs.declared.argument.Side.{Side}
use Rattle.sk_cmd.specs.declared.argument.Side.TheVariants.{Left, Right}
use Rattle.sk_value.specs.declared.keys_fault.KeysFault.TheVariants as fault
use Rattle.sk_value.specs.declared.read_op.ReadOp.{ReadOp}
use Rattle.sk_value.specs.declared.read_op.ReadOp.TheVariants as look
use Rattle.sk_value.specs.declared.write_op.WriteOp.{WriteOp}
use Rattle.sk_value.specs.declared.write_op.WriteOp.TheVariants as edit
use Rattle.sk_value.specs.Answer.{Answer, AndThen, counted, texts}

-- ## Ends

abbrev pub push_one : Side → Bytes → List Bytes → List Bytes
push_one Left text list = text ∷ list
push_one Right text list = list ++ text ∷ []

-- each in turn
abbrev pub push_all : Side → List Bytes → List Bytes → List Bytes
push_all side [] list = list
push_all side (text ∷ more) list = push_all side more (push_one side text list)

-- as it is read from that end
abbrev pub read_from : Side → List Bytes → List Bytes
read_from Left list = list
read_from Right list = reverse list

abbrev pub first_and_rest : List Bytes → Option (Bytes × List Bytes)
first_and_rest [] = None
first_and_rest (text ∷ list) = Some (text, list)

-- the element at that end, and the others
abbrev pub take_one : Side → List Bytes → Option (Bytes × List Bytes)
take_one Left list = first_and_rest list
take_one Right list = option_map (λ p. (p.0, reverse p.1)) (first_and_rest (reverse list))

-- the element at that end
abbrev pub end_of : Side → List Bytes → Option Bytes
end_of side list = option_map (λ taken. taken.0) (take_one side list)

-- ## Ranges

-- The element with which a range begins. An index below zero counts from the end, where -1 is the last.
abbrev pub first_index : ℤ → ℕ → ℕ
first_index (pos n) count = n
first_index (negsuc n) count = count - (n + 1)

-- the one behind the element with which it ends
abbrev pub end_index : ℤ → ℕ → ℕ
end_index (pos n) count = n + 1
end_index (negsuc n) count = count - n

-- the elements from the first index to the last, both included, as far as there are such
abbrev pub range_of : {A : Type 0} → ℤ → ℤ → List A → List A
range_of first last list = drop (first_index first (length list)) (take (end_index last (length list)) list)

-- ## Equal elements

-- without the first so many that are the text
abbrev pub without_first : ℕ → Bytes → List Bytes → List Bytes
without_first n text [] = []
without_first zero text (other ∷ list) = other ∷ list
without_first (suc n) text (other ∷ list) = cond (bytes_eq other text) (without_first n text list) (other ∷ without_first (suc n) text list)

-- Without those that LREM takes: the first so many from the left, all, or the first so many from the right.
abbrev pub without_some : ℤ → Bytes → List Bytes → List Bytes
without_some (pos zero) text list = filter (λ other. not (bytes_eq other text)) list
without_some (pos (suc n)) text list = without_first (suc n) text list
without_some (negsuc n) text list = reverse (without_first (suc n) text (reverse list))

-- ## The commands

abbrev pub look_list : ReadOp → List Bytes → Answer
look_list (look.Lrange first last) list = Ok (texts (range_of first last list))
look_list look.Llen list = Ok (counted (length list))
look_list other list = Err fault.WrongType

unfoldable pub edit_list : WriteOp → List Bytes → AndThen (List Bytes)
edit_list (edit.Push side more) list = Ok (counted (length (push_all side more list)), push_all side more list)
edit_list (edit.Lrem count text) list = Ok (counted (length list - length (without_some count text list)), without_some count text list)
edit_list other list = Err fault.WrongType
