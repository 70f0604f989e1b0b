-- The ends of lists.
use Rattle.std.proofs.Common.{◌≡◌, ◌<◌, ◌-◌, List, [], ◌∷◌, ◌++◌, refl, sym, ap, ◌∙◌, arith, length, get_or, reverse}
use Rattle.std.specs.Prelude.{Some, None, option_map}
use Rattle.std.proofs.lemmas.List.{reverse-append, reverse-reverse, length-reverse, get_or-reverse}
use Rattle.sk_cmd.specs.declared.argument.Side.{Side}
use Rattle.sk_cmd.specs.declared.argument.Side.TheVariants.{Left, Right}
use Rattle.sk_resp.specs.Spelling.{Bytes}
use Rattle.sk_value.specs.Lists.{read_from, first_and_rest, take_one, end_of}

pub reverse_of_push : (text : Bytes) (list rest : List Bytes) → list ≡ rest ++ text ∷ [] → reverse list ≡ text ∷ reverse rest
reverse_of_push text list rest e = ap reverse e ∙ reverse-append rest (text ∷ [])

pub reverse_of_cons : (text : Bytes) (list : List Bytes) → reverse (text ∷ list) ≡ reverse list ++ text ∷ []
reverse_of_cons text list = reverse-append (text ∷ []) list

-- read back from the same end, it is the list
pub read_twice : (side : Side) (list read : List Bytes) → read_from side list ≡ read → list ≡ read_from side read
read_twice Left list read e = e
read_twice Right list read e = sym (reverse-reverse list) ∙ ap reverse e

pub length_read_from : (side : Side) (list : List Bytes) → length (read_from side list) ≡ length list
length_read_from Left list = refl
length_read_from Right list = length-reverse list

pub taken : (side : Side) (text : Bytes) (list rest : List Bytes) → read_from side list ≡ text ∷ read_from side rest → take_one side list ≡ Some (text, rest)
taken Left text list rest e = ap first_and_rest e
taken Right text list rest e = ap (λ xs. option_map (λ p. (p.0, reverse p.1)) (first_and_rest xs)) e ∙ ap (λ xs. Some (text, xs)) (reverse-reverse rest)

pub none_taken : (side : Side) (list : List Bytes) → list ≡ [] → take_one side list ≡ None
none_taken Left list e = ap first_and_rest e
none_taken Right list e = ap (λ xs. take_one Right xs) e

pub first_end : (text : Bytes) (list : List Bytes) → 0 < length list → text ≡ get_or list 0 text → end_of Left list ≡ Some text
first_end text [] some e = grind arith
first_end text (x ∷ list) some e = grind (arith, e)

-- what is first as the list is read from the right
last_read : (text : Bytes) (list read : List Bytes) → reverse list ≡ read → 0 < length read → text ≡ get_or read 0 text → end_of Right list ≡ Some text
last_read text list [] is some e = grind (arith, some)
last_read text list (x ∷ read) is some e = rw is (ap Some (sym e))

-- the last of a list is the first of it read from the right
pub last_end : (text : Bytes) (list : List Bytes) → 0 < length list → text ≡ get_or list (length list - 1) text → end_of Right list ≡ Some text
last_end text list some e =
    let first : get_or (reverse list) 0 text ≡ get_or list (length list - 1) text = get_or-reverse list 0 text some ∙ ap (λ i. get_or list i text) (omega arith) in
    last_read text list (reverse list) refl (omega (arith, length-reverse list)) (cc (e, first))

pub no_end : (side : Side) (list : List Bytes) → length list ≡ 0 → end_of side list ≡ None
no_end Left [] e = refl
no_end Left (x ∷ list) e = grind (arith, e)
no_end Right [] e = refl
no_end Right (x ∷ list) e = grind (arith, e)
