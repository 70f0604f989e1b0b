-- Moves between ends of lists.
use Rattle.std.proofs.Common.{◌≡◌, ℕ, List, [], ◌∷◌, ◌++◌, refl, sym, ap, ◌∙◌, arith, length, length-append, reverse, subst, Bool, true, false}
use Rattle.std.specs.Prelude.{◌==◌, ◌||◌, Option, Some, None, Ok, option_map}
use Rattle.std.specs.Ordering.{ordering_reverse, is_eq, is_gt}
use Rattle.std.specs.Map.{set_value, keys_of}
use Rattle.std.specs.Option.{MatchOption, is_some, unwrap_or}
use Rattle.std.specs.Str.{bytes_eq}
use Rattle.std.proofs.lemmas.Map.Steps.{set_value_same}
use Rattle.std.proofs.lemmas.Slice.Eq.{bytes_eq-Decides}
use Rattle.sk_keys.proofs.Puts.{put_present}
use Rattle.std.specs.BTreeMap.{is_at}
use Rattle.std.specs.List.Sorted.{IsStrictlySortedBy}
use Rattle.std.specs.declared.cmp.Ordering.{Ordering}
use Rattle.std.specs.declared.cmp.Ordering.TheVariants.{Less, Equal, Greater}
use Rattle.std.proofs.lemmas.List.{reverse-reverse}
use Rattle.std.proofs.lemmas.Map.Keys.{sorted_head, sorted_tail}
use Rattle.std.proofs.lemmas.Cmp.{nat_list_cmp_total}
use Rattle.std.proofs.lemmas.Map.Lookups.{exact_bytes}
use Rattle.sk_resp.specs.Spelling.{Bytes}
use Rattle.sk_cmd.specs.declared.argument.Side.{Side}
use Rattle.sk_cmd.specs.declared.argument.Side.TheVariants.{Left, Right}
use Rattle.sk_value.specs.declared.entry.Entry.{Entry}
use Rattle.sk_value.specs.declared.value.Value.TheVariants as value
use Rattle.sk_resp.specs.declared.reply.Reply.TheVariants as reply
use Rattle.sk_value.specs.Answer.{text_or_null}
use Rattle.sk_value.specs.Apply.{answers, deadline_at, list_at, move_keys, put_list}
use Rattle.sk_resp.specs.WordOrder.{text_cmp}
use Rattle.sk_value.specs.Keys.{Keys, at, put, without}
use Rattle.sk_value.specs.Lists.{first_and_rest, push_one, read_from, take_one, end_of}
use Rattle.sk_value.proofs.Ends.{taken, reverse_of_cons, reverse_of_push}
use Rattle.sk_keys.specs.Moves.{list_under, push_at, take_at, turned}
use Rattle.sk_keys.proofs.Index.{equal_at}

-- ## One list

same_pair : (p q : Bytes × List Bytes) → Some p ≡ Some q → p ≡ q
same_pair p q is = cc

first_left : (text : Bytes) (read rest : List Bytes) → first_and_rest read ≡ Some (text, rest) → read ≡ text ∷ rest
first_left text [] rest is = cc
first_left text (x ∷ read) rest is = ap (λ (p : Bytes × List Bytes). p.0 ∷ p.1) (same_pair (x, read) (text, rest) is)

first_right : (text : Bytes) (read rest : List Bytes) → option_map {U = Bytes × List Bytes} (λ p. (p.0, reverse p.1)) (first_and_rest read) ≡ Some (text, rest) → read ≡ text ∷ reverse rest
first_right text [] rest is = cc
first_right text (x ∷ read) rest is = ap (λ xs. x ∷ xs) (sym (reverse-reverse read)) ∙ ap (λ (p : Bytes × List Bytes). p.0 ∷ reverse p.1) (same_pair (x, reverse read) (text, rest) is)

-- what is taken from an end is read first from there
read_taken : (side : Side) (text : Bytes) (list rest : List Bytes) → take_one side list ≡ Some (text, rest) → read_from side list ≡ text ∷ read_from side rest
read_taken Left text list rest is = first_left text list rest is
read_taken Right text list rest is = first_right text (reverse list) rest is

-- the text that was put back at an end is the one that is taken
pub turn_text : (from to : Side) (text : Bytes) (list rest : List Bytes) → take_one from list ≡ Some (text, rest) → take_one from (push_one to text list) ≡ Some (text, push_one to text rest)
turn_text from to text list rest is = taken from text (push_one to text list) (push_one to text rest) (read from to (read_taken from text list rest is)) where
  read : (from to : Side) → read_from from list ≡ text ∷ read_from from rest → read_from from (push_one to text list) ≡ text ∷ read_from from (push_one to text rest)
  read Left Left e = ap (λ xs. text ∷ xs) e
  read Left Right e = ap (λ xs. xs ++ text ∷ []) e
  read Right Left e = reverse_of_cons text list ∙ ap (λ xs. xs ++ text ∷ []) e ∙ ap (λ xs. text ∷ xs) (sym (reverse_of_cons text rest))
  read Right Right e = reverse_of_push text (list ++ text ∷ []) list refl ∙ ap (λ xs. text ∷ xs) (e ∙ sym (reverse_of_push text (rest ++ text ∷ []) rest refl))

pub push_some : (side : Side) (text : Bytes) (list : List Bytes) → (length (push_one side text list) == 0) ≡ false
push_some Left text list = grind arith
push_some Right text list = grind (arith, length-append list (text ∷ []))

-- ## Two keys

below : (a b : Bytes) → text_cmp a b ≡ Less → text_cmp b a ≡ Greater
below a b is = nat_list_cmp_total.antisymm b a ∙ ap ordering_reverse is

above : (a b : Bytes) → text_cmp a b ≡ Greater → text_cmp b a ≡ Less
above a b is = nat_list_cmp_total.antisymm b a ∙ ap ordering_reverse is

pub at_put : (name other : Bytes) (entry : Entry) (keys : Keys) → is_at (text_cmp other) name ≡ false → at other (put name entry keys) ≡ at other keys
at_put name other entry [] apart = grind (arith, apart)
at_put name other entry (key ∷ keys) apart = by_order (text_cmp name key.0) (at_put name other entry keys apart) refl where
  by_order : (o : Ordering) → at other (put name entry keys) ≡ at other keys → text_cmp name key.0 ≡ o → at other (put name entry (key ∷ keys)) ≡ at other (key ∷ keys)
  by_order Less rest is = grind (arith, is, apart)
  by_order Equal rest is = grind (arith, is, apart, subst (λ n. is_at (text_cmp other) n ≡ false) (exact_bytes name key.0 is) apart)
  by_order Greater rest is = grind (arith, is, rest)

-- two keys are put in either order
pub put_put : (name other : Bytes) (entry more : Entry) (keys : Keys) → is_at (text_cmp name) other ≡ false → put name entry (put other more keys) ≡ put other more (put name entry keys)
put_put name other entry more [] apart = by_order (text_cmp name other) refl where
  by_order : (o : Ordering) → text_cmp name other ≡ o → put name entry (put other more []) ≡ put other more (put name entry [])
  by_order Less is = grind (arith, is, below name other is)
  by_order Equal is = grind (arith, is, apart)
  by_order Greater is = grind (arith, is, above name other is)
put_put name other entry more (key ∷ keys) apart = by_order (text_cmp name key.0) (text_cmp other key.0) (put_put name other entry more keys apart) refl refl where
  both : (o : Ordering) → text_cmp name other ≡ o → text_cmp name key.0 ≡ Less → text_cmp other key.0 ≡ Less → put name entry (put other more (key ∷ keys)) ≡ put other more (put name entry (key ∷ keys))
  both Less o is at = grind (arith, o, is, at, below name other o)
  both Equal o is at = grind (arith, o, apart)
  both Greater o is at = grind (arith, o, is, at, above name other o)

  first : text_cmp other name ≡ Greater → text_cmp name key.0 ≡ Less → (o : Ordering) → text_cmp other key.0 ≡ o → is_eq o || is_gt o ≡ true → put name entry (put other more (key ∷ keys)) ≡ put other more (put name entry (key ∷ keys))
  first greater is Less at more = grind (arith, more)
  first greater is Equal at more = grind (arith, greater, is, at)
  first greater is Greater at more = grind (arith, greater, is, at)

  second : text_cmp name other ≡ Greater → text_cmp other key.0 ≡ Less → (o : Ordering) → text_cmp name key.0 ≡ o → is_eq o || is_gt o ≡ true → put name entry (put other more (key ∷ keys)) ≡ put other more (put name entry (key ∷ keys))
  second greater at Less is more = grind (arith, more)
  second greater at Equal is more = grind (arith, greater, is, at)
  second greater at Greater is more = grind (arith, greater, is, at)

  by_order : (o p : Ordering) → put name entry (put other more keys) ≡ put other more (put name entry keys) → text_cmp name key.0 ≡ o → text_cmp other key.0 ≡ p → put name entry (put other more (key ∷ keys)) ≡ put other more (put name entry (key ∷ keys))
  by_order Less Less rest is at = both (text_cmp name other) refl is at
  by_order Less Equal rest is at = first (subst (λ n. text_cmp n name ≡ Greater) (sym (exact_bytes other key.0 at)) (below name key.0 is)) is Equal at refl
  by_order Less Greater rest is at = first (below name other (nat_list_cmp_total.trans name key.0 other is (above other key.0 at))) is Greater at refl
  by_order Equal Less rest is at = second (subst (λ n. text_cmp n other ≡ Greater) (sym (exact_bytes name key.0 is)) (below other key.0 at)) at Equal is refl
  by_order Equal Equal rest is at = grind (arith, is, subst (λ n. is_at (text_cmp name) n ≡ false) (exact_bytes other key.0 at) apart)
  by_order Equal Greater rest is at = grind (arith, is, at)
  by_order Greater Less rest is at = second (below other name (nat_list_cmp_total.trans other key.0 name at (above name key.0 is))) at Greater is refl
  by_order Greater Equal rest is at = grind (arith, is, at)
  by_order Greater Greater rest is at = grind (arith, is, at, rest)

-- a key below all others is put before them
put_below : (name : Bytes) (entry : Entry) (key : Bytes × Entry) (keys : Keys) → IsStrictlySortedBy text_cmp (keys_of (key ∷ keys)) → text_cmp name key.0 ≡ Less → put name entry keys ≡ (name, entry) ∷ keys
put_below name entry key [] s l = refl
put_below name entry key (next ∷ keys) s l = grind (arith, nat_list_cmp_total.trans name key.0 next.0 l (sorted_head text_cmp key.0 (keys_of (next ∷ keys)) s).0)

-- a key goes and another one is put in either order
pub without_put : (name other : Bytes) (more : Entry) (keys : Keys) → IsStrictlySortedBy text_cmp (keys_of keys) → is_at (text_cmp name) other ≡ false → without name (put other more keys) ≡ put other more (without name keys)
without_put name other more [] s apart = grind (arith, apart)
without_put name other more (key ∷ keys) s apart = by_order (text_cmp other key.0) (without_put name other more keys (sorted_tail text_cmp key.0 (keys_of keys) s) apart) refl where
  by_order : (o : Ordering) → without name (put other more keys) ≡ put other more (without name keys) → text_cmp other key.0 ≡ o → without name (put other more (key ∷ keys)) ≡ put other more (without name (key ∷ keys))
  by_order Less rest at = grind (arith, at, apart, put_below other more key keys s at)
  by_order Equal rest at = grind (arith, at, apart, subst (λ n. is_at (text_cmp name) n ≡ false) (exact_bytes other key.0 at) apart)
  by_order Greater rest at = grind (arith, at, rest)

-- a list that gives and one that takes are put in either order
put_list_put : (name other : Bytes) (list : List Bytes) (deadline : Option ℕ) (more : Entry) (keys : Keys) → IsStrictlySortedBy text_cmp (keys_of keys) → is_at (text_cmp name) other ≡ false → put_list name list deadline (put other more keys) ≡ put other more (put_list name list deadline keys)
put_list_put name other [] deadline more keys s apart = without_put name other more keys s apart
put_list_put name other (text ∷ list) deadline more keys s apart = grind (arith, put_put name other (record { value = value.List (text ∷ list); deadline = deadline }) more keys apart)

same_bytes : (name : Bytes) → bytes_eq name name ≡ true
same_bytes name = (bytes_eq-Decides name name).1 refl

apart_from : (name other : Bytes) → bytes_eq name other ≡ false → is_at (text_cmp name) other ≡ false
apart_from name other apart = by_test (is_at (text_cmp name) other) refl where
  by_test : (b : Bool) → is_at (text_cmp name) other ≡ b → is_at (text_cmp name) other ≡ false
  by_test false is = is
  by_test true is = grind (arith, same_bytes name, subst (λ n. bytes_eq name n ≡ false) (sym (exact_bytes name other (equal_at _ is))) apart)

-- ## LMOVE

-- to an end of the same list
pub moved_within : (name : Bytes) (from to : Side) (list : List Bytes) (deadline : Option ℕ) (keys : Keys) → IsStrictlySortedBy text_cmp (keys_of keys) → at name keys ≡ Some (record { value = value.List list; deadline = deadline }) → move_keys name name from to keys ≡ answers (Ok (text_or_null (end_of from list))) (set_value (is_at (text_cmp name)) keys (record { value = value.List (turned to list (take_one from list)); deadline = deadline }))
unfolding move_keys
moved_within name from to list deadline keys s there = by_taken (take_one from list) refl where
  by_taken : (taken : Option (Bytes × List Bytes)) → take_one from list ≡ taken → move_keys name name from to keys ≡ answers (Ok (text_or_null (option_map (λ taken. taken.0) taken))) (set_value (is_at (text_cmp name)) keys (record { value = value.List (turned to list taken); deadline = deadline }))
  by_taken None is = grind (arith, is, there, same_bytes name, set_value_same (is_at (text_cmp name)) keys (record { value = value.List list; deadline = deadline }) there)
  by_taken (Some taken) is = grind (arith, is, there, same_bytes name, push_some to taken.0 taken.1, put_present name (record { value = value.List (push_one to taken.0 taken.1); deadline = deadline }) (record { value = value.List list; deadline = deadline }) keys s there)

some_list : (held : Option (List Bytes)) → is_some held ≡ true → held ≡ Some (unwrap_or held [])
some_list None is = grind (arith, is)
some_list (Some list) is = refl

-- what was taken is the text and leaves the keys
took_it : (text : Bytes) (left after : Keys) (taken : Option (Bytes × Keys)) (result : Option Bytes) → taken ≡ Some (text, left) → MatchOption result (taken ≡ None) (λ t. taken ≡ Some (t, after)) → answers (Ok (reply.Bulk text)) left ≡ answers (Ok (text_or_null result)) after
took_it text left after taken None is took = absurd (none (sym took ∙ is)) where
  none : (let n : Option (Bytes × Keys) = None in n ≡ Some (text, left)) → ⊥
  none e = cc
took_it text left after taken (Some t) is took = ap (λ (p : Bytes × Keys). answers (Ok (reply.Bulk p.0)) p.1) (one (text, left) (t, after) (sym is ∙ took)) where
  one : (p q : Bytes × Keys) → Some p ≡ Some q → p ≡ q
  one p q e = cc

-- from one key to another
pub moved_between : (source destination : Bytes) (from to : Side) (text : Bytes) (entry : Entry) (list : List Bytes) (keys middle after : Keys) (result : Option Bytes) → IsStrictlySortedBy text_cmp (keys_of keys) → bytes_eq source destination ≡ false → at source keys ≡ Some entry → entry.value ≡ value.List list → is_some (list_at (at destination keys)) ≡ true → end_of from list ≡ Some text → middle ≡ push_at destination to text keys → MatchOption result (take_at source from middle ≡ None) (λ text. take_at source from middle ≡ Some (text, after)) → move_keys source destination from to keys ≡ answers (Ok (text_or_null result)) after
unfolding move_keys
moved_between source destination from to text entry list keys middle after result s apart there is other end pushed took = by_taken (take_one from list) refl where
  by_taken : (taken : Option (Bytes × List Bytes)) → take_one from list ≡ taken → move_keys source destination from to keys ≡ answers (Ok (text_or_null result)) after
  by_taken None none = grind (arith, end, none)
  by_taken (Some taken) some =
      let same : taken.0 ≡ text = grind (arith, end, some) in
      let far = apart_from source destination apart in
      let more : Entry = record { value = value.List (push_one to text (list_under destination keys)); deadline = deadline_at (at destination keys) } in
      let stays : at source middle ≡ Some entry = ap (at source) pushed ∙ at_put destination source more keys far ∙ there in
      let left : Keys = put destination more (put_list source taken.1 entry.deadline keys) in
      let moved : put_list source taken.1 entry.deadline middle ≡ left = ap (put_list source taken.1 entry.deadline) pushed ∙ put_list_put source destination taken.1 entry.deadline more keys s far in
      let takes : take_at source from middle ≡ Some (text, left) = grind (arith, stays, is, some, same, moved) in
      let moves : move_keys source destination from to keys ≡ answers (Ok (reply.Bulk text)) left = grind (arith, there, is, apart, some, same, some_list (list_at (at destination keys)) other, push_some to text (list_under destination keys)) in
      moves ∙ took_it text left after (take_at source from middle) result takes took
