-- A text that doesn't open an object has no head.
use Rattle.std.proofs.Common.{◌≡◌, ℕ, zero, suc, Bool, true, false, cond, if◌then◌else◌, ◌==◌, ◌&&◌, List, [], ◌∷◌, length, Option, Some, None, option_map, option_and_then, refl, sym, ap, ◌∙◌}
use Rattle.std.specs.Str.{is_utf8}
use Rattle.std.proofs.lemmas.Bool.{eqb-true}
use Rattle.json.specs.Ascii.{open_brace}
use Rattle.json.specs.Json as json
use Rattle.json.specs.Lex.{Class, Lexeme, Place, token, comma, colon, quote, backslash, operator, space, other, between, fresh, class, lex, lex_byte, place_token, punctuate, string_token, tokens}
use Rattle.json.specs.Text.{content, plain}
use Rattle.json.specs.Token as tok
use Rattle.json.specs.Token.{Token}
use Rattle.json.specs.Word.{after_number, ends_word, is_operator, is_space, number_before, word}
use Rattle.json.specs.Word as words
use Rattle.serde_json.specs.Data.{Data, Num, Items, null, boolean, number, string, array}
use Rattle.serde_json.specs.Read.{max_depth, number_of, of_items, of_json, read}
use Rattle.sk_resp.specs.Spelling.{Bytes}
use Rattle.sk_payload.specs.Head.{head, head_of_object, head_of_value}
use Rattle.sk_payload.specs.Json.{is_short, is_whole, opens_object}
use Rattle.sk_payload.specs.declared.head.Head.{Head}

-- ## The first token

abbrev opens : Token → Bool
opens tok.begin_object = true
opens tok.end_object = false
opens tok.begin_array = false
opens tok.end_array = false
opens (tok.key s) = false
opens (tok.string s) = false
opens (tok.number s) = false
opens (tok.boolean b) = false
opens tok.null = false
opens tok.bad = false

abbrev first_opens : List Token → Bool
first_opens [] = false
first_opens (t ∷ ts) = opens t

either : (b : Bool) (x y : Token) → opens x ≡ false → opens y ≡ false → opens (cond b x y) ≡ false
either true x y p q = p
either false x y p q = q

number_opens : (t : List ℕ) (o : Option (List ℕ)) → opens (number_before t o) ≡ false
number_opens t None = refl
number_opens t (Some r) = either (ends_word r) _ tok.bad refl refl

word_opens : (t : List ℕ) → opens (word t) ≡ false
unfolding word
word_opens t =
    either (words.head t == 116) _ _ (either _ (tok.boolean true) tok.bad refl refl) (either (words.head t == 102) _ _ (either _ (tok.boolean false) tok.bad refl refl)
    (either (words.head t == 110) _ _ (either _ tok.null tok.bad refl refl) (number_opens t (after_number t))))

string_opens : (o : Option (List ℕ)) → opens (string_token o) ≡ false
string_opens None = refl
string_opens (Some s) = refl

placed_opens : (t : Token) (before_colon : Bool) (next : Place → List Token) → opens t ≡ false → first_opens (place_token fresh t before_colon next) ≡ false
placed_opens tok.begin_object b next h = absurd (cc h)
placed_opens tok.end_object b next h = refl
placed_opens tok.begin_array b next h = refl
placed_opens tok.end_array b next h = refl
placed_opens (tok.key s) b next h = refl
placed_opens (tok.string s) true next h = refl
placed_opens (tok.string s) false next h = refl
placed_opens (tok.number s) b next h = refl
placed_opens (tok.boolean v) b next h = refl
placed_opens tok.null b next h = refl
placed_opens tok.bad b next h = refl

operator_opens : (a b c d e : Bool) (ls : List Lexeme) → a ≡ false → first_opens (punctuate fresh (cond a (token tok.begin_object) (cond b (token tok.end_object) (cond c (token tok.begin_array) (cond d (token tok.end_array) (cond e comma colon)))) ∷ ls)) ≡ false
unfolding punctuate
operator_opens true b c d e ls h = absurd (cc h)
operator_opens false true c d e ls h = refl
operator_opens false false true d e ls h = refl
operator_opens false false false true e ls h = refl
operator_opens false false false false true ls h = refl
operator_opens false false false false false ls h = refl

is_blank : (q b o s : Bool) → cond q quote (cond b backslash (cond o operator (cond s space other))) ≡ space → s ≡ true
is_blank true b o s h = absurd (cc h)
is_blank false true o s h = absurd (cc h)
is_blank false false true s h = absurd (cc h)
is_blank false false false true h = refl
is_blank false false false false h = absurd (cc h)

no_brace : (x : ℕ) (xs : Bytes) → opens_object (x ∷ xs) ≡ false → (b : Bool) → (x == open_brace) ≡ b → b ≡ false
no_brace x xs h false e = refl
no_brace x xs h true e = let no : true ≡ false = ap (λ c. opens_object (c ∷ xs)) (sym (eqb-true x open_brace e)) ∙ h in absurd (cc no)

tokens_open : (text : Bytes) → opens_object text ≡ false → first_opens (tokens text) ≡ false
unfolding lex punctuate
tokens_open [] h = refl
tokens_open (x ∷ xs) h = by (class x) refl (tokens_open xs) where
  by : (c : Class) → class x ≡ c → (opens_object xs ≡ false → first_opens (tokens xs) ≡ false) → first_opens (punctuate fresh (lex_byte between c x xs (λ next. lex next xs))) ≡ false
  by quote e ih = placed_opens (string_token (content plain xs)) _ _ (string_opens (content plain xs))
  by backslash e ih = refl
  by operator e ih = operator_opens (x == open_brace) _ _ _ _ _ (no_brace x xs h (x == open_brace) refl)
  by space e ih = let blank : is_space x ≡ true = is_blank _ _ (is_operator x) (is_space x) e in ih (sym (ap (λ b. if b then opens_object xs else (x == open_brace)) blank) ∙ h)
  by other e ih = placed_opens (word (x ∷ xs)) _ _ (word_opens (x ∷ xs))

-- ## The value

no_choice : (b : Bool) (found : Option Head) → (if b then found else found) ≡ found
no_choice true found = refl
no_choice false found = refl

abbrev headless : Option Data → Type 0
headless found = option_and_then head_of_value found ≡ None

of_null : headless (Some null)
unfolding head_of_value head_of_object
of_null = no_choice (is_whole null && is_short null) None

of_boolean : (b : Bool) → headless (Some (boolean b))
unfolding head_of_value head_of_object
of_boolean b = no_choice (is_whole (boolean b) && is_short (boolean b)) None

of_number : (n : Option Num) → headless (option_map number n)
unfolding head_of_value head_of_object
of_number None = refl
of_number (Some n) = no_choice (is_whole (number n) && is_short (number n)) None

of_string : (s : List ℕ) → headless (Some (string s))
unfolding head_of_value head_of_object
of_string s = no_choice (is_whole (string s) && is_short (string s)) None

of_array : (ds : Option Items) → headless (option_map array ds)
unfolding head_of_value head_of_object
of_array None = refl
of_array (Some ds) = no_choice (is_whole (array ds) && is_short (array ds)) None

if_last : (j : json.Json) (ts : List Token) → headless (of_json j) → headless (option_and_then of_json (json.if_last j ts))
if_last j [] h = h
if_last j (t ∷ ts) h = refl

array_read : (found : Option (json.Items × List Token)) → headless (option_and_then of_json (option_and_then (λ p. json.if_last p.0 p.1) (json.parse_map json.array found)))
array_read None = refl
array_read (Some (js, ts)) = if_last (json.array js) ts (of_array (of_items js))

value_with : (a : json.Parse json.Items) (o : json.Parse json.Members) (ts : List Token) → first_opens ts ≡ false → headless (option_and_then of_json (option_and_then (λ p. json.if_last p.0 p.1) (json.value_with a o ts)))
value_with a o [] h = refl
value_with a o (tok.begin_object ∷ ts) h = absurd (cc h)
value_with a o (tok.end_object ∷ ts) h = refl
value_with a o (tok.begin_array ∷ ts) h = array_read (a ts)
value_with a o (tok.end_array ∷ ts) h = refl
value_with a o (tok.key s ∷ ts) h = refl
value_with a o (tok.string s ∷ ts) h = if_last (json.string s) ts (of_string s)
value_with a o (tok.number s ∷ ts) h = if_last (json.number s) ts (of_number (number_of s))
value_with a o (tok.boolean b ∷ ts) h = if_last (json.boolean b) ts (of_boolean b)
value_with a o (tok.null ∷ ts) h = if_last json.null ts of_null
value_with a o (tok.bad ∷ ts) h = refl

value_read : (depth : ℕ) (ts : List Token) → first_opens ts ≡ false → headless (option_and_then of_json (option_and_then (λ p. json.if_last p.0 p.1) (json.value depth ts)))
unfolding json.value
value_read zero ts h = value_with (λ us. None) (λ us. None) ts h
value_read (suc depth) ts h = value_with (λ us. json.items (json.value depth) (length us) us) (λ us. json.members (json.value depth) (length us) us) ts h

pub no_head : (text : Bytes) → opens_object text ≡ false → head text ≡ None
unfolding head
no_head text h = by (is_utf8 text) where
  by : (utf8 : Bool) → headless (if utf8 then read text else None)
  by true = value_read max_depth (tokens text) (tokens_open text h)
  by false = refl
