-- From what clap made of the words, and from the values of the options, to the line.
use Rattle.std.proofs.Common.{Bool, ◌&&◌, ◌≡◌, ◌≢◌, List, [], ◌∷◌, Result, Ok, Err, true, false, ap, ◌∙◌, inl, inr, refl, subst, sym}
use Rattle.std.specs.Result.{IsErrAnd}
use Rattle.clap.specs.Words.{App, HasKind, HasMatchesOf, Kinds, Row, Text, fault_of, found_of, is_simple_and_free, kind_of, rows_of}
use Rattle.clap.specs.declared.error.Error.{Error}
use Rattle.clap.specs.declared.error.kind.ErrorKind.TheVariants as kind
use Rattle.clap.specs.declared.parser.matches.ArgMatches.{ArgMatches}
use Rattle.sk_line.specs.Lines.{IsLine, Reads, ReadsAs}
use Rattle.sk_line.specs.Options.{refusal, rows}
use Rattle.sk_line.specs.declared.fault.LineFault.{LineFault}
use Rattle.sk_line.specs.declared.fault.LineFault.TheVariants as fault

-- ## What clap made of the words

and_first : (a b : Bool) → a && b ≡ true → a ≡ true
and_first true b e = refl
and_first false b e = e

pub rows_read : (app : App) (words : List Text) (m : ArgMatches) → is_simple_and_free app ≡ true → HasMatchesOf app words m → rows_of (found_of m) ≡ rows app words
unfolding rows
rows_read app words m e h = (h (and_first _ _ e)).0

pub taken : (app : App) (words : List Text) → is_simple_and_free app ≡ true → (is_simple_and_free app ≡ true → fault_of app words ≡ []) → refusal app words ≡ []
unfolding refusal
taken app words e h = h e

has_some : (kinds : Kinds) (e : Error) → (kind_of e ≡ kind.OutOfMemory → ⊥) → HasKind kinds e → kinds ≢ []
has_some [] e other h = elim h [ inl m ↦ absurd (other m) | inr f ↦ absurd f ]
has_some (k ∷ ks) e other h = λ z. cc

pub refused : (app : App) (words : List Text) (e : Error) → is_simple_and_free app ≡ true → (kind_of e ≡ kind.OutOfMemory → ⊥)
    → (is_simple_and_free app ≡ true → HasKind (fault_of app words) e) → refusal app words ≢ []
unfolding refusal
refused app words e simple other h = has_some _ e other (h simple)

-- ## The values

lacking : {V W : Type 0} {Is : V → Type 0} {Of : W → Type 0} (f : LineFault) → Reads Is (Err f) → ((line : W) → Of line → (value : V) × Is value) → Reads Of (Err f)
lacking fault.Refused none part = λ line p. let q = part line p in none q.0 q.1
lacking fault.Memory none part = tt

-- where a part of the line isn't there, the line isn't
pub passed : {V W : Type 0} {Is : V → Type 0} {Of : W → Type 0} (f : LineFault) (r : Result W LineFault)
    → IsErrAnd r (λ e. e ≡ f) → Reads Is (Err f) → ((line : W) → Of line → (value : V) × Is value) → Reads Of r
passed f (Ok line) h none part = absurd h
passed {Is = Is} {Of = Of} f (Err e) h none part = subst (λ x. Reads Of (Err x)) (sym h) (lacking {Is = Is} f none part)

-- the same of a list, which the code has as a vector
pub passed_as : {V W X : Type 0} (shown : W → X) {Is : V → Type 0} {Of : X → Type 0} (f : LineFault) (r : Result W LineFault)
    → IsErrAnd r (λ e. e ≡ f) → Reads Is (Err f) → ((line : X) → Of line → (value : V) × Is value) → ReadsAs shown Of r
passed_as shown f (Ok line) h none part = absurd h
passed_as shown {Is = Is} {Of = Of} f (Err e) h none part = subst (λ x. ReadsAs shown Of (Err x)) (sym h) (lacking {Is = Is} f none part)

-- the line of words that are taken
pub line_read : {V : Type 0} (Is : List Row → V → Type 0) (a app : App) (words : List Text) (values : List Row) (r : Result V LineFault)
    → a ≡ app → refusal a words ≡ [] → values ≡ rows a words → Reads (Is values) r → Reads (IsLine app Is words) r
line_read Is a app words values (Ok line) same t e h =
    record { taken = ap (λ (x : App). refusal x words) (sym same) ∙ t; values = subst (λ x. Is x line) (e ∙ ap (λ (x : App). rows x words) same) h }
line_read Is a app words values (Err fault.Refused) same t e h = λ line p. h line (subst (λ x. Is x line) (sym (e ∙ ap (λ (x : App). rows x words) same)) p.values)
line_read Is a app words values (Err fault.Memory) same t e h = tt
