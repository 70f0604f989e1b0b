-- The words of a command are read in one way, and there is one.
use Rattle.std.proofs.Common.{◌≡◌, [], ◌∷◌, refl, sym, ap, ◌∙◌, Bool, true, false}
use Rattle.std.specs.Bool.{MatchBool}
use Rattle.std.specs.Prelude.{ℤ, Option}
use Rattle.sk_resp.specs.declared.name.Name.{Name}
use Rattle.sk_resp.specs.declared.name.Name.TheVariants.{As, Now, Cut}
use Rattle.sk_cmd.proofs.AgreeArguments.{int_same}
use Rattle.sk_cmd.proofs.AgreeTable.{one_command}
use Rattle.sk_cmd.proofs.ExistsNumbers.{int_exists}
use Rattle.sk_cmd.proofs.ExistsTable.{some_command}
use Rattle.sk_resp.specs.declared.say.Say.TheVariants as say
use Rattle.sk_model.specs.Reading.{Words, PipeCommand, Refused, ActAs, CutSeat, IsSaid, IsNumber, IsAsked, SomeReading, is_word, moment_said, seat_said, told}

asked_one : (words : Words) (a b : PipeCommand) → IsAsked words a → IsAsked words b → a ≡ b
asked_one words a b p q = p.3 ∙ ap told (one_command words p.0 q.0 p.1 q.1 p.2 q.2) ∙ sym q.3

number_one : (name : Name) (meant : Option ℤ → PipeCommand) (words : Words) (a b : PipeCommand) → IsNumber name meant words a → IsNumber name meant words b → a ≡ b
number_one name meant [] a b p q = p ∙ sym q
number_one name meant (text ∷ []) a b p q = p.2 ∙ ap meant (int_same text p.0 q.0 p.1 q.1) ∙ sym q.2
number_one name meant (text ∷ more ∷ words) a b p q = p ∙ sym q

-- where what follows from a test is read in one way, both times
either : {P Q R S : Type 0} (a b : PipeCommand) (test : Bool) → (P → R → a ≡ b) → (Q → S → a ≡ b) → MatchBool test P Q → MatchBool test R S → a ≡ b
either a b true f g p q = f p q
either a b false f g p q = g p q

pub one_reading : (words : Words) (a b : PipeCommand) → IsSaid words a → IsSaid words b → a ≡ b
one_reading [] a b p q = asked_one [] a b p q
one_reading (word ∷ words) a b p q =
    either a b (is_word Now word) (number_one Now moment_said words a b)
    (λ p q. either a b (is_word As word) (number_one As (seat_said ActAs) words a b)
    (λ p q. either a b (is_word Cut word) (number_one Cut (seat_said CutSeat) words a b) (asked_one (word ∷ words) a b) p q) p q) p q

-- ## There is one

asked_exists : (words : Words) → (said : PipeCommand) × IsAsked words said
asked_exists words = let c = some_command words in (told c.0, (c.0, c.1, c.2, refl))

number_exists : (name : Name) (meant : Option ℤ → PipeCommand) (words : Words) → (said : PipeCommand) × IsNumber name meant words said
number_exists name meant [] = (Refused (say.Arity name), refl)
number_exists name meant (text ∷ []) = let n = int_exists text in (meant n.0, (n.0, n.1, refl))
number_exists name meant (text ∷ more ∷ words) = (Refused (say.Arity name), refl)

one_of : {P Q : PipeCommand → Type 0} (test : Bool) → (said : PipeCommand) × P said → (said : PipeCommand) × Q said → (said : PipeCommand) × MatchBool test (P said) (Q said)
one_of true p q = p
one_of false p q = q

pub some_reading : SomeReading
some_reading [] = asked_exists []
some_reading (word ∷ words) =
    one_of (is_word Now word) (number_exists Now moment_said words)
    (one_of (is_word As word) (number_exists As (seat_said ActAs) words) (one_of (is_word Cut word) (number_exists Cut (seat_said CutSeat) words) (asked_exists (word ∷ words))))
