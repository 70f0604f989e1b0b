-- The words of a limiter's requests, as the store reads them.
use Rattle.std.proofs.Common.{◌<◌, ◌^◌, ℕ, [], ◌∷◌, refl, sym, true, arith}
use Rattle.std.proofs.lemmas.Fmt.{decimal_digit}
use Rattle.std.specs.Prelude.{Some, Ok, pos, codes}
use Rattle.std.specs.Fmt.{decimal}
use Rattle.sk_resp.specs.Spelling.{Bytes}
use Rattle.sk_resp.specs.declared.name.Name.TheVariants as name
use Rattle.sk_cmd.specs.Arguments.{IsWhole}
use Rattle.sk_cmd.specs.Options.{IsSetOptions, no_set_options}
use Rattle.sk_cmd.specs.Table.{IsRead}
use Rattle.sk_cmd.specs.declared.argument.Expire.TheVariants as expire
use Rattle.sk_cmd.specs.declared.argument.SetOptions.{SetOptions}
use Rattle.sk_cmd.specs.declared.command.Command.TheVariants as command
use Rattle.sk_cmd.specs.declared.command.PlainCommand.TheVariants as plain
use Rattle.sk_cmd.specs.declared.options.SetNext.TheVariants as set
use Rattle.sk_cmd.specs.declared.options.SetSoFar.{SetSoFar}
use Rattle.sk_limit.specs.Requests.{count_words, expire_words, give_words, left_words, set_words}

-- NX, and PX with so many milliseconds
abbrev pub set_options : ℕ → SetOptions
set_options millis = record { only_new = true; expire = expire.Millis (pos millis) }

whole : (n : ℕ) → n < 2 ^ 63 → IsWhole (decimal n) (Ok (pos n))
whole n fits = (Some (pos n), (fits, refl), refl)

options_read : (millis : ℕ) → millis < 2 ^ 63 → IsSetOptions (codes "NX" ∷ codes "PX" ∷ decimal millis ∷ []) no_set_options (Ok (set_options millis))
options_read millis fits =
    let nx : SetSoFar = record { only_new = true; expire = expire.Never; next = set.Word } in
    let px : SetSoFar = record { only_new = true; expire = expire.Never; next = set.Millis } in
    let last : SetSoFar = record { only_new = true; expire = expire.Millis (pos millis); next = set.Word } in
    (Ok nx, refl, (Ok px, refl, (Ok last, (Ok (pos millis), whole millis fits, refl), refl)))

pub set_read : (key text : Bytes) (millis : ℕ) → millis < 2 ^ 63 → IsRead (set_words key text millis) (Ok (command.Plain (plain.Set key text (set_options millis))))
set_read key text millis fits =
    (Some name.Set, refl, (Ok (key, text, codes "NX" ∷ codes "PX" ∷ decimal millis ∷ []), (refl, refl), (Ok (set_options millis), options_read millis fits, refl)))

pub give_read : (key token : Bytes) → IsRead (give_words key token) (Ok (command.Plain (plain.Give key token)))
give_read key token = (Some name.Give, refl, (Ok (key, token), refl, refl))

pub count_read : (key : Bytes) → IsRead (count_words key) (Ok (command.Plain (plain.Incrby key (pos 1))))
count_read key =
    let one : IsWhole (codes "1") (Ok (pos 1)) = (Some (pos 1), (omega arith, sym (decimal_digit 1 (omega arith))), refl) in
    (Some name.Incrby, refl, (Ok (key, pos 1), (Ok (key, codes "1"), refl, (Ok (pos 1), one, refl)), refl))

pub bound_read : (key : Bytes) (millis : ℕ) → millis < 2 ^ 63 → IsRead (expire_words key millis) (Ok (command.Plain (plain.Pexpire key (pos millis))))
bound_read key millis fits =
    (Some name.Pexpire, refl, (Ok (key, pos millis), (Ok (key, decimal millis), refl, (Ok (pos millis), whole millis fits, refl)), refl))

pub left_read : (key : Bytes) → IsRead (left_words key) (Ok (command.Plain (plain.Pttl key)))
left_read key = (Some name.Pttl, refl, (Ok key, refl, refl))
