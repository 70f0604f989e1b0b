-- The kinds of options that command lines have, and what clap reads by them.
use Rattle.std.specs.Prelude.{List, [], ◌∷◌, Some, true}
use Rattle.clap.specs.Words.{App, Kinds, Row, Rule, Text, fault_of, matches_of, new_rule}
use Rattle.clap.specs.declared.builder.action.ArgAction.TheVariants.{Append, SetTrue}

-- `--name value`, with a value of its own where it isn't written
abbrev pub with_default : Text → Text → Rule
with_default name default = record (new_rule name) { long = Some name; defaults = default ∷ [] }

-- `--name value`, which may be missing
abbrev pub optional : Text → Rule
optional name = record (new_rule name) { long = Some name }

-- `--name`
abbrev pub flag : Text → Rule
flag name = record (new_rule name) { long = Some name; action = Some SetTrue }

-- a word that has to stand there
abbrev pub positional : Text → Rule
positional name = record (new_rule name) { required = true }

-- words, any number of them
abbrev pub positionals : Text → Rule
positionals name = record (new_rule name) { action = Some Append }

-- What clap reads by these options in words that begin with the subcommand: a row for each option that has a value.
unfoldable pub rows : App → List Text → List Row
rows app words = matches_of app words

-- why clap refuses the words; empty where it takes them
unfoldable pub refusal : App → List Text → Kinds
refusal app words = fault_of app words
