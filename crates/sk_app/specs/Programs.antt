-- Which program the words of a command line name.
use Rattle.std.specs.Prelude.{◌&&◌, ◌||◌, Bool, List, [], ◌∷◌, Option, Some, None, codes, cond, nat_eq}
use Rattle.std.specs.List.{list_any, starts_with}
use Rattle.std.specs.Str.{bytes_eq}
use Rattle.sk_resp.specs.Spelling.{Bytes}
use Rattle.sk_app.specs.declared.program.Program.{Program}
use Rattle.sk_app.specs.declared.program.Program.TheVariants.{Serve, Work, Push, Status, Soak, Drill, Limit, Iterate, LogPipe, LogServe}

abbrev pub named : Bytes → Option Program
named name = cond (bytes_eq name (codes "serve")) (Some Serve)
    (cond (bytes_eq name (codes "work")) (Some Work)
    (cond (bytes_eq name (codes "push")) (Some Push)
    (cond (bytes_eq name (codes "status")) (Some Status)
    (cond (bytes_eq name (codes "soak")) (Some Soak)
    (cond (bytes_eq name (codes "drill")) (Some Drill)
    (cond (bytes_eq name (codes "limit")) (Some Limit)
    (cond (bytes_eq name (codes "iterate")) (Some Iterate) None)))))))

-- the option that names a file, alone or with its value behind `=`
abbrev pub is_log : Bytes → Bool
is_log word = bytes_eq word (codes "--log") || starts_with nat_eq word (codes "--log=")

-- The first word names it: `pipe` where it isn't alone, and `serve` one of two, by whether a later word is that option.
abbrev pub program_of : List Bytes → Option Program
program_of [] = None
program_of (name ∷ []) = named name
program_of (name ∷ word ∷ words) = cond (bytes_eq name (codes "pipe")) (Some LogPipe)
    (cond (bytes_eq name (codes "serve") && list_any is_log (word ∷ words)) (Some LogServe) (named name))
