use Rattle.std.specs.Prelude.{length}
use Rattle.sk_disk.specs.Memory.{IsLeft}
use Rattle.sk_log.specs.File.{IsAt}
use Rattle.sk_tests.proofs.commits.two_threads_find_their_records_in_the_file_unless_it_fails.Given as goal

-- the history that was just made, and whatever the file is a log of
abbrev pub ghosts-log_two : goal.ghosts-log_two
ghosts-log_two g a = record { book = a.new; starts = λ events. IsAt events a.file.1 (IsLeft a.file.0.first a.file.0.first a.file.0.calls); faults = a.file.0.faults; since = length a.file.0.calls; holds = λ history. Unit {0} }
