-- What the words of a command are to a pipe, as the code has it and as the abstract store does.
use Rattle.sk_model.specs.Reading.{PipeCommand as Meant, Refused as MeansRefused, SetTime as MeansSets, ActAs as MeansSits, CutSeat as MeansCuts, RunCommand as MeansAsks}
use Rattle.sk_pipe.specs.declared.reading.PipeCommand.{PipeCommand}
use Rattle.sk_pipe.specs.declared.reading.PipeCommand.TheVariants.{Refused, SetTime, ActAs, CutSeat, RunCommand}

abbrev pub meant : PipeCommand → Meant
meant (Refused say) = MeansRefused say
meant (SetTime now) = MeansSets now
meant (ActAs seat) = MeansSits seat
meant (CutSeat seat) = MeansCuts seat
meant (RunCommand command) = MeansAsks command
