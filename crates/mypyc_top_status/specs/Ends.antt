-- The machine's ending of a program that ended so.
use Rattle.value_core.specs.Exceptions.{thrown}
use Rattle.value_core.specs.Ending as source
use Rattle.c_core.specs.Step.{MachineEnding, Ended, Faulted}
use Rattle.mypyc_top_status.specs.declared.ending.ProgramEnd.{ProgramEnd}
use Rattle.mypyc_top_status.specs.declared.ending.ProgramEnd.TheVariants.{Done, Raised, Cut, Over, Broken, Fault}

abbrev pub machine_ending : ProgramEnd → MachineEnding
machine_ending Done = Ended source.Done
machine_ending (Raised class text) = Ended (source.Raised (thrown class text.now))
machine_ending Cut = Ended source.Cut
machine_ending Over = Ended source.Over
machine_ending Broken = Ended source.Broken
machine_ending (Fault f) = Faulted f
