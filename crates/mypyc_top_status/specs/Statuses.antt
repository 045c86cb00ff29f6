-- The numbers of the statuses, which the program exits with.
use Rattle.std.specs.Prelude.{ℕ}
use Rattle.mypyc_top_status.specs.declared.status.Status.{Status}
use Rattle.mypyc_top_status.specs.declared.status.Status.TheVariants.{Done, Diagnosed, Usage, OpenFault, ReadFault, WriteFault, TooLarge, Raised, Cut, TextRefused, Faulted, InputOver, Memory, InputFault}

abbrev pub number_of : Status → ℕ
number_of Done = 0
number_of Diagnosed = 1
number_of Usage = 2
number_of OpenFault = 3
number_of ReadFault = 4
number_of WriteFault = 5
number_of TooLarge = 6
number_of Raised = 7
number_of Cut = 8
number_of TextRefused = 9
number_of Faulted = 10
number_of InputOver = 11
number_of Memory = 12
number_of InputFault = 13
