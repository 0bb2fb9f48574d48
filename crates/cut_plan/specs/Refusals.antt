-- The refusals of a plan of cuts (own): their numbers, and what they say.
use Rattle.std.specs.Prelude.{ℕ, List, codes}
use Rattle.cut_plan.specs.declared.cut_fault.CutFault.{CutFault}
use Rattle.cut_plan.specs.declared.cut_fault.CutFault.TheVariants.{Unsorted, PastEnd, NoMemory}

abbrev pub cut_fault_number : CutFault → ℕ
cut_fault_number Unsorted = 1
cut_fault_number PastEnd = 2
cut_fault_number NoMemory = 3

abbrev pub cut_fault_text : CutFault → List ℕ
cut_fault_text Unsorted = codes "a cut in front of the one before it"
cut_fault_text PastEnd = codes "a cut behind the end of the text"
cut_fault_text NoMemory = codes "no memory"
