use Rattle.std.proofs.Common.{rules}
use Rattle.faults.specs.Faults.{same_fault_laws}
use Rattle.faults.proofs.faults.Fault.says_the_same.Goals as goal

pub returns-clause-says : goal.returns-clause-says
returns-clause-says c = search rules

pub returns-clause-laws : goal.returns-clause-laws
returns-clause-laws c = same_fault_laws
