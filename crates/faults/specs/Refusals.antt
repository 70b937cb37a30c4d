-- The text of a refusal.
use Rattle.std.specs.Prelude.{ℕ, List, ◌++◌, codes}
use Rattle.faults.specs.Faults.{written}
use Rattle.faults.specs.declared.faults.Fault.{Fault}

-- "no" and the fault
abbrev pub refusal_text : Fault → List ℕ
refusal_text f = codes "no " ++ written f
