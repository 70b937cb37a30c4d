-- What a call is answered, where a refusal is passed on as an error.
use Rattle.std.specs.Prelude.{Ok, Err, Result}
use Rattle.faults.specs.declared.faults.Fault.{Fault}
use Rattle.serve.specs.declared.turns.Answer.{Answer}
use Rattle.serve.specs.declared.turns.Answer.TheVariants.{Refused}

-- a refusal as an answer
abbrev pub answered_by : {B : Type 0} → Result (Answer B) Fault → Answer B
answered_by (Ok r) = r
answered_by (Err f) = Refused f
