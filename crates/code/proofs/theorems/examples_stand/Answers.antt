use Rattle.code.proofs.Pencil.{examples}
use Rattle.code.proofs.theorems.examples_stand.Goals as goal

pub returns : goal.returns
returns c = examples
