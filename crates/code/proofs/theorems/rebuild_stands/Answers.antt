use Rattle.code.proofs.Rebuild.{stands}
use Rattle.code.proofs.theorems.rebuild_stands.Goals as goal

pub returns : goal.returns
returns g c = stands
