use Rattle.serve.specs.Racks.{held}
use Rattle.serve.proofs.retires.retire.Given as goal

abbrev pub decreases-loop-ticket : goal.decreases-loop-ticket
decreases-loop-ticket g l = held l.rack
