use Rattle.image.specs.Images.{Filled}
use Rattle.image.proofs.images.fill_lost.Given as goal

abbrev pub invariant-loop-t : goal.invariant-loop-t
invariant-loop-t l = Filled l.initial.bytes l.s l.t l.bytes
