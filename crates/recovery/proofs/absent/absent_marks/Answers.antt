use Rattle.std.proofs.Common.{◌<◌, ◌∙◌, arith}
use Rattle.std.proofs.lemmas.Bool.Decides.{nat_tests}
use Rattle.recovery.proofs.absent.absent_marks.Goals as goal

pub loop-s-preserved : goal.loop-s-preserved
loop-s-preserved g c k =
    let n : c.loop-s.s < 32 = omega (arith, c.number-s-end.ensures.prime.1) in
    c.with-absent.ensures.marks n k ∙ grind (arith, nat_tests, c.loop-s.invariant k, c.is_out.ensures)
