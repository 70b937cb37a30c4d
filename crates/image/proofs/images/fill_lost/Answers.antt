use Rattle.std.proofs.Common.{replicate, subst}
use Rattle.image.specs.Images.{Overwritten}
use Rattle.image.proofs.ImageWrites.{filled_more}
use Rattle.image.proofs.images.fill_lost.Goals as goal

pub loop-t-preserved : goal.loop-t-preserved
loop-t-preserved c =
    filled_more c.args.bytes.now c.loop-t.bytes c.overwrite.new.bytes c.args.s c.loop-t.t c.loop-t.invariant
    (subst (λ p. Overwritten c.loop-t.bytes p (replicate 64 238) c.overwrite.new.bytes) c.offset_of.ensures c.overwrite.ensures)
