use Rattle.std.proofs.Common.{subst₂}
use Rattle.image.specs.Images.{Overwritten}
use Rattle.image.proofs.ImageWrites.{image_written}
use Rattle.image.proofs.images.ImageWriteStore.put.Goals as goal

pub returns-clause-after : goal.returns-clause-after
returns-clause-after c =
    image_written c.args.self.now.bytes.now c.overwrite.new.bytes c.args.a c.args.b c.args.x
    (subst₂ (λ p xs. Overwritten c.args.self.now.bytes.now p xs c.overwrite.new.bytes) c.offset_of.ensures c.as_bytes.ensures c.overwrite.ensures)
