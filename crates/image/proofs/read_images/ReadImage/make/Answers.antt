use Rattle.image.proofs.ImageBytes.{checked, passes}
use Rattle.image.proofs.read_images.ReadImage.make.Goals as goal

pub returns-clause-images : goal.returns-clause-images
returns-clause-images c bs = (checked bs, passes bs)
