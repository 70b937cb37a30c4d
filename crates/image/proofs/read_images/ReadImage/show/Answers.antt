use Rattle.std.proofs.Common.{ℕ, ◌<◌, arith}
use Rattle.std.proofs.lemmas.Bool.Decides.{nat_tests}
use Rattle.code.proofs.Table.{place_below}
use Rattle.image.specs.Images.{image_size}
use Rattle.image.proofs.read_images.ReadImage.show.Goals as goal

pub pair-requires : goal.pair-requires
pair-requires c =
    let n : ℕ = c.roll-roll.result.size.number in
    let la : c.args.a < n = grind (arith, nat_tests, c.in_ok-admit.ensures) in
    let lb : c.args.b < n = grind (arith, nat_tests, c.in_ok-admit-2.ensures) in
    place_below (image_size c.args.self.now.bytes.now) c.args.a c.args.b (omega (arith, la, c.roll-roll.ensures.size)) (omega (arith, lb, c.roll-roll.ensures.size))
