use Rattle.std.proofs.Common.{ap, ◌∙◌}
use Rattle.code.specs.Sizes.{among, sizes}
use Rattle.code.proofs.Primes.{listed_prime}
use Rattle.image.proofs.read_images.ReadImage.roll.Goals as goal

pub unreachable-requires-in_default-try_from : goal.unreachable-requires-in_default-try_from
unreachable-requires-in_default-try_from c = c.in_default-try_from.ensures.1 (listed_prime _ (ap (λ k. among k sizes) c.in-Some.ensures.number ∙ c.args.self.now.sound.listed))
