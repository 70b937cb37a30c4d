use Rattle.std.proofs.Common.{rules, refl}
use Rattle.std.proofs.lemmas.Bool.{both_ways}
use Rattle.code.specs.Sizes.{among, sizes}
use Rattle.code.proofs.Primes.{listed_prime, prime_listed}
use Rattle.code.proofs.sizes.SizeTryFromU8.try_from.Goals as goal

pub returns-in-3 : goal.returns-in-3
returns-in-3 c = (refl, listed_prime c.args.number (search rules))

pub returns-in_default : goal.returns-in_default
returns-in_default c = (refl, λ p. both_ways (among c.args.number sizes) (search rules) (prime_listed c.args.number p))
