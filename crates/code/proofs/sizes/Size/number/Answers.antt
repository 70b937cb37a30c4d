use Rattle.code.proofs.Primes.{listed_prime}
use Rattle.code.proofs.sizes.Size.number.Goals as goal

pub returns-clause-prime : goal.returns-clause-prime
returns-clause-prime c = listed_prime c.args.self.number c.args.self.allowed
