use Rattle.code.proofs.Primes.{unlisted}
use Rattle.store.proofs.tables.Table.make.Goals as goal

pub unreachable-requires : goal.unreachable-requires
unreachable-requires g c = let h = rw (unlisted c.args.n c.in_default.ensures.1) at c.requires in cc
