use Rattle.state.proofs.Writings.{wrote}
use Rattle.book.proofs.writes.write_pair.Goals as goal

pub returns : goal.returns
returns g c f h = wrote _ _ _ _ _ _ _ _ h c.add.ensures c.spread.ensures
