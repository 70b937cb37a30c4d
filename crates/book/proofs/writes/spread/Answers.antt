use Rattle.state.proofs.Spreads.{spread_from}
use Rattle.book.proofs.writes.spread.Goals as goal

pub returns : goal.returns
returns g c =
    spread_from _ _ _ _ _ _ _ _ _ _ c.requires.inner c.size-size.ensures c.number-n.ensures.same c.new-pulse.ensures
    _ _ _ _ _ _ _ c.number-n.ensures.prime.0 c.from.ensures c.split_at.ensures.front c.split_at.ensures.back
    (rw c.in-Ok-Some.field-0-is at c.in-Ok-Some.ensures)
    c.add_row.ensures c.add_row-2.ensures c.add_to.ensures
