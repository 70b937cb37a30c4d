use Rattle.std.proofs.Common.{sym}
use Rattle.audit.proofs.First.{first_none}
use Rattle.state.proofs.Cleared.{all_cleared}
use Rattle.book.proofs.books.Book.open.Goals as goal

pub clear-requires : goal.clear-requires
clear-requires g c = first_none _ _ (sym c.in_default.ensures)

pub returns-clause-after : goal.returns-clause-after
returns-clause-after g c = all_cleared _ _ _ _ c.clear.ensures.prime c.clear.ensures.cleared
