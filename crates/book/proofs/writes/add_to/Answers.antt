use Rattle.state.proofs.Addings.{added_refused}
use Rattle.book.proofs.writes.add_to.Goals as goal

pub returns-else-is_ok : goal.returns-else-is_ok
returns-else-is_ok g c = added_refused _ _ _ _ _ c.requires.first c.requires.second _ c.if-is_ok.ensures.value c.get.ensures.answer
