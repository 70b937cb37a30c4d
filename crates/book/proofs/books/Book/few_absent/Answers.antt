use Rattle.std.proofs.Common.{cond, ltb, Ok, Err, ap, ◌∙◌}
use Rattle.faults.specs.declared.faults.Fault.TheVariants.{TooManyAbsent}
use Rattle.state.proofs.Absents.{out_counted}
use Rattle.store.specs.Standing.{beside}
use Rattle.book.specs.Books.{state_of}
use Rattle.book.proofs.books.Book.few_absent.Goals as goal

pub returns : goal.returns
returns g c =
    let m' = beside (g.S.ReadStore.means c.standing.result.store.now) c.standing.result.also.bits in
    c.few_absent.ensures ∙ ap (λ n. cond (ltb 2 n) (Err (TooManyAbsent n)) (Ok tt)) (out_counted (state_of g.S.ReadStore.means c.args.self.now) m' c.standing.ensures)
