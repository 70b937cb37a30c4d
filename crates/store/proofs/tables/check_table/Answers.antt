use Rattle.std.proofs.Common.{Err, ap, ◌∙◌}
use Rattle.std.proofs.lemmas.Result.{err_from_is_err_and}
use Rattle.code.proofs.Primes.{unlisted}
use Rattle.store.proofs.tables.check_table.Goals as goal

pub returns-in_err-size : goal.returns-in_err-size
returns-in_err-size g c =
    let p = err_from_is_err_and c.from_residual.result c.from_residual.ensures.1 in
    let q = c.in_err-size.ensures in
    rw (unlisted c.args.n q.1) (p.1 ∙ ap Err (p.2 ∙ q.0))
