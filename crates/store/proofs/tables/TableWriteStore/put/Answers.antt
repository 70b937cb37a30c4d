use Rattle.std.proofs.Common.{sym, subst, arith}
use Rattle.store.specs.Meaning.{Written}
use Rattle.store.specs.Tables.{table_meaning}
use Rattle.store.proofs.TableRows.{row_written}
use Rattle.store.proofs.tables.TableWriteStore.put.Goals as goal

pub returns-clause-after : goal.returns-clause-after
returns-clause-after g c =
    let t = c.args.self.now in
    let l = c.in_ok-admit_pair.ensures.place in
    subst (λ row. Written (table_meaning g.B.BlockKind.group.none t.roll.size.number t.roll.out.bits t.row.now) c.args.a c.args.b c.args.x (table_meaning g.B.BlockKind.group.none t.roll.size.number t.roll.out.bits row)) (sym c.write_at.ensures)
    (row_written g.B.BlockKind.group.none t.roll.size.number t.roll.out.bits t.row.now c.args.a c.args.b c.place.result c.args.x c.place.ensures (omega (arith, l)))
