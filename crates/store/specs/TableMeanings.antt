-- What a table means, with a block to stand for what lies past the end of its row.
use Rattle.store.specs.Meaning.{Meaning}
use Rattle.store.specs.Tables.{table_meaning}
use Rattle.store.specs.declared.tables.Table.{Table}

abbrev pub means_of : {B : Type 0} → B → Table B → Meaning B
means_of none t = table_meaning none t.roll.size.number t.roll.out.bits t.row.now
