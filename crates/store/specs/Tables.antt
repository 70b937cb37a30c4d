-- A table: the blocks of all pairs in a row, in place order. Blocks past them are no part of it.
use Rattle.std.specs.Prelude.{ℕ, cond, List, Ok, Err, Result, nat_lt, slice_index_or}
use Rattle.code.specs.Marks.{marked}
use Rattle.code.specs.Places.{pair_place}
use Rattle.code.specs.Sizes.{among, sizes, pairs}
use Rattle.faults.specs.declared.faults.Fault.{Fault}
use Rattle.faults.specs.declared.faults.Fault.TheVariants.{NotASize, AreaTooShort}
use Rattle.store.specs.Meaning.{Meaning}

-- is n a size, and does a row of so many blocks hold all its pairs?
abbrev pub table_check : ℕ → ℕ → Result (Unit {0}) Fault
table_check n len =
    cond (among n sizes) (cond (nat_lt len (pairs n)) (Err (AreaTooShort len)) (Ok tt)) (Err (NotASize n))

-- what a row means, with a block to stand for what lies past its end
abbrev pub table_meaning : {B : Type 0} → B → ℕ → ℕ → List B → Meaning B
table_meaning none n bits row = record { size = n; out = marked bits; block = λ a b. slice_index_or row (pair_place a b) none }
