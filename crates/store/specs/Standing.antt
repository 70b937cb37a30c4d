-- What a store holds where stations are out, or count as out.
use Rattle.std.specs.Prelude.{ℕ, Bool, cond, ◌||◌}
use Rattle.kinds.specs.Group.{Group}
use Rattle.code.specs.Rules.{Blocks}
use Rattle.store.specs.Meaning.{Meaning, absent_of}

-- m where the stations of a set count as out beside those that are
abbrev pub beside : {B : Type 0} → Meaning B → ℕ → Meaning B
beside m also = record { size = m.size; out = absent_of m also; block = m.block }

-- f with none at each pair that has an absent station
abbrev pub without : {B : Type 0} → Group B → (ℕ → Bool) → Blocks B → Blocks B
without G absent f a b = cond (absent a || absent b) G.none (f a b)

-- the blocks of a store, with none at each pair that has a station out
abbrev pub standing : {B : Type 0} → Group B → Meaning B → Blocks B
standing G m = without G m.out m.block
