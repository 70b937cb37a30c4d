-- Recovery over any store for reading, in which the absent stations are those that are out: what a call answers.
use Rattle.std.specs.Prelude.{◌≡◌, ℕ, ◌+◌, ◌*◌, ◌<◌, ◌≤◌, Bool, true, false, cond, ◌&&◌, ◌||◌, ◌≢◌, List, length, take, drop, Some, None, Ok, Err, Option, Result, ◌==◌, nat_le, nat_lt, slice_index_or}
use Rattle.kinds.specs.Group.{Group}
use Rattle.code.specs.Marks.{marked}
use Rattle.code.specs.Rebuilt.{absentees, Kept, Recovered}
use Rattle.code.specs.Rules.{Blocks, of, Codeword, Agree}
use Rattle.faults.specs.declared.faults.Fault.{Fault}
use Rattle.faults.specs.declared.faults.Fault.TheVariants.{AreaTooShort, TooManyAbsent}
use Rattle.code.specs.declared.places.Pair.{Pair}
use Rattle.store.specs.Meaning.{Meaning, is_out_of, stations_first}

-- the marks of the absent stations: none from n on
abbrev pub AbsentMarks : {B : Type 0} → Meaning B → ℕ → Type 0
AbsentMarks m marks = (s : ℕ) → marked marks s ≡ is_out_of m s

-- how many stations are absent
abbrev pub absent_in : {B : Type 0} → Meaning B → ℕ
absent_in m = absentees m.out m.size

-- refused where a work area has under 8 n blocks, and else as what is looked at next
abbrev pub area_first : ℕ → ℕ → Result (Unit {0}) Fault → Result (Unit {0}) Fault
area_first n len next = cond (nat_lt len (8 * n)) (Err (AreaTooShort len)) next

-- refused where three or more stations are absent
abbrev pub few_answer : {B : Type 0} → Meaning B → Result (Unit {0}) Fault
few_answer m = cond (nat_lt 2 (absent_in m)) (Err (TooManyAbsent (absent_in m))) (Ok tt)

-- may the pair of a and b be recovered, with a work area of this length?
abbrev pub recover_answer : {B : Type 0} → Meaning B → ℕ → ℕ → ℕ → Result (Unit {0}) Fault
recover_answer m len a b =
    area_first m.size len
    (stations_first m.size a b
    (cond ((m.out a || m.out b) && nat_lt 2 (absent_in m)) (Err (TooManyAbsent (absent_in m))) (Ok tt)))

-- x is the block of the pair of a and b: as stored, or recovered from the others
abbrev pub RecoveredFrom : {B : Type 0} → Group B → Meaning B → ℕ → ℕ → B → Type 0
RecoveredFrom G m a b x = Recovered G m.size m.out m.block a b x

-- the two absent stations, where there are just two
pub record Two {B : Type 0} (m : Meaning B) (x : Pair) : Type 0 where
  pub before : x.smaller < x.larger
  pub below : x.larger < m.size
  pub lost_smaller : m.out x.smaller ≡ true
  pub lost_larger : m.out x.larger ≡ true
  pub others : (k : ℕ) → k < m.size → k ≢ x.smaller → k ≢ x.larger → m.out k ≡ false

-- two areas that begin with the rows of two stations, in a codeword that agrees with the store at each pair of stations
-- that stand
pub record Rows {B : Type 0} (G : Group B) (m : Meaning B) (x : Pair) (first second : List B) : Type 0 where
  pub word : Blocks B
  pub code : Codeword G m.size word
  pub agrees : Agree m.size (Kept m.out) word m.block
  pub smaller : (k : ℕ) → k < m.size → slice_index_or first k G.none ≡ of word x.smaller k
  pub larger : (k : ℕ) → k < m.size → slice_index_or second k G.none ≡ of word x.larger k

-- the block of a pair with one of the two stations, read from their rows
abbrev pub row_block : {B : Type 0} → B → Pair → List B → List B → ℕ → ℕ → B
row_block none x first second a b =
    cond (a == x.smaller) (slice_index_or first b none)
    (cond (a == x.larger) (slice_index_or second b none)
    (cond (b == x.smaller) (slice_index_or first a none) (slice_index_or second a none)))

-- the same of bits, and of n stations of which those two are the check stations: 0 for a data pair
abbrev pub row_bit : ℕ → Pair → List Bool → List Bool → ℕ → ℕ → Bool
row_bit n x first second a b = nat_le n (a + 2) && row_block false x first second a b

-- what the rebuilding of two absent stations answers, and what the area then holds: their rows, one after the other
abbrev pub RebuiltTwo : {B : Type 0} → Group B → Meaning B → List B → Result (Option Pair) Fault → List B → Type 0
RebuiltTwo G m area (Err e) area' = (length area < 8 * m.size) × (e ≡ AreaTooShort (length area)) × (area' ≡ area)
RebuiltTwo G m area (Ok None) area' = (8 * m.size ≤ length area) × (absent_in m ≢ 2) × (area' ≡ area)
RebuiltTwo G m area (Ok (Some x)) area' = (8 * m.size ≤ length area) × (absent_in m ≡ 2) × Two m x × Rows G m x (take m.size area') (drop m.size area')
