-- Patterns: which check pairs are 1 in the codeword of bits in which one data pair is 1 and every other is 0.
-- A data pair is a pair of stations below n - 2; the last two are the check stations.
use Rattle.std.specs.Prelude.{◌≡◌, ℕ, ◌+◌, ◌<◌, ◌≤◌, min, max, Bool, true, false, cond, ◌&&◌, List, Ok, Err, Result, nat_le, nat_lt, slice_index_or}
use Rattle.kinds.specs.Bits.{bit_group}
use Rattle.kinds.specs.Group.{Group}
use Rattle.code.specs.Places.{pair_place}
use Rattle.code.specs.Rules.{Blocks, of, changed, Codeword}
use Rattle.code.specs.Sizes.{pairs}
use Rattle.faults.specs.declared.faults.Fault.{Fault}
use Rattle.faults.specs.declared.faults.Fault.TheVariants.{AreaTooShort, CheckPair}
use Rattle.store.specs.Meaning.{Meaning, stations_first}
use Rattle.recovery.specs.Recovery.{area_first}

-- x at the pair of a and b, and none elsewhere
abbrev pub spot : {B : Type 0} → B → B → ℕ → ℕ → Blocks B
spot none x a b = changed (λ _ _. none) a b x

-- a store of that, with the check stations out
abbrev pub impulse : {B : Type 0} → Group B → ℕ → ℕ → ℕ → B → Meaning B
impulse G n a b x =
    record {
      size = n;
      out = λ s. nat_le n (s + 2);
      block = spot G.none x a b;
    }

-- refused where the pair of a and b is no data pair, and else as what is looked at next
abbrev pub data_pair_first : ℕ → ℕ → ℕ → Result (Unit {0}) Fault → Result (Unit {0}) Fault
data_pair_first n a b next = stations_first n a b (cond (nat_le n (max a b + 2)) (Err (CheckPair (max a b))) next)

-- is the pair of a and b a data pair?
abbrev pub data_pair_answer : ℕ → ℕ → ℕ → Result (Unit {0}) Fault
data_pair_answer n a b = data_pair_first n a b (Ok tt)

-- may the pattern of a and b be had, with areas of these lengths?
abbrev pub pattern_answer : ℕ → ℕ → ℕ → ℕ → ℕ → Result (Unit {0}) Fault
pattern_answer n work into a b =
    area_first n work (cond (nat_lt into (pairs n)) (Err (AreaTooShort into)) (data_pair_answer n a b))

-- the pattern of a data pair, and the pair itself: the codeword of bits with 1 there and 0 at the other data pairs
pub record Touched (n a b : ℕ) (word : Blocks Bool) : Type 0 where
  pub code : Codeword bit_group n word
  pub one : of word a b ≡ true
  pub others : (p q : ℕ) → p + 2 < n → q + 2 < n → ((max p q ≡ max a b) × (min p q ≡ min a b) → ⊥) → of word p q ≡ false

-- bits' is the pattern of the data pair of a and b, in place order, and then as bits was
pub record Pattern (n a b : ℕ) (bits bits' : List Bool) : Type 0 where
  pub word : Blocks Bool
  pub touched : Touched n a b word
  pub laid : (x y : ℕ) → x < n → y ≤ x → slice_index_or bits' (pair_place x y) false ≡ (nat_le n (x + 2) && word x y)
  pub later : (p : ℕ) → pairs n ≤ p → slice_index_or bits' p false ≡ slice_index_or bits p false
