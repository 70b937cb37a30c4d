-- What a store means, and what its calls answer.
use Rattle.std.specs.Prelude.{◌≡◌, ℕ, zero, suc, ◌<◌, ◌≤◌, min, max, Bool, true, false, cond, ◌||◌, ◌≢◌, Some, None, Ok, Err, Option, Result, nat_le, nat_lt, ◌&&◌}
use Rattle.code.specs.Marks.{marked, turned}
use Rattle.code.specs.Rules.{Blocks, of}
use Rattle.faults.specs.declared.faults.Fault.{Fault}
use Rattle.faults.specs.declared.faults.Fault.TheVariants.{NoSuchStation, AlreadyOut, AlreadyIn, StationOut}

-- a size, whether each station is out, and a block for each pair
pub record Meaning (B : Type 0) : Type 0 where
  pub size : ℕ
  pub out : ℕ → Bool
  pub block : Blocks B

-- no station is out
abbrev pub AllIn : {B : Type 0} → Meaning B → Type 0
AllIn m = (s : ℕ) → s < m.size → m.out s ≡ false

-- out, or in a set of other stations
abbrev pub absent_of : {B : Type 0} → Meaning B → ℕ → ℕ → Bool
absent_of m also s = m.out s || marked also s

-- may the blocks of station s be used?
abbrev pub present_answer : (ℕ → Bool) → ℕ → Result (Unit {0}) Fault
present_answer out s = cond (out s) (Err (StationOut s)) (Ok tt)

-- is s in?
abbrev pub mark_answer : ℕ → (ℕ → Bool) → ℕ → Result Bool Fault
mark_answer n out s = cond (nat_le n s) (Err (NoSuchStation s)) (Ok (cond (out s) false true))

abbrev pub in_answer : {B : Type 0} → Meaning B → ℕ → Result Bool Fault
in_answer m s = mark_answer m.size m.out s

-- is s out? A number of n or more is none that is out
abbrev pub is_out_of : {B : Type 0} → Meaning B → ℕ → Bool
is_out_of m s = nat_lt s m.size && m.out s

-- refused with the first of two numbers that is n or more, and else as what is looked at next
abbrev pub stations_first : ℕ → ℕ → ℕ → Result (Unit {0}) Fault → Result (Unit {0}) Fault
stations_first n a b next = cond (nat_le n a) (Err (NoSuchStation a)) (cond (nat_le n b) (Err (NoSuchStation b)) next)

-- may the pair of a and b be got or put? The first number of n or more, then the smaller station that is out
abbrev pub pair_answer : ℕ → (ℕ → Bool) → ℕ → ℕ → Result (Unit {0}) Fault
pair_answer n out a b =
    stations_first n a b
    (cond (out (min a b)) (Err (StationOut (min a b)))
    (cond (out (max a b)) (Err (StationOut (max a b))) (Ok tt)))

abbrev pub get_answer : {B : Type 0} → Meaning B → ℕ → ℕ → Result (Unit {0}) Fault
get_answer m a b = pair_answer m.size m.out a b

-- may station s be taken out, or brought in?
abbrev pub out_answer : ℕ → (ℕ → Bool) → ℕ → Result (Unit {0}) Fault
out_answer n out s = cond (nat_le n s) (Err (NoSuchStation s)) (cond (out s) (Err (AlreadyOut s)) (Ok tt))

abbrev pub back_answer : ℕ → (ℕ → Bool) → ℕ → Result (Unit {0}) Fault
back_answer n out s = cond (nat_le n s) (Err (NoSuchStation s)) (cond (out s) (Ok tt) (Err (AlreadyIn s)))

abbrev pub take_out_answer : {B : Type 0} → Meaning B → ℕ → Result (Unit {0}) Fault
take_out_answer m s = out_answer m.size m.out s

abbrev pub bring_in_answer : {B : Type 0} → Meaning B → ℕ → Result (Unit {0}) Fault
bring_in_answer m s = back_answer m.size m.out s

-- m' is m with x at the pair of a and b
pub record Written {B : Type 0} (m : Meaning B) (a b : ℕ) (x : B) (m' : Meaning B) : Type 0 where
  pub size : m'.size ≡ m.size
  pub out : (s : ℕ) → s < m.size → m'.out s ≡ m.out s
  pub here : of m'.block a b ≡ x
  pub others : (p q : ℕ) → p < m.size → q < m.size → ((max p q ≡ max a b) × (min p q ≡ min a b) → ⊥) → of m'.block p q ≡ of m.block p q

-- m' is m with station s out, or in, as b says; the pairs with s hold any blocks
pub record Remarked {B : Type 0} (m : Meaning B) (s : ℕ) (b : Bool) (m' : Meaning B) : Type 0 where
  pub size : m'.size ≡ m.size
  pub out : (t : ℕ) → t < m.size → m'.out t ≡ turned m.out s b t
  pub others : (p q : ℕ) → p < m.size → q < m.size → p ≢ s → q ≢ s → of m'.block p q ≡ of m.block p q

-- what a call that was accepted did; one that was refused changed nothing
abbrev pub After : {X : Type 0} → Result X Fault → Type 0 → Type 0 → Type 0
After (Ok x) did same = did
After (Err e) did same = same

-- what put leaves, and what take out and bring in leave, with what they answered
abbrev pub AfterPut : {B : Type 0} → Meaning B → ℕ → ℕ → B → Result (Unit {0}) Fault → Meaning B → Type 0
AfterPut m a b x r m' = After r (Written m a b x m') (m' ≡ m)

abbrev pub AfterMark : {B : Type 0} → Meaning B → ℕ → Bool → Result (Unit {0}) Fault → Meaning B → Type 0
AfterMark m s b r m' = After r (Remarked m s b m') (m' ≡ m)

-- a search of the stations of n that are out, from start on: the first that it comes to, or none
abbrev pub Next : (ℕ → Bool) → ℕ → ℕ → Option ℕ → Type 0
Next out n start None = (k : ℕ) → start ≤ k → k < n → out k ≡ false
Next out n start (Some s) = (start ≤ s) × (s < n) × (out s ≡ true) × ((k : ℕ) → start ≤ k → k < s → out k ≡ false)

-- the smallest number below n that passes
abbrev pub first : (ℕ → Bool) → ℕ → Option ℕ
first f zero = None
first f (suc n) = elim (first f n) [ Some k ↦ Some k | None ↦ cond (f n) (Some n) None ]
