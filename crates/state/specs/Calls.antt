-- What each call of a book answers, and what it leaves.
use Rattle.std.specs.Prelude.{◌≡◌, ℕ, ◌*◌, ◌<◌, ◌≤◌, Bool, true, false, cond, ◌&&◌, ◌||◌, Some, None, Ok, Err, Option, Result, ◌==◌, nat_le, nat_lt}
use Rattle.kinds.specs.Group.{Group}
use Rattle.code.specs.Rules.{Blocks, of}
use Rattle.code.specs.Sizes.{OddPrime}
use Rattle.faults.specs.declared.faults.Fault.{Fault}
use Rattle.faults.specs.declared.faults.Fault.TheVariants.{OutAtOpen, NoSuchStation, AlreadyAbsent, NotOut, FillingUnderWay, TooManyAbsent, TicketRefused}
use Rattle.recovery.specs.Patterns.{Touched, data_pair_first}
use Rattle.recovery.specs.Recovery.{RecoveredFrom, area_first, few_answer as few_absent_answer}
use Rattle.store.specs.Meaning.{Meaning, Written, first}
use Rattle.state.specs.Fillings.{next_of}
use Rattle.state.specs.States.{State, size_of, being_filled, absent, absent_count, seen}
use Rattle.state.specs.declared.records.Filling.{Filling}

-- three or more stations are absent
abbrev pub too_many : {B : Type 0} → State B → Bool
too_many st = nat_lt 2 (absent_count st)

-- what a call answered, but for what it hands out or back
abbrev pub answered : {X : Type 0} → Result X Fault → Result (Unit {0}) Fault
answered (Ok x) = Ok tt
answered (Err e) = Err e

abbrev pub told : {X T : Type 0} → Result X (T × Fault) → Result (Unit {0}) Fault
told (Ok x) = Ok tt
told (Err e) = Err e.1

-- may the book be opened? The smallest station that is out
abbrev pub out_at_open : Option ℕ → Result (Unit {0}) Fault
out_at_open None = Ok tt
out_at_open (Some s) = Err (OutAtOpen s)

abbrev pub open_answer : {B : Type 0} → State B → Result (Unit {0}) Fault
open_answer st = out_at_open (first st.store.out (size_of st))

-- zero blocks everywhere, and no filling; the store's size is one of the sizes
pub record Opened {B : Type 0} (G : Group B) (st st' : State B) : Type 0 where
  pub prime : OddPrime (size_of st)
  pub size : size_of st' ≡ size_of st
  pub out : (s : ℕ) → s < size_of st → st'.store.out s ≡ st.store.out s
  pub blocks : (p q : ℕ) → p < size_of st → q < size_of st → of st'.store.block p q ≡ G.none
  pub filling : st'.filling ≡ None

-- 9 b if three or more stations are absent
abbrev pub few_answer : {B : Type 0} → State B → Result (Unit {0}) Fault
few_answer st = few_absent_answer (seen st)

-- what read and write look at before the absent stations: the work area, the stations, and that the pair is a data pair
abbrev pub data_answer : {B : Type 0} → State B → ℕ → ℕ → ℕ → Result (Unit {0}) Fault → Result (Unit {0}) Fault
data_answer st len a b next =
    area_first (size_of st) len (data_pair_first (size_of st) a b next)

-- a read is refused by 9 if one of three or more absent stations is in its pair
abbrev pub read_answer : {B : Type 0} → State B → ℕ → ℕ → ℕ → Result (Unit {0}) Fault
read_answer st len a b =
    data_answer st len a b (cond ((absent st a || absent st b) && too_many st) (Err (TooManyAbsent (absent_count st))) (Ok tt))

-- a write of any pair is
abbrev pub write_answer : {B : Type 0} → State B → ℕ → ℕ → ℕ → Result (Unit {0}) Fault
write_answer st len a b = data_answer st len a b (few_answer st)

-- d is the sum of the new block and the recovered one; each pair whose stations are both in, and that is the written pair
-- or in its pattern, takes its stored block plus d, and all else stays
pub record Wrote {B : Type 0} (G : Group B) (st : State B) (a b : ℕ) (x : B) (st' : State B) : Type 0 where
  pub old : B
  pub recovered : RecoveredFrom G (seen st) a b old
  pub word : Blocks Bool
  pub touched : Touched (size_of st) a b word
  pub size : size_of st' ≡ size_of st
  pub out : (s : ℕ) → s < size_of st → st'.store.out s ≡ st.store.out s
  pub blocks : (p q : ℕ) → p < size_of st → q < size_of st → of st'.store.block p q
      ≡ cond ((st.store.out p || st.store.out q) || cond (of word p q) false true) (of st.store.block p q) (G.sum (of st.store.block p q) (G.sum x old))
  pub filling : st'.filling ≡ st.filling

-- may s be lost?
abbrev pub lose_answer : {B : Type 0} → State B → ℕ → Result (Unit {0}) Fault
lose_answer st s = cond (nat_le (size_of st) s) (Err (NoSuchStation s)) (cond (absent st s) (Err (AlreadyAbsent s)) (Ok tt))

-- may s be fitted? It has to be out, with none being filled and at most two absent
abbrev pub none_filled : {B : Type 0} → State B → Option Filling → Result (Unit {0}) Fault
none_filled st (Some f) = Err (FillingUnderWay f.station)
none_filled st None = few_answer st

abbrev pub fit_answer : {B : Type 0} → State B → ℕ → Result (Unit {0}) Fault
fit_answer st s =
    cond (nat_le (size_of st) s) (Err (NoSuchStation s))
    (cond (st.store.out s) (none_filled st st.filling) (Err (NotOut s)))

-- may a ticket of station t be used to fill? 10 is looked at before 9
abbrev pub fill_answer : {B : Type 0} → State B → ℕ → ℕ → Result (Unit {0}) Fault
fill_answer st len t =
    area_first (size_of st) len
    (cond (being_filled st.filling t) (few_answer st) (Err (TicketRefused t)))

-- may a ticket of station t be used to finish? Its station is the one being filled, and its next partner is n
abbrev pub finish_answer : {B : Type 0} → State B → ℕ → Result (Unit {0}) Fault
finish_answer st t =
    cond (being_filled st.filling t && next_of st.filling == size_of st) (Ok tt) (Err (TicketRefused t))

-- the pair of t and a next partner can be recovered: t is in, and at most two stations are absent
pub record CanFill {B : Type 0} (st : State B) (t next len : ℕ) : Type 0 where
  pub station : t < size_of st
  pub inside : st.store.out t ≡ false
  pub partner : next < size_of st
  pub long : 8 * size_of st ≤ len
  pub few : too_many st ≡ false

-- it recovers the pair of the station being filled with its next partner, and puts it if that partner is in
pub record Filled {B : Type 0} (G : Group B) (st : State B) (t next : ℕ) (m' : Meaning B) : Type 0 where
  pub block : B
  pub recovered : RecoveredFrom G (seen st) t next block
  pub put : st.store.out next ≡ false → Written st.store t next block m'
  pub passed : st.store.out next ≡ true → m' ≡ st.store

-- where there is a next partner; else the store stays
abbrev pub FilledNext : {B : Type 0} → Group B → State B → Option Filling → Meaning B → Type 0
FilledNext G st None m' = m' ≡ st.store
FilledNext G st (Some f) m' = (f.next < size_of st → Filled G st f.station f.next m') × (size_of st ≤ f.next → m' ≡ st.store)
