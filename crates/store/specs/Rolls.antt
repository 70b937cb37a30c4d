-- The roll of a store, and what a change of one station's mark does to it.
use Rattle.std.specs.Prelude.{◌≡◌, ℕ, ◌/◌, ◌^◌, ◌<◌, Bool}
use Rattle.code.specs.Marks.{Marked}
use Rattle.store.specs.declared.rolls.Roll.{Roll}

-- r' is r with station s, which it has, out, or in, as b says; a roll that marks no number of its size or above goes on so
pub record Turned (r : Roll) (s : ℕ) (b : Bool) (r' : Roll) : Type 0 where
  pub here : s < r.size.number
  pub size : r'.size ≡ r.size
  pub out : Marked r.out.bits s b r'.out.bits
  pub low : r.out.bits / 2 ^ r.size.number ≡ 0 → r'.out.bits / 2 ^ r.size.number ≡ 0
