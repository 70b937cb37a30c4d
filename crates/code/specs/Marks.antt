-- Sets of stations as marks in a number: the bit of weight 2^s is that of station s.
use Rattle.std.specs.Prelude.{◌≡◌, ℕ, ◌/◌, ◌%◌, ◌^◌, Bool, cond, ◌==◌}

abbrev pub marked : ℕ → ℕ → Bool
marked bits s = bits / 2 ^ s % 2 == 1

-- f with b at s
abbrev pub turned : (ℕ → Bool) → ℕ → Bool → ℕ → Bool
turned f s b k = cond (k == s) b (f k)

-- the mark of s is now as b says, and the other marks are as they were
abbrev pub Marked : ℕ → ℕ → Bool → ℕ → Type 0
Marked bits s b bits' = (k : ℕ) → marked bits' k ≡ turned (marked bits) s b k
