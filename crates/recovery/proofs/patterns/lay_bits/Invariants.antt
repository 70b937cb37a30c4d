use Rattle.std.proofs.Common.{◌≡◌, ℕ, ◌<◌, ◌≤◌, false, get_or}
use Rattle.code.specs.Places.{pair_place}
use Rattle.recovery.specs.Recovery.{row_bit}
use Rattle.recovery.proofs.patterns.lay_bits.Given as goal

-- the bits of the places so far
abbrev pub invariant-loop-p : goal.invariant-loop-p
invariant-loop-p l =
    (x y : ℕ) → x < l.rows.size.number → y ≤ x → pair_place x y < l.p → get_or l.bits (pair_place x y) false ≡ row_bit l.rows.size.number l.rows.two l.rows.first.now l.rows.second.now x y
