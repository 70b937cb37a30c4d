use Rattle.std.proofs.Common.{◌≡◌, ℕ, ◌*◌, ◌<◌, length, get_or}
use Rattle.kinds.specs.Texts.{hex_text}
use Rattle.kinds.proofs.blocks.Block.hex_digits.Given as goal

-- the digits of the bytes so far, each one of ASCII
abbrev pub invariant-loop-i : goal.invariant-loop-i
invariant-loop-i l =
    (length l.digits ≡ 128) × ((k : ℕ) → k < 2 * l.i → (get_or l.digits k 0 ≡ get_or (hex_text l.self.bytes) k 0) × (get_or l.digits k 0 < 128))
