use Rattle.std.proofs.Common.{◌≡◌, ℕ, ◌&&◌, ltb}
use Rattle.code.specs.Marks.{marked}
use Rattle.recovery.proofs.absent.absent_marks.Given as goal

-- the marks of the absent stations below s
abbrev pub invariant-loop-s : goal.invariant-loop-s
invariant-loop-s g l = (k : ℕ) → marked l.absent.bits k ≡ (ltb k l.s && (g.S.ReadStore.means l.store).out k)
