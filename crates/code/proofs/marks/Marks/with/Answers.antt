use Rattle.std.proofs.Common.{◌≡◌, ◌/◌, ◌^◌, Bool, true, false, not, sym, refl, ap, ◌∙◌, ap₂, arith}
use mathlib.Core.Bool.{beq}
use native.Mathlib.Nat.{div-eq_of_lt}
use lib.Bits.{bit_xor}
use Rattle.std.proofs.lemmas.Nat.{one_shl, pow_below, xor_shr}
use Rattle.std.proofs.lemmas.Bool.Decides.{nat_tests}
use Rattle.code.specs.Marks.{marked}
use Rattle.code.proofs.Toggle.{toggled}
use Rattle.code.proofs.marks.Marks.with.Goals as goal

flips : (a b : Bool) → beq a b ≡ false → not a ≡ b
flips true false e = refl
flips false true e = refl
flips true true e = sym e
flips false false e = e

pub returns-clause-marks : goal.returns-clause-marks
returns-clause-marks c l k =
    let turned : not (marked c.args.self.bits c.args.s) ≡ c.args.on = ap not (sym c.has.ensures) ∙ flips c.has.result c.args.on c.if-has-on.false in
    ap (λ q. marked q k) (c.from.ensures ∙ ap (bit_xor c.args.self.bits) (one_shl c.args.s 32 l))
    ∙ toggled c.args.self.bits c.args.s k
    ∙ grind (arith, nat_tests)

pub returns-clause-low : goal.returns-clause-low
returns-clause-low c n l e =
    ap (λ q. q / 2 ^ n) (c.from.ensures ∙ ap (bit_xor c.args.self.bits) (one_shl c.args.s 32 c.if-s-ge32.false))
    ∙ xor_shr c.args.self.bits (2 ^ c.args.s) n ∙ ap₂ bit_xor e (div-eq_of_lt (pow_below c.args.s n l))
