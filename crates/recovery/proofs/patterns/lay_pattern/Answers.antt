use Rattle.std.proofs.Common.{◌≡◌, ◌-◌, Bool, true, take, drop, sym, ap, ◌∙◌, subst, arith}
use Rattle.kinds.specs.Bits.{bit_group}
use Rattle.code.specs.Sizes.{pairs}
use Rattle.code.specs.declared.places.Pair.{Pair}
use Rattle.store.specs.Meaning.{Meaning}
use Rattle.recovery.specs.Patterns.{impulse, Pattern}
use Rattle.recovery.specs.Recovery.{Rows}
use Rattle.recovery.proofs.Impulses.{pattern_laid}
use Rattle.recovery.proofs.patterns.lay_pattern.Goals as goal

pub returns : goal.returns
returns c =
    let n = c.number-n.result in
    let a = c.args.a in
    let b = c.args.b in
    let made = c.new-store.result in
    let m : Meaning Bool = impulse bit_group made.size.number made.a made.b made.block in
    let s : n ≡ c.args.size.number = c.number-n.ensures.same in
    let e : m ≡ impulse bit_group n a b true = c.new-store.ensures ∙ ap (λ k. impulse bit_group k a b true) (sym s) in
    let two : Pair = record { larger = n - 1; smaller = n - 2 } in
    let area = c.rebuild.new.work in
    let here : c.new.result.size.number ≡ n = ap (λ z. z.number) c.new.ensures.size ∙ sym s in
    let q : pairs c.new.result.size.number ≡ pairs n = ap pairs here in
    subst (λ k. Pattern k a b c.args.into.now c.lay_bits.new.into) s
    (pattern_laid n a b (omega arith) (take n area) (drop n area) c.args.into.now c.lay_bits.new.into
    (subst (λ m. Rows bit_group m two (take m.size area) (drop m.size area)) e c.rebuild.ensures)
    (λ x y lx ly. c.lay_bits.ensures.laid x y (omega arith) ly ∙ cc)
    (λ p l. c.lay_bits.ensures.later p (omega arith)))
