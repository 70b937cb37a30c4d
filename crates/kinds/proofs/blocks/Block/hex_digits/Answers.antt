use Rattle.std.proofs.Common.{rules, ◌≡◌, ℕ, [], ◌∷◌, ◌*◌, ◌+◌, ◌<◌, length, get_or, set, sym, ap, ◌∙◌, subst, inl, inr, arith}
use Rattle.std.proofs.lemmas.Bool.{cases_lt}
use Rattle.std.proofs.lemmas.List.{ext_get_or, get_or_past, length-set}
use Rattle.kinds.specs.Texts.{hex_text}
use Rattle.kinds.proofs.Digits.{length_hex, pair_laid, digit_at}
use Rattle.kinds.proofs.blocks.Block.hex_digits.Goals as goal

pub loop-i-init : goal.loop-i-init
loop-i-init c = search rules

pub loop-i-preserved : goal.loop-i-preserved
loop-i-preserved c =
    let xs = c.args.self.now.bytes in
    let i : ℕ = c.loop-i.i in
    let digits = c.loop-i.digits in
    let two = c.byte_digits.result in
    let long : length digits ≡ 128 = c.loop-i.invariant.0 in
    let here : i < length xs = omega (arith, c.args.self.now.long, c.loop-i-test.true) in
    let same : two ≡ hex_text (get_or xs i 0 ∷ []) = c.byte_digits.ensures.digits ∙ ap (λ ys. hex_text (get_or ys i 0 ∷ [])) c.as_bytes-byte-items.ensures in
    let laid : (b k : ℕ) → b < 2 → k ≡ 2 * i + b → (get_or two b 0 ≡ get_or (hex_text xs) k 0) × (get_or two b 0 < 128) =
    (λ b k l e. (ap (λ t. get_or t b 0) same ∙ digit_at xs i b k here l e, c.byte_digits.ensures.ascii b)) in (
      length-set (set digits (2 * i) (get_or two 0 0)) (2 * i + 1) (get_or two 1 0) ∙ length-set digits (2 * i) (get_or two 0 0) ∙ long,
      pair_laid (λ k v. (v ≡ get_or (hex_text xs) k 0) × (v < 128)) digits i (get_or two 0 0) (get_or two 1 0) (omega (arith, long, c.loop-i-test.true))
          (laid 0 (2 * i) (omega arith) (omega arith)) (laid 1 (2 * i + 1) (omega arith) (omega arith)) c.loop-i.invariant.1,
    )

pub returns-clause-digits : goal.returns-clause-digits
returns-clause-digits c =
    let xs = c.args.self.now.bytes in
    let long : length (hex_text xs) ≡ 128 = length_hex xs ∙ ap (λ n. 2 * n) c.args.self.now.long in
    ext_get_or 0 c.loop-i.digits (hex_text xs) (c.loop-i.invariant.0 ∙ sym long)
    (λ k l. (c.loop-i.invariant.1 k (omega (arith, c.loop-i.invariant.0, c.loop-i-test.false))).0)

pub returns-clause-ascii : goal.returns-clause-ascii
returns-clause-ascii c k = elim (cases_lt k 128) [
  | inl here ↦ (c.loop-i.invariant.1 k (omega (arith, here, c.loop-i-test.false))).1
  | inr past ↦ subst (λ x. x < 128) (sym (get_or_past c.loop-i.digits k 0 (omega (arith, c.loop-i.invariant.0)))) (omega arith)
]
