use Rattle.std.proofs.Common.{rules, ◌≡◌, ℕ, zero, suc, ◌<◌, List, [], ◌∷◌, length, get_or, sym, refl, ◌∙◌, zero-add, not-suc-le-zero, arith}
use lib.Bits.{bit_xor}
use Rattle.std.proofs.lemmas.List.{ext_get_or}
use Rattle.kinds.specs.Bytes.{xors, length_xors, same_block, xor_block}
use Rattle.kinds.proofs.Made.{made_each}
use Rattle.kinds.proofs.xor.BlockBlockKind.add.Goals as goal

-- a sum byte by byte
get_or_xors : (xs ys : List ℕ) (k : ℕ) → length xs ≡ length ys → k < length xs → get_or (xors xs ys) k 0 ≡ bit_xor (get_or xs k 0) (get_or ys k 0)
get_or_xors [] ys k e l = absurd (not-suc-le-zero l)
get_or_xors (x ∷ xs) [] k e l = absurd (omega arith)
get_or_xors (x ∷ xs) (y ∷ ys) zero e l = refl
get_or_xors (x ∷ xs) (y ∷ ys) (suc k) e l = get_or_xors xs ys k (omega arith) (omega arith)

pub returns : goal.returns
returns c =
    let x = c.args.self in
    let y = c.args.other in
    let same : length x.bytes ≡ length y.bytes = x.long ∙ sym y.long in
    let made = c.from_fn.ensures.items in
    same_block c.from.result (xor_block x y) (c.from.ensures ∙ ext_get_or 0 c.from_fn.result (xors x.bytes y.bytes) (made.long ∙ sym (length_xors x.bytes y.bytes same ∙ x.long))
    (λ k l.
    let m : k < 64 = omega (arith, made.long) in
    let at = made_each _ (λ i v. v ≡ bit_xor (get_or x.bytes i 0) (get_or y.bytes i 0)) _ 64 (λ i r f' b w. search (rules, b)) c.from_fn.result 0 64 (omega arith) made.each k k 0 m (zero-add k) in
    at ∙ sym (get_or_xors x.bytes y.bytes k same (omega (arith, x.long)))))
