use Rattle.std.proofs.Common.{◌≡◌, ℕ, ◌+◌, ◌<◌, min, List, ◌++◌, length, get_or, take, drop, replicate, sym, ◌∙◌, subst, arith}
use Rattle.std.proofs.lemmas.Grind.{common_steps}
use Rattle.kinds.specs.Bytes.{same_block}
use Rattle.kinds.specs.Parts.{part}
use Rattle.kinds.proofs.Parts.{part_is}
use Rattle.kinds.proofs.blocks.Block.padded.Goals as goal

-- the first n bytes, and zeros up to m
abbrev filled : List ℕ → ℕ → ℕ → List ℕ
filled bytes n m = take n bytes ++ drop n (replicate m 0)

zero_filled : (bytes : List ℕ) (n m : ℕ) → n ≡ min (length bytes) m → filled bytes n m ≡ part bytes 0 m
zero_filled bytes n m e = sym (subst (λ k. part bytes 0 k ≡ filled bytes n m) long (part_is bytes 0 (filled bytes n m) same))
  where
    long : length (filled bytes n m) ≡ m
    long = grind (arith, common_steps)

    same : (j : ℕ) → j < length (filled bytes n m) → get_or bytes (0 + j) 0 ≡ get_or (filled bytes n m) j 0
    same j l = grind (arith, common_steps)

pub returns : goal.returns
returns c = same_block _ _ (c.from.ensures ∙ rw c.copy_from_slice.ensures.after (zero_filled c.args.bytes.now c.min-len.result 64 c.min-len.ensures))
