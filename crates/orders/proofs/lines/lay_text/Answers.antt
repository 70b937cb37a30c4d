use Rattle.std.proofs.Common.{◌≡◌, ℕ, ◌<◌, List, [], ◌∷◌, ◌++◌, length, drop, set, refl, ap, rules, arith}
use Rattle.orders.specs.Lines.{laid}
use Rattle.orders.proofs.lines.lay_text.Goals as goal

-- a byte laid after a text
laid_after : (text old : List ℕ) (k : ℕ) → length text < length old → set (text ++ drop (length text) old) (length text) k ≡ laid (text ++ k ∷ []) old
laid_after text [] k l = absurd (omega (arith, l))
laid_after [] (x ∷ xs) k l = refl
laid_after (y ∷ ys) (x ∷ xs) k l = ap (λ zs. y ∷ zs) (laid_after ys xs k (omega (arith, l)))

pub returns-clause-into : goal.returns-clause-into
returns-clause-into c = search (rules, laid_after)
