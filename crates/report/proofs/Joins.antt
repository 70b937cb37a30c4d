-- Texts one after another: one more.
use Rattle.std.proofs.Common.{◌≡◌, ℕ, ◌+◌, List, ◌++◌, sym, subst, add-one}
use Rattle.report.specs.Pairs.{Joined}

pub joined_more : (P : ℕ → List ℕ → Type 0) (k : ℕ) (before last : List ℕ) {text : List ℕ} →
    Joined P k before → P k last → text ≡ before ++ last → Joined P (k + 1) text
joined_more P k before last {text} j p e =
    let Q : ℕ → Type 0 = λ i. Joined P i text in subst Q (sym (add-one k)) (before, (last, (j, p, e)))
