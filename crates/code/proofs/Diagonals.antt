-- A diagonal as one sum over stations: each station has one partner on it.
use Rattle.std.proofs.Common.{◌≡◌, ℕ, ◌+◌, ◌%◌, ◌<◌, ◌≤◌, cond, eqb, leb, ◌≢◌, ◌⊎◌, sym, ◌∙◌, inl, inr, arith}
use Rattle.std.proofs.lemmas.Bool.{cases_lt, le-leb, lt-leb, cond-true, cond-false}
use Rattle.kinds.specs.Group.{Group, sum_to}
use Rattle.code.specs.Rules.{Blocks, diagonal}
use Rattle.code.proofs.Sums.{cond_eq, cond_ne, sum_cong, sum_none, sum_point}
use Rattle.code.proofs.Walk.{mate, mate_below, mate_meets}
use Rattle.code.proofs.Rows.{partner}

-- no other station is on diagonal m with a
pub mate_only : (n m a b : ℕ) → m < n → a < n → b < n → (a + b) % n ≡ m → b ≡ mate n m a
mate_only n m a b lm la lb e = partner n a b (mate n m a) lb (mate_below n m a (omega arith)) (e ∙ sym (mate_meets n m a lm la))

module _ {B : Type 0} (G : Group B) where
  open G use {none}

  -- what station a adds to diagonal m: its pair with its mate, counted at the larger of the two
  abbrev pub share : ℕ → Blocks B → ℕ → ℕ → B
  share n f m a = cond (leb (mate n m a) a) (f a (mate n m a)) none

  pub diagonal_shares : (n : ℕ) (f : Blocks B) (m : ℕ) → m < n → diagonal G n f m ≡ sum_to G (share n f m) n
  diagonal_shares n f m lm = sum_cong G n (λ a la. row a la (cases_lt a (mate n m a)))
    where
      miss : (a b : ℕ) → a < n → b < n → b ≢ mate n m a → cond (eqb ((a + b) % n) m) (f a b) none ≡ none
      miss a b la lb d = cond_ne ((a + b) % n) m (f a b) none (λ e. d (mate_only n m a b lm la lb e))

      row : (a : ℕ) → a < n → (a < mate n m a) ⊎ (mate n m a ≤ a) → sum_to G (λ b. cond (eqb ((a + b) % n) m) (f a b) none) (a + 1) ≡ share n f m a
      row a la (inl l) =
          sum_none G (a + 1) (λ b lb. miss a b la (omega arith) (omega arith))
          ∙ sym (cond-false (leb (mate n m a) a) (f a (mate n m a)) none (lt-leb (mate n m a) a l))
      row a la (inr l) =
          sum_point G (a + 1) (mate n m a) (omega arith) (λ b lb d. miss a b la (omega arith) d)
          ∙ cond_eq ((a + mate n m a) % n) m (f a (mate n m a)) none (mate_meets n m a lm la)
          ∙ sym (cond-true (leb (mate n m a) a) (f a (mate n m a)) none (le-leb (mate n m a) a l))
