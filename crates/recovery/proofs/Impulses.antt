-- The pattern of a data pair, from the rebuilt rows of the check stations.
use Rattle.std.proofs.Common.{◌≡◌, ℕ, ◌+◌, ◌-◌, ◌<◌, ◌≤◌, max, Bool, true, false, ◌&&◌, leb, List, get_or, sym, ap, ◌∙◌, inl, inr, arith}
use Rattle.std.proofs.lemmas.Bool.{cases_Bool, or_left, leb-true, le-leb, lt-leb}
use Rattle.std.proofs.lemmas.Bool.Decides.{nat_tests}
use Rattle.kinds.specs.Bits.{bit_group}
use Rattle.kinds.specs.Group.{Group}
use Rattle.code.specs.Places.{pair_place}
use Rattle.code.specs.Rules.{of}
use Rattle.code.specs.Sizes.{pairs}
use Rattle.code.specs.declared.places.Pair.{Pair}
use Rattle.code.proofs.Rows.{of_le}
use Rattle.store.specs.Meaning.{Meaning}
use Rattle.recovery.specs.Patterns.{impulse, spot, Pattern}
use Rattle.recovery.specs.Recovery.{Two, Rows, row_block, row_bit}
use Rattle.recovery.proofs.Picked.{in_row}

module _ (n a b : ℕ) (inner : max a b + 2 < n) where
  -- the check stations are out
  abbrev absent : ℕ → Bool
  absent s = leb n (s + 2)

  abbrev checks : Pair
  checks = record { larger = n - 1; smaller = n - 2 }

  lost : (s : ℕ) → n ≤ s + 2 → absent s ≡ true
  lost s m = le-leb n (s + 2) m

  stays_in : (s : ℕ) → s + 2 < n → absent s ≡ false
  stays_in s l = lt-leb n (s + 2) l

  pub two_checks : {B : Type 0} (G : Group B) (x : B) → Two (impulse G n a b x) checks
  two_checks G x =
      record {
        before = omega arith;
        below = omega arith;
        lost_smaller = lost (n - 2) (omega arith);
        lost_larger = lost (n - 1) (omega arith);
        others = λ k l d e. stays_in k (omega arith);
      }

  abbrev store : Meaning Bool
  store = impulse bit_group n a b true

  module _ (first second bits bits' : List Bool) (rows : Rows bit_group store checks first second)
      (laid : (x y : ℕ) → x < n → y ≤ x → get_or bits' (pair_place x y) false ≡ row_bit n checks first second x y)
      (later : (p : ℕ) → pairs n ≤ p → get_or bits' p false ≡ get_or bits p false) where
    -- the word at a data pair
    word_at : (x y : ℕ) → x + 2 < n → y + 2 < n → of rows.word x y ≡ of (spot false true a b) x y
    word_at x y lx ly = rows.agrees x y (omega arith) (omega arith) (stays_in x lx, stays_in y ly)

    -- and at a check pair
    check_at : (x y : ℕ) → x < n → y ≤ x → n ≤ x + 2 → row_block false checks first second x y ≡ rows.word x y
    check_at x y lx ly l =
        in_row bit_group store x y lx (omega arith) true (or_left (absent x) (absent y) (lost x l)) checks (two_checks bit_group true) first second rows
        ∙ of_le rows.word x y ly

    pub pattern_laid : Pattern n a b bits bits'
    pattern_laid =
        record {
          word = rows.word;
          touched = record {
            code = rows.code;
            one = word_at a b (omega arith) (omega arith) ∙ grind (arith, nat_tests);
            others = λ p q lp lq d. word_at p q lp lq ∙ grind (arith, nat_tests);
          };
          laid = λ x y lx ly. laid x y lx ly ∙ (elim (cases_Bool (leb n (x + 2))) [
            | inl e ↦ ap (λ t. leb n (x + 2) && t) (check_at x y lx ly (leb-true n (x + 2) e))
            | inr e ↦ ap (λ t. t && row_block false checks first second x y) e ∙ sym (ap (λ t. t && rows.word x y) e)
          ]);
          later = later;
        }
