-- A pair's block from the rest of its diagonal, or from rebuilt rows, is recovered.
use Rattle.std.proofs.Common.{◌≡◌, ℕ, ◌+◌, ◌%◌, ◌<◌, Bool, true, ◌||◌, ◌≢◌, ◌⊎◌, List, sym, ap, ◌∙◌, inl, inr, arith}
use Rattle.std.proofs.lemmas.Bool.{cases_eq}
use Rattle.std.proofs.lemmas.Bool.Decides.{nat_tests}
use Rattle.kinds.specs.Group.{Group}
use Rattle.code.specs.Rules.{Blocks, of, diagonal}
use Rattle.code.specs.declared.places.Pair.{Pair}
use Rattle.code.proofs.Rest.{rest_stands}
use Rattle.code.proofs.Rows.{of_swap}
use Rattle.code.proofs.Settled.{not_kept}
use Rattle.store.specs.Meaning.{Meaning}
use Rattle.store.specs.Standing.{standing}
use Rattle.recovery.specs.Recovery.{absent_in, RecoveredFrom, Two, Rows, row_block}

module _ {B : Type 0} (G : Group B) (m : Meaning B) (a b : ℕ) (la : a < m.size) (lb : b < m.size) (r : B) where
  abbrev n : ℕ
  n = m.size

  abbrev absent : ℕ → Bool
  absent = m.out

  abbrev f : Blocks B
  f = m.block

  -- a station of the pair is absent
  module _ (lost : (absent a || absent b) ≡ true) where
    pub one_recovered : absent_in m ≢ 2 → r ≡ diagonal G n (standing G m) ((a + b) % n) → RecoveredFrom G m a b r
    one_recovered d e =
        record {
          stored = λ k. absurd (not_kept absent a b lost k);
          one = λ _ c. e ∙ rest_stands G n absent f a b la lb lost c;
          two = λ _ c. absurd (d c);
        }

    module _ (x : Pair) (two : Two m x) (first second : List B) (rows : Rows G m x first second) where
      pub in_row : row_block G.none x first second a b ≡ of rows.word a b
      in_row = go (cases_eq a x.smaller) (cases_eq a x.larger) (cases_eq b x.smaller) (cases_eq b x.larger)
        where
          go : (a ≡ x.smaller) ⊎ (a ≢ x.smaller) → (a ≡ x.larger) ⊎ (a ≢ x.larger) → (b ≡ x.smaller) ⊎ (b ≢ x.smaller) → (b ≡ x.larger) ⊎ (b ≢ x.larger)
              → row_block G.none x first second a b ≡ of rows.word a b
          go (inl e) _ _ _ = grind (arith, nat_tests) ∙ rows.smaller b lb ∙ ap (λ s. of rows.word s b) (sym e)
          go (inr d) (inl e) _ _ = grind (arith, nat_tests) ∙ rows.larger b lb ∙ ap (λ s. of rows.word s b) (sym e)
          go (inr d) (inr d') (inl e) _ = grind (arith, nat_tests) ∙ rows.smaller a la ∙ of_swap rows.word x.smaller a ∙ ap (of rows.word a) (sym e)
          go (inr d) (inr d') (inr d'') (inl e) = grind (arith, nat_tests) ∙ rows.larger a la ∙ of_swap rows.word x.larger a ∙ ap (of rows.word a) (sym e)
          go (inr d) (inr d') (inr e) (inr e') = absurd (not_kept absent a b lost (two.others a la d d', two.others b lb e e'))

      pub two_recovered : absent_in m ≡ 2 → r ≡ row_block G.none x first second a b → RecoveredFrom G m a b r
      two_recovered c e =
          record {
            stored = λ k. absurd (not_kept absent a b lost k);
            one = λ _ d. absurd (omega arith);
            two = λ _ _. (rows.word, (rows.code, rows.agrees, e ∙ in_row));
          }
