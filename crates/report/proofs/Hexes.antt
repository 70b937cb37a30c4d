-- The digits of a list of bytes, byte by byte.
use Rattle.std.proofs.Common.{◌≡◌, ℕ, ◌+◌, ◌/◌, ◌%◌, ◌<◌, List, [], ◌∷◌, ◌++◌, length, get_or, take, refl, ap, ◌∙◌}
use Rattle.std.proofs.lemmas.List.{take_more}
use Rattle.kinds.specs.Texts.{hex_text, hex_digit}

pub hex_append : (xs ys : List ℕ) → hex_text (xs ++ ys) ≡ hex_text xs ++ hex_text ys
hex_append [] ys = refl
hex_append (x ∷ xs) ys = ap (λ t. hex_digit (x / 16) ∷ hex_digit (x % 16) ∷ t) (hex_append xs ys)

-- one byte more
pub hex_more : (xs : List ℕ) (i : ℕ) → i < length xs → hex_text (take (i + 1) xs) ≡ hex_text (take i xs) ++ hex_text (get_or xs i 0 ∷ [])
hex_more xs i h = ap hex_text (take_more xs i 0 h) ∙ hex_append (take i xs) (get_or xs i 0 ∷ [])
