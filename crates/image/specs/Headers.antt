-- The header of an image, read into its fields.
use Rattle.std.specs.Prelude.{◌≡◌, ℕ, ◌≤◌, List, length}
use Rattle.image.specs.Images.{big_endian, image_version, image_size, image_marks}
use Rattle.image.specs.declared.layout.Header.{Header}

-- h has what the first ten bytes say
pub record HeaderOf (bs : List ℕ) (h : Header) : Type 0 where
  pub ten : 10 ≤ length bs
  pub version : h.version ≡ image_version bs
  pub length : h.length ≡ big_endian bs 1
  pub number : h.number ≡ image_size bs
  pub marks : h.marks ≡ image_marks bs
