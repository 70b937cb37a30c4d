-- The bytes of an image: a header of ten bytes, then the blocks of all pairs in place order.
--   0      the version, 1
--   1 to 4 the length of what follows, 5 + 64 N, big_endian
--   5      the size n
--   6 to 9 the marks, big_endian: the bit of weight 2^s is set where station s is out
--   10 on  N blocks of 64 bytes
use Rattle.std.specs.Prelude.{◌≡◌, ℕ, ◌+◌, ◌*◌, ◌/◌, ◌%◌, ◌^◌, ◌<◌, ◌≤◌, true, false, cond, ◌&&◌, ◌||◌, ◌≢◌, ◌⊎◌, List, [], ◌∷◌, length, take, Ok, Err, Result, ◌==◌, nat_lt, slice_index, is_ok, ◌↔◌}
use Rattle.std.specs.Borrow.{Bor}
use Rattle.code.specs.Marks.{marked, Marked}
use Rattle.code.specs.Places.{pair_place}
use Rattle.code.specs.Sizes.{among, sizes, pairs}
use Rattle.kinds.specs.Parts.{part, block_at}
use Rattle.kinds.specs.declared.blocks.Block.{Block}
use Rattle.faults.specs.declared.faults.Fault.{Fault}
use Rattle.faults.specs.declared.faults.Fault.TheVariants.{NotASize, AreaTooShort, WrongLength, WrongVersion, StrayMarks}
use Rattle.store.specs.Meaning.{Meaning, After, stations_first, get_answer, take_out_answer, bring_in_answer}

-- four bytes from k on, big_endian
abbrev pub big_endian : List ℕ → ℕ → ℕ
big_endian bs k = slice_index bs k * 16777216 + slice_index bs (k + 1) * 65536 + slice_index bs (k + 2) * 256 + slice_index bs (k + 3)

-- four bytes of a number, big_endian
abbrev pub be_bytes : ℕ → List ℕ
be_bytes v = (v / 16777216 % 256) ∷ (v / 65536 % 256) ∷ (v / 256 % 256) ∷ (v % 256) ∷ []

abbrev pub image_version : List ℕ → ℕ
image_version bs = slice_index bs 0

abbrev pub image_size : List ℕ → ℕ
image_size bs = slice_index bs 5

abbrev pub image_marks : List ℕ → ℕ
image_marks bs = big_endian bs 6

-- the first check that fails: ten bytes, the version, the size, both lengths, the marks of stations n and above
abbrev pub image_check : List ℕ → Result (Unit {0}) Fault
image_check bs =
    cond (nat_lt (length bs) 10) (Err (WrongLength (length bs)))
    (cond (image_version bs == 1)
    (cond (among (image_size bs) sizes)
    (cond (big_endian bs 1 == 5 + 64 * pairs (image_size bs) && length bs == 10 + 64 * pairs (image_size bs))
    (cond (image_marks bs / 2 ^ image_size bs == 0) (Ok tt)
    (Err StrayMarks))
    (Err (WrongLength (length bs))))
    (Err (NotASize (image_size bs))))
    (Err (WrongVersion 0)))

-- what bytes that pass the check have, and no others
pub record IsImage (bs : List ℕ) : Type 0 where
  pub ten : 10 ≤ length bs
  pub version : image_version bs ≡ 1
  pub listed : among (image_size bs) sizes ≡ true
  pub field : big_endian bs 1 ≡ 5 + 64 * pairs (image_size bs)
  pub long : length bs ≡ 10 + 64 * pairs (image_size bs)
  pub marks : image_marks bs / 2 ^ image_size bs ≡ 0

-- the check passes just these
abbrev pub PassesImages : Type 0
PassesImages = (bs : List ℕ) → (is_ok (image_check bs) ≡ true) ↔ IsImage bs

-- where the block of a pair begins
abbrev pub block_offset : ℕ → ℕ → ℕ
block_offset a b = 10 + 64 * pair_place a b

-- what the bytes of an image mean
abbrev pub image_meaning : List ℕ → Meaning Block
image_meaning bs = record {
  size = image_size bs;
  out = marked (image_marks bs);
  block = λ a b. block_at bs (block_offset a b);
}

-- bs' is bs with the bytes xs from an offset on
pub record Overwritten (bs : List ℕ) (at : ℕ) (xs bs' : List ℕ) : Type 0 where
  pub long : length bs' ≡ length bs
  pub inside : (j : ℕ) → j < length xs → slice_index bs' (at + j) ≡ slice_index xs j
  pub outside : (k : ℕ) → (k < at) ⊎ (at + length xs ≤ k) → slice_index bs' k ≡ slice_index bs k

-- bs' is bs with bytes 238 (hexadecimal EE) at the pairs of station s with each station below k
pub record Filled (bs : List ℕ) (s k : ℕ) (bs' : List ℕ) : Type 0 where
  pub long : length bs' ≡ length bs
  pub header : (p : ℕ) → p < 10 → slice_index bs' p ≡ slice_index bs p
  pub lost : (t j : ℕ) → t < k → j < 64 → slice_index bs' (block_offset s t + j) ≡ 238
  pub others : (a b j : ℕ) → a ≢ s → b ≢ s → j < 64 → slice_index bs' (block_offset a b + j) ≡ slice_index bs (block_offset a b + j)

-- bs' is bs with station s marked out, and each byte of its pairs 238 (hexadecimal EE)
pub record TakenOut (bs : List ℕ) (s : ℕ) (bs' : List ℕ) : Type 0 where
  pub long : length bs' ≡ length bs
  pub header : (k : ℕ) → k < 6 → slice_index bs' k ≡ slice_index bs k
  pub marks : Marked (image_marks bs) s true (image_marks bs')
  pub low : image_marks bs' / 2 ^ image_size bs ≡ 0
  pub lost : (t j : ℕ) → t < image_size bs → j < 64 → slice_index bs' (block_offset s t + j) ≡ 238
  pub others : (a b j : ℕ) → a ≢ s → b ≢ s → j < 64 → slice_index bs' (block_offset a b + j) ≡ slice_index bs (block_offset a b + j)

-- bs' is bs with station s marked in, and nothing else changed
pub record BroughtIn (bs : List ℕ) (s : ℕ) (bs' : List ℕ) : Type 0 where
  pub long : length bs' ≡ length bs
  pub header : (k : ℕ) → k < 6 → slice_index bs' k ≡ slice_index bs k
  pub marks : Marked (image_marks bs) s false (image_marks bs')
  pub low : image_marks bs' / 2 ^ image_size bs ≡ 0
  pub others : (k : ℕ) → 10 ≤ k → slice_index bs' k ≡ slice_index bs k

-- what put, take out and bring in answer and leave of an image's bytes
abbrev pub PutImage : List ℕ → ℕ → ℕ → Block → Result (Unit {0}) Fault → List ℕ → Type 0
PutImage bs a b x r bs' = (r ≡ get_answer (image_meaning bs) a b) × After r (Overwritten bs (block_offset a b) x.bytes bs') (bs' ≡ bs)

abbrev pub TakeImage : List ℕ → ℕ → Result (Unit {0}) Fault → List ℕ → Type 0
TakeImage bs s r bs' = (r ≡ take_out_answer (image_meaning bs) s) × After r (TakenOut bs s bs') (bs' ≡ bs)

abbrev pub BringImage : List ℕ → ℕ → Result (Unit {0}) Fault → List ℕ → Type 0
BringImage bs s r bs' = (r ≡ bring_in_answer (image_meaning bs) s) × After r (BroughtIn bs s bs') (bs' ≡ bs)

-- the 64 bytes of a pair of an image, or the first 64 of a second area: the area is looked at first, then the stations
abbrev pub show_answer : ℕ → ℕ → ℕ → ℕ → Result (Unit {0}) Fault
show_answer n len a b =
    cond (nat_lt len 64) (Err (AreaTooShort len)) (stations_first n a b (Ok tt))

abbrev pub shown_bytes : List ℕ → List ℕ → ℕ → ℕ → List ℕ
shown_bytes bs second a b =
    cond (marked (image_marks bs) a || marked (image_marks bs) b) (take 64 second) (part bs (block_offset a b) 64)

abbrev pub Shown : List ℕ → List ℕ → ℕ → ℕ → Result (Bor (List ℕ)) Fault → Type 0
Shown bs second a b (Ok x) = (show_answer (image_size bs) (length second) a b ≡ Ok tt) × (x.now ≡ shown_bytes bs second a b)
Shown bs second a b (Err e) = show_answer (image_size bs) (length second) a b ≡ Err e
