-- What a checked image has.
use Rattle.std.proofs.Common.{◌≡◌, ℕ, zero, suc, ◌+◌, ◌*◌, ◌/◌, ◌^◌, ◌<◌, ◌≤◌, Bool, true, false, cond, not, ◌&&◌, ◌||◌, eqb, ltb, List, ◌∷◌, length, get_or, take, drop, is_ok, Ok, Err, Result, sym, refl, ap, ◌∙◌, ap₂, add-zero, add-one, arith, lit<}
use Rattle.std.proofs.lemmas.List.{drop_more}
use Rattle.std.proofs.lemmas.Bool.{and_parts, and_from, eqb-true, eq-eqb, ltb-false, le-ltb, both_ways}
use Rattle.std.proofs.lemmas.Bool.Decides.{nat_tests}
use Rattle.code.specs.Marks.{marked}
use Rattle.code.specs.Sizes.{among, sizes, pairs}
use Rattle.faults.specs.declared.faults.Fault.{Fault}
use Rattle.kinds.specs.Parts.{part}
use Rattle.image.specs.Images.{image_check, image_version, image_size, image_marks, big_endian, block_offset, IsImage, show_answer, shown_bytes}
use Rattle.store.specs.Meaning.{mark_answer}
use Rattle.store.specs.declared.rolls.Roll.{Roll}
use Rattle.store.proofs.Gets.{mark_ok}

-- a test that has to fail, and one that has to pass, for the answer to be Ok
must_fail : (b : Bool) (x : Fault) (r : Result (Unit {0}) Fault) → is_ok (cond b (Err x) r) ≡ true → (b ≡ false) × (is_ok r ≡ true)
must_fail true x r e = absurd (both_ways false refl e)
must_fail false x r e = (refl, e)

must_pass : (b : Bool) (x : Fault) (r : Result (Unit {0}) Fault) → is_ok (cond b r (Err x)) ≡ true → (b ≡ true) × (is_ok r ≡ true)
must_pass true x r e = (refl, e)
must_pass false x r e = absurd (both_ways false refl e)

pub checked : (bs : List ℕ) → is_ok (image_check bs) ≡ true → IsImage bs
checked bs e =
    let p = must_fail (ltb (length bs) 10) _ _ e in
    let q = must_pass (eqb (image_version bs) 1) _ _ p.1 in
    let r = must_pass (among (image_size bs) sizes) _ _ q.1 in
    let s = must_pass (eqb (big_endian bs 1) (5 + 64 * pairs (image_size bs)) && eqb (length bs) (10 + 64 * pairs (image_size bs))) _ _ r.1 in
    let t = must_pass (eqb (image_marks bs / 2 ^ image_size bs) 0) _ _ s.1 in
    let u = and_parts (eqb (big_endian bs 1) (5 + 64 * pairs (image_size bs))) (eqb (length bs) (10 + 64 * pairs (image_size bs))) s.0 in
    record {
      ten = ltb-false (length bs) 10 p.0;
      version = eqb-true (image_version bs) 1 q.0;
      listed = r.0;
      field = eqb-true (big_endian bs 1) (5 + 64 * pairs (image_size bs)) u.0;
      long = eqb-true (length bs) (10 + 64 * pairs (image_size bs)) u.1;
      marks = eqb-true (image_marks bs / 2 ^ image_size bs) 0 t.0;
    }

-- bytes that are there, as a part
pub take_part : (bs : List ℕ) (i k : ℕ) → i + k ≤ length bs → take k (drop i bs) ≡ part bs i k
unfolding part
take_part bs i zero l = refl
take_part bs i (suc k) l =
    ap (take (suc k)) (drop_more bs i 0 (omega arith))
    ∙ ap (λ xs. get_or bs i 0 ∷ xs) (ap (λ j. take k (drop j bs)) (add-one i) ∙ take_part bs (suc i) k (omega arith))

-- and what has that passes the check: the two say the same
pub passes : (bs : List ℕ) → IsImage bs → is_ok (image_check bs) ≡ true
passes bs c =
    let p : ltb (length bs) 10 ≡ false = le-ltb (length bs) 10 c.ten in
    let q : eqb (image_version bs) 1 ≡ true = eq-eqb (image_version bs) 1 c.version in
    let r : among (image_size bs) sizes ≡ true = c.listed in
    let s : (eqb (big_endian bs 1) (5 + 64 * pairs (image_size bs)) && eqb (length bs) (10 + 64 * pairs (image_size bs))) ≡ true = and_from (eqb (big_endian bs 1) (5 + 64 * pairs (image_size bs))) (eqb (length bs) (10 + 64 * pairs (image_size bs))) (eq-eqb (big_endian bs 1) (5 + 64 * pairs (image_size bs)) c.field) (eq-eqb (length bs) (10 + 64 * pairs (image_size bs)) c.long) in
    let t : eqb (image_marks bs / 2 ^ image_size bs) 0 ≡ true = eq-eqb (image_marks bs / 2 ^ image_size bs) 0 c.marks in
    rw (p, q, r, s, t)

-- an image whose header stays but for its marks is an image still, where no station of n or above is marked
pub still_image : (bs bs' : List ℕ) → IsImage bs → length bs' ≡ length bs → ((k : ℕ) → k < 6 → get_or bs' k 0 ≡ get_or bs k 0) → image_marks bs' / 2 ^ image_size bs ≡ 0 → IsImage bs'
still_image bs bs' c l h m =
    let n : image_size bs' ≡ image_size bs = h 5 (lit< tt) in
    let f : big_endian bs' 1 ≡ big_endian bs 1 = omega (arith, h 1 (lit< tt), h 2 (lit< tt), h 3 (lit< tt), h 4 (lit< tt)) in
    record {
      ten = omega (arith, c.ten);
      version = h 0 (lit< tt) ∙ c.version;
      listed = ap (λ k. among k sizes) n ∙ c.listed;
      field = f ∙ c.field ∙ ap (λ k. 5 + 64 * pairs k) (sym n);
      long = l ∙ c.long ∙ ap (λ k. 10 + 64 * pairs k) (sym n);
      marks = ap (λ k. image_marks bs' / 2 ^ k) n ∙ m;
    }

-- parts of equal bytes are equal
pub part_same : (bs bs' : List ℕ) (i k : ℕ) → ((j : ℕ) → j < k → get_or bs' (i + j) 0 ≡ get_or bs (i + j) 0) → part bs' i k ≡ part bs i k
unfolding part
part_same bs bs' i zero h = refl
part_same bs bs' i (suc k) h =
    ap₂ ◌∷◌ (rw add-zero at (h 0 (omega arith))) (part_same bs bs' (suc i) k (λ j l. let e : suc i + j ≡ i + suc j = omega arith in rw e (h (suc j) (omega arith))))

-- what a pair of an image shows: its own part if both stations are in, else the second area
pub shows : (bs second : List ℕ) (r : Roll) (a b : ℕ) (x y : Bool) → r.size.number ≡ image_size bs → r.out.bits ≡ image_marks bs → 64 ≤ length second → Ok x ≡ mark_answer r.size.number (marked r.out.bits) a → Ok y ≡ mark_answer r.size.number (marked r.out.bits) b → (show_answer (image_size bs) (length second) a b ≡ Ok tt) × (shown_bytes bs second a b ≡ cond (x && y) (part bs (block_offset a b) 64) (take 64 second))
shows bs second r a b x y en em l p q =
    let u = mark_ok r.size.number (marked r.out.bits) a x p in
    let v = mark_ok r.size.number (marked r.out.bits) b y q in
    rw (← en, ← em) (grind (arith, nat_tests), rw (u.1, v.1) (either x y))
  where
    either : (x y : Bool) → cond (not x || not y) (take 64 second) (part bs (block_offset a b) 64) ≡ cond (x && y) (part bs (block_offset a b) 64) (take 64 second)
    either true true = refl
    either true false = refl
    either false y = refl
