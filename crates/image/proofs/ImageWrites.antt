-- What writes to an image's bytes do to what they mean.
use Rattle.std.proofs.Common.{◌≡◌, ℕ, ◌+◌, ◌*◌, ◌/◌, ◌%◌, ◌^◌, ◌<◌, ◌≤◌, min, max, Bool, true, false, ◌≢◌, ◌⊎◌, List, length, get_or, replicate, sym, refl, ap, ◌∙◌, subst, subst₂, inl, inr, mod-eq_of_lt, arith, lit<}
use Rattle.std.proofs.lemmas.Nat.{shr-shr, div-add-mod', div_below}
use Rattle.std.proofs.lemmas.List.{get_or-replicate}
use Rattle.std.proofs.lemmas.Bool.{cases_eq, cases_lt}
use Rattle.kinds.specs.Bytes.{same_block}
use Rattle.code.specs.Marks.{marked, Marked}
use Rattle.code.specs.Places.{pair_place}
use Rattle.kinds.specs.declared.blocks.Block.{Block}
use Rattle.code.proofs.Primes.{listed_prime}
use Rattle.code.proofs.Table.{place_only}
use Rattle.code.specs.declared.marks.Marks.{Marks}
use Rattle.image.specs.Images.{image_size, image_marks, image_meaning, block_offset, Overwritten, Filled, TakenOut, BroughtIn, IsImage, be_bytes}
use Rattle.store.specs.Meaning.{Written, Remarked}
use Rattle.kinds.specs.Parts.{part, block_at}
use Rattle.kinds.proofs.Parts.{part_is}
use Rattle.image.proofs.ImageBytes.{part_same}
use Rattle.store.specs.declared.rolls.Roll.{Roll}
use Rattle.store.specs.Rolls.{Turned}
use Rattle.store.proofs.TableRows.{place_ordered}

-- two blocks lie apart
pub apart : (p q j : ℕ) → p ≢ q → j < 64 → (10 + 64 * p + j < 10 + 64 * q) ⊎ (10 + 64 * q + 64 ≤ 10 + 64 * p + j)
apart p q j d l = elim (cases_lt p q) [ inl m ↦ inl (omega arith) | inr m ↦ inr (omega arith) ]

-- pairs that differ have different places
pub other_place : (a b c d : ℕ) → ((max a b ≡ max c d) × (min a b ≡ min c d) → ⊥) → pair_place a b ≢ pair_place c d
other_place a b c d h e = h (place_only a b c d e)

-- one block more is filled
pub filled_more : (bs bs₁ bs₂ : List ℕ) (s k : ℕ) → Filled bs s k bs₁ → Overwritten bs₁ (block_offset s k) (replicate 64 238) bs₂ → Filled bs s (k + 1) bs₂
filled_more bs bs₁ bs₂ s k f o = record {
  long = o.long ∙ f.long;
  header = λ p l. o.outside p (inl (omega arith)) ∙ f.header p l;
  lost = λ t j lt lj. elim (cases_eq t k) [
    | inl e ↦ ap (λ x. get_or bs₂ (block_offset s x + j) 0) e ∙ o.inside j lj ∙ get_or-replicate 64 j 238 0 lj
    | inr d ↦ o.outside (block_offset s t + j) (apart (pair_place s t) (pair_place s k) j (other_place s t s k (λ h. d (omega (arith, h.0, h.1)))) lj)
        ∙ f.lost t j (omega arith) lj
  ];
  others = λ a b j da db lj.
      o.outside (block_offset a b + j) (apart (pair_place a b) (pair_place s k) j (other_place a b s k (λ h. meets a b s k da db h.0 h.1)) lj)
      ∙ f.others a b j da db lj;
}
  where
    meets : (a b s k : ℕ) → a ≢ s → b ≢ s → max a b ≡ max s k → min a b ≡ min s k → ⊥
    meets a b s k da db p q = omega arith

pub marks_laid : (bs bs' : List ℕ) (v : ℕ) → v < 2 ^ 32 → Overwritten bs 6 (be_bytes v) bs' → image_marks bs' ≡ v
marks_laid bs bs' v l o =
    let a : v / 256 * 256 + v % 256 ≡ v = div-add-mod' v 256 in
    let b : v / 65536 * 256 + v / 256 % 256 ≡ v / 256 = ap (λ k. k * 256 + v / 256 % 256) (sym (shr-shr v 8 8)) ∙ div-add-mod' (v / 256) 256 in
    let c : v / 16777216 * 256 + v / 65536 % 256 ≡ v / 65536 = ap (λ k. k * 256 + v / 65536 % 256) (sym (shr-shr v 16 8)) ∙ div-add-mod' (v / 65536) 256 in
    let d : v / 16777216 % 256 ≡ v / 16777216 = mod-eq_of_lt (div_below v 16777216 256 (lit< tt) l) in
    omega (arith, o.inside 0 (lit< tt), o.inside 1 (lit< tt), o.inside 2 (lit< tt), o.inside 3 (lit< tt))

-- a roll of which one station's mark is turned
pub turned_roll : (r : Roll) (s : ℕ) (b : Bool) (out : Marks) → s < r.size.number → (s < 32 → Marked r.out.bits s b out.bits) → ((n : ℕ) → s < n → r.out.bits / 2 ^ n ≡ 0 → out.bits / 2 ^ n ≡ 0) → Turned r s b (record { size = r.size; out = out })
turned_roll r s b out l w low = record {
  here = l;
  size = refl;
  out = w (omega (arith, (listed_prime r.size.number r.size.allowed).1));
  low = low r.size.number l;
}

-- marks written after the blocks of s were filled
pub taken_out : (bs bs₁ bs₂ : List ℕ) (r r' : Roll) (s : ℕ) → IsImage bs → r.size.number ≡ image_size bs → r.out.bits ≡ image_marks bs → Turned r s true r' → Filled bs s r'.size.number bs₁ → Overwritten bs₁ 6 (be_bytes r'.out.bits) bs₂ → TakenOut bs s bs₂
taken_out bs bs₁ bs₂ r r' s im en em t f o =
    let m = marks_laid bs₁ bs₂ r'.out.bits r'.out.narrow o in
    let n : r'.size.number ≡ image_size bs = ap (λ z. z.number) t.size ∙ en in
    record {
      long = o.long ∙ f.long;
      header = λ k lk. o.outside k (inl lk) ∙ f.header k (omega arith);
      marks = subst₂ (λ x y. Marked x s true y) em (sym m) t.out;
      low = rw (m, ← en) (t.low (rw (em, en) im.marks));
      lost = λ t j lt lj. o.outside (block_offset s t + j) (inr (omega arith)) ∙ f.lost t j (omega arith) lj;
      others = λ a b j da db lj. o.outside (block_offset a b + j) (inr (omega arith)) ∙ f.others a b j da db lj;
    }

pub brought_in : (bs bs' : List ℕ) (r r' : Roll) (s : ℕ) → IsImage bs → r.size.number ≡ image_size bs → r.out.bits ≡ image_marks bs → Turned r s false r' → Overwritten bs 6 (be_bytes r'.out.bits) bs' → BroughtIn bs s bs'
brought_in bs bs' r r' s im en em t o =
    let m = marks_laid bs bs' r'.out.bits r'.out.narrow o in
    record {
      long = o.long;
      header = λ k lk. o.outside k (inl lk);
      marks = subst₂ (λ x y. Marked x s false y) em (sym m) t.out;
      low = rw (m, ← en) (t.low (rw (em, en) im.marks));
      others = λ k lk. o.outside k (inr lk);
    }

-- what the bytes mean after a put
module _ (bs bs' : List ℕ) where
  -- bytes of the header that stay
  marks_same : ((k : ℕ) → k < 10 → get_or bs' k 0 ≡ get_or bs k 0) → image_marks bs' ≡ image_marks bs
  marks_same h = omega (arith, h 6 (lit< tt), h 7 (lit< tt), h 8 (lit< tt), h 9 (lit< tt))

  -- blocks of equal bytes are equal
  blocks_same : (i : ℕ) → ((j : ℕ) → j < 64 → get_or bs' (i + j) 0 ≡ get_or bs (i + j) 0) → block_at bs' i ≡ block_at bs i
  blocks_same i h = same_block (block_at bs' i) (block_at bs i) (part_same bs bs' i 64 h)

  pub image_written : (a b : ℕ) (x : Block) → Overwritten bs (block_offset a b) x.bytes bs' → Written (image_meaning bs) a b x (image_meaning bs')
  image_written a b x o = record {
    size = o.outside 5 (inl (omega arith));
    out = λ s _. ap (λ m. marked m s) (marks_same (λ k l. o.outside k (inl (omega arith))));
    here = same_block (block_at bs' (block_offset (max a b) (min a b))) x
        (ap (λ p. part bs' (10 + 64 * p) 64) (place_ordered a b) ∙ ap (part bs' (block_offset a b)) (sym x.long) ∙ part_is bs' (block_offset a b) x.bytes o.inside);
    others = λ p q _ _ d. blocks_same (block_offset (max p q) (min p q)) (λ j l. o.outside (block_offset (max p q) (min p q) + j) (away p q d j l));
  }
    where
      away : (p q : ℕ) → ((max p q ≡ max a b) × (min p q ≡ min a b) → ⊥) → (j : ℕ) → j < 64 → (block_offset (max p q) (min p q) + j < block_offset a b) ⊎ (block_offset a b + length x.bytes ≤ block_offset (max p q) (min p q) + j)
      away p q d j l =
          subst (λ len. (block_offset (max p q) (min p q) + j < block_offset a b) ⊎ (block_offset a b + len ≤ block_offset (max p q) (min p q) + j)) (sym x.long)
          (apart (pair_place (max p q) (min p q)) (pair_place a b) j (λ e. other_place p q a b d (sym (place_ordered p q) ∙ e)) l)

  pub image_taken : (s : ℕ) → TakenOut bs s bs' → Remarked (image_meaning bs) s true (image_meaning bs')
  image_taken s t = record {
    size = t.header 5 (lit< tt);
    out = λ k _. t.marks k;
    others = λ p q _ _ dp dq. blocks_same (block_offset (max p q) (min p q)) (λ j l. t.others (max p q) (min p q) j (either p q dp dq).0 (either p q dp dq).1 l);
  }
    where
      either : (p q : ℕ) → p ≢ s → q ≢ s → (max p q ≢ s) × (min p q ≢ s)
      either p q dp dq = (omega arith, omega arith)

  pub image_brought : (s : ℕ) → BroughtIn bs s bs' → Remarked (image_meaning bs) s false (image_meaning bs')
  image_brought s t = record {
    size = t.header 5 (lit< tt);
    out = λ k _. t.marks k;
    others = λ p q _ _ _ _. blocks_same (block_offset (max p q) (min p q)) (λ j l. t.others (block_offset (max p q) (min p q) + j) (omega arith));
  }
