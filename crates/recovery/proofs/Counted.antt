-- The absent stations, counted along a range.
use Rattle.std.proofs.Common.{◌≡◌, ℕ, suc, ◌+◌, ◌<◌, ◌≤◌, Bool, true, cond, ◌&&◌, ltb, List, [], ◌∷◌, length, get_or, Some, sym, ap, ◌∙◌, arith}
use Rattle.std.specs.List.{fold}
use Rattle.std.specs.Iterator.Runs.{Run}
use Rattle.std.proofs.iter.Yields.{nat_range_steps}
use Rattle.std.proofs.iter.runs.Sources.{range_runs}
use Rattle.std.proofs.lemmas.Bool.{lt-ltb}
use Rattle.code.specs.Rebuilt.{absentees}

module _ (absent : ℕ → Bool) (m : ℕ) where
  -- one more station
  abbrev pub more : ℕ → ℕ → ℕ
  more n s = n + cond (ltb s m && absent s) 1 0

  -- over stations that follow one another from a on
  counted_on : (xs : List ℕ) (a : ℕ) → ((k : ℕ) → k < length xs → get_or xs k 0 ≡ a + k) → a + length xs ≤ m → fold more (absentees absent a) xs ≡ absentees absent (a + length xs)
  counted_on [] a h l = ap (absentees absent) (omega arith)
  counted_on (x ∷ xs) a h l =
      let e : x ≡ a = h 0 (omega arith) ∙ omega arith in
      let la : a < m = omega arith in
      let step : more (absentees absent a) x ≡ absentees absent (suc a) = ap (λ s. absentees absent a + cond (ltb s m && absent s) 1 0) e ∙ ap (λ t. absentees absent a + cond (t && absent a) 1 0) (lt-ltb a m la) in
      ap (λ n. fold more n xs) step
      ∙ counted_on xs (suc a) (λ k lk. h (suc k) (omega arith) ∙ omega arith) (omega arith)
      ∙ ap (absentees absent) (omega arith)

  pub counted : (n : ℕ) → n ≡ m → (q : Run nat_range_steps) → q.from ≡ record { start = 0; end = n } → q.whole ≡ true → fold more 0 q.items ≡ absentees absent m
  counted n e q from whole =
      let r = range_runs q q.seen in
      let len : length q.items ≡ m = omega (arith, q.long, r.1 whole, ap (λ s. s.start) from, ap (λ s. s.end) from) in
      let at : (k : ℕ) → k < length q.items → get_or q.items k 0 ≡ 0 + k = (λ k l.
      let lk : k < q.len = omega (arith, q.long) in
      let same : Some (get_or q.items k 0) ≡ Some (q.from.start + k) = sym (q.reads k 0 lk) ∙ r.3 k lk in
      let here : get_or q.items k 0 ≡ q.from.start + k = cc in
      here ∙ ap (λ s. s.start + k) from)
      in
      counted_on q.items 0 at (omega arith) ∙ ap (absentees absent) (omega arith)
