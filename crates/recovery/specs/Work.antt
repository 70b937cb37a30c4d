-- Rows of n blocks, while the stations i and j are rebuilt, i before j, of n stations: the rows of i and of j, first and
-- second; near, the neighbourhood sums; across, the diagonal sums; and drift, how far the row of i changes along the
-- walk i, j, j + (j - i), .. round the stations.
use Rattle.std.specs.Prelude.{ℕ, ◌+◌, ◌-◌, ◌*◌, ◌%◌, cond, List, ◌==◌, slice_index_or, slice_set}
use Rattle.kinds.specs.Group.{Group, sum_to}

-- where the walk is at time t
abbrev pub station : ℕ → ℕ → ℕ → ℕ → ℕ
station n i j t = (i + t * (j - i)) % n

module _ {B : Type 0} (G : Group B) where
  -- the block at a place of a row
  abbrev pub block_at : List B → ℕ → B
  block_at row k = slice_index_or row k G.none

  -- what the walk has gathered s steps after the third station
  abbrev pub gathered : ℕ → ℕ → ℕ → List B → List B → ℕ → B
  gathered n i j near across s = sum_to G (λ u. G.sum (block_at near (station n i j (u + 2))) (block_at across (station n i j (u + 3)))) s

  -- that by station, and its sum over the stations but i and j
  abbrev pub all_gathered : ℕ → ℕ → ℕ → List B → B
  all_gathered n i j drift = sum_to G (λ k. cond (k == j) G.none (cond (k == i) G.none (block_at drift k))) n

  -- the row of i with its pairs with j and with i, and the row of j with its pairs with i and with j
  abbrev pub first_closed : ℕ → ℕ → ℕ → List B → List B → List B → List B
  first_closed n i j across first second =
      slice_set (slice_set first j (block_at across j)) i (G.sum (block_at across i) (block_at second (station n i j (n - 1))))

  abbrev pub second_closed : ℕ → ℕ → ℕ → List B → List B → List B → List B
  second_closed n i j across first second =
      slice_set (slice_set second i (block_at across j)) j (G.sum (block_at across (station n i j 2)) (block_at first (station n i j 2)))
