-- What the rows of the table of orders do to a vector.
use Rattle.std.proofs.Common.{◌≡◌, ℕ, ◌+◌, ◌-◌, ◌*◌, ◌/◌, ◌%◌, ◌<◌, ◌≤◌, ◌||◌, ◌&&◌, nat_eq, nat_lt, Bool, true, w8, List, [], ◌++◌, length, map, take, drop, replicate, get_or, refl, subst, arith}
use Rattle.std.specs.List.{range_with_len}
use Rattle.std.proofs.lemmas.Bool.{agree_below, agree_below_at}
use Rattle.std.proofs.lemmas.Bool.Decides.{nat_tests}
use Rattle.std.proofs.lemmas.Simd.{SwzOk, swz_l}
use lib.Lanes.{chunk}
use Rattle.io_row_reader.specs.declared.orders.TheConstants.{ORDERS}
use Rattle.io_row_reader.proofs.LaneNumbers.{spelled}
use Rattle.io_row_reader.proofs.LanePlaces.{Each, each}

-- Which rows end with a place.

tells : ℕ → Bool
tells k = nat_eq (get_or (get_or ORDERS k []) 15 0) 0 || (nat_lt 0 (k / 16) && (nat_lt (k / 16) 9 && (nat_lt (k / 16 + 1) (k % 16) && nat_lt (k % 16) (k / 16 + 10))))

all_tell : agree_below tells (λ k. true) 256 ≡ true
unfolding tells
all_tell = refl

-- Both integers behind zeros.

-- the row of a table for such places puts each of two integers into a half
pub record Halves (none xs : List ℕ) (first second : ℕ) : Type 0 where
  pub fits : SwzOk w8 16 16 0 (chunk 0 16 (get_or ORDERS (16 * first + second) none))
  pub left : take 8 (swz_l w8 16 xs 0 (chunk 0 16 (get_or ORDERS (16 * first + second) none))) ≡ replicate (8 - first) 0 ++ take first xs
  pub right : drop 8 (swz_l w8 16 xs 0 (chunk 0 16 (get_or ORDERS (16 * first + second) none))) ≡ replicate (first + 9 - second) 0 ++ take (second - (first + 1)) (drop (first + 1) xs)

-- for so many bytes less one in front, and so many less one behind the byte there
abbrev Row : List ℕ → (ℕ → ℕ) → ℕ → ℕ → Type 0
Row none f front behind = Halves none (map f (range_with_len 0 16)) (front + 1) (front + behind + 3)

row_0 : (none : List ℕ) (f : ℕ → ℕ) → Each (Row none f 0) 8
row_0 none f = (
  record { fits = (tt, (tt, (tt, (tt, (tt, (tt, (tt, (tt, (tt, (tt, (tt, (tt, (tt, (tt, (tt, (tt, tt)))))))))))))))); left = refl; right = refl },
  (
    record { fits = (tt, (tt, (tt, (tt, (tt, (tt, (tt, (tt, (tt, (tt, (tt, (tt, (tt, (tt, (tt, (tt, tt)))))))))))))))); left = refl; right = refl },
    (
      record { fits = (tt, (tt, (tt, (tt, (tt, (tt, (tt, (tt, (tt, (tt, (tt, (tt, (tt, (tt, (tt, (tt, tt)))))))))))))))); left = refl; right = refl },
      (
        record { fits = (tt, (tt, (tt, (tt, (tt, (tt, (tt, (tt, (tt, (tt, (tt, (tt, (tt, (tt, (tt, (tt, tt)))))))))))))))); left = refl; right = refl },
        (
          record { fits = (tt, (tt, (tt, (tt, (tt, (tt, (tt, (tt, (tt, (tt, (tt, (tt, (tt, (tt, (tt, (tt, tt)))))))))))))))); left = refl; right = refl },
          (
            record { fits = (tt, (tt, (tt, (tt, (tt, (tt, (tt, (tt, (tt, (tt, (tt, (tt, (tt, (tt, (tt, (tt, tt)))))))))))))))); left = refl; right = refl },
            (
              record { fits = (tt, (tt, (tt, (tt, (tt, (tt, (tt, (tt, (tt, (tt, (tt, (tt, (tt, (tt, (tt, (tt, tt)))))))))))))))); left = refl; right = refl },
              (
                record { fits = (tt, (tt, (tt, (tt, (tt, (tt, (tt, (tt, (tt, (tt, (tt, (tt, (tt, (tt, (tt, (tt, tt)))))))))))))))); left = refl; right = refl },
                tt,
              ),
            ),
          ),
        ),
      ),
    ),
  ),
)

row_1 : (none : List ℕ) (f : ℕ → ℕ) → Each (Row none f 1) 8
row_1 none f = (
  record { fits = (tt, (tt, (tt, (tt, (tt, (tt, (tt, (tt, (tt, (tt, (tt, (tt, (tt, (tt, (tt, (tt, tt)))))))))))))))); left = refl; right = refl },
  (
    record { fits = (tt, (tt, (tt, (tt, (tt, (tt, (tt, (tt, (tt, (tt, (tt, (tt, (tt, (tt, (tt, (tt, tt)))))))))))))))); left = refl; right = refl },
    (
      record { fits = (tt, (tt, (tt, (tt, (tt, (tt, (tt, (tt, (tt, (tt, (tt, (tt, (tt, (tt, (tt, (tt, tt)))))))))))))))); left = refl; right = refl },
      (
        record { fits = (tt, (tt, (tt, (tt, (tt, (tt, (tt, (tt, (tt, (tt, (tt, (tt, (tt, (tt, (tt, (tt, tt)))))))))))))))); left = refl; right = refl },
        (
          record { fits = (tt, (tt, (tt, (tt, (tt, (tt, (tt, (tt, (tt, (tt, (tt, (tt, (tt, (tt, (tt, (tt, tt)))))))))))))))); left = refl; right = refl },
          (
            record { fits = (tt, (tt, (tt, (tt, (tt, (tt, (tt, (tt, (tt, (tt, (tt, (tt, (tt, (tt, (tt, (tt, tt)))))))))))))))); left = refl; right = refl },
            (
              record { fits = (tt, (tt, (tt, (tt, (tt, (tt, (tt, (tt, (tt, (tt, (tt, (tt, (tt, (tt, (tt, (tt, tt)))))))))))))))); left = refl; right = refl },
              (
                record { fits = (tt, (tt, (tt, (tt, (tt, (tt, (tt, (tt, (tt, (tt, (tt, (tt, (tt, (tt, (tt, (tt, tt)))))))))))))))); left = refl; right = refl },
                tt,
              ),
            ),
          ),
        ),
      ),
    ),
  ),
)

row_2 : (none : List ℕ) (f : ℕ → ℕ) → Each (Row none f 2) 8
row_2 none f = (
  record { fits = (tt, (tt, (tt, (tt, (tt, (tt, (tt, (tt, (tt, (tt, (tt, (tt, (tt, (tt, (tt, (tt, tt)))))))))))))))); left = refl; right = refl },
  (
    record { fits = (tt, (tt, (tt, (tt, (tt, (tt, (tt, (tt, (tt, (tt, (tt, (tt, (tt, (tt, (tt, (tt, tt)))))))))))))))); left = refl; right = refl },
    (
      record { fits = (tt, (tt, (tt, (tt, (tt, (tt, (tt, (tt, (tt, (tt, (tt, (tt, (tt, (tt, (tt, (tt, tt)))))))))))))))); left = refl; right = refl },
      (
        record { fits = (tt, (tt, (tt, (tt, (tt, (tt, (tt, (tt, (tt, (tt, (tt, (tt, (tt, (tt, (tt, (tt, tt)))))))))))))))); left = refl; right = refl },
        (
          record { fits = (tt, (tt, (tt, (tt, (tt, (tt, (tt, (tt, (tt, (tt, (tt, (tt, (tt, (tt, (tt, (tt, tt)))))))))))))))); left = refl; right = refl },
          (
            record { fits = (tt, (tt, (tt, (tt, (tt, (tt, (tt, (tt, (tt, (tt, (tt, (tt, (tt, (tt, (tt, (tt, tt)))))))))))))))); left = refl; right = refl },
            (
              record { fits = (tt, (tt, (tt, (tt, (tt, (tt, (tt, (tt, (tt, (tt, (tt, (tt, (tt, (tt, (tt, (tt, tt)))))))))))))))); left = refl; right = refl },
              (
                record { fits = (tt, (tt, (tt, (tt, (tt, (tt, (tt, (tt, (tt, (tt, (tt, (tt, (tt, (tt, (tt, (tt, tt)))))))))))))))); left = refl; right = refl },
                tt,
              ),
            ),
          ),
        ),
      ),
    ),
  ),
)

row_3 : (none : List ℕ) (f : ℕ → ℕ) → Each (Row none f 3) 8
row_3 none f = (
  record { fits = (tt, (tt, (tt, (tt, (tt, (tt, (tt, (tt, (tt, (tt, (tt, (tt, (tt, (tt, (tt, (tt, tt)))))))))))))))); left = refl; right = refl },
  (
    record { fits = (tt, (tt, (tt, (tt, (tt, (tt, (tt, (tt, (tt, (tt, (tt, (tt, (tt, (tt, (tt, (tt, tt)))))))))))))))); left = refl; right = refl },
    (
      record { fits = (tt, (tt, (tt, (tt, (tt, (tt, (tt, (tt, (tt, (tt, (tt, (tt, (tt, (tt, (tt, (tt, tt)))))))))))))))); left = refl; right = refl },
      (
        record { fits = (tt, (tt, (tt, (tt, (tt, (tt, (tt, (tt, (tt, (tt, (tt, (tt, (tt, (tt, (tt, (tt, tt)))))))))))))))); left = refl; right = refl },
        (
          record { fits = (tt, (tt, (tt, (tt, (tt, (tt, (tt, (tt, (tt, (tt, (tt, (tt, (tt, (tt, (tt, (tt, tt)))))))))))))))); left = refl; right = refl },
          (
            record { fits = (tt, (tt, (tt, (tt, (tt, (tt, (tt, (tt, (tt, (tt, (tt, (tt, (tt, (tt, (tt, (tt, tt)))))))))))))))); left = refl; right = refl },
            (
              record { fits = (tt, (tt, (tt, (tt, (tt, (tt, (tt, (tt, (tt, (tt, (tt, (tt, (tt, (tt, (tt, (tt, tt)))))))))))))))); left = refl; right = refl },
              (
                record { fits = (tt, (tt, (tt, (tt, (tt, (tt, (tt, (tt, (tt, (tt, (tt, (tt, (tt, (tt, (tt, (tt, tt)))))))))))))))); left = refl; right = refl },
                tt,
              ),
            ),
          ),
        ),
      ),
    ),
  ),
)

row_4 : (none : List ℕ) (f : ℕ → ℕ) → Each (Row none f 4) 8
row_4 none f = (
  record { fits = (tt, (tt, (tt, (tt, (tt, (tt, (tt, (tt, (tt, (tt, (tt, (tt, (tt, (tt, (tt, (tt, tt)))))))))))))))); left = refl; right = refl },
  (
    record { fits = (tt, (tt, (tt, (tt, (tt, (tt, (tt, (tt, (tt, (tt, (tt, (tt, (tt, (tt, (tt, (tt, tt)))))))))))))))); left = refl; right = refl },
    (
      record { fits = (tt, (tt, (tt, (tt, (tt, (tt, (tt, (tt, (tt, (tt, (tt, (tt, (tt, (tt, (tt, (tt, tt)))))))))))))))); left = refl; right = refl },
      (
        record { fits = (tt, (tt, (tt, (tt, (tt, (tt, (tt, (tt, (tt, (tt, (tt, (tt, (tt, (tt, (tt, (tt, tt)))))))))))))))); left = refl; right = refl },
        (
          record { fits = (tt, (tt, (tt, (tt, (tt, (tt, (tt, (tt, (tt, (tt, (tt, (tt, (tt, (tt, (tt, (tt, tt)))))))))))))))); left = refl; right = refl },
          (
            record { fits = (tt, (tt, (tt, (tt, (tt, (tt, (tt, (tt, (tt, (tt, (tt, (tt, (tt, (tt, (tt, (tt, tt)))))))))))))))); left = refl; right = refl },
            (
              record { fits = (tt, (tt, (tt, (tt, (tt, (tt, (tt, (tt, (tt, (tt, (tt, (tt, (tt, (tt, (tt, (tt, tt)))))))))))))))); left = refl; right = refl },
              (
                record { fits = (tt, (tt, (tt, (tt, (tt, (tt, (tt, (tt, (tt, (tt, (tt, (tt, (tt, (tt, (tt, (tt, tt)))))))))))))))); left = refl; right = refl },
                tt,
              ),
            ),
          ),
        ),
      ),
    ),
  ),
)

row_5 : (none : List ℕ) (f : ℕ → ℕ) → Each (Row none f 5) 8
row_5 none f = (
  record { fits = (tt, (tt, (tt, (tt, (tt, (tt, (tt, (tt, (tt, (tt, (tt, (tt, (tt, (tt, (tt, (tt, tt)))))))))))))))); left = refl; right = refl },
  (
    record { fits = (tt, (tt, (tt, (tt, (tt, (tt, (tt, (tt, (tt, (tt, (tt, (tt, (tt, (tt, (tt, (tt, tt)))))))))))))))); left = refl; right = refl },
    (
      record { fits = (tt, (tt, (tt, (tt, (tt, (tt, (tt, (tt, (tt, (tt, (tt, (tt, (tt, (tt, (tt, (tt, tt)))))))))))))))); left = refl; right = refl },
      (
        record { fits = (tt, (tt, (tt, (tt, (tt, (tt, (tt, (tt, (tt, (tt, (tt, (tt, (tt, (tt, (tt, (tt, tt)))))))))))))))); left = refl; right = refl },
        (
          record { fits = (tt, (tt, (tt, (tt, (tt, (tt, (tt, (tt, (tt, (tt, (tt, (tt, (tt, (tt, (tt, (tt, tt)))))))))))))))); left = refl; right = refl },
          (
            record { fits = (tt, (tt, (tt, (tt, (tt, (tt, (tt, (tt, (tt, (tt, (tt, (tt, (tt, (tt, (tt, (tt, tt)))))))))))))))); left = refl; right = refl },
            (
              record { fits = (tt, (tt, (tt, (tt, (tt, (tt, (tt, (tt, (tt, (tt, (tt, (tt, (tt, (tt, (tt, (tt, tt)))))))))))))))); left = refl; right = refl },
              (
                record { fits = (tt, (tt, (tt, (tt, (tt, (tt, (tt, (tt, (tt, (tt, (tt, (tt, (tt, (tt, (tt, (tt, tt)))))))))))))))); left = refl; right = refl },
                tt,
              ),
            ),
          ),
        ),
      ),
    ),
  ),
)

row_6 : (none : List ℕ) (f : ℕ → ℕ) → Each (Row none f 6) 7
row_6 none f = (
  record { fits = (tt, (tt, (tt, (tt, (tt, (tt, (tt, (tt, (tt, (tt, (tt, (tt, (tt, (tt, (tt, (tt, tt)))))))))))))))); left = refl; right = refl },
  (
    record { fits = (tt, (tt, (tt, (tt, (tt, (tt, (tt, (tt, (tt, (tt, (tt, (tt, (tt, (tt, (tt, (tt, tt)))))))))))))))); left = refl; right = refl },
    (
      record { fits = (tt, (tt, (tt, (tt, (tt, (tt, (tt, (tt, (tt, (tt, (tt, (tt, (tt, (tt, (tt, (tt, tt)))))))))))))))); left = refl; right = refl },
      (
        record { fits = (tt, (tt, (tt, (tt, (tt, (tt, (tt, (tt, (tt, (tt, (tt, (tt, (tt, (tt, (tt, (tt, tt)))))))))))))))); left = refl; right = refl },
        (
          record { fits = (tt, (tt, (tt, (tt, (tt, (tt, (tt, (tt, (tt, (tt, (tt, (tt, (tt, (tt, (tt, (tt, tt)))))))))))))))); left = refl; right = refl },
          (
            record { fits = (tt, (tt, (tt, (tt, (tt, (tt, (tt, (tt, (tt, (tt, (tt, (tt, (tt, (tt, (tt, (tt, tt)))))))))))))))); left = refl; right = refl },
            (
              record { fits = (tt, (tt, (tt, (tt, (tt, (tt, (tt, (tt, (tt, (tt, (tt, (tt, (tt, (tt, (tt, (tt, tt)))))))))))))))); left = refl; right = refl },
              tt,
            ),
          ),
        ),
      ),
    ),
  ),
)

row_7 : (none : List ℕ) (f : ℕ → ℕ) → Each (Row none f 7) 6
row_7 none f = (
  record { fits = (tt, (tt, (tt, (tt, (tt, (tt, (tt, (tt, (tt, (tt, (tt, (tt, (tt, (tt, (tt, (tt, tt)))))))))))))))); left = refl; right = refl },
  (
    record { fits = (tt, (tt, (tt, (tt, (tt, (tt, (tt, (tt, (tt, (tt, (tt, (tt, (tt, (tt, (tt, (tt, tt)))))))))))))))); left = refl; right = refl },
    (
      record { fits = (tt, (tt, (tt, (tt, (tt, (tt, (tt, (tt, (tt, (tt, (tt, (tt, (tt, (tt, (tt, (tt, tt)))))))))))))))); left = refl; right = refl },
      (
        record { fits = (tt, (tt, (tt, (tt, (tt, (tt, (tt, (tt, (tt, (tt, (tt, (tt, (tt, (tt, (tt, (tt, tt)))))))))))))))); left = refl; right = refl },
        (
          record { fits = (tt, (tt, (tt, (tt, (tt, (tt, (tt, (tt, (tt, (tt, (tt, (tt, (tt, (tt, (tt, (tt, tt)))))))))))))))); left = refl; right = refl },
          (
            record { fits = (tt, (tt, (tt, (tt, (tt, (tt, (tt, (tt, (tt, (tt, (tt, (tt, (tt, (tt, (tt, (tt, tt)))))))))))))))); left = refl; right = refl },
            tt,
          ),
        ),
      ),
    ),
  ),
)

-- how many numbers of bytes behind are told of for one in front
abbrev many : ℕ → ℕ
many front = 8 - (front - 5)

rows : (none : List ℕ) (f : ℕ → ℕ) → Each (λ front. Each (Row none f front) (many front)) 8
rows none f = (row_7 none f, (row_6 none f, (row_5 none f, (row_4 none f, (row_3 none f, (row_2 none f, (row_1 none f, (row_0 none f, tt))))))))

pub halves : (none xs : List ℕ) (first second : ℕ) → length xs ≡ 16 → 0 < first → first ≤ 8 → first + 1 < second → second ≤ first + 9 → second < 16 → Halves none xs first second
halves none xs first second long some few more near within =
    let front : first - 1 + 1 ≡ first = omega (arith, some) in
    let behind : first - 1 + (second - (first + 2)) + 3 ≡ second = omega (arith, some, more) in
    spelled (λ xs. Halves none xs first second) 16 (λ f.
    subst (λ n. Halves none (map f (range_with_len 0 16)) n second) front
    (subst (λ n. Halves none (map f (range_with_len 0 16)) (first - 1 + 1) n) behind
    (each (Row none f (first - 1)) (many (first - 1)) (second - (first + 2))
    (each (λ front. Each (Row none f front) (many front)) 8 (first - 1) (rows none f) (omega (arith, some, few))) (omega (arith, some, few, more, near, within))))) xs long

-- where the row of a table does not end with 0, few bytes stand before both places
pub short_before : (first second : ℕ) → first < 16 → second < 16 → 0 < get_or (get_or ORDERS (16 * first + second) []) 15 0 → (0 < first) × (first ≤ 8) × (first + 1 < second) × (second ≤ first + 9)
unfolding tells
short_before first second one two other =
    let k = 16 * first + second in
    let front : k / 16 ≡ first = omega (arith, one, two) in
    let behind : k % 16 ≡ second = omega (arith, one, two) in
    within (k / 16) (k % 16) first second front behind (not_zero (get_or (get_or ORDERS k []) 15 0) _ other (told k (omega (arith, one, two))))
  where
    told : (k : ℕ) → k < 256 → tells k ≡ true
    told k lt = agree_below_at tells (λ k. true) 256 k all_tell lt

    not_zero : (n : ℕ) (b : Bool) → 0 < n → (nat_eq n 0 || b) ≡ true → b ≡ true
    not_zero n b h e = grind (arith, nat_tests)

    within : (a b first second : ℕ) → a ≡ first → b ≡ second → (nat_lt 0 a && (nat_lt a 9 && (nat_lt (a + 1) b && nat_lt b (a + 10)))) ≡ true → (0 < first) × (first ≤ 8) × (first + 1 < second) × (second ≤ first + 9)
    within a b first second e1 e2 h = grind (arith, nat_tests)
