-- How far the values of a family go.
use Rattle.std.proofs.Common.{◌≡◌, ℕ, suc, ◌+◌, ◌*◌, ◌<◌, ◌≤◌, List, [], ◌∷◌, length, Bool, true, false, arith, nat_abs, ℤ}
use Rattle.sem_query.specs.declared.atom.Attr.{Attr}
use Rattle.sem_query.specs.Assignment.{Assignment}
use Rattle.sem_lower_bounds.specs.States.{IsWithin, AreWithin}
use Rattle.sem_lower_bounds.proofs.OneLong.{row_of, picked}

abbrev pub size_at : ℕ → Assignment → ℕ → ℕ
size_at place u c = nat_abs (u record { stream = place; column = c })

-- the absolute values of a row, added up
abbrev pub size : ℕ → Assignment → ℕ
size place u = size_at place u 0 + size_at place u 1 + size_at place u 2 + size_at place u 3 + size_at place u 4 + size_at place u 5 + size_at place u 6 + size_at place u 7

-- the first n assignments are not farther from 0 than u by more than c * n
pub record IsNear (u : Assignment) (c n : ℕ) (w : ℕ → Assignment) : Type 0 where
  pub near : (j : ℕ) → j < n → (a : Attr) → nat_abs (w j a) ≤ nat_abs (u a) + c * n

fits : (x m s c n : ℕ) → x ≤ m + c * n → m ≤ s → x ≤ (s + c) * suc n
fits x m s c n h l = let e : (s + c) * suc n ≡ s * n + s + c * n + c = grind arith in omega (arith, e, h, l)

pub row-within : (place : ℕ) (u : Assignment) (c n : ℕ) (w : ℕ → Assignment) → IsNear u c n w → (j : ℕ) → j < n
    → IsWithin ((size place u + c) * suc n) (row_of (w j) place)
row-within place u c n w h j l = (
  at 0 (omega arith),
  (
    at 1 (omega arith),
    (
      at 2 (omega arith),
      (
        at 3 (omega arith),
        (
          at 4 (omega arith),
          (
            at 5 (omega arith),
            (
              at 6 (omega arith),
              (
                at 7 (omega arith),
                tt,
              ),
            ),
          ),
        ),
      ),
    ),
  ),
)
  where
    at : (k : ℕ) → size_at place u k ≤ size place u → nat_abs (w j record { stream = place; column = k }) ≤ (size place u + c) * suc n
    at k m = fits _ (size_at place u k) (size place u) c n (h.near j l record { stream = place; column = k }) m

pub picked-within : (bound stream : ℕ) (row : ℕ → List ℤ) (k : ℕ) (bs : List Bool) → ((j : ℕ) → j < k + length bs → IsWithin bound (row j)) → AreWithin bound (picked stream row k bs)
picked-within bound stream row k [] h = tt
picked-within bound stream row k (true ∷ bs) h = (h k (omega arith), picked-within bound stream row (suc k) bs (λ j l. h j (omega (arith, l))))
picked-within bound stream row k (false ∷ bs) h = picked-within bound stream row (suc k) bs (λ j l. h j (omega (arith, l)))
