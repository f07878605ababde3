-- Cells as natural numbers.
use Rattle.std.proofs.Common.{◌≡◌, ℕ, zero, suc, ◌+◌, ◌*◌, List, [], ◌∷◌, map, refl, ap, ◌∙◌, arith, pos, negsuc}
use Rattle.sem_query.specs.declared.cell.Cell.{Cell}

-- no row, some row, and then a count, an extreme and an extreme below 0 in turn
abbrev next_cell : Cell → Cell
next_cell Cell.Empty = Cell.Present
next_cell Cell.Present = Cell.Count 0
next_cell (Cell.Count n) = Cell.Extreme (pos n)
next_cell (Cell.Extreme (pos n)) = Cell.Extreme (negsuc n)
next_cell (Cell.Extreme (negsuc n)) = Cell.Count (suc n)

-- the cell of a number
pub cell_at : ℕ → Cell
cell_at zero = Cell.Empty
cell_at (suc n) = next_cell (cell_at n)

-- the number of a cell
pub number : Cell → ℕ
number Cell.Empty = 0
number Cell.Present = 1
number (Cell.Count n) = 3 * n + 2
number (Cell.Extreme (pos n)) = suc (3 * n + 2)
number (Cell.Extreme (negsuc n)) = suc (suc (3 * n + 2))

counts : (n : ℕ) → cell_at (3 * n + 2) ≡ Cell.Count n
unfolding cell_at
counts zero = refl
counts (suc n) =
    let e : 3 * suc n + 2 ≡ suc (suc (suc (3 * n + 2))) = omega arith in
    ap cell_at e ∙ ap (λ (c : Cell). next_cell (next_cell (next_cell c))) (counts n)

-- each cell is the one of its number
pub cell_at-number : (c : Cell) → cell_at (number c) ≡ c
unfolding cell_at number
cell_at-number Cell.Empty = refl
cell_at-number Cell.Present = refl
cell_at-number (Cell.Count n) = counts n
cell_at-number (Cell.Extreme (pos n)) = ap next_cell (counts n)
cell_at-number (Cell.Extreme (negsuc n)) = ap (λ (c : Cell). next_cell (next_cell c)) (counts n)

pub cells-numbered : (cs : List Cell) → map cell_at (map number cs) ≡ cs
cells-numbered [] = refl
cells-numbered (c ∷ cs) =
    ap (λ d. d ∷ map cell_at (map number cs)) (cell_at-number c) ∙ ap (λ l. c ∷ l) (cells-numbered cs)
