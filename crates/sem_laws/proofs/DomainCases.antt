-- Worked queries over a stream whose column has a domain, computed.
use Rattle.std.proofs.Common.{◌≡◌, ◌<◌, zero, suc, ℤ, pos, true, false, refl, arith}
use Rattle.sem_query.specs.Parts.{pairs}
use Rattle.sem_query.specs.Meaning.{by_column, new_answers}
use Rattle.sem_query.specs.Domains.{keeps_at, RowKeeps}
use Rattle.sem_query.specs.Cells.{synopsis}
use Rattle.sem_query.specs.Combinations.{found_in}
use Rattle.sem_query.specs.Future.{future}
use Rattle.sem_laws.specs.DomainCases.{DomainsBound, RowsMustKeep, beside, row_s, row_t}

pub domains-bound : DomainsBound
unfolding pairs synopsis found_in future new_answers
domains-bound = record {
  equals_numbers = refl;
  equals_cells = refl;
  equals_rows = refl;
  beside_numbers = refl;
  beside_cells = refl;
  beside_rows = refl;
  below_numbers = refl;
  below_cells = refl;
  below_rows = refl;
}

-- a row of S stands at the first place alone
of_s : (a b : ℤ) → keeps_at beside 0 (by_column (row_s a b).values) ≡ true → RowKeeps beside (row_s a b)
of_s a b h zero l e = h
of_s a b h (suc zero) l e = absurd (let f : 1 ≡ 0 = e in omega (arith, f))
of_s a b h (suc (suc n)) l e = absurd (let f : suc (suc n) < 2 = l in omega (arith, f))

-- a row of T stands at the second, where no column has a domain
of_t : (c : ℤ) → RowKeeps beside (row_t c)
of_t c zero l e = absurd (let f : 0 ≡ 1 = e in omega (arith, f))
of_t c (suc zero) l e = refl
of_t c (suc (suc n)) l e = absurd (let f : suc (suc n) < 2 = l in omega (arith, f))

pub rows-must-keep : RowsMustKeep
unfolding pairs synopsis found_in future new_answers
rows-must-keep = record {
  least = λ b. of_s (pos 1) b refl;
  greatest = λ b. of_s (pos 2) b refl;
  too_low = λ b k. (let h : false ≡ true = k 0 (omega arith) refl in absurd cc);
  too_high = λ b k. (let h : false ≡ true = k 0 (omega arith) refl in absurd cc);
  any = of_t;
  cells = refl;
  rows = refl;
}
