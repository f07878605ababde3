-- Where there is one combination of values, it has the least value of each dim.
use Rattle.std.proofs.Common.{◌≡◌, ℕ, zero, suc, ◌*◌, ◌/◌, ◌%◌, ◌<◌, List, [], ◌∷◌, map, refl, sym, ap, ◌∙◌, arith, pos, ◌+ℤ◌}
use Rattle.std.proofs.lemmas.Int.{ints}
use Rattle.std.proofs.Math.Nat.{div-one, div_self, div-eq_of_lt, mod-eq_of_lt, mod-one}
use Rattle.sem_query.specs.Boxes.{dim_size, box_size, values_at}
use Rattle.sem_query.specs.declared.plan.Dim.{Dim}

times-one : (a b : ℕ) → a * b ≡ 1 → b ≡ 1
times-one zero b e = absurd (omega (arith, e))
times-one (suc a) zero e = absurd (omega (arith, e))
times-one (suc a) (suc zero) e = refl
times-one (suc a) (suc (suc b)) e = absurd (omega (arith, e))

pub least-values : (dims : List Dim) → box_size dims ≡ 1 → values_at dims 0 ≡ map (λ d. d.lo) dims
least-values [] e = refl
least-values (d ∷ dims) e =
    let b = times-one (dim_size d) (box_size dims) e in
    let z : d.lo +ℤ pos 0 ≡ d.lo = omega (arith, ints) in
    ap (λ n. (d.lo +ℤ pos (0 / n)) ∷ values_at dims (0 % n)) b ∙ (λ k. z k ∷ least-values dims b k)

-- divisions that need not be made
pub none_in : (n by : ℕ) → n < by → 0 ≡ n / by
none_in n by l = sym (div-eq_of_lt l)

pub by_one : (n : ℕ) → n ≡ n / 1
by_one n = sym (div-one n)

pub once_in : (n by : ℕ) → n ≡ by → 0 < by → 1 ≡ n / by
once_in n by e l = sym (ap (λ m. m / by) e ∙ div_self l)

pub all_left : (n by : ℕ) → n < by → n ≡ n % by
all_left n by l = sym (mod-eq_of_lt l)

pub none_left : (n : ℕ) → 0 ≡ n % 1
none_left n = sym (mod-one n)
