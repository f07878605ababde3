-- By which signs of pairs soft comparisons are false.
use Rattle.std.specs.Prelude.{◌≡◌, ℕ, ◌≤◌, Bool, false, List, length, take, slice_get}
use Rattle.std.specs.List.{list_any, AllZip}
use Rattle.sem_query.specs.declared.part.Pair.{Pair}
use Rattle.sem_query.specs.declared.part.Sign.{Sign}
use Rattle.sem_query.specs.Query.{QueryValue}
use Rattle.sem_query.specs.Parts.{pairs}
use Rattle.plan_constraints.specs.Soft.{fails_by, next_fails}
use Rattle.plan_parts.specs.declared.soft.Fails.{Fails}

-- whether a comparison is false by the sign
abbrev pub fails_at : Fails → Sign → Bool
fails_at f Sign.Lt = f.less
fails_at f Sign.Eq = f.equal
fails_at f Sign.Gt = f.greater

-- by which signs of the pair a comparison of the query is false
pub record IsFails (q : QueryValue) (p : Pair) (f : Fails) : Type 0 where
  pub says : (s : Sign) → fails_at f s ≡ list_any (λ t. fails_by t p s) q.atoms

-- the same for the first pairs of the query, in order, and no comparison is false by a sign of a pair behind them
pub record AreFails (q : QueryValue) (fs : List Fails) : Type 0 where
  pub first : AllZip (IsFails q) (take (length fs) (pairs q)) fs
  pub others : (n : ℕ) (s : Sign) → length fs ≤ n → next_fails q.atoms (slice_get (pairs q) n) s ≡ false
