-- Finds that give a tuple again.
use Rattle.std.specs.Prelude.{◌≡◌, ℕ, List, [], ◌++◌, length, Bool, true, false, ℤ}
use Rattle.std.specs.List.{All, list_all}
use Rattle.sem_query.specs.declared.atom.Attr.{Attr}
use Rattle.sem_query.specs.declared.part.Pair.{Pair}
use Rattle.sem_query.specs.declared.plan.PartPlan.{PartPlan}
use Rattle.sem_query.specs.Combinations.{Found}
use Rattle.sem_query.specs.Probing.{is_known}
use Rattle.exec_ranges.specs.declared.binding.Binding.{Binding}
use Rattle.exec_join.specs.Choosing.{tuple_of}

-- the row and the cells chosen at the first places tell the values of all these columns
pub record IsTold (ps : List Pair) (select : List Attr) (part : PartPlan) (arriving : ℕ) (row : List ℤ) (known : List Binding) (values : List ℤ) : Type 0 where
  pub columns : list_all (is_known arriving (length known)) select ≡ true
  pub tuple : tuple_of ps select part arriving row known ≡ values

-- of these finds the first ones, which give that tuple, are passed, and the others are left; without DISTINCT none is passed
pub record ArePassed (distinct : Bool) (values : List ℤ) (finds others : List Found) : Type 0 where
  pub passed : List Found
  pub none : distinct ≡ false → passed ≡ []
  pub all : finds ≡ passed ++ others
  pub same : All (λ (f : Found). f.tuple ≡ values) passed
