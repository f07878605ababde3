-- A worked query that plain queries refuse by C3, with its whole form.
use Rattle.std.specs.Prelude.{ℕ, zero, suc, ℤ, pos, Bool, false, not, ◌&&◌, int_lt, [], ◌∷◌}
use Rattle.std.specs.declared.option.Option.TheVariants.{Some}
use Rattle.sem_query.specs.declared.atom.Attr.{Attr}
use Rattle.sem_query.specs.declared.atom.Atom.{Atom}
use Rattle.sem_query.specs.declared.atom.Op.{Op}
use Rattle.sem_query.specs.declared.atom.Element.TheVariants as element
use Rattle.sem_query.specs.declared.plan.Kind.{Kind}
use Rattle.sem_query.specs.Query.{QueryValue, IsWithinLimits}
use Rattle.sem_laws.specs.Cases.{col, atom}
use Rattle.sem_whole.specs.Ranges.{range}
use Rattle.sem_whole.specs.Whole.{StreamKeep, Form, IsWholeForm}
use Rattle.sem_whole.specs.Plan.{IsWholePlan}

-- T.c < S.a
abbrev pub under : Atom
under = atom (element.Attr (col 1 0)) Op.Lt (element.Attr (col 0 0))

-- SELECT T.c FROM S, T WHERE T.c < S.a, over S (a) and T (c IN 1..2), compact
abbrev pub under_closed : QueryValue
under_closed = record {
  distinct = false;
  from = 0 ∷ 1 ∷ [];
  select = col 1 0 ∷ [];
  atoms = under ∷ [];
  domains = record { attr = col 1 0; lo = pos 1; hi = pos 2 } ∷ [];
  compact = Bool.true;
}

-- the values of one column from lo to hi are counted
abbrev pub counted : Attr → ℤ → ℤ → StreamKeep
counted a lo hi = record { dims = record { attr = a; range = range (Some lo) (Some hi) } ∷ []; kind = Kind.Count }

-- of S.a 2 and 3 are kept, where 3 stands for all above; of T.c 1 and 2
abbrev pub under_keeps : ℕ → StreamKeep
under_keeps zero = counted (col 0 0) (pos 2) (pos 3)
under_keeps (suc place) = counted (col 1 0) (pos 1) (pos 2)

-- S.a is at least 2, and T.c is 1 or 2
abbrev pub under_admits : ℕ → (ℕ → ℤ) → Bool
under_admits zero v = not (int_lt (v 0) (pos 2))
under_admits (suc place) v = not (int_lt (v 0) (pos 1)) && not (int_lt (pos 2) (v 0))

abbrev pub under_form : Form
under_form = record { links = under ∷ []; keeps = under_keeps; admits = under_admits }

-- the query has this form of four cells, and it is its plan
pub record UnderIsWhole : Type 0 where
  pub limits : IsWithinLimits under_closed
  pub form : IsWholeForm under_closed under_form
  pub plan : IsWholePlan under_closed under_form
