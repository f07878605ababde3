-- The columns that may show that a part breaks a condition, and the first condition that it breaks.
use Rattle.std.proofs.Common.{◌≡◌, true, inl, inr, List, Contains, Option, None, Some}
use Rattle.sem_query.specs.declared.atom.Attr.{Attr}
use Rattle.sem_query.specs.declared.part.Sign.{Sign}
use Rattle.sem_query.specs.declared.condition.Condition.{Condition}
use Rattle.sem_query.specs.declared.condition.Condition.TheVariants.{C1, C2, C3}
use Rattle.sem_query.specs.Query.{QueryValue, attrs_of}
use Rattle.sem_query.specs.Violation.{Breaks, condition_lt}
use Rattle.sem_query.specs.FirstBreak.{IsFirst, first_of_three, IsFirstBreak}

module _ (q : QueryValue) (s : List Sign) where
  pub selected : (a : Attr) → Breaks q s C1 a → Contains q.select a
  selected a w = w.0

  pub named_in_equality : (a : Attr) → Breaks q s C2 a → Contains (attrs_of q.atoms) a
  named_in_equality a w = elim w.2 [ inl e ↦ e.across.left | inr e ↦ e.across.right ]

  pub named_as_reference : (a : Attr) → Breaks q s C3 a → Contains (attrs_of q.atoms) a
  named_as_reference a w = elim w.0 [ inl m ↦ m.inequality.across.left | inr m ↦ m.inequality.across.right ]

  -- the first of the columns that show each condition
  pub first_of_firsts : (x y z : Option Attr) → IsFirst (Breaks q s C1) x → IsFirst (Breaks q s C2) y → IsFirst (Breaks q s C3) z → IsFirstBreak q s (first_of_three x y z)
  first_of_firsts (Some a) y z f g h = (f.0, none_under, f.1)
    where
      none_under : (c : Condition) (b : Attr) → condition_lt c C1 ≡ true → ¬ Breaks q s c b
      none_under C1 b l = absurd cc
      none_under C2 b l = absurd cc
      none_under C3 b l = absurd cc
  first_of_firsts None (Some a) z f g h = (g.0, none_under, g.1)
    where
      none_under : (c : Condition) (b : Attr) → condition_lt c C2 ≡ true → ¬ Breaks q s c b
      none_under C1 b l = f b
      none_under C2 b l = absurd cc
      none_under C3 b l = absurd cc
  first_of_firsts None None (Some a) f g h = (h.0, none_under, h.1)
    where
      none_under : (c : Condition) (b : Attr) → condition_lt c C3 ≡ true → ¬ Breaks q s c b
      none_under C1 b l = f b
      none_under C2 b l = g b
      none_under C3 b l = absurd cc
  first_of_firsts None None None f g h = none_at
    where
      none_at : (c : Condition) (b : Attr) → ¬ Breaks q s c b
      none_at C1 b = f b
      none_at C2 b = g b
      none_at C3 b = h b
