-- What the values are that are found.
use Rattle.std.specs.Prelude.{ℕ, ◌⊎◌, List, length, ℤ, Contains}
use Rattle.arrayvec.specs.ArrayVec.{ArrayVec as Items}
use Rattle.sem_query.specs.declared.atom.Attr.{Attr}
use Rattle.sem_query.specs.Query.{QueryValue, attrs_of}
use Rattle.fam_motions.specs.Apart.{AreSolutions, LaterMixesFail, EarlierMixesFail, OnlyNextMixesFail, Differ, assigned}

-- so many values, of which no mixtures satisfy the query
pub record AreApart (q : QueryValue) (place n : ℕ) (all : List (Items ℤ)) : Type 0 where
  pub solutions : AreSolutions q n all
  pub later : LaterMixesFail q place (length all) (assigned q all)
  pub earlier : EarlierMixesFail q place (length all) (assigned q all)

-- so many values, of which no mixtures of one kind do
pub record AreApartOnce (q : QueryValue) (place n : ℕ) (all : List (Items ℤ)) : Type 0 where
  pub solutions : AreSolutions q n all
  pub apart : LaterMixesFail q place (length all) (assigned q all) ⊎ EarlierMixesFail q place (length all) (assigned q all)

-- so many values, of which all mixtures do but those of the next number
pub record AreApartAsNext (q : QueryValue) (place n : ℕ) (all : List (Items ℤ)) : Type 0 where
  pub solutions : AreSolutions q n all
  pub next : OnlyNextMixesFail q place (length all) (assigned q all)

-- no two have one value at a column, if it is an attribute
abbrev pub AreDifferent : QueryValue → List (Items ℤ) → Attr → Type 0
AreDifferent q all a = Contains (attrs_of q.atoms) a → Differ (length all) (assigned q all) a
