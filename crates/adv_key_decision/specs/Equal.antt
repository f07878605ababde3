-- Columns that are equal in every assignment that counts.
use Rattle.std.specs.Prelude.{◌≡◌, ℕ, ◌<◌, ◌⊎◌, length, take, All, Contains}
use Rattle.std.specs.List.{slice_index_or}
use Rattle.std.specs.declared.option.Option.{Option}
use Rattle.std.specs.declared.option.Option.TheVariants.{None, Some}
use Rattle.sem_query.specs.declared.atom.Attr.{Attr}
use Rattle.sem_query.specs.Query.{QueryValue, attrs_of}
use Rattle.sem_query.specs.Assignment.{Assignment}
use Rattle.sem_sharding.specs.Keys.{Fits}

-- two columns are equal in every assignment that counts
abbrev pub AreEqual : QueryValue → Attr → Attr → Type 0
AreEqual q a b = (v : Assignment) → Fits q v → v a ≡ v b

-- they are the same, or comparisons name both and they are equal
abbrev pub AreSeenEqual : QueryValue → Attr → Attr → Type 0
AreSeenEqual q a b = (a ≡ b) ⊎ (Contains (attrs_of q.atoms) a × Contains (attrs_of q.atoms) b × AreEqual q a b)

-- the place of the first of the columns that comparisons name which is equal to a column: that names its class
pub record NamesClass (q : QueryValue) (a : Attr) (place : ℕ) : Type 0 where
  pub inside : place < length (attrs_of q.atoms)
  pub equal : (d : Attr) → AreEqual q (slice_index_or (attrs_of q.atoms) place d) a
  pub first : All (λ b. ¬ AreEqual q b a) (take place (attrs_of q.atoms))

-- the class of a column, or none where no comparison names it
abbrev pub IsClassOf : QueryValue → Attr → Option ℕ → Type 0
IsClassOf q a None = ¬ Contains (attrs_of q.atoms) a
IsClassOf q a (Some place) = Contains (attrs_of q.atoms) a × NamesClass q a place
