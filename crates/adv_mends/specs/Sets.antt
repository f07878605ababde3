-- Least sets of columns that mend a query by bounds or a domain on each. A set is written as a sublist of the columns that may be in it.
use Rattle.std.specs.Prelude.{◌≢◌, ℕ, zero, suc, ◌<◌, ◌≤◌, ◌↔◌, ⊤, Bool, not, if◌then◌else◌, IsTrue, IsFalse, List, [], ◌∷◌, ◌++◌, filter, length, take}
use Rattle.std.specs.List.{list_any}
use Rattle.sem_query.specs.declared.atom.Attr.{Attr}
use Rattle.sem_query.specs.declared.atom.Domain.{Domain}
use Rattle.sem_query.specs.Members.{Has}
use Rattle.sem_query.specs.Query.{QueryValue, attrs_of, attr_eq}
use Rattle.adv_mends.specs.declared.mend.Mend.{Mend}
use Rattle.adv_mends.specs.declared.mend.Mend.TheVariants.{Distinct, Domains, Bounds, Comparison, Compact, Shared}
use Rattle.adv_mends.specs.declared.mend.ChangeKind.{ChangeKind}
use Rattle.adv_mends.specs.Mended.{AreEnds, IsBound}
use Rattle.adv_mends.specs.Ends.{MendsBy}
use Rattle.adv_mends.specs.Sublists.{IsSublist}

-- whether a column has a domain among these
abbrev pub has_domain : List Domain → Attr → Bool
has_domain domains a = list_any (λ d. attr_eq d.attr a) domains

-- some columns with one more behind them, where it is not among them
abbrev pub with_column : List Attr → Attr → List Attr
with_column columns a = if list_any (λ b. attr_eq b a) columns then columns else columns ++ a ∷ []

-- some columns, and those of others that are not among them, in their order
abbrev pub columns_with : List Attr → List Attr → List Attr
columns_with columns [] = columns
columns_with columns (a ∷ others) = columns_with (with_column columns a) others

-- the columns that may be bounded: the attributes, and then the selected columns that are no attributes, without those that have one
unfoldable pub open_columns : QueryValue → List Attr
open_columns q = filter (λ a. not (has_domain q.domains a)) (columns_with (attrs_of q.atoms) q.select)

-- the change is one of the query: a set is one of columns that have no domain, and a comparison is one of a column that it reads with an integer
abbrev pub IsMendOf : QueryValue → Mend → Type 0
IsMendOf q Distinct = ⊤
IsMendOf q (Domains columns ends) = IsSublist columns (open_columns q) × AreEnds ends
IsMendOf q (Bounds columns ends) = IsSublist columns (open_columns q) × AreEnds ends
IsMendOf q (Comparison t) = IsBound q t
IsMendOf q Compact = ⊤
IsMendOf q Shared = ⊤

-- the sets that begin with some columns and have so many more of others, in the order of these
abbrev pub sets_with : List Attr → ℕ → List Attr → List (List Attr)
sets_with first zero columns = first ∷ []
sets_with first (suc more) [] = []
sets_with first (suc more) (a ∷ others) = sets_with (first ++ a ∷ []) more others ++ sets_with first (suc more) others

-- the sets of at most three columns, the smaller ones first
unfoldable pub sets_of : List Attr → List (List Attr)
sets_of columns = ((sets_with [] 0 columns ++ sets_with [] 1 columns) ++ sets_with [] 2 columns) ++ sets_with [] 3 columns

-- with each column of the set bounded the query is mended, and with each of fewer of them it is not
pub record IsLeastSet (kind : ChangeKind) (q : QueryValue) (set : List Attr) : Type 0 where
  pub columns : IsSublist set (open_columns q)
  pub few : length set ≤ 3
  pub mends : MendsBy kind set q
  pub least : (fewer : List Attr) → IsSublist fewer set → fewer ≢ set → ¬ MendsBy kind fewer q

-- one of these sets is contained in the set
pub record HasWithin (sets : List (List Attr)) (set : List Attr) : Type 0 where
  pub one : List Attr
  pub there : Has sets one
  pub within : IsSublist one set

-- each of the sets is a least one, and each of the first n sets of at most three columns that mends contains one of them
pub record AreLeastAmong (kind : ChangeKind) (q : QueryValue) (n : ℕ) (sets : List (List Attr)) : Type 0 where
  pub each : (set : List Attr) → Has sets set → IsLeastSet kind q set
  pub all : (set : List Attr) → Has (take n (sets_of (open_columns q))) set → MendsBy kind set q → HasWithin sets set

-- least sets that mend the query. Where the search was not cut short, each set of at most three columns that mends contains one of them; where it was,
-- there are more such sets than might be looked at.
pub record AreLeastSets (kind : ChangeKind) (q : QueryValue) (most : ℕ) (sets : List (List Attr)) (cut_short : Bool) : Type 0 where
  pub each : (set : List Attr) → Has sets set → IsLeastSet kind q set
  pub all : IsFalse cut_short → (set : List Attr) → IsSublist set (open_columns q) → length set ≤ 3 → MendsBy kind set q → HasWithin sets set
  pub cut : IsTrue cut_short ↔ most < length (sets_of (open_columns q))
