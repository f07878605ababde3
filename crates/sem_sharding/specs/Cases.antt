-- Worked queries and keys: the rule by the text of a query, and what a rule by its parts must not be.
use Rattle.std.specs.Prelude.{◌≡◌, ℕ, true, false, ℤ, pos, int_lt, if◌then◌else◌, List, [], ◌∷◌, Contains}
use Rattle.std.specs.declared.option.Option.TheVariants.{None, Some}
use Rattle.sem_query.specs.declared.atom.Attr.{Attr}
use Rattle.sem_query.specs.declared.atom.Element.TheVariants as element
use Rattle.sem_query.specs.declared.atom.Op.TheVariants.{Eq, Gt, Ge, Le}
use Rattle.sem_query.specs.declared.part.Sign.{Sign}
use Rattle.sem_query.specs.Query.{QueryValue, IsWithinLimits}
use Rattle.sem_query.specs.Meaning.{Arrival, new_answers}
use Rattle.sem_query.specs.Parts.{IsPart}
use Rattle.sem_query.specs.Order.{IsEqual}
use Rattle.sem_sharding.specs.Shards.{shards_answer, IsDisjoint}
use Rattle.sem_sharding.specs.Keys.{Keys, alone, by_key, splits_by, tells_by, AreEqualKeys}

abbrev pub column : ℕ → ℕ → Attr
column place number = record { stream = place; column = number }

-- SELECT DISTINCT Temp.room FROM Temp, Lim WHERE Temp.room = Lim.room AND Temp.val > Lim.val
abbrev pub hot : QueryValue
hot = record {
  distinct = true;
  from = 0 ∷ 1 ∷ [];
  select = column 0 0 ∷ [];
  atoms = record { left = element.Attr (column 0 0); op = Eq; right = element.Attr (column 1 0) } ∷ record { left = element.Attr (column 0 1); op = Gt; right = element.Attr (column 1 1) } ∷ [];
  domains = [];
  compact = false;
}

-- both streams by the room, both by the value, and Lim broadcast with Temp by the value
abbrev pub rooms : Keys
rooms stream = Some 0

abbrev pub vals : Keys
vals stream = Some 1

abbrev pub temps : Keys
temps = alone 0 1

-- rooms are linked and selected; values are not linked; one key alone is linked, and not selected
pub record KeysAreJudged : Type 0 where
  pub by_room : (splits_by hot rooms ≡ true) × (tells_by hot rooms ≡ true)
  pub by_value : splits_by hot vals ≡ false
  pub one : (splits_by hot temps ≡ true) × (tells_by hot temps ≡ false)

-- 4 and more go to shard 1
abbrev pub from_four : ℤ → ℕ
from_four z = if int_lt z (pos 4) then 0 else 1

-- Lim,1,3 and then Temp,1,5
abbrev pub past : List Arrival
past = record { stream = 1; values = pos 1 ∷ pos 3 ∷ [] } ∷ []

abbrev pub next : Arrival
next = record { stream = 0; values = pos 1 ∷ pos 5 ∷ [] }

-- no stream has a key
abbrev pub broadcast : Keys
broadcast stream = None

-- without DISTINCT: by the room the two shards answer what one process does, by the value nothing, and where
-- all rows are broadcast both answer it
pub record RoutingsDiffer : Type 0 where
  pub one : new_answers (record hot { distinct = false }) past next ≡ (pos 1 ∷ []) ∷ []
  pub by_room : shards_answer (record hot { distinct = false }) (by_key rooms from_four) 2 past next ≡ (pos 1 ∷ []) ∷ []
  pub by_value : shards_answer (record hot { distinct = false }) (by_key vals from_four) 2 past next ≡ []
  pub by_none : shards_answer (record hot { distinct = false }) (by_key broadcast from_four) 2 past next ≡ (pos 1 ∷ []) ∷ (pos 1 ∷ []) ∷ []

-- SELECT DISTINCT T.b, T.c FROM T WHERE T.b = 1 AND T.c = 2 AND T.a >= 1 AND T.a <= 2
abbrev pub two : QueryValue
two = record {
  distinct = true;
  from = 0 ∷ [];
  select = column 0 1 ∷ column 0 2 ∷ [];
  atoms = record { left = element.Attr (column 0 1); op = Eq; right = element.Const (pos 1) }
      ∷ record { left = element.Attr (column 0 2); op = Eq; right = element.Const (pos 2) }
      ∷ record { left = element.Attr (column 0 0); op = Ge; right = element.Const (pos 1) }
      ∷ record { left = element.Attr (column 0 0); op = Le; right = element.Const (pos 2) }
      ∷ [];
  domains = [];
  compact = false;
}

abbrev pub first_column : Keys
first_column stream = Some 0

-- 2 and more go to shard 1
abbrev pub from_two : ℤ → ℕ
from_two z = if int_lt z (pos 2) then 0 else 1

-- in each part a selected column equals the key, T.b in one and T.c in the other; and yet both shards answer the tuple 1, 2
pub record EachPartIsNotEnough : Type 0 where
  pub within : IsWithinLimits two
  pub keys : AreEqualKeys two first_column
  pub each : (s : List Sign) → IsPart two s
      → (a : Attr) × Contains two.select a × IsEqual two s (element.Attr (column 0 0)) (element.Attr a)
  pub apart : ¬ IsDisjoint two 2 (by_key first_column from_two)
