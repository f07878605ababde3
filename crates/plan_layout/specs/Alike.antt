-- What the stream at a place of FROM is asked beside signs, compared.
use Rattle.std.specs.Prelude.{ℕ, Bool, List, filter}
use Rattle.sem_query.specs.declared.plan.LocalCondition.{LocalCondition}
use Rattle.sem_query.specs.Parts.{is_within}
use Rattle.sem_query.specs.Sharing.{same_locals}

-- the condition is of the stream at this place
abbrev pub within : ℕ → LocalCondition → Bool
within place t = is_within place t.left t.right

-- the conditions of the stream at one place and those, among others, of the stream at another are the same
abbrev pub asked_alike : ℕ → ℕ → List LocalCondition → List LocalCondition → Bool
asked_alike place there ts us = same_locals (filter (within place) ts) (filter (within there) us)
