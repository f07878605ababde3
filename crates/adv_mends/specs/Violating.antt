-- What the part orders that breaks a condition first.
use Rattle.std.specs.Prelude.{◌≡◌, ℕ, ◌-◌, ⊤, IsTrue, IsFalse, List, [], slice_get}
use Rattle.std.specs.declared.option.Option.TheVariants.{Some}
use Rattle.sem_query.specs.declared.part.Sign.{Sign}
use Rattle.sem_query.specs.Query.{QueryValue}
use Rattle.sem_query.specs.Assignment.{Assignment}
use Rattle.sem_query.specs.Parts.{AreParts, InPart}
use Rattle.sem_forms.specs.Parts.{HasTooManyParts, IsFormViolation}
use Rattle.adv_order.specs.declared.chains.Chain.{Chain}
use Rattle.adv_order.specs.Chains.{chains_of, chains_in}
use Rattle.adv_mends.specs.declared.judging.Judgement.{Judgement}
use Rattle.adv_mends.specs.declared.judging.Judgement.TheVariants as judgement

-- the chains of the part of a number, from 1: in each of its assignments they are what it orders, in the order of the values
pub record AreChainsAt (q : QueryValue) (number : ℕ) (chains : List Chain) : Type 0 where
  pub parts : List (List Sign)
  pub are : AreParts q parts
  pub signs : List Sign
  pub at : slice_get parts (number - 1) ≡ Some signs
  pub is : chains ≡ chains_of q signs
  pub order : (v : Assignment) → InPart q signs v → chains ≡ chains_in q v

-- the chains of the part of a number, where the query is not compact
pub record AreChainsOf (q : QueryValue) (number : ℕ) (chains : List Chain) : Type 0 where
  pub plain : IsFalse q.compact → AreChainsAt q number chains
  pub other : IsTrue q.compact → chains ≡ []

-- the chains of the part that breaks a condition first, where one does
abbrev pub AreChainsFor : QueryValue → Judgement → List Chain → Type 0
AreChainsFor q judgement.Filter chains = chains ≡ []
AreChainsFor q (judgement.Accepted numbers) chains = chains ≡ []
AreChainsFor q (judgement.Above which value) chains = chains ≡ []
AreChainsFor q (judgement.Violation part condition attr) chains = AreChainsOf q part chains
AreChainsFor q judgement.ManyParts chains = chains ≡ []

-- the violation that is named is the first of the query, where one is
abbrev pub Shows : QueryValue → Judgement → Type 0
Shows q judgement.Filter = ⊤
Shows q (judgement.Accepted numbers) = ⊤
Shows q (judgement.Above which value) = ⊤
Shows q (judgement.Violation part condition attr) = (¬ HasTooManyParts q) × IsFormViolation q (Some record { part = part; condition = condition; attr = attr })
Shows q judgement.ManyParts = ⊤
