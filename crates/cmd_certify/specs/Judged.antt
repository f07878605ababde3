-- By which form a query is judged, and the certificates of that form.
use Rattle.std.specs.Prelude.{◌≡◌, IsTrue, IsFalse, ℕ, List}
use Rattle.sem_query.specs.Query.{QueryValue}
use Rattle.sem_query.specs.declared.decision.Decision.{Decision}
use Rattle.sem_forms.specs.Forms.{HasWholeForm}
use Rattle.sql_replies.specs.declared.refusal.Refusal.{Refusal}
use Rattle.sql_replies.specs.declared.refusal.Refusal.TheVariants.{Limit}
use Rattle.cert_format.specs.Nodes.{Node}
use Rattle.cert_checker.specs.declared.shown.Shown.{Shown}
use Rattle.cert_checker.specs.Reading.{IsGood}
use Rattle.cert_checker.specs.Shown.{goes_by_form, branching_of, IsShownDecision}
use Rattle.cert_maker.specs.Made.{IsTooLarge}

-- the form by which a query is judged
pub data IsJudgedBy (q : QueryValue) : Shown → Type 0 where
  plain : IsFalse (goes_by_form q) → IsJudgedBy q Shown.Plain
  whole : IsTrue (goes_by_form q) → HasWholeForm q → IsJudgedBy q Shown.Whole
  split : IsTrue (goes_by_form q) → ¬ HasWholeForm q → IsJudgedBy q Shown.Split

-- the nodes are a good tree of the form by which the query is judged
pub record IsGoodOf (q : QueryValue) (nodes : List Node) : Type 0 where
  pub shown : Shown
  pub judged : IsJudgedBy q shown
  pub good : IsGood (branching_of shown q) nodes

-- no certificate is written of the query: that of the form by which it is judged is too large
pub record IsUncertified (q : QueryValue) (word : Refusal) : Type 0 where
  pub shown : Shown
  pub judged : IsJudgedBy q shown
  pub large : IsTooLarge shown q
  pub is : word ≡ Limit

-- one is written, where nothing but blank lines follows
abbrev pub IsCertified : QueryValue → Type 0
IsCertified q = (word : Refusal) → ¬ IsUncertified q word

-- a certificate of some form of the query decides this, with so many parts
pub record IsDecided (q : QueryValue) (decision : Decision) (parts : ℕ) : Type 0 where
  pub shown : Shown
  pub is : IsShownDecision q shown decision parts
