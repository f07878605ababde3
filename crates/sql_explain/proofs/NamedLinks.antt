-- The columns that are selected or stand in links are columns of the query's streams, where those of its comparisons and the selected ones are.
use Rattle.std.proofs.Common.{◌≡◌, ℕ, ◌≤◌, Bool, true, false, List, refl, sym, subst, arith, All}
use Rattle.std.proofs.lemmas.Bool.Decides.{nat_tests}
use Rattle.std.proofs.lemmas.List.Elements.{All-contains}
use Rattle.sem_query.specs.declared.atom.Atom.{Atom}
use Rattle.sem_query.specs.declared.atom.Attr.{Attr}
use Rattle.sem_query.specs.Query.{QueryValue, attr_lt, attrs_of}
use Rattle.sem_query.proofs.Has.{Has}
use Rattle.sql_catalog.specs.Streams.{Shape}
use Rattle.sql_parser.specs.Resolution.{IsColumnOf}
use Rattle.sem_whole.specs.System.{system}
use Rattle.sem_whole.specs.Links.{AreLinks}
use Rattle.sem_whole.specs.Whole as whole
use Rattle.sem_whole.specs.Whole.{IsRead}
use Rattle.sem_whole.specs.Plan.{NamesClass, HasRead}
use Rattle.sem_whole.proofs.Unbroken.{class_turned}
use Rattle.plan_whole.proofs.Choosing.{link_named}

-- a column that no other one comes before
not_above : (m b : Attr) → (attr_lt m b ≡ true → ⊥) → b.stream ≡ m.stream → b.column ≤ m.column
not_above m b n e = by (attr_lt m b) refl
  where
    by : (c : Bool) → attr_lt m b ≡ c → b.column ≤ m.column
    by true h = absurd (n h)
    by false h = grind (arith, nat_tests, h, e)

-- each column that a comparison of the query names is there
abbrev pub HasAttributes : List Shape → QueryValue → Type 0
HasAttributes streams q = (a : Attr) → Has (attrs_of q.atoms) a → IsColumnOf streams q.from a

module _ (streams : List Shape) (q : QueryValue) (attr_there : HasAttributes streams q) (select : All (IsColumnOf streams q.from) q.select) (links : List Atom) (are : AreLinks q links) where
  -- a column that is selected or stands in a link
  pub read_there : (a : Attr) → IsRead q links a → IsColumnOf streams q.from a
  read_there a (whole.selected k) = All-contains (IsColumnOf streams q.from) q.select a select k
  read_there a (whole.left t k e) = attr_there a ((link_named q links are t k).0 a e)
  read_there a (whole.right t k e) = attr_there a ((link_named q links are t k).1 a e)

  -- the name of its class stands no further right
  pub class_there : (a : Attr) → NamesClass q a → HasRead q links a → IsColumnOf streams q.from a
  class_there a n r =
      let m : IsColumnOf streams q.from r.member = read_there r.member r.read in
      let low : a.column ≤ r.member.column = not_above r.member a (n r.member (class_turned (system q) a r.member r.inside)) r.inside.stream in
      subst (λ (s : ℕ). IsColumnOf streams q.from record { stream = s; column = a.column }) (sym r.inside.stream)
      (record { stream = m.stream; column = omega (arith, low, m.column) })
