-- The columns that a query names are below 8, and its integers may be written.
use Rattle.std.proofs.Common.{inl, inr, ◌<◌, ℤ, pos, neg_ℤ, ◌≤ℤ◌, length}
use Rattle.std.proofs.lemmas.List.Elements.{All-contains}
use Rattle.sem_query.specs.declared.atom.Attr.{Attr}
use Rattle.sem_query.specs.declared.atom.Atom.{Atom}
use Rattle.sem_query.specs.declared.atom.Domain.{Domain}
use Rattle.sem_query.specs.declared.atom.Element.{Element}
use Rattle.sem_query.specs.declared.atom.Element.TheVariants as element
use Rattle.sem_query.specs.Query.{QueryValue, attrs_of, consts_of, IsColumn, IsShort, IsDomain, IsWithinLimits}
use Rattle.sem_query.proofs.Has.{Has, Contains-from_has, Has-from_contains}
use Rattle.sem_query.proofs.Elements.{HasElement, SidesIn, sides_in}
use Rattle.plan_split_pairs.specs.Laws.{IsColumnOrShort}
use Rattle.sem_split_bounds.proofs.RowKeys.{farthest}

-- a column below 8, or an integer that may be written
abbrev pub IsSmallSide : Element → Type 0
IsSmallSide (element.Attr a) = a.column < 8
IsSmallSide (element.Const k) = (neg_ℤ (pos farthest) ≤ℤ k) × (k ≤ℤ pos farthest)

pub short_small : (k : ℤ) → IsShort k → IsSmallSide (element.Const k)
unfolding farthest
short_small k s = (s.low, s.high)

module _ (q : QueryValue) (within : IsWithinLimits q) where
  pub named_column : (a : Attr) → Has (attrs_of q.atoms) a → a.column < 8
  named_column a h = (All-contains (IsColumn (length q.from)) (attrs_of q.atoms) a within.attrs (Contains-from_has (attrs_of q.atoms) a h)).column

  pub selected_column : (a : Attr) → Has q.select a → a.column < 8
  selected_column a h = (All-contains (IsColumn (length q.from)) q.select a within.select (Contains-from_has q.select a h)).column

  element_small : (e : Element) → HasElement (attrs_of q.atoms) (consts_of q.atoms) e → IsSmallSide e
  element_small (element.Attr a) h = named_column a h
  element_small (element.Const k) h = short_small k (All-contains IsShort (consts_of q.atoms) k within.consts (Contains-from_has (consts_of q.atoms) k h))

  pub atom_small : (t : Atom) → Has q.atoms t → IsSmallSide t.left × IsSmallSide t.right
  atom_small t h = let s : SidesIn q.atoms t = sides_in q.atoms t h in (element_small t.left s.left, element_small t.right s.right)

  pub pair_small : (e : Element) → IsColumnOrShort (attrs_of q.atoms) e → IsSmallSide e
  pair_small (element.Attr a) h = named_column a (Has-from_contains (attrs_of q.atoms) a h)
  pair_small (element.Const k) h = short_small k h

  pub domain_small : (e : Domain) → Has q.domains e → IsDomain q e × (e.attr.column < 8)
  domain_small e h =
      let d : IsDomain q e = All-contains (IsDomain q) q.domains e within.domains (Contains-from_has q.domains e h) in
      (d, elim d.column [ inl i ↦ named_column e.attr (Has-from_contains (attrs_of q.atoms) e.attr i) | inr i ↦ selected_column e.attr (Has-from_contains q.select e.attr i) ])
