-- The sides of comparisons and pairs are elements of the query.
use Rattle.std.proofs.Common.{◌≡◌, ℕ, ◌<◌, List, length, slice_index_or, subst}
use Rattle.std.proofs.lemmas.List.Elements.{Contains-get_or}
use Rattle.sem_query.proofs.Has.{Has, Has-from_contains}
use Rattle.sem_query.proofs.Elements.{SidesIn, sides_in, element_from_has}
use Rattle.sem_query.proofs.Local.{PairIn, pair_named}
use Rattle.sem_query.specs.declared.atom.Element.TheVariants as element
use Rattle.sem_query.specs.declared.atom.Atom.{Atom}
use Rattle.sem_query.specs.declared.part.Pair.{Pair}
use Rattle.sem_query.specs.Query.{QueryValue, attrs_of, consts_of}
use Rattle.sem_query.specs.Order.{IsElement}
use Rattle.sem_query.specs.Parts.{pairs}

-- both sides of a pair are elements of the query
pub pair_elements : (q : QueryValue) (ps : List Pair) (i : ℕ) (d : Pair) → ps ≡ pairs q → i < length ps → IsElement q (element.Attr (slice_index_or ps i d).left) × IsElement q (slice_index_or ps i d).right
pair_elements q ps i d e l =
    let h : Has (pairs q) (slice_index_or ps i d) = subst (λ z. Has z (slice_index_or ps i d)) e (Has-from_contains ps _ (Contains-get_or ps i d l)) in
    let s : PairIn (attrs_of q.atoms) (consts_of q.atoms) (slice_index_or ps i d) = pair_named q _ h in
    (element_from_has q (element.Attr (slice_index_or ps i d).left) s.left, element_from_has q (slice_index_or ps i d).right s.right)

sides_at : (q : QueryValue) (ts : List Atom) (i : ℕ) (d : Atom) → ts ≡ q.atoms → i < length ts → SidesIn q.atoms (slice_index_or ts i d)
sides_at q ts i d e l = sides_in q.atoms _ (subst (λ (z : List Atom). Has z (slice_index_or ts i d)) e (Has-from_contains ts _ (Contains-get_or ts i d l)))

-- both sides of a comparison are elements of the query
pub left_element : (q : QueryValue) (ts : List Atom) (i : ℕ) (d : Atom) → ts ≡ q.atoms → i < length ts → IsElement q (slice_index_or ts i d).left
left_element q ts i d e l = element_from_has q (slice_index_or ts i d).left (sides_at q ts i d e l).left

pub right_element : (q : QueryValue) (ts : List Atom) (i : ℕ) (d : Atom) → ts ≡ q.atoms → i < length ts → IsElement q (slice_index_or ts i d).right
right_element q ts i d e l = element_from_has q (slice_index_or ts i d).right (sides_at q ts i d e l).right
