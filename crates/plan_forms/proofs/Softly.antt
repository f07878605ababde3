-- There is room for the soft links of a form.
use Rattle.std.proofs.Common.{◌≡◌, ℕ, zero, suc, ◌+◌, ◌<◌, ◌≤◌, List, [], ◌∷◌, map, filter, length, take, slice_index_or, Bool, true, false, cond, if◌then◌else◌, refl, sym, ◌∙◌, ap, arith}
use Rattle.sem_query.specs.declared.atom.Atom.{Atom}
use Rattle.sem_query.specs.declared.atom.Element.{Element}
use Rattle.sem_query.specs.declared.atom.Op.{Op}
use Rattle.sem_query.specs.declared.plan.SoftLink.{SoftLink}
use Rattle.sem_query.specs.Query.{QueryValue}
use Rattle.sem_query.specs.Query.{is_soft as is_soft_op}
use Rattle.sem_query.proofs.Has.{Has, first, later, Has-map_from}
use Rattle.sem_whole.specs.System.{system}
use Rattle.sem_whole.specs.Links.{are_across, comparison, comes_late, turned_by, between_streams, across, AreLinks}
use Rattle.sem_whole.specs.Signed.{IsWellFormed}
use Rattle.sem_whole.proofs.Formed.{soft_links_are_few}
use Rattle.sem_whole.proofs.Suffice.{thins_among, once_from}
use Rattle.plan_whole.specs.declared.links.ColumnLink.{ColumnLink}
use Rattle.plan_whole.specs.Columns.{atom_of}
use Rattle.sem_forms.specs.Part.{soft_as, is_soft}

length_map : {X Y : Type 0} (f : X → Y) (xs : List X) → length (map f xs) ≡ length xs
length_map f [] = refl
length_map f (x ∷ xs) = (let n = length_map f xs in omega (arith, n))

-- ---- as many as the rest leaves room for

module _ (f : Atom → Bool) where
  one_more : (links : List ColumnLink) (i : ℕ) (d : ColumnLink) → i < length links
      → length (filter f (map atom_of (take i links))) + length (filter f (atom_of (slice_index_or links i d) ∷ [])) ≤ length (filter f (map atom_of links))
  one_more [] i d l = absurd (omega (arith, l))
  one_more (x ∷ links) zero d l = by (f (atom_of x))
    where
      by : (b : Bool) → 0 + length (cond b (atom_of x ∷ []) []) ≤ length (cond b (atom_of x ∷ filter f (map atom_of links)) (filter f (map atom_of links)))
      by true = omega arith
      by false = omega arith
  one_more (x ∷ links) (suc i) d l = by (f (atom_of x)) (one_more links i d (omega (arith, l)))
    where
      by : (b : Bool) → length (filter f (map atom_of (take i links))) + length (filter f (atom_of (slice_index_or links i d) ∷ [])) ≤ length (filter f (map atom_of links))
          → length (cond b (atom_of x ∷ filter f (map atom_of (take i links))) (filter f (map atom_of (take i links)))) + length (filter f (atom_of (slice_index_or links i d) ∷ []))
          ≤ length (cond b (atom_of x ∷ filter f (map atom_of links)) (filter f (map atom_of links)))
      by true m = omega (arith, m)
      by false m = m

pub soft_room : (links : List ColumnLink) (i : ℕ) (d : ColumnLink) (list : List SoftLink) → i < length links → map soft_as list ≡ filter is_soft (map atom_of (take i links)) → length (filter is_soft (map atom_of links)) ≤ 16
    → length list + length (filter is_soft (atom_of (slice_index_or links i d) ∷ [])) ≤ 16
soft_room links i d list l e m =
    let a = sym (length_map soft_as list) in
    let b = ap length e in
    let c = one_more is_soft links i d l in
    omega (arith, a, b, c, m)

-- ---- at most 16 links are soft

turned_not_greater : (o : Op) (x y : Element) → (turned_by o x y).op ≡ Op.Gt → ⊥
turned_not_greater Op.Lt x y e = absurd cc
turned_not_greater Op.Le x y e = absurd cc
turned_not_greater Op.Gt x y e = absurd cc
turned_not_greater Op.Ge x y e = absurd cc
turned_not_greater Op.Eq x y e = by (comes_late x y) e
  where
    by : (b : Bool) → (if b then comparison y Op.Eq x else comparison x Op.Eq y).op ≡ Op.Gt → ⊥
    by true f = absurd cc
    by false f = absurd cc
turned_not_greater Op.Ne x y e = by (comes_late x y) e
  where
    by : (b : Bool) → (if b then comparison y Op.Ne x else comparison x Op.Ne y).op ≡ Op.Gt → ⊥
    by true f = absurd cc
    by false f = absurd cc

link_not_greater : (q : QueryValue) (links : List Atom) → AreLinks q links → (t : Atom) → Has links t → t.op ≡ Op.Gt → ⊥
link_not_greater q links are t h e =
    let r : (u : Atom) × Has (filter (λ t. are_across t.left t.right) q.atoms) u × (turned_by u.op u.left u.right ≡ t)
    = Has-map_from (λ t. turned_by t.op t.left t.right) (filter (λ t. are_across t.left t.right) q.atoms) t (once_from (between_streams q.atoms) t (thins_among (system q) [] (across q.atoms) links are t h)) in
    turned_not_greater r.0.op r.0.left r.0.right (ap (λ (z : Atom). z.op) r.2 ∙ e)

same_soft : (o : Op) (x y : Element) → (o ≡ Op.Gt → ⊥) → is_soft (comparison x o y) ≡ is_soft_op o
same_soft Op.Lt x y n = refl
same_soft Op.Eq x y n = refl
same_soft Op.Gt x y n = absurd (n refl)
same_soft Op.Le x y n = refl
same_soft Op.Ge x y n = refl
same_soft Op.Ne x y n = refl

same_filter : (links : List Atom) → ((t : Atom) → Has links t → t.op ≡ Op.Gt → ⊥) → length (filter is_soft links) ≡ length (filter (λ (t : Atom). is_soft_op t.op) links)
same_filter [] n = refl
same_filter (t ∷ links) n =
    ap (λ b. length (cond b (t ∷ filter is_soft links) (filter is_soft links))) (same_soft t.op t.left t.right (n t first))
    ∙ by (is_soft_op t.op) (same_filter links (λ u h. n u (later h)))
  where
    by : (b : Bool) → length (filter is_soft links) ≡ length (filter (λ (t : Atom). is_soft_op t.op) links)
        → length (cond b (t ∷ filter is_soft links) (filter is_soft links)) ≡ length (cond b (t ∷ filter (λ (t : Atom). is_soft_op t.op) links) (filter (λ (t : Atom). is_soft_op t.op) links))
    by true e = omega (arith, e)
    by false e = e

pub few_soft : (q : QueryValue) (links : List Atom) → IsWellFormed q → AreLinks q links → length (filter is_soft links) ≤ 16
few_soft q links w are = let m = soft_links_are_few q w links are in let e = same_filter links (link_not_greater q links are) in omega (arith, m, e)
