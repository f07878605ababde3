-- The links of a query: its comparisons of columns of two streams, less those that what remains implies, one after another.
use Rattle.std.specs.Prelude.{◌≡◌, ℕ, ℤ, pos, neg_ℤ, ◌+ℤ◌, ◌≤ℤ◌, Bool, false, not, ◌&&◌, nat_eq, if◌then◌else◌, List, [], ◌∷◌, ◌++◌, map, filter}
use Rattle.sem_query.specs.declared.atom.Atom.{Atom}
use Rattle.sem_query.specs.declared.atom.Element.{Element}
use Rattle.sem_query.specs.declared.atom.Element.TheVariants as element
use Rattle.sem_query.specs.declared.atom.Op.{Op}
use Rattle.sem_query.specs.Members.{Has}
use Rattle.sem_query.specs.Query.{QueryValue, attr_lt}
use Rattle.sem_query.specs.Parts.{same_stream, element_eq}
use Rattle.sem_whole.specs.System.{Difference, atom_bounds, system, Bound, IsOf}

-- whether two elements are columns of different streams
abbrev pub are_across : Element → Element → Bool
are_across (element.Attr a) (element.Attr b) = not (same_stream a b)
are_across (element.Attr a) (element.Const k) = false
are_across (element.Const k) y = false

-- a comparison with these sides
abbrev pub comparison : Element → Op → Element → Atom
comparison x o y = record { left = x; op = o; right = y }

-- whether the right side is a column that comes before that of the left one
abbrev pub comes_late : Element → Element → Bool
comes_late (element.Attr a) (element.Attr b) = attr_lt b a
comes_late (element.Attr a) (element.Const k) = false
comes_late (element.Const k) y = false

-- a comparison turned so that it reads `<`, `<=`, or by the order of its columns `=`, `<>`
abbrev pub turned_by : Op → Element → Element → Atom
turned_by Op.Lt x y = comparison x Op.Lt y
turned_by Op.Le x y = comparison x Op.Le y
turned_by Op.Gt x y = comparison y Op.Lt x
turned_by Op.Ge x y = comparison y Op.Le x
turned_by Op.Eq x y = if comes_late x y then comparison y Op.Eq x else comparison x Op.Eq y
turned_by Op.Ne x y = if comes_late x y then comparison y Op.Ne x else comparison x Op.Ne y

-- the number of an operator
abbrev pub op_index : Op → ℕ
op_index Op.Lt = 0
op_index Op.Eq = 1
op_index Op.Gt = 2
op_index Op.Le = 3
op_index Op.Ge = 4
op_index Op.Ne = 5

-- whether two comparisons read the same
abbrev pub atom_eq : Atom → Atom → Bool
atom_eq t u = nat_eq (op_index t.op) (op_index u.op) && (element_eq t.left u.left && element_eq t.right u.right)

-- each comparison where it stands first
abbrev pub each_once : List Atom → List Atom
each_once [] = []
each_once (t ∷ ts) = t ∷ filter (λ u. not (atom_eq t u)) (each_once ts)

-- the comparisons between streams, in their order
abbrev pub between_streams : List Atom → List Atom
between_streams atoms = map (λ t. turned_by t.op t.left t.right) (filter (λ t. are_across t.left t.right) atoms)

-- the same, each once
abbrev pub across : List Atom → List Atom
across atoms = each_once (between_streams atoms)

-- both are of one stream
abbrev pub AreOfOne : Element → Element → Type 0
AreOfOne x y = (place : ℕ) × IsOf place x × IsOf place y

-- x is at most c above y, by what the system says of each stream alone and by some comparisons between the two streams
pub data Follows (ds : List Difference) (ts : List Atom) (x y : Element) (c : ℤ) : Type 0 where
  ranges : (high low : ℤ) → Bound ds x (element.Const high) (pos 0) → Bound ds (element.Const low) y (pos 0) → high ≤ℤ (c +ℤ low) → Follows ds ts x y c
  link : (t : Atom) → Has ts t → (d : Difference) → Has (atom_bounds t) d → (first second : ℤ)
      → AreOfOne x d.left → Bound ds x d.left first → AreOfOne d.right y → Bound ds d.right y second
      → (first +ℤ d.by +ℤ second) ≤ℤ c → Follows ds ts x y c

-- a comparison goes where what it says follows from the system and the others; `<>` goes where `<` or `>` follows
pub data Goes (ds : List Difference) (ts : List Atom) (t : Atom) : Type 0 where
  bounds : (t.op ≡ Op.Ne → ⊥) → ((d : Difference) → Has (atom_bounds t) d → Follows ds ts d.left d.right d.by) → Goes ds ts t
  less : t.op ≡ Op.Ne → Follows ds ts t.left t.right (neg_ℤ (pos 1)) → Goes ds ts t
  greater : t.op ≡ Op.Ne → Follows ds ts t.right t.left (neg_ℤ (pos 1)) → Goes ds ts t

-- one after another, in order: each goes or stays beside those that stayed before it and all that come after it
pub data Thins (ds : List Difference) : List Atom → List Atom → List Atom → Type 0 where
  done : {kept : List Atom} → Thins ds kept [] kept
  goes : {kept rest result : List Atom} {t : Atom} → Goes ds (kept ++ rest) t → Thins ds kept rest result → Thins ds kept (t ∷ rest) result
  stays : {kept rest result : List Atom} {t : Atom} → ¬ Goes ds (kept ++ rest) t → Thins ds (kept ++ t ∷ []) rest result → Thins ds kept (t ∷ rest) result

-- the links of a query
abbrev pub AreLinks : QueryValue → List Atom → Type 0
AreLinks q links = Thins (system q) [] (across q.atoms) links
