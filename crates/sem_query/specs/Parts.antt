-- The pairs of a query, the signs that an assignment gives them, and the parts: the sign vectors of satisfying assignments.
use Rattle.std.specs.Prelude.{◌≡◌, ℕ, ◌<◌, ℤ, int_lt, Bool, true, false, not, ◌&&◌, IsTrue, nat_eq, if◌then◌else◌, List, [], ◌∷◌, ◌++◌, map, filter, length, All, AllPairs, Contains}
use Rattle.std.specs.List.{flat_map}
use Rattle.std.specs.Ordering.{int_eq}
use Rattle.sem_query.specs.declared.atom.Attr.{Attr}
use Rattle.sem_query.specs.declared.atom.Element.{Element}
use Rattle.sem_query.specs.declared.atom.Element.TheVariants as element
use Rattle.sem_query.specs.declared.atom.Atom.{Atom}
use Rattle.sem_query.specs.declared.part.Pair.{Pair}
use Rattle.sem_query.specs.declared.part.Sign.{Sign}
use Rattle.sem_query.specs.declared.part.Part.{Part}
use Rattle.sem_query.specs.Query.{QueryValue, attrs_of, consts_of, attr_lt, attr_eq, is_soft}
use Rattle.sem_query.specs.Assignment.{Assignment, value, Holds, KeepsDomains}

-- whether two columns are of one stream
abbrev pub same_stream : Attr → Attr → Bool
same_stream a b = nat_eq a.stream b.stream

-- each attribute with each constant, and then with each later attribute of its stream
abbrev pub pairs_among : List Attr → List ℤ → List Pair
pairs_among [] consts = []
pairs_among (a ∷ others) consts =
    map (λ k. record { left = a; right = element.Const k }) consts
    ++ map (λ b. record { left = a; right = element.Attr b }) (filter (same_stream a) others)
    ++ pairs_among others consts

-- a column and an element as a pair
abbrev pub pair : Attr → Element → Pair
pair a x = record { left = a; right = x }

-- the pair that two different elements make: a column before a constant, and of two columns the earlier one first
abbrev pub pair_of : Element → Element → List Pair
pair_of (element.Attr a) (element.Attr b) = if attr_lt a b then pair a (element.Attr b) ∷ [] else (if attr_lt b a then pair b (element.Attr a) ∷ [] else [])
pair_of (element.Attr a) (element.Const k) = pair a (element.Const k) ∷ []
pair_of (element.Const k) (element.Attr a) = pair a (element.Const k) ∷ []
pair_of (element.Const j) (element.Const k) = []

-- the pair that a soft comparison names
abbrev pub soft_pair : Atom → List Pair
soft_pair t = if is_soft t.op then pair_of t.left t.right else []

-- whether two elements are the same
abbrev pub element_eq : Element → Element → Bool
element_eq (element.Attr a) (element.Attr b) = attr_eq a b
element_eq (element.Attr a) (element.Const k) = false
element_eq (element.Const j) (element.Attr b) = false
element_eq (element.Const j) (element.Const k) = int_eq j k

-- whether two pairs are the same
abbrev pub pair_eq : Pair → Pair → Bool
pair_eq p r = attr_eq p.left r.left && element_eq p.right r.right

-- the pairs, each where it stands first
abbrev pub each_once : List Pair → List Pair
each_once [] = []
each_once (p ∷ ps) = p ∷ filter (λ r. not (pair_eq p r)) (each_once ps)

-- all pairs of some comparisons, each where it stands first: those that soft comparisons name, in their order, and then the others
abbrev pub all_pairs : List Atom → List Pair
all_pairs atoms = each_once (flat_map soft_pair atoms ++ pairs_among (attrs_of atoms) (consts_of atoms))

-- the pairs of a query
unfoldable pub pairs : QueryValue → List Pair
pairs q = all_pairs q.atoms

-- whether all columns of a pair are of the stream at this place of FROM
abbrev pub is_within : ℕ → Attr → Element → Bool
is_within place left (element.Attr right) = nat_eq left.stream place && nat_eq right.stream place
is_within place left (element.Const k) = nat_eq left.stream place

-- how two integers stand to each other
abbrev pub sign : ℤ → ℤ → Sign
sign x y = if int_lt x y then Sign.Lt else (if int_lt y x then Sign.Gt else Sign.Eq)

-- how the sides of a pair stand to each other in an assignment
abbrev pub sign_at : Assignment → Pair → Sign
sign_at v p = sign (v p.left) (value p.right v)

-- the sign vector of an assignment: the sign of each pair
abbrev pub signs_of : QueryValue → Assignment → List Sign
signs_of q v = map (sign_at v) (pairs q)

-- the assignment satisfies the condition, keeps to the domains and has these signs
pub record InPart (q : QueryValue) (s : List Sign) (v : Assignment) : Type 0 where
  pub holds : Holds q v
  pub domains : KeepsDomains q v
  pub signs : signs_of q v ≡ s

-- some satisfying assignment that keeps to the domains has these signs
pub record IsPart (q : QueryValue) (s : List Sign) : Type 0 where
  pub one : Assignment
  pub inside : InPart q s one

-- less comes before equal, and equal before greater
abbrev pub sign_lt : Sign → Sign → Bool
sign_lt Sign.Lt Sign.Lt = false
sign_lt Sign.Lt Sign.Eq = true
sign_lt Sign.Lt Sign.Gt = true
sign_lt Sign.Eq Sign.Lt = false
sign_lt Sign.Eq Sign.Eq = false
sign_lt Sign.Eq Sign.Gt = true
sign_lt Sign.Gt t = false

-- sign vectors are ordered by the first pair, then the second, and so on
abbrev pub signs_lt : List Sign → List Sign → Bool
signs_lt [] [] = false
signs_lt [] (t ∷ ts) = true
signs_lt (s ∷ ss) [] = false
signs_lt (s ∷ ss) (t ∷ ts) = if sign_lt s t then true else (if sign_lt t s then false else signs_lt ss ts)

-- the list of all parts, ascending
pub record AreParts (q : QueryValue) (parts : List (List Sign)) : Type 0 where
  pub ascending : AllPairs (λ s t. IsTrue (signs_lt s t)) parts
  pub each : All (IsPart q) parts
  pub all : (s : List Sign) → IsPart q s → Contains parts s

-- there are more than n parts
pub record HasMoreParts (q : QueryValue) (n : ℕ) : Type 0 where
  pub some : List (List Sign)
  pub ascending : AllPairs (λ s t. IsTrue (signs_lt s t)) some
  pub each : All (IsPart q) some
  pub more : n < length some

-- the sign vectors of the parts
abbrev pub sign_lists : List Part → List (List Sign)
sign_lists ps = map (λ p. p.signs.items) ps
