-- What a well-formed query gives: its columns are of streams of FROM, and few of its links are soft.
use Rattle.std.proofs.Common.{◌≡◌, ℕ, ◌+◌, ◌<◌, ◌≤◌, inl, inr, Bool, true, false, not, cond, List, [], ◌∷◌, ◌++◌, map, filter, length, Contains, refl, ap, ◌∙◌, arith}
use Rattle.std.proofs.lemmas.List.Elements.{All-contains}
use Rattle.sem_query.specs.declared.atom.Attr.{Attr}
use Rattle.sem_query.specs.declared.atom.Atom.{Atom}
use Rattle.sem_query.specs.declared.atom.Element.{Element}
use Rattle.sem_query.specs.declared.atom.Op.{Op}
use Rattle.sem_query.specs.Query.{QueryValue, attrs_of, is_soft, IsColumn, IsDomain}
use Rattle.sem_laws.proofs.Queries.{IsQuery}
use Rattle.sem_whole.specs.System.{Difference, system}
use Rattle.sem_whole.specs.Links.{are_across, comparison, comes_late, turned_by, atom_eq, each_once, between_streams, across, Thins, done, goes, stays}
use Rattle.sem_whole.specs.Signed.{IsWellFormed, QueriesAreWellFormed, SoftLinksAreFew}

pub query_formed : (q : QueryValue) → IsWellFormed q → IsQuery q
query_formed q w = record {
  some = w.streams.0;
  once = w.different;
  select = of_select;
  atoms = of_atoms;
  domains = λ d h. elim (All-contains (IsDomain q) q.domains d w.domains h).column [ inl i ↦ of_atoms d.attr i | inr i ↦ of_select d.attr i ];
}
  where
    of_select : (a : Attr) → Contains q.select a → a.stream < length q.from
    of_select a h = (All-contains (IsColumn (length q.from)) q.select a w.select h).stream

    of_atoms : (a : Attr) → Contains (attrs_of q.atoms) a → a.stream < length q.from
    of_atoms a h = (All-contains (IsColumn (length q.from)) (attrs_of q.atoms) a w.attrs h).stream

-- how many comparisons are soft
abbrev pub how_soft : List Atom → ℕ
how_soft ts = length (filter (λ t. is_soft t.op) ts)

soft-cons : (t : Atom) (ts : List Atom) → how_soft (t ∷ ts) ≡ cond (is_soft t.op) 1 0 + how_soft ts
soft-cons t ts = by (is_soft t.op)
  where
    by : (b : Bool) → length (cond {A = List Atom} b (t ∷ filter (λ t. is_soft t.op) ts) (filter (λ t. is_soft t.op) ts)) ≡ cond b 1 0 + how_soft ts
    by true = omega arith
    by false = omega arith

-- one that is not soft does not count
pub hard-cons : (t : Atom) (ts : List Atom) → is_soft t.op ≡ false → how_soft (t ∷ ts) ≡ how_soft ts
hard-cons t ts e = soft-cons t ts ∙ ap (λ b. cond b 1 0 + how_soft ts) e ∙ none (how_soft ts)
  where
    none : (n : ℕ) → 0 + n ≡ n
    none n = omega arith

soft-append : (xs ys : List Atom) → how_soft (xs ++ ys) ≡ how_soft xs + how_soft ys
soft-append [] ys = omega arith
soft-append (x ∷ xs) ys = omega (arith, soft-cons x (xs ++ ys), soft-cons x xs, soft-append xs ys)

soft-filter : (p : Atom → Bool) (ts : List Atom) → how_soft (filter p ts) ≤ how_soft ts
soft-filter p [] = omega arith
soft-filter p (t ∷ ts) = by (p t) (soft-filter p ts)
  where
    by : (b : Bool) → how_soft (filter p ts) ≤ how_soft ts → how_soft (cond {A = List Atom} b (t ∷ filter p ts) (filter p ts)) ≤ how_soft (t ∷ ts)
    by true h = omega (arith, soft-cons t (filter p ts), soft-cons t ts, h)
    by false h = omega (arith, soft-cons t ts, h)

soft-once : (ts : List Atom) → how_soft (each_once ts) ≤ how_soft ts
soft-once [] = omega arith
soft-once (t ∷ ts) =
    omega (arith, soft-cons t (filter (λ u. not (atom_eq t u)) (each_once ts)), soft-cons t ts, soft-filter (λ u. not (atom_eq t u)) (each_once ts), soft-once ts)

-- a comparison that is turned stays soft, or not
soft-turned : (o : Op) (x y : Element) → is_soft (turned_by o x y).op ≡ is_soft o
soft-turned Op.Lt x y = refl
soft-turned Op.Le x y = refl
soft-turned Op.Gt x y = refl
soft-turned Op.Ge x y = refl
soft-turned Op.Eq x y = by (comes_late x y)
  where
    by : (b : Bool) → is_soft (cond b (comparison y Op.Eq x) (comparison x Op.Eq y)).op ≡ false
    by true = refl
    by false = refl
soft-turned Op.Ne x y = by (comes_late x y)
  where
    by : (b : Bool) → is_soft (cond b (comparison y Op.Ne x) (comparison x Op.Ne y)).op ≡ true
    by true = refl
    by false = refl

all-turned : (ts : List Atom) → how_soft (map (λ t. turned_by t.op t.left t.right) ts) ≡ how_soft ts
all-turned [] = refl
all-turned (t ∷ ts) =
    let n = soft-cons (turned_by t.op t.left t.right) (map (λ t. turned_by t.op t.left t.right) ts) in
    let one : Bool → ℕ = λ b. cond b 1 0 in
    let e : one (is_soft (turned_by t.op t.left t.right).op) ≡ one (is_soft t.op) = ap one (soft-turned t.op t.left t.right) in
    omega (arith, n, e, soft-cons t ts, all-turned ts)

-- no more comparisons between streams are soft than comparisons
pub soft-across : (ts : List Atom) → how_soft (across ts) ≤ how_soft ts
soft-across ts =
    omega (arith, soft-once (between_streams ts), all-turned (filter (λ t. are_across t.left t.right) ts), soft-filter (λ t. are_across t.left t.right) ts)

-- no more stay than there were
soft-thins : (ds : List Difference) (kept rest result : List Atom) → Thins ds kept rest result → how_soft result ≤ how_soft kept + how_soft rest
soft-thins ds kept [] result done = omega arith
soft-thins ds kept (u ∷ rest) result (goes g r) = omega (arith, soft-cons u rest, soft-thins ds kept rest result r)
soft-thins ds kept (u ∷ rest) result (stays g r) =
    omega (arith, soft-cons u rest, soft-cons u [], soft-append kept (u ∷ []), soft-thins ds (kept ++ u ∷ []) rest result r)

pub soft_links_are_few : SoftLinksAreFew
soft_links_are_few q w links are = omega (arith, soft-thins (system q) [] (across q.atoms) links are, w.few_soft_links)

pub well_formed : QueriesAreWellFormed
well_formed q w = record {
  streams = w.streams;
  different = w.different;
  selected = w.selected;
  select = w.select;
  sides = w.sides;
  few_attrs = w.few_attrs;
  attrs = w.attrs;
  consts = w.consts;
  domains = w.domains;
  ascending = w.ascending;
  few_soft_links = omega (arith, soft-across q.atoms, w.few_soft);
}
