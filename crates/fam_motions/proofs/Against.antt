-- What goes against a comparison of the query in a mixture.
use Rattle.std.proofs.Common.{◌≡◌, ◌≢◌, ℕ, zero, suc, ◌<◌, nat_eq, true, false, List, [], ◌∷◌, cond, ap, subst, arith, length, ℤ, ◌≤ℤ◌, ◌<ℤ◌, slice_index_or}
use Rattle.std.proofs.lemmas.Int.{ints}
use Rattle.std.proofs.lemmas.Bool.Decides.{nat_tests}
use Rattle.arrayvec.specs.ArrayVec.{ArrayVec as Items}
use Rattle.sem_query.specs.declared.atom.Atom.{Atom}
use Rattle.sem_query.specs.declared.atom.Attr.{Attr}
use Rattle.sem_query.specs.Query.{QueryValue, attrs_of}
use Rattle.sem_query.specs.Assignment.{Assignment, AtomHolds}
use Rattle.sem_query.proofs.Has.{Has, first, later}
use Rattle.sem_query.proofs.Holding.{Holds-each}
use Rattle.fam_motions.specs.Apart.{SaysAtMost, mixture, LaterMixesFail, EarlierMixesFail, Rises, Falls, assigned}

here : (place : ℕ) (v w : Assignment) (b : Attr) → b.stream ≡ place → mixture place v w b ≡ v b
here place v w b e = let f : nat_eq b.stream place ≡ true = grind (arith, e, nat_tests) in ap (λ t. cond t (v b) (w b)) f

elsewhere : (place : ℕ) (v w : Assignment) (b : Attr) → b.stream ≢ place → mixture place v w b ≡ w b
elsewhere place v w b e = let f : nat_eq b.stream place ≡ false = grind (arith, e, nat_tests) in ap (λ t. cond t (v b) (w b)) f

against : (x y u v : ℤ) → x ≤ℤ y → x ≡ u → y ≡ v → v <ℤ u → ⊥
against x y u v l e f m = omega (arith, ints, l, e, f, m)

module _ (q : QueryValue) (all : List (Items ℤ)) (x y : Attr) (says : SaysAtMost q x y) (place : ℕ) where
  -- the lesser side alone is of the place
  pub left-later : x.stream ≡ place → y.stream ≢ place → Rises (attrs_of q.atoms) all x y → LaterMixesFail q place (length all) (assigned q all)
  left-later e d r i j l m h = against _ _ _ _ (says _ h) (here place (assigned q all j) (assigned q all i) x e) (elsewhere place (assigned q all j) (assigned q all i) y d) (r i j l m)

  pub left-earlier : x.stream ≡ place → y.stream ≢ place → Falls (attrs_of q.atoms) all x y → EarlierMixesFail q place (length all) (assigned q all)
  left-earlier e d r i j l m h = against _ _ _ _ (says _ h) (here place (assigned q all i) (assigned q all j) x e) (elsewhere place (assigned q all i) (assigned q all j) y d) (r i j l m)

  -- the greater side alone is
  pub right-later : y.stream ≡ place → x.stream ≢ place → Falls (attrs_of q.atoms) all x y → LaterMixesFail q place (length all) (assigned q all)
  right-later e d r i j l m h = against _ _ _ _ (says _ h) (elsewhere place (assigned q all j) (assigned q all i) x d) (here place (assigned q all j) (assigned q all i) y e) (r i j l m)

  pub right-earlier : y.stream ≡ place → x.stream ≢ place → Rises (attrs_of q.atoms) all x y → EarlierMixesFail q place (length all) (assigned q all)
  right-earlier e d r i j l m h = against _ _ _ _ (says _ h) (elsewhere place (assigned q all i) (assigned q all j) x d) (here place (assigned q all i) (assigned q all j) y e) (r i j l m)

has-at : (ts : List Atom) (i : ℕ) (d : Atom) → i < length ts → Has ts (slice_index_or ts i d)
has-at [] i d l = absurd (omega (arith, l))
has-at (t ∷ ts) zero d l = first
has-at (t ∷ ts) (suc i) d l = later (has-at ts i d (omega (arith, l)))

-- what one comparison of the query says
pub said-by : (q : QueryValue) (x y : Attr) (ts : List Atom) (i : ℕ) (d : Atom) → ts ≡ q.atoms → i < length ts
    → ((v : Assignment) → AtomHolds v (slice_index_or ts i d) → v x ≤ℤ v y) → SaysAtMost q x y
said-by q x y ts i d e l f v h = f v (Holds-each q v h (slice_index_or ts i d) (subst (λ (zs : List Atom). Has zs (slice_index_or ts i d)) e (has-at ts i d l)))
