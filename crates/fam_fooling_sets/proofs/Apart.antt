-- Assignments of one part of which the mixtures go against its orders make a family for an unbounded inequality.
use Rattle.std.proofs.Common.{◌≡◌, ◌≢◌, ℕ, ◌<◌, ◌⊎◌, inl, inr, nat_eq, List, [], cond, Bool, true, false, refl, ap, ◌∙◌, arith, ℤ, ◌≤ℤ◌, ◌<ℤ◌, slice_index_or}
use Rattle.std.proofs.lemmas.Int.{ints}
use Rattle.std.proofs.lemmas.Bool.Decides.{nat_tests}
use Rattle.sem_query.specs.declared.atom.Attr.{Attr}
use Rattle.sem_query.specs.declared.condition.Condition.TheVariants.{C3}
use Rattle.sem_query.specs.declared.part.Sign.{Sign}
use Rattle.sem_query.specs.Query.{QueryValue}
use Rattle.sem_query.specs.Assignment.{Assignment, projected}
use Rattle.sem_query.specs.Meaning.{assignment_of}
use Rattle.sem_query.specs.Parts.{InPart}
use Rattle.fam_fooling_sets.specs.Family.{Shows, any, Tells, each, counts}
use Rattle.fam_fooling_sets.specs.Making.{LaterFails, EarlierFails, KeepsApart, left, right, both, later, earlier}
use Rattle.fam_fooling_sets.specs.Laws.{InequalitiesTell}
use Rattle.fam_fooling_sets.proofs.Telling.{satisfying, own_combination, own-answer, mixed, mix-part}
use Rattle.fam_fooling_sets.proofs.Counting.{adds-nothing, told-later, told-earlier}

module _ (q : QueryValue) (s : List Sign) (place n : ℕ) (at : ℕ → Assignment) where
  -- what one assignment has at the place, and another elsewhere
  abbrev pub between : ℕ → ℕ → Assignment
  between j i b = cond (nat_eq b.stream place) (at j b) (at i b)

  at-place : (j i : ℕ) (b : Attr) → b.stream ≡ place → between j i b ≡ at j b
  at-place j i b e = let f : nat_eq b.stream place ≡ true = grind (arith, e, nat_tests) in ap (λ t. cond t (at j b) (at i b)) f

  elsewhere : (j i : ℕ) (b : Attr) → b.stream ≢ place → between j i b ≡ at i b
  elsewhere j i b e = let f : nat_eq b.stream place ≡ false = grind (arith, e, nat_tests) in ap (λ t. cond t (at j b) (at i b)) f

  against : (j i : ℕ) (x y u v : ℤ) → x <ℤ y → x ≡ u → y ≡ v → v ≤ℤ u → ⊥
  against j i x y u v l e f m = omega (arith, ints, l, e, f, m)

  pub later-fails : LaterFails q s place n at → (i j : ℕ) → i < j → j < n → InPart q s (between j i) → ⊥
  later-fails (left x y o r) i j l m p = against j i _ _ _ _ (o.less.less (between j i) p) (at-place j i x o.here) (elsewhere j i y o.beside) (r.rises i j l m)
  later-fails (right x y o r) i j l m p = against j i _ _ _ _ (o.less.less (between j i) p) (elsewhere j i x o.beside) (at-place j i y o.here) (r.falls i j l m)

  pub earlier-fails : EarlierFails q s place n at → (i j : ℕ) → j < i → i < n → InPart q s (between j i) → ⊥
  earlier-fails (left x y o r) i j l m p = against j i _ _ _ _ (o.less.less (between j i) p) (at-place j i x o.here) (elsewhere j i y o.beside) (r.falls j i l m)
  earlier-fails (right x y o r) i j l m p = against j i _ _ _ _ (o.less.less (between j i) p) (elsewhere j i x o.beside) (at-place j i y o.here) (r.rises j i l m)

sooner : (x y : ℕ) → (x < y) ⊎ ((y < x) ⊎ (x ≡ y))
sooner x y = grind arith

pub inequalities-tell : InequalitiesTell
inequalities-tell q s a n f within several there local stream size many asks made apart = record {
  stream = stream;
  size = size;
  many = many;
  asks = asks;
  tells = by apart;
}
  where
    by : KeepsApart q s a.stream n made.at → Tells q C3 a n f
    by (both l e) = each (λ marks long i below. (
      λ mark. any several (projected q (assignment_of (own_combination q within several a there n f stream size asks (satisfying q s a n f made) marks i below))) (own-answer q within several a there n f stream size asks (satisfying q s a n f made) marks i below mark),
      λ shows. back marks i below shows,
    ))
      where
        back : (marks : List Bool) (i : ℕ) → i < n → Shows q a f marks i C3 → slice_index_or marks i false ≡ true
        back marks i below (any k t c) =
            let m = mixed q within several a there n f stream size asks (satisfying q s a n f made) marks i below t c in
            let p = mix-part q within several a there n f stream size asks (satisfying q s a n f made) marks i below s made.inside local m.j m.within_n m.v m.agrees m.satisfies in
            elim (sooner i m.j) [
              | inl o ↦ absurd (later-fails q s a.stream n made.at l i m.j o m.within_n p)
              | inr o ↦ elim o [
                | inl k ↦ absurd (earlier-fails q s a.stream n made.at e i m.j k below p)
                | inr k ↦ ap (λ (x : ℕ). slice_index_or marks x false) k ∙ m.mark
              ]
            ]
    by (later d l) = counts (λ o. absurd cc) d several (told-later q within several a there n f stream size asks (satisfying q s a n f made) (λ i j o m.
        adds-nothing q within several a there n f stream size asks (satisfying q s a n f made) i (before i j n o m) j m (λ h.
        later-fails q s a.stream n made.at l i j o m (mix-part q within several a there n f stream size asks (satisfying q s a n f made) [] i (before i j n o m) s made.inside local j m _ (λ b r. refl) h))))
      where
        before : (i j n : ℕ) → i < j → j < n → i < n
        before i j n l m = omega (arith, l, m)
    by (earlier d e) = counts (λ o. absurd cc) d several (told-earlier q within several a there n f stream size asks (satisfying q s a n f made) (λ i j o m.
        adds-nothing q within several a there n f stream size asks (satisfying q s a n f made) i m j (before i j n o m) (λ h.
        earlier-fails q s a.stream n made.at e i j o m (mix-part q within several a there n f stream size asks (satisfying q s a n f made) [] i m s made.inside local j (before i j n o m) _ (λ b r. refl) h))))
      where
        before : (i j n : ℕ) → j < i → i < n → j < n
        before i j n l m = omega (arith, l, m)
