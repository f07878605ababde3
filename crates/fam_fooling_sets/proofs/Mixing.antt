-- Assignments that satisfy the query, and of which no mixtures do, make a family.
use Rattle.std.proofs.Common.{◌≡◌, ℕ, suc, ◌<◌, ◌⊎◌, inl, inr, nat_eq, not, ◌&&◌, Bool, true, false, refl, ap, ◌∙◌, arith, List, ◌++◌, length, ℤ, slice_index_or, Contains}
use Rattle.std.proofs.lemmas.Bool.Decides.{nat_tests}
use Rattle.sem_query.specs.declared.atom.Attr.{Attr}
use Rattle.sem_query.specs.declared.condition.Condition.{Condition}
use Rattle.sem_query.specs.declared.condition.Condition.TheVariants.{C1, C2, C3}
use Rattle.sem_query.specs.Query.{QueryValue, attrs_of, IsWithinLimits}
use Rattle.sem_query.specs.Assignment.{projected, Holds}
use Rattle.sem_query.specs.Meaning.{assignment_of, answers}
use Rattle.sem_query.proofs.Has.{Contains-from_has}
use Rattle.fam_fooling_sets.specs.Family.{FamilyValue, history_of, asking_at, Shows, some, any, Tells, each, counts, Asks}
use Rattle.fam_motions.specs.Apart.{mixture, LaterMixesFail, EarlierMixesFail, StayApart, both, later, earlier, next}
use Rattle.fam_fooling_sets.specs.Making.{HasSolutions}
use Rattle.fam_fooling_sets.specs.Laws.{DifferentValuesTell, ApartTell}
use Rattle.fam_fooling_sets.proofs.Telling.{own_combination, own-answer, mixed, holds-same, tells-value}
use Rattle.fam_fooling_sets.proofs.TellingAlone.{tells-alone}
use Rattle.fam_fooling_sets.proofs.Counting.{adds-nothing, adds-one, told-later, told-earlier, told-as-next}

sooner : (x y : ℕ) → (x < y) ⊎ ((y < x) ⊎ (x ≡ y))
sooner x y = grind arith

before : (i j n : ℕ) → i < j → j < n → i < n
before i j n l m = omega (arith, l, m)

shorter : (i n : ℕ) → suc i < n → i < n
shorter i n l = omega (arith, l)

pub different-values-tell : DifferentValuesTell
different-values-tell q a n f within counted there chosen stream size many asks made differ = record {
  stream = stream;
  size = size;
  many = many;
  asks = asks;
  tells = by (nat_eq (length q.from) 1) refl;
}
  where
    distinct : (d t : Bool) → (not d && t) ≡ false → t ≡ true → d ≡ true
    distinct true t e o = refl
    distinct false true e o = absurd cc
    distinct false false e o = absurd cc

    by : (t : Bool) → nat_eq (length q.from) 1 ≡ t → Tells q C1 a n f
    by true e =
        let one : length q.from ≡ 1 = grind (arith, e, nat_tests) in
        each (λ marks long i below. tells-alone q within one f a there stream (distinct q.distinct (nat_eq (length q.from) 1) counted e) n size chosen made differ marks i below)
    by false e =
        let several : 1 < length q.from = (let p = within.streams.0 in grind (arith, p, e, nat_tests)) in
        each (λ marks long i below. tells-value q within several a there n f stream size asks made marks i below chosen differ)

module _ (q : QueryValue) (within : IsWithinLimits q) (several : 1 < length q.from) (a : Attr) (there : a.stream < length q.from) (n : ℕ) (f : FamilyValue)
    (stream : f.stream ≡ slice_index_or q.from a.stream 0) (size : length f.rows ≡ n) (asks : (i : ℕ) → i < n → Asks q f i) (made : HasSolutions q a.stream n f) where
  -- an answer to what asks for a number is of that number where no mixtures satisfy the query
  of-itself : LaterMixesFail q a.stream n made.at → EarlierMixesFail q a.stream n made.at → (marks : List Bool) (i : ℕ) → i < n → (t : List ℤ)
      → Contains (answers q (history_of f marks ++ asking_at f i)) t → slice_index_or marks i false ≡ true
  of-itself l e marks i below t c =
      let m = mixed q within several a there n f stream size asks made marks i below t c in
      let h : Holds q (mixture a.stream (made.at m.j) (made.at i))
      = holds-same q m.v (mixture a.stream (made.at m.j) (made.at i)) (λ b k. m.agrees b (inl (Contains-from_has (attrs_of q.atoms) b k))) m.satisfies in
      elim (sooner i m.j) [
        | inl o ↦ absurd (l i m.j o m.within_n h)
        | inr o ↦ elim o [
          | inl k ↦ absurd (e m.j i k below h)
          | inr k ↦ ap (λ (x : ℕ). slice_index_or marks x false) k ∙ m.mark
        ]
      ]

  tells-third : LaterMixesFail q a.stream n made.at → EarlierMixesFail q a.stream n made.at → Tells q C3 a n f
  tells-third l e = each (λ marks long i below. (
    λ mark. any several (projected q (assignment_of (own_combination q within several a there n f stream size asks made marks i below))) (own-answer q within several a there n f stream size asks made marks i below mark),
    λ shows. back marks i below shows,
  ))
    where
      back : (marks : List Bool) (i : ℕ) → i < n → Shows q a f marks i C3 → slice_index_or marks i false ≡ true
      back marks i below (any k t c) = of-itself l e marks i below t c

  tells-second : LaterMixesFail q a.stream n made.at → EarlierMixesFail q a.stream n made.at → Tells q C2 a n f
  tells-second l e = each (λ marks long i below. (
    λ mark. some several (projected q (assignment_of (own_combination q within several a there n f stream size asks made marks i below))) (own-answer q within several a there n f stream size asks made marks i below mark),
    λ shows. back marks i below shows,
  ))
    where
      back : (marks : List Bool) (i : ℕ) → i < n → Shows q a f marks i C2 → slice_index_or marks i false ≡ true
      back marks i below (some k t c) = of-itself l e marks i below t c

  tells-both : (c : Condition) → (c ≡ C1 → ⊥) → LaterMixesFail q a.stream n made.at → EarlierMixesFail q a.stream n made.at → Tells q c a n f
  tells-both C1 o l e = absurd (o refl)
  tells-both C2 o l e = tells-second l e
  tells-both C3 o l e = tells-third l e

  tells : (c : Condition) → (c ≡ C1 → ⊥) → StayApart q a.stream n made.at → Tells q c a n f
  tells c o (both l e) = tells-both c o l e
  tells c o (later d l) = counts o d several (told-later q within several a there n f stream size asks made (λ i j k m.
      adds-nothing q within several a there n f stream size asks made i (before i j n k m) j m (l i j k m)))
  tells c o (earlier d e) = counts o d several (told-earlier q within several a there n f stream size asks made (λ i j k m.
      adds-nothing q within several a there n f stream size asks made i m j (before j i n k m) (e j i k m)))
  tells c o (next d h) = counts o d several (told-as-next q within several a there n f stream size asks made
      (λ i m. adds-nothing q within several a there n f stream size asks made i (shorter i n m) (suc i) m ((h i (suc i) (shorter i n m) m).fails refl))
      (λ i j l m k. adds-one q within several a there n f stream size asks made i l j m ((h i j l m).holds k)))

pub apart-tell : ApartTell
apart-tell q condition a n f not_first within several there stream size many asks made apart = record {
  stream = stream;
  size = size;
  many = many;
  asks = asks;
  tells = tells q within several a there n f stream size asks made condition not_first apart;
}
