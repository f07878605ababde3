-- Dims that no link with a known column touches.
use Rattle.std.proofs.Common.{◌≡◌, ℕ, Bool, true, false, not, ◌&&◌, ◌||◌, List, [], ◌∷◌, map, refl, ap, ◌∙◌, subst, ℤ, if◌then◌else◌}
use Rattle.std.specs.Prelude.{Some, None}
use Rattle.std.specs.List.{list_any, list_all}
use Rattle.sem_query.specs.declared.atom.Attr.{Attr}
use Rattle.sem_query.specs.declared.plan.Dim.{Dim}
use Rattle.sem_query.specs.declared.plan.Link.{Link}
use Rattle.sem_query.specs.declared.plan.PartPlan.{PartPlan}
use Rattle.sem_query.specs.Plan.{dims_at}
use Rattle.sem_query.specs.Probing.{is_known}
use Rattle.sem_query.specs.Query.{attr_eq}
use Rattle.exec_synopsis.specs.Pinning.{touches, is_free, IsWhole}
use Rattle.exec_synopsis.specs.Narrowing.{binding_column, below, above, clip, narrow, narrowed_by}

-- the first link touches nothing, and no later one does
neither : (s t u : Bool) → ((s || t) || u) ≡ false → (s ≡ false) × (t ≡ false) × (u ≡ false)
neither true t u h = absurd cc
neither false true u h = absurd cc
neither false false u h = (refl, refl, h)

otherwise : {X : Type 0} (s t : Bool) (x y z : X) → s ≡ false → t ≡ false → (if s then x else (if t then y else z)) ≡ z
otherwise true t x y z e f = absurd cc
otherwise false true x y z e f = absurd cc
otherwise false false x y z e f = refl

module _ (arriving place : ℕ) where
  binding_column-none : (a : Attr) (ls : List Link) → list_any (touches arriving place a) ls ≡ false → binding_column arriving place a ls ≡ None
  binding_column-none a [] h = refl
  binding_column-none a (l ∷ ls) h =
      let n = neither (attr_eq l.left a && is_known arriving place l.right) (attr_eq l.right a && is_known arriving place l.left) (list_any (touches arriving place a) ls) h in
      otherwise (attr_eq l.left a && is_known arriving place l.right) (attr_eq l.right a && is_known arriving place l.left) (Some l.right) (Some l.left) (binding_column arriving place a ls) n.0 n.1
      ∙ binding_column-none a ls n.2

  clip-none : (values : Attr → ℤ) (d : Dim) (ls : List Link) → list_any (touches arriving place d.attr) ls ≡ false → clip arriving place ls values d ≡ d
  clip-none values d [] h = refl
  clip-none values d (l ∷ ls) h =
      let n = neither (attr_eq l.left d.attr && is_known arriving place l.right) (attr_eq l.right d.attr && is_known arriving place l.left) (list_any (touches arriving place d.attr) ls) h in
      ap (clip arriving place ls values) (otherwise (attr_eq l.left d.attr && is_known arriving place l.right) (attr_eq l.right d.attr && is_known arriving place l.left) (below d (values l.right)) (above d (values l.left)) d n.0 n.1)
      ∙ clip-none values d ls n.2

  free-narrow : (part : PartPlan) (values : Attr → ℤ) (d : Dim) → is_free part arriving place d ≡ true → narrow arriving place part.equal.items part.less.items values d ≡ d
  unfolding narrow
  free-narrow part values d h =
      let n = both (list_any (touches arriving place d.attr) part.equal.items) (list_any (touches arriving place d.attr) part.less.items) h in
      ap (narrowed_by d (clip arriving place part.less.items values d) values) (binding_column-none d.attr part.equal.items n.0) ∙ clip-none values d part.less.items n.1
    where
      both : (s t : Bool) → (not s && not t) ≡ true → (s ≡ false) × (t ≡ false)
      both true t h = absurd cc
      both false true h = absurd cc
      both false false h = (refl, refl)

  all-free : (part : PartPlan) (values : Attr → ℤ) (ds : List Dim) → list_all (is_free part arriving place) ds ≡ true → map (narrow arriving place part.equal.items part.less.items values) ds ≡ ds
  all-free part values [] h = refl
  all-free part values (d ∷ ds) h =
      let n = both (is_free part arriving place d) (list_all (is_free part arriving place) ds) h in
      (λ k. free-narrow part values d n.0 k ∷ all-free part values ds n.1 k)
    where
      both : (s t : Bool) → (s && t) ≡ true → (s ≡ true) × (t ≡ true)
      both true t h = (refl, h)
      both false t h = absurd cc

pub free-whole : (part : PartPlan) (arriving place : ℕ) (ds : List Dim) → ds ≡ dims_at part place → list_all (is_free part arriving place) ds ≡ true → IsWhole part arriving place
free-whole part arriving place ds e h values = all-free arriving place part values (dims_at part place) (subst (λ xs. list_all (is_free part arriving place) xs ≡ true) e h)
