-- Each assignment that counts is spelled by rows.
use Rattle.std.proofs.Common.{◌≡◌, ℕ, zero, suc, ◌+◌, ◌<◌, inl, inr, List, [], ◌∷◌, map, length, true, refl, sym, ap, ◌∙◌, subst, arith, ℤ, pos}
use Rattle.std.proofs.lemmas.List.Elements.{All-contains}
use Rattle.sem_query.proofs.Has.{Has, Contains-from_has, same_map}
use Rattle.sem_query.proofs.Elements.{HasElement, sides_in}
use Rattle.sem_query.proofs.Domains.{keeps_each, each_keeps}
use Rattle.sem_laws.proofs.Tests.{all_at, all_if}
use Rattle.sem_laws.proofs.LaidOut.{get-upto}
use Rattle.sem_query.specs.declared.atom.Attr.{Attr}
use Rattle.sem_query.specs.declared.atom.Atom.{Atom}
use Rattle.sem_query.specs.declared.atom.Domain.{Domain}
use Rattle.sem_query.specs.declared.atom.Element.{Element}
use Rattle.sem_query.specs.declared.atom.Element.TheVariants as element
use Rattle.sem_query.specs.Query.{QueryValue, attrs_of, consts_of, IsWithinLimits, IsColumn, IsDomain}
use Rattle.sem_query.specs.Assignment.{Assignment, value, compares, meets, lies_in, projected}
use Rattle.sem_query.specs.Meaning.{by_column, at_place, assignment_of}
use Rattle.sem_query.specs.Cells.{upto}
use Rattle.sem_sharding.specs.Shards.{Counts}
use Rattle.sem_sharding.specs.Keys.{Fits}

-- the first m columns of a place, and of each place from one on
row_of : Assignment → ℕ → ℕ → List ℤ
row_of v m n = upto (λ column. v (record { stream = n; column = column })) m

spelled : Assignment → ℕ → ℕ → List ℕ → List (List ℤ)
spelled v m n [] = []
spelled v m n (s ∷ from) = row_of v m n ∷ spelled v m (suc n) from

spelled-length : (v : Assignment) (m n : ℕ) (from : List ℕ) → length (spelled v m n from) ≡ length from
unfolding spelled
spelled-length v m n [] = refl
spelled-length v m n (s ∷ from) = omega (arith, spelled-length v m (suc n) from)

spelled-at : (v : Assignment) (m n : ℕ) (from : List ℕ) (i j : ℕ) → i < length from → j ≡ n + i
    → at_place (map by_column (spelled v m n from)) i ≡ by_column (row_of v m j)
unfolding spelled
spelled-at v m n [] i j l e = absurd (omega (arith, l))
spelled-at v m n (s ∷ from) zero j l e = let f : n ≡ j = omega (arith, e) in ap (λ k. by_column (row_of v m k)) f
spelled-at v m n (s ∷ from) (suc i) j l e = spelled-at v m (suc n) from i j (omega (arith, l)) (omega (arith, e))

module _ (q : QueryValue) (within : IsWithinLimits q) (more : ℕ) where
  -- rows of 8 columns and more
  pub rows_for : Assignment → List (List ℤ)
  rows_for v = spelled v (8 + more) 0 q.from

  pub same-value : (v : Assignment) (a : Attr) → a.stream < length q.from → a.column < 8 + more → assignment_of (rows_for v) a ≡ v a
  unfolding row_of rows_for
  same-value v a l c =
      ap (λ (w : ℕ → ℤ). w a.column) (spelled-at v (8 + more) 0 q.from a.stream a.stream l (omega arith))
      ∙ get-upto (λ column. v (record { stream = a.stream; column = column })) (8 + more) a.column (pos 0) c

  column-value : (v : Assignment) (a : Attr) → IsColumn (length q.from) a → assignment_of (rows_for v) a ≡ v a
  column-value v a i = same-value v a i.stream (omega (arith, i.column))

  element-value : (v : Assignment) (x : Element) → HasElement (attrs_of q.atoms) (consts_of q.atoms) x → value x (assignment_of (rows_for v)) ≡ value x v
  element-value v (element.Attr a) h = column-value v a (All-contains (IsColumn (length q.from)) (attrs_of q.atoms) a within.attrs (Contains-from_has _ a h))
  element-value v (element.Const k) h = refl

  meets-same : (v : Assignment) (t : Atom) → Has q.atoms t → meets (assignment_of (rows_for v)) t ≡ meets v t
  meets-same v t h =
      let s = sides_in q.atoms t h in
      ap (λ x. compares t.op x (value t.right (assignment_of (rows_for v)))) (element-value v t.left s.left)
      ∙ ap (compares t.op (value t.left v)) (element-value v t.right s.right)

  domain-column : (d : Domain) → Has q.domains d → IsColumn (length q.from) d.attr
  domain-column d h = elim (All-contains (IsDomain q) q.domains d within.domains (Contains-from_has q.domains d h)).column [
    | inl i ↦ All-contains (IsColumn (length q.from)) (attrs_of q.atoms) d.attr within.attrs i
    | inr i ↦ All-contains (IsColumn (length q.from)) q.select d.attr within.select i
  ]

  pub spelled-counts : (v : Assignment) → Fits q v → Counts q (rows_for v)
  unfolding rows_for
  spelled-counts v f = record {
    whole = spelled-length v (8 + more) 0 q.from;
    keeps = each_keeps q (assignment_of (rows_for v)) (λ d h. subst (λ x. lies_in d x ≡ true) (sym (column-value v d.attr (domain-column d h))) (keeps_each q v f.keeps d h));
    holds = all_if (meets (assignment_of (rows_for v))) q.atoms (λ t h. meets-same v t h ∙ all_at (meets v) q.atoms t f.holds h);
  }

  pub spelled-tuple : (v : Assignment) → projected q (assignment_of (rows_for v)) ≡ projected q v
  spelled-tuple v =
      same_map (assignment_of (rows_for v)) v q.select (λ a h. column-value v a (All-contains (IsColumn (length q.from)) q.select a within.select (Contains-from_has q.select a h)))
