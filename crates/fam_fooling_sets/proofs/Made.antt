-- What is made from solutions of the bounds of a part is a family.
use Rattle.std.proofs.Common.{◌≡◌, ◌≢◌, ℕ, zero, suc, ◌<◌, ◌≤◌, ◌==◌, ◌⊎◌, inl, inr, nat_eq, List, [], ◌∷◌, ◌++◌, map, length, cond, Bool, true, false, refl, sym, ap, ap₂, ◌∙◌, subst, arith, ℤ, pos, slice_index_or, All, FitsSigned, w64, Contains}
use Rattle.std.proofs.lemmas.Bool.Decides.{nat_tests}
use Rattle.std.proofs.lemmas.List.Elements.{All-contains}
use Rattle.sem_query.specs.declared.atom.Attr.{Attr}
use Rattle.sem_query.specs.declared.atom.Domain.{Domain}
use Rattle.sem_query.specs.declared.atom.Element.{Element}
use Rattle.sem_query.specs.declared.atom.Element.TheVariants as element
use Rattle.sem_query.specs.declared.part.Pair.{Pair}
use Rattle.sem_query.specs.declared.part.Sign.{Sign}
use Rattle.sem_query.specs.Query.{QueryValue, attrs_of, consts_of, attr_eq, IsDomain, IsWithinLimits}
use Rattle.sem_query.specs.Assignment.{Assignment, value, lies_in, Holds, KeepsDomains}
use Rattle.sem_query.specs.Meaning.{Arrival, rows, by_column, joined}
use Rattle.sem_query.specs.Parts.{pairs, sign, sign_at, InPart}
use Rattle.sem_query.specs.Order.{IsBounded}
use Rattle.sem_query.specs.Cells.{upto}
use Rattle.sem_query.proofs.Has.{Has, Has-from_contains, Contains-from_has, Has-append_cases, same_map}
use Rattle.sem_query.proofs.Domains.{keeps_each, each_keeps, lies_low, lies_high}
use Rattle.sem_query.proofs.Elements.{HasElement}
use Rattle.sem_query.proofs.Local.{PairIn, pair_named}
use Rattle.sem_laws.proofs.Queries.{IsQuery, query_within}
use Rattle.sem_laws.proofs.OnePartFits.{has_cases}
use Rattle.sem_laws.proofs.Tests.{attr_eq-itself, attr_eq-is, true_or_false, not_both, nat_true}
use Rattle.sem_laws.proofs.LaidOut.{length-upto, get-upto}
use Rattle.plan_constraints.specs.Nodes.{has_node, place_of, assignment_of, low_of}
use Rattle.plan_constraints.proofs.NodeFacts.{node_there, node_has}
use Rattle.plan_closure.specs.Answers.{at_nodes}
use Rattle.fam_fooling_sets.specs.declared.ground.Ground.{Ground}
use Rattle.fam_fooling_sets.specs.Family.{FamilyValue, row_at, asking_at, Asks, itself, others}
use Rattle.fam_fooling_sets.specs.Making.{IsRowOf, AreRowsOf, HasSolutions, IsMade}
use Rattle.fam_fooling_sets.specs.Blanks.{IsRead, AreBlanks, IsLike}
use Rattle.fam_fooling_sets.specs.Shown.{rows_in}
use Rattle.fam_fooling_sets.specs.Lowered.{IsLikeBlank, AreLike}
use Rattle.fam_fooling_sets.specs.Members.{cell_for, blank_at, others_for, asked_for, row_for, IsFarWithin, IsGroundOf}
use Rattle.fam_fooling_sets.proofs.Cells.{cell-fits}
use Rattle.fam_fooling_sets.proofs.Telling.{at-row, holds-same, rows-joined}

-- assignments that agree on the attributes are of one part
pub part-same : (q : QueryValue) (s : List Sign) (v w : Assignment) → ((a : Attr) → Has (attrs_of q.atoms) a → v a ≡ w a) → InPart q s v → KeepsDomains q w → InPart q s w
part-same q s v w g i k = record {
  holds = holds-same q v w g i.holds;
  domains = k;
  signs = same_map (sign_at w) (sign_at v) (pairs q) (λ p h. one p (pair_named q p h)) ∙ i.signs;
}
  where
    at : (x : Element) → HasElement (attrs_of q.atoms) (consts_of q.atoms) x → value x v ≡ value x w
    at (element.Attr a) h = g a h
    at (element.Const k) h = refl

    one : (p : Pair) → PairIn (attrs_of q.atoms) (consts_of q.atoms) p → sign_at w p ≡ sign_at v p
    one p h = ap₂ sign (sym (g p.left h.left)) (sym (at p.right h.right))

-- a column with a domain is bounded
domain-bounds : (q : QueryValue) (s : List Sign) (d : Domain) → Has q.domains d → IsBounded q s d.attr
domain-bounds q s d h = record {
  low = d.lo;
  high = d.hi;
  above = λ v i. lies_low d (v d.attr) (keeps_each q v i.domains d h);
  below = λ v i. lies_high d (v d.attr) (keeps_each q v i.domains d h);
}

-- ---- the rows of all places but one

module _ (row : ℕ → List ℤ) (from : List ℕ) (own : ℕ) where
  abbrev single : ℕ → List Arrival
  single place = record { stream = slice_index_or from place 0; values = row place } ∷ []

  part-of : ℕ → List Arrival
  part-of place = cond (nat_eq place own) [] (single place)

  alone-lacks : (place stream : ℕ) → (slice_index_or from place 0 == stream) ≡ false → rows (single place) stream ≡ []
  alone-lacks place stream e = ap (λ b. map (λ (r : Arrival). r.values) (cond b (single place) [])) e

  alone-has : (place stream : ℕ) → (slice_index_or from place 0 == stream) ≡ true → rows (single place) stream ≡ row place ∷ []
  alone-has place stream e = ap (λ b. map (λ (r : Arrival). r.values) (cond b (single place) [])) e

  -- where no other place has the stream, it has no row
  last-lacks : (place stream : ℕ) → (place ≢ own → (slice_index_or from place 0 == stream) ≡ false) → rows (cond (nat_eq place own) [] (single place)) stream ≡ []
  last-lacks place stream f = by (nat_eq place own) refl
    where
      by : (t : Bool) → nat_eq place own ≡ t → rows (cond t [] (single place)) stream ≡ []
      by true e = refl
      by false e = alone-lacks place stream (f (λ o. let z : ⊥ = grind (arith, e, o) in z))

  lacks : (m stream : ℕ) → ((i : ℕ) → i < m → i ≢ own → (slice_index_or from i 0 == stream) ≡ false) → rows (others_for row from own m) stream ≡ []
  lacks zero stream f = refl
  lacks (suc m) stream f =
      rows-joined (others_for row from own m) (cond (nat_eq m own) [] (single m)) stream
      ∙ ap₂ (λ (x y : List (List ℤ)). x ++ y) (lacks m stream (λ i l. f i (omega (arith, l)))) (last-lacks m stream (f m (omega arith)))

  -- and the row of the place that has it
  has-one : (m place stream : ℕ) → place < m → place ≢ own → (slice_index_or from place 0 == stream) ≡ true
      → ((i : ℕ) → i < m → i ≢ place → (slice_index_or from i 0 == stream) ≡ false) → rows (others_for row from own m) stream ≡ row place ∷ []
  has-one zero place stream l n e f = absurd (omega (arith, l))
  has-one (suc m) place stream l n e f =
      rows-joined (others_for row from own m) (cond (nat_eq m own) [] (single m)) stream
      ∙ by (nat_eq place m) refl (λ k. has-one m place stream k n e (λ i j. f i (omega (arith, j))))
    where
      by : (t : Bool) → nat_eq place m ≡ t → (place < m → rows (others_for row from own m) stream ≡ row place ∷ [])
          → rows (others_for row from own m) stream ++ rows (cond (nat_eq m own) [] (single m)) stream ≡ row place ∷ []
      by true o g =
          let p : place ≡ m = nat_true place m o in
          let no_own : nat_eq m own ≡ false = (let z = n in grind (arith, z, p)) in
          ap₂ (λ (x y : List (List ℤ)). x ++ y)
          (lacks m stream (λ i j k. f i (omega (arith, j)) (λ w. let z : ⊥ = omega (arith, w, p, j) in z)))
          (ap (λ t. rows (cond t [] (single m)) stream) no_own ∙ alone-has m stream (ap (λ (k : ℕ). slice_index_or from k 0 == stream) (sym p) ∙ e) ∙ ap (λ (k : ℕ). row k ∷ []) (sym p))
      by false o g =
          let d : place ≢ m = (λ p. let z : ⊥ = grind (arith, o, p) in z) in
          ap₂ (λ (x y : List (List ℤ)). x ++ y) (g (grind (arith, l, d)))
          (last-lacks m stream (λ k. f m (omega arith) (λ w. d (sym w))))

  -- each of them is the row of a place
  others-from : (m : ℕ) (r : Arrival) → Has (others_for row from own m) r → (place : ℕ) × (place < m) × (record { stream = slice_index_or from place 0; values = row place } ≡ r)
  others-from zero r h = elim h [ ]
  others-from (suc m) r h = elim (Has-append_cases (others_for row from own m) (cond (nat_eq m own) [] (single m)) r h) [
    | inl k ↦ (let z = others-from m r k in (z.0, (let l = z.1 in omega (arith, l)), z.2))
    | inr k ↦ by (nat_eq m own) k
  ]
    where
      by : (t : Bool) → Has (cond t [] (single m)) r → (place : ℕ) × (place < suc m) × (record { stream = slice_index_or from place 0; values = row place } ≡ r)
      by true k = elim k [ ]
      by false k = elim (has_cases _ r [] k) [ inl e ↦ (m, omega arith, e) | inr z ↦ elim z [ ] ]

-- ---- rows that are made from solutions

-- for each number values of the attributes that satisfy the query and keep to its domains, and the value of the named column, from which its rows are drawn
pub record AreDrawn (q : QueryValue) (a : Attr) (g : Ground) (n : ℕ) (f : FamilyValue) (xs : ℕ → List ℤ) (val : ℕ → ℤ) : Type 0 where
  pub holds : (k : ℕ) → k < n → Holds q (assignment_of (attrs_of q.atoms) q.domains (at_nodes (xs k)))
  pub keeps : (k : ℕ) → k < n → (d : Domain) → Has q.domains d → Has (attrs_of q.atoms) d.attr → lies_in d (assignment_of (attrs_of q.atoms) q.domains (at_nodes (xs k)) d.attr) ≡ true
  pub value : (k : ℕ) → k < n → Contains (attrs_of q.atoms) a → at_nodes (xs k) (suc (place_of (attrs_of q.atoms) a)) ≡ val k
  pub value_fits : (k : ℕ) → k < n → FitsSigned w64 (val k)
  pub far : (k : ℕ) → k < n → All IsFarWithin (xs k)
  pub own : (k : ℕ) → k < n → row_at f k ≡ row_for g.attrs.now (xs k) g.named (val k) a.stream (blank_at g.blanks.now a.stream)
  pub asks : (k : ℕ) → k < n → asking_at f k ≡ asked_for (λ place. row_for g.attrs.now (xs k) g.named (val k) place (blank_at g.blanks.now place)) g.from.now a.stream

-- the columns and streams of the query, and the named column
pub record IsGroundFor (q : QueryValue) (a : Attr) (g : Ground) : Type 0 where
  pub attrs_are : g.attrs.now ≡ attrs_of q.atoms
  pub from_is : g.from.now ≡ q.from
  pub named_is : g.named ≡ a

module _ (q : QueryValue) (within : IsWithinLimits q) (a : Attr) (g : Ground) (n : ℕ) (f : FamilyValue)
    (ground : IsGroundFor q a g) (read : IsRead q a) (free : (d : Domain) → Has q.domains d → (Contains (attrs_of q.atoms) d.attr → ⊥) → d.attr ≡ a → ⊥) (there : a.stream < length q.from)
    (blanks : AreBlanks q (rows_in g.blanks.now)) (stream : f.stream ≡ slice_index_or q.from a.stream 0)
    (xs : ℕ → List ℤ) (val : ℕ → ℤ) (made : AreDrawn q a g n f xs val) where
  well : IsQuery q
  well = query_within q within

  abbrev row : ℕ → ℕ → List ℤ
  row k place = row_for g.attrs.now (xs k) g.named (val k) place (blank_at g.blanks.now place)

  abbrev pub at : ℕ → Assignment
  at k = joined (map by_column (upto (row k) (length q.from)))

  abbrev pub base : ℕ → Assignment
  base k = assignment_of (attrs_of q.atoms) q.domains (at_nodes (xs k))

  read-there : (b : Attr) → IsRead q b → b.stream < length q.from
  read-there b (inl c) = well.atoms b c
  read-there b (inr c) = well.select b c

  at-is : (k : ℕ) (b : Attr) → b.stream < length q.from → at k b ≡ by_column (row k b.stream) b.column
  at-is k b l =
      at-row (upto (row k) (length q.from)) b.stream b.column (let e = length-upto (row k) (length q.from) in omega (arith, e, l))
      ∙ ap (λ (r : List ℤ). by_column r b.column) (get-upto (row k) (length q.from) b.stream [] l)

  cell-is : (k : ℕ) (b : Attr) → b.column < length (blank_at g.blanks.now b.stream)
      → by_column (row k b.stream) b.column ≡ cell_for g.attrs.now (xs k) g.named (val k) b (by_column (blank_at g.blanks.now b.stream) b.column)
  cell-is k b l =
      get-upto (λ column. cell_for g.attrs.now (xs k) g.named (val k) (record { stream = b.stream; column = column }) (by_column (blank_at g.blanks.now b.stream) column)) (length (blank_at g.blanks.now b.stream)) b.column (pos 0) l

  at-cell : (k : ℕ) (b : Attr) → IsRead q b → at k b ≡ cell_for g.attrs.now (xs k) g.named (val k) b (by_column (blank_at g.blanks.now b.stream) b.column)
  at-cell k b r = at-is k b (read-there b r) ∙ cell-is k b (blanks.wide b r)

  base-at : (k : ℕ) (b : Attr) → Has (attrs_of q.atoms) b → base k b ≡ at_nodes (xs k) (suc (place_of (attrs_of q.atoms) b))
  base-at k b h = ap (λ t. cond t (at_nodes (xs k) (suc (place_of (attrs_of q.atoms) b))) (low_of q.domains b)) (node_there (attrs_of q.atoms) b h)

  -- at an attribute the rows have the values of the solution
  pub agree : (k : ℕ) → k < n → (b : Attr) → Has (attrs_of q.atoms) b → at k b ≡ base k b
  agree k l b h = at-cell k b (inl (Contains-from_has (attrs_of q.atoms) b h)) ∙ by (attr_eq b g.named) refl
    where
      blank : ℤ
      blank = by_column (blank_at g.blanks.now b.stream) b.column

      by : (t : Bool) → attr_eq b g.named ≡ t → cond t (val k) (cond (has_node g.attrs.now b) (at_nodes (xs k) (suc (place_of g.attrs.now b))) (by_column (blank_at g.blanks.now b.stream) b.column)) ≡ base k b
      by true e =
          let o : b ≡ a = attr_eq-is b g.named e ∙ ground.named_is in
          sym (made.value k l (subst (λ (z : Attr). Contains (attrs_of q.atoms) z) o (Contains-from_has (attrs_of q.atoms) b h)))
          ∙ ap (at_nodes (xs k)) (ap (λ (z : Attr). suc (place_of (attrs_of q.atoms) z)) (sym o)) ∙ sym (base-at k b h)
      by false e =
          ap (λ (ks : List Attr). cond (has_node ks b) (at_nodes (xs k) (suc (place_of ks b))) (by_column (blank_at g.blanks.now b.stream) b.column)) ground.attrs_are
          ∙ ap (λ t. cond t (at_nodes (xs k) (suc (place_of (attrs_of q.atoms) b))) (by_column (blank_at g.blanks.now b.stream) b.column)) (node_there (attrs_of q.atoms) b h) ∙ sym (base-at k b h)

  -- a column that is neither the named one nor an attribute has the blank row's value
  stays : (k : ℕ) (b : Attr) → (b ≡ a → ⊥) → (Contains (attrs_of q.atoms) b → ⊥) → cell_for g.attrs.now (xs k) g.named (val k) b (by_column (blank_at g.blanks.now b.stream) b.column) ≡ by_column (blank_at g.blanks.now b.stream) b.column
  stays k b na nc = by (attr_eq b g.named) refl
    where
      inner : (t : Bool) → has_node g.attrs.now b ≡ t → cond t (at_nodes (xs k) (suc (place_of g.attrs.now b))) (by_column (blank_at g.blanks.now b.stream) b.column) ≡ by_column (blank_at g.blanks.now b.stream) b.column
      inner true e = absurd (nc (subst (λ (ks : List Attr). Contains ks b) ground.attrs_are (Contains-from_has g.attrs.now b (node_has g.attrs.now b e))))
      inner false e = refl

      by : (t : Bool) → attr_eq b g.named ≡ t → cond t (val k) (cond (has_node g.attrs.now b) (at_nodes (xs k) (suc (place_of g.attrs.now b))) (by_column (blank_at g.blanks.now b.stream) b.column)) ≡ by_column (blank_at g.blanks.now b.stream) b.column
      by true e = absurd (na (attr_eq-is b g.named e ∙ ground.named_is))
      by false e = inner (has_node g.attrs.now b) refl

  keeps-one : (k : ℕ) → k < n → (d : Domain) → Has q.domains d → lies_in d (at k d.attr) ≡ true
  keeps-one k l d h = by (has_node (attrs_of q.atoms) d.attr) refl
    where
      by : (t : Bool) → has_node (attrs_of q.atoms) d.attr ≡ t → lies_in d (at k d.attr) ≡ true
      by true e =
          let m : Has (attrs_of q.atoms) d.attr = node_has (attrs_of q.atoms) d.attr e in
          subst (λ z. lies_in d z ≡ true) (sym (agree k l d.attr m)) (made.keeps k l d h m)
      by false e =
          let c : Contains q.domains d = Contains-from_has q.domains d h in
          let r : IsRead q d.attr = (All-contains (IsDomain q) q.domains d within.domains c).column in
          let nc : Contains (attrs_of q.atoms) d.attr → ⊥ = (λ i. not_both _ (node_there (attrs_of q.atoms) d.attr (Has-from_contains (attrs_of q.atoms) d.attr i)) e) in
          let na : d.attr ≡ a → ⊥ = free d h nc in
          subst (λ z. lies_in d z ≡ true) (sym (at-cell k d.attr r ∙ stays k d.attr na nc)) (blanks.keeps d c)

  pub keeps : (k : ℕ) → k < n → KeepsDomains q (at k)
  keeps k l = each_keeps q (at k) (keeps-one k l)

  pub value-is : (k : ℕ) → at k a ≡ val k
  value-is k =
      at-cell k a read
      ∙ ap (λ t. cond t (val k) (cond (has_node g.attrs.now a) (at_nodes (xs k) (suc (place_of g.attrs.now a))) (by_column (blank_at g.blanks.now a.stream) a.column)))
      (ap (λ (z : Attr). attr_eq a z) ground.named_is ∙ attr_eq-itself a)

  own-row : (k : ℕ) → k < n → row_at f k ≡ row k a.stream
  own-row k l = made.own k l

  here : (k : ℕ) → k < n → IsRowOf q (at k) a.stream (row_at f k)
  here k l b e r =
      ap (λ (z : List ℤ). by_column z b.column) (own-row k l) ∙ ap (λ (m : ℕ). by_column (row k m) b.column) (sym e) ∙ sym (at-is k b (read-there b r))

  asked : (k : ℕ) → k < n → asking_at f k ≡ asked_for (row k) q.from a.stream
  asked k l = made.asks k l ∙ ap (λ (from : List ℕ). asked_for (row k) from a.stream) ground.from_is

  differ : (i j : ℕ) → i < length q.from → j < length q.from → i ≢ j → (slice_index_or q.from i 0 == slice_index_or q.from j 0) ≡ false
  differ i j l m d = elim (true_or_false (slice_index_or q.from i 0 == slice_index_or q.from j 0)) [
    | inr e ↦ e
    | inl e ↦ absurd (
        let o : slice_index_or q.from i 0 ≡ slice_index_or q.from j 0 = nat_true (slice_index_or q.from i 0) (slice_index_or q.from j 0) e in
        elim (sooner i j) [
          | inl k ↦ within.different i j 0 k m o
          | inr k ↦ within.different j i 0 (later-one i j k d) l (sym o)
        ])
  ]
    where
      sooner : (x y : ℕ) → (x < y) ⊎ (y ≤ x)
      sooner x y = grind arith

      later-one : (x y : ℕ) → y ≤ x → x ≢ y → y < x
      later-one x y l n = grind (arith, l, n)

  itself-same : (x : ℕ) → (x == x) ≡ true
  itself-same x = grind (arith, nat_tests)

  several-asked : (k : ℕ) → k < n → nat_eq (length q.from) 1 ≡ false → asking_at f k ≡ others_for (row k) q.from a.stream (length q.from)
  several-asked k l e = asked k l ∙ ap (λ t. cond t (record { stream = slice_index_or q.from a.stream 0; values = row k a.stream } ∷ []) (others_for (row k) q.from a.stream (length q.from))) e

  beside : (k : ℕ) → k < n → (place : ℕ) → place < length q.from → place ≢ a.stream
      → (r : List ℤ) × (rows (asking_at f k) (slice_index_or q.from place 0) ≡ r ∷ []) × IsRowOf q (at k) place r
  beside k l place m d = (
    row k place,
    ap (λ h. rows h (slice_index_or q.from place 0)) (several-asked k l (let o = there in grind (arith, m, d, o)))
        ∙ has-one (row k) q.from a.stream (length q.from) place (slice_index_or q.from place 0) m d (itself-same (slice_index_or q.from place 0)) (λ i j e. differ i place j m e),
    λ b e r. ap (λ (m : ℕ). by_column (row k m) b.column) (sym e) ∙ sym (at-is k b (read-there b r)),
  )

  -- each number has the assignment of its rows
  pub drawn-rows : (k : ℕ) → k < n → AreRowsOf q f a.stream k (at k)
  drawn-rows k l = record { here = here k l; others = beside k l }

  pub drawn-solutions : HasSolutions q a.stream n f
  drawn-solutions = record { at = at; holds = λ k l. holds-same q (base k) (at k) (λ b h. sym (agree k l b h)) (made.holds k l); rows = drawn-rows }

  -- its value at the named column
  pub drawn-at : (k : ℕ) → drawn-solutions.at k a ≡ val k
  unfolding drawn-solutions
  drawn-at = value-is

  -- and at an attribute
  pub drawn-agree : (k : ℕ) → k < n → (b : Attr) → Has (attrs_of q.atoms) b → drawn-solutions.at k b ≡ base k b
  unfolding drawn-solutions
  drawn-agree = agree

  pub drawn-asks : (k : ℕ) → k < n → Asks q f k
  drawn-asks k l = by (nat_eq (length q.from) 1) refl
    where
      by : (t : Bool) → nat_eq (length q.from) 1 ≡ t → Asks q f k
      by true e = itself (nat_true (length q.from) 1 e)
          (asked k l ∙ ap (λ t. cond t (record { stream = slice_index_or q.from a.stream 0; values = row k a.stream } ∷ []) (others_for (row k) q.from a.stream (length q.from))) e
          ∙ ap₂ (λ (x : ℕ) (y : List ℤ). let r : Arrival = record { stream = x; values = y } in r ∷ []) (sym stream) (sym (own-row k l)))
      by false e = others (let p = there in grind (arith, e, p, nat_tests))
          (ap (λ h. rows h f.stream) (several-asked k l e)
          ∙ lacks (row k) q.from a.stream (length q.from) f.stream (λ i m d. ap (λ (z : ℕ). slice_index_or q.from i 0 == z) stream ∙ differ i a.stream m there d))

  -- the values of a row fit in 64 bits
  fits : (k : ℕ) → k < n → (place : ℕ) → place < length q.from → All (FitsSigned w64) (row k place)
  fits k l place m = λ c d j.
      let b : Attr = record { stream = place; column = c } in
      let w : c < length (blank_at g.blanks.now place) = (
      let e = length-upto (λ column. cell_for g.attrs.now (xs k) g.named (val k) (record { stream = place; column = column }) (by_column (blank_at g.blanks.now place) column)) (length (blank_at g.blanks.now place)) in
      omega (arith, e, j)) in
      subst (FitsSigned w64)
      (sym (get-upto (λ column. cell_for g.attrs.now (xs k) g.named (val k) (record { stream = place; column = column }) (by_column (blank_at g.blanks.now place) column)) (length (blank_at g.blanks.now place)) c d w))
      (cell-fits g.attrs.now (xs k) g.named (val k) b (by_column (blank_at g.blanks.now place) c)
      (made.value_fits k l)
      (made.far k l)
      (blanks.fits place m c (pos 0) w))

  like : (k : ℕ) → k < n → (place : ℕ) → place < length q.from → IsLike q (rows_in g.blanks.now) place (row k place)
  like k l place m = record {
    wide = length-upto _ (length (blank_at g.blanks.now place));
    keeps = λ d c e.
        let h : Has q.domains d = Has-from_contains q.domains d c in
        subst (λ z. lies_in d z ≡ true) (at-is k d.attr (well.domains d c) ∙ ap (λ (m : ℕ). by_column (row k m) d.attr.column) e) (keeps-one k l d h);
    fits = fits k l place m;
    blank = λ column j nr.
        let b : Attr = record { stream = place; column = column } in
        cell-is k b (let e = length-upto (λ column. cell_for g.attrs.now (xs k) g.named (val k) (record { stream = place; column = column }) (by_column (blank_at g.blanks.now place) column)) (length (blank_at g.blanks.now place)) in omega (arith, e, j))
        ∙ stays k b (λ o. nr (subst (IsRead q) (sym o) read)) (λ i. nr (inl i));
  }

  pub drawn-like : AreLike q (rows_in g.blanks.now) n f
  drawn-like = record {
    rows = λ k l. record { place = a.stream; there = there; stream = stream; like = subst (IsLike q (rows_in g.blanks.now) a.stream) (sym (own-row k l)) (like k l a.stream there) };
    asking = λ k l r c. by k l r (nat_eq (length q.from) 1) refl (Has-from_contains (asking_at f k) r c);
  }
    where
      row-like : (k : ℕ) → k < n → (r : Arrival) (place : ℕ) → place < length q.from → (record { stream = slice_index_or q.from place 0; values = row k place }) ≡ r → IsLikeBlank q (rows_in g.blanks.now) r
      row-like k l r place m e = subst (IsLikeBlank q (rows_in g.blanks.now)) e record { place = place; there = m; stream = refl; like = like k l place m }

      by : (k : ℕ) → k < n → (r : Arrival) (t : Bool) → nat_eq (length q.from) 1 ≡ t → Has (asking_at f k) r → IsLikeBlank q (rows_in g.blanks.now) r
      by k l r true e h =
          elim (has_cases _ r [] (subst (λ z. Has z r) (asked k l ∙ ap (λ t. cond t (record { stream = slice_index_or q.from a.stream 0; values = row k a.stream } ∷ []) (others_for (row k) q.from a.stream (length q.from))) e) h)) [
            | inl o ↦ row-like k l r a.stream there o
            | inr z ↦ elim z [ ]
          ]
      by k l r false e h =
          let z = others-from (row k) q.from a.stream (length q.from) r (subst (λ z. Has z r) (several-asked k l e) h) in
          row-like k l r z.0 z.1 z.2

-- ---- rows that are made from solutions of a part

-- for each number a solution, and the value of the named column, from which its rows are drawn
pub record IsDrawn (q : QueryValue) (s : List Sign) (a : Attr) (g : Ground) (n : ℕ) (f : FamilyValue) (xs : ℕ → List ℤ) (val : ℕ → ℤ) : Type 0 where
  pub solves : (k : ℕ) → k < n → InPart q s (assignment_of (attrs_of q.atoms) q.domains (at_nodes (xs k)))
  pub value : (k : ℕ) → k < n → Contains (attrs_of q.atoms) a → at_nodes (xs k) (suc (place_of (attrs_of q.atoms) a)) ≡ val k
  pub apart : (i j : ℕ) → i < n → j < n → val i ≡ val j → i ≡ j
  pub value_fits : (k : ℕ) → k < n → FitsSigned w64 (val k)
  pub far : (k : ℕ) → k < n → All IsFarWithin (xs k)
  pub own : (k : ℕ) → k < n → row_at f k ≡ row_for g.attrs.now (xs k) g.named (val k) a.stream (blank_at g.blanks.now a.stream)
  pub asks : (k : ℕ) → k < n → asking_at f k ≡ asked_for (λ place. row_for g.attrs.now (xs k) g.named (val k) place (blank_at g.blanks.now place)) g.from.now a.stream

module _ (q : QueryValue) (within : IsWithinLimits q) (s : List Sign) (a : Attr) (g : Ground) (n : ℕ) (f : FamilyValue)
    (ground : IsGroundOf q s a g) (read : IsRead q a) (free : IsBounded q s a → ⊥) (there : a.stream < length q.from)
    (blanks : AreBlanks q (rows_in g.blanks.now)) (stream : f.stream ≡ slice_index_or q.from a.stream 0)
    (xs : ℕ → List ℤ) (val : ℕ → ℤ) (made : IsDrawn q s a g n f xs val) where
  shaped : IsGroundFor q a g
  shaped = record { attrs_are = ground.attrs_are; from_is = ground.from_is; named_is = ground.named_is }

  drawn : AreDrawn q a g n f xs val
  drawn = record {
    holds = λ k l. (made.solves k l).holds;
    keeps = λ k l d h m. keeps_each q (assignment_of (attrs_of q.atoms) q.domains (at_nodes (xs k))) (made.solves k l).domains d h;
    value = made.value;
    value_fits = made.value_fits;
    far = made.far;
    own = made.own;
    asks = made.asks;
  }

  no-domain : (d : Domain) → Has q.domains d → (Contains (attrs_of q.atoms) d.attr → ⊥) → d.attr ≡ a → ⊥
  no-domain d h nc o = free (subst (IsBounded q s) o (domain-bounds q s d h))

  pub family-made : IsMade q s a n f
  family-made = record {
    at = at q within a g n f shaped read no-domain there blanks stream xs val drawn;
    inside = λ k l.
        part-same q s (base q within a g n f shaped read no-domain there blanks stream xs val drawn k) (at q within a g n f shaped read no-domain there blanks stream xs val drawn k)
        (λ b h. sym (agree q within a g n f shaped read no-domain there blanks stream xs val drawn k l b h)) (made.solves k l)
        (keeps q within a g n f shaped read no-domain there blanks stream xs val drawn k l);
    apart = λ i j l m e.
        made.apart i j l m (sym (value-is q within a g n f shaped read no-domain there blanks stream xs val drawn i) ∙ e ∙ value-is q within a g n f shaped read no-domain there blanks stream xs val drawn j);
    rows = drawn-rows q within a g n f shaped read no-domain there blanks stream xs val drawn;
  }

  -- at an attribute they have the values of the solutions
  pub family-at : (k : ℕ) → k < n → (b : Attr) → Has (attrs_of q.atoms) b → family-made.at k b ≡ assignment_of (attrs_of q.atoms) q.domains (at_nodes (xs k)) b
  unfolding family-made
  family-at = agree q within a g n f shaped read no-domain there blanks stream xs val drawn

  pub family-asks : (k : ℕ) → k < n → Asks q f k
  family-asks = drawn-asks q within a g n f shaped read no-domain there blanks stream xs val drawn

  pub family-like : AreLike q (rows_in g.blanks.now) n f
  family-like = drawn-like q within a g n f shaped read no-domain there blanks stream xs val drawn
