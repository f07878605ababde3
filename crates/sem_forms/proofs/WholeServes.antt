-- The plan of the one part of the whole form serves.
use Rattle.std.proofs.Common.{◌≡◌, ℕ, zero, suc, ◌*◌, ◌<◌, ◌≤◌, ◌⊎◌, inl, inr, ◌↔◌, IsTrue, ℤ, pos, int_lt, List, [], ◌∷◌, map, filter, length, Contains, All, AllPairs, Bool, true, false, not, ◌&&◌, ◌||◌, nat_eq, nat_lt, Some, refl, sym, ◌∙◌, ap, ap₂, subst, arith}
use Rattle.std.proofs.lemmas.Bool.Decides.{nat_tests}
use Rattle.std.proofs.lemmas.Int.{ints}
use Rattle.std.proofs.lemmas.List.{get_or_past}
use Rattle.std.proofs.lemmas.List.Elements.{All-contains}
use Rattle.std.specs.List.{flat_map, list_all, list_any}
use Rattle.std.specs.Ordering.{int_eq}
use Rattle.sem_query.specs.declared.atom.Attr.{Attr}
use Rattle.sem_query.specs.declared.atom.Atom.{Atom}
use Rattle.sem_query.specs.declared.atom.Element.{Element}
use Rattle.sem_query.specs.declared.atom.Element.TheVariants as element
use Rattle.sem_query.specs.declared.atom.Op.{Op}
use Rattle.sem_query.specs.declared.plan.Dim.{Dim}
use Rattle.sem_query.specs.declared.plan.Kind.{Kind}
use Rattle.sem_query.specs.declared.plan.Link.{Link}
use Rattle.sem_query.specs.declared.plan.LocalCondition.{LocalCondition}
use Rattle.sem_query.specs.declared.plan.SoftLink.{SoftLink}
use Rattle.sem_query.specs.declared.plan.PartPlan.{PartPlan}
use Rattle.sem_query.specs.declared.plan.StreamPlan.{StreamPlan}
use Rattle.sem_query.specs.Admission.{alone, keeps_local, in_range, keeps_signs, admits}
use Rattle.sem_query.specs.Assignment.{Assignment, compares, value, AtomHolds, Holds, KeepsDomains}
use Rattle.sem_query.specs.Boxes.{dim_size, box_size, AreFull}
use Rattle.sem_query.specs.Ranges.{different, range_of, selected_ranges}
use Rattle.sem_query.specs.Plan.{stream_at, dims_at, link}
use Rattle.sem_query.specs.Combinations.{compares_both, any_ties, is_equality, binds, is_tied, linked}
use Rattle.sem_query.specs.Meaning.{at_place, joined}
use Rattle.sem_query.specs.Parts.{pairs}
use Rattle.sem_query.specs.Query.{QueryValue, attr_eq, attr_lt, IsColumn}
use Rattle.sem_query.specs.Serving.{AreTied, IsKept, IsLeastKept, IsGreatestKept, CanBeAsked, KeepsStreams, Serves, Takes}
use Rattle.sem_query.proofs.Has.{Has, first, later, Has-nil, Has-from_contains, Contains-from_has, Has-append_left, Has-flat_map, Has-map, Has-map_from, Has-filter, Has-filter_from, Has-filter_holds}
use Rattle.sem_query.proofs.Holding.{Compares, Compares-from_test, compares-true}
use Rattle.sem_query.proofs.Unique.{ascends_from}
use Rattle.sem_query.specs.Members.{Ascends, more}
use Rattle.sem_laws.proofs.Tests.{true_or_false, not_both, false_if, and-left, and-right, and-both, or-cases, or-left, or-right, all_at, all_if, any_from, any_if, attr_eq-is, attr_eq-itself}
use Rattle.sem_laws.proofs.OnePartFits.{has_cases}
use Rattle.plan_constraints.proofs.Joined.{All-from_has}
use Rattle.sem_whole.specs.System.{atom_bounds, domain_bounds, system, Solves, Bound, MeetsLocal, AreOneClass}
use Rattle.sem_whole.specs.Links.{are_across, turned_by, op_index, across, between_streams}
use Rattle.sem_whole.specs.Ranges.{range, IsIn}
use Rattle.sem_whole.specs.Kept as Kept
use Rattle.sem_whole.specs.Kept.{IsRange}
use Rattle.sem_whole.specs.Whole as Whole
use Rattle.sem_whole.specs.Whole.{KeptDim, StreamKeep, IsRead, IsServed, IsLeftAlone, IsRightAlone, RowMeets}
use Rattle.sem_whole.specs.Plan.{NamesClass, IsPlannedStream, IsPlannedKind}
use Rattle.sem_whole.specs.Laws.{MeetsWhole}
use Rattle.sem_whole.proofs.Boxed.{range_over}
use Rattle.sem_whole.proofs.Cases.{range_one}
use Rattle.sem_whole.proofs.Cells.{local_alike}
use Rattle.sem_whole.proofs.CutLaw.{in_range as in_own, own_ordered, class_itself}
use Rattle.sem_whole.proofs.Stands.{AreColumnsOf, class_equal, link_columns}
use Rattle.sem_whole.specs.Signed.{IsWellFormed}
use Rattle.sem_whole.proofs.Formed.{query_formed}
use Rattle.sem_whole.proofs.Suffice.{atom_if, met_holds, turns, once_from, thins_among, solves_query, links_suffice}
use Rattle.sem_whole.proofs.Unbroken.{class_turned}
use Rattle.plan_whole.specs.Classes.{IsNameOf}
use Rattle.plan_whole.proofs.Choosing.{read_column}
use Rattle.plan_whole.specs.Closed.{ends_of}
use Rattle.plan_whole.specs.Columns.{atom_of}
use Rattle.plan_whole.specs.declared.links.ColumnLink.{ColumnLink}
use Rattle.plan_whole_form.specs.Conditions as Conditions
use Rattle.plan_whole_form.specs.Conditions.{condition, IsColumnAt, IsAsked}
use Rattle.plan_whole_form.specs.Part.{end_or_zero, IsRangeOf, AreRangesOf}
use Rattle.plan_whole_form.proofs.Conditioned.{name_one}
use Rattle.sem_forms.proofs.FormLinks.{no_signs, no_ties, both_if, differ, not_above, pairs_cons, first_is, from_different, Reads, lt, le, eq, ne, link_reads, OwnDim, own_from, turned_unlike, unequal, across_apart, link_across, no_stream}
pub use Rattle.sem_forms.proofs.FormLinks.{OwnOf, own_to}
use Rattle.sem_forms.specs.Answers.{hull}
use Rattle.sem_forms.specs.Part.{read_as, soft_as, has_op, is_soft, AreOwnDims, AreEqualDims, IsWholePartPlan}
use Rattle.sem_forms.specs.Laws.{WholePartsServe, WholeAnswersAreCounted}

module _ (q : QueryValue) (w : IsWellFormed q) (part : PartPlan) (is : IsWholePartPlan q part) where
  abbrev links : List Atom
  links = is.links

  abbrev keep : ℕ → StreamKeep
  keep = is.keeps

  stream : (place : ℕ) → place < length q.from → IsPlannedStream q links place (keep place)
  stream place l = is.plan.streams place l

  -- a dim of the plan, as one of the form, and back
  own_dim : (place : ℕ) → place < length q.from → (d : Dim) → Has (dims_at part place) d → OwnDim q (keep place).dims d
  own_dim place l d h = own_from q (keep place).dims (dims_at part place) (is.streams place l).dims d h

  here : (place : ℕ) → place < length q.from → (d : Dim) → Has (dims_at part place) d → d.attr.stream ≡ place
  here place l d h = (let o = own_dim place l d h in ap (λ a. a.stream) o.attr ∙ ((stream place l).dims o.dim o.among).here)

  -- ---- admission

  in_all : (place : ℕ) (l : place < length q.from) (v : ℕ → ℤ) → MeetsLocal q place (alone v) → list_all (in_range v) (dims_at part place) ≡ true
  in_all place l v m = all_if (in_range v) (dims_at part place) (λ d h. by d h)
    where
      by : (d : Dim) → Has (dims_at part place) d → in_range v d ≡ true
      by d h =
          let i : IsIn (range (Some d.lo) (Some d.hi)) (v d.attr.column)
          = in_own q d.attr (range (Some d.lo) (Some d.hi)) (alone v) (own_dim place l d h).own (subst (λ n. MeetsLocal q n (alone v)) (sym (here place l d h)) m) in
          and-both (not (int_lt (v d.attr.column) d.lo)) (not (int_lt d.hi (v d.attr.column))) (compares-true Op.Ge (v d.attr.column) d.lo i.0) (compares-true Op.Le (v d.attr.column) d.hi i.1)

  admitted : (place : ℕ) → place < length q.from → (v : ℕ → ℤ) → IsTrue (admits q part place v) ↔ RowMeets q place v
  admitted place l v = (
    λ h. (is.plan.admits place l v).0
        (and-right (keeps_signs place (alone v) (pairs q) part.signs.items) (keeps_local place (alone v) part.local) (and-left (keeps_signs place (alone v) (pairs q) part.signs.items && keeps_local place (alone v) part.local) (list_all (in_range v) (dims_at part place)) h)),
    λ m. and-both (keeps_signs place (alone v) (pairs q) part.signs.items && keeps_local place (alone v) part.local) (list_all (in_range v) (dims_at part place))
        (and-both (keeps_signs place (alone v) (pairs q) part.signs.items) (keeps_local place (alone v) part.local)
        (subst (λ ss. keeps_signs place (alone v) (pairs q) ss ≡ true) (sym is.signs) (no_signs place (alone v) (pairs q)))
        ((is.plan.admits place l v).1 m))
        (in_all place l v m),
  )

  -- ---- ties

  tied_if : (a b : Attr) → (attr_eq a b ≡ true) ⊎ (list_any (binds a b) part.local ≡ true) → AreTied q part a b
  tied_if a b (inl e) = or-left (attr_eq a b || any_ties a b (pairs q) part.signs.items) (list_any (binds a b) part.local) (or-left (attr_eq a b) (any_ties a b (pairs q) part.signs.items) e)
  tied_if a b (inr e) = or-right (attr_eq a b || any_ties a b (pairs q) part.signs.items) (list_any (binds a b) part.local) e

  tied_from : (a b : Attr) → AreTied q part a b → (a ≡ b) ⊎ ((t : LocalCondition) × Has part.local t × (binds a b t ≡ true))
  tied_from a b h = elim (or-cases (attr_eq a b || any_ties a b (pairs q) part.signs.items) (list_any (binds a b) part.local) h) [
    | inl i ↦ elim (or-cases (attr_eq a b) (any_ties a b (pairs q) part.signs.items) i) [
      | inl j ↦ inl (attr_eq-is a b j)
      | inr j ↦ absurd (not_both (any_ties a b (pairs q) part.signs.items) j (subst (λ ss. any_ties a b (pairs q) ss ≡ false) (sym is.signs) (no_ties a b (pairs q))))
    ]
    | inr i ↦ inr (any_from (binds a b) part.local i)
  ]

  tie_of : (place : ℕ) → place < length q.from → (a n : Attr) → IsColumnAt place a → IsNameOf q a n → AreTied q part n a
  tie_of place l a n c i = elim (true_or_false (attr_eq n a)) [
    | inl e ↦ tied_if n a (inl e)
    | inr e ↦ tied_if n a (inr (any_if (binds n a) part.local (condition a Op.Eq (element.Attr n) (pos 0)) ((is.local (condition a Op.Eq (element.Attr n) (pos 0))).1 (place, l, Conditions.tie a c (n, i, differ n a e, refl))) (both_if n a)))
  ]

  -- a condition `=` by 0 of two columns is a tie
  tie_from : (place : ℕ) (t : LocalCondition) → IsAsked q place t → t.op ≡ Op.Eq → (a n : Attr) × IsColumnAt place a × IsNameOf q a n × (n ≡ a → ⊥) × (t ≡ condition a Op.Eq (element.Attr n) (pos 0))
  tie_from place t (Conditions.tie a c (n, i, d, e)) o = (a, n, c, i, d, e)
  tie_from place t (Conditions.least a c (n, l, i, e)) o = (let f : Op.Ge ≡ Op.Eq = sym (ap (λ t. t.op) e) ∙ o in absurd cc)
  tie_from place t (Conditions.greatest a c (n, h, i, e)) o = (let f : Op.Le ≡ Op.Eq = sym (ap (λ t. t.op) e) ∙ o in absurd cc)
  tie_from place t (Conditions.between a b c d (n, u, i, f, e)) o = (let g : Op.Le ≡ Op.Eq = sym (ap (λ t. t.op) e) ∙ o in absurd cc)
  tie_from place t (Conditions.unlike r h (own, i)) o = by r.left r.right t i o
    where
      by : (x y : Element) (t : LocalCondition) → Conditions.IsTurned x y t → t.op ≡ Op.Eq → (a n : Attr) × IsColumnAt place a × IsNameOf q a n × (n ≡ a → ⊥) × (t ≡ condition a Op.Eq (element.Attr n) (pos 0))
      by (element.Attr a) y t e o = (let f : Op.Ne ≡ Op.Eq = sym (ap (λ t. t.op) e) ∙ o in absurd cc)
      by (element.Const k) (element.Attr b) t e o = (let f : Op.Ne ≡ Op.Eq = sym (ap (λ t. t.op) e) ∙ o in absurd cc)
      by (element.Const j) (element.Const k) t e o = absurd e

  equality_is : (o : Op) → is_equality o ≡ true → o ≡ Op.Eq
  equality_is Op.Eq h = refl
  equality_is Op.Lt h = absurd cc
  equality_is Op.Gt h = absurd cc
  equality_is Op.Le h = absurd cc
  equality_is Op.Ge h = absurd cc
  equality_is Op.Ne h = absurd cc

  -- columns that are tied are of one class, and one of them names it
  bound_columns : (a b : Attr) (t : LocalCondition) → Has part.local t → binds a b t ≡ true → AreOneClass (system q) a b × (NamesClass q a → NamesClass q b → ⊥)
  bound_columns a b t h e =
      let r = (is.local t).0 h in
      let k = tie_from r.0 t r.2 (equality_is t.op (and-left (is_equality t.op) (int_eq t.by (pos 0) && compares_both a b t.left t.right) e)) in
      by k.0 k.1 k.3 k.4 (subst (λ t. compares_both a b t.left t.right ≡ true) k.5 (and-right (int_eq t.by (pos 0)) (compares_both a b t.left t.right) (and-right (is_equality t.op) (int_eq t.by (pos 0) && compares_both a b t.left t.right) e)))
    where
      by : (c n : Attr) → IsNameOf q c n → (n ≡ c → ⊥) → compares_both a b c (element.Attr n) ≡ true → AreOneClass (system q) a b × (NamesClass q a → NamesClass q b → ⊥)
      by c n i d f = elim (or-cases (attr_eq c a && attr_eq n b) (attr_eq c b && attr_eq n a) f) [
        | inl g ↦
            (let x : c ≡ a = attr_eq-is c a (and-left (attr_eq c a) (attr_eq n b) g) in
            let y : n ≡ b = attr_eq-is n b (and-right (attr_eq c a) (attr_eq n b) g) in
            (subst (λ a. AreOneClass (system q) a b) x (subst (AreOneClass (system q) c) y (class_turned (system q) n c i.inside)), λ s t. d (name_one q n c i.name (subst (NamesClass q) (sym x) s) i.inside)))
        | inr g ↦
            (let x : c ≡ b = attr_eq-is c b (and-left (attr_eq c b) (attr_eq n a) g) in
            let y : n ≡ a = attr_eq-is n a (and-right (attr_eq c b) (attr_eq n a) g) in
            (subst (λ b. AreOneClass (system q) a b) x (subst (λ a. AreOneClass (system q) a c) y i.inside), λ s t. d (name_one q n c i.name (subst (NamesClass q) (sym x) t) i.inside)))
      ]

  classes : (place : ℕ) → place < length q.from → (v : ℕ → ℤ) → IsTrue (admits q part place v) → (a b : Attr) → a.stream ≡ place → b.stream ≡ place → AreTied q part a b → v a.column ≡ v b.column
  classes place l v h a b e f t = elim (tied_from a b t) [
    | inl g ↦ ap (λ a. v a.column) g
    | inr r ↦ class_equal q (alone v) a b (bound_columns a b r.0 r.1 r.2).0 (subst (λ n. MeetsLocal q n (alone v)) (sym e) ((admitted place l v).0 h))
  ]

  -- ---- what is kept

  kept_if : (a : Attr) → (l : a.stream < length q.from) → a.column < 8 → (d : KeptDim) → Has (keep a.stream).dims d → AreOneClass (system q) d.attr a → IsKept q part a
  kept_if a l c d h i =
      let o : OwnOf q (dims_at part a.stream) d = own_to q (keep a.stream).dims (dims_at part a.stream) (is.streams a.stream l).dims d h in
      let n : IsNameOf q a d.attr = name d.attr ((stream a.stream l).dims d h).name i in
      record {
        dim = o.dim;
        among = Contains-from_has (dims_at part a.stream) o.dim o.among;
        tied = subst (λ z. AreTied q part z a) (sym o.attr) (tie_of a.stream l a d.attr record { here = refl; column = c } n);
      }
    where
      name : (n : Attr) → NamesClass q n → AreOneClass (system q) n a → IsNameOf q a n
      name n m i = record { inside = i; name = m; early = not_above a n (λ l. m a (class_turned (system q) n a i) l) i.stream }

  extreme_tied : (a e : Attr) → a.stream < length q.from → a.column < 8 → NamesClass q e → AreOneClass (system q) e a → AreTied q part e a
  extreme_tied a e l c m i = tie_of a.stream l a e record { here = refl; column = c } record { inside = i; name = m; early = not_above a e (λ l. m a (class_turned (system q) e a i) l) i.stream }

  planned_kind : (place : ℕ) (l : place < length q.from) → IsPlannedKind q links place (keep place).kind
  planned_kind place l = (stream place l).kind

  least_at : (place : ℕ) (l : place < length q.from) (e : Attr) → (keep place).kind ≡ Kind.Least e → NamesClass q e × IsLeftAlone q links e
  least_at place l e k = (let h : IsPlannedKind q links place (Kind.Least e) = subst (IsPlannedKind q links place) k (planned_kind place l) in (h.1.may.name, h.2))

  greatest_at : (place : ℕ) (l : place < length q.from) (e : Attr) → (keep place).kind ≡ Kind.Greatest e → NamesClass q e × IsRightAlone q links e
  greatest_at place l e k = (let h : IsPlannedKind q links place (Kind.Greatest e) = subst (IsPlannedKind q links place) k (planned_kind place l) in (h.1.may.name, h.2))

  kept_class : (a : Attr) → a.stream < length q.from → a.column < 8 → IsServed q (keep a.stream) a
      → ((e : Attr) → AreOneClass (system q) e a → IsLeftAlone q links e → ⊥) → ((e : Attr) → AreOneClass (system q) e a → IsRightAlone q links e → ⊥) → IsKept q part a
  kept_class a l c (Whole.dim d h i) left right = kept_if a l c d h i
  kept_class a l c (Whole.least e k i) left right = absurd (left e i (least_at a.stream l e k).1)
  kept_class a l c (Whole.greatest e k i) left right = absurd (right e i (greatest_at a.stream l e k).1)

  column_of_read : (a : Attr) → IsRead q links a → a.column < 8
  column_of_read a r = read_column q links is.plan.links w a r

  served : (a : Attr) → a.stream < length q.from → IsRead q links a → IsServed q (keep a.stream) a
  served a l r = (stream a.stream l).all a refl r

  selected : (a : Attr) → Contains q.select a → IsKept q part a
  selected a h =
      let l : a.stream < length q.from = (All-contains (IsColumn (length q.from)) q.select a w.select h).stream in
      kept_class a l (column_of_read a (Whole.selected h)) (served a l (Whole.selected h))
      (λ e i n. n.other (Kept.selected a i h)) (λ e i n. n.other (Kept.selected a i h))

  -- a column of a link
  module _ (k : ColumnLink) (among : Has links (atom_of k)) where
    columns : (k.left.stream < length q.from) × (k.right.stream < length q.from)
    columns =
        let c = link_columns q (query_formed q w) links is.plan.links (atom_of k) among in
        (subst (λ a. a.stream < length q.from) (side k.left c.left.attr c.left.is) c.left.stream, subst (λ a. a.stream < length q.from) (side k.right c.right.attr c.right.is) c.right.stream)
      where
        side : (a b : Attr) → element.Attr a ≡ element.Attr b → b ≡ a
        side a b e = cc

    left_read : IsRead q links k.left
    left_read = Whole.left (atom_of k) among refl

    right_read : IsRead q links k.right
    right_read = Whole.right (atom_of k) among refl

    left_least : IsKept q part k.left ⊎ IsLeastKept q part k.left
    left_least = by (served k.left columns.0 left_read)
      where
        by : IsServed q (keep k.left.stream) k.left → IsKept q part k.left ⊎ IsLeastKept q part k.left
        by (Whole.dim d i c) = inl (kept_if k.left columns.0 (column_of_read k.left left_read) d i c)
        by (Whole.least e f c) = inr record { extreme = e; kind = (is.streams k.left.stream columns.0).kind ∙ f; stream = c.stream; tied = extreme_tied k.left e columns.0 (column_of_read k.left left_read) (least_at k.left.stream columns.0 e f).0 c }
        by (Whole.greatest e f c) = absurd ((greatest_at k.left.stream columns.0 e f).1.left (atom_of k) among k.left c refl)

    right_greatest : IsKept q part k.right ⊎ IsGreatestKept q part k.right
    right_greatest = by (served k.right columns.1 right_read)
      where
        by : IsServed q (keep k.right.stream) k.right → IsKept q part k.right ⊎ IsGreatestKept q part k.right
        by (Whole.dim d i c) = inl (kept_if k.right columns.1 (column_of_read k.right right_read) d i c)
        by (Whole.greatest e f c) = inr record { extreme = e; kind = (is.streams k.right.stream columns.1).kind ∙ f; stream = c.stream; tied = extreme_tied k.right e columns.1 (column_of_read k.right right_read) (greatest_at k.right.stream columns.1 e f).0 c }
        by (Whole.least e f c) = absurd ((least_at k.right.stream columns.1 e f).1.right (atom_of k) among k.right c refl)

    -- both sides of a link that is neither `<` nor `<=` are kept
    both_kept : ((k.op ≡ Op.Lt) ⊎ (k.op ≡ Op.Le) → ⊥) → IsKept q part k.left × IsKept q part k.right
    both_kept n = (
      kept_class k.left columns.0 (column_of_read k.left left_read) (served k.left columns.0 left_read) (λ e c a. n (a.left (atom_of k) among k.left c refl)) (λ e c a. a.left (atom_of k) among k.left c refl),
      kept_class k.right columns.1 (column_of_read k.right right_read) (served k.right columns.1 right_read) (λ e c a. a.right (atom_of k) among k.right c refl) (λ e c a. n (a.right (atom_of k) among k.right c refl)),
    )

  eq_strict : (Op.Eq ≡ Op.Lt) ⊎ (Op.Eq ≡ Op.Le) → ⊥
  eq_strict (inl e) = absurd cc
  eq_strict (inr e) = absurd cc

  ne_strict : (Op.Ne ≡ Op.Lt) ⊎ (Op.Ne ≡ Op.Le) → ⊥
  ne_strict (inl e) = absurd cc
  ne_strict (inr e) = absurd cc

  -- a link `=` holds in each solution
  link_equal : (t : Atom) → Has links t → t.op ≡ Op.Eq → (v : Assignment) → Solves (system q) v → value t.left v ≡ value t.right v
  link_equal t h o v s =
      let r : (u : Atom) × Has (filter (λ t. are_across t.left t.right) q.atoms) u × (turned_by u.op u.left u.right ≡ t)
      = Has-map_from (λ t. turned_by t.op t.left t.right) (filter (λ t. are_across t.left t.right) q.atoms) t (once_from (between_streams q.atoms) t (thins_among (system q) [] (across q.atoms) links is.plan.links t h)) in
      let j : Has q.atoms r.0 = Has-filter_from (λ t. are_across t.left t.right) q.atoms r.0 r.1 in
      let n : r.0.op ≡ Op.Ne → ⊥ = λ e. unequal (sym (turned_unlike r.0.left r.0.right) ∙ ap (λ p. (turned_by p r.0.left r.0.right).op) (sym e) ∙ ap (λ u. u.op) r.2 ∙ o) in
      let c : Compares r.0.op (value r.0.left v) (value r.0.right v)
      = met_holds r.0.op r.0.left r.0.right v n (λ d k. s d (Has-append_left (flat_map domain_bounds q.domains) (Has-flat_map atom_bounds q.atoms r.0 d j k))) in
      let e : Compares t.op (value t.left v) (value t.right v) = subst (λ u. Compares u.op (value u.left v) (value u.right v)) r.2 (turns r.0.op r.0.left r.0.right v c) in
      subst (λ p. Compares p (value t.left v) (value t.right v)) o e

  -- a column of the class of a dim
  record DimOf (a : Attr) : Type 0 where
    dim : Dim
    among : Has (dims_at part a.stream) dim
    class : AreOneClass (system q) dim.attr a

  dim_of : (a : Attr) → a.stream < length q.from → IsServed q (keep a.stream) a
      → ((e : Attr) → AreOneClass (system q) e a → IsLeftAlone q links e → ⊥) → ((e : Attr) → AreOneClass (system q) e a → IsRightAlone q links e → ⊥) → DimOf a
  dim_of a l (Whole.dim d h i) left right =
      let o : OwnOf q (dims_at part a.stream) d = own_to q (keep a.stream).dims (dims_at part a.stream) (is.streams a.stream l).dims d h in
      record { dim = o.dim; among = o.among; class = subst (λ z. AreOneClass (system q) z a) (sym o.attr) i }
  dim_of a l (Whole.least e k i) left right = absurd (left e i (least_at a.stream l e k).1)
  dim_of a l (Whole.greatest e k i) left right = absurd (right e i (greatest_at a.stream l e k).1)

  -- the dims of both sides of a link `=`
  module _ (k : ColumnLink) (among : Has links (atom_of k)) (equal : k.op ≡ Op.Eq) where
    way : (k.op ≡ Op.Lt) ⊎ (k.op ≡ Op.Le) → ⊥
    way o = eq_strict (subst (λ z. (z ≡ Op.Lt) ⊎ (z ≡ Op.Le)) equal o)

    left_dim : DimOf k.left
    left_dim = dim_of k.left (columns k among).0 (served k.left (columns k among).0 (left_read k among)) (λ e c a. way (a.left (atom_of k) among k.left c refl)) (λ e c a. a.left (atom_of k) among k.left c refl)

    right_dim : DimOf k.right
    right_dim = dim_of k.right (columns k among).1 (served k.right (columns k among).1 (right_read k among)) (λ e c a. a.right (atom_of k) among k.right c refl) (λ e c a. way (a.right (atom_of k) among k.right c refl))

    dims_below : Bound (system q) (element.Attr left_dim.dim.attr) (element.Attr right_dim.dim.attr) (pos 0)
    dims_below v s =
        let a = left_dim.class.below v s in let b = link_equal (atom_of k) among equal v s in let c = right_dim.class.above v s in
        omega (arith, ints, a, b, c)

    dims_above : Bound (system q) (element.Attr right_dim.dim.attr) (element.Attr left_dim.dim.attr) (pos 0)
    dims_above v s =
        let a = left_dim.class.above v s in let b = link_equal (atom_of k) among equal v s in let c = right_dim.class.below v s in
        omega (arith, ints, a, b, c)

    -- one of the equalities of the part is between them
    dims_linked : Has part.equal.items (link left_dim.dim.attr right_dim.dim.attr) ⊎ Has part.equal.items (link right_dim.dim.attr left_dim.dim.attr)
    dims_linked = elim (apart left_dim.dim.attr.stream right_dim.dim.attr.stream other) [
      | inl l ↦ inl (Has-from_contains part.equal.items (link left_dim.dim.attr right_dim.dim.attr)
          ((is.equal left_dim.dim.attr right_dim.dim.attr).1 record {
            before = l;
            left = (left_dim.dim, there k.left left_dim.dim left_dim.class.stream left_dim.among, refl);
            right = (right_dim.dim, there k.right right_dim.dim right_dim.class.stream right_dim.among, refl);
            below = dims_below;
            above = dims_above;
          }))
      | inr l ↦ inr (Has-from_contains part.equal.items (link right_dim.dim.attr left_dim.dim.attr)
          ((is.equal right_dim.dim.attr left_dim.dim.attr).1 record {
            before = l;
            left = (right_dim.dim, there k.right right_dim.dim right_dim.class.stream right_dim.among, refl);
            right = (left_dim.dim, there k.left left_dim.dim left_dim.class.stream left_dim.among, refl);
            below = dims_above;
            above = dims_below;
          }))
    ]
      where
        apart : (m n : ℕ) → (m ≡ n → ⊥) → (m < n) ⊎ (n < m)
        apart zero zero f = absurd (f refl)
        apart zero (suc n) f = inl (omega arith)
        apart (suc m) zero f = inr (omega arith)
        apart (suc m) (suc n) f = elim (apart m n (λ e. f (ap suc e))) [ inl l ↦ inl (omega (arith, l)) | inr l ↦ inr (omega (arith, l)) ]

        there : (a : Attr) (d : Dim) → d.attr.stream ≡ a.stream → Has (dims_at part a.stream) d → Has (dims_at part d.attr.stream) d
        there a d e h = subst (λ n. Has (dims_at part n) d) (sym e) h

        other : left_dim.dim.attr.stream ≡ right_dim.dim.attr.stream → ⊥
        other e = across_apart k.left k.right (link_across q links is.plan.links (atom_of k) among) (sym left_dim.class.stream ∙ e ∙ right_dim.class.stream)

    -- where they are equal, and each stream meets its local conditions, the link holds
    link_holds : (v : Assignment) → ((place : ℕ) → place < length q.from → MeetsLocal q place v) → list_all (λ l. int_eq (v l.left) (v l.right)) part.equal.items ≡ true → v k.left ≡ v k.right
    link_holds v m h =
        let a : v left_dim.dim.attr ≡ v k.left = class_equal q v left_dim.dim.attr k.left left_dim.class (m left_dim.dim.attr.stream (subst (λ n. n < length q.from) (sym left_dim.class.stream) (columns k among).0)) in
        let b : v right_dim.dim.attr ≡ v k.right = class_equal q v right_dim.dim.attr k.right right_dim.class (m right_dim.dim.attr.stream (subst (λ n. n < length q.from) (sym right_dim.class.stream) (columns k among).1)) in
        let e : v left_dim.dim.attr ≡ v right_dim.dim.attr = elim dims_linked [
          | inl i ↦ Compares-from_test Op.Eq (v left_dim.dim.attr) (v right_dim.dim.attr) (all_at (λ l. int_eq (v l.left) (v l.right)) part.equal.items (link left_dim.dim.attr right_dim.dim.attr) h i)
          | inr i ↦ sym (Compares-from_test Op.Eq (v right_dim.dim.attr) (v left_dim.dim.attr) (all_at (λ l. int_eq (v l.left) (v l.right)) part.equal.items (link right_dim.dim.attr left_dim.dim.attr) h i))
        ] in
        sym a ∙ e ∙ b

  -- an equality of the part is between two dims
  equal_dims : (l : Link) → Has part.equal.items l → AreEqualDims q (dims_at part) l.left l.right
  equal_dims l h = (is.equal l.left l.right).0 (Contains-from_has part.equal.items l h)

  -- a dim is kept as it is
  kept_dim : (a : Attr) → (d : Dim) × Has (dims_at part a.stream) d × (d.attr ≡ a) → IsKept q part a
  kept_dim a d = record { dim = d.0; among = Contains-from_has (dims_at part a.stream) d.0 d.1; tied = tied_if d.0.attr a (inl (subst (λ z. attr_eq d.0.attr z ≡ true) d.2 (attr_eq-itself d.0.attr))) }

  -- and it is a column that a row may have
  dim_column : (a : Attr) → (d : Dim) × Has (dims_at part a.stream) d × (d.attr ≡ a) → a.column < 8
  dim_column a d = by (nat_lt a.stream (length q.from)) refl
    where
      by : (b : Bool) → nat_lt a.stream (length q.from) ≡ b → a.column < 8
      by true l =
          let m : a.stream < length q.from = grind (arith, nat_tests, l) in
          let o : OwnDim q (keep a.stream).dims d.0 = own_dim a.stream m d.0 d.1 in
          let p = (stream a.stream m).dims o.dim o.among in
          let c : p.read.member.column < 8 = column_of_read p.read.member p.read.read in
          let e : o.dim.attr.column ≤ p.read.member.column = not_above p.read.member o.dim.attr (λ x. p.name p.read.member (class_turned (system q) o.dim.attr p.read.member p.read.inside) x) p.read.inside.stream in
          let f : a.column ≡ o.dim.attr.column = ap (λ (z : Attr). z.column) (sym d.2 ∙ o.attr) in
          omega (arith, c, e, f)
      by false l = none (dims_at part a.stream) (beyond a.stream (grind (arith, nat_tests, l))) d.1
        where
          beyond : (place : ℕ) → length q.from ≤ place → dims_at part place ≡ []
          beyond place m = ap (λ (s : StreamPlan). s.dims.items) (get_or_past part.streams.items place no_stream (let n = is.count in omega (arith, n, m)))

          none : (ds : List Dim) → ds ≡ [] → Has ds d.0 → a.column < 8
          none ds e h = Has-nil (subst (λ z. Has z d.0) e h)

  less_link : (l : Link) → Has part.less.items l → Has links (read_as Op.Lt l)
  less_link l h = Has-filter_from (has_op Op.Lt) links (read_as Op.Lt l) (subst (λ ts. Has ts (read_as Op.Lt l)) is.less (Has-map (read_as Op.Lt) h))

  soft_among : (l : SoftLink) → Has part.soft.items l → Has (filter is_soft links) (soft_as l)
  soft_among l h = subst (λ ts. Has ts (soft_as l)) is.soft (Has-map soft_as h)

  soft_link : (l : SoftLink) → Has part.soft.items l → Has links (soft_as l)
  soft_link l h = Has-filter_from is_soft links (soft_as l) (soft_among l h)

  -- a link that is neither `=` nor `<` is `<=` or `<>`
  soft_asked : (l : SoftLink) → Has part.soft.items l → CanBeAsked q part l.op l.left l.right
  soft_asked l h = by (link_reads q links is.plan.links (soft_as l) (soft_link l h))
    where
      soft : is_soft (soft_as l) ≡ true
      soft = Has-filter_holds is_soft links (soft_as l) (soft_among l h)

      as_column : ColumnLink
      as_column = record { left = l.left; op = l.op; right = l.right }

      by : Reads l.op → CanBeAsked q part l.op l.left l.right
      by (lt e) = absurd (not_both (not (nat_eq (op_index l.op) (op_index Op.Eq)) && not (nat_eq (op_index l.op) (op_index Op.Lt))) soft
          (ap (λ o. not (nat_eq (op_index o) (op_index Op.Eq)) && not (nat_eq (op_index o) (op_index Op.Lt))) e))
      by (eq e) = absurd (not_both (not (nat_eq (op_index l.op) (op_index Op.Eq)) && not (nat_eq (op_index l.op) (op_index Op.Lt))) soft
          (ap (λ o. not (nat_eq (op_index o) (op_index Op.Eq)) && not (nat_eq (op_index o) (op_index Op.Lt))) e))
      by (le e) = subst (λ o. CanBeAsked q part o l.left l.right) (sym e) (left_least as_column (soft_link l h), right_greatest as_column (soft_link l h))
      by (ne e) = subst (λ o. CanBeAsked q part o l.left l.right) (sym e) (both_kept as_column (soft_link l h) (λ o. ne_strict (subst (λ z. (z ≡ Op.Lt) ⊎ (z ≡ Op.Le)) e o)))

  -- ---- streams

  kind_told : (place : ℕ) → place < length q.from → ((stream_at part place).kind ≡ Kind.Count) ↔ (q.distinct ≡ false)
  kind_told place l = subst (λ k. (k ≡ Kind.Count) ↔ (q.distinct ≡ false)) (sym ((is.streams place l).kind)) (by (keep place).kind (planned_kind place l))
    where
      by : (k : Kind) → IsPlannedKind q links place k → (k ≡ Kind.Count) ↔ (q.distinct ≡ false)
      by Kind.Count h = (λ e. h, λ f. refl)
      by Kind.Present h = (λ e. absurd cc, λ f. absurd (not_both q.distinct h.0 f))
      by (Kind.Least e) h = (λ e. absurd cc, λ f. absurd (not_both q.distinct h.0 f))
      by (Kind.Greatest e) h = (λ e. absurd cc, λ f. absurd (not_both q.distinct h.0 f))

  full : (place : ℕ) → place < length q.from → AreFull (dims_at part place)
  full place l = by (keep place).dims (dims_at part place) (is.streams place l).dims
    where
      by : (ks : List KeptDim) (ds : List Dim) → AreOwnDims q ks ds → AreFull ds
      by [] [] o = tt
      by [] (d ∷ ds) o = absurd o
      by (k ∷ ks) [] o = absurd o
      by (k ∷ ks) (d ∷ ds) o = (own_ordered (system q) d.attr d.attr (Some d.lo) (Some d.hi) o.1.low o.1.high, by ks ds o.2)

  -- of two dims that name classes no condition ties the one to the other
  apart_names : (place : ℕ) → place < length q.from → (d e : KeptDim) → Has (keep place).dims d → Has (keep place).dims e → attr_lt d.attr e.attr ≡ true → is_tied q part d.attr e.attr ≡ false
  apart_names place l d e h k m = false_if (is_tied q part d.attr e.attr) (λ t. elim (tied_from d.attr e.attr t) [
    | inl f ↦ same d.attr e.attr f m
    | inr r ↦ (bound_columns d.attr e.attr r.0 r.1 r.2).1 ((stream place l).dims d h).name ((stream place l).dims e k).name
  ])
    where
      same : (a b : Attr) → a ≡ b → attr_lt a b ≡ true → ⊥
      same a b f m = itself b (subst (λ z. attr_lt z b ≡ true) f m)
        where
          itself : (a : Attr) → attr_lt a a ≡ true → ⊥
          itself a h = grind (arith, nat_tests)

  names_from : (place : ℕ) → place < length q.from → (ks : List KeptDim) (ds : List Dim) → AreOwnDims q ks ds → ((k : KeptDim) → Has ks k → Has (keep place).dims k)
      → Ascends (λ (d e : KeptDim). attr_lt d.attr e.attr) ks → AllPairs (λ d e. is_tied q part d.attr e.attr ≡ false) ds
  names_from place l [] [] o f a = λ i j d k m. absurd (omega (arith, m))
  names_from place l [] (d ∷ ds) o f a = absurd o
  names_from place l (k ∷ ks) [] o f a = absurd o
  names_from place l (k ∷ ks) (d ∷ ds) o f (more g a) =
      pairs_cons (λ d e. is_tied q part d.attr e.attr ≡ false) d ds
      (λ e h. (let n : OwnDim q ks e = own_from q ks ds o.2 e h in
      subst (λ z. is_tied q part z e.attr ≡ false) (sym o.0)
      (subst (λ z. is_tied q part k.attr z ≡ false) (sym n.attr) (apart_names place l k n.dim (f k first) (f n.dim (later n.among)) (g n.dim n.among)))))
      (names_from place l ks ds o.2 (λ e h. f e (later h)) a)

  names : (place : ℕ) → place < length q.from → AllPairs (λ d e. is_tied q part d.attr e.attr ≡ false) (dims_at part place)
  names place l = names_from place l (keep place).dims (dims_at part place) (is.streams place l).dims (λ k h. h) (ascends_from (λ (d e : KeptDim). attr_lt d.attr e.attr) (keep place).dims (stream place l).ascending)

  keeps : KeepsStreams q part
  keeps = record {
    count = is.count;
    size = λ place l. (is.streams place l).size;
    kind = kind_told;
    dims = λ place l. All-from_has (λ (d : Dim). d.attr.stream ≡ place) (dims_at part place) (λ d h. here place l d h);
    full = full;
    names = names;
  }

  of_columns : (k : ColumnLink) → Has links (atom_of k) → (k.left.column < 8) × (k.right.column < 8)
  of_columns k among = (column_of_read k.left (left_read k among), column_of_read k.right (right_read k among))

  pub serves : Serves q part
  serves = record {
    keeps = keeps;
    links = record {
      equal = λ l c. (let e = equal_dims l (Has-from_contains part.equal.items l c) in (dim_column l.left e.left, dim_column l.right e.right));
      less = λ l c. of_columns record { left = l.left; op = Op.Lt; right = l.right } (less_link l (Has-from_contains part.less.items l c));
      soft = λ l c. of_columns record { left = l.left; op = l.op; right = l.right } (soft_link l (Has-from_contains part.soft.items l c));
    };
    classes = classes;
    selected = selected;
    equal = λ l c. (let e = equal_dims l (Has-from_contains part.equal.items l c) in (kept_dim l.left e.left, kept_dim l.right e.right));
    less = λ l c. (let h = less_link l (Has-from_contains part.less.items l c) in (left_least record { left = l.left; op = Op.Lt; right = l.right } h, right_greatest record { left = l.left; op = Op.Lt; right = l.right } h));
    soft = λ l c. soft_asked l (Has-from_contains part.soft.items l c);
  }

  -- ---- combinations

  module _ (rows : List (ℕ → ℤ)) (whole : length rows ≡ length q.from) where
    at_own : (place : ℕ) → MeetsLocal q place (alone (at_place rows place)) ↔ MeetsLocal q place (joined rows)
    at_own place = (
      λ m. local_alike q place (alone (at_place rows place)) (joined rows) (λ a e. ap (λ n. at_place rows n a.column) (sym e)) m,
      λ m. local_alike q place (joined rows) (alone (at_place rows place)) (λ a e. ap (λ n. at_place rows n a.column) e) m,
    )

    abbrev v : Assignment
    v = joined rows

    abbrev equal_holds : Bool
    equal_holds = list_all (λ l. int_eq (v l.left) (v l.right)) part.equal.items

    abbrev less_holds : Bool
    less_holds = list_all (λ l. int_lt (v l.left) (v l.right)) part.less.items

    abbrev soft_holds : Bool
    soft_holds = list_all (λ l. compares l.op (v l.left) (v l.right)) part.soft.items

    linked_if : Solves (system q) v → ((t : Atom) → Has links t → AtomHolds v t) → linked part v ≡ true
    linked_if s f =
        and-both (equal_holds && less_holds) soft_holds
        (and-both equal_holds less_holds
        (all_if (λ l. int_eq (v l.left) (v l.right)) part.equal.items (λ l h. both_equal (equal_dims l h)))
        (all_if (λ l. int_lt (v l.left) (v l.right)) part.less.items (λ l h. f (read_as Op.Lt l) (less_link l h))))
        (all_if (λ l. compares l.op (v l.left) (v l.right)) part.soft.items (λ l h. f (soft_as l) (soft_link l h)))
      where
        both_equal : {a b : Attr} → AreEqualDims q (dims_at part) a b → int_eq (v a) (v b) ≡ true
        both_equal {a} {b} e = (let x = e.below v s in let y = e.above v s in compares-true Op.Eq (v a) (v b) (omega (arith, ints, x, y)))

    -- and back: each link reads `<`, `<=`, `=` or `<>`
    link_from : ((place : ℕ) → place < length q.from → MeetsLocal q place v) → linked part v ≡ true → (t : Atom) → Has links t → AtomHolds v t
    link_from m h t k = by (link_reads q links is.plan.links t k)
      where
        strict : (equal_holds && less_holds) ≡ true
        strict = and-left (equal_holds && less_holds) soft_holds h

        soft : is_soft t ≡ true → AtomHolds v t
        soft e =
            let r : (l : SoftLink) × Has part.soft.items l × (soft_as l ≡ t) = Has-map_from soft_as part.soft.items t (subst (λ ts. Has ts t) (sym is.soft) (Has-filter is_soft e k)) in
            subst (AtomHolds v) r.2 (all_at (λ l. compares l.op (v l.left) (v l.right)) part.soft.items r.0 (and-right (equal_holds && less_holds) soft_holds h) r.1)

        by : Reads t.op → AtomHolds v t
        by (lt e) =
            let r : (l : Link) × Has part.less.items l × (read_as Op.Lt l ≡ t)
            = Has-map_from (read_as Op.Lt) part.less.items t (subst (λ ts. Has ts t) (sym is.less) (Has-filter (has_op Op.Lt) (ap (λ o. nat_eq (op_index o) (op_index Op.Lt)) e) k)) in
            subst (AtomHolds v) r.2 (all_at (λ l. int_lt (v l.left) (v l.right)) part.less.items r.0 (and-right equal_holds less_holds strict) r.1)
        by (eq e) =
            let c : AreColumnsOf q t = link_columns q (query_formed q w) links is.plan.links t k in
            let a : t ≡ atom_of record { left = c.left.attr; op = t.op; right = c.right.attr } = (λ i. record { left = c.left.is i; op = t.op; right = c.right.is i }) in
            let n : v c.left.attr ≡ v c.right.attr = link_holds record { left = c.left.attr; op = t.op; right = c.right.attr } (subst (Has links) a k) e v m (and-left equal_holds less_holds strict) in
            atom_if v t (subst (λ o. Compares o (value t.left v) (value t.right v)) (sym e) (ap (λ x. value x v) c.left.is ∙ n ∙ ap (λ x. value x v) (sym c.right.is)))
        by (le e) = soft (ap (λ o. not (nat_eq (op_index o) (op_index Op.Eq)) && not (nat_eq (op_index o) (op_index Op.Lt))) e)
        by (ne e) = soft (ap (λ o. not (nat_eq (op_index o) (op_index Op.Eq)) && not (nat_eq (op_index o) (op_index Op.Lt))) e)

    pub takes : KeepsDomains q (joined rows) → Holds q (joined rows) → Takes q part rows
    takes k h =
        let m : MeetsWhole q links (joined rows) = (links_suffice q w links is.plan.links (joined rows)).0 (h, k) in
        record { each = λ place l. (admitted place l (at_place rows place)).1 ((at_own place).1 (m.local place l)); links = linked_if (solves_query q (joined rows) h k) m.linked }

    pub taken : Takes q part rows → Holds q (joined rows)
    taken t =
        let local : (place : ℕ) → place < length q.from → MeetsLocal q place (joined rows) = λ place l. (at_own place).0 ((admitted place l (at_place rows place)).0 (t.each place l)) in
        let m : MeetsWhole q links (joined rows) = record { local = local; linked = link_from local t.links } in
        ((links_suffice q w links is.plan.links (joined rows)).1 m).0

  -- ---- answers

  class_of_tied : (a b : Attr) → AreTied q part a b → AreOneClass (system q) a b
  class_of_tied a b t = elim (tied_from a b t) [
    | inl f ↦ subst (AreOneClass (system q) a) f (class_itself (system q) a)
    | inr r ↦ (bound_columns a b r.0 r.1 r.2).0
  ]

  -- the range of a selected column is its own
  pub selected_own : (a : Attr) → Contains q.select a → IsRange (system q) a (range (Some (range_of q part a).lo) (Some (range_of q part a).hi))
  selected_own a h =
      let k : IsKept q part a = selected a h in
      let f : (f : Dim) × Has (dims_at part a.stream) f × (is_tied q part f.attr a ≡ true) × (range_of q part a ≡ f) = first_is (is_tied q part) (dims_at part a.stream) a k.dim (Has-from_contains (dims_at part a.stream) k.dim k.among) k.tied in
      let l : a.stream < length q.from = (All-contains (IsColumn (length q.from)) q.select a w.select h).stream in
      subst (λ (d : Dim). IsRange (system q) a (range (Some d.lo) (Some d.hi))) (sym f.3)
      (range_over (system q) f.0.attr a (range (Some f.0.lo) (Some f.0.hi)) (class_of_tied f.0.attr a f.2) (own_dim a.stream l f.0 f.1).own)

  own_hull : (a : Attr) → Contains q.select a → (d : Dim) → IsRangeOf q a d → d ≡ hull q part [] a
  own_hull a h d r =
      let own : Dim = range_of q part a in
      let e : ends_of r.0 ≡ range (Some own.lo) (Some own.hi) = range_one (system q) a (ends_of r.0) (range (Some own.lo) (Some own.hi)) r.1 (selected_own a h) in
      r.2 ∙ (λ i. record { attr = a; lo = end_or_zero (e i).lo; hi = end_or_zero (e i).hi })

  own_hulls : (attrs : List Attr) (dims : List Dim) → ((a : Attr) → Has attrs a → Contains q.select a) → AreRangesOf q attrs dims → dims ≡ map (hull q part []) attrs
  own_hulls [] [] f r = refl
  own_hulls [] (d ∷ dims) f r = absurd r
  own_hulls (a ∷ attrs) [] f r = absurd r
  own_hulls (a ∷ attrs) (d ∷ dims) f r = ap₂ (λ e es. e ∷ es) (own_hull a (f a first) d r.0) (own_hulls attrs dims (λ b h. f b (later h)) r.1)

  -- so the ranges of the different selected columns are told
  pub selected_hulls : (dims : List Dim) → AreRangesOf q (different q.select) dims → dims ≡ map (hull q part []) (different q.select)
  selected_hulls dims r = own_hulls (different q.select) dims (λ a h. Contains-from_has q.select a (from_different q.select a h)) r

  same_sizes : (attrs : List Attr) → box_size (map (range_of q part) attrs) ≡ box_size (map (hull q part []) attrs)
  same_sizes [] = refl
  same_sizes (a ∷ attrs) = ap (λ n. dim_size (range_of q part a) * n) (same_sizes attrs)

  counted : (dims : List Dim) → AreRangesOf q (different q.select) dims → box_size (selected_ranges q part) ≡ box_size dims
  counted dims r = same_sizes (different q.select) ∙ ap box_size (sym (selected_hulls dims r))

pub whole_answers_are_counted : WholeAnswersAreCounted
whole_answers_are_counted q w part is dims r = counted q w part is dims r

one_all : {A : Type 0} (P : A → Type 0) (x : A) → P x → All P (x ∷ [])
one_all P x p zero d l = p
one_all P x p (suc k) d l = absurd (omega (arith, l))

pub whole_parts_serve : WholePartsServe
whole_parts_serve q w part is = record {
  serves = one_all (Serves q) part (serves q w part is);
  once = record {
    each = λ rows whole k h. (part, Contains-from_has (part ∷ []) part first, takes q w part is rows whole k h);
    no_other = λ other c rows whole k t. (let e : part ≡ other = only other (Has-from_contains (part ∷ []) other c) in taken q w part is rows whole (subst (λ z. Takes q z rows) (sym e) t));
    apart = λ i j d l m. absurd (omega (arith, l, m));
  };
}
  where
    only : (other : PartPlan) → Has (part ∷ []) other → part ≡ other
    only other h = elim (has_cases part other [] h) [ inl e ↦ e | inr n ↦ Has-nil n ]
