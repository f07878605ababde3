-- Where no condition is broken there is a form of finite ranges.
use Rattle.std.proofs.Common.{◌≡◌, ℕ, ℤ, ◌⊎◌, inl, inr, List, [], ◌∷◌, ◌++◌, map, filter, Bool, true, false, not, ◌&&◌, cond, nat_eq, Option, Some, None, refl, sym, ap, ◌∙◌, subst, arith}
use Rattle.std.proofs.lemmas.Bool.Decides.{nat_tests}
use Rattle.std.specs.List.{flat_map}
use Rattle.sem_query.specs.declared.atom.Attr.{Attr}
use Rattle.sem_query.specs.declared.atom.Atom.{Atom}
use Rattle.sem_query.specs.declared.atom.Element.{Element}
use Rattle.sem_query.specs.declared.atom.Element.TheVariants as element
use Rattle.sem_query.specs.declared.condition.Condition.TheVariants.{C1, C2, C3}
use Rattle.sem_query.specs.declared.condition.Condition.{Condition}
use Rattle.sem_query.specs.declared.plan.Kind.{Kind}
use Rattle.sem_query.specs.Query.{QueryValue, attr_lt}
use Rattle.sem_query.proofs.Elements.{attr_separates}
use Rattle.sem_query.proofs.Has.{Has, first, later, Has-nil, Has-from_contains, Contains-from_has, Has-append_left, Has-append_right, Has-append_cases, Has-map, Has-map_from, Has-filter, Has-filter_from, Has-filter_holds, Has-flat_map, Has-flat_map_from}
use Rattle.sem_laws.proofs.Tests.{true_or_false, not_both, and-left, and-right, and-both, nat_true}
use Rattle.sem_laws.proofs.OnePartFits.{has_cases}
use Rattle.sem_whole.specs.System.{system, AreOneClass}
use Rattle.sem_whole.specs.Links.{AreLinks}
use Rattle.sem_whole.specs.Ranges.{range}
use Rattle.sem_whole.specs.Kept as Kept
use Rattle.sem_whole.specs.Kept.{IsRange, IsKeptAsItIs, IsKeptRange}
use Rattle.sem_whole.specs.Whole as Whole
use Rattle.sem_whole.specs.Whole.{KeptDim, StreamKeep, IsRead, IsLeftAlone, IsRightAlone, IsOneWay, IsWholeKind, IsServed, Serves, Form, IsWholeForm, IsFinite, IsOpenSide, IsUnlike, HasEarlier, WholeBreaks, HasFiniteRanges}
use Rattle.sem_whole.specs.Laws.{Decided, FiniteFormsExist}
use Rattle.sem_whole.proofs.CutLaw.{class_itself}
use Rattle.sem_whole.proofs.Unbroken.{kept_own_range}

-- the column that an element is
abbrev columns_of : Element → List Attr
columns_of (element.Attr a) = a ∷ []
columns_of (element.Const k) = []

column_there : (e : Element) (a : Attr) → e ≡ element.Attr a → Has (columns_of e) a
column_there (element.Attr b) a e = let f : b ≡ a = cc in subst (Has (b ∷ [])) f first
column_there (element.Const k) a e = absurd cc

column_from : (e : Element) (a : Attr) → Has (columns_of e) a → e ≡ element.Attr a
column_from (element.Attr b) a h = elim (has_cases b a [] h) [ inl e ↦ ap (λ a. element.Attr a) e | inr k ↦ Has-nil k ]
column_from (element.Const k) a h = Has-nil h

-- the columns of a link
abbrev sides : Atom → List Attr
sides t = columns_of t.left ++ columns_of t.right

-- all columns that are read
abbrev read_columns : QueryValue → List Atom → List Attr
read_columns q links = q.select ++ flat_map sides links

read_there : (q : QueryValue) (links : List Atom) (a : Attr) → IsRead q links a → Has (read_columns q links) a
read_there q links a (Whole.selected h) = Has-append_left (flat_map sides links) (Has-from_contains q.select a h)
read_there q links a (Whole.left t h e) = Has-append_right q.select (Has-flat_map sides links t a h (Has-append_left (columns_of t.right) (column_there t.left a e)))
read_there q links a (Whole.right t h e) = Has-append_right q.select (Has-flat_map sides links t a h (Has-append_right (columns_of t.left) (column_there t.right a e)))

read_from : (q : QueryValue) (links : List Atom) (a : Attr) → Has (read_columns q links) a → IsRead q links a
read_from q links a h = elim (Has-append_cases q.select (flat_map sides links) a h) [
  | inl k ↦ Whole.selected (Contains-from_has q.select a k)
  | inr k ↦ (let r = Has-flat_map_from sides links a k in
      elim (Has-append_cases (columns_of r.0.left) (columns_of r.0.right) a r.2) [
        | inl m ↦ Whole.left r.0 r.1 (column_from r.0.left a m)
        | inr m ↦ Whole.right r.0 r.1 (column_from r.0.right a m)
      ])
]

-- whether both ends are there
abbrev both_ends : Option ℤ → Option ℤ → Bool
both_ends (Some l) (Some h) = true
both_ends (Some l) None = false
both_ends None h = false

ends_finite : (l h : Option ℤ) → both_ends l h ≡ true → IsFinite (range l h)
ends_finite (Some l) (Some h) e = record { lo = l; hi = h; low = refl; high = refl }
ends_finite (Some l) None e = absurd cc
ends_finite None h e = absurd cc

finite_ends : (l h : Option ℤ) → IsFinite (range l h) → both_ends l h ≡ true
finite_ends (Some l) (Some h) f = refl
finite_ends (Some l) None f = let e : None ≡ Some f.hi = f.high in absurd cc
finite_ends None h f = let e : None ≡ Some f.lo = f.low in absurd cc

-- the column that comes first
abbrev sooner_of : Attr → Option Attr → Attr
sooner_of a None = a
sooner_of a (Some b) = cond (attr_lt b a) b a

abbrev earliest : List Attr → Option Attr
earliest [] = None
earliest (a ∷ rest) = Some (sooner_of a (earliest rest))

not_before_itself : (a : Attr) → attr_lt a a ≡ false
not_before_itself a = grind (arith, nat_tests)

not_before : (a b c : Attr) → attr_lt a b ≡ false → attr_lt b c ≡ false → attr_lt a c ≡ false
not_before a b c h k = grind (arith, nat_tests, h, k)

before_not : (a b : Attr) → attr_lt a b ≡ true → attr_lt b a ≡ false
before_not a b h = grind (arith, nat_tests, h)

-- it is among them, and none comes before it
abbrev IsEarliest : List Attr → Attr → Type 0
IsEarliest xs e = Has xs e × ((a : Attr) → Has xs a → attr_lt a e ≡ false)

pick_is : (a c : Attr) (rest : List Attr) (b : Bool) → attr_lt c a ≡ b → IsEarliest rest c → IsEarliest (a ∷ rest) (cond b c a)
pick_is a c rest true i m = (later m.0, λ b k. elim (has_cases a b rest k) [ inl j ↦ subst (λ b. attr_lt b c ≡ false) j (before_not c a i) | inr n ↦ m.1 b n ])
pick_is a c rest false i m = (first, λ b k. elim (has_cases a b rest k) [ inl j ↦ subst (λ b. attr_lt b a ≡ false) j (not_before_itself a) | inr n ↦ not_before b c a (m.1 b n) i ])

none_earliest : (xs : List Attr) → earliest xs ≡ None → (b : Attr) → Has xs b → ⊥
none_earliest [] g b k = Has-nil k
none_earliest (x ∷ xs) g b k = absurd cc

with_rest : (a : Attr) (rest : List Attr) (o : Option Attr) → earliest rest ≡ o → ((c : Attr) → earliest rest ≡ Some c → IsEarliest rest c) → IsEarliest (a ∷ rest) (sooner_of a o)
with_rest a rest None g f = (first, λ b k. elim (has_cases a b rest k) [ inl i ↦ subst (λ b. attr_lt b a ≡ false) i (not_before_itself a) | inr m ↦ absurd (none_earliest rest g b m) ])
with_rest a rest (Some c) g f = pick_is a c rest (attr_lt c a) refl (f c g)

earliest_is : (xs : List Attr) (e : Attr) → earliest xs ≡ Some e → IsEarliest xs e
earliest_is [] e h = absurd cc
earliest_is (a ∷ rest) e h = let f : sooner_of a (earliest rest) ≡ e = cc in subst (IsEarliest (a ∷ rest)) f (with_rest a rest (earliest rest) refl (λ c g. earliest_is rest c g))

module _ (q : QueryValue) (links : List Atom) (are : AreLinks q links) (d : Decided q links) (sound : (c : Condition) (a : Attr) → WholeBreaks q links c a → ⊥) where
  finite : Attr → Bool
  finite a = both_ends (d.keep a).lo (d.keep a).hi

  -- the columns of a place whose kept range is finite, and the others
  bounded_at : ℕ → List Attr
  bounded_at place = filter (λ a. nat_eq a.stream place && both_ends (d.keep a).lo (d.keep a).hi) (read_columns q links)

  open_at : ℕ → List Attr
  open_at place = filter (λ a. nat_eq a.stream place && not (both_ends (d.keep a).lo (d.keep a).hi)) (read_columns q links)

  extreme : Attr → Kind
  extreme e = cond (d.left_alone e) (Kind.Least e) (Kind.Greatest e)

  kind_with : Option Attr → Kind
  kind_with None = Kind.Present
  kind_with (Some e) = cond (d.left_alone e) (Kind.Least e) (Kind.Greatest e)

  -- a column that is read and has an open kept range stands in a link
  open_side : (a : Attr) → IsRead q links a → (IsFinite (d.keep a) → ⊥) → IsOpenSide q links a
  open_side a (Whole.selected h) n =
      let k : IsKeptRange q links a (d.keep a) = d.is_kept a (Whole.selected h) in
      let e : d.keep a ≡ k.own = kept_own_range q links a (d.keep a) k (Kept.selected a (class_itself (system q) a) h) in
      absurd (sound C1 a (h, (k.own, k.is_own, λ f. n (subst IsFinite (sym e) f))))
  open_side a (Whole.left t h e) n = record { link = t; among = h; side = inl e; unbounded = (d.keep a, d.is_kept a (Whole.left t h e), n) }
  open_side a (Whole.right t h e) n = record { link = t; among = h; side = inr e; unbounded = (d.keep a, d.is_kept a (Whole.right t h e), n) }

  -- its query has DISTINCT, it is one-way, and no other open class comes before it
  third : (a : Attr) → IsOpenSide q links a → ((q.distinct ≡ true → IsOneWay q links a → HasEarlier q links a) → ⊥)
  third a o g = sound C3 a (o, (λ k. sound C2 a (o, inl k)), (λ u. sound C2 a (o, inr u)), g)

  distinct_is : (a : Attr) → IsOpenSide q links a → q.distinct ≡ true
  distinct_is a o = elim (true_or_false q.distinct) [ inl e ↦ e | inr e ↦ absurd (third a o (λ t. absurd (not_both q.distinct t e))) ]

  way_is : (a : Attr) → IsOpenSide q links a → IsOneWay q links a
  way_is a o = elim (true_or_false (d.left_alone a)) [
    | inl e ↦ inl ((d.is_left a).0 e)
    | inr e ↦ elim (true_or_false (d.right_alone a)) [
      | inl g ↦ inr ((d.is_right a).0 g)
      | inr g ↦ absurd (third a o (λ t w. absurd (elim w [ inl i ↦ not_both (d.left_alone a) ((d.is_left a).1 i) e | inr i ↦ not_both (d.right_alone a) ((d.is_right a).1 i) g ])))
    ]
  ]

  -- two open classes of one stream are one
  one_open : (a e : Attr) → IsOpenSide q links a → IsOpenSide q links e → e.stream ≡ a.stream → attr_lt a e ≡ false → AreOneClass (system q) e a
  one_open a e o p s n = elim (true_or_false (d.tied e a)) [
    | inl t ↦ (d.is_tied e a).0 t
    | inr t ↦ elim (true_or_false (attr_lt e a)) [
      | inl l ↦ absurd (third a o (λ i w. record { first = e; stream = s; unbounded = p; way = way_is e p; before = l; apart = λ c. not_both (d.tied e a) ((d.is_tied e a).1 c) t }))
      | inr l ↦ (let g : e ≡ a = attr_separates e a l n in subst (AreOneClass (system q) e) g (class_itself (system q) e))
    ]
  ]

  open_in : (place : ℕ) (a : Attr) → Has (open_at place) a → (a.stream ≡ place) × IsOpenSide q links a
  unfolding open_at
  open_in place a h =
      let t : (nat_eq a.stream place && not (both_ends (d.keep a).lo (d.keep a).hi)) ≡ true = Has-filter_holds (λ a. nat_eq a.stream place && not (both_ends (d.keep a).lo (d.keep a).hi)) (read_columns q links) a h in
      let r : IsRead q links a = read_from q links a (Has-filter_from (λ a. nat_eq a.stream place && not (both_ends (d.keep a).lo (d.keep a).hi)) (read_columns q links) a h) in
      (nat_true a.stream place (and-left _ _ t), open_side a r (λ f. not_true (both_ends (d.keep a).lo (d.keep a).hi) (finite_ends (d.keep a).lo (d.keep a).hi f) (and-right (nat_eq a.stream place) _ t)))
    where
      not_true : (b : Bool) → b ≡ true → not b ≡ true → ⊥
      not_true true e g = cc
      not_true false e g = cc

  bounded_in : (place : ℕ) (a : Attr) → Has (bounded_at place) a → (a.stream ≡ place) × IsRead q links a × IsFinite (d.keep a)
  unfolding bounded_at
  bounded_in place a h =
      let t : (nat_eq a.stream place && both_ends (d.keep a).lo (d.keep a).hi) ≡ true = Has-filter_holds (λ a. nat_eq a.stream place && both_ends (d.keep a).lo (d.keep a).hi) (read_columns q links) a h in (
        nat_true a.stream place (and-left _ _ t),
        read_from q links a (Has-filter_from (λ a. nat_eq a.stream place && both_ends (d.keep a).lo (d.keep a).hi) (read_columns q links) a h),
        ends_finite (d.keep a).lo (d.keep a).hi (and-right (nat_eq a.stream place) _ t),
      )

  same_place : (a : Attr) (place : ℕ) → a.stream ≡ place → nat_eq a.stream place ≡ true
  same_place a place e = grind (arith, e)

  either : (place : ℕ) (a : Attr) → a.stream ≡ place → IsRead q links a → Has (bounded_at place) a ⊎ Has (open_at place) a
  unfolding bounded_at open_at
  either place a e r = elim (true_or_false (both_ends (d.keep a).lo (d.keep a).hi)) [
    | inl f ↦ inl (Has-filter (λ a. nat_eq a.stream place && both_ends (d.keep a).lo (d.keep a).hi) (and-both _ _ (same_place a place e) f) (read_there q links a r))
    | inr f ↦ inr (Has-filter (λ a. nat_eq a.stream place && not (both_ends (d.keep a).lo (d.keep a).hi)) (and-both _ _ (same_place a place e) (ap not f)) (read_there q links a r))
  ]

  kind_at : ℕ → Kind
  kind_at place = cond q.distinct (kind_with (earliest (open_at place))) Kind.Count

  keep_at : ℕ → StreamKeep
  keep_at place = record { dims = map (λ a. record { attr = a; range = d.keep a }) (bounded_at place); kind = kind_at place }

  dim_in : (place : ℕ) (k : KeptDim) → Has (keep_at place).dims k → (a : Attr) × Has (bounded_at place) a × (record { attr = a; range = d.keep a } ≡ k)
  unfolding keep_at
  dim_in place k h = Has-map_from (λ a. let x : KeptDim = record { attr = a; range = d.keep a } in x) (bounded_at place) k h

  the_kind : (place : ℕ) (b : Bool) → q.distinct ≡ b → IsWholeKind q links place (cond b (kind_with (earliest (open_at place))) Kind.Count)
  unfolding kind_with
  the_kind place false e = e
  the_kind place true e = with_first (earliest (open_at place)) refl
    where
      side : (x : Attr) → (x.stream ≡ place) × IsOpenSide q links x → (b : Bool) → d.left_alone x ≡ b → IsWholeKind q links place (cond b (Kind.Least x) (Kind.Greatest x))
      side x o true g = (e, o.0, (d.is_left x).0 g)
      side x o false g = (e, o.0, elim (way_is x o.1) [ inl i ↦ absurd (not_both (d.left_alone x) ((d.is_left x).1 i) g) | inr i ↦ i ])

      with_first : (o : Option Attr) → earliest (open_at place) ≡ o → IsWholeKind q links place (kind_with o)
      with_first None g = e
      with_first (Some x) g = side x (open_in place x (earliest_is (open_at place) x g).0) (d.left_alone x) refl

  -- an open column is of the class of the extreme
  by_extreme : (place : ℕ) (a : Attr) → Has (open_at place) a → IsServed q (keep_at place) a
  unfolding keep_at kind_at kind_with
  by_extreme place a h = with_first (earliest (open_at place)) refl
    where
      o : (a.stream ≡ place) × IsOpenSide q links a
      o = open_in place a h

      side : (x : Attr) → AreOneClass (system q) x a → (b : Bool) → d.left_alone x ≡ b → (keep_at place).kind ≡ cond b (Kind.Least x) (Kind.Greatest x) → IsServed q (keep_at place) a
      side x c true g k = Whole.least x k c
      side x c false g k = Whole.greatest x k c

      with_first : (m : Option Attr) → earliest (open_at place) ≡ m → IsServed q (keep_at place) a
      with_first None g = absurd (none_earliest (open_at place) g a h)
      with_first (Some x) g =
          let i : IsEarliest (open_at place) x = earliest_is (open_at place) x g in
          let p = open_in place x i.0 in
          let c : AreOneClass (system q) x a = one_open a x o.1 p.1 (p.0 ∙ sym o.0) (i.1 a h) in
          side x c (d.left_alone x) refl (ap (λ b. cond b (kind_with (earliest (open_at place))) Kind.Count) (distinct_is a o.1) ∙ ap kind_with g)

  serves : (place : ℕ) → Serves q links place (keep_at place)
  unfolding keep_at kind_at
  serves place = record {
    kind = the_kind place q.distinct refl;
    stream = λ k h. (let r = dim_in place k h in subst (λ k. k.attr.stream ≡ place) r.2 (bounded_in place r.0 r.1).0);
    range = λ k h. (let r = dim_in place k h in subst (λ k. IsKeptRange q links k.attr k.range) r.2 (d.is_kept r.0 (bounded_in place r.0 r.1).1));
    all = λ a e r. elim (either place a e r) [
      | inl h ↦ Whole.dim record { attr = a; range = d.keep a } (Has-map (λ a. let x : KeptDim = record { attr = a; range = d.keep a } in x) h) (class_itself (system q) a)
      | inr h ↦ by_extreme place a h
    ];
  }

pub finite_forms_exist : FiniteFormsExist
finite_forms_exist q within links are d sound = (
  record { links = links; keeps = keep_at q links are d sound; admits = d.admits },
  refl,
  record {
    links = are;
    ranges = λ a r. (d.range a, d.is_range a r);
    serves = λ place l. serves q links are d sound place;
    admits = d.is_admitted;
  },
  λ place l k h. (let r = dim_in q links are d sound place k h in subst (λ k. IsFinite k.range) r.2 (bounded_in q links are d sound place r.0 r.1).2),
)
