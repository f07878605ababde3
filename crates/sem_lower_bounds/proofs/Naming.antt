-- What a part has by its definition: the name of a class, free columns, least and greatest values, the kind of what is kept.
use Rattle.std.proofs.Common.{◌≡◌, ℕ, zero, suc, ◌⊎◌, inl, inr, List, [], ◌∷◌, true, ◌==◌, refl, sym, ◌∙◌, subst, arith, ℤ, pos, ◌+ℤ◌, ◌-ℤ◌, ◌≤ℤ◌, ◌<ℤ◌, nat_abs, Contains}
use Rattle.std.proofs.lemmas.Int.{ints, by_lt_z}
use Rattle.sem_query.proofs.Has.{Has, first, later, Has-from_contains, Contains-from_has}
use Rattle.sem_query.proofs.Unique.{Ascends, more}
use Rattle.sem_query.proofs.Ascending.{Ascends-attrs_of}
use Rattle.sem_laws.proofs.Tests.{true_or_false, nat_true}
use Rattle.sem_laws.proofs.OnePartFits.{has_cases}
use Rattle.sem_laws.proofs.NoViolation.{equal_or_not}
use Rattle.sem_lower_bounds.specs.Plain.{HasNoDomains}
use Rattle.sem_lower_bounds.proofs.Changing.{changed, changed-there, still_inside, named_or_free}
use Rattle.sem_query.specs.declared.atom.Attr.{Attr}
use Rattle.sem_query.specs.declared.atom.Element.{Element}
use Rattle.sem_query.specs.declared.atom.Element.TheVariants as element
use Rattle.sem_query.specs.declared.part.Sign.{Sign}
use Rattle.sem_query.specs.declared.plan.Kind.{Kind}
use Rattle.sem_query.specs.Query.{QueryValue, attrs_of, attr_lt}
use Rattle.sem_query.specs.Assignment.{Assignment, value}
use Rattle.sem_query.specs.Parts.{InPart, IsPart}
use Rattle.sem_query.specs.Order.{IsLess, IsEqual, IsBounded, IsLeast, IsGreatest}
use Rattle.sem_query.specs.Links.{IsMinRef, IsMaxRef, IsRedundant, between, equal_left, equal_right}
use Rattle.sem_query.specs.Plan.{AreOneClass, NamesClass, IsKind}
use Rattle.sem_lower_bounds.proofs.Possible.{Possible, possible, followed, either}

pub not-itself : (a : Attr) → attr_lt a a ≡ true → ⊥
not-itself a h = grind (arith, h)

pub not-both_ways : (a b : Attr) → attr_lt a b ≡ true → attr_lt b a ≡ true → ⊥
not-both_ways a b h k = grind (arith, h, k)

same_or_not : (m n : ℕ) → (m ≡ n) ⊎ (m ≡ n → ⊥)
same_or_not m n = elim (true_or_false (m == n)) [
  | inl h ↦ inl (nat_true m n h)
  | inr h ↦ inr (λ e. grind (arith, h, e))
]

module _ (q : QueryValue) (s : List Sign) (p : IsPart q s) where
  -- where no column has a domain, a bounded column is named
  pub bounded-named : HasNoDomains q → (a : Attr) → IsBounded q s a → Has (attrs_of q.atoms) a
  bounded-named none a b = elim (named_or_free (attrs_of q.atoms) a) [
    | inl h ↦ h
    | inr free ↦ (
        let z : ℤ = b.high +ℤ pos 1 in
        let l : changed p.one a z a ≤ℤ b.high = b.below (changed p.one a z) (still_inside q none s p.one p.inside a free z) in
        let e : changed p.one a z a ≡ z = changed-there p.one a z in
        absurd (omega (arith, ints, l, e)))
  ]

  pub class_itself : (a : Attr) → AreOneClass q s a a
  class_itself a = record { named = inl refl; stream = refl; equal = record { equal = λ v i. refl } }

  pub class_turned : (a b : Attr) → AreOneClass q s a b → AreOneClass q s b a
  class_turned a b c =
      record { named = elim c.named [ inl e ↦ inl (sym e) | inr n ↦ inr (n.1, n.0) ]; stream = sym c.stream; equal = record { equal = λ v i. sym (c.equal.equal v i) } }

  -- what is of one class with an attribute is one
  pub class-named : (a b : Attr) → AreOneClass q s a b → Contains (attrs_of q.atoms) b → Contains (attrs_of q.atoms) a
  class-named a b c h = elim c.named [ inl e ↦ subst (λ z. Contains (attrs_of q.atoms) z) (sym e) h | inr n ↦ n.0 ]

  pub class_then : (a b c : Attr) → AreOneClass q s a b → AreOneClass q s b c → AreOneClass q s a c
  class_then a b c x y =
      record { named = both-named a b c x.named y.named; stream = x.stream ∙ y.stream; equal = record { equal = λ v i. x.equal.equal v i ∙ y.equal.equal v i } }
    where
      both-named : (a b c : Attr) → (a ≡ b) ⊎ (Contains (attrs_of q.atoms) a × Contains (attrs_of q.atoms) b) → (b ≡ c) ⊎ (Contains (attrs_of q.atoms) b × Contains (attrs_of q.atoms) c)
          → (a ≡ c) ⊎ (Contains (attrs_of q.atoms) a × Contains (attrs_of q.atoms) c)
      both-named a b c (inl e) (inl f) = inl (e ∙ f)
      both-named a b c (inl e) (inr n) = inr (subst (λ z. Contains (attrs_of q.atoms) z) (sym e) n.0, n.1)
      both-named a b c (inr m) (inl f) = inr (m.0, subst (λ z. Contains (attrs_of q.atoms) z) f m.1)
      both-named a b c (inr m) (inr n) = inr (m.0, n.1)

  class_or_not : (a b : Attr) → Contains (attrs_of q.atoms) a → Contains (attrs_of q.atoms) b → AreOneClass q s a b ⊎ (AreOneClass q s a b → ⊥)
  class_or_not a b h k = elim (same_or_not a.stream b.stream) [
    | inl e ↦ elim (equal_or_not q s p a b h k e) [ inl c ↦ inl c | inr n ↦ inr n ]
    | inr n ↦ inr (λ c. n c.stream)
  ]

  -- the first member of a class among some attributes
  record First (xs : List Attr) (a : Attr) : Type 0 where
    name : Attr
    among : Has xs name
    same : AreOneClass q s name a
    least : (b : Attr) → Has xs b → AreOneClass q s b a → attr_lt b name ≡ true → ⊥

  here : (x : Attr) (xs : List Attr) (a : Attr) → ((y : Attr) → Has xs y → attr_lt x y ≡ true) → AreOneClass q s x a → First (x ∷ xs) a
  here x xs a f c = record {
    name = x;
    among = first;
    same = c;
    least = λ b h d l. elim (has_cases x b xs h) [
      | inl e ↦ not-itself x (subst (λ z. attr_lt z x ≡ true) (sym e) l)
      | inr k ↦ not-both_ways x b (f b k) l
    ];
  }

  there : (x : Attr) (xs : List Attr) (a : Attr) → (AreOneClass q s x a → ⊥) → First xs a → First (x ∷ xs) a
  there x xs a n r = record {
    name = r.name;
    among = later r.among;
    same = r.same;
    least = λ b h d l. elim (has_cases x b xs h) [
      | inl e ↦ n (subst (λ z. AreOneClass q s z a) (sym e) d)
      | inr k ↦ r.least b k d l
    ];
  }

  first_of : (a : Attr) → Contains (attrs_of q.atoms) a → (xs : List Attr) → Ascends attr_lt xs → ((b : Attr) → Has xs b → Has (attrs_of q.atoms) b) → Has xs a → First xs a
  first_of a k [] o into h = elim h [ ]
  first_of a k (x ∷ xs) (more f o) into h = elim (class_or_not x a (Contains-from_has (attrs_of q.atoms) x (into x first)) k) [
    | inl c ↦ here x xs a f c
    | inr n ↦ elim (has_cases x a xs h) [
      | inl e ↦ absurd (n (subst (λ z. AreOneClass q s z a) (sym e) (class_itself a)))
      | inr i ↦ there x xs a n (first_of a k xs o (λ b j. into b (later j)) i)
    ]
  ]

  -- the attribute that names the class of another
  pub record Name (a : Attr) : Type 0 where
    pub name : Attr
    pub names : NamesClass q s name
    pub among : Has (attrs_of q.atoms) name
    pub same : AreOneClass q s name a

  pub name_of : (a : Attr) → Contains (attrs_of q.atoms) a → Name a
  name_of a k =
      let r : First (attrs_of q.atoms) a = first_of a k (attrs_of q.atoms) (Ascends-attrs_of q.atoms) (λ b h. h) (Has-from_contains (attrs_of q.atoms) a k) in
      record {
        name = r.name;
        names = record {
          named = inl (Contains-from_has (attrs_of q.atoms) r.name r.among);
          first = λ b c l. r.least b (Has-from_contains (attrs_of q.atoms) b (class-named b r.name c (Contains-from_has (attrs_of q.atoms) r.name r.among))) (class_then b r.name a c r.same) l;
        };
        among = r.among;
        same = r.same;
      }

  pub bounded-along : (n a : Attr) → AreOneClass q s n a → IsBounded q s n → IsBounded q s a
  bounded-along n a c b = record {
    low = b.low;
    high = b.high;
    above = λ v i. subst (λ x. b.low ≤ℤ x) (c.equal.equal v i) (b.above v i);
    below = λ v i. subst (λ x. x ≤ℤ b.high) (c.equal.equal v i) (b.below v i);
  }

  less-left : (n a : Attr) (y : Element) → AreOneClass q s n a → IsLess q s (element.Attr n) y → IsLess q s (element.Attr a) y
  less-left n a y c l = record { less = λ v i. subst (λ x. x <ℤ value y v) (c.equal.equal v i) (l.less v i) }

  less-right : (n a : Attr) (y : Element) → AreOneClass q s n a → IsLess q s y (element.Attr n) → IsLess q s y (element.Attr a)
  less-right n a y c l = record { less = λ v i. subst (λ x. value y v <ℤ x) (c.equal.equal v i) (l.less v i) }

  equal-left : (n a : Attr) (y : Element) → AreOneClass q s n a → IsEqual q s (element.Attr n) y → IsEqual q s (element.Attr a) y
  equal-left n a y c l = record { equal = λ v i. sym (c.equal.equal v i) ∙ l.equal v i }

  redundant-left : (n a y : Attr) → AreOneClass q s n a → IsRedundant q s n y → IsRedundant q s a y
  redundant-left n a y c (between e i l m) = between e i (less-left n a e c l) m
  redundant-left n a y c (equal_left k i e l) = equal_left k i (equal-left n a (element.Const k) c e) l
  redundant-left n a y c (equal_right k i l e) = equal_right k i (less-left n a (element.Const k) c l) e

  redundant-right : (n a y : Attr) → AreOneClass q s n a → IsRedundant q s y n → IsRedundant q s y a
  redundant-right n a y c (between e i l m) = between e i l (less-right n a e c m)
  redundant-right n a y c (equal_left k i e l) = equal_left k i e (less-right n a (element.Const k) c l)
  redundant-right n a y c (equal_right k i l e) =
      equal_right k i l record { equal = λ v j. e.equal v j ∙ c.equal.equal v j }

  min-along : (n a : Attr) → AreOneClass q s n a → IsMinRef q s a → IsMinRef q s n
  min-along n a c m = record {
    unbounded = λ b. m.unbounded (bounded-along n a c b);
    other = m.other;
    inequality = record {
      across = record { left = class-named n a c m.inequality.across.left; right = m.inequality.across.right; across = λ e. m.inequality.across.across (sym c.stream ∙ e) };
      less = less-left a n (element.Attr m.other) (class_turned n a c) m.inequality.less;
      needed = λ r. m.inequality.needed (redundant-left n a m.other c r);
    };
  }

  max-along : (n a : Attr) → AreOneClass q s n a → IsMaxRef q s a → IsMaxRef q s n
  max-along n a c m = record {
    unbounded = λ b. m.unbounded (bounded-along n a c b);
    other = m.other;
    inequality = record {
      across = record { left = m.inequality.across.left; right = class-named n a c m.inequality.across.right; across = λ e. m.inequality.across.across (e ∙ c.stream) };
      less = less-right a n (element.Attr m.other) (class_turned n a c) m.inequality.less;
      needed = λ r. m.inequality.needed (redundant-right n a m.other c r);
    };
  }

  -- a reference of a stream
  record MinAt (place : ℕ) : Type 0 where
    attr : Attr
    at : attr.stream ≡ place
    ref : IsMinRef q s attr

  record MaxAt (place : ℕ) : Type 0 where
    attr : Attr
    at : attr.stream ≡ place
    ref : IsMaxRef q s attr

  least_kind : (place : ℕ) → q.distinct ≡ true → MinAt place → (k : Kind) × IsKind q s place k
  least_kind place d m =
      let n : Name m.attr = name_of m.attr m.ref.inequality.across.left in
      (Kind.Least n.name, (d, n.same.stream ∙ m.at, n.names, min-along n.name m.attr n.same m.ref))

  greatest_kind : (place : ℕ) → q.distinct ≡ true → MaxAt place → (k : Kind) × IsKind q s place k
  greatest_kind place d m =
      let n : Name m.attr = name_of m.attr m.ref.inequality.across.right in
      (Kind.Greatest n.name, (d, n.same.stream ∙ m.at, n.names, max-along n.name m.attr n.same m.ref))

  present_kind : (place : ℕ) → q.distinct ≡ true → (MinAt place → ⊥) → (MaxAt place → ⊥) → (k : Kind) × IsKind q s place k
  present_kind place d f g =
      (Kind.Present, (d, λ a e. ((λ m. f record { attr = a; at = e; ref = m }), (λ m. g record { attr = a; at = e; ref = m }))))

  -- what is kept of a stream is of some kind
  pub some_kind : (place : ℕ) → Possible ((k : Kind) × IsKind q s place k)
  some_kind place = elim (true_or_false q.distinct) [
    | inl d ↦ followed (either {A = MinAt place}) (λ o. elim o [
      | inl m ↦ possible (least_kind place d m)
      | inr f ↦ followed (either {A = MaxAt place}) (λ u. elim u [
        | inl m ↦ possible (greatest_kind place d m)
        | inr g ↦ possible (present_kind place d f g)
      ])
    ])
    | inr d ↦ possible (Kind.Count, d)
  ]

  -- an assignment with a lesser value
  record Lesser (a : Attr) (v : Assignment) : Type 0 where
    at : Assignment
    inside : InPart q s at
    less : at a <ℤ v a

  least_from : (a : Attr) (low : ℤ) → ((v : Assignment) → InPart q s v → low ≤ℤ v a) → (n : ℕ) (v : Assignment) → InPart q s v → v a ≤ℤ (low +ℤ pos n)
      → Possible ((z : ℤ) × IsLeast q s a z)
  least_from a low above zero v i h =
      possible (v a, record { at = v; inside = i; reached = refl; above = λ w j. (let l : low ≤ℤ w a = above w j in omega (arith, ints, l, h)) })
  least_from a low above (suc n) v i h = followed (either {A = Lesser a v}) (λ o. elim o [
    | inl r ↦ (let l : r.at a <ℤ v a = r.less in least_from a low above n r.at r.inside (omega (arith, ints, l, h)))
    | inr f ↦ possible (
      v a,
      record {
        at = v;
        inside = i;
        reached = refl;
        above = λ w j. by_lt_z (w a) (v a) (λ l. absurd (f record { at = w; inside = j; less = l })) (λ l. l);
      },
    )
  ])

  -- a bounded column has a least value
  pub some_least : (a : Attr) → IsBounded q s a → Possible ((z : ℤ) × IsLeast q s a z)
  some_least a b =
      let l : b.low ≤ℤ p.one a = b.above p.one p.inside in
      least_from a b.low b.above (nat_abs (p.one a -ℤ b.low)) p.one p.inside (omega (arith, ints, l))

  record Greater (a : Attr) (v : Assignment) : Type 0 where
    at : Assignment
    inside : InPart q s at
    greater : v a <ℤ at a

  greatest_from : (a : Attr) (high : ℤ) → ((v : Assignment) → InPart q s v → v a ≤ℤ high) → (n : ℕ) (v : Assignment) → InPart q s v → high ≤ℤ (v a +ℤ pos n)
      → Possible ((z : ℤ) × IsGreatest q s a z)
  greatest_from a high below zero v i h =
      possible (v a, record { at = v; inside = i; reached = refl; below = λ w j. (let l : w a ≤ℤ high = below w j in omega (arith, ints, l, h)) })
  greatest_from a high below (suc n) v i h = followed (either {A = Greater a v}) (λ o. elim o [
    | inl r ↦ (let l : v a <ℤ r.at a = r.greater in greatest_from a high below n r.at r.inside (omega (arith, ints, l, h)))
    | inr f ↦ possible (
      v a,
      record {
        at = v;
        inside = i;
        reached = refl;
        below = λ w j. by_lt_z (v a) (w a) (λ l. absurd (f record { at = w; inside = j; greater = l })) (λ l. l);
      },
    )
  ])

  -- and a greatest one
  pub some_greatest : (a : Attr) → IsBounded q s a → Possible ((z : ℤ) × IsGreatest q s a z)
  some_greatest a b =
      let l : p.one a ≤ℤ b.high = b.below p.one p.inside in
      greatest_from a b.high b.below (nat_abs (b.high -ℤ p.one a)) p.one p.inside (omega (arith, ints, l))
