-- The links and the dims of a part: some lists are these.
use Rattle.std.proofs.Common.{◌≡◌, ℕ, inl, inr, List, [], ◌∷◌, ◌++◌, map, Bool, true, false, cond, refl, sym, ap, ◌∙◌, subst, Contains, AllPairs}
use Rattle.std.specs.Prelude.{IsTrue, ◌↔◌}
use Rattle.std.specs.List.{flat_map}
use Rattle.sem_query.proofs.Has.{Has, first, later, Has-from_contains, Contains-from_has, Has-map, Has-map_from, Has-append_left, Has-append_right, Has-append_cases}
use Rattle.sem_query.proofs.Unique.{Ascends, none, more}
use Rattle.sem_query.proofs.Ascending.{Ascends-attrs_of}
use Rattle.sem_query.specs.declared.atom.Attr.{Attr}
use Rattle.sem_query.specs.declared.part.Sign.{Sign}
use Rattle.sem_query.specs.declared.plan.Dim.{Dim}
use Rattle.sem_query.specs.declared.plan.Link.{Link}
use Rattle.sem_query.specs.Query.{QueryValue, attrs_of, attr_lt}
use Rattle.sem_query.specs.Parts.{IsPart}
use Rattle.sem_query.specs.Order.{IsBounded, IsLeast, IsGreatest}
use Rattle.sem_query.specs.Links.{IsEquality, IsInequality}
use Rattle.sem_query.specs.Plan.{IsWanted, AreOneClass, NamesClass, IsDim, AreDims, link, link_lt}
use Rattle.sem_lower_bounds.specs.Plain.{HasNoDomains}
use Rattle.sem_lower_bounds.proofs.Possible.{Possible, possible, followed, Sifted, sifted, sifted-from, sifted-into, sifted-ascends, Paired, paired-all, paired-from, paired-into, paired-ascends, all-from-has, pairs-ascend}
use Rattle.sem_lower_bounds.proofs.Naming.{not-itself, bounded-named, class_turned, bounded-along, Name, name_of, some_least, some_greatest}

append-ascends : {X : Type 0} (lt : X → X → Bool) (xs ys : List X) → Ascends lt xs → Ascends lt ys
    → ((x y : X) → Has xs x → Has ys y → lt x y ≡ true) → Ascends lt (xs ++ ys)
append-ascends lt [] ys a b f = b
append-ascends lt (x ∷ xs) ys (more g a) b f =
    more (λ y h. elim (Has-append_cases xs ys y h) [ inl i ↦ g y i | inr i ↦ f x y first i ])
    (append-ascends lt xs ys a b (λ z y h i. f z y (later h) i))

-- the links of each of some columns with each of others
abbrev all_links : List Attr → List Attr → List Link
all_links xs ys = flat_map (λ x. map (link x) ys) xs

by_right : (x y z : Attr) → attr_lt y z ≡ true → link_lt (link x y) (link x z) ≡ true
by_right x y z h = by (attr_lt x x) (not-itself x)
  where
    by : (b : Bool) → (b ≡ true → ⊥) → cond b true (cond b false (attr_lt y z)) ≡ true
    by true n = absurd (n refl)
    by false n = h

by_left : (l m : Link) → attr_lt l.left m.left ≡ true → link_lt l m ≡ true
by_left l m h = ap (λ b. cond b true (cond (attr_lt m.left l.left) false (attr_lt l.right m.right))) h

one-ascends : (x : Attr) (ys : List Attr) → Ascends attr_lt ys → Ascends link_lt (map (link x) ys)
one-ascends x [] a = none
one-ascends x (y ∷ ys) (more f a) =
    more (λ l h. let o : (z : Attr) × Has ys z × (link x z ≡ l) = Has-map_from (link x) ys l h in
    subst (λ m. link_lt (link x y) m ≡ true) o.2 (by_right x y o.0 (f o.0 o.1)))
    (one-ascends x ys a)

left_among : (xs ys : List Attr) (l : Link) → Has (all_links xs ys) l → Has xs l.left
left_among [] ys l h = elim h [ ]
left_among (x ∷ xs) ys l h = elim (Has-append_cases (map (link x) ys) (all_links xs ys) l h) [
  | inl i ↦ (let o : (z : Attr) × Has ys z × (link x z ≡ l) = Has-map_from (link x) ys l i in subst (λ (m : Link). Has (x ∷ xs) m.left) o.2 first)
  | inr i ↦ later (left_among xs ys l i)
]

all-ascend : (xs ys : List Attr) → Ascends attr_lt xs → Ascends attr_lt ys → Ascends link_lt (all_links xs ys)
all-ascend [] ys a b = none
all-ascend (x ∷ xs) ys (more f a) b =
    append-ascends link_lt (map (link x) ys) (all_links xs ys) (one-ascends x ys b) (all-ascend xs ys a b)
    (λ l m h i. let o : (z : Attr) × Has ys z × (link x z ≡ l) = Has-map_from (link x) ys l h in
    subst (λ k. link_lt k m ≡ true) o.2 (by_left (link x o.0) m (f m.left (left_among xs ys m i))))

has-link : (xs ys : List Attr) (x y : Attr) → Has xs x → Has ys y → Has (all_links xs ys) (link x y)
has-link [] ys x y h i = elim h [ ]
has-link (z ∷ xs) ys x y first i = Has-append_left (all_links xs ys) (Has-map (link x) i)
has-link (z ∷ xs) ys x y (later h) i = Has-append_right (map (link z) ys) (has-link xs ys x y h i)

-- the links of a kind, ascending
pub record AreLinks (R : Attr → Attr → Type 0) (links : List Link) : Type 0 where
  pub each : (x y : Attr) → Contains links (link x y) ↔ R x y
  pub ascend : AllPairs (λ x y. IsTrue (link_lt x y)) links

-- some list has the links of a kind, where these are between columns that comparisons name
pub some_links : (q : QueryValue) (R : Attr → Attr → Type 0)
    → ((x y : Attr) → R x y → Contains (attrs_of q.atoms) x × Contains (attrs_of q.atoms) y)
    → Possible ((links : List Link) × AreLinks R links)
some_links q R named = followed (sifted P all) (λ r. possible (
  r.0,
  record {
    each = λ x y. (
      (λ i. (sifted-from P all r.0 r.1 (link x y) (Has-from_contains r.0 (link x y) i)).0),
      (λ h. Contains-from_has r.0 (link x y) (sifted-into P all r.0 r.1 (link x y)
          (has-link attrs attrs x y (Has-from_contains attrs x (named x y h).0) (Has-from_contains attrs y (named x y h).1)) h)),
    );
    ascend = pairs-ascend link_lt r.0 (sifted-ascends P link_lt all r.0 r.1 (all-ascend attrs attrs (Ascends-attrs_of q.atoms) (Ascends-attrs_of q.atoms)));
  },
))
  where
    attrs : List Attr
    attrs = attrs_of q.atoms

    all : List Link
    all = all_links attrs attrs

    P : Link → Type 0
    P l = R l.left l.right

module _ (q : QueryValue) (none : HasNoDomains q) (s : List Sign) (p : IsPart q s) (place : ℕ) where
  -- an attribute that names a dim of the place
  record NamesDim (a : Attr) : Type 0 where
    here : a.stream ≡ place
    name : NamesClass q s a
    bounded : IsBounded q s a
    member : Attr
    inside : AreOneClass q s a member
    wanted : IsWanted q s member

  -- the dim of such an attribute
  record IsDimOf (a : Attr) (d : Dim) : Type 0 where
    attr : d.attr ≡ a
    low : IsLeast q s a d.lo
    high : IsGreatest q s a d.hi

  dim_of : (a : Attr) → NamesDim a → Possible ((d : Dim) × IsDimOf a d)
  dim_of a n =
      followed (some_least q s p a n.bounded) (λ l. followed (some_greatest q s p a n.bounded) (λ h.
      possible (record { attr = a; lo = l.0; hi = h.0 }, record { attr = refl; low = l.1; high = h.1 })))

  is_dim : (a : Attr) (d : Dim) → NamesDim a → IsDimOf a d → IsDim q s place d
  is_dim a d n i = record {
    here = ap (λ (b : Attr). b.stream) i.attr ∙ n.here;
    name = subst (NamesClass q s) (sym i.attr) n.name;
    low = subst (λ b. IsLeast q s b d.lo) (sym i.attr) i.low;
    high = subst (λ b. IsGreatest q s b d.hi) (sym i.attr) i.high;
    member = n.member;
    inside = subst (λ b. AreOneClass q s b n.member) (sym i.attr) n.inside;
    wanted = n.wanted;
  }

  -- the dim that a bounded column answers by
  dim_name : (a : Attr) → a.stream ≡ place → IsWanted q s a → IsBounded q s a → (n : Attr) × Has (attrs_of q.atoms) n × NamesDim n × AreOneClass q s n a
  dim_name a e w b =
      let r : Name q s p a = name_of q s p a (Contains-from_has (attrs_of q.atoms) a (bounded-named q s p none a b)) in (
        r.name,
        r.among,
        record {
          here = r.same.stream ∙ e;
          name = r.names;
          bounded = bounded-along q s p a r.name (class_turned q s p r.name a r.same) b;
          member = a;
          inside = r.same;
          wanted = w;
        },
        r.same,
      )

  dims_are : (names : List Attr) (ds : List Dim) → Sifted NamesDim (attrs_of q.atoms) names → Paired IsDimOf names ds → AreDims q s place ds
  dims_are names ds r o = record {
    ascending = pairs-ascend lt ds (paired-ascends IsDimOf attr_lt lt carried names ds o (sifted-ascends NamesDim attr_lt (attrs_of q.atoms) names r (Ascends-attrs_of q.atoms)));
    each = all-from-has (IsDim q s place) ds (λ d h.
        let t : (a : Attr) × Has names a × IsDimOf a d = paired-from IsDimOf names ds o d h in
        is_dim t.0 d (sifted-from NamesDim (attrs_of q.atoms) names r t.0 t.1).0 t.2);
    all = λ a e w b.
        let n : (n : Attr) × Has (attrs_of q.atoms) n × NamesDim n × AreOneClass q s n a = dim_name a e w b in
        let t : (d : Dim) × Has ds d × IsDimOf n.0 d = paired-into IsDimOf names ds o n.0 (sifted-into NamesDim (attrs_of q.atoms) names r n.0 n.1 n.2) in
        (t.0, Contains-from_has ds t.0 t.1, subst (λ c. AreOneClass q s c a) (sym t.2.attr) n.3);
  }
    where
      lt : Dim → Dim → Bool
      lt d e = attr_lt d.attr e.attr

      carried : (a b : Attr) (d e : Dim) → IsDimOf a d → IsDimOf b e → attr_lt a b ≡ true → lt d e ≡ true
      carried a b d e i j l = ap (λ x. attr_lt x e.attr) i.attr ∙ ap (attr_lt a) j.attr ∙ l

  -- some list has the dims of the place
  pub some_dims : Possible ((ds : List Dim) × AreDims q s place ds)
  some_dims =
      followed (sifted NamesDim (attrs_of q.atoms)) (λ r. followed (paired-all IsDimOf r.0 (λ a h. dim_of a (sifted-from NamesDim (attrs_of q.atoms) r.0 r.1 a h).0)) (λ o.
      possible (o.0, dims_are r.0 o.0 r.1 o.1)))

pub some_equal : (q : QueryValue) (s : List Sign) → Possible ((links : List Link) × AreLinks (λ x y. IsTrue (attr_lt x y) × IsEquality q s x y) links)
some_equal q s = some_links q (λ x y. IsTrue (attr_lt x y) × IsEquality q s x y) (λ x y h. (h.1.across.left, h.1.across.right))

pub some_less : (q : QueryValue) (s : List Sign) → Possible ((links : List Link) × AreLinks (IsInequality q s) links)
some_less q s = some_links q (IsInequality q s) (λ x y h. (h.across.left, h.across.right))
