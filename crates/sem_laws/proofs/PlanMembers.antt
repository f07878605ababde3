-- The query pins the links, the dims and the kinds of a part.
use Rattle.std.proofs.Common.{◌≡◌, ℕ, ◌⊎◌, inl, inr, List, cond, Bool, true, false, refl, sym, ap, ◌∙◌, subst, arith, ℤ, ◌≤ℤ◌, Contains, AllPairs, IsTrue}
use Rattle.std.proofs.lemmas.Int.{ints}
use Rattle.std.proofs.lemmas.List.Elements.{All-contains}
use Rattle.sem_query.proofs.Has.{Has, Has-from_contains, Contains-from_has}
use Rattle.sem_query.proofs.Unique.{ascends_from, IsStrict, same_members}
use Rattle.sem_query.specs.declared.atom.Attr.{Attr}
use Rattle.sem_query.specs.declared.part.Sign.{Sign}
use Rattle.sem_query.specs.Query.{QueryValue, attrs_of, attr_lt}
use Rattle.sem_query.specs.Order.{IsBounded}
use Rattle.sem_query.specs.declared.plan.Dim.{Dim}
use Rattle.sem_query.specs.declared.plan.Link.{Link}
use Rattle.sem_query.specs.Plan.{AreOneClass, NamesClass, IsDim, AreDims, link, link_lt}

attr_apart : (a b : Attr) → attr_lt a b ≡ true → attr_lt b a ≡ true → ⊥
attr_apart a b h k = grind (arith, h, k)

link_strict : IsStrict link_lt
link_strict =
    record { apart = λ x y h k. step (attr_lt x.left y.left) (attr_lt y.left x.left) (attr_lt x.right y.right) (attr_lt y.right x.right) (attr_apart x.left y.left) (attr_apart x.right y.right) h k }
  where
    step : (b c r u : Bool) → (b ≡ true → c ≡ true → ⊥) → (r ≡ true → u ≡ true → ⊥) → cond b true (cond c false r) ≡ true
        → cond c true (cond b false u) ≡ true → ⊥
    step true true r u f g p z = f refl refl
    step true false r u f g p z = cc
    step false true r u f g p z = cc
    step false false r u f g p z = g p z

-- ascending lists of links with the same meaning are equal
pub links-same : (P : Attr → Attr → Type 0) (xs ys : List Link) → AllPairs (λ x y. IsTrue (link_lt x y)) xs
    → AllPairs (λ x y. IsTrue (link_lt x y)) ys
    → ((x y : Attr) → (Contains xs (link x y) → P x y) × (P x y → Contains xs (link x y)))
    → ((x y : Attr) → (Contains ys (link x y) → P x y) × (P x y → Contains ys (link x y))) → xs ≡ ys
links-same P xs ys a b f g =
    same_members link_lt link_strict xs ys (ascends_from link_lt xs a) (ascends_from link_lt ys b)
    (λ l h. Has-from_contains ys l ((g l.left l.right).1 ((f l.left l.right).0 (Contains-from_has xs l h))))
    (λ l h. Has-from_contains xs l ((f l.left l.right).1 ((g l.left l.right).0 (Contains-from_has ys l h))))

class_turned : (q : QueryValue) (s : List Sign) (a b : Attr) → AreOneClass q s a b → AreOneClass q s b a
class_turned q s a b c = record {
  named = elim c.named [ inl e ↦ inl (sym e) | inr h ↦ inr (h.1, h.0) ];
  stream = sym c.stream;
  equal = record { equal = λ v i. sym (c.equal.equal v i) };
}

class_then : (q : QueryValue) (s : List Sign) (a b c : Attr) → AreOneClass q s a b → AreOneClass q s b c → AreOneClass q s a c
class_then q s a b c x y = record {
  named = by x.named y.named;
  stream = x.stream ∙ y.stream;
  equal = record { equal = λ v i. x.equal.equal v i ∙ y.equal.equal v i };
}
  where
    by : (a ≡ b) ⊎ (Contains (attrs_of q.atoms) a × Contains (attrs_of q.atoms) b) → (b ≡ c) ⊎ (Contains (attrs_of q.atoms) b × Contains (attrs_of q.atoms) c)
        → (a ≡ c) ⊎ (Contains (attrs_of q.atoms) a × Contains (attrs_of q.atoms) c)
    by (inl e) (inl f) = inl (e ∙ f)
    by (inl e) (inr k) = inr (subst (λ z. Contains (attrs_of q.atoms) z) (sym e) k.0, k.1)
    by (inr h) (inl f) = inr (h.0, subst (λ z. Contains (attrs_of q.atoms) z) f h.1)
    by (inr h) (inr k) = inr (h.0, k.1)

attr_three : (a b : Attr) → (attr_lt a b ≡ true → ⊥) → (attr_lt b a ≡ true → ⊥) → a ≡ b
attr_three a b h k = attr_one a b (none (attr_lt a b) h) (none (attr_lt b a) k)
  where
    none : (c : Bool) → (c ≡ true → ⊥) → c ≡ false
    none true f = absurd (f refl)
    none false f = refl

    attr_one : (a b : Attr) → attr_lt a b ≡ false → attr_lt b a ≡ false → a ≡ b
    attr_one a b h k = grind (arith)

-- a class has one name
pub name-same : (q : QueryValue) (s : List Sign) (a b : Attr) → NamesClass q s a → NamesClass q s b → AreOneClass q s a b → a ≡ b
name-same q s a b n m c = attr_three a b (m.first a c) (n.first b (class_turned q s a b c))

-- the dims of a stream are pinned
pub dims-same : (q : QueryValue) (s : List Sign) (place : ℕ) (ds es : List Dim) → AreDims q s place ds → AreDims q s place es
    → ds ≡ es
dims-same q s place ds es a b =
    same_members lt record {
      apart =
          λ x y h k. attr_apart x.attr y.attr h k;
    } ds es (ascends_from lt ds a.ascending) (ascends_from lt es b.ascending) (λ d h. inside ds es a b d h) (λ d h. inside es ds b a d h)
  where
    lt : Dim → Dim → Bool
    lt d e = attr_lt d.attr e.attr

    equal_ints : (x y : ℤ) → x ≤ℤ y → y ≤ℤ x → x ≡ y
    equal_ints x y h k = omega (arith, ints)

    one : (d e : Dim) → IsDim q s place d → IsDim q s place e → d.attr ≡ e.attr → e ≡ d
    one d e m n f =
        let lo : e.lo ≡ d.lo = equal_ints _ _
        (subst (λ x. e.lo ≤ℤ x) (ap m.low.at (sym f) ∙ m.low.reached) (n.low.above m.low.at m.low.inside)) (subst (λ x. d.lo ≤ℤ x) (ap n.low.at f ∙ n.low.reached) (m.low.above n.low.at n.low.inside)) in
        let hi : e.hi ≡ d.hi = equal_ints _ _
        (subst (λ x. x ≤ℤ d.hi) (ap n.high.at f ∙ n.high.reached) (m.high.below n.high.at n.high.inside)) (subst (λ x. x ≤ℤ e.hi) (ap m.high.at (sym f) ∙ m.high.reached) (n.high.below m.high.at m.high.inside)) in
        λ i. record { attr = sym f i; lo = lo i; hi = hi i }

    inside : (ds es : List Dim) → AreDims q s place ds → AreDims q s place es → (d : Dim) → Has ds d → Has es d
    inside ds es a b d h =
        let m : IsDim q s place d = All-contains (IsDim q s place) ds d a.each (Contains-from_has ds d h) in
        let bounded : IsBounded q s m.member = record {
          low = d.lo;
          high = d.hi;
          above = λ v i. subst (λ x. d.lo ≤ℤ x) (m.inside.equal.equal v i) (m.low.above v i);
          below = λ v i. subst (λ x. x ≤ℤ d.hi) (m.inside.equal.equal v i) (m.high.below v i);
        } in
        let o : (e : Dim) × Contains es e × AreOneClass q s e.attr m.member
        = b.all m.member (sym m.inside.stream ∙ m.here) m.wanted bounded in
        let n : IsDim q s place o.0 = All-contains (IsDim q s place) es o.0 b.each o.1 in
        let f : d.attr ≡ o.0.attr
        = name-same q s d.attr o.0.attr m.name n.name (class_then q s d.attr m.member o.0.attr m.inside (class_turned q s o.0.attr m.member o.2)) in
        subst (λ x. Has es x) (one d o.0 m n f) (Has-from_contains es o.0 o.1)
