-- A query that a catalog names is named by it still where comparisons of columns that it reads stand behind its own.
use Rattle.std.proofs.Common.{◌≡◌, ℤ, ◌+◌, ◌⊎◌, inl, inr, true, List, All, [], ◌∷◌, ◌++◌, Contains, refl, sym, ap, ◌∙◌, subst, arith}
use Rattle.std.proofs.lemmas.Bool.Decides.{nat_tests}
use Rattle.std.proofs.lemmas.List.Elements.{All-head, All-tail, All-append, All-cons, All-nil, All-contains}
use Rattle.sem_query.specs.declared.atom.Attr.{Attr}
use Rattle.sem_query.specs.declared.atom.Atom.{Atom}
use Rattle.sem_query.specs.declared.atom.Element.{Element}
use Rattle.sem_query.specs.declared.atom.Element.TheVariants as element
use Rattle.sem_query.specs.Query.{QueryValue, attr_lt, attrs_with, attrs_of}
use Rattle.sem_query.proofs.Has.{Has, first, later, Has-from_contains}
use Rattle.sem_query.proofs.Ascending.{Ascends-with_new, Ascends-attrs_of}
use Rattle.sem_query.proofs.Elements.{with_new-has_new, with_new-has_old, attrs_with-has, attr_separates}
use Rattle.sem_query.proofs.Unique.{Ascends, IsStrict, same_members}
use Rattle.sql_catalog.specs.Streams.{Shape}
use Rattle.sql_parser.specs.Resolution.{HasNamed, HasSide, HasSides, IsColumnOf, named_attrs, domains_for}
use Rattle.sql_parser.proofs.NamedAttrs.{put_in, attributes_are_named}
use Rattle.adv_mends.specs.Mended.{IsBound, with_atoms}

along : (a b c : Attr) → attr_lt a b ≡ true → attr_lt b c ≡ true → attr_lt a c ≡ true
along a b c h k = grind (arith, nat_tests)

apart : (a b : Attr) → attr_lt a b ≡ true → attr_lt b a ≡ true → ⊥
apart a b h k = grind (arith, nat_tests)

strict : IsStrict attr_lt
strict = record { apart = apart }

ascends : (select : List Attr) (atoms : List Atom) → Ascends attr_lt (named_attrs select atoms)
ascends [] atoms = Ascends-attrs_of atoms
ascends (a ∷ select) atoms = Ascends-with_new attr_lt along a (named_attrs select atoms) (ascends select atoms)

-- what holds of a side and of all others holds of all behind it
with-side : (P : Attr → Type 0) (e : Element) (xs : List Attr) → ((a : Attr) → e ≡ element.Attr a → P a) → ((z : Attr) → Has xs z → P z) → (z : Attr) → Has (attrs_with e xs) z → P z
with-side P (element.Attr a) xs f g z h = put_in attr_lt P a xs (f a refl) g z h
with-side P (element.Const k) xs f g z h = g z h

side-has : (e : Element) (xs : List Attr) (a : Attr) → e ≡ element.Attr a → Has (attrs_with e xs) a
side-has e xs a h = subst (λ (x : Element). Has (attrs_with x xs) a) (sym h) (with_new-has_new attr_lt attr_separates a xs)

-- it holds of the columns that a comparison names
abbrev SidesAre : (Attr → Type 0) → Atom → Type 0
SidesAre P t = (a : Attr) → (t.left ≡ element.Attr a → P a) × (t.right ≡ element.Attr a → P a)

-- the columns of more comparisons
module _ (P : Attr → Type 0) where
  of-more : (more : List Atom) → All (SidesAre P) more → (z : Attr) → Has (attrs_of more) z → P z
  of-more [] f z h = elim h [ ]
  of-more (t ∷ more) f z h =
      let sides : SidesAre P t = All-head (SidesAre P) t more f in
      with-side P t.left (attrs_with t.right (attrs_of more)) (λ a. (sides a).0) (with-side P t.right (attrs_of more) (λ a. (sides a).1) (of-more more (All-tail (SidesAre P) t more f))) z h

  of-both : (atoms more : List Atom) → ((z : Attr) → Has (attrs_of atoms) z → P z) → All (SidesAre P) more
      → (z : Attr) → Has (attrs_of (atoms ++ more)) z → P z
  of-both [] more g f z h = of-more more f z h
  of-both (t ∷ ts) more g f z h =
      with-side P t.left (attrs_with t.right (attrs_of (ts ++ more)))
      (λ a e. g a (side-has t.left (attrs_with t.right (attrs_of ts)) a e))
      (with-side P t.right (attrs_of (ts ++ more))
      (λ a e. g a (attrs_with-has (attrs_with t.right (attrs_of ts)) t.left a (side-has t.right (attrs_of ts) a e)))
      (of-both ts more (λ v k. g v (attrs_with-has (attrs_with t.right (attrs_of ts)) t.left v (attrs_with-has (attrs_of ts) t.right v k))) f)) z h

  named-both : (select : List Attr) (atoms more : List Atom) → ((z : Attr) → Has (named_attrs select atoms) z → P z) → All (SidesAre P) more
      → (z : Attr) → Has (named_attrs select (atoms ++ more)) z → P z
  named-both [] atoms more g f z h = of-both atoms more g f z h
  named-both (b ∷ select) atoms more g f z h =
      put_in attr_lt P b (named_attrs select (atoms ++ more)) (g b (with_new-has_new attr_lt attr_separates b (named_attrs select atoms)))
      (named-both select atoms more (λ v k. g v (with_new-has_old attr_lt b (named_attrs select atoms) v k)) f) z h

-- those of a list of comparisons are among those of a longer one
kept-atoms : (atoms more : List Atom) (z : Attr) → Has (attrs_of atoms) z → Has (attrs_of (atoms ++ more)) z
kept-atoms [] more z h = elim h [ ]
kept-atoms (t ∷ ts) more z h =
    with-side (Has (attrs_of ((t ∷ ts) ++ more))) t.left (attrs_with t.right (attrs_of ts))
    (λ a e. side-has t.left (attrs_with t.right (attrs_of (ts ++ more))) a e)
    (with-side (Has (attrs_of ((t ∷ ts) ++ more))) t.right (attrs_of ts)
    (λ a e. attrs_with-has (attrs_with t.right (attrs_of (ts ++ more))) t.left a (side-has t.right (attrs_of (ts ++ more)) a e))
    (λ v k. attrs_with-has (attrs_with t.right (attrs_of (ts ++ more))) t.left v (attrs_with-has (attrs_of (ts ++ more)) t.right v (kept-atoms ts more v k)))) z h

kept-named : (select : List Attr) (atoms more : List Atom) (z : Attr) → Has (named_attrs select atoms) z → Has (named_attrs select (atoms ++ more)) z
kept-named [] atoms more z h = kept-atoms atoms more z h
kept-named (b ∷ select) atoms more z h =
    put_in attr_lt (Has (named_attrs (b ∷ select) (atoms ++ more))) b (named_attrs select atoms) (with_new-has_new attr_lt attr_separates b (named_attrs select (atoms ++ more)))
    (λ v k. with_new-has_old attr_lt b (named_attrs select (atoms ++ more)) v (kept-named select atoms more v k)) z h

-- a column of a comparison or a selected one is named
in-atoms : (select : List Attr) (atoms : List Atom) (a : Attr) → Has (attrs_of atoms) a → Has (named_attrs select atoms) a
in-atoms [] atoms a h = h
in-atoms (b ∷ select) atoms a h = with_new-has_old attr_lt b (named_attrs select atoms) a (in-atoms select atoms a h)

in-select : (select : List Attr) (atoms : List Atom) (a : Attr) → Has select a → Has (named_attrs select atoms) a
in-select [] atoms a h = elim h [ ]
in-select (b ∷ select) atoms a first = with_new-has_new attr_lt attr_separates b (named_attrs select atoms)
in-select (b ∷ select) atoms a (later h) = with_new-has_old attr_lt b (named_attrs select atoms) a (in-select select atoms a h)

same-attr : (a b : Attr) → element.Attr a ≡ element.Attr b → a ≡ b
same-attr a b e = cc

no-attr : (k : ℤ) (a : Attr) → element.Const k ≡ element.Attr a → ⊥
no-attr k a e = cc

module _ (q : QueryValue) where
  bound-named : (t : Atom) → IsBound q t → (a : Attr) → (t.left ≡ element.Attr a → Has (named_attrs q.select q.atoms) a) × (t.right ≡ element.Attr a → Has (named_attrs q.select q.atoms) a)
  bound-named t b a = (
    (λ e. subst (Has (named_attrs q.select q.atoms)) (same-attr b.attr a (sym b.left ∙ e)) (by b.reads)),
    λ e. absurd (no-attr b.value a (sym b.right ∙ e)),
  )
    where
      by : Contains (attrs_of q.atoms) b.attr ⊎ Contains q.select b.attr → Has (named_attrs q.select q.atoms) b.attr
      by (inl h) = in-atoms q.select q.atoms b.attr (Has-from_contains (attrs_of q.atoms) b.attr h)
      by (inr h) = in-select q.select q.atoms b.attr (Has-from_contains q.select b.attr h)

  all-named : (more : List Atom) → All (IsBound q) more → All (SidesAre (Has (named_attrs q.select q.atoms))) more
  all-named [] f = All-nil (SidesAre (Has (named_attrs q.select q.atoms)))
  all-named (t ∷ more) f = All-cons (SidesAre (Has (named_attrs q.select q.atoms))) t more (bound-named t (All-head (IsBound q) t more f)) (all-named more (All-tail (IsBound q) t more f))

  same-attrs : (more : List Atom) → All (IsBound q) more → named_attrs q.select q.atoms ≡ named_attrs q.select (q.atoms ++ more)
  same-attrs more f =
      same_members attr_lt strict (named_attrs q.select q.atoms) (named_attrs q.select (q.atoms ++ more)) (ascends q.select q.atoms) (ascends q.select (q.atoms ++ more))
      (kept-named q.select q.atoms more) (named-both (Has (named_attrs q.select q.atoms)) q.select q.atoms more (λ z h. h) (all-named more f))

  has-sides : (streams : List Shape) → HasNamed streams q → (t : Atom) → IsBound q t → HasSides streams q.from t
  has-sides streams h t b = (
    subst (HasSide streams q.from) (sym b.left) (by b.reads),
    subst (HasSide streams q.from) (sym b.right) tt,
  )
    where
      by : Contains (attrs_of q.atoms) b.attr ⊎ Contains q.select b.attr → IsColumnOf streams q.from b.attr
      by (inl c) = attributes_are_named streams q h b.attr c
      by (inr c) = All-contains (IsColumnOf streams q.from) q.select b.attr h.select c

  all-sides : (streams : List Shape) → HasNamed streams q → (more : List Atom) → All (IsBound q) more → All (HasSides streams q.from) more
  all-sides streams h [] f = All-nil (HasSides streams q.from)
  all-sides streams h (t ∷ more) f = All-cons (HasSides streams q.from) t more (has-sides streams h t (All-head (IsBound q) t more f)) (all-sides streams h more (All-tail (IsBound q) t more f))

  pub more-named : (streams : List Shape) → HasNamed streams q → (more : List Atom) → All (IsBound q) more → HasNamed streams (with_atoms more q)
  more-named streams h more f = record {
    from = h.from;
    select = h.select;
    atoms = All-append (HasSides streams q.from) q.atoms more h.atoms (all-sides streams h more f);
    domains = h.domains ∙ ap (domains_for streams q.from) (same-attrs more f);
  }
