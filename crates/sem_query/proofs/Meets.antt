-- The links of a part suffice: by the distance of the two sides in one assignment of the part.
use Rattle.std.proofs.Common.{◌≡◌, ◌≢◌, ℕ, zero, suc, pos, ◌+ℤ◌, ◌-ℤ◌, nat_abs, ◌<ℤ◌, ◌≤ℤ◌, List, map, ◌⊎◌, inl, inr, Bool, true, false, refl, sym, ◌∙◌, subst, arith}
use Rattle.std.proofs.lemmas.Int.{ints, by_lt_z}
use Rattle.sem_query.proofs.Has.{Has, same_at, same_map, Contains-from_has}
use Rattle.sem_query.proofs.Holding.{Compares, Compares-from_test, compares-true, Holds-each, Holds-from_each}
use Rattle.sem_query.proofs.Elements.{SidesIn, sides_in, element_from_has}
use Rattle.sem_query.proofs.Local.{AreLocal, SameLocally, same_locally, pair_named, soft_sign, compares_alike, lt_along, eq_along, sign-lt, sign-eq, sign-gt, sign-flip, streams_differ}
use Rattle.sem_query.proofs.Kept.{kept_at, kept_if}
use Rattle.sem_query.specs.declared.atom.Attr.{Attr}
use Rattle.sem_query.specs.declared.atom.Atom.{Atom}
use Rattle.sem_query.specs.declared.atom.Op.{Op}
use Rattle.sem_query.specs.declared.part.Sign.{Sign}
use Rattle.sem_query.specs.declared.atom.Element.{Element}
use Rattle.sem_query.specs.declared.atom.Element.TheVariants as element
use Rattle.sem_query.specs.Query.{QueryValue, is_soft}
use Rattle.sem_query.specs.Assignment.{Assignment, value, Holds, AtomHolds}
use Rattle.sem_query.specs.Parts.{InPart, IsPart, same_stream, sign, sign_at, signs_of, pairs}
use Rattle.sem_query.specs.Admission.{keeps_signs}
use Rattle.sem_query.specs.Order.{IsElement, IsLess, IsEqual}
use Rattle.sem_query.specs.Links.{IsRedundant, between, equal_left, equal_right}
use Rattle.sem_query.specs.Laws.{MeetsLinks, LinksSuffice}

split : (b : Bool) → (b ≡ true) ⊎ (b ≡ false)
split true = inl refl
split false = inr refl

-- either they are local, or attributes of different streams
pub data Places : Element → Element → Type 0 where
  local : {x y : Element} → AreLocal x y → Places x y
  across : {a b : Attr} → a.stream ≢ b.stream → Places (element.Attr a) (element.Attr b)

pub places_of : (x y : Element) → Places x y
places_of (element.Attr a) (element.Attr b) = elim (split (same_stream a b)) [ inl h ↦ local h | inr h ↦ across (streams_differ a b h) ]
places_of (element.Attr a) (element.Const k) = local tt
places_of (element.Const j) y = local tt

module _ (q : QueryValue) (s : List Sign) (p : IsPart q s) (v : Assignment) (m : MeetsLinks q s v) where
  kept : (place : ℕ) → keeps_signs place v (pairs q) (map (sign_at p.one) (pairs q)) ≡ true
  kept place = subst (λ z. keeps_signs place v (pairs q) z ≡ true) (sym p.inside.signs) (m.signs place)

  alike : SameLocally q p.one v
  alike r h l = sym (kept_at r.left.stream v p.one (pairs q) r (kept r.left.stream) h l)

  same : (x y : Element) → IsElement q x → IsElement q y → AreLocal x y → value x p.one <ℤ value y p.one → value x v <ℤ value y v
  same x y h i l k = lt_along _ _ _ _ (same_locally q p.one v alike x y h i l) k

  same_equal : (x y : Element) → IsElement q x → IsElement q y → AreLocal x y → value x p.one ≡ value y p.one → value x v ≡ value y v
  same_equal x y h i l k = eq_along _ _ _ _ (same_locally q p.one v alike x y h i l) k

  -- so far as the one assignment has y above x, less holds
  abbrev LessUpTo : ℕ → Type 0
  LessUpTo n = (x y : Element) → IsElement q x → IsElement q y → IsLess q s x y → value y p.one ≤ℤ (value x p.one +ℤ pos n) → value x v <ℤ value y v

  less_across : (n : ℕ) (a b : Attr) → IsElement q (element.Attr a) → IsElement q (element.Attr b) → IsLess q s (element.Attr a) (element.Attr b) → p.one b ≤ℤ (p.one a +ℤ pos (suc n)) → a.stream ≢ b.stream → LessUpTo n → v a <ℤ v b
  less_across n a b h i l d ne shorter =
      by_lt_z (v a) (v b) (λ k. k) (λ k. m.less a b record {
        across = record { left = h; right = i; across = ne };
        less = l;
        needed = needed k;
      })
    where
      needed : v b ≤ℤ v a → IsRedundant q s a b → ⊥
      needed k (between e u f g) =
          let fw : p.one a <ℤ value e p.one = f.less p.one p.inside in
          let gw : value e p.one <ℤ p.one b = g.less p.one p.inside in
          let fv : v a <ℤ value e v = shorter (element.Attr a) e h u f (omega (arith, ints)) in
          let gv : value e v <ℤ v b = shorter e (element.Attr b) u i g (omega (arith, ints)) in
          omega (arith, ints)
      needed k (equal_left c u f g) =
          let fv : v a ≡ c = same_equal (element.Attr a) (element.Const c) h u tt (f.equal p.one p.inside) in
          let gv : c <ℤ v b = same (element.Const c) (element.Attr b) u i tt (g.less p.one p.inside) in
          omega (arith, ints)
      needed k (equal_right c u f g) =
          let fv : v a <ℤ c = same (element.Attr a) (element.Const c) h u tt (f.less p.one p.inside) in
          let gv : c ≡ v b = same_equal (element.Const c) (element.Attr b) u i tt (g.equal p.one p.inside) in
          omega (arith, ints)

  less_placed : (n : ℕ) (x y : Element) → Places x y → IsElement q x → IsElement q y → IsLess q s x y → value y p.one ≤ℤ (value x p.one +ℤ pos (suc n)) → LessUpTo n → value x v <ℤ value y v
  less_placed n x y (local e) h i l d shorter = same x y h i e (l.less p.one p.inside)
  less_placed n x y (across {a} {b} ne) h i l d shorter = less_across n a b h i l d ne shorter

  less_within : (n : ℕ) → LessUpTo n
  less_within zero x y h i l d = let k : value x p.one <ℤ value y p.one = l.less p.one p.inside in absurd (omega (arith, ints))
  less_within (suc n) x y h i l d = less_placed n x y (places_of x y) h i l d (less_within n)

  less_holds : (x y : Element) → IsElement q x → IsElement q y → IsLess q s x y → value x v <ℤ value y v
  less_holds x y h i l = less_within (nat_abs (value y p.one -ℤ value x p.one)) x y h i l (omega (arith, ints))

  equal_placed : (x y : Element) → Places x y → IsElement q x → IsElement q y → IsEqual q s x y → value x v ≡ value y v
  equal_placed x y (local e) h i l = same_equal x y h i e (l.equal p.one p.inside)
  equal_placed x y (across {a} {b} ne) h i l = m.equal a b record { across = record { left = h; right = i; across = ne }; equal = l }

  -- where all assignments of the part have one sign, so has this one
  sign_holds : (x y : Element) → IsElement q x → IsElement q y → ((u : Assignment) → InPart q s u → sign (value x u) (value y u) ≡ sign (value x p.one) (value y p.one)) → sign (value x v) (value y v) ≡ sign (value x p.one) (value y p.one)
  sign_holds x y h i f =
      by_lt_z (value x p.one) (value y p.one)
      (λ l. sign-lt _ _ (less_holds x y h i record { less = λ u j. lt_along _ _ _ _ (sym (f u j)) l }) ∙ sym (sign-lt _ _ l))
      (λ l. by_lt_z (value y p.one) (value x p.one)
      (λ k. sign-gt _ _ (less_holds y x i h record { less = λ u j. lt_along _ _ _ _ (sign-flip (value x p.one) (value y p.one) (value x u) (value y u) (sym (f u j))) k }) ∙ sym (sign-gt _ _ k))
      (λ k. let e : value x p.one ≡ value y p.one = omega (arith, ints) in
      sign-eq _ _ (equal_placed x y (places_of x y) h i record { equal = λ u j. eq_along _ _ _ _ (sym (f u j)) e }) ∙ sym (sign-eq _ _ e)))

  signs_hold : signs_of q v ≡ s
  signs_hold =
      same_map (sign_at v) (sign_at p.one) (pairs q)
      (λ r k. let n = pair_named q r k in
      sign_holds (element.Attr r.left) r.right (Contains-from_has _ _ n.left) (element_from_has q r.right n.right) (λ u j. same_at (sign_at u) (sign_at p.one) (j.signs ∙ sym p.inside.signs) k))
      ∙ p.inside.signs

  meets : (o : Op) (x y : Element) → IsElement q x → IsElement q y → (is_soft o ≡ true → sign (value x p.one) (value y p.one) ≡ sign (value x v) (value y v)) → ((u : Assignment) → InPart q s u → Compares o (value x u) (value y u)) → Compares o (value x v) (value y v)
  meets Op.Lt x y h i f l = less_holds x y h i record { less = l }
  meets Op.Eq x y h i f l = equal_placed x y (places_of x y) h i record { equal = l }
  meets Op.Gt x y h i f l = less_holds y x i h record { less = l }
  meets Op.Le x y h i f l = compares_alike Op.Le _ _ _ _ (f refl) (l p.one p.inside)
  meets Op.Ge x y h i f l = compares_alike Op.Ge _ _ _ _ (f refl) (l p.one p.inside)
  meets Op.Ne x y h i f l = compares_alike Op.Ne _ _ _ _ (f refl) (l p.one p.inside)

  atom_from_links : (t : Atom) → Has q.atoms t → AtomHolds v t
  atom_from_links t h =
      let sides : SidesIn q.atoms t = sides_in q.atoms t h in
      compares-true t.op _ _ (meets t.op t.left t.right (element_from_has q t.left sides.left) (element_from_has q t.right sides.right) (soft_sign q p.one v (p.inside.signs ∙ sym signs_hold) t h) (λ u i. Compares-from_test t.op _ _ (Holds-each q u i.holds t h)))

  holds_from_links : Holds q v
  holds_from_links = Holds-from_each q v atom_from_links

-- the assignments of a part are those that keep to the domains, have its local signs and meet its links
pub links_suffice : LinksSuffice
links_suffice q s p v d = (
  λ i. record {
    signs = λ place. subst (λ z. keeps_signs place v (pairs q) z ≡ true) i.signs (kept_if place v v (pairs q) (λ r h l. refl));
    equal = λ x y e. e.equal.equal v i;
    less = λ x y e. e.less.less v i;
  },
  λ m. record { holds = holds_from_links q s p v m; domains = d; signs = signs_hold q s p v m },
)
