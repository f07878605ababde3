-- A column that no comparison names is free: where no column has a domain, it may have any value.
use Rattle.std.proofs.Common.{◌≡◌, ◌⊎◌, inl, inr, List, [], ◌∷◌, cond, true, sym, ap, ◌∙◌, subst, refl, ℤ}
use Rattle.sem_query.proofs.Has.{Has, Has-head, later, same_map}
use Rattle.sem_query.proofs.Elements.{SidesIn, sides_in, HasElement}
use Rattle.sem_query.proofs.Holding.{Holds-each, Holds-from_each}
use Rattle.sem_query.proofs.Local.{PairIn, pair_named}
use Rattle.sem_query.specs.declared.atom.Attr.{Attr}
use Rattle.sem_query.specs.declared.atom.Element.{Element}
use Rattle.sem_query.specs.declared.atom.Element.TheVariants as element
use Rattle.sem_query.specs.declared.part.Sign.{Sign}
use Rattle.sem_query.specs.Query.{QueryValue, attrs_of, consts_of, attr_eq}
use Rattle.sem_query.specs.Assignment.{Assignment, value, compares, Holds}
use Rattle.sem_query.specs.Parts.{pairs, sign, sign_at, signs_of, InPart}
use Rattle.sem_laws.proofs.Tests.{true_or_false, not_both, attr_eq-is, attr_eq-itself, false_if}
use Rattle.sem_laws.proofs.OnePartFits.{has_cases}
use Rattle.sem_lower_bounds.specs.Plain.{HasNoDomains}
use Rattle.sem_lower_bounds.proofs.Plainly.{keeps-none}

-- an assignment with one column changed
unfoldable pub changed : Assignment → Attr → ℤ → Assignment
changed v a z b = cond (attr_eq a b) z (v b)

pub changed-there : (v : Assignment) (a : Attr) (z : ℤ) → changed v a z a ≡ z
unfolding changed
changed-there v a z = ap (λ b. cond b z (v a)) (attr_eq-itself a)

changed-elsewhere : (v : Assignment) (a b : Attr) (z : ℤ) → (a ≡ b → ⊥) → changed v a z b ≡ v b
unfolding changed
changed-elsewhere v a b z n = ap (λ c. cond c z (v b)) (false_if (attr_eq a b) (λ h. n (attr_eq-is a b h)))

module _ (q : QueryValue) (none : HasNoDomains q) (s : List Sign) (v : Assignment) (i : InPart q s v) (a : Attr) (free : Has (attrs_of q.atoms) a → ⊥) (z : ℤ) where
  other : (b : Attr) → Has (attrs_of q.atoms) b → changed v a z b ≡ v b
  other b h = changed-elsewhere v a b z (λ e. free (subst (λ c. Has (attrs_of q.atoms) c) (sym e) h))

  kept : (e : Element) → HasElement (attrs_of q.atoms) (consts_of q.atoms) e → value e (changed v a z) ≡ value e v
  kept (element.Attr b) h = other b h
  kept (element.Const k) h = refl

  holds_still : Holds q (changed v a z)
  holds_still = Holds-from_each q (changed v a z) (λ t h.
      let sides : SidesIn q.atoms t = sides_in q.atoms t h in
      subst (λ x. compares t.op x (value t.right (changed v a z)) ≡ true) (sym (kept t.left sides.left))
      (subst (λ y. compares t.op (value t.left v) y ≡ true) (sym (kept t.right sides.right)) (Holds-each q v i.holds t h)))

  signs_still : signs_of q (changed v a z) ≡ s
  signs_still = same_map (sign_at (changed v a z)) (sign_at v) (pairs q) (λ p k.
      let o : PairIn (attrs_of q.atoms) (consts_of q.atoms) p = pair_named q p k in
      ap (λ x. sign x (value p.right (changed v a z))) (other p.left o.left)
      ∙ ap (λ y. sign (v p.left) y) (kept p.right o.right)) ∙ i.signs

  pub still_inside : InPart q s (changed v a z)
  still_inside = record { holds = holds_still; domains = keeps-none q none (changed v a z); signs = signs_still }

pub named_or_free : (xs : List Attr) (a : Attr) → Has xs a ⊎ (Has xs a → ⊥)
named_or_free [] a = inr (λ h. elim h [ ])
named_or_free (b ∷ xs) a = elim (true_or_false (attr_eq b a)) [
  | inl e ↦ inl (Has-head a b xs (attr_eq-is b a e))
  | inr e ↦ elim (named_or_free xs a) [
    | inl h ↦ inl (later h)
    | inr n ↦ inr (λ h. elim (has_cases b a xs h) [ inl f ↦ not_both (attr_eq b a) (subst (λ c. attr_eq b c ≡ true) f (attr_eq-itself b)) e | inr k ↦ n k ])
  ]
]
