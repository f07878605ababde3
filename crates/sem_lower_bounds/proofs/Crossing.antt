-- What is left of a part where one place of FROM is moved by one number and all others by another: all but the order of two columns that
-- both lie out and of which just one is at the place.
use Rattle.std.proofs.Common.{◌≡◌, ℕ, ◌⊎◌, inl, inr, List, [], ◌∷◌, cond, not, Bool, true, false, ◌&&◌, refl, sym, ◌∙◌, ap, subst, nat_eq, ℤ}
use Rattle.std.specs.List.{list_any}
use Rattle.sem_query.proofs.Has.{Has, Contains-from_has, same_map}
use Rattle.sem_query.proofs.Elements.{SidesIn, sides_in, element_from_has}
use Rattle.sem_query.proofs.Holding.{Compares-from_test, compares-true, Holds-each, Holds-from_each}
use Rattle.sem_query.proofs.Local.{PairIn, pair_named, compares_alike}
use Rattle.sem_query.proofs.Shift.{sign_kept, moved, InPart-moved, const_end}
use Rattle.sem_query.specs.declared.atom.Attr.{Attr}
use Rattle.sem_query.specs.declared.atom.Atom.{Atom}
use Rattle.sem_query.specs.declared.atom.Element.{Element}
use Rattle.sem_query.specs.declared.atom.Element.TheVariants as element
use Rattle.sem_query.specs.declared.part.Pair.{Pair}
use Rattle.sem_query.specs.declared.part.Sign.{Sign}
use Rattle.sem_query.specs.Query.{QueryValue, attrs_of, consts_of, attr_lt}
use Rattle.sem_query.specs.Assignment.{Assignment, value, AtomHolds}
use Rattle.sem_query.specs.Order.{IsElement}
use Rattle.sem_query.specs.Parts.{pairs, pair, pair_of, sign, sign_at, InPart}
use Rattle.sem_laws.proofs.Tests.{true_or_false, not_both, false_if, any_from, any_if}
use Rattle.sem_laws.proofs.OnePartFits.{has_cases}
use Rattle.sem_lower_bounds.specs.Plain.{HasNoDomains}
use Rattle.sem_lower_bounds.proofs.Plainly.{IsLocal, pair_cases, keeps-none}
use Rattle.sem_lower_bounds.proofs.OneLong.{mixed}
use Rattle.sem_lower_bounds.proofs.Movers.{Mover}

-- just one of two
abbrev pub differs : Bool → Bool → Bool
differs true b = not b
differs false b = b

-- whether some element of a list passes
pub some_passes : {X : Type 0} (t : X → Bool) (xs : List X) → ((x : X) × Has xs x × (t x ≡ true)) ⊎ ((x : X) → Has xs x → t x ≡ false)
some_passes t xs = elim (true_or_false (list_any t xs)) [
  | inl e ↦ inl (any_from t xs e)
  | inr e ↦ inr (λ x h. false_if (t x) (λ f. not_both (list_any t xs) (any_if t xs x h f) e))
]

module _ (q : QueryValue) (none : HasNoDomains q) (s : List Sign) (u : Assignment) (inside : InPart q s u) (m : Mover q) (place : ℕ) where
  -- all moved alike
  pub shifted : ℕ → Assignment
  shifted t = moved q s (m.moves t) (m.rises t) (m.keeps t) u inside

  pub shifted-inside : (t : ℕ) → InPart q s (shifted t)
  unfolding shifted
  shifted-inside t = InPart-moved q s (m.moves t) (m.rises t) (m.keeps t) u inside

  pub shifted-is : (t : ℕ) (a : Attr) → shifted t a ≡ m.moves t (u a)
  unfolding shifted moved
  shifted-is t a = refl

  -- the columns of the place moved by t, all others by r
  abbrev pub mix : ℕ → ℕ → Assignment
  mix t r = mixed place (shifted t) (shifted r)

  -- whether a column lies out
  abbrev pub lies_out : Attr → Bool
  lies_out a = m.is_out (u a)

  abbrev pub is_here : Attr → Bool
  is_here a = nat_eq a.stream place

  -- just one of two columns is at the place, and both lie out
  abbrev pub crosses : Element → Element → Bool
  crosses (element.Attr a) (element.Attr b) = differs (is_here a) (is_here b) && (lies_out a && lies_out b)
  crosses (element.Attr a) (element.Const k) = false
  crosses (element.Const k) y = false

  pub mix-is : (t r : ℕ) (a : Attr) → mix t r a ≡ m.moves (cond (is_here a) t r) (u a)
  mix-is t r a = by (is_here a)
    where
      by : (b : Bool) → cond b (shifted t a) (shifted r a) ≡ m.moves (cond b t r) (u a)
      by true = shifted-is t a
      by false = shifted-is r a

  kept_const : (t : ℕ) (k : ℤ) → IsElement q (element.Const k) → m.moves t k ≡ k
  kept_const t k h = m.keeps t k (const_end q k h)

  both_moved : (t : ℕ) (x y a b : ℤ) → x ≡ m.moves t a → y ≡ m.moves t b → sign x y ≡ sign a b
  both_moved t x y a b e f = rw (e, f) (sign_kept (m.moves t) (m.rises t) a b)

  each_moved : (t r : ℕ) (x y a b : ℤ) → x ≡ m.moves t a → y ≡ m.moves r b → (m.is_out a ≡ false) ⊎ (m.is_out b ≡ false) → sign x y ≡ sign a b
  each_moved t r x y a b e f o = rw (e, f) (m.apart t r a b o)

  sign_columns : (t r : ℕ) (a b : Attr) → crosses (element.Attr a) (element.Attr b) ≡ false → sign (mix t r a) (mix t r b) ≡ sign (u a) (u b)
  sign_columns t r a b off = by (is_here a) (is_here b) (lies_out a) (lies_out b) refl refl off (mix-is t r a) (mix-is t r b)
    where
      by : (c d x y : Bool) → lies_out a ≡ x → lies_out b ≡ y → (differs c d && (x && y)) ≡ false
          → mix t r a ≡ m.moves (cond c t r) (u a) → mix t r b ≡ m.moves (cond d t r) (u b) → sign (mix t r a) (mix t r b) ≡ sign (u a) (u b)
      by true true x y e f g i j = both_moved t _ _ (u a) (u b) i j
      by false false x y e f g i j = both_moved r _ _ (u a) (u b) i j
      by true false false y e f g i j = each_moved t r _ _ (u a) (u b) i j (inl e)
      by true false true false e f g i j = each_moved t r _ _ (u a) (u b) i j (inr f)
      by true false true true e f g i j = absurd cc
      by false true false y e f g i j = each_moved r t _ _ (u a) (u b) i j (inl e)
      by false true true false e f g i j = each_moved r t _ _ (u a) (u b) i j (inr f)
      by false true true true e f g i j = absurd cc

  -- what does not cross keeps its sign
  pub sign-mix : (t r : ℕ) (x y : Element) → IsElement q x → IsElement q y → crosses x y ≡ false
      → sign (value x (mix t r)) (value y (mix t r)) ≡ sign (value x u) (value y u)
  sign-mix t r (element.Attr a) (element.Attr b) h i off = sign_columns t r a b off
  sign-mix t r (element.Attr a) (element.Const k) h i off = both_moved (cond (is_here a) t r) _ k (u a) k (mix-is t r a) (sym (kept_const (cond (is_here a) t r) k i))
  sign-mix t r (element.Const k) (element.Attr a) h i off = both_moved (cond (is_here a) t r) k _ k (u a) (sym (kept_const (cond (is_here a) t r) k h)) (mix-is t r a)
  sign-mix t r (element.Const j) (element.Const k) h i off = refl

  -- a comparison that does not cross holds still
  pub atom-mix : (t r : ℕ) (o : Atom) → Has q.atoms o → crosses o.left o.right ≡ false → AtomHolds (mix t r) o
  atom-mix t r o h off =
      let sides : SidesIn q.atoms o = sides_in q.atoms o h in
      compares-true o.op _ _ (compares_alike o.op _ _ _ _
      (sym (sign-mix t r o.left o.right (element_from_has q o.left sides.left) (element_from_has q o.right sides.right) off))
      (Compares-from_test o.op _ _ (Holds-each q u inside.holds o h)))

  flip : (c d x y : Bool) → (differs c d && (x && y)) ≡ false → (differs d c && (y && x)) ≡ false
  flip true true x y h = refl
  flip false false x y h = refl
  flip true false true true h = absurd cc
  flip true false true false h = refl
  flip true false false true h = refl
  flip true false false false h = refl
  flip false true true true h = absurd cc
  flip false true true false h = refl
  flip false true false true h = refl
  flip false true false false h = refl

  one_of : (R : Pair → Type 0) (p r : Pair) → Has (r ∷ []) p → R r → R p
  one_of R p r h o = elim (has_cases r p [] h) [ inl e ↦ subst R e o | inr l ↦ elim l [ ] ]

  -- the pair of two elements that do not cross
  pair_level : (x y : Element) (p : Pair) → Has (pair_of x y) p → crosses x y ≡ false → crosses (element.Attr p.left) p.right ≡ false
  pair_level (element.Attr a) (element.Attr b) p h off = by (attr_lt a b) (attr_lt b a) h
    where
      by : (c d : Bool) → Has (cond c (pair a (element.Attr b) ∷ []) (cond d (pair b (element.Attr a) ∷ []) [])) p → crosses (element.Attr p.left) p.right ≡ false
      by true d h = one_of (λ p. crosses (element.Attr p.left) p.right ≡ false) p (pair a (element.Attr b)) h off
      by false true h = one_of (λ p. crosses (element.Attr p.left) p.right ≡ false) p (pair b (element.Attr a)) h (flip (is_here a) (is_here b) (lies_out a) (lies_out b) off)
      by false false h = elim h [ ]
  pair_level (element.Attr a) (element.Const k) p h off = one_of (λ p. crosses (element.Attr p.left) p.right ≡ false) p (pair a (element.Const k)) h refl
  pair_level (element.Const k) (element.Attr a) p h off = one_of (λ p. crosses (element.Attr p.left) p.right ≡ false) p (pair a (element.Const k)) h refl
  pair_level (element.Const j) (element.Const k) p h off = elim h [ ]

  same_side : (b c : Bool) → b ≡ c → differs b c ≡ false
  same_side true true e = refl
  same_side false false e = refl
  same_side true false e = absurd cc
  same_side false true e = absurd cc

  -- nor does one of a single stream
  local_level : (a : Attr) (x : Element) → IsLocal a x → crosses (element.Attr a) x ≡ false
  local_level a (element.Attr b) l =
      ap (λ c. c && (lies_out a && lies_out b)) (same_side (is_here a) (is_here b) (ap (λ (n : ℕ). nat_eq n place) l))
  local_level a (element.Const k) l = refl

  -- where no comparison crosses, the mixture stays in the part
  pub mix-inside : ((o : Atom) → Has q.atoms o → crosses o.left o.right ≡ false) → (t r : ℕ) → InPart q s (mix t r)
  mix-inside off t r = record {
    holds = Holds-from_each q (mix t r) (λ o h. atom-mix t r o h (off o h));
    domains = keeps-none q none (mix t r);
    signs = same_map (sign_at (mix t r)) (sign_at u) (pairs q) (λ p h.
        let sides : PairIn (attrs_of q.atoms) (consts_of q.atoms) p = pair_named q p h in
        sign-mix t r (element.Attr p.left) p.right (Contains-from_has _ _ sides.left) (element_from_has q p.right sides.right) (level p h))
        ∙ inside.signs;
  }
    where
      level : (p : Pair) → Has (pairs q) p → crosses (element.Attr p.left) p.right ≡ false
      level p h = elim (pair_cases q p h) [
        | inl l ↦ local_level p.left p.right l
        | inr o ↦ pair_level o.0.left o.0.right p o.2 (off o.0 o.1)
      ]
