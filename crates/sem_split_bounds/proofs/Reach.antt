-- All columns that differences lead to from one column, and all that lead to it.
use Rattle.std.proofs.Common.{◌≡◌, ℤ, pos, inl, inr, List, [], ◌∷◌, ◌++◌, Bool, true, false, refl, subst, sym}
use Rattle.std.specs.List.{flat_map, list_any}
use Rattle.sem_query.specs.declared.atom.Attr.{Attr}
use Rattle.sem_query.specs.declared.atom.Element.{Element}
use Rattle.sem_query.specs.declared.atom.Element.TheVariants as element
use Rattle.sem_query.specs.Query.{QueryValue, attr_eq}
use Rattle.sem_query.proofs.Has.{Has, first, later, Has-append_left, Has-append_right, Has-flat_map}
use Rattle.sem_laws.proofs.OnePartFits.{has_cases}
use Rattle.sem_laws.proofs.Tests.{attr_eq-is, attr_eq-itself, any_from, any_if}
use Rattle.sem_whole.specs.System.{Difference, system}
use Rattle.sem_lower_bounds.proofs.Possible.{Possible, possible, followed, sifted, sifted-from, sifted-into}
use Rattle.sem_split_bounds.proofs.Paths.{Leads, here, onward, leads_more, leads_bound}
use Rattle.sem_split_bounds.proofs.Ends.{NoTop, NoBottom, top_over, bottom_under, no_top_ends, no_bottom_ends}

-- whether an element is a column of a set; an integer is none
abbrev pub inside : (Attr → Bool) → Element → Bool
inside f (element.Attr a) = f a
inside f (element.Const k) = false

-- no difference leads out of the set
abbrev pub IsAhead : List Difference → (Attr → Bool) → Type 0
IsAhead ds f = (d : Difference) → Has ds d → inside f d.left ≡ true → inside f d.right ≡ true

-- no difference leads into the set
abbrev pub IsBehind : List Difference → (Attr → Bool) → Type 0
IsBehind ds f = (d : Difference) → Has ds d → inside f d.right ≡ true → inside f d.left ≡ true

-- the columns that differences lead to from one column, none of them under an integer
pub record Reach (ds : List Difference) (x : Attr) (f : Attr → Bool) : Type 0 where
  pub ahead : IsAhead ds f
  pub all : (y : Attr) → Leads ds x y → f y ≡ true
  pub only : (y : Attr) → f y ≡ true → Leads ds x y

-- the columns from which differences lead to one column, none of them over an integer
pub record ReachedBy (ds : List Difference) (y : Attr) (f : Attr → Bool) : Type 0 where
  pub behind : IsBehind ds f
  pub all : (x : Attr) → Leads ds x y → f x ≡ true
  pub only : (x : Attr) → f x ≡ true → Leads ds x y

side_columns : Element → List Attr
side_columns (element.Attr a) = a ∷ []
side_columns (element.Const k) = []

both_columns : Difference → List Attr
both_columns d = side_columns d.left ++ side_columns d.right

columns_of : List Difference → List Attr
columns_of ds = flat_map both_columns ds

side_has : (e : Element) (a : Attr) → e ≡ element.Attr a → Has (side_columns e) a
unfolding side_columns
side_has e a h = subst (λ e. Has (side_columns e) a) (sym h) first

left_has : (ds : List Difference) (d : Difference) (a : Attr) → Has ds d → d.left ≡ element.Attr a → Has (columns_of ds) a
unfolding both_columns side_columns columns_of
left_has ds d a h e = Has-flat_map both_columns ds d a h (Has-append_left (side_columns d.right) (side_has d.left a e))

right_has : (ds : List Difference) (d : Difference) (a : Attr) → Has ds d → d.right ≡ element.Attr a → Has (columns_of ds) a
unfolding both_columns side_columns columns_of
right_has ds d a h e = Has-flat_map both_columns ds d a h (Has-append_right (side_columns d.left) (side_has d.right a e))

-- a path ends at its first column or at one of the system, and so it begins
led_to : (ds : List Difference) (x y : Attr) → Leads ds x y → Has (x ∷ columns_of ds) y
led_to ds x y here = first
led_to ds x y (onward {b = m} d h l r p) = elim (has_cases m y (columns_of ds) (led_to ds m y p)) [
  | inl e ↦ later (subst (λ z. Has (columns_of ds) z) e (right_has ds d m h r))
  | inr k ↦ later k
]

led_from : (ds : List Difference) (x y : Attr) → Leads ds x y → Has (y ∷ columns_of ds) x
led_from ds x y here = first
led_from ds x y (onward d h l r p) = later (left_has ds d x h l)

-- a test for each column: whether it is one of a list
among : List Attr → Attr → Bool
among ys z = list_any (attr_eq z) ys

among_if : (ys : List Attr) (z : Attr) → Has ys z → among ys z ≡ true
unfolding among
among_if ys z h = any_if (attr_eq z) ys z h (attr_eq-itself z)

among_from : (ys : List Attr) (z : Attr) → among ys z ≡ true → Has ys z
unfolding among
among_from ys z h = let r = any_from (attr_eq z) ys h in subst (λ w. Has ys w) (sym (attr_eq-is z r.0 r.2)) r.1

-- where no column that is led to has a difference to an integer, the set of all of them can be raised
pub reach : (ds : List Difference) (x : Attr)
    → ((y : Attr) → Leads ds x y → (d : Difference) → Has ds d → d.left ≡ element.Attr y → (k : ℤ) → d.right ≡ element.Const k → ⊥)
    → Possible ((f : Attr → Bool) × Reach ds x f)
reach ds x ends = followed (sifted (Leads ds x) (x ∷ columns_of ds)) (λ r. possible (
  among r.0,
  of r.0
      (λ y h. (sifted-from (Leads ds x) (x ∷ columns_of ds) r.0 r.1 y h).0)
      (λ y p. sifted-into (Leads ds x) (x ∷ columns_of ds) r.0 r.1 y (led_to ds x y p) p),
))
  where
    of : (ys : List Attr) → ((y : Attr) → Has ys y → Leads ds x y) → ((y : Attr) → Leads ds x y → Has ys y) → Reach ds x (among ys)
    of ys g f = record {
      ahead = λ d h. on d h d.left d.right refl refl;
      all = λ y p. among_if ys y (f y p);
      only = λ y t. g y (among_from ys y t);
    }
      where
        on : (d : Difference) → Has ds d → (l r : Element) → d.left ≡ l → d.right ≡ r → inside (among ys) l ≡ true → inside (among ys) r ≡ true
        on d h (element.Const j) r el er t = absurd cc
        on d h (element.Attr y) (element.Const k) el er t = absurd (ends y (g y (among_from ys y t)) d h el k er)
        on d h (element.Attr y) (element.Attr z) el er t =
            among_if ys z (f z (leads_more ds x y z (g y (among_from ys y t)) (onward {b = z} d h el er here)))

-- where no column that leads to it has a difference from an integer, the set of all of them can be lowered
pub reached-by : (ds : List Difference) (y : Attr)
    → ((x : Attr) → Leads ds x y → (d : Difference) → Has ds d → d.right ≡ element.Attr x → (k : ℤ) → d.left ≡ element.Const k → ⊥)
    → Possible ((f : Attr → Bool) × ReachedBy ds y f)
reached-by ds y ends = followed (sifted (λ x. Leads ds x y) (y ∷ columns_of ds)) (λ r. possible (
  among r.0,
  of r.0
      (λ x h. (sifted-from (λ x. Leads ds x y) (y ∷ columns_of ds) r.0 r.1 x h).0)
      (λ x p. sifted-into (λ x. Leads ds x y) (y ∷ columns_of ds) r.0 r.1 x (led_from ds x y p) p),
))
  where
    of : (xs : List Attr) → ((x : Attr) → Has xs x → Leads ds x y) → ((x : Attr) → Leads ds x y → Has xs x) → ReachedBy ds y (among xs)
    of xs g f = record {
      behind = λ d h. on d h d.left d.right refl refl;
      all = λ x p. among_if xs x (f x p);
      only = λ x t. g x (among_from xs x t);
    }
      where
        on : (d : Difference) → Has ds d → (l r : Element) → d.left ≡ l → d.right ≡ r → inside (among xs) r ≡ true → inside (among xs) l ≡ true
        on d h l (element.Const j) el er t = absurd cc
        on d h (element.Const k) (element.Attr x) el er t = absurd (ends x (g x (among_from xs x t)) d h er k el)
        on d h (element.Attr z) (element.Attr x) el er t =
            among_if xs z (f z (onward {b = x} d h el er (g x (among_from xs x t))))

-- a column without a greatest value can be raised, with all that it leads to
pub raised_with : (q : QueryValue) (x : Attr) → NoTop (system q) x → Possible ((f : Attr → Bool) × Reach (system q) x f)
raised_with q x n = reach (system q) x (λ y p d h l k r. no_top_ends (system q) y k d h l r (top_over (system q) x y (pos 0) (leads_bound q x y p) n))

-- a column without a least value can be lowered, with all that lead to it
pub lowered_with : (q : QueryValue) (y : Attr) → NoBottom (system q) y → Possible ((f : Attr → Bool) × ReachedBy (system q) y f)
lowered_with q y n = reached-by (system q) y (λ x p d h r k l. no_bottom_ends (system q) x k d h l r (bottom_under (system q) x y (pos 0) (leads_bound q x y p) n))
