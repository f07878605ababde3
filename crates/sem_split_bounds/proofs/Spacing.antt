-- Columns that are moved by steps longer than the sides of any comparison are apart: what differs, differs when it is moved.
use Rattle.std.proofs.Common.{◌≡◌, ◌≢◌, ℕ, zero, suc, ◌+◌, ◌*◌, ◌<◌, ◌≤◌, ◌⊎◌, inl, inr, List, [], ◌∷◌, Bool, true, false, cond, refl, sym, ap, ◌∙◌, subst, arith, nat_abs, ℤ, pos, neg_ℤ, ◌+ℤ◌, ◌-ℤ◌, ◌≤ℤ◌}
use Rattle.std.specs.List.{flat_map}
use Rattle.std.proofs.lemmas.Int.{ints}
use Rattle.sem_query.specs.declared.atom.Atom.{Atom}
use Rattle.sem_query.specs.declared.atom.Attr.{Attr}
use Rattle.sem_query.specs.declared.atom.Element.{Element}
use Rattle.sem_query.specs.declared.atom.Element.TheVariants as element
use Rattle.sem_query.specs.Query.{QueryValue}
use Rattle.sem_query.specs.Assignment.{Assignment, value}
use Rattle.sem_query.proofs.Has.{Has, first, later, Has-append_cases, Has-flat_map_from}
use Rattle.sem_query.proofs.Holding.{Compares}
use Rattle.sem_whole.specs.System.{atom_bounds, domain_bounds, system}
use Rattle.sem_whole.proofs.Suffice.{atom_says, atom_if}
use Rattle.sem_split_bounds.proofs.Paths.{Step}
use Rattle.sem_split_bounds.proofs.Motions.{by_side, moved, value_moved, two_blocks}
use Rattle.sem_split_bounds.proofs.PartSolutions.{domain_apart, KeepsApart}
use Rattle.sem_split_bounds.proofs.Standing.{sides_of}

-- ---- how far values are apart

-- two values
abbrev pub span : ℤ → ℤ → ℕ
span a b = nat_abs (b -ℤ a)

-- as far as any side of some comparisons is from 0
pub spread_of : Assignment → List Atom → ℕ
spread_of u [] = 0
spread_of u (t ∷ ts) = nat_abs (value t.left u) + nat_abs (value t.right u) + spread_of u ts

-- both sides of one of them
pub sides_spread : (u : Assignment) (ts : List Atom) (t : Atom) → Has ts t → nat_abs (value t.left u) + nat_abs (value t.right u) ≤ spread_of u ts
unfolding spread_of
sides_spread u [] t h = elim h [ ]
sides_spread u (r ∷ ts) t first = omega arith
sides_spread u (r ∷ ts) t (later h) = let i = sides_spread u ts t h in omega (arith, i)

pub spread_over : (u : Assignment) (ts : List Atom) (t : Atom) → Has ts t → (nat_abs (value t.left u) ≤ spread_of u ts) × (nat_abs (value t.right u) ≤ spread_of u ts)
spread_over u ts t h = let i = sides_spread u ts t h in (omega (arith, i), omega (arith, i))

-- longer than the sides of any comparison of a query are apart
abbrev pub stride : QueryValue → Assignment → ℕ
stride q u = suc (spread_of u q.atoms)

within_spread : (a b x y : ℤ) (m : ℕ) → nat_abs a + nat_abs b ≤ m → a ≡ x → b ≡ y → span x y < suc m
within_spread a b x y m h e f = omega (arith, ints, h, e, f)

within_turned : (a b x y : ℤ) (m : ℕ) → nat_abs a + nat_abs b ≤ m → a ≡ y → b ≡ x → span x y < suc m
within_turned a b x y m h e f = omega (arith, ints, h, e, f)

-- so are the columns of a difference between streams
pub step_within : (q : QueryValue) (u : Assignment) (x y : Attr) → Step (system q) x y → span (u x) (u y) < stride q u
step_within q u x y s = elim (Has-append_cases (flat_map atom_bounds q.atoms) (flat_map domain_bounds q.domains) s.of s.among) [
  | inl i ↦ (let r = Has-flat_map_from atom_bounds q.atoms s.of i in of r.0 r.1 r.2)
  | inr i ↦ (let r = Has-flat_map_from domain_bounds q.domains s.of i in absurd (domain_apart r.0 s.of x y r.2 s.left s.right))
]
  where
    of : (t : Atom) → Has q.atoms t → Has (atom_bounds t) s.of → span (u x) (u y) < stride q u
    of t h k = elim (sides_of t.op t.left t.right s.of k) [
      | inl e ↦ within_spread (value t.left u) (value t.right u) (u x) (u y) (spread_of u q.atoms) (sides_spread u q.atoms t h) (ap (λ z. value z u) (sym e.0 ∙ s.left)) (ap (λ z. value z u) (sym e.1 ∙ s.right))
      | inr e ↦ within_turned (value t.left u) (value t.right u) (u x) (u y) (spread_of u q.atoms) (sides_spread u q.atoms t h) (ap (λ z. value z u) (sym e.1 ∙ s.right)) (ap (λ z. value z u) (sym e.0 ∙ s.left))
    ]

-- ---- spaced numbers

-- equal, or at least so far apart
abbrev pub AreSpaced : ℕ → ℤ → ℤ → Type 0
AreSpaced d x y = (x ≡ y) ⊎ (((x +ℤ pos d) ≤ℤ y) ⊎ ((y +ℤ pos d) ≤ℤ x))

spaced_back : (d : ℕ) (x y : ℤ) → AreSpaced d x y → AreSpaced d y x
spaced_back d x y (inl e) = inl (sym e)
spaced_back d x y (inr (inl l)) = inr (inr l)
spaced_back d x y (inr (inr l)) = inr (inl l)

-- nothing, or at least so much
abbrev pub IsNoneOr : ℕ → ℕ → Type 0
IsNoneOr d m = (m ≡ 0) ⊎ (d ≤ m)

pub steps_or_none : (d i : ℕ) → IsNoneOr d (i * d)
steps_or_none d zero = inl (grind arith)
steps_or_none d (suc i) = inr (let e : suc i * d ≡ i * d + d = grind arith in omega (arith, e))

pub up_spaced : (d m : ℕ) → IsNoneOr d m → AreSpaced d (pos m) (pos 0)
up_spaced d m (inl e) = inl (omega (arith, ints, e))
up_spaced d m (inr l) = inr (inr (omega (arith, ints, l)))

pub down_spaced : (d m : ℕ) → IsNoneOr d m → AreSpaced d (neg_ℤ (pos m)) (pos 0)
down_spaced d m (inl e) = inl (omega (arith, ints, e))
down_spaced d m (inr l) = inr (inl (omega (arith, ints, l)))

-- one up, one down
pub apart_spaced : (d m n : ℕ) → IsNoneOr d m → IsNoneOr d n → AreSpaced d (pos m) (neg_ℤ (pos n))
apart_spaced d m n (inl e) (inl f) = inl (omega (arith, ints, e, f))
apart_spaced d m n (inl e) (inr f) = inr (inr (omega (arith, ints, e, f)))
apart_spaced d m n (inr e) g = inr (inr (omega (arith, ints, e)))

-- the one twice some number more than the other, both up or both down
pub twice_or_none : (d m n : ℕ) → IsNoneOr d m → IsNoneOr d n → IsNoneOr d ((m + m) + n)
twice_or_none d m n (inl e) (inl f) = inl (omega (arith, e, f))
twice_or_none d m n (inl e) (inr f) = inr (omega (arith, f))
twice_or_none d m n (inr e) g = inr (omega (arith, e))

pub twice_up_spaced : (d m n : ℕ) → IsNoneOr d m → AreSpaced d (pos ((m + m) + n)) (pos n)
twice_up_spaced d m n (inl e) = inl (omega (arith, ints, e))
twice_up_spaced d m n (inr l) = inr (inr (omega (arith, ints, l)))

pub twice_down_spaced : (d m n : ℕ) → IsNoneOr d m → AreSpaced d (neg_ℤ (pos ((m + m) + n))) (neg_ℤ (pos n))
twice_down_spaced d m n (inl e) = inl (omega (arith, ints, e))
twice_down_spaced d m n (inr l) = inr (inl (omega (arith, ints, l)))

-- ---- moved columns

blocks_spaced : (d : ℕ) (f g : Attr → Bool) (x y : ℤ) → AreSpaced d x (pos 0) → AreSpaced d y (pos 0) → AreSpaced d x y
    → (a b : Attr) → AreSpaced d (two_blocks f g x y a) (two_blocks f g x y b)
unfolding two_blocks
blocks_spaced d f g x y l m n a b = by (f a) (g a) (f b) (g b)
  where
    by : (h i j k : Bool) → AreSpaced d (cond h x (cond i y (pos 0))) (cond j x (cond k y (pos 0)))
    by true i true k = inl refl
    by true i false true = n
    by true i false false = l
    by false true true k = spaced_back d x y n
    by false true false true = inl refl
    by false true false false = m
    by false false true k = spaced_back d x (pos 0) l
    by false false false true = spaced_back d y (pos 0) m
    by false false false false = inl refl

lone_spaced : (d : ℕ) (f g : Attr → Bool) (x y : ℤ) → AreSpaced d x (pos 0) → AreSpaced d y (pos 0) → (a : Attr) → AreSpaced d (two_blocks f g x y a) (pos 0)
unfolding two_blocks
lone_spaced d f g x y l m a = by (f a) (g a)
  where
    by : (h i : Bool) → AreSpaced d (cond h x (cond i y (pos 0))) (pos 0)
    by true i = l
    by false true = m
    by false false = inl refl

-- of elements too: an integer is not moved
sides_spaced : (d : ℕ) (f g : Attr → Bool) (x y : ℤ) → AreSpaced d x (pos 0) → AreSpaced d y (pos 0) → AreSpaced d x y
    → (a b : Element) → AreSpaced d (by_side (two_blocks f g x y) a) (by_side (two_blocks f g x y) b)
sides_spaced d f g x y l m n (element.Attr a) (element.Attr b) = blocks_spaced d f g x y l m n a b
sides_spaced d f g x y l m n (element.Attr a) (element.Const k) = lone_spaced d f g x y l m a
sides_spaced d f g x y l m n (element.Const k) (element.Attr b) = spaced_back d (two_blocks f g x y b) (pos 0) (lone_spaced d f g x y l m b)
sides_spaced d f g x y l m n (element.Const j) (element.Const k) = inl refl

-- less than so far apart and not equal, and moved by spaced numbers
still_differ : (d : ℕ) (a b x y : ℤ) → a ≢ b → span a b < d → AreSpaced d x y → (a +ℤ x) ≢ (b +ℤ y)
still_differ d a b x y n s (inl e) f = n (omega (arith, ints, e, f))
still_differ d a b x y n s (inr (inl l)) f = omega (arith, ints, s, l, f)
still_differ d a b x y n s (inr (inr l)) f = omega (arith, ints, s, l, f)

-- each `<>` that is met stays so
pub moved_apart : (q : QueryValue) (u : Assignment) → KeepsApart q u → (f g : Attr → Bool) (x y : ℤ)
    → AreSpaced (stride q u) x (pos 0) → AreSpaced (stride q u) y (pos 0) → AreSpaced (stride q u) x y → KeepsApart q (moved u (two_blocks f g x y))
moved_apart q u apart f g x y l m n t h e =
    atom_if w t (subst (λ o. Compares o (value t.left w) (value t.right w)) (sym e) (λ k.
    still_differ (stride q u) (value t.left u) (value t.right u) (by_side (two_blocks f g x y) t.left) (by_side (two_blocks f g x y) t.right) differed
    (within_spread (value t.left u) (value t.right u) (value t.left u) (value t.right u) (spread_of u q.atoms) (sides_spread u q.atoms t h) refl refl)
    (sides_spaced (stride q u) f g x y l m n t.left t.right)
    (sym (value_moved u (two_blocks f g x y) t.left) ∙ k ∙ value_moved u (two_blocks f g x y) t.right)))
  where
    w : Assignment
    w = moved u (two_blocks f g x y)

    differed : value t.left u ≢ value t.right u
    differed = subst (λ o. Compares o (value t.left u) (value t.right u)) e (atom_says u t (apart t h e))
