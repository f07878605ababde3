-- Narrower ranges of columns: what is tried are bounds of the query, and the best ones are kept.
use Rattle.std.proofs.Common.{◌≡◌, ℕ, zero, suc, ◌+◌, ◌/◌, ◌<◌, ◌≤◌, ℤ, pos, neg_ℤ, ◌+ℤ◌, ◌-ℤ◌, ◌<ℤ◌, int_lt, nat_abs, nat_eq, Bool, true, false, cond, ◌&&◌, List, [], ◌∷◌, ◌++◌, length, ◌-◌, take, drop, slice_index_or, inl, inr, All, Contains, refl, sym, ap, subst, ◌∙◌, arith, Result, Ok, Err, IfOk}
use Rattle.std.specs.declared.option.Option.{Option}
use Rattle.std.specs.declared.option.Option.TheVariants.{None, Some}
use Rattle.std.proofs.lemmas.Int.{ints}
use Rattle.std.proofs.lemmas.Bool.Decides.{nat_tests}
use Rattle.std.proofs.lemmas.List.{take_more, take_rest, drop_more}
use Rattle.std.proofs.lemmas.List.Elements.{All-contains}
use Rattle.sem_query.proofs.Elements.{HasElement, SidesIn, sides_in}
use Rattle.sem_query.proofs.Has.{Has, Contains-from_has}
use Rattle.sem_query.specs.declared.atom.Atom.{Atom}
use Rattle.sem_query.specs.declared.atom.Attr.{Attr}
use Rattle.sem_query.specs.declared.atom.Domain.{Domain}
use Rattle.sem_query.specs.declared.atom.Element.{Element}
use Rattle.sem_query.specs.declared.atom.Element.TheVariants as element
use Rattle.sem_query.specs.declared.atom.Op.{Op}
use Rattle.sem_query.specs.declared.atom.Op.TheVariants.{Lt, Eq, Gt, Le, Ge, Ne}
use Rattle.sem_query.specs.declared.plan.Numbers.{Numbers}
use Rattle.sem_query.specs.Query.{QueryValue, attr_eq, attrs_of, consts_of, IsShort, IsWithinLimits}
use Rattle.sem_query.proofs.Once.{attr_same}
use Rattle.plan_constraints.proofs.Joined.{All-from_has}
use Rattle.sem_laws.proofs.OnePartFits.{has_cases}
use Rattle.adv_mends.specs.declared.judging.Judgement.{Judgement}
use Rattle.adv_mends.specs.declared.comparing.Cheaper.{Cheaper}
use Rattle.adv_mends.specs.Mended.{compared, IsBound}
use Rattle.adv_mends.specs.Comparisons.{IsTried, placed, all_placed}
use Rattle.adv_mends.specs.Narrowed.{turned, from_on, up_to, cut, cut_sides, cut_by, domain_or, range_by, range_of, is_enclosed, halvings_from, halvings_of, IsFirst, none, found, behind, kept, dropped, AreNarrowed, PutsFirst, put, left_out, IsShortSide, AreShortSides}
use Rattle.adv_mends.proofs.MoreAtoms.{bound-is}
use Rattle.adv_mends.proofs.Placing.{take_placed, placed_last}
use Rattle.adv_mends.proofs.Sublists.{at_place}

-- the integers that comparisons of a query name have at most 15 digits
short_side : (q : QueryValue) (x : Element) → IsWithinLimits q → HasElement (attrs_of q.atoms) (consts_of q.atoms) x → IsShortSide x
short_side q (element.Attr a) w h = tt
short_side q (element.Const k) w h = All-contains IsShort (consts_of q.atoms) k w.consts (Contains-from_has (consts_of q.atoms) k h)

pub short_sides : (q : QueryValue) (atoms : List Atom) (i : ℕ) (d : Atom) → IsWithinLimits q → atoms ≡ q.atoms → i < length atoms → AreShortSides (slice_index_or atoms i d)
short_sides q atoms i d w e l =
    let s : SidesIn q.atoms (slice_index_or q.atoms i d) = sides_in q.atoms (slice_index_or q.atoms i d) (at_place q.atoms i d (subst (λ z. i < length z) e l)) in
    subst (λ z. AreShortSides (slice_index_or z i d)) (sym e) record { left = short_side q _ w s.left; right = short_side q _ w s.right }

-- one more comparison
pub range_step : (range new before : Domain) (atoms : List Atom) (i : ℕ) (d : Atom) → i < length atoms → new ≡ cut_by range (slice_index_or atoms i d) → range_by range (drop i atoms) ≡ before
    → range_by new (drop (i + 1) atoms) ≡ before
range_step range new before atoms i d l f g =
    let next : drop i atoms ≡ slice_index_or atoms i d ∷ drop (i + 1) atoms = drop_more atoms i d l in
    rw f (subst (λ z. range_by range z ≡ before) next g)

-- a comparison that leaves a lower part of a range
record IsLower (d : Domain) (width : ℕ) (t : Atom) : Type 0 where
  above : ℕ
  some : 1 ≤ above
  inside : above ≤ width
  is : t ≡ compared d.attr Lt (d.lo +ℤ pos above)

half_within : (w : ℕ) → nat_eq w 0 ≡ false → w / 2 + 1 ≤ w
half_within w e = grind (arith, nat_tests)

half_less : (w : ℕ) → w / 2 ≤ w
half_less w = omega arith

halving-is : (d : Domain) (width more : ℕ) (t : Atom) → Has (halvings_from d width more) t → IsLower d width t
halving-is d width zero t h = elim h [ ]
halving-is d width (suc more) t h = cases (nat_eq width 0) refl h (halving-is d (width / 2) more t) where
  cases : (b : Bool) → nat_eq width 0 ≡ b → Has (cond {A = List Atom} b [] (compared d.attr Lt (d.lo +ℤ pos (width / 2 + 1)) ∷ halvings_from d (width / 2) more)) t
      → (Has (halvings_from d (width / 2) more) t → IsLower d (width / 2) t) → IsLower d width t
  cases true e k r = elim k [ ]
  cases false e k r = elim (has_cases (compared d.attr Lt (d.lo +ℤ pos (width / 2 + 1))) t (halvings_from d (width / 2) more) k) [
    | inl same ↦ record { above = width / 2 + 1; some = omega arith; inside = half_within width e; is = sym same }
    | inr i ↦ let s = r i in record { above = s.above; some = s.some; inside = omega (arith, s.inside, half_less width); is = s.is }
  ]

pub record IsEnclosed (d : Domain) : Type 0 where
  pub low : neg_ℤ (pos 999999999999999) <ℤ d.lo
  pub some : d.lo <ℤ d.hi
  pub high : d.hi <ℤ pos 999999999999999

and_parts : (a b c : Bool) → (a && b && c) ≡ true → (a ≡ true) × (b ≡ true) × (c ≡ true)
and_parts true true c h = (refl, refl, h)
and_parts true false c h = absurd cc
and_parts false b c h = absurd cc

int_less : (x y : ℤ) → int_lt x y ≡ true → x <ℤ y
int_less x y h = grind (arith, ints)

pub enclosed : (d : Domain) → is_enclosed d ≡ true → IsEnclosed d
enclosed d h =
    let p = and_parts _ _ _ h in
    record { low = int_less _ _ p.0; some = int_less _ _ p.1; high = int_less _ _ p.2 }

short_above : (lo hi : ℤ) (above : ℕ) → neg_ℤ (pos 999999999999999) <ℤ lo → lo <ℤ hi → hi <ℤ pos 999999999999999 → above ≤ nat_abs (hi -ℤ lo) → IsShort (lo +ℤ pos above)
short_above lo hi above l s h a = record { low = grind (arith, ints); high = grind (arith, ints) }

bound_of : (q : QueryValue) (a : Attr) (d : Domain) (t : Atom) → d.attr ≡ a → Contains (attrs_of q.atoms) a → IsEnclosed d → IsLower d (nat_abs (d.hi -ℤ d.lo)) t → IsBound q t
bound_of q a d t e there i l =
    subst (IsBound q) (sym l.is) (bound-is q d.attr Lt (d.lo +ℤ pos l.above) (inl (subst (Contains (attrs_of q.atoms)) (sym e) there)) (short_above d.lo d.hi l.above i.low i.some i.high l.inside))

-- the range of a column is one of that column
from_on-attr : (d : Domain) (k : ℤ) → (from_on d k).attr ≡ d.attr
from_on-attr d k = refl

up_to-attr : (d : Domain) (k : ℤ) → (up_to d k).attr ≡ d.attr
up_to-attr d k = refl

cut-attr : (op : Op) (k : ℤ) (d : Domain) → (cut op k d).attr ≡ d.attr
cut-attr Lt k d = up_to-attr d (k -ℤ pos 1)
cut-attr Eq k d = up_to-attr (from_on d k) k ∙ from_on-attr d k
cut-attr Gt k d = from_on-attr d (k +ℤ pos 1)
cut-attr Le k d = up_to-attr d k
cut-attr Ge k d = from_on-attr d k
cut-attr Ne k d = refl

cut_where-attr : (b : Bool) (op : Op) (k : ℤ) (d : Domain) → (cond {A = Domain} b (cut op k d) d).attr ≡ d.attr
cut_where-attr true op k d = cut-attr op k d
cut_where-attr false op k d = refl

cut_sides-attr : (d : Domain) (x : Element) (op : Op) (y : Element) → (cut_sides d x op y).attr ≡ d.attr
cut_sides-attr d (element.Attr a) op (element.Const k) = cut_where-attr (attr_eq a d.attr) op k d
cut_sides-attr d (element.Const k) op (element.Attr a) = cut_where-attr (attr_eq a d.attr) (turned op) k d
cut_sides-attr d (element.Attr a) op (element.Attr b) = refl
cut_sides-attr d (element.Const j) op (element.Const k) = refl

range_by-attr : (d : Domain) (ts : List Atom) → (range_by d ts).attr ≡ d.attr
range_by-attr d [] = refl
range_by-attr d (t ∷ ts) = range_by-attr (cut_by d t) ts ∙ cut_sides-attr d t.left t.op t.right

domain_or-attr : (ds : List Domain) (a : Attr) → (domain_or ds a).attr ≡ a
domain_or-attr [] a = refl
domain_or-attr (d ∷ ds) a = cases (attr_eq d.attr a) refl (domain_or-attr ds a) where
  cases : (b : Bool) → attr_eq d.attr a ≡ b → (domain_or ds a).attr ≡ a → (cond {A = Domain} b d (domain_or ds a)).attr ≡ a
  cases true e h = attr_same d.attr a e
  cases false e h = h

range-attr : (q : QueryValue) (a : Attr) → (range_of q a).attr ≡ a
unfolding range_of
range-attr q a = range_by-attr (domain_or q.domains a) q.atoms ∙ domain_or-attr q.domains a

-- all that is tried are bounds of the query
pub halvings-are : (q : QueryValue) (a : Attr) → Contains (attrs_of q.atoms) a → All (IsBound q) (halvings_of q a)
unfolding halvings_of
halvings-are q a there = cases (is_enclosed (range_of q a)) refl where
  cases : (b : Bool) → is_enclosed (range_of q a) ≡ b
      → All (IsBound q) (cond {A = List Atom} b (halvings_from (range_of q a) (nat_abs ((range_of q a).hi -ℤ (range_of q a).lo)) 20) [])
  cases true e =
      All-from_has (IsBound q) (halvings_from (range_of q a) (nat_abs ((range_of q a).hi -ℤ (range_of q a).lo)) 20)
      (λ t h. bound_of q a (range_of q a) t (range-attr q a) there (enclosed (range_of q a) e) (halving-is (range_of q a) (nat_abs ((range_of q a).hi -ℤ (range_of q a).lo)) 20 t h))
  cases false e = λ k d l. absurd (omega (arith, l))

module _ (shared : Bool) (q : QueryValue) (own : Judgement) where
  pub narrowed_none : AreNarrowed shared q own [] []
  narrowed_none = record { all = []; halved = none; are = refl }

  narrowed_step : (columns : List Attr) (a : Attr) (before after : List Cheaper) → AreNarrowed shared q own columns before → PutsFirst shared q own (halvings_of q a) before after
      → AreNarrowed shared q own (columns ++ a ∷ []) after
  narrowed_step columns a before after are (put c one is) = record {
    all = are.all ++ c ∷ [];
    halved = kept a c are.halved one;
    are = is ∙ ap (λ l. take 5 (placed c l)) are.are ∙ take_placed 5 c (all_placed [] are.all) ∙ ap (take 5) (sym (placed_last [] are.all c));
  }
  narrowed_step columns a before after are (left_out one is) = record { all = are.all; halved = dropped a are.halved one; are = is ∙ are.are }

  -- one more column of a list
  pub narrowed_more : (list : List Attr) (ts : List Atom) (i : ℕ) (d : Attr) (before after : List Cheaper) → i < length list → ts ≡ halvings_of q (slice_index_or list i d)
      → AreNarrowed shared q own (take i list) before → PutsFirst shared q own ts before after → AreNarrowed shared q own (take (i + 1) list) after
  narrowed_more list ts i d before after l e are puts =
      subst (λ z. AreNarrowed shared q own z after) (sym (take_more list i d l))
      (narrowed_step (take i list) (slice_index_or list i d) before after are (subst (λ z. PutsFirst shared q own z before after) e puts))

  -- the rest of some comparisons are bounds where all are
  pub bounds-rest : (ts : List Atom) → 1 ≤ length ts → All (IsBound q) ts → All (IsBound q) (take (length ts - 1) (drop 1 ts))
  bounds-rest [] l h = absurd (omega (arith, l))
  bounds-rest (t ∷ ts) l h = subst (All (IsBound q)) (sym (take_rest (t ∷ ts) 1)) (λ k d m. h (suc k) d (omega (arith, m)))

  pub bounds-head : (ts : List Atom) (d : Atom) → 1 ≤ length ts → All (IsBound q) ts → IsBound q (slice_index_or ts 0 d)
  bounds-head ts d l h = h 0 d (omega (arith, l))

  pub first-nothing : (ts : List Atom) → length ts < 1 → IsFirst shared q own ts None
  first-nothing [] l = none
  first-nothing (t ∷ ts) l = absurd (omega (arith, l))

  pub first-found : (ts : List Atom) (d : Atom) (got : Option Numbers) (numbers : Numbers) → 1 ≤ length ts → got ≡ Some numbers → IsTried shared q own (slice_index_or ts 0 d) got
      → IsFirst shared q own ts (Some record { atom = slice_index_or ts 0 d; numbers = numbers })
  first-found [] d got numbers l e t = absurd (omega (arith, l))
  first-found (u ∷ ts) d got numbers l e t = found u numbers (subst (IsTried shared q own u) e t)

  pub first-behind : (ts : List Atom) (d : Atom) (got : Option Numbers) (one : Option Cheaper) → 1 ≤ length ts → got ≡ None → IsTried shared q own (slice_index_or ts 0 d) got
      → IsFirst shared q own (take (length ts - 1) (drop 1 ts)) one → IsFirst shared q own ts one
  first-behind [] d got one l e t h = absurd (omega (arith, l))
  first-behind (u ∷ ts) d got one l e t h = behind u (subst (IsTried shared q own u) e t) (subst (λ z. IsFirst shared q own z one) (take_rest (u ∷ ts) 1) h)

  -- where the first is none that serves, the rest are gone through
  pub puts-behind : (ts : List Atom) (d : Atom) (got : Option Numbers) (before after : List Cheaper) → 1 ≤ length ts → got ≡ None → IsTried shared q own (slice_index_or ts 0 d) got
      → PutsFirst shared q own (take (length ts - 1) (drop 1 ts)) before after → PutsFirst shared q own ts before after
  puts-behind ts d got before after l e t (put c one is) = put c (first-behind ts d got (Some c) l e t one) is
  puts-behind ts d got before after l e t (left_out one is) = left_out (first-behind ts d got None l e t one) is

-- the halvings of a listed column are bounds of the query
pub listed-halvings : (q : QueryValue) (list : List Attr) (ts : List Atom) (i : ℕ) (d : Attr) → list ≡ attrs_of q.atoms → i < length list → ts ≡ halvings_of q (slice_index_or list i d) → All (IsBound q) ts
listed-halvings q list ts i d e l is =
    subst (All (IsBound q)) (sym is)
    (halvings-are q (slice_index_or list i d) (Contains-from_has (attrs_of q.atoms) (slice_index_or list i d) (subst (λ z. Has z (slice_index_or list i d)) e (at_place list i d l))))
