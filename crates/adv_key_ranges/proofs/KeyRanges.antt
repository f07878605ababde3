-- The keys that a query reads, and the ends of what their domains have in common.
use Rattle.std.proofs.Common.{◌≡◌, ℕ, ◌+◌, ◌<◌, ◌≤◌, ◌⊎◌, inl, inr, Bool, true, false, cond, ◌||◌, int_lt, ℤ, List, [], ◌∷◌, ◌++◌, length, take, get_or, filter, Contains, append-nil, append_assoc, ◌≤ℤ◌, refl, sym, ap, subst, ◌∙◌, arith}
use Rattle.std.specs.declared.option.Option.{Option}
use Rattle.std.specs.declared.option.Option.TheVariants.{None, Some}
use Rattle.std.specs.List.{flat_map, list_any, range_with_len}
use Rattle.std.proofs.lemmas.Int.{ints}
use Rattle.std.proofs.lemmas.List.{take_more, take_all}
use Rattle.std.proofs.lemmas.List.FromFn.{get_or-range_with_len, length-range_with_len}
use Rattle.sem_query.specs.declared.atom.Attr.{Attr}
use Rattle.sem_query.specs.declared.atom.Domain.{Domain}
use Rattle.sem_query.specs.Query.{QueryValue, attr_eq, attrs_of, IsShort, IsDomain}
use Rattle.sem_query.proofs.Once.{attr_same}
use Rattle.sem_query.proofs.Has.{Has, first, later, Has-from_contains, Contains-from_has, Has-flat_map_from, Has-filter_from}
use Rattle.sem_sharding.specs.Keys.{Keys}
use Rattle.adv_mends.specs.declared.mend.Ends.{Ends}
use Rattle.adv_key_ranges.specs.Keys.{is_among, reads, read_key, read_key_at, read_keys, AreRead, met, common, range_between, key_range, AreKeyEnds}

-- a column that is among some is there
pub among : (columns : List Attr) (a : Attr) → is_among columns a ≡ true → Contains columns a
among columns a e = Contains-from_has columns a (by columns e) where
  one : (b : Attr) (others : List Attr) (t : Bool) → attr_eq b a ≡ t → (list_any (λ c. attr_eq c a) others ≡ true → Has others a) → (t || list_any (λ c. attr_eq c a) others) ≡ true → Has (b ∷ others) a
  one b others true f h g = subst (λ (z : Attr). Has (z ∷ others) a) (sym (attr_same b a f)) first
  one b others false f h g = later (h g)

  by : (columns : List Attr) → is_among columns a ≡ true → Has columns a
  by [] f = cc
  by (b ∷ others) f = one b others (attr_eq b a) refl (by others) f

reads-is : (q : QueryValue) (a : Attr) → reads q a ≡ true → Contains (attrs_of q.atoms) a ⊎ Contains q.select a
reads-is q a e = by (is_among (attrs_of q.atoms) a) refl e where
  by : (b : Bool) → is_among (attrs_of q.atoms) a ≡ b → (b || is_among q.select a) ≡ true → Contains (attrs_of q.atoms) a ⊎ Contains q.select a
  by true f g = inl (among (attrs_of q.atoms) a f)
  by false f g = inr (among q.select a g)

-- a key that is read is one that the query reads
read_key-is : (q : QueryValue) (key : Option Attr) (a : Attr) → Has (read_key q key) a → Contains (attrs_of q.atoms) a ⊎ Contains q.select a
read_key-is q None a h = elim h [ ]
read_key-is q (Some b) a h = by (reads q b) a refl h where
  by : (t : Bool) (x : Attr) → reads q b ≡ t → Has (cond {A = List Attr} t (b ∷ []) []) x → Contains (attrs_of q.atoms) x ⊎ Contains q.select x
  by true x e first = reads-is q b e
  by true x e (later k) = elim k [ ]
  by false x e k = elim k [ ]

pub keys-are-read : (q : QueryValue) (keys : Keys) → AreRead q (read_keys q keys)
unfolding read_keys
keys-are-read q keys a h =
    let one = Has-flat_map_from (read_key_at q keys) (range_with_len 0 (length q.from)) a (Has-from_contains _ a h) in
    read_key-is q _ a one.2

-- the ends of what domains have in common have at most 15 digits
record AreShort (e : Ends) : Type 0 where
  low : IsShort e.lo
  high : IsShort e.hi

abbrev AreAllShort : Option Ends → Type 0
AreAllShort None = Unit {0}
AreAllShort (Some e) = AreShort e

which_short : (b : Bool) (x y : ℤ) → IsShort x → IsShort y → IsShort (cond b x y)
which_short true x y h k = h
which_short false x y h k = k

met-short : (q : QueryValue) (d : Domain) (range : Option Ends) → IsDomain q d → AreAllShort range → AreShort (met d range)
met-short q d None h k = record { low = h.low; high = h.high }
met-short q d (Some e) h k = record { low = which_short (int_lt e.lo d.lo) d.lo e.lo h.low k.low; high = which_short (int_lt d.hi e.hi) d.hi e.hi h.high k.high }

common-short : (q : QueryValue) (domains : List Domain) → ((d : Domain) → Has domains d → IsDomain q d) → AreAllShort (common domains)
common-short q [] h = tt
common-short q (d ∷ others) h = met-short q d (common others) (h d first) (common-short q others (λ e k. h e (later k)))

int_not_less : (x y : ℤ) → int_lt x y ≡ false → y ≤ℤ x
int_not_less x y e = grind (arith, ints)

between-ends : (range : Option Ends) → AreAllShort range → AreKeyEnds (range_between range)
between-ends None h = tt
between-ends (Some e) h = by (int_lt e.hi e.lo) refl where
  by : (b : Bool) → int_lt e.hi e.lo ≡ b → AreKeyEnds (cond b None (Some e))
  by true f = tt
  by false f = record { low = h.low; high = h.high; some = int_not_less e.hi e.lo f }

pub key-ends : (q : QueryValue) (columns : List Attr) (range : Option Ends) → range ≡ key_range q columns → ((d : Domain) → Contains q.domains d → IsDomain q d) → AreKeyEnds range
unfolding key_range
key-ends q columns range e h =
    subst AreKeyEnds (sym e)
    (between-ends (common (filter (λ d. is_among columns d.attr) q.domains))
    (common-short q (filter (λ d. is_among columns d.attr) q.domains)
    (λ d k. h d (Contains-from_has q.domains d (Has-filter_from (λ d. is_among columns d.attr) q.domains d k)))))

-- ---- place by place

module _ (f : ℕ → List Attr) (n : ℕ) where
  numbers-at : (i : ℕ) → i < n → take (i + 1) (range_with_len 0 n) ≡ take i (range_with_len 0 n) ++ i ∷ []
  numbers-at i l =
      let long : length (range_with_len 0 n) ≡ n = length-range_with_len 0 n in
      let at : get_or (range_with_len 0 n) i 0 ≡ i = (let e : 0 + i ≡ i = omega arith in get_or-range_with_len 0 n i 0 l ∙ e) in
      take_more (range_with_len 0 n) i 0 (omega (arith, l, long)) ∙ ap (λ (m : ℕ). take i (range_with_len 0 n) ++ m ∷ []) at

  flat-append : (xs ys : List ℕ) → flat_map f (xs ++ ys) ≡ flat_map f xs ++ flat_map f ys
  flat-append [] ys = refl
  flat-append (x ∷ xs) ys = rw (flat-append xs ys) (simp append_assoc)

  pub place-more : (i : ℕ) (old new : List Attr) → i < n → old ≡ flat_map f (take i (range_with_len 0 n)) → new ≡ old ++ f i → new ≡ flat_map f (take (i + 1) (range_with_len 0 n))
  place-more i old new l e g =
      g ∙ ap (λ (z : List Attr). z ++ f i) e ∙ sym (ap (flat_map f) (numbers-at i l) ∙ flat-append (take i (range_with_len 0 n)) (i ∷ []) ∙ ap (λ (z : List Attr). flat_map f (take i (range_with_len 0 n)) ++ z) (one i))
    where
      one : (i : ℕ) → flat_map f (i ∷ []) ≡ f i
      one i = append-nil (f i)

  pub place-all : (i : ℕ) (list : List Attr) → n ≤ i → list ≡ flat_map f (take i (range_with_len 0 n)) → list ≡ flat_map f (range_with_len 0 n)
  place-all i list l e =
      let long : length (range_with_len 0 n) ≡ n = length-range_with_len 0 n in
      e ∙ ap (flat_map f) (take_all i (range_with_len 0 n) (omega (arith, l, long)))

-- a key is one column at most
pub read-one : (q : QueryValue) (key : Option Attr) → length (read_key q key) ≤ 1
read-one q None = omega arith
read-one q (Some a) = by (reads q a) where
  by : (b : Bool) → length (cond {A = List Attr} b (a ∷ []) []) ≤ 1
  by true = omega arith
  by false = omega arith
