-- Tests by which a plan that is written out is shown to be the plan of its query.
use Rattle.std.proofs.Common.{◌≡◌, ℕ, zero, suc, List, [], ◌∷◌, length, cond, Bool, true, false, ◌&&◌, ◌||◌, not, refl, sym, subst, nat_eq, ℤ, pos, int_lt, ◌-ℤ◌, Some, None, All, AllPairs, IsTrue}
use Rattle.std.proofs.lemmas.List.Elements.{Contains-get_or}
use Rattle.std.specs.Ordering.{int_eq}
use Rattle.std.specs.List.{list_all, list_any}
use Rattle.sem_query.proofs.Has.{Has, Has-from_contains}
use Rattle.sem_query.proofs.Split.{pairs_from}
use Rattle.sem_query.proofs.Unique.{Ascends, none, more}
use Rattle.sem_query.specs.declared.atom.Attr.{Attr}
use Rattle.sem_query.specs.declared.atom.Element.{Element}
use Rattle.sem_query.specs.declared.atom.Element.TheVariants as element
use Rattle.sem_query.specs.declared.plan.Dim.{Dim}
use Rattle.sem_query.specs.declared.plan.Kind.{Kind}
use Rattle.sem_query.specs.declared.plan.Link.{Link}
use Rattle.sem_query.specs.declared.plan.StreamPlan.{StreamPlan}
use Rattle.sem_query.specs.declared.plan.PartPlan.{PartPlan}
use Rattle.sem_query.specs.Boxes.{box_size}
use Rattle.sem_query.specs.Query.{QueryValue, attrs_of, consts_of, attr_lt, attr_eq}
use Rattle.sem_query.specs.Assignment.{Assignment, value}
use Rattle.sem_query.specs.Parts.{same_stream}
use Rattle.sem_query.specs.Laws.{ends_of}
use Rattle.sem_query.specs.Plan.{link, link_lt, stream_at}
use Rattle.sem_laws.proofs.Tests.{and-left, and-right, all_at, any_from, any_if, attr_eq-is, attr_eq-itself}
use Rattle.sem_laws.proofs.Tables.{Bound, bound, at_most}
use Rattle.sem_laws.proofs.PartsListed.{elements_of}

abbrev pub is_none : {X : Type 0} → List X → Bool
is_none [] = true
is_none (x ∷ xs) = false

pub none-if : {X : Type 0} (xs : List X) → is_none xs ≡ true → xs ≡ []
none-if [] h = refl
none-if (x ∷ xs) h = absurd cc

-- lists

abbrev pub ascends_test : {X : Type 0} → (X → X → Bool) → List X → Bool
ascends_test lt [] = true
ascends_test lt (x ∷ xs) = list_all (lt x) xs && ascends_test lt xs

pub ascends-if : {X : Type 0} (lt : X → X → Bool) (xs : List X) → ascends_test lt xs ≡ true → Ascends lt xs
ascends-if lt [] h = none
ascends-if lt (x ∷ xs) h = more (λ y k. all_at (lt x) xs y (and-left (list_all (lt x) xs) _ h) k) (ascends-if lt xs (and-right (list_all (lt x) xs) _ h))

pub pairs-ascend : {X : Type 0} (lt : X → X → Bool) (xs : List X) → ascends_test lt xs ≡ true → AllPairs (λ x y. IsTrue (lt x y)) xs
pairs-ascend lt xs h = pairs_from lt xs (ascends-if lt xs h)

pub all-true : {X : Type 0} (t : X → Bool) (P : X → Type 0) → ((x : X) → t x ≡ true → P x) → (xs : List X) → list_all t xs ≡ true → All P xs
all-true t P f xs h k d l = f _ (all_at t xs _ h (Has-from_contains xs _ (Contains-get_or xs k d l)))

abbrev pub among : Attr → List Attr → Bool
among a xs = list_any (attr_eq a) xs

pub among-has : (a : Attr) (xs : List Attr) → among a xs ≡ true → Has xs a
among-has a xs h = let r = any_from (attr_eq a) xs h in subst (Has xs) (sym (attr_eq-is a r.0 r.2)) r.1

pub among-if : (a : Attr) (xs : List Attr) → Has xs a → among a xs ≡ true
among-if a xs h = any_if (attr_eq a) xs a h (attr_eq-itself a)

abbrev pub has_link : List Link → Attr → Attr → Bool
has_link links x y = list_any (λ l. attr_eq l.left x && attr_eq l.right y) links

same_links : (l : Link) (x y : Attr) → l.left ≡ x → l.right ≡ y → l ≡ link x y
same_links l x y e f = λ i. link (e i) (f i)

pub has_link-is : (links : List Link) (x y : Attr) → has_link links x y ≡ true → Has links (link x y)
has_link-is links x y h =
    let r = any_from (λ (l : Link). attr_eq l.left x && attr_eq l.right y) links h in
    subst (Has links) (same_links r.0 x y (attr_eq-is r.0.left x (and-left _ _ r.2)) (attr_eq-is r.0.right y (and-right (attr_eq r.0.left x) _ r.2))) r.1

pub has_link-if : (links : List Link) (x y : Attr) → Has links (link x y) → has_link links x y ≡ true
has_link-if links x y h =
    any_if (λ (l : Link). attr_eq l.left x && attr_eq l.right y) links (link x y) h (rw (attr_eq-itself x, attr_eq-itself y) refl)

-- a test of all pairs of some columns
abbrev pub each_pair : List Attr → (Attr → Attr → Bool) → Bool
each_pair xs t = list_all (λ x. list_all (t x) xs) xs

pub pair-at : (xs : List Attr) (t : Attr → Attr → Bool) (x y : Attr) → each_pair xs t ≡ true → Has xs x → Has xs y → t x y ≡ true
pair-at xs t x y h i j = all_at (t x) xs y (all_at (λ z. list_all (t z) xs) xs x h i) j

pub not-true : (b : Bool) → not b ≡ true → b ≡ false
not-true true h = absurd cc
not-true false h = refl

-- what a table and some assignments of a part tell of it

module _ (q : QueryValue) (table : List (List Bound)) (ws : List Assignment) where
  abbrev pub less_by : Element → Element → Bool
  less_by x y = at_most (bound (elements_of q) table x y) (pos 0 -ℤ pos 1)

  abbrev pub equal_by : Element → Element → Bool
  equal_by x y = at_most (bound (elements_of q) table x y) (pos 0) && at_most (bound (elements_of q) table y x) (pos 0)

  abbrev pub not_less : Element → Element → Bool
  not_less x y = list_any (λ w. not (int_lt (value x w) (value y w))) ws

  abbrev pub not_equal : Element → Element → Bool
  not_equal x y = list_any (λ w. not (int_eq (value x w) (value y w))) ws

  abbrev pub redundant_by : Attr → Attr → Bool
  redundant_by x y =
      list_any (λ e. less_by (element.Attr x) e && less_by e (element.Attr y)) (elements_of q)
      || list_any (λ k. equal_by (element.Attr x) (element.Const k) && less_by (element.Const k) (element.Attr y)) (consts_of q.atoms)
      || list_any (λ k. less_by (element.Attr x) (element.Const k) && equal_by (element.Const k) (element.Attr y)) (consts_of q.atoms)

  abbrev pub needed_by : Attr → Attr → Bool
  needed_by x y =
      list_all (λ e. not_less (element.Attr x) e || not_less e (element.Attr y)) (elements_of q)
      && (list_all (λ k. not_equal (element.Attr x) (element.Const k) || not_less (element.Const k) (element.Attr y)) (consts_of q.atoms)
      && list_all (λ k. not_less (element.Attr x) (element.Const k) || not_equal (element.Const k) (element.Attr y)) (consts_of q.atoms))

  abbrev pub equal_link : List Link → Attr → Attr → Bool
  equal_link links x y =
      cond (has_link links x y)
      (attr_lt x y && not (same_stream x y) && equal_by (element.Attr x) (element.Attr y))
      (not (attr_lt x y) || same_stream x y || not_equal (element.Attr x) (element.Attr y))

  abbrev pub less_link : List Link → Attr → Attr → Bool
  less_link links x y =
      cond (has_link links x y)
      (not (same_stream x y) && less_by (element.Attr x) (element.Attr y) && needed_by x y)
      (same_stream x y || not_less (element.Attr x) (element.Attr y) || redundant_by x y)

  abbrev pub are_named : List Link → Bool
  are_named links = list_all (λ l. among l.left (attrs_of q.atoms) && among l.right (attrs_of q.atoms)) links

  abbrev pub links_test : PartPlan → Bool
  links_test part =
      are_named part.equal.items && (each_pair (attrs_of q.atoms) (equal_link part.equal.items)
      && (are_named part.less.items && each_pair (attrs_of q.atoms) (less_link part.less.items)))

  abbrev pub has_some : Bound → Bool
  has_some None = false
  has_some (Some c) = true

  abbrev pub bounded_by : Attr → Bool
  bounded_by a =
      list_any (λ k. has_some (bound (elements_of q) table (element.Const k) (element.Attr a))) (consts_of q.atoms)
      && list_any (λ k. has_some (bound (elements_of q) table (element.Attr a) (element.Const k))) (consts_of q.atoms)

  abbrev pub unbounded_by : Attr → Bool
  unbounded_by a =
      list_any (λ w. list_all (λ k. int_lt k (w a)) (ends_of q)) ws
      || list_any (λ w. list_all (λ k. int_lt (w a) k) (ends_of q)) ws

  abbrev pub names_class : Attr → Bool
  names_class a =
      among a (attrs_of q.atoms)
      && list_all (λ b. not (attr_lt b a) || not (same_stream b a) || not_equal (element.Attr b) (element.Attr a)) (attrs_of q.atoms)

  abbrev pub in_class : Attr → Attr → Bool
  in_class a b = among a (attrs_of q.atoms) && (among b (attrs_of q.atoms) && (same_stream a b && equal_by (element.Attr a) (element.Attr b)))

  abbrev pub wanted_by : PartPlan → Attr → Bool
  wanted_by part a =
      among a q.select
      || (list_any (λ l. attr_eq l.left a) part.equal.items || (list_any (λ l. attr_eq l.right a) part.equal.items
      || (list_any (λ l. attr_eq l.left a) part.less.items || list_any (λ l. attr_eq l.right a) part.less.items)))

  abbrev pub low_by : Attr → ℤ → Bool
  low_by a z =
      list_any (λ w. int_eq (w a) z) ws
      && list_any (λ k. at_most (bound (elements_of q) table (element.Const k) (element.Attr a)) (k -ℤ z)) (consts_of q.atoms)

  abbrev pub high_by : Attr → ℤ → Bool
  high_by a z =
      list_any (λ w. int_eq (w a) z) ws
      && list_any (λ k. at_most (bound (elements_of q) table (element.Attr a) (element.Const k)) (z -ℤ k)) (consts_of q.atoms)

  abbrev pub dim_test : PartPlan → ℕ → Dim → Bool
  dim_test part place d =
      nat_eq d.attr.stream place && (names_class d.attr && (low_by d.attr d.lo && (high_by d.attr d.hi
      && list_any (λ m. in_class d.attr m && wanted_by part m) (attrs_of q.atoms))))

  abbrev pub covered_by : PartPlan → ℕ → List Dim → Attr → Bool
  covered_by part place dims a =
      not (nat_eq a.stream place) || unbounded_by a || not (wanted_by part a) || list_any (λ d. in_class d.attr a) dims

  abbrev pub side_bounded : ℕ → Attr → Bool
  side_bounded place a = not (nat_eq a.stream place) || bounded_by a

  abbrev pub kind_test : PartPlan → ℕ → Kind → Bool
  kind_test part place Kind.Count = not q.distinct
  kind_test part place Kind.Present = q.distinct && list_all (λ l. side_bounded place l.left && side_bounded place l.right) part.less.items
  kind_test part place (Kind.Least a) = q.distinct && (nat_eq a.stream place && (names_class a && (unbounded_by a && list_any (λ l. attr_eq l.left a) part.less.items)))
  kind_test part place (Kind.Greatest a) = q.distinct && (nat_eq a.stream place && (names_class a && (unbounded_by a && list_any (λ l. attr_eq l.right a) part.less.items)))

  abbrev pub stream_test : PartPlan → ℕ → StreamPlan → Bool
  stream_test part place plan =
      ascends_test (λ d e. attr_lt d.attr e.attr) plan.dims.items
      && (list_all (dim_test part place) plan.dims.items
      && (list_all (covered_by part place plan.dims.items) (attrs_of q.atoms)
      && (kind_test part place plan.kind
      && nat_eq plan.size (cond (nat_eq (length q.from) 1) 0 (box_size plan.dims.items)))))

  abbrev pub streams_test : PartPlan → ℕ → Bool
  streams_test part zero = true
  streams_test part (suc n) = stream_test part n (stream_at part n) && streams_test part n

  abbrev pub part_test : PartPlan → Bool
  part_test part =
      list_all (λ a. among a (attrs_of q.atoms)) q.select
      && (links_test part
      && (ascends_test link_lt part.equal.items && (ascends_test link_lt part.less.items
      && (nat_eq (length part.streams.items) (length q.from)
      && (streams_test part (length q.from)
      && (is_none part.local && is_none part.soft.items))))))
