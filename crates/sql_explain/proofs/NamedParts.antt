-- The columns of the plan of a query are columns of its streams.
use Rattle.std.proofs.Common.{◌≡◌, ℕ, zero, suc, ◌<◌, Bool, true, false, List, [], ◌∷◌, length, map, get_or, sym, ap, ◌∙◌, subst, arith, All, Contains, inl, inr}
use Rattle.std.proofs.lemmas.List.{length-map, get_or-map, get_or_default}
use Rattle.std.proofs.lemmas.List.Elements.{All-weaker, All-contains}
use Rattle.sem_query.specs.declared.atom.Attr.{Attr}
use Rattle.sem_query.specs.declared.atom.Element.{Element}
use Rattle.sem_query.specs.declared.atom.Element.TheVariants as element
use Rattle.sem_query.proofs.Elements.{HasElement}
use Rattle.sem_query.proofs.Has.{Has, Has-from_contains, Contains-from_has}
use Rattle.sem_query.proofs.Local.{PairIn, pair_named}
use Rattle.sem_query.specs.declared.part.Pair.{Pair}
use Rattle.sem_query.specs.declared.part.Sign.{Sign}
use Rattle.sem_query.specs.declared.plan.Kind.{Kind}
use Rattle.sem_query.specs.declared.plan.Link.{Link}
use Rattle.sem_query.specs.declared.plan.PartPlan.{PartPlan}
use Rattle.sem_query.specs.declared.plan.StreamPlan.{StreamPlan}
use Rattle.sem_query.specs.Query.{QueryValue, IsWithinLimits, attrs_of, consts_of}
use Rattle.sem_query.specs.Parts.{pairs, sign_at, IsPart}
use Rattle.sem_query.specs.Links.{AreAcross}
use Rattle.sem_query.specs.Plan.{NamesClass, IsDim, IsKind, IsPartPlan, IsStreamPlan, ArePartPlans, stream_at}
use Rattle.sem_query.specs.Sharing.{IsPlanFor}
use Rattle.plan_split_pairs.specs.Pairs.{split_pairs}
use Rattle.plan_split_pairs.specs.SplitParts.{IsSplitPart}
use Rattle.sem_whole.proofs.Signed.{signed_attrs}
use Rattle.sem_forms.specs.Part.{IsWholePartPlan}
use Rattle.sem_forms.specs.Split.{part_query}
use Rattle.sem_forms.specs.Parts as parted
use Rattle.sem_forms.specs.Parts.{IsPartsFor}
use Rattle.sem_forms.specs.Forms as forms
use Rattle.sem_forms.specs.Forms.{IsFormPlan}
use Rattle.sem_forms.proofs.PartQueries.{split_pairs_are_signed, as_many_signs}
use Rattle.sem_forms.proofs.SplitServes.{zip_right}
use Rattle.sql_catalog.specs.Streams.{Shape}
use Rattle.sql_parser.specs.Resolution.{IsColumnOf, HasSide, HasNamed}
use Rattle.sql_parser.proofs.NamedAttrs.{attributes_are_named}
use Rattle.sql_explain.specs.Named.{HasPair, HasDim, HasKind, HasStream, HasPart}
use Rattle.sql_explain.proofs.NamedLinks.{HasAttributes}
use Rattle.sql_explain.proofs.NamedWhole.{whole_named}

-- an item is in its list
inside : {X : Type 0} (xs : List X) (k : ℕ) (d : X) → k < length xs → Contains xs (get_or xs k d)
inside xs k d lt = (k, lt, get_or_default xs k _ d lt)

-- an attribute or a constant is there as a side
side_named : (streams : List Shape) (q : QueryValue) (x : Element) → HasNamed streams q → HasElement (attrs_of q.atoms) (consts_of q.atoms) x → HasSide streams q.from x
side_named streams q (element.Attr a) h i = attributes_are_named streams q h a (Contains-from_has (attrs_of q.atoms) a i)
side_named streams q (element.Const k) h i = tt

pair_has : (streams : List Shape) (q : QueryValue) (p : Pair) → HasNamed streams q → PairIn (attrs_of q.atoms) (consts_of q.atoms) p → HasPair streams q.from p
pair_has streams q p h i = (attributes_are_named streams q h p.left (Contains-from_has (attrs_of q.atoms) p.left i.left), side_named streams q p.right h i.right)

-- the sides of all pairs are there
pub pairs_named : (streams : List Shape) (q : QueryValue) → HasNamed streams q → All (HasPair streams q.from) (pairs q)
pairs_named streams q h k d lt =
    let p : Pair = get_or (pairs q) k d in
    pair_has streams q p h (pair_named q p (Has-from_contains (pairs q) p (inside (pairs q) k d lt)))

-- a part has a sign for each pair
signs_fit : (q : QueryValue) (s : List Sign) → IsPart q s → length (pairs q) ≡ length s
signs_fit q s p = sym (length-map (pairs q) (sign_at p.one)) ∙ ap length p.inside.signs

-- a column that names a class is there
class_named : (streams : List Shape) (q : QueryValue) (s : List Sign) (a : Attr) → HasNamed streams q → NamesClass q s a → IsColumnOf streams q.from a
class_named streams q s a h n = elim n.named [
  | inl i ↦ attributes_are_named streams q h a i
  | inr i ↦ All-contains (IsColumnOf streams q.from) q.select a h.select i
]

-- the column of which a cell keeps an extreme value is there
kind_named : (streams : List Shape) (q : QueryValue) (s : List Sign) (place : ℕ) (kind : Kind) → HasNamed streams q → IsKind q s place kind → HasKind streams q.from kind
kind_named streams q s place Kind.Count h k = tt
kind_named streams q s place Kind.Present h k = tt
kind_named streams q s place (Kind.Least a) h k = class_named streams q s a h k.2
kind_named streams q s place (Kind.Greatest a) h k = class_named streams q s a h k.2

-- the columns of what is kept of a stream are there
stream_named : (streams : List Shape) (q : QueryValue) (s : List Sign) (place : ℕ) (kept : StreamPlan) → HasNamed streams q → IsStreamPlan q s place kept → HasStream streams q.from kept
stream_named streams q s place kept h p = record {
  dims = All-weaker (IsDim q s place) (HasDim streams q.from) (λ d i. class_named streams q s d.attr h i.name) kept.dims.items p.dims.each;
  kind = kind_named streams q s place kept.kind h p.kind;
}

-- the sides of a link between streams are there
across_named : (streams : List Shape) (q : QueryValue) (x y : Attr) → HasNamed streams q → AreAcross q x y → IsColumnOf streams q.from x × IsColumnOf streams q.from y
across_named streams q x y h a = (attributes_are_named streams q h x a.left, attributes_are_named streams q h y a.right)

-- the columns of a part are there
part_named : (streams : List Shape) (q : QueryValue) (part : PartPlan) → HasNamed streams q → IsPart q part.signs.items → IsPartPlan q part → HasPart streams q part
part_named streams q part h is p = record {
  signs = inl (signs_fit q part.signs.items is);
  equal = λ k d lt.
      let l : Link = get_or part.equal.items k d in
      across_named streams q l.left l.right h ((p.equal l.left l.right).0 (inside part.equal.items k d lt)).1.across;
  less = λ k d lt.
      let l : Link = get_or part.less.items k d in
      across_named streams q l.left l.right h ((p.less l.left l.right).0 (inside part.less.items k d lt)).across;
  soft = λ k d lt. absurd (let n = ap length p.soft in omega (arith, n, lt));
  kept = λ k d lt.
      let P : StreamPlan → Type 0 = λ s. HasStream streams q.from s in
      subst P (get_or_default part.streams.items k _ d lt) (stream_named streams q part.signs.items k (stream_at part k) h (p.streams k (omega (arith, p.count))));
}

-- what holds of the images of all items
All-of_map : {X Y : Type 0} (P : Y → Type 0) (f : X → Y) (xs : List X) → All P (map f xs) → All (λ x. P (f x)) xs
All-of_map P f xs h k d lt = subst P (get_or-map f xs k d (f d) lt) (h k (f d) (rw length-map lt))

-- the parts of a plan, with shared cells or without
parts_plans : (shared : Bool) (q : QueryValue) (parts : List PartPlan) → IsPlanFor shared q parts → ArePartPlans q parts
parts_plans false q parts p = record { parts = p.parts; plans = p.plans }
parts_plans true q parts p = record { parts = p.parts; plans = p.plans }

-- the columns of all parts of a plan are there
plan_named : (streams : List Shape) (q : QueryValue) (parts : List PartPlan) → HasNamed streams q → ArePartPlans q parts → All (HasPart streams q) parts
plan_named streams q parts h p = λ k d lt.
    let signs : PartPlan → List Sign = λ part. part.signs.items in
    let is : All (λ part. IsPart q (signs part)) parts = All-of_map (IsPart q) signs parts p.parts.each in
    part_named streams q (get_or parts k d) h (is k d lt) (p.plans k d lt)

-- the columns of each attribute are there
attrs_named : (streams : List Shape) (q : QueryValue) → HasNamed streams q → HasAttributes streams q
attrs_named streams q h a k = attributes_are_named streams q h a (Contains-from_has (attrs_of q.atoms) a k)

-- the query of a part names no other columns
pub part_attrs_named : (streams : List Shape) (q : QueryValue) → IsWithinLimits q → HasNamed streams q → (ss : List Sign) → IsSplitPart q ss → HasAttributes streams (part_query q ss)
part_attrs_named streams q within h ss of a k =
    let attrs : attrs_of (part_query q ss).atoms ≡ attrs_of q.atoms = signed_attrs q (split_pairs q) ss (split_pairs_are_signed q within ss (as_many_signs q ss of)) in
    attrs_named streams q h a (subst (λ (xs : List Attr). Has xs a) attrs k)

-- so the columns of the plan of a part of the split form are there
split_named : (streams : List Shape) (q : QueryValue) → IsWithinLimits q → HasNamed streams q → (ss : List Sign) → IsSplitPart q ss → (part : PartPlan) → IsWholePartPlan (part_query q ss) part → HasPart streams q part
split_named streams q within h ss of part is =
    let p : HasPart streams (part_query q ss) part = whole_named streams (part_query q ss) (part_attrs_named streams q within h ss of) h.select part is in
    record { signs = inr is.signs; equal = p.equal; less = p.less; soft = p.soft; kept = p.kept }

-- those of the plans of parts of either kind
parts_named : (streams : List Shape) (shared : Bool) (q : QueryValue) (list : List PartPlan) → IsWithinLimits q → HasNamed streams q → IsPartsFor shared q list → All (HasPart streams q) list
parts_named streams shared q list within h (parted.IsPartsFor.plain compact is) = plan_named streams q list h (parts_plans shared q list is)
parts_named streams shared q list within h (parted.IsPartsFor.split compact is) = λ k d lt.
    let part : PartPlan = get_or list k d in
    let own = zip_right (λ ss p. IsWholePartPlan (part_query q ss) p) is.0.parts list is.0.plans part (Has-from_contains list part (inside list k d lt)) in
    split_named streams q within h own.0 (All-contains (IsSplitPart q) is.0.parts own.0 is.0.are.each (Contains-from_has is.0.parts own.0 own.1)) part own.2

-- one item
one : {X : Type 0} (P : X → Type 0) (x : X) → P x → All P (x ∷ [])
one P x p zero d lt = p
one P x p (suc k) d lt = absurd (omega (arith, lt))

-- and so are those of a plan in either form
pub form_named : (streams : List Shape) (shared : Bool) (q : QueryValue) (list : List PartPlan) → IsWithinLimits q → HasNamed streams q → IsFormPlan shared q list → All (HasPart streams q) list
form_named streams shared q list within h (forms.whole compact part fits follow e) =
    subst (λ (list : List PartPlan). All (HasPart streams q) list) (sym e) (one (HasPart streams q) part (whole_named streams q (attrs_named streams q h) h.select part fits.plan))
form_named streams shared q list within h (forms.parts none is) = parts_named streams shared q list within h is
