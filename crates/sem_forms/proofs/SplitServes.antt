-- The plans of the parts of the split form serve, and each combination is taken by one of them.
use Rattle.std.proofs.Common.{◌≡◌, ℕ, ◌&&◌, ◌||◌, ◌⊎◌, inl, inr, ℤ, List, [], ◌∷◌, map, length, true, Contains, AllPairs, slice_index_or, refl, sym, ◌∙◌, ap, subst, arith}
use Rattle.std.specs.List.{AllZip, list_all, list_any}
use Rattle.std.proofs.lemmas.List.Elements.{All-contains}
use Rattle.sem_query.specs.declared.atom.Attr.{Attr}
use Rattle.sem_query.specs.declared.atom.Op.{Op}
use Rattle.sem_query.specs.declared.part.Pair.{Pair}
use Rattle.sem_query.specs.declared.part.Sign.{Sign}
use Rattle.sem_query.specs.declared.plan.PartPlan.{PartPlan}
use Rattle.sem_query.specs.Admission.{alone, keeps_local, keeps_signs, in_range, admits}
use Rattle.sem_query.specs.Assignment.{Assignment, Holds, KeepsDomains}
use Rattle.sem_query.specs.Combinations.{any_ties, binds, is_tied}
use Rattle.sem_query.specs.Meaning.{joined, at_place}
use Rattle.sem_query.specs.Parts.{pairs, sign_at, signs_lt}
use Rattle.sem_query.specs.Plan.{dims_at}
use Rattle.sem_query.specs.Query.{QueryValue, attr_eq}
use Rattle.sem_query.specs.Serving.{IsKept, IsLeastKept, IsGreatestKept, CanBeAsked, KeepsStreams, Serves, Takes}
use Rattle.sem_query.proofs.Has.{Has, first, later, Has-nil, Has-from_contains, Contains-from_has}
use Rattle.sem_query.proofs.Unique.{Ascends, more, ascends_from, signs_strict}
use Rattle.sem_laws.proofs.OnePartFits.{has_cases}
use Rattle.plan_constraints.proofs.Joined.{All-from_has}
use Rattle.plan_split_pairs.specs.Pairs.{split_pairs}
use Rattle.plan_split_pairs.specs.SplitParts.{IsSplitPart}
use Rattle.sem_whole.specs.Signed.{IsWellFormed}
use Rattle.sem_whole.proofs.Signed.{signed_holds}
use Rattle.sem_forms.specs.Part.{IsWholePartPlan}
use Rattle.sem_forms.specs.Split.{part_query}
use Rattle.sem_forms.specs.Laws.{PartsServe, PartsTake, SplitPlansServe}
use Rattle.sem_forms.proofs.FormLinks.{no_signs, no_ties, pairs_cons}
use Rattle.sem_forms.proofs.WholeServes as whole
use Rattle.sem_forms.proofs.PartQueries.{as_many_signs, part_queries_are_well_formed}

-- ---- a part without signs is read alike by each query

signs_alike : (place : ℕ) (v : Assignment) (ps rs : List Pair) (ss : List Sign) → ss ≡ [] → keeps_signs place v ps ss ≡ keeps_signs place v rs ss
signs_alike place v ps rs ss e = subst (λ s. keeps_signs place v ps s ≡ keeps_signs place v rs s) (sym e) (no_signs place v ps ∙ sym (no_signs place v rs))

ties_alike : (a b : Attr) (ps rs : List Pair) (ss : List Sign) → ss ≡ [] → any_ties a b ps ss ≡ any_ties a b rs ss
ties_alike a b ps rs ss e = subst (λ s. any_ties a b ps s ≡ any_ties a b rs s) (sym e) (no_ties a b ps ∙ sym (no_ties a b rs))

module _ (r q : QueryValue) (part : PartPlan) (none : part.signs.items ≡ []) where
  pub admits_alike : (place : ℕ) (v : ℕ → ℤ) → admits r part place v ≡ admits q part place v
  admits_alike place v = ap (λ b. (b && keeps_local place (alone v) part.local) && list_all (in_range v) (dims_at part place)) (signs_alike place (alone v) (pairs r) (pairs q) part.signs.items none)

  pub tied_alike : (a b : Attr) → is_tied r part a b ≡ is_tied q part a b
  tied_alike a b = ap (λ t. (attr_eq a b || t) || list_any (binds a b) part.local) (ties_alike a b (pairs r) (pairs q) part.signs.items none)

  tied_to : (a b : Attr) → is_tied r part a b ≡ true → is_tied q part a b ≡ true
  tied_to a b t = sym (tied_alike a b) ∙ t

  kept_to : (a : Attr) → IsKept r part a → IsKept q part a
  kept_to a k = record { dim = k.dim; among = k.among; tied = tied_to k.dim.attr a k.tied }

  least_to : (a : Attr) → IsLeastKept r part a → IsLeastKept q part a
  least_to a k = record { extreme = k.extreme; kind = k.kind; stream = k.stream; tied = tied_to k.extreme a k.tied }

  greatest_to : (a : Attr) → IsGreatestKept r part a → IsGreatestKept q part a
  greatest_to a k = record { extreme = k.extreme; kind = k.kind; stream = k.stream; tied = tied_to k.extreme a k.tied }

  low_to : (a : Attr) → IsKept r part a ⊎ IsLeastKept r part a → IsKept q part a ⊎ IsLeastKept q part a
  low_to a (inl k) = inl (kept_to a k)
  low_to a (inr k) = inr (least_to a k)

  high_to : (a : Attr) → IsKept r part a ⊎ IsGreatestKept r part a → IsKept q part a ⊎ IsGreatestKept q part a
  high_to a (inl k) = inl (kept_to a k)
  high_to a (inr k) = inr (greatest_to a k)

  asked_to : (o : Op) (a b : Attr) → CanBeAsked r part o a b → CanBeAsked q part o a b
  asked_to Op.Lt a b h = (low_to a h.0, high_to b h.1)
  asked_to Op.Le a b h = (low_to a h.0, high_to b h.1)
  asked_to Op.Eq a b h = (kept_to a h.0, kept_to b h.1)
  asked_to Op.Gt a b h = (kept_to a h.0, kept_to b h.1)
  asked_to Op.Ge a b h = (kept_to a h.0, kept_to b h.1)
  asked_to Op.Ne a b h = (kept_to a h.0, kept_to b h.1)

-- ---- a part

module _ (q : QueryValue) (ss : List Sign) (part : PartPlan) (none : part.signs.items ≡ []) where
  abbrev r : QueryValue
  r = part_query q ss

  keeps_streams : KeepsStreams r part → KeepsStreams q part
  keeps_streams k = record {
    count = k.count;
    size = k.size;
    kind = k.kind;
    dims = k.dims;
    full = k.full;
    names = λ place l i j d m n. sym (tied_alike r q part none (slice_index_or (dims_at part place) i d).attr (slice_index_or (dims_at part place) j d).attr) ∙ k.names place l i j d m n;
  }

  serves_query : Serves r part → Serves q part
  serves_query s = record {
    keeps = keeps_streams s.keeps;
    links = s.links;
    classes = λ place l v h a b e f t. s.classes place l v (admits_alike r q part none place v ∙ h) a b e f (tied_to q r part none a b t);
    selected = λ a h. kept_to r q part none a (s.selected a h);
    equal = λ l h. asked_to r q part none Op.Eq l.left l.right (s.equal l h);
    less = λ l h. asked_to r q part none Op.Lt l.left l.right (s.less l h);
    soft = λ l h. asked_to r q part none l.op l.left l.right (s.soft l h);
  }

  takes_query : (rows : List (ℕ → ℤ)) → Takes r part rows → Takes q part rows
  takes_query rows t = record { each = λ place l. sym (admits_alike r q part none place (at_place rows place)) ∙ t.each place l; links = t.links }

  query_takes : (rows : List (ℕ → ℤ)) → Takes q part rows → Takes r part rows
  query_takes rows t = record { each = λ place l. admits_alike r q part none place (at_place rows place) ∙ t.each place l; links = t.links }

pub parts_serve : PartsServe
parts_serve q w ss is part plan = serves_query q ss part plan.signs (whole.serves (part_query q ss) (part_queries_are_well_formed q w ss is) part plan)

pub parts_take : PartsTake
parts_take q w ss is part plan rows full keeps = (
  λ t. (signed_holds q (split_pairs q) ss (as_many_signs q ss is) (joined rows)).0 (whole.taken r formed part plan rows full (query_takes q ss part plan.signs rows t)),
  λ h. takes_query q ss part plan.signs rows (whole.takes r formed part plan rows full keeps ((signed_holds q (split_pairs q) ss (as_many_signs q ss is) (joined rows)).1 h)),
)
  where
    r : QueryValue
    r = part_query q ss

    formed : IsWellFormed r
    formed = part_queries_are_well_formed q w ss is

-- ---- all parts

-- of two lists place by place: beside each member stands one of the other list
pub zip_left : {A B : Type 0} (R : A → B → Type 0) (xs : List A) (ys : List B) → AllZip R xs ys → (x : A) → Has xs x → (y : B) × Has ys y × R x y
zip_left R [] ys z x h = Has-nil h
zip_left R (a ∷ xs) [] z x h = absurd z
zip_left {A} {B} R (a ∷ xs) (b ∷ ys) z x h = elim (has_cases a x xs h) [
  | inl e ↦ (b, first, subst (λ k. R k b) e z.0)
  | inr i ↦ (let o : (y : B) × Has ys y × R x y = zip_left R xs ys z.1 x i in (o.0, later o.1, o.2))
]

pub zip_right : {A B : Type 0} (R : A → B → Type 0) (xs : List A) (ys : List B) → AllZip R xs ys → (y : B) → Has ys y → (x : A) × Has xs x × R x y
zip_right R xs [] z y h = Has-nil h
zip_right R [] (b ∷ ys) z y h = absurd z
zip_right {A} {B} R (a ∷ xs) (b ∷ ys) z y h = elim (has_cases b y ys h) [
  | inl e ↦ (a, first, subst (R a) e z.0)
  | inr i ↦ (let o : (x : A) × Has xs x × R x y = zip_right R xs ys z.1 y i in (o.0, later o.1, o.2))
]

apart_from : (s t : List Sign) → signs_lt s t ≡ true → s ≡ t → ⊥
apart_from s t l e = let m : signs_lt t s ≡ true = cc in signs_strict.apart s t l m

-- no combination is taken by both parts
abbrev AreApart : QueryValue → PartPlan → PartPlan → Type 0
AreApart q part other = (rows : List (ℕ → ℤ)) → length rows ≡ length q.from → KeepsDomains q (joined rows) → Takes q part rows → ¬ Takes q other rows

-- what a part takes has its signs
abbrev HasSigns : QueryValue → List Sign → PartPlan → Type 0
HasSigns q ss p = (rows : List (ℕ → ℤ)) → length rows ≡ length q.from → KeepsDomains q (joined rows) → Takes q p rows → map (sign_at (joined rows)) (split_pairs q) ≡ ss

-- the plan of a part
abbrev pub IsPlanOf : QueryValue → List Sign → PartPlan → Type 0
IsPlanOf q ss part = IsWholePartPlan (part_query q ss) part

apart_all : (q : QueryValue) (parts : List (List Sign)) (plan : List PartPlan) → AllZip (IsPlanOf q) parts plan
    → ((ss : List Sign) → Has parts ss → (p : PartPlan) → IsPlanOf q ss p → HasSigns q ss p) → Ascends signs_lt parts → AllPairs (AreApart q) plan
apart_all q parts [] z g a = λ i j d l m. absurd (omega (arith, m))
apart_all q [] (p ∷ plan) z g a = absurd z
apart_all q (ss ∷ parts) (p ∷ plan) z g (more f a) =
    pairs_cons (AreApart q) p plan
    (λ o k rows full keeps x y.
    let t : (tt : List Sign) × Has parts tt × IsPlanOf q tt o = zip_right (IsPlanOf q) parts plan z.1 o k in
    apart_from ss t.0 (f t.0 t.1) (sym (g ss first p z.0 rows full keeps x) ∙ g t.0 (later t.1) o t.2 rows full keeps y))
    (apart_all q parts plan z.1 (λ t k. g t (later k)) a)

pub split_plans_serve : SplitPlansServe
split_plans_serve q plan w is = record {
  serves = All-from_has (Serves q) plan (λ p k. (let o = at p k in parts_serve q w o.0 (is_part o.0 o.1) p o.2));
  once = record { each = each; no_other = no_other; apart = apart_all q is.parts plan is.plans has_signs (ascends_from signs_lt is.parts is.are.ascending) };
}
  where
    at : (p : PartPlan) → Has plan p → (ss : List Sign) × Has is.parts ss × IsPlanOf q ss p
    at p k = zip_right (IsPlanOf q) is.parts plan is.plans p k

    is_part : (ss : List Sign) → Has is.parts ss → IsSplitPart q ss
    is_part ss k = All-contains (IsSplitPart q) is.parts ss is.are.each (Contains-from_has is.parts ss k)

    has_signs : (ss : List Sign) → Has is.parts ss → (p : PartPlan) → IsPlanOf q ss p → HasSigns q ss p
    has_signs ss k p o rows full keeps t = ((parts_take q w ss (is_part ss k) p o rows full keeps).0 t).1

    no_other : (p : PartPlan) → Contains plan p → (rows : List (ℕ → ℤ)) → length rows ≡ length q.from → KeepsDomains q (joined rows) → Takes q p rows → Holds q (joined rows)
    no_other p c rows full keeps t = (let o = at p (Has-from_contains plan p c) in ((parts_take q w o.0 (is_part o.0 o.1) p o.2 rows full keeps).0 t).0)

    each : (rows : List (ℕ → ℤ)) → length rows ≡ length q.from → KeepsDomains q (joined rows) → Holds q (joined rows) → (p : PartPlan) × Contains plan p × Takes q p rows
    each rows full keeps h =
        let ss : List Sign = map (sign_at (joined rows)) (split_pairs q) in
        let part : IsSplitPart q ss = record { one = joined rows; holds = h; domains = keeps; has = refl } in
        let o : (p : PartPlan) × Has plan p × IsPlanOf q ss p = zip_left (IsPlanOf q) is.parts plan is.plans ss (Has-from_contains is.parts ss (is.are.all ss part)) in
        (o.0, Contains-from_has plan o.0 o.1, (parts_take q w ss part o.0 o.2 rows full keeps).1 (h, refl))
