-- A list of pairs with each where it stands first.
use Rattle.std.proofs.Common.{◌≡◌, ◌≤◌, ℕ, suc, ◌+◌, take, Bool, true, false, not, cond, ◌&&◌, ◌||◌, ◌⊎◌, inl, inr, List, [], ◌∷◌, ◌++◌, filter, length, nat_eq, refl, sym, ap, subst, arith, ◌∙◌, append-nil}
use Rattle.std.specs.List.{list_any}
use Rattle.std.proofs.lemmas.Bool.Decides.{Decides-int_eq}
use Rattle.std.proofs.lemmas.List.Elements.{filter-append}
use Rattle.sem_query.specs.declared.atom.Attr.{Attr}
use Rattle.sem_query.specs.declared.atom.Element.{Element}
use Rattle.sem_query.specs.declared.atom.Element.TheVariants as element
use Rattle.sem_query.specs.declared.part.Pair.{Pair}
use Rattle.sem_query.specs.Query.{attr_eq}
use Rattle.sem_query.specs.Parts.{element_eq, pair_eq, each_once}
use Rattle.sem_query.proofs.Has.{Has, first, later, Has-head, Has-filter, Has-filter_from}

split : (b : Bool) → (b ≡ true) ⊎ (b ≡ false)
split true = inl refl
split false = inr refl

and_left : (a b : Bool) → (a && b) ≡ true → a ≡ true
and_left true b h = refl
and_left false b h = absurd cc

and_right : (a b : Bool) → (a && b) ≡ true → b ≡ true
and_right true b h = h
and_right false b h = absurd cc

-- columns that the test calls the same are
pub attr_same : (a b : Attr) → attr_eq a b ≡ true → a ≡ b
attr_same a b h =
    let s : a.stream ≡ b.stream = grind (arith, and_left (nat_eq a.stream b.stream) (nat_eq a.column b.column) h) in
    let c : a.column ≡ b.column = grind (arith, and_right (nat_eq a.stream b.stream) (nat_eq a.column b.column) h) in
    λ i. record { stream = s i; column = c i }

element_same : (x y : Element) → element_eq x y ≡ true → x ≡ y
element_same (element.Attr a) (element.Attr b) h = ap (λ z. element.Attr z) (attr_same a b h)
element_same (element.Attr a) (element.Const k) h = absurd cc
element_same (element.Const j) (element.Attr b) h = absurd cc
element_same (element.Const j) (element.Const k) h = ap (λ z. element.Const z) ((Decides-int_eq j k).0 h)

-- and so are pairs
pub pair_same : (p r : Pair) → pair_eq p r ≡ true → p ≡ r
pair_same p r h =
    let l : p.left ≡ r.left = attr_same p.left r.left (and_left (attr_eq p.left r.left) (element_eq p.right r.right) h) in
    let m : p.right ≡ r.right = element_same p.right r.right (and_right (attr_eq p.left r.left) (element_eq p.right r.right) h) in
    λ i. record { left = l i; right = m i }

-- each pair is still listed
pub has_once : (ps : List Pair) (p : Pair) → Has ps p → Has (each_once ps) p
has_once [] p h = elim h [ ]
has_once (r ∷ ps) p first = first
has_once (r ∷ ps) p (later h) = elim (split (pair_eq r p)) [
  | inl e ↦ Has-head p r _ (pair_same r p e)
  | inr e ↦ later (Has-filter (λ z. not (pair_eq r z)) (ap not e) (has_once ps p h))
]

-- and no other
pub once_has : (ps : List Pair) (p : Pair) → Has (each_once ps) p → Has ps p
once_has [] p h = elim h [ ]
once_has (r ∷ ps) p first = first
once_has (r ∷ ps) p (later h) = later (once_has ps p (Has-filter_from (λ z. not (pair_eq r z)) (each_once ps) p h))

-- whether a pair is listed
abbrev pub listed : List Pair → Pair → Bool
listed ps p = list_any (λ r. pair_eq r p) ps

-- leaving out what is x leaves it open whether another pair is listed
listed_still : (x p : Pair) → pair_eq x p ≡ false → (ps : List Pair) → listed (filter (λ r. not (pair_eq x r)) ps) p ≡ listed ps p
listed_still x p e [] = refl
listed_still x p e (y ∷ ps) = by (pair_eq x y) refl (listed_still x p e ps)
  where
    rest : List Pair
    rest = filter (λ r. not (pair_eq x r)) ps

    by : (b : Bool) → pair_eq x y ≡ b → listed rest p ≡ listed ps p → listed (cond (not b) (y ∷ rest) rest) p ≡ (pair_eq y p || listed ps p)
    by true f g =
        let h : pair_eq y p ≡ false = subst (λ z. pair_eq z p ≡ false) (pair_same x y f) e in
        g ∙ sym (ap (λ b. b || listed ps p) h)
    by false f g = ap (λ b. pair_eq y p || b) g

-- a pair at the end is added where it is not listed
pub once_more : (ps : List Pair) (p : Pair) → each_once (ps ++ p ∷ []) ≡ cond (listed (each_once ps) p) (each_once ps) (each_once ps ++ p ∷ [])
once_more [] p = refl
once_more (x ∷ ps) p = by (pair_eq x p) refl (once_more ps p)
  where
    keep : Pair → Bool
    keep r = not (pair_eq x r)

    E : List Pair
    E = each_once ps

    F : List Pair
    F = filter keep E

    shorter : (b : Bool) → filter keep (cond b E (E ++ p ∷ [])) ≡ cond b F (F ++ cond (keep p) (p ∷ []) [])
    shorter true = refl
    shorter false = filter-append keep E (p ∷ [])

    dropped : (b : Bool) → keep p ≡ false → cond b F (F ++ cond (keep p) (p ∷ []) []) ≡ F
    dropped true k = refl
    dropped false k = ap (λ c. F ++ cond c (p ∷ []) []) k ∙ append-nil F

    outer : (b : Bool) → (x ∷ cond b F (F ++ p ∷ [])) ≡ cond b (x ∷ F) (x ∷ (F ++ p ∷ []))
    outer true = refl
    outer false = refl

    by : (a : Bool) → pair_eq x p ≡ a → each_once (ps ++ p ∷ []) ≡ cond (listed E p) E (E ++ p ∷ [])
        → (x ∷ filter keep (each_once (ps ++ p ∷ []))) ≡ cond (pair_eq x p || listed F p) (x ∷ F) (x ∷ (F ++ p ∷ []))
    by true f h =
        ap (λ l. x ∷ filter keep l) h ∙ ap (λ l. x ∷ l) (shorter (listed E p) ∙ dropped (listed E p) (ap not f))
        ∙ sym (ap (λ c. cond (c || listed F p) (x ∷ F) (x ∷ (F ++ p ∷ []))) f)
    by false f h =
        ap (λ l. x ∷ filter keep l) h
        ∙ ap (λ l. x ∷ l) (shorter (listed E p) ∙ ap (λ c. cond (listed E p) F (F ++ cond c (p ∷ []) [])) (ap not f))
        ∙ outer (listed E p)
        ∙ ap (λ c. cond c (x ∷ F) (x ∷ (F ++ p ∷ []))) (sym (listed_still x p f E))
        ∙ sym (ap (λ c. cond (c || listed F p) (x ∷ F) (x ∷ (F ++ p ∷ []))) f)

-- those that pass a test are no more than all
pub fewer : (keep : Pair → Bool) (ps : List Pair) → length (filter keep ps) ≤ length ps
fewer keep [] = omega arith
fewer keep (y ∷ ps) = by (keep y) (fewer keep ps)
  where
    by : (b : Bool) → length (filter keep ps) ≤ length ps → length (cond b (y ∷ filter keep ps) (filter keep ps)) ≤ suc (length ps)
    by true h = omega (arith, h)
    by false h = omega (arith, h)

-- there are no more than before
pub once_fewer : (ps : List Pair) → length (each_once ps) ≤ length ps
once_fewer [] = omega arith
once_fewer (x ∷ ps) = omega (arith, fewer (λ r. not (pair_eq x r)) (each_once ps), once_fewer ps)

-- a turn of the loop over some pairs
pub once_step : (ps list new : List Pair) (i : ℕ) (p : Pair) (b : Bool) → take (i + 1) ps ≡ take i ps ++ p ∷ [] → list ≡ each_once (take i ps) → b ≡ listed list p
    → new ≡ cond b list (list ++ p ∷ []) → new ≡ each_once (take (i + 1) ps)
once_step ps list new i p b t e f g =
    g ∙ ap (λ c. cond c list (list ++ p ∷ [])) f ∙ ap (λ l. cond (listed l p) l (l ++ p ∷ [])) e ∙ sym (once_more (take i ps) p) ∙ ap each_once (sym t)
