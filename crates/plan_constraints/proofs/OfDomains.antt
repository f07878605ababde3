-- The constraints of domains, one after another.
use Rattle.std.proofs.Common.{◌≡◌, ℕ, suc, zero, ◌+◌, ◌*◌, ◌<◌, ◌≤◌, ◌||◌, Bool, true, false, cond, List, [], ◌∷◌, ◌++◌, length, length-append, take, get_or, slice_index_or, append_assoc, append-nil, All, refl, sym, ◌∙◌, ap, subst, arith}
use Rattle.std.proofs.lemmas.List.{take_more}
use Rattle.std.proofs.lemmas.List.Elements.{All-contains, Contains-get_or}
use Rattle.std.specs.List.{flat_map}
use Rattle.std.proofs.lemmas.List.Concat.{flat_map-append}
use Rattle.sem_query.specs.declared.atom.Attr.{Attr}
use Rattle.sem_query.specs.declared.atom.Domain.{Domain}
use Rattle.sem_query.specs.Query.{QueryValue, attr_eq, IsDomain, IsWithinLimits}
use Rattle.plan_constraints.specs.declared.constraint.Constraint.{Constraint}
use Rattle.plan_constraints.specs.Nodes.{place_of, has_node}
use Rattle.plan_constraints.specs.PartConstraints.{at_least, at_most, of_domain}
use Rattle.plan_constraints.proofs.NodeFacts.{node_has, place_below}

-- a column whose place is within the list has a node
pub node_within : (xs : List Attr) (a : Attr) → place_of xs a < length xs → has_node xs a ≡ true
node_within [] a l = absurd (omega arith)
node_within (x ∷ xs) a l = by (attr_eq x a) l (node_within xs a)
  where
    by : (b : Bool) → cond b 0 (suc (place_of xs a)) < suc (length xs) → (place_of xs a < length xs → has_node xs a ≡ true) → (b || has_node xs a) ≡ true
    by true l f = refl
    by false l f = f (omega (arith, l))

-- and one past it has none
pub no_node_past : (xs : List Attr) (a : Attr) → length xs ≤ place_of xs a → has_node xs a ≡ false
no_node_past xs a l = by (has_node xs a) refl
  where
    by : (b : Bool) → has_node xs a ≡ b → b ≡ false
    by true e = absurd (let k = place_below xs a (node_has xs a e) in omega (arith, k, l))
    by false e = refl

pub of_domain-there : (xs : List Attr) (d : Domain) → place_of xs d.attr < length xs → of_domain xs d ≡ at_least xs d ∷ at_most xs d ∷ []
of_domain-there xs d l = ap (λ b. cond b (at_least xs d ∷ at_most xs d ∷ []) []) (node_within xs d.attr l)

pub of_domain-past : (xs : List Attr) (d : Domain) → length xs ≤ place_of xs d.attr → of_domain xs d ≡ []
of_domain-past xs d l = ap (λ b. cond b (at_least xs d ∷ at_most xs d ∷ []) []) (no_node_past xs d.attr l)

-- a turn of the loop over the domains
pub domains_more : (xs : List Attr) (ds : List Domain) (i : ℕ) (d : Domain) (base list cs : List Constraint) → i < length ds → cs ≡ of_domain xs (get_or ds i d)
    → list ≡ base ++ flat_map (of_domain xs) (take i ds) → list ++ cs ≡ base ++ flat_map (of_domain xs) (take (i + 1) ds)
domains_more xs ds i d base list cs l e h =
    let one : flat_map (of_domain xs) (take (i + 1) ds) ≡ flat_map (of_domain xs) (take i ds) ++ of_domain xs (get_or ds i d) =
    ap (flat_map (of_domain xs)) (take_more ds i d l) ∙ flat_map-append (of_domain xs) (take i ds) (get_or ds i d ∷ []) ∙ ap (λ z. flat_map (of_domain xs) (take i ds) ++ z) (append-nil (of_domain xs (get_or ds i d))) in
    ap (λ z. z ++ cs) h ∙ append_assoc base (flat_map (of_domain xs) (take i ds)) cs ∙ ap (λ z. base ++ (flat_map (of_domain xs) (take i ds) ++ z)) e ∙ ap (λ z. base ++ z) (sym one)

-- each domain of a query is one of its columns
pub domain_at : (q : QueryValue) (ds : List Domain) (i : ℕ) (d : Domain) → ds ≡ q.domains → i < length ds → IsWithinLimits q → IsDomain q (slice_index_or ds i d)
domain_at q ds i d e l w = All-contains (IsDomain q) ds _ (subst (All (IsDomain q)) (sym e) w.domains) (Contains-get_or ds i d l)

pub two_at_most : (xs : List Attr) (d : Domain) → length (of_domain xs d) ≤ 2
two_at_most xs d = by (has_node xs d.attr)
  where
    by : (b : Bool) → length (cond b (at_least xs d ∷ at_most xs d ∷ []) []) ≤ 2
    by true = omega arith
    by false = omega arith

take_all : {X : Type 0} (n : ℕ) (xs : List X) → length xs ≤ n → take n xs ≡ xs
take_all zero [] l = refl
take_all (suc n) [] l = refl
take_all zero (x ∷ xs) l = absurd (omega arith)
take_all (suc n) (x ∷ xs) l = ap (λ ys. x ∷ ys) (take_all n xs (omega (arith, l)))

-- past the last domain the constraints are all
pub all_of : (xs : List Attr) (ds : List Domain) (n : ℕ) (base list : List Constraint) → length ds ≤ n → list ≡ base ++ flat_map (of_domain xs) (take n ds) → list ≡ base ++ flat_map (of_domain xs) ds
all_of xs ds n base list l e = e ∙ ap (λ z. base ++ flat_map (of_domain xs) z) (take_all n ds l)

pub few_more : (list cs : List Constraint) (n : ℕ) → length list ≤ 32 + 2 * n → length cs ≤ 2 → length (list ++ cs) ≤ 32 + 2 * (n + 1)
few_more list cs n h k = omega (arith, h, k, length-append list cs)

-- where the column has a node, the constraints of both ends make those of the domain
pub both_ends : (xs attrs : List Attr) (d : Domain) (n : ℕ) (c e : Constraint) (none mid new : List Constraint) → xs ≡ attrs → n ≡ place_of xs d.attr → n < length xs → none ≡ []
    → c ≡ at_least xs d → mid ≡ none ++ c ∷ [] → e ≡ at_most xs d → new ≡ mid ++ e ∷ [] → new ≡ of_domain attrs d
both_ends xs attrs d n c e none mid new same at below empty low one high two =
    two ∙ ap (λ z. z ++ e ∷ []) (one ∙ ap (λ z. z ++ c ∷ []) empty)
    ∙ (λ k. low k ∷ high k ∷ []) ∙ sym (of_domain-there xs d (omega (arith, at, below))) ∙ ap (λ ys. of_domain ys d) same

-- where it has none, there are none
pub no_ends : (xs attrs : List Attr) (d : Domain) (n : ℕ) (none : List Constraint) → xs ≡ attrs → n ≡ place_of xs d.attr → length xs ≤ n → none ≡ [] → none ≡ of_domain attrs d
no_ends xs attrs d n none same at past empty =
    empty ∙ sym (of_domain-past xs d (omega (arith, at, past))) ∙ ap (λ ys. of_domain ys d) same
