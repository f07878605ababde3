-- The constraints of comparisons and first signs, one after another, and how many there are.
use Rattle.std.proofs.Common.{◌≡◌, ℕ, zero, suc, ◌+◌, ◌*◌, ◌<◌, ◌≤◌, Some, Bool, true, false, cond, List, [], ◌∷◌, ◌++◌, filter, length, length-append, All, append_assoc, append-nil, take, get_or, slice_get, slice_index_or, refl, sym, ◌∙◌, ap, subst, arith}
use Rattle.std.proofs.lemmas.List.{take_more}
use Rattle.std.proofs.lemmas.Bool.Decides.{nat_tests}
use Rattle.std.specs.List.{flat_map}
use Rattle.sem_query.proofs.Has.{Has, first, later}
use Rattle.sem_query.proofs.Unique.{Ascends, more, ascends_from}
use Rattle.sem_query.specs.declared.atom.Attr.{Attr}
use Rattle.sem_query.specs.declared.atom.Atom.{Atom}
use Rattle.sem_query.specs.declared.atom.Domain.{Domain}
use Rattle.sem_query.specs.declared.atom.Op.{Op}
use Rattle.sem_query.specs.declared.atom.Element.{Element}
use Rattle.sem_query.specs.declared.atom.Element.TheVariants as element
use Rattle.sem_query.specs.declared.part.Pair.{Pair}
use Rattle.sem_query.specs.declared.part.Sign.{Sign}
use Rattle.sem_query.specs.Query.{QueryValue, attr_lt, attrs_of, is_soft, IsWithinLimits}
use Rattle.sem_query.specs.Parts.{pairs}
use Rattle.plan_constraints.specs.declared.constraint.Constraint.{Constraint}
use Rattle.plan_constraints.specs.Nodes.{has_node, constraints_of}
use Rattle.plan_constraints.specs.PartConstraints.{of_op, of_atoms, at_least, at_most, of_domain, of_base, of_signs, of_prefix}
use Rattle.plan_constraints.specs.Solutions.{IsWithin}
use Rattle.plan_constraints.proofs.NodeFacts.{length-constraints, node_has, node_there}
use Rattle.plan_constraints.proofs.Link.{of_signs_more, of_no_signs}

-- ---- the comparisons

of_atoms-append : (xs : List Attr) (ts us : List Atom) → of_atoms xs (ts ++ us) ≡ of_atoms xs ts ++ of_atoms xs us
of_atoms-append xs [] us = refl
of_atoms-append xs (t ∷ ts) us = ap (λ z. of_op xs t.left t.op t.right ++ z) (of_atoms-append xs ts us) ∙ sym (append_assoc (of_op xs t.left t.op t.right) (of_atoms xs ts) (of_atoms xs us))

-- the constraints of one comparison more
pub atoms_more : (xs : List Attr) (ts : List Atom) (i : ℕ) (d : Atom) (bs cs : List Constraint) → i < length ts → cs ≡ of_op xs (get_or ts i d).left (get_or ts i d).op (get_or ts i d).right → bs ≡ of_atoms xs (take i ts) → bs ++ cs ≡ of_atoms xs (take (i + 1) ts)
atoms_more xs ts i d bs cs l e h =
    let one : of_atoms xs (take (i + 1) ts) ≡ of_atoms xs (take i ts) ++ of_atoms xs (get_or ts i d ∷ []) = ap (of_atoms xs) (take_more ts i d l) ∙ of_atoms-append xs (take i ts) (get_or ts i d ∷ []) in
    let two : of_atoms xs (get_or ts i d ∷ []) ≡ cs = append-nil _ ∙ sym e in
    ap (λ z. z ++ cs) h ∙ sym (one ∙ ap (λ z. of_atoms xs (take i ts) ++ z) two)

-- 1 for a soft comparison
abbrev pub soft_one : Atom → ℕ
soft_one t = cond (is_soft t.op) 1 0

-- they are at most two, and none for a soft one
pub length-op : (xs : List Attr) (x : Element) (o : Op) (y : Element) → length (of_op xs x o y) + 2 * cond (is_soft o) 1 0 ≤ 2
length-op xs x Op.Lt y = omega (arith, length-constraints xs x Sign.Lt y)
length-op xs x Op.Eq y = omega (arith, length-constraints xs x Sign.Eq y)
length-op xs x Op.Gt y = omega (arith, length-constraints xs x Sign.Gt y)
length-op xs x Op.Le y = omega arith
length-op xs x Op.Ge y = omega arith
length-op xs x Op.Ne y = omega arith

-- how many comparisons are soft
abbrev pub soft_in : List Atom → ℕ
soft_in ts = length (filter (λ t. is_soft t.op) ts)

soft_in-cons : (t : Atom) (ts : List Atom) → soft_in (t ∷ ts) ≡ soft_one t + soft_in ts
soft_in-cons t ts = by (is_soft t.op)
  where
    by : (b : Bool) → length (cond {A = List Atom} b (t ∷ filter (λ t. is_soft t.op) ts) (filter (λ t. is_soft t.op) ts)) ≡ cond b 1 0 + length (filter (λ t. is_soft t.op) ts)
    by true = omega arith
    by false = omega arith

-- ---- the signs

pub pair_at : (ps : List Pair) (i : ℕ) (d : Pair) → i < length ps → slice_get ps i ≡ Some (slice_index_or ps i d)
pair_at [] i d l = absurd (omega arith)
pair_at (p ∷ ps) zero d l = refl
pair_at (p ∷ ps) (suc i) d l = pair_at ps i d (omega arith)

-- the constraints of one sign more
pub prefix_more : (q : QueryValue) (pre : List Sign) (p : Pair) (s : Sign) → slice_get (pairs q) (length pre) ≡ Some p → of_prefix q (pre ++ s ∷ []) ≡ of_prefix q pre ++ constraints_of (attrs_of q.atoms) (element.Attr p.left) s p.right
prefix_more q pre p s h =
    ap (λ z. of_base q ++ z) (of_signs_more (attrs_of q.atoms) (pairs q) pre p s h)
    ∙ sym (append_assoc (of_base q) (of_signs (attrs_of q.atoms) (pairs q) pre) (constraints_of (attrs_of q.atoms) (element.Attr p.left) s p.right))

-- with no sign they are those of the comparisons and the domains
pub of_no_prefix : (q : QueryValue) → of_prefix q [] ≡ of_base q
of_no_prefix q = ap (λ z. of_base q ++ z) (of_no_signs (attrs_of q.atoms) (pairs q)) ∙ append-nil (of_base q)

-- ---- how many there are

pub length-of_atoms : (xs : List Attr) (ts : List Atom) → length (of_atoms xs ts) + 2 * soft_in ts ≤ 2 * length ts
length-of_atoms xs [] = omega arith
length-of_atoms xs (t ∷ ts) =
    let a = length-op xs t.left t.op t.right in
    let b = length-of_atoms xs ts in
    omega (arith, a, b, length-append (of_op xs t.left t.op t.right) (of_atoms xs ts), soft_in-cons t ts)

-- of the first comparisons too
pub atoms_few : (xs : List Attr) (ts : List Atom) (n : ℕ) → length (of_atoms xs (take n ts)) + 2 * soft_in (take n ts) ≤ 2 * n
atoms_few xs ts n = omega (arith, length-of_atoms xs (take n ts), short n ts)
  where
    short : {X : Type 0} (n : ℕ) (ts : List X) → length (take n ts) ≤ n
    short zero [] = omega arith
    short zero (t ∷ ts) = omega arith
    short (suc n) [] = omega arith
    short (suc n) (t ∷ ts) = omega (arith, short n ts)

-- the constraints of signs are at most two for each sign
pub length-of_signs : (xs : List Attr) (ps : List Pair) (ss : List Sign) → length (of_signs xs ps ss) ≤ 2 * length ss
length-of_signs xs [] ss = omega arith
length-of_signs xs (p ∷ ps) [] = omega arith
length-of_signs xs (p ∷ ps) (s ∷ ss) =
    let a : length (of_signs xs (p ∷ ps) (s ∷ ss)) ≡ length (constraints_of xs (element.Attr p.left) s p.right) + length (of_signs xs ps ss) = length-append (constraints_of xs (element.Attr p.left) s p.right) (of_signs xs ps ss) in
    let b = length-of_signs xs ps ss in
    omega (arith, a, b, length-constraints xs (element.Attr p.left) s p.right)

-- ---- the domains

drop_first : (x : Attr) (xs : List Attr) (b : Attr) → (x ≡ b → ⊥) → Has (x ∷ xs) b → Has xs b
drop_first x xs b n first = absurd (n refl)
drop_first x xs b n (later h) = h

keep_rest : (x : Attr) (xs others : List Attr) (b : Attr) → (Has xs b → Has others b) → Has (x ∷ xs) b → Has (x ∷ others) b
keep_rest x xs others b f first = first
keep_rest x xs others b f (later k) = later (f k)

-- a list without one member
record Rest (xs : List Attr) (a : Attr) : Type 0 where
  others : List Attr
  size : suc (length others) ≡ length xs
  keeps : (b : Attr) → (a ≡ b → ⊥) → Has xs b → Has others b

rest_of : (xs : List Attr) (a : Attr) → Has xs a → Rest xs a
rest_of [] a h = elim h [ ]
rest_of (x ∷ xs) a first = record { others = xs; size = refl; keeps = λ b n h. drop_first x xs b n h }
rest_of (x ∷ xs) a (later h) =
    let r : Rest xs a = rest_of xs a h in
    record { others = x ∷ r.others; size = ap suc r.size; keeps = λ b n k. keep_rest x xs r.others b (r.keeps b n) k }

fewer : (p r : Domain → Bool) (ds : List Domain) → ((d : Domain) → Has ds d → p d ≡ true → r d ≡ true) → length (filter p ds) ≤ length (filter r ds)
fewer p r [] f = omega arith
fewer p r (d ∷ ds) f = by (p d) (r d) (f d first) (fewer p r ds (λ e h. f e (later h)))
  where
    by : (b c : Bool) → (b ≡ true → c ≡ true) → length (filter p ds) ≤ length (filter r ds) → length (cond b (d ∷ filter p ds) (filter p ds)) ≤ length (cond c (d ∷ filter r ds) (filter r ds))
    by true true g h = omega (arith, h)
    by true false g h = absurd (let e : false ≡ true = g refl in cc)
    by false true g h = omega (arith, h)
    by false false g h = h

apart : (a b : Attr) → attr_lt a b ≡ true → a ≡ b → ⊥
apart a b l e = itself b (subst (λ z. attr_lt z b ≡ true) e l)
  where
    itself : (a : Attr) → attr_lt a a ≡ true → ⊥
    itself a h = grind (arith, nat_tests)

-- no more domains have a node than there are nodes
few_nodes : (ds : List Domain) → Ascends (λ (d e : Domain). attr_lt d.attr e.attr) ds → (xs : List Attr) → length (filter (λ d. has_node xs d.attr) ds) ≤ length xs
few_nodes [] a xs = omega arith
few_nodes (d ∷ ds) (more p a) xs = by (has_node xs d.attr) refl (λ others. few_nodes ds a others)
  where
    by : (b : Bool) → has_node xs d.attr ≡ b → ((others : List Attr) → length (filter (λ d. has_node others d.attr) ds) ≤ length others)
        → length (cond b (d ∷ filter (λ d. has_node xs d.attr) ds) (filter (λ d. has_node xs d.attr) ds)) ≤ length xs
    by true e f =
        let r : Rest xs d.attr = rest_of xs d.attr (node_has xs d.attr e) in
        let m = fewer (λ d. has_node xs d.attr) (λ d. has_node r.others d.attr) ds (λ g h k. node_there r.others g.attr (r.keeps g.attr (apart d.attr g.attr (p g h)) (node_has xs g.attr k))) in
        omega (arith, m, f r.others, r.size)
    by false e f = f xs

length-of_domains : (xs : List Attr) (ds : List Domain) → length (flat_map (of_domain xs) ds) ≤ 2 * length (filter (λ d. has_node xs d.attr) ds)
length-of_domains xs [] = omega arith
length-of_domains xs (d ∷ ds) = by (has_node xs d.attr) (length-of_domains xs ds)
  where
    by : (b : Bool) → length (flat_map (of_domain xs) ds) ≤ 2 * length (filter (λ d. has_node xs d.attr) ds)
        → length (cond b (at_least xs d ∷ at_most xs d ∷ []) [] ++ flat_map (of_domain xs) ds) ≤ 2 * length (cond b (d ∷ filter (λ d. has_node xs d.attr) ds) (filter (λ d. has_node xs d.attr) ds))
    by true h = omega (arith, h)
    by false h = h

-- those of comparisons and domains are at most 56, and two fewer for each soft comparison
pub length-of_base : (q : QueryValue) → IsWithinLimits q → length (of_base q) + 2 * soft_in q.atoms ≤ 56
length-of_base q w =
    let a = few_nodes q.domains (ascends_from (λ (d e : Domain). attr_lt d.attr e.attr) q.domains w.ascending) (attrs_of q.atoms) in
    omega (arith, a, w.few_attrs, w.comparisons, length-of_atoms (attrs_of q.atoms) q.atoms, length-of_domains (attrs_of q.atoms) q.domains, length-append (of_atoms (attrs_of q.atoms) q.atoms) (flat_map (of_domain (attrs_of q.atoms)) q.domains))
