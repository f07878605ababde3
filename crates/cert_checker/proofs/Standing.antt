-- The place of the walk: one sign more, and one sign less.
use Rattle.std.proofs.Common.{◌≡◌, ℕ, zero, suc, ◌+◌, ◌-◌, ◌*◌, ◌<◌, ◌≤◌, Some, None, true, List, [], ◌∷◌, ◌++◌, map, length, length-append, append_assoc, append-nil, take, All, Contains, slice_get, slice_index_or, refl, sym, ◌∙◌, ap, subst, arith}
use Rattle.std.proofs.Math.Seq.{take-append_seam}
use Rattle.std.proofs.lemmas.List.Elements.{All-append, All-take, All-contains}
use Rattle.sem_query.specs.declared.atom.Attr.{Attr}
use Rattle.sem_query.specs.declared.part.Pair.{Pair}
use Rattle.sem_query.specs.declared.part.Sign.{Sign}
use Rattle.sem_query.specs.declared.atom.Element.{Element}
use Rattle.sem_query.specs.declared.atom.Element.TheVariants as element
use Rattle.sem_query.specs.Query.{QueryValue, attrs_of, consts_of, IsShort, IsWithinLimits}
use Rattle.sem_query.proofs.Elements.{HasElement}
use Rattle.sem_query.proofs.FewPairs.{few_with_soft}
use Rattle.sem_query.proofs.Has.{Has, first, later, Has-nil, Contains-from_has}
use Rattle.sem_query.proofs.Local.{PairIn, pair_named}
use Rattle.plan_constraints.specs.declared.constraint.Constraint.{Constraint}
use Rattle.plan_constraints.specs.Nodes.{constraints_of, between}
use Rattle.plan_constraints.specs.PartConstraints.{of_signs}
use Rattle.plan_constraints.specs.Solutions.{IsWithin}
use Rattle.plan_constraints.proofs.Link.{of_no_signs, of_signs_more}
use Rattle.plan_constraints.proofs.NodeFacts.{length-constraints}
use Rattle.plan_constraints.proofs.Prefix.{pair_at, length-of_signs}
use Rattle.plan_split_pairs.specs.Laws.{IsColumnOrShort}
use Rattle.plan_split_pairs.proofs.Naming.{split_pairs_are_named}
use Rattle.sem_whole.specs.System.{atom_bounds}
use Rattle.sem_whole.specs.Signed.{said, IsSide}
use Rattle.plan_whole.specs.Closed.{constraint_of}
use Rattle.cert_checker.specs.declared.cursor.TreeCursor.{TreeCursor}
use Rattle.cert_checker.specs.declared.shown.Shown.{Shown}
use Rattle.cert_checker.specs.Branching.{Branching, constraints_at, HasRoom}
use Rattle.cert_checker.specs.Shown.{branching_of}
use Rattle.cert_checker.specs.Reading.{advanced, following}
use Rattle.cert_checker.specs.Standing.{width, Adds, Stands, Drops, next_sign, at}

-- nodes among n are among m
pub within_12 : (n : ℕ) (cs : List Constraint) → n ≤ 12 → All (IsWithin n) cs → All (IsWithin 12) cs
within_12 n cs l a = λ k d h. let w : IsWithin n (slice_index_or cs k d) = a k d h in record { left = omega (arith, w.left, l); right = omega (arith, w.right, l); low = w.low; high = w.high }

-- ---- the pairs

-- the attributes are nodes in each tree
pub attrs_are : (q : QueryValue) (shown : Shown) → (branching_of shown q).attrs ≡ attrs_of q.atoms
attrs_are q Shown.Plain = refl
attrs_are q Shown.Whole = refl
attrs_are q Shown.Split = refl

-- the left side of a pair is an attribute, and the right side one too or an integer that may be written
pub record HasSides (q : QueryValue) (p : Pair) : Type 0 where
  pub left : Contains (attrs_of q.atoms) p.left
  pub right : IsSide (attrs_of q.atoms) p.right

element_side : (q : QueryValue) → IsWithinLimits q → (e : Element) → HasElement (attrs_of q.atoms) (consts_of q.atoms) e → IsSide (attrs_of q.atoms) e
element_side q w (element.Attr a) h = Contains-from_has (attrs_of q.atoms) a h
element_side q w (element.Const k) h = All-contains IsShort (consts_of q.atoms) k w.consts (Contains-from_has (consts_of q.atoms) k h)

named_side : (attrs : List Attr) (e : Element) → IsColumnOrShort attrs e → IsSide attrs e
named_side attrs (element.Attr a) h = h
named_side attrs (element.Const k) h = h

sides_are : (q : QueryValue) (shown : Shown) → IsWithinLimits q → (p : Pair) → Has (branching_of shown q).pairs p → HasSides q p
sides_are q Shown.Plain w p h =
    let n : PairIn (attrs_of q.atoms) (consts_of q.atoms) p = pair_named q p h in
    record { left = Contains-from_has (attrs_of q.atoms) p.left n.left; right = element_side q w p.right n.right }
sides_are q Shown.Whole w p h = Has-nil h
sides_are q Shown.Split w p h =
    let n = split_pairs_are_named q w p h in
    record { left = n.left; right = named_side (attrs_of q.atoms) p.right n.right }

has_at : (ps : List Pair) (i : ℕ) (d : Pair) → i < length ps → Has ps (slice_index_or ps i d)
has_at [] i d l = absurd (omega arith)
has_at (p ∷ ps) zero d l = first
has_at (p ∷ ps) (suc i) d l = later (has_at ps i d (omega arith))

-- of the pair at a place too
pub sides_at : (q : QueryValue) (shown : Shown) (ps : List Pair) (i : ℕ) (d : Pair) → IsWithinLimits q → ps ≡ (branching_of shown q).pairs → i < length ps → HasSides q (slice_index_or ps i d)
sides_at q shown ps i d w e l = sides_are q shown w (slice_index_or ps i d) (subst (λ z. Has z (slice_index_or ps i d)) e (has_at ps i d l))

-- ---- the pair of the next sign

length-between : (xs : List Attr) (x y : Element) (s : Sign) → length (between xs x s y) ≡ width s
length-between xs x y Sign.Lt = refl
length-between xs x y Sign.Eq = refl
length-between xs x y Sign.Gt = refl

-- what a sign says is its constraints
said_is : (xs : List Attr) (p : Pair) (s : Sign) → map (constraint_of xs) (atom_bounds (said p s)) ≡ constraints_of xs (element.Attr p.left) s p.right
said_is xs p Sign.Lt = refl
said_is xs p Sign.Eq = refl
said_is xs p Sign.Gt = refl

-- the constraints of one sign more
at_more : (b : Branching) (pre : List Sign) (p : Pair) (s : Sign) → slice_get b.pairs (length pre) ≡ Some p → constraints_at b (pre ++ s ∷ []) ≡ constraints_at b pre ++ constraints_of b.attrs (element.Attr p.left) s p.right
at_more b pre p s h =
    ap (λ z. b.base ++ z) (of_signs_more b.attrs b.pairs pre p s h)
    ∙ sym (append_assoc b.base (of_signs b.attrs b.pairs pre) (constraints_of b.attrs (element.Attr p.left) s p.right))

pub adds_sign : (q : QueryValue) (shown : Shown) (ps : List Pair) (pre : List Sign) (s : Sign) (d : Pair) (i : ℕ) (cs : List Constraint) → ps ≡ (branching_of shown q).pairs → i ≡ length pre → i < length ps
    → cs ≡ map (constraint_of (attrs_of q.atoms)) (atom_bounds (said (slice_index_or ps i d) s)) → All (IsWithin (length (attrs_of q.atoms))) cs → Adds q shown pre s cs
adds_sign q shown ps pre s d i cs e n l c w =
    let is : slice_get (branching_of shown q).pairs (length pre) ≡ Some (slice_index_or ps i d) = subst (λ (z : List Pair). slice_get z (length pre) ≡ Some (slice_index_or ps i d)) e (subst (λ (m : ℕ). slice_get ps m ≡ Some (slice_index_or ps i d)) n (pair_at ps i d l)) in
    let same : cs ≡ constraints_of (attrs_of q.atoms) (element.Attr (slice_index_or ps i d).left) s (slice_index_or ps i d).right = c ∙ said_is (attrs_of q.atoms) (slice_index_or ps i d) s in
    record {
      more = at_more (branching_of shown q) pre (slice_index_or ps i d) s is
          ∙ ap (λ xs. constraints_at (branching_of shown q) pre ++ constraints_of xs (element.Attr (slice_index_or ps i d).left) s (slice_index_or ps i d).right) (attrs_are q shown)
          ∙ ap (λ z. constraints_at (branching_of shown q) pre ++ z) (sym same);
      within = w;
      few = subst (λ (z : List Constraint). length z ≤ 2) (sym same) (length-constraints (attrs_of q.atoms) (element.Attr (slice_index_or ps i d).left) s (slice_index_or ps i d).right);
    }

-- ---- the place

few_at : (q : QueryValue) (shown : Shown) (p : TreeCursor) → Stands q shown p → length p.constraints.items ≤ 72 + 2 * length p.signs.items
few_at q shown p h =
    let n : length p.constraints.items ≡ length (branching_of shown q).base + length (of_signs (branching_of shown q).attrs (branching_of shown q).pairs p.signs.items) = ap length h.constraints ∙ length-append (branching_of shown q).base (of_signs (branching_of shown q).attrs (branching_of shown q).pairs p.signs.items) in
    omega (arith, n, h.few, length-of_signs (branching_of shown q).attrs (branching_of shown q).pairs p.signs.items)

-- there is room for the constraints of one sign more
pub room_more : (q : QueryValue) (shown : Shown) (p : TreeCursor) (s : Sign) (cs : List Constraint) → Stands q shown p → length p.signs.items < length (branching_of shown q).pairs → Adds q shown p.signs.items s cs → length p.constraints.items + length cs ≤ 300
room_more q shown p s cs h l a = let r = h.room in omega (arith, few_at q shown p h, a.few, r, l)

pub stands_deeper : (q : QueryValue) (shown : Shown) (p r : TreeCursor) (s : Sign) (cs : List Constraint) → Stands q shown p → length p.signs.items < length (branching_of shown q).pairs → Adds q shown p.signs.items s cs
    → r.signs.items ≡ p.signs.items ++ s ∷ [] → r.constraints.items ≡ p.constraints.items ++ cs → Stands q shown r
stands_deeper q shown p r s cs h l a es ec =
    let n : length r.signs.items ≡ length p.signs.items + 1 = ap length es ∙ length-append p.signs.items (s ∷ []) in
    record {
      constraints = ec ∙ ap (λ (z : List Constraint). z ++ cs) h.constraints ∙ sym a.more ∙ ap (constraints_at (branching_of shown q)) (sym es);
      within = subst (All (IsWithin 12)) (sym ec) (All-append (IsWithin 12) p.constraints.items cs h.within (within_12 (length (attrs_of q.atoms)) cs h.limits.few_attrs a.within));
      below = omega (arith, n, l);
      room = h.room;
      few = h.few;
      limits = h.limits;
    }

-- ---- one sign less

some_pair : (ps : List Pair) (i : ℕ) → i < length ps → (p : Pair) × (slice_get ps i ≡ Some p)
some_pair [] i l = absurd (omega arith)
some_pair (p ∷ ps) zero l = (p, refl)
some_pair (p ∷ ps) (suc i) l = some_pair ps i (omega arith)

front_of : (xs ys : List Constraint) (n : ℕ) → length ys ≡ n → take (length (xs ++ ys) - n) (xs ++ ys) ≡ xs
front_of xs ys n e =
    let a : length (xs ++ ys) ≡ length xs + length ys = length-append xs ys in
    let b : length (xs ++ ys) - n ≡ length xs = omega arith in
    ap (λ (k : ℕ). take k (xs ++ ys)) b ∙ take-append_seam xs ys

pub room_above : (q : QueryValue) (shown : Shown) (old new : TreeCursor) (s : Sign) → Stands q shown old → Drops (Some s) old new → length new.signs.items < length (branching_of shown q).pairs
room_above q shown old new s h d =
    let n : length old.signs.items ≡ length new.signs.items + 1 = ap length d.0 ∙ length-append new.signs.items (s ∷ []) in
    omega (arith, n, h.below)

pub stands_above : (q : QueryValue) (shown : Shown) (old new : TreeCursor) (s : Sign) → Stands q shown old → Drops (Some s) old new → Stands q shown new
stands_above q shown old new s h d =
    let r : length new.signs.items < length (branching_of shown q).pairs = room_above q shown old new s h d in
    let p : (p : Pair) × (slice_get (branching_of shown q).pairs (length new.signs.items) ≡ Some p) = some_pair (branching_of shown q).pairs (length new.signs.items) r in
    let e : old.constraints.items ≡ constraints_at (branching_of shown q) new.signs.items ++ constraints_of (branching_of shown q).attrs (element.Attr p.0.left) s p.0.right = h.constraints ∙ ap (constraints_at (branching_of shown q)) d.0 ∙ at_more (branching_of shown q) new.signs.items p.0 s p.1 in
    record {
      constraints = d.1 ∙ ap (λ (z : List Constraint). take (length z - width s) z) e ∙ front_of (constraints_at (branching_of shown q) new.signs.items) (constraints_of (branching_of shown q).attrs (element.Attr p.0.left) s p.0.right) (width s) (length-between (branching_of shown q).attrs (element.Attr p.0.left) p.0.right s);
      within = subst (All (IsWithin 12)) (sym d.1) (All-take (IsWithin 12) (length old.constraints.items - width s) old.constraints.items h.within);
      below = omega (arith, r);
      room = h.room;
      few = h.few;
      limits = h.limits;
    }

-- ---- what follows

following_more : (xs : List Sign) (s t : Sign) → next_sign s ≡ Some t → following (xs ++ s ∷ []) ≡ Some (xs ++ t ∷ [])
following_more [] Sign.Lt t h = cc
following_more [] Sign.Eq t h = cc
following_more [] Sign.Gt t h = absurd cc
following_more (x ∷ xs) s t h = ap (advanced x) (following_more xs s t h)

following_same : (xs : List Sign) (s : Sign) → next_sign s ≡ None → following (xs ++ s ∷ []) ≡ following xs
following_same [] Sign.Lt h = absurd cc
following_same [] Sign.Eq h = absurd cc
following_same [] Sign.Gt h = refl
following_same (x ∷ xs) s h = ap (advanced x) (following_same xs s h)

pub goes_on : (begin : List Sign) (old mid new : TreeCursor) (s t : Sign) → following old.signs.items ≡ following begin → Drops (Some s) old mid → next_sign s ≡ Some t → new.signs.items ≡ mid.signs.items ++ t ∷ [] → at true new.signs.items ≡ following begin
goes_on begin old mid new s t e d n h = ap Some h ∙ sym (following_more mid.signs.items s t n) ∙ sym (ap following d.0) ∙ e

pub drops_on : (begin : List Sign) (old mid : TreeCursor) (s : Sign) → following old.signs.items ≡ following begin → Drops (Some s) old mid → next_sign s ≡ None → following mid.signs.items ≡ following begin
drops_on begin old mid s e d n = sym (following_same mid.signs.items s n) ∙ sym (ap following d.0) ∙ e

pub stands_root : (q : QueryValue) (shown : Shown) (p : TreeCursor) → p.signs.items ≡ [] → p.constraints.items ≡ (branching_of shown q).base → All (IsWithin 12) p.constraints.items → HasRoom (branching_of shown q) → length (branching_of shown q).base ≤ 72 → IsWithinLimits q → Stands q shown p
stands_root q shown p es ec w r f l =
    let n : length p.signs.items ≡ 0 = ap length es in
    record {
      constraints = ec ∙ sym (ap (λ z. (branching_of shown q).base ++ z) (of_no_signs (branching_of shown q).attrs (branching_of shown q).pairs) ∙ append-nil (branching_of shown q).base) ∙ ap (constraints_at (branching_of shown q)) (sym es);
      within = w;
      below = omega (arith, n);
      room = r;
      few = f;
      limits = l;
    }

-- there is room for the parts of a query
pub plain_room : (q : QueryValue) → IsWithinLimits q → HasRoom (branching_of Shown.Plain q)
plain_room q w = omega (arith, few_with_soft q w, w.few_soft)
