-- What holds in the motion of a solution of a part.
use Rattle.std.proofs.Common.{◌≡◌, ℕ, zero, suc, ◌+◌, ◌-◌, ◌<◌, ◌≤◌, List, [], ◌∷◌, ◌++◌, map, length, slice_index_or, refl, sym, ap, ◌∙◌, subst, arith, ℤ, pos, neg_ℤ, nat_abs, ◌+ℤ◌, ◌≤ℤ◌, ◌<ℤ◌, All, Contains, ◌⊎◌, inl, inr}
use Rattle.std.proofs.lemmas.Int.{ints}
use Rattle.std.proofs.lemmas.List.{map-append, length-map}
use Rattle.std.proofs.lemmas.List.Elements.{All-contains}
use Rattle.arrayvec.specs.ArrayVec.{ArrayVec as Items}
use Rattle.sem_query.specs.declared.atom.Attr.{Attr}
use Rattle.sem_query.specs.declared.part.Sign.{Sign}
use Rattle.sem_query.specs.declared.plan.Link.{Link}
use Rattle.sem_query.specs.Query.{QueryValue, attrs_of, consts_of}
use Rattle.sem_query.specs.Assignment.{Assignment}
use Rattle.sem_query.specs.Plan.{link}
use Rattle.sem_query.specs.Links.{IsInequality}
use Rattle.sem_query.proofs.Has.{Has, first, later, Has-from_contains, Contains-from_has}
use Rattle.plan_constraints.specs.Nodes.{place_of, assignment_of}
use Rattle.plan_constraints.specs.Solutions.{Solves}
use Rattle.plan_constraints.proofs.NodeFacts.{assignment_agrees, place_below}
use Rattle.plan_constraints.proofs.InPart.{in_part_from_solves}
use Rattle.plan_closure.specs.Answers.{at_nodes, IsNear}
use Rattle.plan_constraints.specs.PartConstraints.{of_prefix}
use Rattle.plan_closure.specs.BoundsValue.{BoundsValue}
use Rattle.fam_fooling_sets.specs.declared.ground.Ground.{Ground}
use Rattle.fam_fooling_sets.specs.declared.motion.Motion.{Motion}
use Rattle.fam_fooling_sets.specs.declared.motion.ConstantEnds.{ConstantEnds}
use Rattle.fam_fooling_sets.specs.Members.{IsGroundOf, IsFarWithin}
use Rattle.fam_fooling_sets.specs.Moving.{moved, IsNearby, IsMotion, IsMotionOf, IsMotionFor, AreEnds, ReachNoFarther, IsMovedMember, AreMovedMembers, AddsMovedRow}
use Rattle.fam_fooling_sets.specs.Passing.{value_in, IsTighter, IsFirstSolution}
use Rattle.fam_fooling_sets.specs.Blanks.{AreBlanks}
use Rattle.fam_fooling_sets.specs.Shown.{rows_in, asking_in, arrivals}
use Rattle.sem_query.specs.Meaning.{Arrival}
use Rattle.fam_fooling_sets.proofs.Cells.{nodes-at}
use Rattle.fam_fooling_sets.proofs.Keeping.{get-map}
use Rattle.fam_fooling_sets.proofs.Moving.{moved-size}
use Rattle.fam_fooling_sets.proofs.Points.{at-front, at-end, longer}

pub has-at : (xs : List ℤ) (i : ℕ) → i < length xs → Has xs (slice_index_or xs i (pos 0))
has-at [] i l = absurd (omega (arith, l))
has-at (x ∷ xs) zero l = first
has-at (x ∷ xs) (suc i) l = later (has-at xs i (omega (arith, l)))

module _ (q : QueryValue) (s : List Sign) (m : Motion) (is : IsMotionOf q s m) where
  -- the assignment of the solution
  abbrev pub u : Assignment
  u = assignment_of (attrs_of q.atoms) q.domains (at_nodes m.values.items)

  pub place-in : (b : Attr) → Has (attrs_of q.atoms) b → place_of (attrs_of q.atoms) b < length m.values.items
  place-in b h = let l = place_below (attrs_of q.atoms) b h in let e = is.many in omega (arith, l, e)

  pub u-at : (b : Attr) → Has (attrs_of q.atoms) b → u b ≡ value_in q m b
  u-at b h = sym ((assignment_agrees (attrs_of q.atoms) q.domains (at_nodes m.values.items) refl).each b h) ∙ nodes-at m.values.items (place_of (attrs_of q.atoms) b)

  pub w-at : (k : ℕ) (b : Attr) → Has (attrs_of q.atoms) b → assignment_of (attrs_of q.atoms) q.domains (at_nodes (map (moved m k) m.values.items)) b ≡ moved m k (value_in q m b)
  w-at k b h =
      sym ((assignment_agrees (attrs_of q.atoms) q.domains (at_nodes (map (moved m k) m.values.items)) refl).each b h) ∙ nodes-at (map (moved m k) m.values.items) (place_of (attrs_of q.atoms) b)
      ∙ get-map (moved m k) m.values.items (place_of (attrs_of q.atoms) b) (pos 0) (pos 0) (place-in b h)

  -- the sides of a link have their order
  pub link-less : (x y : Attr) → IsInequality q s x y → value_in q m x <ℤ value_in q m y
  link-less x y i =
      let l : u x <ℤ u y = i.less.less u (in_part_from_solves q s is.within is.part (at_nodes m.values.items) is.solves) in
      let e = u-at x (Has-from_contains _ x i.across.left) in let f = u-at y (Has-from_contains _ y i.across.right) in omega (arith, ints, l, e, f)

-- the links that are told of a part are its inequalities
pub links-are : (q : QueryValue) (s : List Sign) (links : List Link) → ((x y : Attr) → Contains links (link x y) → IsInequality q s x y) → All (λ l. IsInequality q s l.left l.right) links
links-are q s links f = λ k d l. f (slice_index_or links k d).left (slice_index_or links k d).right (Contains-from_has links (slice_index_or links k d) (has links k d l))
  where
    has : (xs : List Link) (i : ℕ) (d : Link) → i < length xs → Has xs (slice_index_or xs i d)
    has [] i d l = absurd (omega (arith, l))
    has (x ∷ xs) zero d l = first
    has (x ∷ xs) (suc i) d l = later (has xs i d (omega (arith, l)))

-- the values of a first solution are near
pub values-nearby : (b : BoundsValue) (node : ℕ) (xs : List ℤ) → IsFirstSolution b node xs → All IsNearby xs
values-nearby b node xs s = λ k d l. near s.value (slice_index_or xs k d) s.small (s.solved.near k d l)
  where
    near : (value x : ℤ) → nat_abs value ≤ 100000000000065536 → IsNear value x → IsNearby x
    near value x f n = record {
      low = (let k : neg_ℤ (pos 100000000000000000 +ℤ pos (nat_abs value)) ≤ℤ x = n.low in omega (arith, ints, k, f));
      high = (let k : x ≤ℤ (pos 100000000000000000 +ℤ pos (nat_abs value)) = n.high in omega (arith, ints, k, f));
    }

-- a solution and ends make a motion
pub motion-made : (q : QueryValue) (s : List Sign) (b : BoundsValue) (node : ℕ) (xs consts : List ℤ) (m : Motion) → IsTighter q s b → IsFirstSolution b node xs → m.values.items ≡ xs
    → length xs ≤ 12 → m.n ≤ 65535 → consts ≡ consts_of q.atoms → (ends : ConstantEnds) → AreEnds consts ends → m.low ≡ ends.low → m.high ≡ ends.high → IsMotionOf q s m
motion-made q s b node xs consts m tight solution same few size named ends are low high = record {
  within = tight.within;
  part = tight.part;
  motion = record {
    size = size;
    few = (let e = ap length same in omega (arith, e, few));
    far = subst (All IsNearby) (sym same) (values-nearby b node xs solution);
    low = (let z = are.low in omega (arith, ints, z, low));
    ends = (let z = are.order in omega (arith, ints, z, low, high));
    high = (let z = are.high in omega (arith, ints, z, high));
  };
  many = ap length same ∙ solution.solved.long ∙ tight.attrs;
  solves = subst (λ (zs : List ℤ). Solves (at_nodes zs) (of_prefix q s)) (sym same) (tight.solves (at_nodes xs) solution.solved.solves);
  between = λ k c.
      let o = contained consts k (subst (λ (ks : List ℤ). Contains ks k) (sym named) c) are.between in
      let x = o.0 in let y = o.1 in (omega (arith, ints, x, low), omega (arith, ints, y, high));
}
  where
    contained : (ks : List ℤ) (k : ℤ) → Contains ks k → All (λ k. (ends.low ≤ℤ k) × (k ≤ℤ ends.high)) ks → (ends.low ≤ℤ k) × (k ≤ℤ ends.high)
    contained ks k h f = All-contains (λ k. (ends.low ≤ℤ k) × (k ≤ℤ ends.high)) ks k f h

-- the ends are two constants, or lie below all values
pub ends-made : (consts ks values us : List ℤ) (e : ConstantEnds) (low high : ℤ) → consts ≡ ks → values ≡ us → low ≡ e.low → high ≡ e.high → ReachNoFarther consts values e
    → ReachNoFarther ks us (record { low = low; high = high })
ends-made consts ks values us e low high named same low_is high_is near =
    subst (λ (zs : List ℤ). ReachNoFarther zs us (record { low = low; high = high })) named
    (subst (λ (zs : List ℤ). ReachNoFarther consts zs (record { low = low; high = high })) same
    (subst (λ (z : ℤ). ReachNoFarther consts values (record { low = z; high = high })) (sym low_is)
    (subst (λ (z : ℤ). ReachNoFarther consts values (record { low = e.low; high = z })) (sym high_is) near)))

-- a motion serves for the rows of a ground
pub motion-for : (q : QueryValue) (s : List Sign) (a : Attr) (g : Ground) (m : Motion) → IsGroundOf q s a g → IsMotionOf q s m → Contains (attrs_of q.atoms) a
    → (blanks : List (Items ℤ)) → g.blanks.now ≡ blanks → AreBlanks q (rows_in blanks) → a.stream < length q.from → IsMotionFor g a.stream m
motion-for q s a g m ground is c blanks same are there = record {
  motion = is.motion;
  attrs = is.many ∙ ap length (sym ground.attrs_are);
  node = (let n = ground.node_is c in omega (arith, n));
  within = (let n = ground.node_is c in let l = place_below (attrs_of q.atoms) a (Has-from_contains _ a c) in let e = ap length ground.attrs_are in omega (arith, n, l, e));
  many = ap length ground.from_is ∙ sym are.many ∙ length-map blanks (λ (row : Items ℤ). row.items) ∙ ap length (sym same);
  few = (let f = is.within.streams.1 in let e = ap length ground.from_is in omega (arith, f, e));
  there = (let e = ap length ground.from_is in omega (arith, there, e));
}

-- one member more
same-member : (g : Ground) (m : Motion) (own k : ℕ) (row line : List ℤ) (asked told : List Arrival) → row ≡ line → asked ≡ told → IsMovedMember g m own k row asked → IsMovedMember g m own k line told
same-member g m own k row line asked told o p is =
    subst (λ z. IsMovedMember g m own k line z) p (subst (λ (z : List ℤ). IsMovedMember g m own k z asked) o is)

pub moved-more : (g : Ground) (m : Motion) (own n : ℕ) (rows : List (Items ℤ)) (asking : List (Items (ℕ × Items ℤ))) (more_rows : List (Items ℤ)) (more_asking : List (Items (ℕ × Items ℤ)))
    → AreMovedMembers g m own n (rows_in rows) (asking_in asking) → AddsMovedRow g m own n rows asking more_rows more_asking → AreMovedMembers g m own (n + 1) (rows_in more_rows) (asking_in more_asking)
moved-more g m own n rows asking more_rows more_asking are a = record {
  many = ap length rows_more ∙ longer (rows_in rows) a.row.items n are.many;
  asked = ap length asking_more ∙ longer (asking_in asking) (arrivals a.asked.items) n are.asked;
  each = λ k l. by k (last_or k n l);
}
  where
    rows_more : rows_in more_rows ≡ rows_in rows ++ a.row.items ∷ []
    rows_more = ap rows_in a.rows_are ∙ map-append (λ (row : Items ℤ). row.items) rows (a.row ∷ [])

    asking_more : asking_in more_asking ≡ asking_in asking ++ arrivals a.asked.items ∷ []
    asking_more = ap asking_in a.asking_is ∙ map-append (λ (a : Items (ℕ × Items ℤ)). arrivals a.items) asking (a.asked ∷ [])

    last_or : (k n : ℕ) → k < n + 1 → (k < n) ⊎ (k ≡ n)
    last_or k n l = grind (arith, l)

    by : (k : ℕ) → (k < n) ⊎ (k ≡ n) → IsMovedMember g m own k (slice_index_or (rows_in more_rows) k []) (slice_index_or (asking_in more_asking) k [])
    by k (inl l) =
        same-member g m own k _ _ _ _
        (sym (ap (λ (z : List (List ℤ)). slice_index_or z k []) rows_more ∙ at-front (rows_in rows) (a.row.items ∷ []) k [] (let e = are.many in omega (arith, e, l))))
        (sym (ap (λ (z : List (List Arrival)). slice_index_or z k []) asking_more ∙ at-front (asking_in asking) (arrivals a.asked.items ∷ []) k [] (let e = are.asked in omega (arith, e, l))))
        (are.each k l)
    by k (inr o) =
        same-member g m own k _ _ _ _
        (sym (ap (λ (z : List (List ℤ)). slice_index_or z k []) rows_more ∙ at-end (rows_in rows) a.row.items k [] (let e = are.many in omega (arith, e, o))))
        (sym (ap (λ (z : List (List Arrival)). slice_index_or z k []) asking_more ∙ at-end (asking_in asking) (arrivals a.asked.items) k [] (let e = are.asked in omega (arith, e, o))))
        (subst (λ (i : ℕ). IsMovedMember g m own i a.row.items (arrivals a.asked.items)) (sym o) a.made)

-- the place of an attribute among the values
module _ (q : QueryValue) (s : List Sign) (m : Motion) (is : IsMotionOf q s m) (a : Attr) (c : Contains (attrs_of q.atoms) a)
    (attrs : List Attr) (same : attrs ≡ attrs_of q.atoms) (place : ℕ) (at : place ≡ place_of attrs a) (values : List ℤ) (are : values ≡ m.values.items) where
  place-is : place ≡ place_of (attrs_of q.atoms) a
  place-is = at ∙ ap (λ (ks : List Attr). place_of ks a) same

  pub place-bound : place < length values
  place-bound = let l = place-in q s m is a (Has-from_contains _ a c) in let e = ap length are in let p = place-is in omega (arith, l, e, p)

length-map-of : (f : ℤ → ℤ) (zs : List ℤ) → length (map f zs) ≡ length zs
length-map-of f [] = refl
length-map-of f (z ∷ zs) = ap suc (length-map-of f zs)

-- moved values are far within 64 bits
pub far-moved : (m : Motion) → IsMotion m → (k : ℕ) → k < m.n → All IsFarWithin (map (moved m k) m.values.items)
far-moved m is k l i d o =
    let e : i < length m.values.items = (let z = length-map-of (moved m k) m.values.items in omega (arith, o, z)) in
    let f = is.size in
    subst IsFarWithin (sym (get-map (moved m k) m.values.items i (pos 0) d e))
    (let v = is.far i (pos 0) e in
    let r = moved-size m is k (slice_index_or m.values.items i (pos 0)) (omega (arith, f)) l v.low v.high in
    record { low = (let a = r.0 in omega (arith, ints, a)); high = (let a = r.1 in omega (arith, ints, a)) })

module _ (g : Ground) (m : Motion) (own number : ℕ) (is : IsMotionFor g own m) (below : number < m.n) (xs : List ℤ) (same : xs ≡ map (moved m number) m.values.items) where
  pub moved-many : length xs ≡ length g.attrs.now
  moved-many = ap length same ∙ length-map-of (moved m number) m.values.items ∙ is.attrs

  pub moved-far : All IsFarWithin xs
  moved-far = subst (All IsFarWithin) (sym same) (far-moved m is.motion number below)

  pub moved-node : g.node ≤ length xs
  moved-node = let e = moved-many in let l = is.within in omega (arith, e, l)

  pub moved-value : (value : ℤ) → value ≡ slice_index_or xs (g.node - 1) (pos 0) → IsFarWithin value
  moved-value value e = subst IsFarWithin (sym e) (moved-far (g.node - 1) (pos 0) (let a = moved-node in let b = is.node in omega (arith, a, b)))
