-- The paths of a leaf and the table of their bounds.
use Rattle.std.proofs.Common.{◌≡◌, ◌≢◌, ℕ, suc, ◌+◌, ◌*◌, ◌<◌, ◌≤◌, ℤ, pos, Bool, true, false, cond, nat_eq, nat_lt, ◌&&◌, ◌||◌, IsTrue, IfSome, Option, Some, None, List, [], ◌∷◌, ◌++◌, length, length-append, append_assoc, append-nil, Contains, set, get_or, slice_index_or, get_or-set_other, get_or-set_same, ◌⊎◌, inl, inr, refl, sym, ◌∙◌, ap, subst, arith}
use Rattle.std.specs.List.{AllPairs}
use Rattle.std.proofs.Math.ListN.{length-set, replicate, length-replicate}
use Rattle.std.proofs.lemmas.List.{get_or-replicate, get_or_past}
use Rattle.std.proofs.Math.Seq.{get_or-append_seam}
use Rattle.std.proofs.lemmas.Bool.Decides.{nat_tests}
use Rattle.std.proofs.lemmas.List.Elements.{All-contains, All-push, All-nil, Contains-get_or}
use Rattle.std.proofs.lemmas.List.Quantifiers.{all_pairs_push}
use Rattle.sem_query.proofs.Has.{Has, first, later, Has-from_contains, Contains-from_has, Has-append_left, Has-append_right, Has-append_cases}
use Rattle.plan_constraints.specs.declared.constraint.Constraint.{Constraint}
use Rattle.plan_constraints.specs.Solutions.{IsChain}
use Rattle.cert_checker.specs.declared.chain.ChainSum.{ChainSum}
use Rattle.cert_format.specs.declared.line.Path.{Path}
use Rattle.cert_checker.specs.Rules.{IsPath, path_lt, ArePaths, IsBound, same, of_path}
use Rattle.cert_checker.specs.Chained.{IsChainOf}
use Rattle.cert_checker.specs.Bounds.{bound_at, place, IsModest, IsAdded, AddsPath, Tells, ReadsBounds}
use Rattle.cert_checker.proofs.WalkedChains.{chain_same, chain_start, chain_begin}

same_some : {A : Type 0} {x y : A} → let O : Type 0 = Option A in ◌≡◌ {A = O} (Some x) (Some y) → x ≡ y
same_some h = cc

-- ---- one path

pub not_along : (attrs : ℕ) (cs : List Constraint) (p : Path) (c : ChainSum) → IsChainOf cs p.numbers.items (Some c) → ¬ ((c.from ≡ p.from) × (c.to ≡ p.to)) → ¬ IsPath attrs cs p
not_along attrs cs p c h n g =
    let begin : c.from ≡ p.from = chain_start cs p.numbers.items c.from c.to p.from p.to c.sum g.sum h.0 h.1 g.chain in
    let there = chain_begin cs p.numbers.items c.from p.from c.to c.sum begin h.1 in
    n (begin, (chain_same cs p.numbers.items p.from c.to p.to c.sum g.sum there g.chain).0)

-- ---- the order of paths, by their places

lt_numbers : (a b c d : ℕ) → b ≤ 12 → d ≤ 12 → 13 * a + b < 13 * c + d → IsTrue (nat_lt a c || (nat_eq a c && nat_lt b d))
lt_numbers a b c d hb hd h = grind (arith, nat_tests)

numbers_lt : (a b c d : ℕ) → b ≤ 12 → d ≤ 12 → IsTrue (nat_lt a c || (nat_eq a c && nat_lt b d)) → 13 * a + b < 13 * c + d
numbers_lt a b c d hb hd h = grind (arith, nat_tests)

-- ---- a fact of two neighbours

neighbours : {A : Type 0} (R : A → A → Type 0) (xs : List A) (x y : A) (ys : List A) → AllPairs R (xs ++ x ∷ y ∷ ys) → R x y
neighbours {A} R xs x y ys a =
    let e : xs ++ x ∷ y ∷ ys ≡ (xs ++ x ∷ []) ++ y ∷ ys = sym (append_assoc xs (x ∷ []) (y ∷ ys)) in
    let l : length (xs ++ x ∷ []) ≡ length xs + 1 = length-append xs (x ∷ []) in
    let m : length (xs ++ x ∷ y ∷ ys) ≡ length xs + suc (suc (length ys)) = length-append xs (x ∷ y ∷ ys) in
    let h : R (get_or (xs ++ x ∷ y ∷ ys) (length xs) x) (get_or (xs ++ x ∷ y ∷ ys) (length xs + 1) x) = a (length xs) (length xs + 1) x (omega arith) (omega arith) in
    let one : get_or (xs ++ x ∷ y ∷ ys) (length xs) x ≡ x = get_or-append_seam xs x (y ∷ ys) x in
    let two : get_or (xs ++ x ∷ y ∷ ys) (length xs + 1) x ≡ y = ap (λ (z : List A). get_or z (length xs + 1) x) e ∙ ap (λ (k : ℕ). get_or ((xs ++ x ∷ []) ++ y ∷ ys) k x) (sym l) ∙ get_or-append_seam (xs ++ x ∷ []) y ys x in
    let g : R x (get_or (xs ++ x ∷ y ∷ ys) (length xs + 1) x) = subst (λ (z : A). R z (get_or (xs ++ x ∷ y ∷ ys) (length xs + 1) x)) one h in
    subst (λ (z : A). R x z) two g

-- ---- the paths so far

-- the first place that is free behind these paths
abbrev pub IsFirstFree : List Path → ℕ → Type 0
IsFirstFree done free = ((done ≡ []) × (free ≡ 0)) ⊎ ((front : List Path) × (last : Path) × (done ≡ front ++ last ∷ []) × (free ≡ place last + 1))

pub record ReadSo (attrs : ℕ) (cs : List Constraint) (done : List Path) (free : ℕ) (bounds : List (Option ℤ)) : Type 0 where
  pub are : ArePaths attrs cs done
  pub tells : Tells cs done bounds
  pub before : (p : Path) → Has done p → place p < free
  pub next : IsFirstFree done free
  pub long : length bounds ≡ 169

member_path : (attrs : ℕ) (cs : List Constraint) (done : List Path) (p : Path) → ArePaths attrs cs done → Has done p → IsPath attrs cs p
member_path attrs cs done p a h = All-contains (IsPath attrs cs) done p a.each (Contains-from_has done p h)

one_of : {A : Type 0} (x y : A) → Has (x ∷ []) y → y ≡ x
one_of x y first = refl
one_of x y (later h) = elim h [ ]

-- what a table tells of one and the same node
bound_same : (bounds : List (Option ℤ)) (i j : ℕ) → i ≡ j → bound_at bounds i j ≡ Some (pos 0)
bound_same bounds i j e = let t : nat_eq i j ≡ true = grind (arith, nat_tests) in ap (λ (b : Bool). cond b (Some (pos 0)) (slice_index_or bounds (13 * i + j) None)) t

bound_apart : (bounds : List (Option ℤ)) (i j : ℕ) → i ≢ j → bound_at bounds i j ≡ get_or bounds (13 * i + j) None
bound_apart bounds i j n = let t : nat_eq i j ≡ false = grind (arith, nat_tests) in ap (λ (b : Bool). cond b (Some (pos 0)) (slice_index_or bounds (13 * i + j) None)) t

pub start_none : (bounds : List (Option ℤ)) → ((k : ℕ) → get_or bounds k None ≡ None) → length bounds ≡ 169 → (attrs : ℕ) (cs : List Constraint) → ReadSo attrs cs [] 0 bounds
start_none bounds empty long attrs cs = record {
  are = record { each = All-nil (IsPath attrs cs); ascend = λ i j d l m. absurd (omega arith) };
  tells = record {
    told = λ i j li lj u h. none_told i j u h;
    true = λ i j li lj u h. none_true (nat_eq i j) i j u refl h;
    modest = λ k. subst (λ (o : Option ℤ). IfSome o IsModest) (sym (empty k)) tt;
  };
  before = λ p h. elim h [ ];
  next = inl (refl, refl);
  long = long;
}
  where
    none_told : (i j : ℕ) (u : ℤ) → IsBound cs [] i j u → bound_at bounds i j ≡ Some u
    none_told i j u (same e z) = bound_same bounds i j e ∙ ap Some (sym z)
    none_told i j u (of_path p c f t h) = absurd (omega (arith, c.1))

    none_true : (b : Bool) (i j : ℕ) (u : ℤ) → nat_eq i j ≡ b → cond b (Some (pos 0)) (get_or bounds (13 * i + j) None) ≡ Some u → IsBound cs [] i j u
    none_true true i j u e h = let e2 : i ≡ j = grind (arith, nat_tests) in same e2 (sym (same_some h))
    none_true false i j u e h = let z : get_or bounds (13 * i + j) None ≡ None = empty (13 * i + j) in absurd cc

-- ---- one path more

module _ (attrs : ℕ) (cs : List Constraint) (done : List Path) (p : Path) (free next : ℕ) (old new : List (Option ℤ)) (few : attrs ≤ 12) (r : ReadSo attrs cs done free old) (a : IsAdded attrs cs p free next old new) where
  cell : (k : ℕ) → k ≡ place p → get_or new k None ≡ Some a.sum
  cell k e =
      let l : place p < length old = omega (arith, a.path.from, a.path.to, r.long, few) in
      ap (λ (z : List (Option ℤ)). get_or z k None) a.new_is ∙ ap (λ (m : ℕ). get_or (set old (place p) (Some a.sum)) m None) e ∙ get_or-set_same old (place p) (Some a.sum) None l

  other : (k : ℕ) → k ≢ place p → get_or new k None ≡ get_or old k None
  other k n = ap (λ (z : List (Option ℤ)). get_or z k None) a.new_is ∙ get_or-set_other old (place p) k (Some a.sum) None n

  other_bound : (i j : ℕ) (u : ℤ) → 13 * i + j ≢ place p → bound_at old i j ≡ Some u → bound_at new i j ≡ Some u
  other_bound i j u n h = ap (cond (nat_eq i j) (Some (pos 0))) (other (13 * i + j) n) ∙ h

  told_path : (i j : ℕ) (u : ℤ) → (s : Path) → Has (done ++ p ∷ []) s → s.from ≡ i → s.to ≡ j → IsChain cs s.numbers.items i j u → i ≤ 12 → j ≤ 12 → bound_at new i j ≡ Some u
  told_path i j u s h f t c li lj = elim (Has-append_cases done (p ∷ []) s h) [
    | inl k ↦
        let l : place s < free = r.before s k in
        let n : 13 * i + j ≢ place p = omega (arith, l, f, t, a.behind) in
        other_bound i j u n (r.tells.told i j li lj u (of_path s (Contains-from_has done s k) f t c))
    | inr k ↦
        let e : s ≡ p = one_of p s k in
        let f2 : p.from ≡ i = subst (λ (z : Path). z.from ≡ i) e f in
        let t2 : p.to ≡ j = subst (λ (z : Path). z.to ≡ j) e t in
        let c2 : IsChain cs p.numbers.items i j u = subst (λ (z : Path). IsChain cs z.numbers.items i j u) e c in
        let d : IsChain cs p.numbers.items i p.to a.sum = chain_begin cs p.numbers.items p.from i p.to a.sum f2 a.chain in
        let same_sum : u ≡ a.sum = (chain_same cs p.numbers.items i j p.to u a.sum c2 d).1 in
        let apart : p.from ≢ p.to = a.path.differ in
        let n : i ≢ j = omega (arith, f2, t2, apart) in
        bound_apart new i j n ∙ cell (13 * i + j) (omega (arith, f2, t2)) ∙ ap Some (sym same_sum)
  ]

  told_more : (i j : ℕ) → i ≤ 12 → j ≤ 12 → (u : ℤ) → IsBound cs (done ++ p ∷ []) i j u → bound_at new i j ≡ Some u
  told_more i j li lj u (same e z) = bound_same new i j e ∙ ap Some (sym z)
  told_more i j li lj u (of_path s h f t c) = told_path i j u s (Has-from_contains (done ++ p ∷ []) s h) f t c li lj

  bound_more : (i j : ℕ) (u : ℤ) → IsBound cs done i j u → IsBound cs (done ++ p ∷ []) i j u
  bound_more i j u (same e z) = same e z
  bound_more i j u (of_path s h f t c) = of_path s (Contains-from_has (done ++ p ∷ []) s (Has-append_left (p ∷ []) (Has-from_contains done s h))) f t c

  true_here : (i j : ℕ) (u : ℤ) → i ≤ 12 → j ≤ 12 → 13 * i + j ≡ place p → get_or new (13 * i + j) None ≡ Some u → IsBound cs (done ++ p ∷ []) i j u
  true_here i j u li lj e h =
      let lt : p.to ≤ 12 = omega (arith, a.path.to, few) in
      let f : p.from ≡ i = omega arith in
      let t : p.to ≡ j = omega arith in
      let s : a.sum ≡ u = same_some (sym (cell (13 * i + j) e) ∙ h) in
      let c : IsChain cs p.numbers.items i p.to a.sum = chain_begin cs p.numbers.items p.from i p.to a.sum f a.chain in
      let d : IsChain cs p.numbers.items i j a.sum = subst (λ (z : ℕ). IsChain cs p.numbers.items i z a.sum) t c in
      of_path p (Contains-from_has (done ++ p ∷ []) p (Has-append_right done first)) f t (subst (λ (z : ℤ). IsChain cs p.numbers.items i j z) s d)

  true_apart : (b : Bool) (i j : ℕ) (u : ℤ) → i ≤ 12 → j ≤ 12 → nat_eq (13 * i + j) (place p) ≡ b → i ≢ j → get_or new (13 * i + j) None ≡ Some u → IsBound cs (done ++ p ∷ []) i j u
  true_apart true i j u li lj e n h = let e2 : 13 * i + j ≡ place p = grind (arith, nat_tests) in true_here i j u li lj e2 h
  true_apart false i j u li lj e n h =
      let n2 : 13 * i + j ≢ place p = grind (arith, nat_tests) in
      let old_is : get_or old (13 * i + j) None ≡ Some u = sym (other (13 * i + j) n2) ∙ h in
      bound_more i j u (r.tells.true i j li lj u (bound_apart old i j n ∙ old_is))

  true_more : (b : Bool) (i j : ℕ) → i ≤ 12 → j ≤ 12 → (u : ℤ) → nat_eq i j ≡ b → cond b (Some (pos 0)) (get_or new (13 * i + j) None) ≡ Some u → IsBound cs (done ++ p ∷ []) i j u
  true_more true i j li lj u e h = let e2 : i ≡ j = grind (arith, nat_tests) in same e2 (sym (same_some h))
  true_more false i j li lj u e h = let n : i ≢ j = grind (arith, nat_tests) in true_apart (nat_eq (13 * i + j) (place p)) i j u li lj refl n h

  modest_more : (b : Bool) (k : ℕ) → nat_eq k (place p) ≡ b → IfSome (get_or new k None) IsModest
  modest_more true k e =
      let e2 : k ≡ place p = grind (arith, nat_tests) in
      subst (λ (o : Option ℤ). IfSome o IsModest) (sym (cell k e2)) a.modest
  modest_more false k e =
      let n : k ≢ place p = grind (arith, nat_tests) in
      subst (λ (o : Option ℤ). IfSome o IsModest) (sym (other k n)) (r.tells.modest k)

  before_more : (s : Path) → Has (done ++ p ∷ []) s → place s < next
  before_more s h = elim (Has-append_cases done (p ∷ []) s h) [
    | inl k ↦ omega (arith, r.before s k, a.behind, a.next_is)
    | inr k ↦ let e : s ≡ p = one_of p s k in let f : place s ≡ place p = ap place e in omega (arith, f, a.next_is)
  ]

  ascend_more : (k : ℕ) (d : Path) → k < length done → IsTrue (path_lt (get_or done k d) p)
  ascend_more k d l =
      let c : Contains done (get_or done k d) = Contains-get_or done k d l in
      let m : IsPath attrs cs (get_or done k d) = All-contains (IsPath attrs cs) done (get_or done k d) r.are.each c in
      let b : place (get_or done k d) < free = r.before (get_or done k d) (Has-from_contains done (get_or done k d) c) in
      lt_numbers (get_or done k d).from (get_or done k d).to p.from p.to (omega (arith, m.to, few)) (omega (arith, a.path.to, few)) (omega (arith, b, a.behind))

  pub read_more : ReadSo attrs cs (done ++ p ∷ []) next new
  read_more = record {
    are = record { each = All-push (IsPath attrs cs) done p r.are.each a.path; ascend = all_pairs_push (λ p r. IsTrue (path_lt p r)) done p r.are.ascend ascend_more };
    tells = record {
      told = told_more;
      true = λ i j li lj u h. true_more (nat_eq i j) i j li lj u refl h;
      modest = λ k. modest_more (nat_eq k (place p)) k refl;
    };
    before = before_more;
    next = inr (done, p, refl, a.next_is);
    long = ap length a.new_is ∙ length-set old (place p) (Some a.sum) ∙ r.long;
  }

-- ---- where the paths end, and where one is wrong

module _ (attrs : ℕ) (cs : List Constraint) (paths done : List Path) (p : Path) (behind : List Path) (free : ℕ) (bounds old new : List (Option ℤ)) (few : attrs ≤ 12) (r : ReadSo attrs cs done free bounds) (e : paths ≡ done ++ p ∷ behind) (a : AddsPath attrs cs p free None old new) where
  all_here : ArePaths attrs cs paths → IsPath attrs cs p
  all_here h =
      let m : Has paths p = subst (λ (z : List Path). Has z p) (sym e) (Has-append_right done first) in
      member_path attrs cs paths p h m

  pub read_none : ¬ ArePaths attrs cs paths
  read_none h = elim r.next [
    | inl n ↦ a (all_here h) (omega (arith, n.1))
    | inr n ↦
        let e2 : paths ≡ n.0 ++ n.1 ∷ p ∷ behind = e ∙ ap (λ (z : List Path). z ++ p ∷ behind) n.2 ∙ append_assoc n.0 (n.1 ∷ []) (p ∷ behind) in
        let s : AllPairs (λ p r. IsTrue (path_lt p r)) (n.0 ++ n.1 ∷ p ∷ behind) = subst (AllPairs (λ p r. IsTrue (path_lt p r))) e2 h.ascend in
        let t : IsTrue (path_lt n.1 p) = neighbours (λ p r. IsTrue (path_lt p r)) n.0 n.1 p behind s in
        let m : IsPath attrs cs n.1 = member_path attrs cs done n.1 r.are (subst (λ (z : List Path). Has z n.1) (sym n.2) (Has-append_right n.0 first)) in
        let g : IsPath attrs cs p = all_here h in
        let l : 13 * n.1.from + n.1.to < 13 * p.from + p.to = numbers_lt n.1.from n.1.to p.from p.to (omega (arith, m.to, few)) (omega (arith, g.to, few)) t in
        a g (omega (arith, n.3, l))
  ]

pub read_all : (attrs : ℕ) (cs : List Constraint) (paths done : List Path) (free : ℕ) (bounds : List (Option ℤ)) → ReadSo attrs cs done free bounds → paths ≡ done ++ [] → ReadsBounds attrs cs paths (Some bounds)
read_all attrs cs paths done free bounds r e =
    let same_paths : done ≡ paths = sym (e ∙ append-nil done) in
    (subst (ArePaths attrs cs) same_paths r.are, subst (λ (z : List Path). Tells cs z bounds) same_paths r.tells)

pub start_table : (attrs : ℕ) (cs : List Constraint) → ReadSo attrs cs [] 0 (replicate 169 None)
start_table attrs cs = start_none (replicate 169 None) (λ k. empty (nat_lt k 169) k refl) (length-replicate {A = Option ℤ} 169 None) attrs cs
  where
    empty : (b : Bool) (k : ℕ) → nat_lt k 169 ≡ b → let O : Type 0 = Option ℤ in ◌≡◌ {A = O} (get_or (replicate 169 None) k None) None
    empty true k e = let l : k < 169 = grind (arith, nat_tests) in get_or-replicate 169 k None None l
    empty false k e = let l : 169 ≤ k = grind (arith, nat_tests) in get_or_past (replicate 169 None) k None (omega (arith, length-replicate {A = Option ℤ} 169 None, l))

pub split_more : (paths done rest more : List Path) (p : Path) → paths ≡ done ++ rest → rest ≡ p ∷ more → paths ≡ (done ++ p ∷ []) ++ more
split_more paths done rest more p e f = e ∙ ap (λ (z : List Path). done ++ z) f ∙ sym (append_assoc done (p ∷ []) more)

pub split_at : (paths done rest more : List Path) → paths ≡ done ++ rest → rest ≡ more → paths ≡ done ++ more
split_at paths done rest more e f = e ∙ ap (λ (z : List Path). done ++ z) f
