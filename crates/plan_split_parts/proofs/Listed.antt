-- The fronts of no pair, those of one pair more, too many of them, and those of all pairs: the split parts.
use Rattle.std.proofs.Common.{◌≡◌, ◌≤◌, ◌<◌, ◌+◌, ℕ, suc, Bool, true, false, ◌||◌, List, [], ◌∷◌, ◌++◌, map, take, drop, get_or, length, append-nil, refl, sym, ◌∙◌, ap, subst, arith}
use Rattle.std.specs.List.{flat_map, list_any}
use Rattle.std.proofs.lemmas.List.{map-append, length-map, take-append-drop, take_all}
use Rattle.std.proofs.lemmas.List.Elements.{All-contains, Contains-get_or}
use Rattle.sem_query.specs.declared.atom.Atom.{Atom}
use Rattle.sem_query.specs.declared.part.Sign.{Sign}
use Rattle.sem_query.specs.Query.{QueryValue, attrs_of, HasAttr, IsWithinLimits}
use Rattle.sem_query.specs.Assignment.{Assignment, Holds, KeepsDomains}
use Rattle.sem_query.specs.Parts.{sign_at, signs_lt}
use Rattle.sem_query.proofs.Has.{Has, first, later, Has-nil, Has-from_contains, Contains-from_has, Has-append_left, Has-map_from, Has-flat_map}
use Rattle.sem_query.proofs.Holding.{Holds-each}
use Rattle.sem_query.proofs.Split.{pairs_from}
use Rattle.sem_query.proofs.Unique.{Ascends, none, more}
use Rattle.plan_constraints.specs.Solutions.{IsSatisfiable}
use Rattle.plan_constraints.specs.Soft.{denies_itself}
use Rattle.plan_constraints.proofs.Softly.{denied_fails}
use Rattle.plan_closure.specs.Shortest.{AreDistancesOf}
use Rattle.plan_split_pairs.specs.Pairs.{unlike_pairs, split_pairs}
use Rattle.plan_split_pairs.specs.SplitParts.{IsSplitPart, AreSplitParts, HasMoreSplitParts}
use Rattle.plan_split_pairs.proofs.Naming.{unlikes_are_pairs}
use Rattle.sem_whole.proofs.Signed.{solutions_satisfy}
use Rattle.sem_whole.proofs.Suffice.{solves_query}
use Rattle.plan_whole.specs.Closed.{closed_constraints}
use Rattle.plan_split_parts.specs.declared.front.Front.{Front}
use Rattle.plan_split_parts.specs.Sifting.{Sifts}
use Rattle.plan_split_parts.specs.Fronts.{first_pairs, IsFront, front_constraints, IsFrontOf, fronts_of, AreFronts, signs_at, candidates}
use Rattle.plan_split_parts.proofs.Unlike.{unlike_holds, unlike_sign, unlikes_first, unlikes_fit}
use Rattle.plan_split_parts.proofs.Sifted.{sifts_has, sifts_keeps, sifts_ascends}
use Rattle.plan_split_parts.proofs.Ordered.{lt_longer, all_ascend}
use Rattle.plan_split_parts.proofs.Solved.{front_solution, front_satisfied}
use Rattle.plan_split_parts.proofs.Stepped.{front_place, step_out}

-- ---- no pair

pub first_none : (q : QueryValue) → ((f : IsFront q 0 []) → ⊥) → AreFronts q 0 []
first_none q unmet = record {
  ascending = none;
  each = λ f h. Has-nil h;
  all = λ ss f. absurd (unmet (subst (IsFront q 0) (sym f.has) f));
  few = λ l. omega arith;
}

pub denied_first : (q : QueryValue) → list_any (λ t. denies_itself t) q.atoms ≡ true → (f : IsFront q 0 []) → ⊥
denied_first q e f = let n = f.undenied in true_false (sym e ∙ n)
  where
    true_false : true ≡ false → ⊥
    true_false h = cc

-- ---- a front as a part

-- where no comparison passes a test each fails it
pub any_none : (f : Atom → Bool) (ts : List Atom) → list_any f ts ≡ false → (t : Atom) → Has ts t → f t ≡ false
any_none f [] n t h = Has-nil h
any_none f (x ∷ ts) n t first = by (f x) n
  where
    by : (b : Bool) → (b || list_any f ts) ≡ false → b ≡ false
    by true m = absurd cc
    by false m = refl
any_none f (x ∷ ts) n t (later h) = any_none f ts (by (f x) n) t h
  where
    by : (b : Bool) → (b || list_any f ts) ≡ false → list_any f ts ≡ false
    by true m = absurd cc
    by false m = m

-- where one passes it one is found
any_one : (f : Atom → Bool) (ts : List Atom) → list_any f ts ≡ true → (t : Atom) × Has ts t × (f t ≡ true)
any_one f [] e = absurd cc
any_one f (x ∷ ts) e = by (f x) refl e (any_one f ts)
  where
    by : (b : Bool) → f x ≡ b → (b || list_any f ts) ≡ true → (list_any f ts ≡ true → (t : Atom) × Has ts t × (f t ≡ true)) → (t : Atom) × Has (x ∷ ts) t × (f t ≡ true)
    by true g m k = (x, first, g)
    by false g m k = let r = k m in (r.0, later r.1, r.2)

module _ (q : QueryValue) (w : IsWithinLimits q) where
  -- a front that has the pairs of all `<>` begins a part
  front_satisfies : (n : ℕ) → length (unlike_pairs q) ≤ n → (ss : List Sign) → (f : IsFront q n ss) → Holds q f.one × KeepsDomains q f.one
  front_satisfies n l ss f = solutions_satisfy q f.one f.solves
      (λ t h e. unlike_holds f.one t (All-contains HasAttr q.atoms t w.sides (Contains-from_has q.atoms t h)) e (any_none (λ t. denies_itself t) q.atoms f.undenied t h)
      (λ p i. f.unlike p ((unlikes_are_pairs q w).each t h e p i) (unlikes_first q w n l p ((unlikes_are_pairs q w).each t h e p i))))

  begins : (n : ℕ) → length (unlike_pairs q) ≤ n → (ss : List Sign) → (f : IsFront q n ss) → IsSplitPart q (map (sign_at f.one) (split_pairs q))
  begins n l ss f = let r = front_satisfies n l ss f in record { one = f.one; holds = r.0; domains = r.1; has = refl }

  begun : (n : ℕ) (ss : List Sign) → (f : IsFront q n ss) → map (sign_at f.one) (split_pairs q) ≡ ss ++ map (sign_at f.one) (drop n (split_pairs q))
  begun n ss f =
      ap (map (sign_at f.one)) (sym (take-append-drop n (split_pairs q))) ∙ map-append (sign_at f.one) (take n (split_pairs q)) (drop n (split_pairs q))
      ∙ ap (λ z. z ++ map (sign_at f.one) (drop n (split_pairs q))) f.has

  -- ---- too many

  -- a part for each front
  parts_for : (n : ℕ) (xs : List (List Sign)) → ((x : List Sign) → Has xs x → IsFront q n x) → List (List Sign)
  parts_for n [] f = []
  parts_for n (x ∷ xs) f = map (sign_at (f x first).one) (split_pairs q) ∷ parts_for n xs (λ y h. f y (later h))

  parts_length : (n : ℕ) (xs : List (List Sign)) (f : (x : List Sign) → Has xs x → IsFront q n x) → length (parts_for n xs f) ≡ length xs
  unfolding parts_for
  parts_length n [] f = refl
  parts_length n (x ∷ xs) f = ap suc (parts_length n xs (λ y h. f y (later h)))

  part_from : (n : ℕ) (xs : List (List Sign)) (f : (x : List Sign) → Has xs x → IsFront q n x) (z : List Sign) → Has (parts_for n xs f) z
      → (x : List Sign) × (h : Has xs x) × (map (sign_at (f x h).one) (split_pairs q) ≡ z)
  unfolding parts_for
  part_from n [] f z h = Has-nil h
  part_from n (x ∷ xs) f z first = (x, first, refl)
  part_from n (x ∷ xs) f z (later h) = let r = part_from n xs (λ y i. f y (later i)) z h in (r.0, later r.1, r.2)

  parts_ascend : (n : ℕ) → n ≤ length (split_pairs q) → (xs : List (List Sign)) (f : (x : List Sign) → Has xs x → IsFront q n x) → Ascends signs_lt xs → Ascends signs_lt (parts_for n xs f)
  unfolding parts_for
  parts_ascend n k [] f a = none
  parts_ascend n k (x ∷ xs) f (more p a) = more (λ z h. below z h) (parts_ascend n k xs (λ y h. f y (later h)) a)
    where
      below : (z : List Sign) → Has (parts_for n xs (λ y h. f y (later h))) z → signs_lt (map (sign_at (f x first).one) (split_pairs q)) z ≡ true
      below z h =
          let r = part_from n xs (λ y h. f y (later h)) z h in
          let g : IsFront q n r.0 = f r.0 (later r.1) in
          let e : length x ≡ length r.0 = front_place q n x k (f x first) ∙ sym (front_place q n r.0 k g) in
          let o = lt_longer x r.0 (map (sign_at (f x first).one) (drop n (split_pairs q))) (map (sign_at g.one) (drop n (split_pairs q))) e (p r.0 r.1) in
          subst (λ y. signs_lt y z ≡ true) (sym (begun n x (f x first))) (subst (λ y. signs_lt (x ++ map (sign_at (f x first).one) (drop n (split_pairs q))) y ≡ true) (sym (begun n r.0 g) ∙ r.2) o)

  -- more than 4,096 fronts that have the pairs of all `<>` begin as many parts
  pub many_parts : (n : ℕ) → length (unlike_pairs q) ≤ n → n ≤ length (split_pairs q) → (xs : List (List Sign)) → ((x : List Sign) → Has xs x → IsFront q n x) → Ascends signs_lt xs → 4096 < length xs
      → HasMoreSplitParts q 4096
  many_parts n l k xs f a m = record {
    some = parts_for n xs f;
    ascending = pairs_from signs_lt (parts_for n xs f) (parts_ascend n k xs f a);
    each = λ i d h. part_of (get_or (parts_for n xs f) i d) (Has-from_contains (parts_for n xs f) _ (Contains-get_or (parts_for n xs f) i d h));
    more = omega (arith, m, parts_length n xs f);
  }
    where
      part_of : (z : List Sign) → Has (parts_for n xs f) z → IsSplitPart q z
      part_of z h = let r = part_from n xs f z h in subst (IsSplitPart q) r.2 (begins n l r.0 (f r.0 r.1))

  -- ---- no pair

  pub first_one : (front : Front) → front.signs.items ≡ [] → AreDistancesOf front.distances (length (attrs_of q.atoms)) (closed_constraints q) → IsSatisfiable (closed_constraints q)
      → list_any (λ t. denies_itself t) q.atoms ≡ false → AreFronts q 0 (front ∷ [])
  first_one front e d s n = record {
    ascending = more (λ y h. Has-nil h) none;
    each = λ f h. subst (IsFrontOf q 0) (one_front front f h) record {
      signs = subst (IsFront q 0) (sym e) root;
      distances = subst (λ z. AreDistancesOf front.distances (length (attrs_of q.atoms)) (front_constraints q 0 z)) (sym e) (subst (AreDistancesOf front.distances (length (attrs_of q.atoms))) (sym (append-nil (closed_constraints q))) d);
    };
    all = λ ss f. subst (Has (front.signs.items ∷ [])) (e ∙ f.has) first;
    few = λ l. omega arith;
  }
    where
      one_front : (a b : Front) → Has (a ∷ []) b → a ≡ b
      one_front a b first = refl
      one_front a b (later i) = Has-nil i

      root : IsFront q 0 []
      root =
          let r = front_solution q 0 [] w refl (subst IsSatisfiable (sym (append-nil (closed_constraints q))) s) in
          record { one = r.0; solves = r.1; has = r.2; unlike = λ p u h. Has-nil h; undenied = n }

  pub no_first : ¬ IsSatisfiable (closed_constraints q) → (f : IsFront q 0 []) → ⊥
  no_first unmet f = unmet (subst IsSatisfiable (append-nil (closed_constraints q)) (front_satisfied q 0 [] w refl f.one f.solves f.has))

  -- ---- one pair more

  module _ (n : ℕ) (l : n < length (split_pairs q)) (fronts : List Front) (are : AreFronts q n fronts) where
    lengths : (f : List Sign) → Has (fronts_of fronts) f → length f ≡ n
    lengths f h = let r = Has-map_from (λ (x : Front). x.signs.items) fronts f h in subst (λ z. length z ≡ n) r.2 (front_place q n r.0.signs.items (omega (arith, l)) (are.each r.0 r.1).signs)

    -- the candidates behind all fronts ascend
    ascend : Ascends signs_lt (flat_map (candidates (signs_at q n)) (fronts_of fronts))
    ascend = all_ascend q n (fronts_of fronts) lengths are.ascending

    pub next_are : (list : List Front) → Sifts (IsFront q (n + 1)) (flat_map (candidates (signs_at q n)) (fronts_of fronts)) (fronts_of list) → ((f : Front) → Has list f → IsFrontOf q (n + 1) f)
        → (length (unlike_pairs q) ≤ n + 1 → length list ≤ 4096) → AreFronts q (n + 1) list
    next_are list s each few = record {
      ascending = sifts_ascends (IsFront q (n + 1)) signs_lt s ascend;
      each = each;
      all = λ ss f. (let r = step_out q w n l ss f in sifts_keeps (IsFront q (n + 1)) s ss (Has-flat_map (candidates (signs_at q n)) (fronts_of fronts) r.0 ss (are.all r.0 r.1) r.2) f);
      few = few;
    }

    -- some of the fronts come first
    front_some : (i : ℕ) → Ascends signs_lt (flat_map (candidates (signs_at q n)) (take i (fronts_of fronts)))
    front_some i = all_ascend q n (take i (fronts_of fronts)) (λ f h. lengths f (subst (λ z. Has z f) (take-append-drop i (fronts_of fronts)) (Has-append_left (drop i (fronts_of fronts)) h)))
        (ascends_left (take i (fronts_of fronts)) (drop i (fronts_of fronts)) (subst (Ascends signs_lt) (sym (take-append-drop i (fronts_of fronts))) are.ascending))
      where
        ascends_left : (xs ys : List (List Sign)) → Ascends signs_lt (xs ++ ys) → Ascends signs_lt xs
        ascends_left [] ys a = none
        ascends_left (x ∷ xs) ys (more p a) = more (λ y h. p y (Has-append_left ys h)) (ascends_left xs ys a)

    pub next_many : (i : ℕ) (list : List Front) → Sifts (IsFront q (n + 1)) (flat_map (candidates (signs_at q n)) (take i (fronts_of fronts))) (fronts_of list)
        → length (unlike_pairs q) ≤ n + 1 → 4096 < length list → HasMoreSplitParts q 4096
    next_many i list s u m =
        many_parts (n + 1) u (omega (arith, l)) (fronts_of list) (λ x h. sifts_has (IsFront q (n + 1)) s x h) (sifts_ascends (IsFront q (n + 1)) signs_lt s (front_some i))
        (let e = length-map list (λ (x : Front). x.signs.items) in omega (arith, m, e))

  -- ---- all pairs

  pub all_parts : (n : ℕ) → length (split_pairs q) ≤ n → (fronts : List Front) → AreFronts q n fronts → AreSplitParts q (fronts_of fronts)
  all_parts n l fronts are = record {
    ascending = pairs_from signs_lt (fronts_of fronts) are.ascending;
    each = λ i d h. part_of (get_or (fronts_of fronts) i d) (Has-from_contains (fronts_of fronts) _ (Contains-get_or (fronts_of fronts) i d h));
    all = λ ss p. Contains-from_has (fronts_of fronts) ss (are.all ss (front_of ss p));
  }
    where
      whole : first_pairs q n ≡ split_pairs q
      whole = take_all n (split_pairs q) l

      as_part : (ss : List Sign) → IsFront q n ss → IsSplitPart q ss
      as_part ss f = let r = front_satisfies n (let u = unlikes_fit q w in omega (arith, u, l)) ss f in record { one = f.one; holds = r.0; domains = r.1; has = ap (map (sign_at f.one)) (sym whole) ∙ f.has }

      part_of : (z : List Sign) → Has (fronts_of fronts) z → IsSplitPart q z
      part_of z h = let r = Has-map_from (λ (x : Front). x.signs.items) fronts z h in subst (IsSplitPart q) r.2 (as_part r.0.signs.items (are.each r.0 r.1).signs)

      undenied : (v : Assignment) → Holds q v → (b : Bool) → list_any (λ t. denies_itself t) q.atoms ≡ b → b ≡ false
      undenied v h false e = refl
      undenied v h true e = let r = any_one (λ t. denies_itself t) q.atoms e in absurd (denied_fails r.0 v r.2 (Holds-each q v h r.0 r.1))

      front_of : (ss : List Sign) → IsSplitPart q ss → IsFront q n ss
      front_of ss p = record {
        one = p.one;
        solves = solves_query q p.one p.holds p.domains;
        has = ap (map (sign_at p.one)) whole ∙ p.has;
        unlike = λ r u h. (let t = (unlikes_are_pairs q w).only r u in unlike_sign p.one t.0 t.2 (Holds-each q p.one p.holds t.0 t.1) r t.3);
        undenied = undenied p.one p.holds (list_any (λ t. denies_itself t) q.atoms) refl;
      }
