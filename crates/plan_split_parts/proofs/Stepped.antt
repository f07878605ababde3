-- Fronts with one more pair.
use Rattle.std.proofs.Common.{◌≡◌, ◌≢◌, ◌≤◌, ◌<◌, ◌+◌, ℕ, suc, inl, inr, Bool, true, false, cond, nat_lt, List, [], ◌∷◌, ◌++◌, map, get_or, length, length-append, append_assoc, append-nil, All, refl, sym, ◌∙◌, ap, subst, arith}
use Rattle.std.specs.List.{flat_map}
use Rattle.std.proofs.lemmas.Bool.Decides.{nat_tests}
use Rattle.std.proofs.lemmas.List.{map-append, length-map, take_more, length-take-le}
use Rattle.std.proofs.lemmas.List.Concat.{flat_map-append}
use Rattle.sem_query.specs.declared.part.Pair.{Pair}
use Rattle.sem_query.specs.declared.part.Sign.{Sign}
use Rattle.sem_query.specs.Query.{QueryValue, attrs_of, IsWithinLimits}
use Rattle.sem_query.specs.Assignment.{Assignment}
use Rattle.sem_query.specs.Parts.{sign_at}
use Rattle.sem_query.proofs.Has.{Has, first, later, Has-nil, Has-append_left, Has-append_right, Has-append_cases, Has-map, same_at}
use Rattle.plan_constraints.specs.declared.constraint.Constraint.{Constraint}
use Rattle.plan_constraints.specs.Solutions.{IsSatisfiable, IsWithin}
use Rattle.plan_closure.specs.declared.distances.Distances.{Distances}
use Rattle.plan_closure.specs.Shortest.{AreDistancesOf, AreDistances}
use Rattle.plan_split_pairs.specs.Pairs.{unlike_pairs, split_pairs}
use Rattle.plan_split_pairs.proofs.Adding.{no_pair}
use Rattle.sem_whole.specs.System.{atom_bounds}
use Rattle.sem_whole.specs.Signed.{said, all_said}
use Rattle.plan_whole.specs.Closed.{constraint_of, closed_constraints}
use Rattle.plan_split_parts.specs.declared.front.Front.{Front}
use Rattle.plan_split_parts.specs.Sifting.{done, kept, dropped}
use Rattle.plan_split_parts.specs.Fronts.{first_pairs, IsFront, front_constraints, IsFrontOf, fronts_of, signs_at, candidates, Pushes}
use Rattle.plan_split_parts.proofs.Unlike.{one_pair, unlikes_first, unlike_at}
use Rattle.plan_split_parts.proofs.Solved.{front_solution, front_satisfied}
use Rattle.plan_split_parts.proofs.Sifted.{sifts_append}

-- the pair at a place
abbrev pub pair_at : QueryValue → ℕ → Pair
pair_at q n = get_or (split_pairs q) n no_pair

-- two lists with one more behind them
split_last : (xs ys : List Sign) (a b : Sign) → length xs ≡ length ys → xs ++ a ∷ [] ≡ ys ++ b ∷ [] → (xs ≡ ys) × (a ≡ b)
split_last [] [] a b n e = (let f : a ≡ b = cc in (refl, f))
split_last [] (y ∷ ys) a b n e = absurd cc
split_last (x ∷ xs) [] a b n e = absurd cc
split_last (x ∷ xs) (y ∷ ys) a b n e =
    let m : suc (length xs) ≡ suc (length ys) = n in
    let f : x ≡ y = cc in
    let g : xs ++ a ∷ [] ≡ ys ++ b ∷ [] = cc in
    let r = split_last xs ys a b (omega (arith, m)) g in
    let t : xs ≡ ys = r.0 in
    let u : x ∷ xs ≡ y ∷ ys = cc in
    (u, r.1)

-- a front has a sign for each of its pairs
pub front_length : (q : QueryValue) (n : ℕ) (ss : List Sign) → IsFront q n ss → length ss ≡ length (first_pairs q n)
front_length q n ss f = sym (ap length f.has) ∙ length-map (first_pairs q n) (sign_at f.one)

pub front_place : (q : QueryValue) (n : ℕ) (ss : List Sign) → n ≤ length (split_pairs q) → IsFront q n ss → length ss ≡ n
front_place q n ss l f = front_length q n ss f ∙ length-take-le n (split_pairs q) l

module _ (q : QueryValue) (w : IsWithinLimits q) (n : ℕ) (l : n < length (split_pairs q)) where
  first_more : first_pairs q (n + 1) ≡ first_pairs q n ++ pair_at q n ∷ []
  first_more = take_more (split_pairs q) n no_pair l

  signs_more : (v : Assignment) → map (sign_at v) (first_pairs q (n + 1)) ≡ map (sign_at v) (first_pairs q n) ++ sign_at v (pair_at q n) ∷ []
  signs_more v = ap (map (sign_at v)) first_more ∙ map-append (sign_at v) (first_pairs q n) (pair_at q n ∷ [])

  longer_length : (pre : List Sign) (s : Sign) → length pre ≡ length (first_pairs q n) → length (first_pairs q (n + 1)) ≡ length (pre ++ s ∷ [])
  longer_length pre s e =
      let a = ap length first_more ∙ length-append (first_pairs q n) (pair_at q n ∷ []) in
      omega (arith, a, length-append pre (s ∷ []), e)

  -- a front with a sign of the next pair, where it has a solution
  pub step_in : (pre : List Sign) (s : Sign) → IsFront q n pre → (n < length (unlike_pairs q) → s ≢ Sign.Eq) → IsSatisfiable (front_constraints q (n + 1) (pre ++ s ∷ [])) → IsFront q (n + 1) (pre ++ s ∷ [])
  step_in pre s f c sat =
      let r = front_solution q (n + 1) (pre ++ s ∷ []) w (longer_length pre s (front_length q n pre f)) sat in
      record { one = r.0; solves = r.1; has = r.2; unlike = λ p u h. apart r.0 r.2 p u h; undenied = f.undenied }
    where
      parted : (v : Assignment) → map (sign_at v) (first_pairs q (n + 1)) ≡ pre ++ s ∷ [] → (map (sign_at v) (first_pairs q n) ≡ pre) × (sign_at v (pair_at q n) ≡ s)
      parted v h = split_last (map (sign_at v) (first_pairs q n)) pre (sign_at v (pair_at q n)) s (length-map (first_pairs q n) (sign_at v) ∙ sym (front_length q n pre f)) (sym (signs_more v) ∙ h)

      before : (v : Assignment) → map (sign_at v) (first_pairs q n) ≡ pre → (p : Pair) → Has (unlike_pairs q) p → Has (first_pairs q n) p → sign_at v p ≢ Sign.Eq
      before v e p u h i = f.unlike p u h (sym (same_at (sign_at v) (sign_at f.one) (e ∙ sym f.has) h) ∙ i)

      here : (v : Assignment) → map (sign_at v) (first_pairs q n) ≡ pre → sign_at v (pair_at q n) ≡ s → (p : Pair) → Has (unlike_pairs q) p → pair_at q n ≡ p → (b : Bool) → nat_lt n (length (unlike_pairs q)) ≡ b → sign_at v p ≢ Sign.Eq
      here v e g p u i true t = λ k. c (grind (arith, nat_tests)) (sym g ∙ ap (sign_at v) i ∙ k)
      here v e g p u i false t = before v e p u (unlikes_first q w n (grind (arith, nat_tests)) p u)

      apart : (v : Assignment) → map (sign_at v) (first_pairs q (n + 1)) ≡ pre ++ s ∷ [] → (p : Pair) → Has (unlike_pairs q) p → Has (first_pairs q (n + 1)) p → sign_at v p ≢ Sign.Eq
      apart v h p u i =
          let r = parted v h in
          elim (Has-append_cases (first_pairs q n) (pair_at q n ∷ []) p (subst (λ z. Has z p) first_more i)) [
            | inl j ↦ before v r.0 p u j
            | inr j ↦ here v r.0 r.1 p u (one_pair (pair_at q n) p j) (nat_lt n (length (unlike_pairs q))) refl
          ]

  -- a front with one more pair is one of the candidates
  allowed : (s : Sign) → (n < length (unlike_pairs q) → s ≢ Sign.Eq) → (b : Bool) → nat_lt n (length (unlike_pairs q)) ≡ b → Has (Sign.Lt ∷ cond b (Sign.Gt ∷ []) (Sign.Eq ∷ Sign.Gt ∷ [])) s
  allowed Sign.Lt c b t = first
  allowed Sign.Gt c true t = later first
  allowed Sign.Gt c false t = later (later first)
  allowed Sign.Eq c false t = later first
  allowed Sign.Eq c true t = absurd (c (grind (arith, nat_tests)) refl)

  pub step_out : (ss : List Sign) → IsFront q (n + 1) ss → (pre : List Sign) × IsFront q n pre × Has (candidates (signs_at q n) pre) ss
  step_out ss f = (
    map (sign_at f.one) (first_pairs q n),
    before,
    subst (Has (candidates (signs_at q n) (map (sign_at f.one) (first_pairs q n)))) (sym (signs_more f.one) ∙ f.has)
        (Has-map (λ s. map (sign_at f.one) (first_pairs q n) ++ s ∷ []) (allowed (sign_at f.one (pair_at q n)) not_equal (nat_lt n (length (unlike_pairs q))) refl)),
  )
    where
      before : IsFront q n (map (sign_at f.one) (first_pairs q n))
      before = record {
        one = f.one;
        solves = f.solves;
        has = refl;
        unlike = λ p u h. f.unlike p u (subst (λ z. Has z p) (sym first_more) (Has-append_left (pair_at q n ∷ []) h));
        undenied = f.undenied;
      }

      not_equal : n < length (unlike_pairs q) → sign_at f.one (pair_at q n) ≢ Sign.Eq
      not_equal k = f.unlike (pair_at q n) (unlike_at q w n no_pair k) (subst (λ z. Has z (pair_at q n)) (sym first_more) (Has-append_right (first_pairs q n) first))

  -- the constraints of a front with one more sign
  said_more : (ps : List Pair) (ss : List Sign) (p : Pair) (s : Sign) → length ps ≡ length ss → all_said (ps ++ p ∷ []) (ss ++ s ∷ []) ≡ all_said ps ss ++ said p s ∷ []
  said_more [] [] p s e = refl
  said_more [] (t ∷ ss) p s e = absurd cc
  said_more (r ∷ ps) [] p s e = absurd cc
  said_more (r ∷ ps) (t ∷ ss) p s e = let m : suc (length ps) ≡ suc (length ss) = e in ap (λ z. said r t ∷ z) (said_more ps ss p s (omega (arith, m)))

  pub constraints_more : (pre : List Sign) (s : Sign) → IsFront q n pre
      → front_constraints q n pre ++ map (constraint_of (attrs_of q.atoms)) (atom_bounds (said (pair_at q n) s)) ≡ front_constraints q (n + 1) (pre ++ s ∷ [])
  constraints_more pre s f =
      let k = constraint_of (attrs_of q.atoms) in
      let S = all_said (first_pairs q n) pre in
      let a : all_said (first_pairs q (n + 1)) (pre ++ s ∷ []) ≡ S ++ said (pair_at q n) s ∷ [] = ap (λ z. all_said z (pre ++ s ∷ [])) first_more ∙ said_more (first_pairs q n) pre (pair_at q n) s (sym (front_length q n pre f)) in
      let b : flat_map atom_bounds (S ++ said (pair_at q n) s ∷ []) ≡ flat_map atom_bounds S ++ atom_bounds (said (pair_at q n) s) =
      flat_map-append atom_bounds S (said (pair_at q n) s ∷ []) ∙ ap (λ z. flat_map atom_bounds S ++ z) (append-nil (atom_bounds (said (pair_at q n) s))) in
      append_assoc (closed_constraints q) (map k (flat_map atom_bounds S)) (map k (atom_bounds (said (pair_at q n) s)))
      ∙ ap (λ z. closed_constraints q ++ z) (sym (ap (λ z. map k (flat_map atom_bounds z)) a ∙ ap (map k) b ∙ map-append k (flat_map atom_bounds S) (atom_bounds (said (pair_at q n) s))))

  -- the candidate that is no front is left out
  pub pushes_none : (pre : List Sign) (s : Sign) (list : List Front) → IsFront q n pre → ¬ IsSatisfiable (front_constraints q (n + 1) (pre ++ s ∷ [])) → Pushes q (n + 1) ((pre ++ s ∷ []) ∷ []) list list
  pushes_none pre s list f unmet = record {
    more = [];
    sifted = dropped (λ g. unmet (front_satisfied q (n + 1) (pre ++ s ∷ []) w (longer_length pre s (front_length q n pre f)) g.one g.solves g.has)) done;
    added = sym (append-nil (fronts_of list));
    each = λ g h. inl h;
  }

  -- the one that is a front is added
  pub pushes_one : (pre : List Sign) (s : Sign) (list after : List Front) (g : Front) → IsFront q n pre → (n < length (unlike_pairs q) → s ≢ Sign.Eq) → IsSatisfiable (front_constraints q (n + 1) (pre ++ s ∷ []))
      → g.signs.items ≡ pre ++ s ∷ [] → AreDistancesOf g.distances (length (attrs_of q.atoms)) (front_constraints q (n + 1) (pre ++ s ∷ []))
      → after ≡ list ++ g ∷ [] → Pushes q (n + 1) ((pre ++ s ∷ []) ∷ []) list after
  pushes_one pre s list after g f c sat e d h = record {
    more = (pre ++ s ∷ []) ∷ [];
    sifted = kept (step_in pre s f c sat) done;
    added = ap fronts_of h ∙ map-append (λ (x : Front). x.signs.items) list (g ∷ []) ∙ ap (λ z. fronts_of list ++ z ∷ []) e;
    each = λ x m. (elim (Has-append_cases list (g ∷ []) x (subst (λ z. Has z x) h m)) [
      | inl i ↦ inl i
      | inr i ↦ inr (subst (IsFrontOf q (n + 1)) (one_front g x i) record {
        signs = subst (IsFront q (n + 1)) (sym e) (step_in pre s f c sat);
        distances = subst (λ z. AreDistancesOf g.distances (length (attrs_of q.atoms)) (front_constraints q (n + 1) z)) (sym e) d;
      })
    ]);
  }
    where
      one_front : (a b : Front) → Has (a ∷ []) b → a ≡ b
      one_front a b first = refl
      one_front a b (later i) = Has-nil i

-- one list of candidates after another
pub pushes_both : (q : QueryValue) (n : ℕ) (xs ys : List (List Sign)) (a b c : List Front) → Pushes q n xs a b → Pushes q n ys b c → Pushes q n (xs ++ ys) a c
pushes_both q n xs ys a b c f g = record {
  more = f.more ++ g.more;
  sifted = sifts_append (IsFront q n) f.sifted g.sifted;
  added = g.added ∙ ap (λ z. z ++ g.more) f.added ∙ append_assoc (fronts_of a) f.more g.more;
  each = λ x h. (elim (g.each x h) [ inl i ↦ f.each x i | inr i ↦ inr i ]);
}

-- distances of some constraints are distances
pub known_of : (d : Distances) (n : ℕ) (cs : List Constraint) → AreDistancesOf d n cs → AreDistances d
known_of d n cs h = record { constraints = cs; distances = subst (λ m. AreDistancesOf d m cs) (sym h.attrs) h }

pub within_of : (d : Distances) (n : ℕ) (cs ks : List Constraint) → AreDistancesOf d n cs → All (IsWithin n) ks → All (IsWithin d.attrs) ks
within_of d n cs ks h a = subst (λ m. All (IsWithin m) ks) (sym h.attrs) a
