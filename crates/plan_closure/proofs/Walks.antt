-- The chain that the next edges give.
use Rattle.std.proofs.Common.{◌≡◌, ◌≢◌, ℕ, zero, suc, ◌<◌, ◌≤◌, ◌+◌, ◌-◌, ◌*◌, ℤ, pos, ◌+ℤ◌, ◌⊎◌, inl, inr, refl, sym, ◌∙◌, ap, subst, arith, Option, Some, None, List, [], ◌∷◌, ◌++◌, length, take, set, append_assoc, slice_index_or}
use Rattle.std.proofs.lemmas.List.{take_more_set}
use Rattle.sem_query.proofs.Has.{Has, first, later}
use Rattle.plan_constraints.specs.declared.constraint.Constraint.{Constraint}
use Rattle.plan_closure.specs.declared.entry.Entry.{Entry}
use Rattle.plan_closure.specs.Entries.{entry_bound, walked, number_of, next_of}
use Rattle.plan_closure.specs.Closure.{Chain, stop, step, entry_at, Next, AreTight}
use Rattle.plan_constraints.proofs.Numbers.{contains_at}
use Rattle.plan_closure.proofs.Chains.{chain_sum_is, length-nodes}
use Rattle.plan_closure.proofs.Simple.{IsSimple, none, more, length-simple}
use Rattle.plan_constraints.proofs.Options.{some_is}

-- a chain of constraints that meets no node twice
pub record HasChain (cs : List Constraint) (es : List ℕ) (i j : ℕ) (s : ℤ) : Type 0 where
  pub nodes : List ℕ
  pub chain : Chain cs es i j nodes s
  pub simple : IsSimple nodes

-- ---- the loop that walks

pub walk_step : (ws : List (Option Entry)) (steps : List ℕ) (k n at to : ℕ) (all : List ℕ) (o : Option Entry) → k < length steps → k < n → slice_index_or ws (13 * at + to) None ≡ o → take k steps ++ walked ws (n - k) at to ≡ all → take (k + 1) (set steps k (number_of o)) ++ walked ws (n - (k + 1)) (next_of o) to ≡ all
walk_step ws steps k n at to all o l ln e h =
    let less : n - k ≡ suc (n - (k + 1)) = omega arith in
    let one : walked ws (n - k) at to ≡ number_of o ∷ walked ws (n - (k + 1)) (next_of o) to = ap (λ m. walked ws m at to) less ∙ ap (λ z. number_of z ∷ walked ws (n - (k + 1)) (next_of z) to) e in
    ap (λ z. z ++ walked ws (n - (k + 1)) (next_of o) to) (take_more_set steps k (number_of o) l) ∙ append_assoc (take k steps) (number_of o ∷ []) (walked ws (n - (k + 1)) (next_of o) to) ∙ ap (λ z. take k steps ++ z) (sym one) ∙ h

pub length-walked : (ws : List (Option Entry)) (n i j : ℕ) → length (walked ws n i j) ≡ n
length-walked ws zero i j = refl
length-walked ws (suc n) i j = ap suc (length-walked ws n (next_of (slice_index_or ws (13 * i + j) None)) j)

same_or : (i j : ℕ) → (i ≡ j) ⊎ (i ≢ j)
same_or i j = grind arith

module _ (n : ℕ) (cs : List Constraint) (ws : List (Option Entry)) (k : AreTight n cs ws) where
  -- a node on the way: it has one to the end that is no longer than m
  pub record OnTheWay (j m u : ℕ) : Type 0 where
    pub below : u < n
    pub entry : Entry
    pub is : entry_at ws u j ≡ Some entry
    pub short : entry.length ≤ m

  pub record Walk (i j m : ℕ) (s : ℤ) : Type 0 where
    pub nodes : List ℕ
    pub chain : Chain cs (walked ws m i j) i j nodes s
    pub simple : IsSimple nodes
    pub on : (u : ℕ) → Has nodes u → OnTheWay j m u

  walk_none : (i j : ℕ) → i < n → i ≡ j → (w : Entry) → entry_at ws i j ≡ Some w → Walk i j 0 w.bound
  walk_none i j li e w is =
      let own : entry_at ws i i ≡ Some w = ap (entry_at ws i) e ∙ is in
      let nil : pos 0 ≡ w.bound = some_is (sym (k.closed.self i li) ∙ ap entry_bound own) in
      let short : w.length ≡ 0 = k.still i li w own in
      record {
        nodes = i ∷ [];
        chain = chain_sum_is (pos 0) w.bound nil (subst (λ z. Chain cs [] i z (i ∷ []) (pos 0)) e stop);
        simple = more (λ h. elim h [ ]) none;
        on = λ u h. one u h (record { below = li; entry = w; is = is; short = omega (arith, short) });
      }
    where
      one : (u : ℕ) → Has (i ∷ []) u → OnTheWay j 0 i → OnTheWay j 0 u
      one u first x = x
      one u (later h) x = elim h [ ]

  longer : (j m u : ℕ) → OnTheWay j m u → OnTheWay j (suc m) u
  longer j m u x = let l : x.entry.length ≤ m = x.short in record { below = x.below; entry = x.entry; is = x.is; short = omega arith }

  walk_more : (m i j : ℕ) → i < n → (w : Entry) → entry_at ws i j ≡ Some w → w.length ≡ suc m → (x : Next cs ws i j w) → Walk w.next j m x.rest.bound → Walk i j (suc m) w.bound
  walk_more m i j li w is l x r = record {
    nodes = i ∷ r.nodes;
    chain = rw (is, x.number) (chain_sum_is (x.edge.bound +ℤ x.rest.bound) w.bound (sym x.sum) (step x.edge x.at x.left x.right refl r.chain));
    simple = more (λ h. let o : OnTheWay j m i = r.on i h in
        let same : o.entry ≡ w = some_is (sym o.is ∙ is) in
        let sl : o.entry.length ≡ w.length = ap (λ (z : Entry). z.length) same in
        let s : o.entry.length ≤ m = o.short in omega arith) r.simple;
    on = on;
  }
    where
      on : (u : ℕ) → Has (i ∷ r.nodes) u → OnTheWay j (suc m) u
      on u first = record { below = li; entry = w; is = is; short = omega (arith, l) }
      on u (later h) = longer j m u (r.on u h)

  away : (m i j : ℕ) → i < n → i ≢ j → (w : Entry) → entry_at ws i j ≡ Some w → w.length ≡ suc m → (x : Next cs ws i j w) → ((y : Entry) → w.next < n → entry_at ws w.next j ≡ Some y → y.length ≡ m → Walk w.next j m y.bound) → Walk i j (suc m) w.bound
  away m i j li ne w is l x r =
      let lm : w.next < n = subst (λ z. z < n) x.right (k.covers.right x.edge (contains_at cs x.index x.edge x.at)) in
      walk_more m i j li w is l x (r x.rest lm x.rest_is (omega (arith, x.long)))

  pub walk_of : (m i j : ℕ) → i < n → j < n → (w : Entry) → entry_at ws i j ≡ Some w → w.length ≡ m → Walk i j m w.bound
  walk_of zero i j li lj w is l = elim (same_or i j) [
    | inl e ↦ walk_none i j li e w is
    | inr ne ↦ let x : Next cs ws i j w = k.next i j li lj ne w is in absurd (omega (arith, x.long))
  ]
  walk_of (suc m) i j li lj w is l = elim (same_or i j) [
    | inl e ↦ let own : entry_at ws i i ≡ Some w = ap (entry_at ws i) e ∙ is in absurd (omega (arith, k.still i li w own))
    | inr ne ↦ away m i j li ne w is l (k.next i j li lj ne w is) (λ y lm e g. walk_of m w.next j lm lj y e g)
  ]

  pub chain_at : (i j : ℕ) → i < n → j < n → (w : Entry) → entry_at ws i j ≡ Some w → HasChain cs (walked ws w.length i j) i j w.bound
  chain_at i j li lj w is =
      let r : Walk i j w.length w.bound = walk_of w.length i j li lj w is refl in
      record { nodes = r.nodes; chain = r.chain; simple = r.simple }

  -- a chain is shorter than the number of nodes
  pub is_short : (i j : ℕ) → i < n → j < n → (w : Entry) → entry_at ws i j ≡ Some w → w.length < n
  is_short i j li lj w is =
      let r : Walk i j w.length w.bound = walk_of w.length i j li lj w is refl in
      let a : length r.nodes ≤ n = length-simple n r.nodes r.simple (λ z h. (r.on z h).below) in
      let b : length r.nodes ≡ suc (length (walked ws w.length i j)) = length-nodes r.chain in
      omega (arith, length-walked ws w.length i j)
