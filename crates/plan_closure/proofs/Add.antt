-- What `add` keeps.
use Rattle.std.proofs.Common.{◌≡◌, ℕ, zero, suc, ◌<◌, ◌≤◌, ◌+◌, ◌*◌, ℤ, pos, neg_ℤ, ◌+ℤ◌, ◌≤ℤ◌, inl, inr, refl, sym, ◌∙◌, ap, subst, arith, Option, Some, None, Bool, true, false, not, is_some, List, [], ◌∷◌, ◌++◌, length, length-append, Contains, suc-mul}
use Rattle.std.proofs.lemmas.Int.{ints}
use Rattle.std.proofs.lemmas.List.Elements.{Contains-push_cases}
use Rattle.plan_constraints.specs.declared.constraint.Constraint.{Constraint}
use Rattle.plan_closure.specs.declared.entry.Entry.{Entry}
use Rattle.plan_closure.specs.ClosureValue.{ClosureValue}
use Rattle.plan_closure.specs.Entries.{entry_bound, IsModest, walked}
use Rattle.plan_closure.specs.Cycles.{IsImplied, IsClosing, IsClosingOver, closes, agrees}
use Rattle.plan_constraints.specs.Table.{AtMost}
use Rattle.plan_closure.specs.Closure.{Next, Chain, step, entry_at, bound_at, AreTight, IsNegative, IsSettled, IsClosureOf, Modest}
use Rattle.plan_constraints.proofs.Numbers.{slice_get-append}
use Rattle.plan_closure.proofs.Chains.{chain_grows, chain_modest, times}
use Rattle.plan_closure.specs.Tightened.{Agrees}
use Rattle.plan_closure.proofs.Walks.{HasChain, chain_at, is_short, length-walked}
use Rattle.plan_closure.proofs.Keep.{last_is}
use Rattle.plan_constraints.proofs.Options.{some_is}

pub tight_when : (n : ℕ) (cs : List Constraint) (ws : List (Option Entry)) (o : Option (List ℕ)) (b : Bool) → IsSettled n cs ws o → b ≡ is_some o → b ≡ false → AreTight n cs ws
tight_when n cs ws None b k e t = k
tight_when n cs ws (Some y) true k e t = cc
tight_when n cs ws (Some y) false k e t = cc

pub broken_when : (n : ℕ) (cs ds : List Constraint) (ws : List (Option Entry)) (o : Option (List ℕ)) (b : Bool) → IsSettled n cs ws o → b ≡ is_some o → b ≡ true → IsSettled n (cs ++ ds) ws o
broken_when n cs ds ws None true k e t = cc
broken_when n cs ds ws None false k e t = cc
broken_when n cs ds ws (Some y) b k e t = record { node = k.node; nodes = k.nodes; sum = k.sum; chain = chain_grows ds k.chain; negative = k.negative }

times-is : (k n : ℕ) → times k (pos n) ≡ pos (k * n)
times-is zero n = omega (arith, ints)
times-is (suc k) n = let e : times k (pos n) ≡ pos (k * n) = times-is k n in let f : suc k * n ≡ k * n + n = suc-mul k n in omega (arith, ints)

pub modest_at : (n : ℕ) → n ≤ 13 → (cs : List Constraint) (ws : List (Option Entry)) → AreTight n cs ws → Modest cs (pos 1000000000000000) → (i j : ℕ) → i < n → j < n → IsModest (entry_at ws i j)
modest_at n few cs ws t m i j li lj = at (entry_at ws i j) refl
  where
    at : (o : Option Entry) → entry_at ws i j ≡ o → IsModest o
    at None e = tt
    at (Some w) e =
        let h : HasChain cs (walked ws w.length i j) i j w.bound = chain_at n cs ws t i j li lj w e in
        let s : w.length < n = is_short n cs ws t i j li lj w e in
        let l : length (walked ws w.length i j) ≡ w.length = length-walked ws w.length i j in
        let b = chain_modest (pos 1000000000000000) m h.chain in
        let lo : neg_ℤ (times (length (walked ws w.length i j)) (pos 1000000000000000)) ≤ℤ w.bound = b.0 in
        let hi : w.bound ≤ℤ times (length (walked ws w.length i j)) (pos 1000000000000000) = b.1 in
        let f : times (length (walked ws w.length i j)) (pos 1000000000000000) ≡ pos (length (walked ws w.length i j) * 1000000000000000) = times-is (length (walked ws w.length i j)) 1000000000000000 in
        record { low = omega (arith, ints); high = omega (arith, ints); short = omega (arith, s) }

pub agrees_when : (ws : List (Option Entry)) (a b : ℕ) (bound : ℤ) (number : ℕ) (walk : ℕ → List ℕ) (o : Option (List ℕ)) (u : Bool) → IsClosing (entry_at ws b a) bound number walk o → is_some o ≡ not u → u ≡ true → Agrees (bound_at ws) a b bound
agrees_when ws a b bound number walk o u h e t = record { agrees = λ r f. go (entry_at ws b a) r h f }
  where
    over : (w : Entry) → IsClosingOver w bound number walk o → pos 0 ≤ℤ (w.bound +ℤ bound)
    over w (closes p q) = cc
    over w (agrees p q) = q

    go : (x : Option Entry) (r : ℤ) → IsClosing x bound number walk o → entry_bound x ≡ Some r → pos 0 ≤ℤ (r +ℤ bound)
    go None r h f = cc
    go (Some w) r h f = let s : w.bound ≡ r = some_is f in let g : pos 0 ≤ℤ (w.bound +ℤ bound) = over w h in omega (arith, ints)

pub negative_when : (n : ℕ) (cs : List Constraint) (ws vs : List (Option Entry)) (c : Constraint) → AreTight n cs ws → c.left < n → c.right < n → (o : Option (List ℕ)) (u : Bool) (number : ℕ) → number ≡ suc (length cs) → IsClosing (entry_at ws c.right c.left) c.bound number (λ m. walked ws m c.right c.left) o → is_some o ≡ not u → u ≡ false → IsSettled n (cs ++ c ∷ []) vs o
negative_when n cs ws vs c k la lb o u number isn h e t = go (entry_at ws c.right c.left) refl h
  where
    over : (w : Entry) → entry_at ws c.right c.left ≡ Some w → (o : Option (List ℕ)) → is_some o ≡ not u → IsClosingOver w c.bound number (λ m. walked ws m c.right c.left) o → IsSettled n (cs ++ c ∷ []) vs o
    over w is None e f = let x : false ≡ true = e ∙ ap not t in cc
    over w is (Some y) e (agrees p q) = cc
    over w is (Some y) e (closes p q) =
        let same : number ∷ walked ws w.length c.right c.left ≡ y = some_is (sym p) in
        let x : HasChain cs (walked ws w.length c.right c.left) c.right c.left w.bound = chain_at n cs ws k c.right c.left lb la w is in
        let round : Chain (cs ++ c ∷ []) (suc (length cs) ∷ walked ws w.length c.right c.left) c.left c.left (c.left ∷ x.nodes) (c.bound +ℤ w.bound) =
        step c (last_is cs c) refl refl refl (chain_grows (c ∷ []) x.chain) in
        let named : Chain (cs ++ c ∷ []) (number ∷ walked ws w.length c.right c.left) c.left c.left (c.left ∷ x.nodes) (c.bound +ℤ w.bound) =
        rw isn round in
        subst (λ y. IsNegative (cs ++ c ∷ []) y) same
        record { node = c.left; nodes = c.left ∷ x.nodes; sum = c.bound +ℤ w.bound; chain = named; negative = omega (arith, ints) }

    go : (x : Option Entry) → entry_at ws c.right c.left ≡ x → IsClosing x c.bound number (λ m. walked ws m c.right c.left) o → IsSettled n (cs ++ c ∷ []) vs o
    go None is f = let x : false ≡ true = ap is_some (sym f) ∙ e ∙ ap not t in cc
    go (Some w) is f = over w is o e f

-- the same, where the cycle is there
pub negative_by : (n : ℕ) (cs : List Constraint) (ws vs : List (Option Entry)) (c : Constraint) → AreTight n cs ws → c.left < n → c.right < n → (y : List ℕ) (number : ℕ) → number ≡ suc (length cs) → IsClosing (entry_at ws c.right c.left) c.bound number (λ m. walked ws m c.right c.left) (Some y) → IsSettled n (cs ++ c ∷ []) vs (Some y)
negative_by n cs ws vs c k la lb y number isn h = negative_when n cs ws vs c k la lb (Some y) false number isn h refl refl

-- where there is none, the constraint closes no negative cycle
pub agrees_by : (ws : List (Option Entry)) (a b : ℕ) (bound : ℤ) (number : ℕ) (walk : ℕ → List ℕ) → IsClosing (entry_at ws b a) bound number walk None → Agrees (bound_at ws) a b bound
agrees_by ws a b bound number walk h = agrees_when ws a b bound number walk None true h refl refl

pub closure_with : (k r : ClosureValue) (n : ℕ) (cs : List Constraint) (c : Constraint) → IsClosureOf k n cs → r.attrs ≡ k.attrs → r.count ≡ k.count + 1 → c.left < suc n → c.right < suc n → neg_ℤ (pos 1000000000000000) ≤ℤ c.bound → c.bound ≤ℤ pos 1000000000000000 → IsSettled (suc n) (cs ++ c ∷ []) r.entries r.cycle → IsClosureOf r n (cs ++ c ∷ [])
closure_with k r n cs c h ea ec la lb lo hi s = record {
  attrs = ea ∙ h.attrs;
  few = h.few;
  count = (let l : length (cs ++ c ∷ []) ≡ length cs + 1 = length-append cs (c ∷ []) in omega (arith, h.count, ec));
  left = one_of (λ d. d.left < suc n) h.left la;
  right = one_of (λ d. d.right < suc n) h.right lb;
  modest = record {
    low = one_of (λ d. neg_ℤ (pos 1000000000000000) ≤ℤ d.bound) h.modest.low lo;
    high = one_of (λ d. d.bound ≤ℤ pos 1000000000000000) h.modest.high hi;
  };
  settled = s;
}
  where
    one_of : (P : Constraint → Type 0) → ((d : Constraint) → Contains cs d → P d) → P c → (d : Constraint) → Contains (cs ++ c ∷ []) d → P d
    one_of P f p d h = elim (Contains-push_cases cs c d h) [ inl i ↦ f d i | inr i ↦ subst P i p ]

pub settled_same : (n : ℕ) (cs : List Constraint) (vs : List (Option Entry)) (o : Option (List ℕ)) (b : Bool) → b ≡ is_some o → b ≡ false → AreTight n cs vs → IsSettled n cs vs o
settled_same n cs vs None b e t k = k
settled_same n cs vs (Some y) true e t k = cc
settled_same n cs vs (Some y) false e t k = cc

-- a constraint that says nothing new
pub implied_tight : (n : ℕ) (cs : List Constraint) (ws : List (Option Entry)) (c : Constraint) → AreTight n cs ws → c.left < n → c.right < n → IsImplied (entry_at ws c.left c.right) c.bound → AreTight n (cs ++ c ∷ []) ws
implied_tight n cs ws c k la lb h = record {
  closed = k.closed;
  covers = record {
    left = λ d g. one_of (λ d. d.left < n) k.covers.left la d g;
    right = λ d g. one_of (λ d. d.right < n) k.covers.right lb d g;
    tight = λ d g. one_of (λ d. AtMost (bound_at ws) d.left d.right d.bound) k.covers.tight (here (entry_at ws c.left c.right) refl h) d g;
  };
  still = k.still;
  next = λ i j li lj ne w e. let x : Next cs ws i j w = k.next i j li lj ne w e in
      record { index = x.index; number = x.number; edge = x.edge; at = slice_get-append cs (c ∷ []) x.index x.edge x.at; left = x.left; right = x.right; rest = x.rest; rest_is = x.rest_is; sum = x.sum; long = x.long };
}
  where
    one_of : (P : Constraint → Type 0) → ((d : Constraint) → Contains cs d → P d) → P c → (d : Constraint) → Contains (cs ++ c ∷ []) d → P d
    one_of P f p d h = elim (Contains-push_cases cs c d h) [ inl i ↦ f d i | inr i ↦ subst P i p ]

    here : (o : Option Entry) → entry_at ws c.left c.right ≡ o → IsImplied o c.bound → AtMost (bound_at ws) c.left c.right c.bound
    here None e h = absurd h
    here (Some w) e h = record { bound = w.bound; is = ap entry_bound e; small = h }
