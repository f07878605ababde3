-- With DISTINCT, where no near part breaks a condition, few states are enough: the reduced history stands for the history.
use Rattle.std.proofs.Common.{◌≡◌, ◌≢◌, inl, inr, ℕ, ◌<◌, ◌≤◌, ◌^◌, ℤ, ◌≤ℤ◌, ◌-ℤ◌, nat_eq, true, false, not, ◌&&◌, ◌||◌, ◌==◌, cond, Bool, List, length, filter, refl, sym, ap, ap₂, ◌∙◌, subst, arith}
use Rattle.std.proofs.lemmas.Int.{ints}
use Rattle.sem_query.specs.declared.atom.Attr.{Attr}
use Rattle.sem_query.specs.declared.atom.Atom.{Atom}
use Rattle.sem_query.specs.declared.atom.Element.{Element}
use Rattle.sem_query.specs.declared.atom.Element.TheVariants as element
use Rattle.sem_query.specs.declared.atom.Op.{Op}
use Rattle.sem_query.specs.Query.{QueryValue, IsWithinLimits}
use Rattle.sem_query.specs.Assignment.{Assignment, value, compares, lies_in, AtomHolds, Holds, KeepsDomains}
use Rattle.sem_query.specs.Domains.{RowKeeps}
use Rattle.sem_query.specs.Meaning.{Arrival, rows, by_column}
use Rattle.sem_query.proofs.Domains.{keeps_each, each_keeps}
use Rattle.sem_query.proofs.Has.{Has, Has-map, Has-map_from, Has-filter, Has-filter_from, Has-filter_holds, same_map}
use Rattle.sem_query.proofs.Holding.{Compares, Holds-each, Holds-from_each}
use Rattle.sem_laws.proofs.Tests.{nat_true, not_both, and-left, and-right, or-cases}
use Rattle.sem_whole.proofs.Suffice.{atom_says}
use Rattle.plan_split_pairs.specs.Pairs.{is_unlike}
use Rattle.sem_lower_bounds.specs.Served.{HasFewForOn, HasFewStatesOn}
use Rattle.sem_lower_bounds.specs.States.{Evaluator}
use Rattle.sem_lower_bounds.specs.Within.{IsRightOn, NeedsStatesOn}
use Rattle.sem_lower_bounds.proofs.Possible.{possible, followed}
use Rattle.sem_split_bounds.specs.Near.{NearBreak, NearPartsNeedStates}
use Rattle.sem_split_bounds.specs.NearExact.{UnbrokenNearPartsHaveFewStates, NearConditionsAreExact}
use Rattle.sem_split_bounds.proofs.RowKeys.{farthest, clipped, Alike}
use Rattle.sem_split_bounds.proofs.Reduced.{Ranking, lower, higher, ranked, is_at, unlikes_at, own_value, other_value, stream_of, reduced, most_kept, reduced_size, IsTrimmed, reduced_from, trimmed_at, trimmed_width, reduced_keeps, reduced_within, reduced_covers}
use Rattle.sem_split_bounds.proofs.Replacing.{replaced, Serves, Covers, covered-alike}
use Rattle.sem_split_bounds.proofs.ShortHistories.{short-histories-are-few}
use Rattle.sem_split_bounds.proofs.FarSteps.{row_at}
use Rattle.sem_split_bounds.proofs.NearRows.{near_row_serves}
use Rattle.sem_split_bounds.proofs.SmallSides.{IsSmallSide, atom_small, domain_small, selected_column}

-- ---- the reduced history covers the history

unlike_only : (o : Op) → is_unlike o ≡ true → o ≡ Op.Ne
unlike_only Op.Lt e = absurd cc
unlike_only Op.Eq e = absurd cc
unlike_only Op.Gt e = absurd cc
unlike_only Op.Le e = absurd cc
unlike_only Op.Ge e = absurd cc
unlike_only Op.Ne e = refl

module _ (q : QueryValue) (place : ℕ) (row : List ℤ) (v : Assignment) (holds_v : Holds q v) (same : (a : Attr) → a.stream ≡ place → v a ≡ by_column row a.column) where
  row_is : (c : ℕ) → row_at place v c ≡ by_column row c
  row_is c = same record { stream = place; column = c } refl

  alike_there : (w : ℕ → ℤ) → Alike (by_column row) w → Alike (row_at place v) w
  alike_there w a = record {
    near = λ c l. ap (clipped farthest) (row_is c) ∙ a.near c l;
    order = λ c d i j. subst (λ z. clipped 0 z ≡ clipped 0 (w c -ℤ w d)) (sym (ap₂ (λ x y. x -ℤ y) (row_is c) (row_is d))) (a.order c d i j);
  }

  rank_there : (k : Ranking) (w : ℕ → ℤ) → ranked k w ≤ℤ ranked k (by_column row) → ranked k w ≤ℤ ranked k (row_at place v)
  rank_there (lower c) w l = let e = row_is c in omega (arith, ints, e, l)
  rank_there (higher c) w l = let e = row_is c in omega (arith, ints, e, l)

  side_value : (e : Element) → is_at place e ≡ true → value e (λ a. by_column row a.column) ≡ value e v
  side_value (element.Attr a) i = sym (same a (nat_true a.stream place i))
  side_value (element.Const k) i = refl

  -- no `<>` excludes the row itself
  not_excluded : (t : Atom) → Has (unlikes_at q place) t → own_value place t (by_column row) ≢ other_value place t v
  not_excluded t h = by (is_at place t.left) refl
    where
      test : (is_unlike t.op && (is_at place t.left || is_at place t.right)) ≡ true
      test = Has-filter_holds (λ t. is_unlike t.op && (is_at place t.left || is_at place t.right)) q.atoms t h

      differ : value t.left v ≢ value t.right v
      differ = subst (λ o. Compares o (value t.left v) (value t.right v)) (unlike_only t.op (and-left (is_unlike t.op) (is_at place t.left || is_at place t.right) test))
          (atom_says v t (Holds-each q v holds_v t (Has-filter_from (λ t. is_unlike t.op && (is_at place t.left || is_at place t.right)) q.atoms t h)))

      right_at : is_at place t.left ≡ false → is_at place t.right ≡ true
      right_at e = elim (or-cases (is_at place t.left) (is_at place t.right) (and-right (is_unlike t.op) (is_at place t.left || is_at place t.right) test)) [
        | inl i ↦ absurd (not_both (is_at place t.left) i e)
        | inr i ↦ i
      ]

      by : (b : Bool) → is_at place t.left ≡ b → own_value place t (by_column row) ≢ other_value place t v
      by true e k = differ (sym (side_value t.left e) ∙ sym (ap (λ b. value (cond b t.left t.right) (λ a. by_column row a.column)) e) ∙ k ∙ ap (λ b. value (cond b t.right t.left) v) e)
      by false e k =
          differ (sym (sym (side_value t.right (right_at e)) ∙ sym (ap (λ b. value (cond b t.left t.right) (λ a. by_column row a.column)) e) ∙ k ∙ ap (λ b. value (cond b t.right t.left) v) e))

pub reduced_history_covers : (q : QueryValue) → IsWithinLimits q → (NearBreak q → ⊥) → (h : List Arrival) → Covers q h (reduced q h)
reduced_history_covers q within unbroken h place l row i v holds_v domains_v same = followed (near_row_serves q within unbroken v holds_v domains_v place) (λ k.
    let c = reduced_covers q within h place l row i k.0 k.1 v (not_excluded q place row v holds_v same) in
    possible (c.0, c.1, k.2 (by_column c.0) (alike_there q place row v holds_v same (by_column c.0) c.2) (rank_there q place row v holds_v same k.0 (by_column c.0) c.3) c.4))

-- ---- each row of the reduced history is one of the history, trimmed

-- an assignment that has the same values in all columns of the query satisfies it, too
module _ (q : QueryValue) (within : IsWithinLimits q) (place : ℕ) (w : ℕ → ℤ) (v : Assignment) (same : (a : Attr) → a.column < 8 → replaced place w v a ≡ v a) where
  value_same : (e : Element) → IsSmallSide e → value e v ≡ value e (replaced place w v)
  value_same (element.Attr a) l = sym (same a l)
  value_same (element.Const k) l = refl

  atom_same : (t : Atom) → Has q.atoms t → AtomHolds v t → AtomHolds (replaced place w v) t
  atom_same t h i =
      let s = atom_small q within t h in
      subst (λ y. compares t.op (value t.left (replaced place w v)) y ≡ true) (value_same t.right s.1)
      (subst (λ x. compares t.op x (value t.right v) ≡ true) (value_same t.left s.0) i)

  pub same_serves : Holds q v → KeepsDomains q v → Serves q place v w
  same_serves holds_v domains_v = record {
    holds = Holds-from_each q (replaced place w v) (λ t h. atom_same t h (Holds-each q v holds_v t h));
    domains = each_keeps q (replaced place w v) (λ d h. subst (λ x. lies_in d x ≡ true) (sym (same d.attr (domain_small q within d h).1)) (keeps_each q v domains_v d h));
    tuple = same_map (replaced place w v) v q.select (λ a h. same a (selected_column q within a h));
  }

pub history_covers : (q : QueryValue) → IsWithinLimits q → (h : List Arrival) → Covers q (reduced q h) h
history_covers q within h place l row i v holds_v domains_v same = possible (o.of.values, there, same_serves q within place (by_column o.of.values) v (λ a s. by a s (nat_eq a.stream place) refl) holds_v domains_v)
  where
    m : (r : Arrival) × Has (filter (λ r. r.stream == stream_of q place) (reduced q h)) r × (r.values ≡ row)
    m = Has-map_from (λ (r : Arrival). r.values) (filter (λ r. r.stream == stream_of q place) (reduced q h)) row i

    o : IsTrimmed q h m.0
    o = reduced_from q h m.0 (Has-filter_from (λ r. r.stream == stream_of q place) (reduced q h) m.0 m.1)

    there : Has (rows h (stream_of q place)) o.of.values
    there = Has-map (λ (r : Arrival). r.values) (Has-filter (λ r. r.stream == stream_of q place)
        (subst (λ s. (s == stream_of q place) ≡ true) o.stream (Has-filter_holds (λ r. r.stream == stream_of q place) (reduced q h) m.0 m.1)) o.among)

    by : (a : Attr) → a.column < 8 → (b : Bool) → nat_eq a.stream place ≡ b → replaced place (by_column o.of.values) v a ≡ v a
    by a s true e =
        ap (λ b. cond b (by_column o.of.values a.column) (v a)) e ∙ sym (trimmed_at o.of.values a.column s)
        ∙ ap (λ row. by_column row a.column) (sym o.values ∙ m.2) ∙ sym (same a (nat_true a.stream place e))
    by a s false e = ap (λ b. cond b (by_column o.of.values a.column) (v a)) e

-- ---- the laws

pub unbroken-near-parts-have-few-states : UnbrokenNearPartsHaveFewStates
unbroken-near-parts-have-few-states q within d unbroken = short-histories-are-few q (most_kept q) (reduced q) record {
  size = reduced_size q;
  stream = λ h r i. (reduced_from q h r i).from;
  width = λ h r i. (let o = reduced_from q h r i in ap length o.values ∙ trimmed_width o.of.values);
  keep = reduced_keeps q within;
  near = reduced_within q;
  alike = λ h keep ahead r keep_l keep_r.
      covered-alike q within d (reduced q h) h (reduced_keeps q within h keep) keep (history_covers q within h) (reduced_history_covers q within unbroken h) ahead r keep_l keep_r;
}

-- an evaluator of few states refutes that many are needed
pub few_refute : (kind : Arrival → Type 0) (q : QueryValue) (e : Evaluator) → IsRightOn kind q e → HasFewStatesOn kind e → ¬ NeedsStatesOn kind q
few_refute kind q e right few needs = needs (λ b all. (
    let o : HasFewForOn kind e b = few b in
    let m : 2 ^ o.n ≤ o.most = all e right o.n o.most o.states in
    omega (arith, m, o.few)))

pub near-conditions-are-exact : NearPartsNeedStates → NearConditionsAreExact
near-conditions-are-exact many q within d = (
  λ needs none. (let o = unbroken-near-parts-have-few-states q within d none in few_refute (RowKeeps q) q o.0 o.1 o.2 needs),
  λ some needs. some (λ b. many q within (ap (λ b. not b && nat_eq (length q.from) 1) d) b needs),
)
