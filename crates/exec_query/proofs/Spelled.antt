-- What waits, spelled out in order, is fixed by how often each tuple waits.
use Rattle.std.proofs.Common.{◌≡◌, ℕ, zero, suc, ◌+◌, ◌*◌, ℤ, true, not, List, [], ◌∷◌, ◌++◌, replicate, refl, ap, ◌∙◌, subst, arith, inl, inr}
use Rattle.std.specs.Ordering.{is_eq}
use Rattle.std.specs.declared.cmp.Ordering.{Ordering}
use Rattle.std.specs.declared.cmp.Ordering.TheVariants.{Less, Equal, Greater}
use Rattle.sem_query.proofs.Has.{Has, Has-append_cases}
use Rattle.sem_query.specs.Tuples.{is_same}
use Rattle.sem_laws.proofs.Sums.{sums, bit, sums_append}
use Rattle.sem_laws.proofs.Counts.{times}
use Rattle.sem_laws.proofs.OnePartFits.{has_cases}
use Rattle.sem_laws.proofs.Order.{Rises, rises_nil, rises_more, up_to, up_to-itself, same-counts}
use Rattle.exec_answer_table.specs.Order.{tuple_order}
use Rattle.exec_answer_table.specs.Entries.{Entry, waiting_of, waiting_at, AllAbove, Ascends, has}
use Rattle.exec_answer_table.proofs.Order.{order_equal, order_turn}
use Rattle.exec_answer_table.proofs.Tuples.{same_is, above_has, before_greater}
use Rattle.exec_query.specs.Executor.{spelled}
use Rattle.exec_query.proofs.TableLaws.{times-replicate, none_waits}

-- how often a tuple stands there
pub times-spelled_entries : (z : List ℤ) (es : List Entry) → Ascends es → times z (spelled es) ≡ waiting_of z es
unfolding sums waiting_of
times-spelled_entries z [] a = refl
times-spelled_entries z (e ∷ es) a =
    sums_append (λ t. bit (is_same z t)) (replicate e.waiting e.tuple) (spelled es)
    ∙ (λ k. times-replicate z e.tuple e.waiting k + times-spelled_entries z es a.1 k)
    ∙ at (tuple_order z e.tuple) refl
  where
    at : (o : Ordering) → tuple_order z e.tuple ≡ o → e.waiting * bit (is_same z e.tuple) + waiting_of z es ≡ waiting_at o e (waiting_of z es)
    at Less is =
        let b : bit (is_same z e.tuple) ≡ 0 = ap bit (same_is z e.tuple ∙ ap is_eq is) in
        let m : e.waiting * bit (is_same z e.tuple) ≡ e.waiting * 0 = ap (λ n. e.waiting * n) b in omega (arith, m)
    at Equal is =
        let b : bit (is_same z e.tuple) ≡ 1 = ap bit (same_is z e.tuple ∙ ap is_eq is) in
        let m : e.waiting * bit (is_same z e.tuple) ≡ e.waiting * 1 = ap (λ n. e.waiting * n) b in
        let none : waiting_of z es ≡ 0 = none_waits z es (ap (λ t. has t es) (order_equal z e.tuple is) ∙ above_has e.tuple es a.0) in
        omega (arith, m, none)
    at Greater is =
        let b : bit (is_same z e.tuple) ≡ 0 = ap bit (same_is z e.tuple ∙ ap is_eq is) in
        let m : e.waiting * bit (is_same z e.tuple) ≡ e.waiting * 0 = ap (λ n. e.waiting * n) b in omega (arith, m)

replicate-has : (n : ℕ) (t u : List ℤ) → Has (replicate n t) u → t ≡ u
replicate-has zero t u h = elim h [ ]
replicate-has (suc n) t u h = elim (has_cases t u (replicate n t) h) [ inl e ↦ e | inr k ↦ replicate-has n t u k ]

-- what stands before each tuple of the entries is not after what they spell
above-spelled : (t : List ℤ) (es : List Entry) → AllAbove t es → (u : List ℤ) → Has (spelled es) u → up_to t u ≡ true
above-spelled t [] a u h = elim h [ ]
above-spelled t (e ∷ es) a u h = elim (Has-append_cases (replicate e.waiting e.tuple) (spelled es) u h) [
  | inl k ↦ subst (λ w. up_to t w ≡ true) (replicate-has e.waiting e.tuple u k) (ap not (before_greater e.tuple t (order_turn t e.tuple a.0)))
  | inr k ↦ above-spelled t es a.1 u k
]

rises-replicate : (n : ℕ) (t : List ℤ) (us : List (List ℤ)) → Rises us → ((u : List ℤ) → Has us u → up_to t u ≡ true) → Rises (replicate n t ++ us)
rises-replicate zero t us r f = r
rises-replicate (suc n) t us r f =
    rises_more (λ u h. elim (Has-append_cases (replicate n t) us u h) [
      | inl k ↦ subst (λ w. up_to t w ≡ true) (replicate-has n t u k) (up_to-itself t)
      | inr k ↦ f u k
    ]) (rises-replicate n t us r f)

-- it ascends
pub spelled-rises : (es : List Entry) → Ascends es → Rises (spelled es)
spelled-rises [] a = rises_nil
spelled-rises (e ∷ es) a = rises-replicate e.waiting e.tuple (spelled es) (spelled-rises es a.1) (above-spelled e.tuple es a.0)

-- entries in order spell the ascending list in which each tuple stands as often as it waits
pub spelled_is : (es : List Entry) (ts : List (List ℤ)) → Ascends es → Rises ts → ((z : List ℤ) → waiting_of z es ≡ times z ts) → spelled es ≡ ts
spelled_is es ts a r h = same-counts (spelled es) ts (spelled-rises es a) r (λ z. times-spelled_entries z es a ∙ h z)
