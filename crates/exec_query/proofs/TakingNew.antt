-- With DISTINCT: each tuple without an entry that is found comes to wait once, and the tuples grow by them.
use Rattle.std.proofs.Common.{◌≡◌, ℕ, suc, ◌+◌, ◌*◌, min, ℤ, Bool, true, false, not, ◌||◌, cond, List, [], ◌∷◌, ◌++◌, refl, sym, ap, ◌∙◌, subst, arith, All}
use Rattle.std.specs.List.{list_any}
use Rattle.std.specs.Ordering.{is_eq}
use Rattle.std.specs.declared.cmp.Ordering.{Ordering}
use Rattle.std.specs.declared.cmp.Ordering.TheVariants.{Less, Equal, Greater}
use Rattle.sem_query.specs.Tuples.{is_same, sorted, distinct_tuples, new_tuples}
use Rattle.sem_query.specs.Merge.{merged_table}
use Rattle.sem_query.specs.Combinations.{Found}
use Rattle.sem_query.specs.Future.{spelled_out}
use Rattle.sem_laws.proofs.Sums.{sums, bit, sums_append}
use Rattle.sem_laws.proofs.Counts.{times}
use Rattle.sem_laws.proofs.Order.{Rises, ascending-rises, times-ascending, times-once, times-fresh, same-counts}
use Rattle.exec_answer_table.specs.Order.{tuple_order}
use Rattle.exec_answer_table.specs.Entries.{Entry, changed, has_at, has, waiting_of, Ascends, tuples_of}
use Rattle.exec_answer_table.proofs.Order.{order_equal}
use Rattle.exec_answer_table.proofs.CallerLemmas.{waiting_changed_other, waiting_changed_same}
use Rattle.exec_answer_table.proofs.Tuples.{same_is, has_tuple, above_has, tuples_ascend}
use Rattle.exec_query.specs.FoundTable.{with_found, with_all}
use Rattle.exec_query.proofs.TableLaws.{ascends_found, ascends_all, order_of_same, order_of_other, has_changed_other, has_changed_same, times-spelled}

abbrev one_more : ℕ → ℕ
one_more waiting = waiting + 1

-- whether a tuple has an entry after one find
has_found : (z : List ℤ) (f : Found) (es : List Entry) → has z (with_found true f es) ≡ (has z es || is_same z f.tuple)
has_found z f es = at (is_same z f.tuple) (has f.tuple es) refl refl
  where
    or_false : (b : Bool) → b ≡ (b || false)
    or_false true = refl
    or_false false = refl

    or_true : (b : Bool) → true ≡ (b || true)
    or_true true = refl
    or_true false = refl

    at : (s b : Bool) → is_same z f.tuple ≡ s → has f.tuple es ≡ b
        → has z (cond b es (changed one_more f.tuple es)) ≡ (has z es || s)
    at true true e k =
        let i : z ≡ f.tuple = order_equal z f.tuple (order_of_same z f.tuple e) in
        let own : has z es ≡ true = ap (λ t. has t es) i ∙ k in
        own ∙ or_true (has z es)
    at true false e k =
        let i : z ≡ f.tuple = order_equal z f.tuple (order_of_same z f.tuple e) in
        ap (λ t. has t (changed one_more f.tuple es)) i ∙ has_changed_same f.tuple one_more es ∙ or_true (has z es)
    at false true e k = or_false (has z es)
    at false false e k = has_changed_other z f.tuple one_more es (order_of_other z f.tuple e) ∙ or_false (has z es)

-- how often it waits then
waits_found : (z : List ℤ) (f : Found) (es : List Entry) → Ascends es
    → waiting_of z (with_found true f es) ≡ waiting_of z es + bit (not (has z es)) * bit (is_same z f.tuple)
waits_found z f es a = at (is_same z f.tuple) (has f.tuple es) refl refl
  where
    at : (s b : Bool) → is_same z f.tuple ≡ s → has f.tuple es ≡ b
        → waiting_of z (cond b es (changed one_more f.tuple es)) ≡ waiting_of z es + bit (not (has z es)) * bit s
    at true true e k =
        let i : z ≡ f.tuple = order_equal z f.tuple (order_of_same z f.tuple e) in
        let own : has z es ≡ true = ap (λ t. has t es) i ∙ k in
        let g : bit (not (has z es)) ≡ 0 = ap (λ b. bit (not b)) own in
        omega (arith, g)
    at true false e k =
        let i : z ≡ f.tuple = order_equal z f.tuple (order_of_same z f.tuple e) in
        let own : has z es ≡ false = ap (λ t. has t es) i ∙ k in
        let g : bit (not (has z es)) ≡ 1 = ap (λ b. bit (not b)) own in
        ap (λ t. waiting_of t (changed one_more f.tuple es)) i ∙ waiting_changed_same f.tuple one_more es a
        ∙ ap (λ t. waiting_of t es + 1) (sym i) ∙ omega (arith, g)
    at false true e k = omega arith
    at false false e k = waiting_changed_other z f.tuple one_more es (order_of_other z f.tuple e) ∙ omega arith

-- after all
has_all : (z : List ℤ) (fs : List Found) (es : List Entry) → All (λ f. f.count ≡ 1) fs
    → bit (has z (with_all true fs es)) ≡ min 1 (bit (has z es) + times z (spelled_out fs))
unfolding with_all sums
has_all z [] es ones = at (has z es)
  where
    at : (b : Bool) → bit b ≡ min 1 (bit b + 0)
    at true = omega arith
    at false = omega arith
has_all z (f ∷ fs) es ones =
    let one : f.count ≡ 1 = ones 0 f (omega arith) in
    let s = times-spelled z f fs in
    let c : f.count * bit (is_same z f.tuple) ≡ 1 * bit (is_same z f.tuple) = ap (λ n. n * bit (is_same z f.tuple)) one in
    has_all z fs (with_found true f es) (λ k d l. ones (suc k) d (omega (arith, l)))
    ∙ ap (λ b. min 1 (bit b + times z (spelled_out fs))) (has_found z f es)
    ∙ at (has z es) (is_same z f.tuple) (times z (spelled_out fs))
    ∙ ap (λ n. min 1 (bit (has z es) + n)) (let e : bit (is_same z f.tuple) + times z (spelled_out fs) ≡ times z (spelled_out (f ∷ fs)) = omega (arith, s, c) in e)
  where
    at : (a b : Bool) (n : ℕ) → min 1 (bit (a || b) + n) ≡ min 1 (bit a + (bit b + n))
    at true b n = omega arith
    at false b n = omega arith

pub waits_new : (z : List ℤ) (fs : List Found) (es : List Entry) → Ascends es → All (λ f. f.count ≡ 1) fs
    → waiting_of z (with_all true fs es) ≡ waiting_of z es + bit (not (has z es)) * min 1 (times z (spelled_out fs))
unfolding with_all sums
waits_new z [] es a ones = omega arith
waits_new z (f ∷ fs) es a ones =
    let one : f.count ≡ 1 = ones 0 f (omega arith) in
    let s = times-spelled z f fs in
    let c : f.count * bit (is_same z f.tuple) ≡ 1 * bit (is_same z f.tuple) = ap (λ n. n * bit (is_same z f.tuple)) one in
    let e : times z (spelled_out (f ∷ fs)) ≡ bit (is_same z f.tuple) + times z (spelled_out fs) = omega (arith, s, c) in
    waits_new z fs (with_found true f es) (ascends_found true f es a) (λ k d l. ones (suc k) d (omega (arith, l)))
    ∙ (λ k. waits_found z f es a k + bit (not (has_found z f es k)) * min 1 (times z (spelled_out fs)))
    ∙ at (has z es) (is_same z f.tuple) (waiting_of z es) (times z (spelled_out fs))
    ∙ ap (λ n. waiting_of z es + bit (not (has z es)) * min 1 n) (sym e)
  where
    at : (a b : Bool) (w n : ℕ) → w + bit (not a) * bit b + bit (not (a || b)) * min 1 n ≡ w + bit (not a) * min 1 (bit b + n)
    at true b w n = omega arith
    at false true w n = omega arith
    at false false w n = omega arith

-- a tuple stands once among the tuples where it has an entry
pub times-tuples : (z : List ℤ) (es : List Entry) → Ascends es → times z (tuples_of es) ≡ bit (has z es)
unfolding sums has
times-tuples z [] a = refl
times-tuples z (e ∷ es) a = at (tuple_order z e.tuple) refl (times-tuples z es a.1)
  where
    at : (o : Ordering) → tuple_order z e.tuple ≡ o → times z (tuples_of es) ≡ bit (has z es)
        → bit (is_same z e.tuple) + times z (tuples_of es) ≡ bit (has_at o (has z es))
    at Less is h = let s : is_same z e.tuple ≡ false = same_is z e.tuple ∙ ap is_eq is in let b : bit (is_same z e.tuple) ≡ 0 = ap bit s in omega (arith, b, h)
    at Equal is h =
        let s : is_same z e.tuple ≡ true = same_is z e.tuple ∙ ap is_eq is in
        let b : bit (is_same z e.tuple) ≡ 1 = ap bit s in
        let none : has z es ≡ false = ap (λ t. has t es) (order_equal z e.tuple is) ∙ above_has e.tuple es a.0 in
        let n : bit (has z es) ≡ 0 = ap bit none in
        omega (arith, b, h, n)
    at Greater is h = let s : is_same z e.tuple ≡ false = same_is z e.tuple ∙ ap is_eq is in let b : bit (is_same z e.tuple) ≡ 0 = ap bit s in omega (arith, b, h)

pub tuples-rise : (es : List Entry) → Ascends es → Rises (tuples_of es)
tuples-rise es a = subst Rises (tuples_ascend es a) (ascending-rises (tuples_of es))

any-has : (z : List ℤ) (es : List Entry) → bit (not (list_any (is_same z) (tuples_of es))) ≡ bit (not (has z es))
any-has z es = ap (λ b. bit (not b)) (has_tuple z es)

-- the tuples grow by what is found and has no entry
pub tuples_new_all : (fs : List Found) (es : List Entry) → Ascends es → All (λ f. f.count ≡ 1) fs
    → tuples_of (with_all true fs es) ≡ merged_table (tuples_of es) (sorted (new_tuples (tuples_of es) (spelled_out fs)))
tuples_new_all fs es a ones =
    same-counts (tuples_of (with_all true fs es)) (merged_table (tuples_of es) (sorted (new_tuples (tuples_of es) (spelled_out fs))))
    (tuples-rise (with_all true fs es) (ascends_all true fs es a))
    (ascending-rises (distinct_tuples (tuples_of es ++ sorted (new_tuples (tuples_of es) (spelled_out fs)))))
    (λ z.
    times-tuples z (with_all true fs es) (ascends_all true fs es a)
    ∙ has_all z fs es ones
    ∙ at (has z es) (times z (spelled_out fs))
    ∙ sym (
    times-ascending z (distinct_tuples (tuples_of es ++ sorted (new_tuples (tuples_of es) (spelled_out fs))))
    ∙ times-once z (tuples_of es ++ sorted (new_tuples (tuples_of es) (spelled_out fs)))
    ∙ ap (min 1) (sums_append (λ t. bit (is_same z t)) (tuples_of es) (sorted (new_tuples (tuples_of es) (spelled_out fs)))
    ∙ (λ k. times-tuples z es a k + (times-ascending z (new_tuples (tuples_of es) (spelled_out fs)) ∙ times-fresh z (tuples_of es) (spelled_out fs) ∙ ap (λ n. n * min 1 (times z (spelled_out fs))) (any-has z es)) k))))
  where
    at : (b : Bool) (n : ℕ) → min 1 (bit b + n) ≡ min 1 (bit b + bit (not b) * min 1 n)
    at true n = omega arith
    at false n = omega arith
