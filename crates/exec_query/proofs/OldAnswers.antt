-- Tuples that have an entry keep it, and where all that was found has one nothing that is answered is new.
use Rattle.std.proofs.Common.{◌≡◌, ℕ, ◌+◌, cond, Bool, true, false, ℤ, List, [], ◌∷◌, sym, ap, ◌∙◌, subst, refl, inl, inr, Contains}
use Rattle.std.specs.Ordering.{is_eq}
use Rattle.sem_query.specs.Tuples.{is_same}
use Rattle.sem_query.specs.Combinations.{Found}
use Rattle.sem_query.proofs.Has.{Has, first, later, Has-from_contains, Contains-from_has}
use Rattle.sem_laws.proofs.Order.{same-is}
use Rattle.sem_laws.proofs.Tests.{true_or_false, any_if, any_from}
use Rattle.exec_answer_table.specs.Entries.{Entry, TableValue, with_entries, changed, added, has, settled, tuples_of}
use Rattle.exec_answer_table.proofs.Order.{order_equal, order_self}
use Rattle.exec_answer_table.proofs.Tuples.{same_is, has_tuple}
use Rattle.exec_query.specs.Executor.{cleared}
use Rattle.exec_query.proofs.Answered.{settled-has}
use Rattle.exec_query.specs.FoundTable.{with_found, with_all, AreOld}
use Rattle.exec_query.proofs.TableLaws.{has_changed_same, has_changed_other, order_of_same, order_of_other}

-- a tuple has an entry where it is among the tuples
pub has-from-tuples : (t : List ℤ) (es : List Entry) → Contains (tuples_of es) t → has t es ≡ true
has-from-tuples t es c =
    sym (has_tuple t es) ∙ any_if (is_same t) (tuples_of es) t (Has-from_contains (tuples_of es) t c) (same_is t t ∙ ap is_eq (order_self t))

pub tuples-from-has : (t : List ℤ) (es : List Entry) → has t es ≡ true → Contains (tuples_of es) t
tuples-from-has t es h =
    let m = any_from (is_same t) (tuples_of es) (has_tuple t es ∙ h) in
    Contains-from_has (tuples_of es) t (subst (λ z. Has (tuples_of es) z) (sym (same-is t m.0 m.2)) m.1)

-- also before a row is taken, when what waited was given up
pub has-cleared : (t : List ℤ) (d : Bool) (es fs : List Entry) → d ≡ true → fs ≡ cleared d es → Contains (tuples_of es) t → has t fs ≡ true
has-cleared t d es fs once is c =
    ap (has t) is ∙ ap (λ b. has t (cond b (settled es) [])) once ∙ settled-has t es ∙ has-from-tuples t es c

-- an entry stays when others come
pub has-changed : (t u : List ℤ) (f : ℕ → ℕ) (es : List Entry) → has t es ≡ true → has t (changed f u es) ≡ true
has-changed t u f es h = elim (true_or_false (is_same t u)) [
  | inl e ↦ (let i : t ≡ u = order_equal t u (order_of_same t u e) in ap (λ s. has s (changed f u es)) i ∙ has_changed_same u f es)
  | inr e ↦ has_changed_other t u f es (order_of_other t u e) ∙ h
]

has-found : (t : List ℤ) (f : Found) (es : List Entry) → has t es ≡ true → has t (with_found true f es) ≡ true
has-found t f es h = by (has f.tuple es)
  where
    by : (b : Bool) → has t (cond b es (changed (λ waiting. waiting + 1) f.tuple es)) ≡ true
    by true = h
    by false = has-changed t f.tuple (λ waiting. waiting + 1) es h

has-all : (t : List ℤ) (fs : List Found) (es : List Entry) → has t es ≡ true → has t (with_all true fs es) ≡ true
unfolding with_all
has-all t [] es h = h
has-all t (f ∷ fs) es h = has-all t fs (with_found true f es) (has-found t f es h)

-- so with DISTINCT each entry stays when a row is answered
pub has-later : (t : List ℤ) (d : Bool) (fs : List Found) (table more : TableValue) → d ≡ true → more ≡ with_entries table (with_all d fs table.entries)
    → has t table.entries ≡ true → has t more.entries ≡ true
has-later t d fs table more once is h =
    ap (λ (x : TableValue). has t x.entries) is ∙ ap (λ b. has t (with_all b fs table.entries)) once ∙ has-all t fs table.entries h

-- where all that was found has an entry, nothing changes
all-old : (fs : List Found) (es : List Entry) → ((f : Found) → Has fs f → has f.tuple es ≡ true) → with_all true fs es ≡ es
unfolding with_all
all-old [] es h = refl
all-old (f ∷ fs) es h =
    let step : with_found true f es ≡ es = ap (λ b. cond b es (added f.tuple 1 es)) (h f first) in
    ap (with_all true fs) step ∙ all-old fs es (λ g k. h g (later k))

pub old-adds-none : (d : Bool) (fs : List Found) (table : TableValue) → AreOld d fs table.entries → table ≡ with_entries table (with_all d fs table.entries)
old-adds-none d fs table h =
    ap (with_entries table) (sym (all-old fs table.entries (λ f k. h.old f (Contains-from_has fs f k))))
    ∙ ap (λ b. with_entries table (with_all b fs table.entries)) (sym h.once)
