-- An evaluator that is right on rows within the domains is right on the written query where it skips all other rows.
use Rattle.std.proofs.Common.{◌≡◌, ◌≢◌, ◌↔◌, ℕ, zero, suc, ◌<◌, ◌≤◌, ◌*◌, ◌⊎◌, inl, inr, List, [], ◌∷◌, length, cond, Bool, true, false, refl, sym, ap, ◌∙◌, subst, arith, Contains, Option, None, slice_index_or}
use Rattle.std.proofs.lemmas.List.Elements.{All-contains, Contains-get_or}
use Rattle.std.specs.List.{flat_map}
use Rattle.std.specs.Prelude.{All, IsFalse}
use Rattle.sem_query.proofs.Elements.{sides_in}
use Rattle.sem_query.proofs.Has.{Has, first, later, Has-filter_from, Has-append_right, Has-append_cases, Has-flat_map, Has-flat_map_from, Has-from_contains, Contains-from_has}
use Rattle.sem_query.specs.declared.atom.Atom.{Atom}
use Rattle.sem_query.specs.declared.atom.Attr.{Attr}
use Rattle.sem_query.specs.declared.atom.Domain.{Domain}
use Rattle.sem_query.specs.Domains.{RowKeeps, RowsKeep}
use Rattle.sem_query.specs.Meaning.{Arrival, new_answers}
use Rattle.sem_query.specs.Query.{QueryValue, IsColumn, IsDomain, IsWithinLimits, attrs_of, is_soft}
use Rattle.sem_query.specs.Violation.{Failure, IsViolation}
use Rattle.sem_laws.proofs.Keeping.{row-keeps}
use Rattle.sem_laws.proofs.Tests.{filter-passes, true_or_false}
use Rattle.sem_lower_bounds.specs.Soft.{RefusalTells, no_soft, no_distinct, by_selected}
use Rattle.sem_lower_bounds.specs.States.{Evaluator, after, AreWithin, NeedsStates}
use Rattle.sem_lower_bounds.specs.Within.{as_comparisons, written, IsRightOn, HasStatesOn, NeedsStatesOn, NeedsStatesWithin, WrittenIsAlike, WrittenDecides, DomainsNeedStates, CatalogDomainsNeedStates, DomainConditionsAreExact}
use Rattle.sem_lower_bounds.specs.Catalog.{IsOver, IsRow, AreRows}
use Rattle.sem_lower_bounds.proofs.Exact.{conditions-are-exact, counted-conditions-are-exact}
use Rattle.sem_lower_bounds.proofs.Fitted.{over-needs}
use Rattle.sem_lower_bounds.proofs.Formed.{IsFormed, formed}
use Rattle.sem_lower_bounds.proofs.Refused.{telling-need}
use Rattle.sem_lower_bounds.proofs.Sides.{attrs-kept, written-attrs}
use Rattle.sem_lower_bounds.proofs.Written.{keeps, keeps-row, row-keeps as keeps-it, kept, filter-all, new-kept, new-outside}

-- what is needed on some rows is needed on more
pub on-more : (few many : Arrival → Type 0) → ((r : Arrival) → few r → many r) → (q : QueryValue) → NeedsStatesOn few q → NeedsStatesOn many q
on-more few many into q n none = n (λ b all. none b (λ e right m most has. all e
    (λ h r k i. right h r (λ j d l. into (slice_index_or h j d) (k j d l)) (into r i)) m most record {
      states = has.states;
      size = has.size;
      all = λ h k l w. has.all h (λ j d o. into (slice_index_or h j d) (k j d o)) l w;
    }))

-- rows of any kind
abbrev pub AnyRow : Arrival → Type 0
AnyRow r = Unit {0}

on-all : (q : QueryValue) → NeedsStates q → NeedsStatesOn AnyRow q
on-all q n none = n (λ b all. none b (λ e right m most has. all e (λ h r. right h r (λ j d l. tt) tt) m most
    record { states = has.states; size = has.size; all = λ h l w. has.all h (λ j d o. tt) l w }))

all-on : (q : QueryValue) → NeedsStatesOn AnyRow q → NeedsStates q
all-on q n none = n (λ b all. none b (λ e right m most has. all e (λ h r k i. right h r) m most
    record { states = has.states; size = has.size; all = λ h k l w. has.all h l w }))

module _ (q : QueryValue) (p : IsFormed q) where
  abbrev K : List Arrival → List Arrival
  K = kept q p

  all-kept : (h : List Arrival) → RowsKeep q h → K h ≡ h
  all-kept h k = filter-all (keeps q p) h (λ r i. keeps-it q p r (row-keeps q h k r i))

  pub alike-within : (h : List Arrival) (r : Arrival) → RowsKeep q h → RowKeeps q r → new_answers (written q) h r ≡ new_answers q h r
  alike-within h r k i = new-kept q p h r (keeps-it q p r i) ∙ ap (λ (l : List Arrival). new_answers q l r) (all-kept h k)

  few-kept : (h : List Arrival) → length (K h) ≤ length h
  few-kept [] = omega arith
  few-kept (r ∷ h) = by (keeps q p r) (few-kept h)
    where
      by : (b : Bool) → length (K h) ≤ length h → length (cond b (r ∷ K h) (K h)) ≤ suc (length h)
      by true l = omega (arith, l)
      by false l = omega (arith, l)

  within-kept : (bound : ℕ) (h : List Arrival) → AreWithin bound h → AreWithin bound (K h)
  within-kept bound [] w = tt
  within-kept bound (r ∷ h) w = by (keeps q p r) (within-kept bound h w.1)
    where
      by : (b : Bool) → AreWithin bound (K h) → AreWithin bound (cond b (r ∷ K h) (K h))
      by true k = (w.0, k)
      by false k = k

  skipping : Evaluator → Evaluator
  skipping e = record { start = e.start; step = λ s r. cond (keeps q p r) (e.step s r) s; says = λ s r. cond (keeps q p r) (e.says s r) [] }

  after-kept : (e : Evaluator) (s : ℕ) (h : List Arrival) → after (skipping e) s h ≡ after e s (K h)
  unfolding skipping
  after-kept e s [] = refl
  after-kept e s (r ∷ h) = by (keeps q p r) (λ s. after-kept e s h)
    where
      by : (b : Bool) → ((s : ℕ) → after (skipping e) s h ≡ after e s (K h)) → after (skipping e) (cond b (e.step s r) s) h ≡ after e s (cond b (r ∷ K h) (K h))
      by true f = f (e.step s r)
      by false f = f s

  -- over rows of any kind, and those of them that lie within the domains
  module _ (kind : Arrival → Type 0) where
    abbrev Both : Arrival → Type 0
    Both r = kind r × RowKeeps q r

    kept-both : (h : List Arrival) → All kind h → All Both (K h)
    kept-both h k j d l =
        let i : Has (K h) (slice_index_or (K h) j d) = Has-from_contains (K h) _ (Contains-get_or (K h) j d l) in
        (All-contains kind h _ k (Contains-from_has h _ (Has-filter_from (keeps q p) h _ i)), keeps-row q p _ (filter-passes (keeps q p) h _ i))

    skipping-right : (e : Evaluator) → IsRightOn Both q e → IsRightOn kind (written q) (skipping e)
    unfolding skipping
    skipping-right e right h r all here = elim (true_or_false (keeps q p r)) [
      | inl k ↦ ap (λ b. cond b (e.says (after (skipping e) e.start h) r) []) k
          ∙ ap (λ (s : ℕ). e.says s r) (after-kept e e.start h)
          ∙ right (K h) r (kept-both h all) (here, keeps-row q p r k)
          ∙ sym (new-kept q p h r k)
      | inr k ↦ ap (λ b. cond b (e.says (after (skipping e) e.start h) r) []) k ∙ sym (new-outside q p h r k)
    ]

    skipping-has : (e : Evaluator) (n bound most : ℕ) → HasStatesOn Both e n bound most → HasStatesOn kind (skipping e) n bound most
    unfolding skipping
    skipping-has e n bound most o = record {
      states = o.states;
      size = o.size;
      all = λ h k l w. subst (Contains o.states) (sym (after-kept e (skipping e).start h)) (at h k l w);
    }
      where
        at : (h : List Arrival) → All kind h → length h ≤ n → AreWithin bound h → Contains o.states (after e (skipping e).start (K h))
        at h k l w = o.all (K h) (kept-both h k) (omega (arith, l, few-kept h)) (within-kept bound h w)

    pub skipped : NeedsStatesOn kind (written q) → NeedsStatesOn Both q
    skipped n none = n (λ b all. none b (λ e right m most has. all (skipping e) (skipping-right e right) m most (skipping-has e m (b * suc m) most has)))

  pub written-decides-at : NeedsStatesWithin q ↔ NeedsStates (written q)
  written-decides-at = (
    (λ n. all-on (written q) (on-more (RowKeeps q) AnyRow (λ r k. tt) (written q)
        (λ none. n (λ b all. none b (λ e right m most has. all e (λ h r k i. right h r k i ∙ alike-within h r k i) m most has))))),
    (λ n. on-more (Both AnyRow) (RowKeeps q) (λ r k. k.1) q (skipped AnyRow (on-all (written q) n))),
  )

pub written-is-alike : WrittenIsAlike
written-is-alike q within h r k i = alike-within q (formed q within) h r k i

pub written-decides : WrittenDecides
written-decides q within = written-decides-at q (formed q within)

-- the written query is as well formed
formed-written : (q : QueryValue) → IsWithinLimits q → IsFormed (written q)
formed-written q within = record {
  some = within.streams.0;
  different = within.different;
  select = within.select;
  attrs = λ k d l. column _ (Has-from_contains _ _ (Contains-get_or (attrs_of (written q).atoms) k d l));
  placed = λ d i. elim i [ ];
}
  where
    of_domain : (a : Attr) (d : Domain) → Has q.domains d → d.attr ≡ a → IsColumn (length q.from) a
    of_domain a d i e = subst (IsColumn (length q.from)) e (elim (All-contains (IsDomain q) q.domains d within.domains (Contains-from_has q.domains d i)).column [
      | inl k ↦ All-contains (IsColumn (length q.from)) (attrs_of q.atoms) d.attr within.attrs k
      | inr k ↦ All-contains (IsColumn (length q.from)) q.select d.attr within.select k
    ])

    column : (a : Attr) → Has (attrs_of (written q).atoms) a → IsColumn (length q.from) a
    column a h = elim (written-attrs q a h) [
      | inl k ↦ All-contains (IsColumn (length q.from)) (attrs_of q.atoms) a within.attrs (Contains-from_has _ a k)
      | inr o ↦ of_domain a o.0 o.1 o.2
    ]

-- and the query is where the written one is within the limits
formed-before : (q : QueryValue) → IsWithinLimits (written q) → IsFormed q
formed-before q within = record {
  some = within.streams.0;
  different = within.different;
  select = within.select;
  attrs = λ k d l. (
      let a : Attr = slice_index_or (attrs_of q.atoms) k d in
      named a (attrs-kept q a (Has-from_contains _ a (Contains-get_or (attrs_of q.atoms) k d l))));
  placed = λ d i. (named d.attr (sides_in (written q).atoms _ (Has-append_right q.atoms (Has-flat_map as_comparisons q.domains d _ i first))).left).stream;
}
  where
    named : (a : Attr) → Has (attrs_of (written q).atoms) a → IsColumn (length q.from) a
    named a h = All-contains (IsColumn (length q.from)) (attrs_of (written q).atoms) a within.attrs (Contains-from_has _ a h)

-- what is written for domains is not soft
hard-written : (q : QueryValue) → All (λ t. IsFalse (is_soft t.op)) q.atoms → All (λ t. IsFalse (is_soft t.op)) (written q).atoms
hard-written q hard k d l = one _ (Has-from_contains _ _ (Contains-get_or (written q).atoms k d l))
  where
    of_domain : (d : Domain) (t : Atom) → Has (as_comparisons d) t → is_soft t.op ≡ false
    of_domain d t first = refl
    of_domain d t (later first) = refl
    of_domain d t (later (later i)) = elim i [ ]

    one : (t : Atom) → Has (written q).atoms t → is_soft t.op ≡ false
    one t h = elim (Has-append_cases q.atoms (flat_map as_comparisons q.domains) t h) [
      | inl i ↦ All-contains (λ (t : Atom). IsFalse (is_soft t.op)) q.atoms t hard (Contains-from_has q.atoms t i)
      | inr i ↦ (let r = Has-flat_map_from as_comparisons q.domains t i in of_domain r.0 t r.2)
    ]

tells-written : (q : QueryValue) (f : Failure) → RefusalTells q f → RefusalTells (written q) f
tells-written q f (no_soft hard) = no_soft (hard-written q hard)
tells-written q f (no_distinct d) = no_distinct d
tells-written q f (by_selected e) = by_selected e

pub domains-need-states : DomainsNeedStates
domains-need-states q within whole f violation tells =
    (written-decides-at q (formed q within)).1 (telling-need (written q) (formed-written q within) refl whole f violation (tells-written q f tells))

-- on the rows of a catalog
row-of-catalog : (width : ℕ → ℕ) (h : List Arrival) → AreRows width h → All (IsRow width) h
row-of-catalog width [] k j d l = absurd (omega (arith, l))
row-of-catalog width (r ∷ h) k zero d l = k.0
row-of-catalog width (r ∷ h) k (suc j) d l = row-of-catalog width h k.1 j d (omega (arith, l))

over-written : (q : QueryValue) → IsWithinLimits q → (width : ℕ → ℕ) → IsOver width q → IsOver width (written q)
over-written q within width over a (inl h) = over a (inl h)
over-written q within width over a (inr h) = elim (written-attrs q a (Has-from_contains _ a h)) [
  | inl i ↦ over a (inr (Contains-from_has _ a i))
  | inr o ↦ subst (λ (a : Attr). a.column < width (slice_index_or q.from a.stream 0)) o.2
      (over o.0.attr (elim (All-contains (IsDomain q) q.domains o.0 within.domains (Contains-from_has q.domains o.0 o.1)).column [ inl k ↦ inr k | inr k ↦ inl k ]))
]

pub catalog-domains-need-states : CatalogDomainsNeedStates
catalog-domains-need-states q within whole f violation tells width over =
    skipped q (formed q within) (IsRow width) (λ none.
    over-needs width (written q) (formed-written q within) (over-written q within width over)
    (telling-need (written q) (formed-written q within) refl whole f violation (tells-written q f tells))
    (λ b all. none b (λ e right m most has. all e (λ h r k i. right h r (row-of-catalog width h k) i) m most
    record { states = has.states; size = has.size; all = λ h k l w. has.all h (row-of-catalog width h k) l w })))

verdict-of-written : (q : QueryValue) → IsWithinLimits (written q) → q.compact ≡ false → All (λ t. IsFalse (is_soft t.op)) q.atoms ⊎ (q.distinct ≡ false) → (r : Option Failure) → IsViolation (written q) r
    → NeedsStates (written q) ↔ (r ≢ None)
verdict-of-written q within whole (inl hard) r violation = conditions-are-exact (written q) within record { hard = hard-written q hard; domains = refl; compact = whole } r violation
verdict-of-written q within whole (inr d) r violation = counted-conditions-are-exact (written q) within refl whole d r violation

pub domain-conditions-are-exact : DomainConditionsAreExact
domain-conditions-are-exact q within whole o r violation =
    let same : NeedsStatesWithin q ↔ NeedsStates (written q) = written-decides-at q (formed-before q within) in
    let exact : NeedsStates (written q) ↔ (r ≢ None) = verdict-of-written q within whole o r violation in
    ((λ n. exact.0 (same.0 n)), (λ n. same.1 (exact.1 n)))
