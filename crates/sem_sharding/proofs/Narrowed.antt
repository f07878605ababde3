-- Narrower domains change no answer, and rows that no part admits are missed by none.
use Rattle.std.proofs.Common.{◌≡◌, ℕ, zero, suc, ◌+◌, ◌<◌, ◌⊎◌, inl, inr, List, [], ◌∷◌, map, length, Bool, true, false, not, ◌||◌, refl, sym, ap, ◌∙◌, subst, arith, nat_eq, ℤ, slice_index_or, Contains, Some}
use Rattle.std.proofs.lemmas.List.{length-map}
use Rattle.sem_query.proofs.Has.{Has-from_contains, Contains-from_has}
use Rattle.sem_query.proofs.Domains.{keeps_each, each_keeps}
use Rattle.sem_laws.proofs.Tests.{and-left, and-right, all_at, all_if, or-left, or-right, nat_true}
use Rattle.sem_laws.proofs.Sums.{passes, bit}
use Rattle.sem_laws.proofs.Admission.{fits}
use Rattle.sem_laws.proofs.OnePartFits.{one_part_fits}
use Rattle.sem_laws.proofs.Extremes.{some-summand}
use Rattle.sem_laws.proofs.Queries.{query_within}
use Rattle.sem_query.specs.declared.atom.Domain.{Domain}
use Rattle.sem_query.specs.Query.{QueryValue}
use Rattle.sem_query.specs.Assignment.{lies_in}
use Rattle.sem_query.specs.Meaning.{Arrival, by_column, at_place, assignment_of, new_answers}
use Rattle.sem_query.specs.Admission.{admits}
use Rattle.sem_sharding.specs.Shards.{Routing, rows_of, Counts, Sees}
use Rattle.sem_sharding.specs.Keys.{Keys, goes_by, by_key, IsKey, AreEqualKeys}
use Rattle.sem_sharding.specs.Narrowed.{with_domains, DomainsAnswerNothing, NarrowedRowsKeep, IsAdmitted, GetsAdmitted, AdmittedRowsSuffice}
use Rattle.sem_sharding.proofs.ByKeys.{StandsAt, stands, shard-is, keys-split, tuples-tell}

pub domains-answer-nothing : DomainsAnswerNothing
unfolding new_answers
domains-answer-nothing q ds h r = refl

pub narrowed-rows-keep : NarrowedRowsKeep
narrowed-rows-keep q keys put shard ds narrowed r keep goes place l e =
    all_if (λ (d : Domain). not (nat_eq d.attr.stream place) || lies_in d (by_column r.values d.attr.column)) ds (λ d k. one d (narrowed d (Contains-from_has ds d k)) (nat_eq d.attr.stream place) refl)
  where
    one : (d : Domain) → Contains q.domains d ⊎ (IsKey q keys d.attr × ((z : ℤ) → put z ≡ shard → lies_in d z ≡ true)) → (b : Bool) → nat_eq d.attr.stream place ≡ b
        → (not (nat_eq d.attr.stream place) || lies_in d (by_column r.values d.attr.column)) ≡ true
    one d o false f = or-left _ _ (ap not f)
    one d (inl c) true f =
        all_at (λ (d : Domain). not (nat_eq d.attr.stream place) || lies_in d (by_column r.values d.attr.column)) q.domains d (keep place l e) (Has-from_contains q.domains d c)
    one d (inr o) true f =
        let p : d.attr.stream ≡ place = nat_true d.attr.stream place f in
        let key : keys r.stream ≡ Some d.attr.column = ap keys (sym e ∙ ap (λ n. slice_index_or q.from n 0) (sym p)) ∙ o.0.key in
        let g : nat_eq (put (by_column r.values d.attr.column)) shard ≡ true = subst (λ o. goes_by o put shard r ≡ true) key goes in
        or-right (not (nat_eq d.attr.stream place)) _ (o.1 (by_column r.values d.attr.column) (nat_true _ _ g))

passes-at : (t : ℕ → (ℕ → ℤ) → Bool) (n : ℕ) (vs : List (ℕ → ℤ)) (i m : ℕ) → i < length vs → m ≡ n + i → passes t n vs ≡ true → t m (at_place vs i) ≡ true
passes-at t n [] i m l e h = absurd (omega (arith, l))
passes-at t n (v ∷ vs) zero m l e h = let f : n ≡ m = omega (arith, e) in subst (λ k. t k v ≡ true) f (and-left _ _ h)
passes-at t n (v ∷ vs) (suc i) m l e h = passes-at t (suc n) vs i m (omega (arith, l)) (omega (arith, e)) (and-right (t n v) _ h)

positive : (b : Bool) → 0 < bit b → b ≡ true
positive true h = refl
positive false h = absurd (omega (arith, h))

module _ (q : QueryValue) (keys : Keys) (equal : AreEqualKeys q keys) (k : ℕ) (put : ℤ → ℕ) (below : (z : ℤ) → put z < k) (to : Routing) (gets : (shard : ℕ) → shard < k → GetsAdmitted q keys put to shard) where
  only-sees : (c : List (List ℤ)) (i : ℕ) → i < k → Sees q to i c → Sees q (by_key keys put) i c
  only-sees c i l sees = all_if (by_key keys put i) (rows_of q.from c) (λ r h. (gets i l).only r (all_at (to i) (rows_of q.from c) r sees h))

  -- a combination that a shard sees counts in its narrowed query
  counts-there : (c : List (List ℤ)) → Counts q c → (i : ℕ) (l : i < k) → Sees q (by_key keys put) i c → Counts (with_domains (gets i l).domains q) c
  counts-there c m i l sees = record {
    whole = m.whole;
    keeps = each_keeps (with_domains (gets i l).domains q) (assignment_of c) (λ d h. one d ((gets i l).narrowed d (Contains-from_has _ d h)));
    holds = m.holds;
  }
    where
      one : (d : Domain) → Contains q.domains d ⊎ (IsKey q keys d.attr × ((z : ℤ) → put z ≡ i → lies_in d z ≡ true)) → lies_in d (assignment_of c d.attr) ≡ true
      one d (inl c') = keeps_each q (assignment_of c) m.keeps d (Has-from_contains q.domains d c')
      one d (inr o) = o.1 (assignment_of c d.attr) (shard-is q keys put c m d.attr o.0 i sees)

  still-sees : (c : List (List ℤ)) → Counts q c → (i : ℕ) → i < k → Sees q (by_key keys put) i c → Sees q to i c
  still-sees c m i l sees = all_if (to i) (rows_of q.from c) (λ r h. g.needed r (all_at (by_key keys put i) (rows_of q.from c) r sees h) (admitted r (stands q.from c r h)))
    where
      g : GetsAdmitted q keys put to i
      g = gets i l

      admitted : (r : Arrival) → StandsAt q.from c r → IsAdmitted (with_domains g.domains q) g.plan r
      admitted r t =
          let n : Counts (with_domains g.domains q) c = counts-there c m i l sees in
          let whole : length (map by_column c) ≡ length q.from = length-map c by_column ∙ m.whole in
          let s = some-summand (λ p. bit (fits (with_domains g.domains q) p (map by_column c))) g.plan
          (subst (λ n. 0 < n) (one_part_fits (with_domains g.domains q) g.plan g.planned (query_within _ g.within) (map by_column c) whole n.keeps) (subst (λ b. 0 < bit b) (sym n.holds) (omega arith))) in
          let f : passes (admits (with_domains g.domains q) s.0) 0 (map by_column c) ≡ true = and-left _ _ (positive _ s.2) in
          record {
            part = s.0;
            among = Contains-from_has g.plan s.0 s.1;
            place = t.n;
            at = t.at;
            stream = sym t.stream;
            admitted = subst (λ v. admits (with_domains g.domains q) s.0 t.n v ≡ true) t.values
                (passes-at (admits (with_domains g.domains q) s.0) 0 (map by_column c) t.n t.n (omega (arith, t.at, whole)) (omega arith) f);
          }

pub admitted-rows-suffice : AdmittedRowsSuffice
admitted-rows-suffice q keys equal k put below to gets = (
  record {
    some = some;
    one = λ c m i j li lj si sj. (keys-split q keys equal k put below).one c m i j li lj (only-sees q keys equal k put below to gets c i li si) (only-sees q keys equal k put below to gets c j lj sj);
  },
  λ tells. (record {
    some = some;
    one = λ c d m n e i j li lj si sj. (tuples-tell q keys equal tells k put below).one c d m n e i j li lj (only-sees q keys equal k put below to gets c i li si) (only-sees q keys equal k put below to gets d j lj sj);
  }),
)
  where
    some : (c : List (List ℤ)) → Counts q c → (shard : ℕ) × (shard < k) × Sees q to shard c
    some c m = let s = (keys-split q keys equal k put below).some c m in (s.0, s.1, still-sees q keys equal k put below to gets c m s.0 s.1 s.2)
