-- Where each combination is in one of k shares, or in one share with all of its tuple, the counts of the shares add up.
use Rattle.std.proofs.Common.{◌≡◌, ℕ, zero, suc, ◌*◌, min, ◌<◌, List, map, Bool, true, false, refl, sym, ap, ◌∙◌, subst, arith, ℤ}
use Rattle.std.proofs.lemmas.List.{length-map}
use Rattle.sem_query.proofs.Has.{Has}
use Rattle.sem_laws.proofs.Sums.{nested, nested_same_in, sums_product, bit}
use Rattle.sem_laws.proofs.Counts.{times, times-answers, gives}
use Rattle.sem_laws.proofs.Order.{same-is}
use Rattle.sem_laws.proofs.Extremes.{some-summand, summand-counts}
use Rattle.sem_laws.proofs.TableRoom.{product-length}
use Rattle.sem_laws.proofs.Queries.{IsQuery}
use Rattle.sem_laws.proofs.Keeping.{combination-keeps, history-keeps}
use Rattle.sem_query.specs.Query.{QueryValue}
use Rattle.sem_query.specs.Meaning.{Arrival, rows, product, by_column, assignment_of, answers}
use Rattle.sem_query.specs.Assignment.{holds, projected}
use Rattle.sem_query.specs.Domains.{RowsKeep}
use Rattle.sem_query.specs.Tuples.{is_same}
use Rattle.sem_sharding.specs.Shards.{Counts}
use Rattle.sem_sharding.proofs.Shares.{over, over-same, over-none, over-one, over-least, over-nested}

both-bits : (a b : Bool) → 0 < bit a * bit b → (a ≡ true) × (b ≡ true)
both-bits true true h = (refl, refl)
both-bits true false h = absurd (omega (arith, h))
both-bits false b h = absurd (omega (arith, h))

bit-times : (a : Bool) (n : ℕ) → 0 < bit a * n → (a ≡ true) × (0 < n)
bit-times true n h = (refl, omega (arith, h))
bit-times false n h = absurd (omega (arith, h))

times-bit : (a : Bool) (n : ℕ) → a ≡ true → 0 < n → 0 < bit a * n
times-bit true n e h = omega (arith, h)
times-bit false n e h = absurd cc

pub none : (n : ℕ) → (0 < n → ⊥) → n ≡ 0
none zero h = refl
none (suc n) h = absurd (h (omega arith))

-- of k tests one is true
pub one-of : (k : ℕ) (sees : ℕ → Bool) (n : ℕ) → (i : ℕ) × (i < k) × (sees i ≡ true)
    → ((i j : ℕ) → i < k → j < k → sees i ≡ true → sees j ≡ true → i ≡ j)
    → over k (λ i. bit (sees i) * n) ≡ n
one-of k sees n some one =
    over-one k (λ i. bit (sees i) * n) some.0 some.1 (λ j m o. none _ (λ p. o (one j some.0 m some.1 (bit-times (sees j) n p).0 some.2)))
    ∙ ap (λ b. bit b * n) some.2 ∙ omega arith

module _ (q : QueryValue) (well : IsQuery q) (h : List Arrival) (keep : RowsKeep q h) where
  abbrev pub among : List (List (List ℤ))
  among = product (map (rows h) q.from)

  abbrev pub gives_to : List ℤ → List (List ℤ) → ℕ
  gives_to z c = gives q z (map by_column c)

  -- a combination of rows of the history for which the condition holds counts
  counts : (c : List (List ℤ)) → Has among c → holds q (assignment_of c) ≡ true → Counts q c
  counts c i t = record {
    whole = product-length (map (rows h) q.from) c i ∙ length-map q.from (rows h);
    keeps = combination-keeps q well (rows h) (history-keeps q h keep) c i;
    holds = t;
  }

  -- a combination of the history that counts and has the tuple
  pub record Giving (z : List ℤ) (c : List (List ℤ)) : Type 0 where
    pub there : Has among c
    pub counting : Counts q c
    pub tuple : z ≡ projected q (assignment_of c)
    pub fits : 0 < gives_to z c

  giving : (z : List ℤ) (c : List (List ℤ)) → Has among c → 0 < gives_to z c → Giving z c
  giving z c i p =
      let b = both-bits (holds q (assignment_of c)) (is_same z (projected q (assignment_of c))) p in
      record { there = i; counting = counts c i b.0; tuple = same-is z _ b.1; fits = p }

  -- a tuple that is among the answers is that of a combination
  pub some-whole : (z : List ℤ) → 0 < times z (answers q h) → (c : List (List ℤ)) × Giving z c
  some-whole z p =
      let s = some-summand (gives_to z) among (subst (λ n. 0 < n) (times-answers q z h ∙ sym (sums_product (map (rows h) q.from) (gives_to z))) p) in
      (s.0, giving z s.0 s.1 s.2)

  pub whole-has : (z : List ℤ) (c : List (List ℤ)) → Giving z c → 0 < times z (answers q h)
  whole-has z c g =
      subst (λ n. 0 < n) (sums_product (map (rows h) q.from) (gives_to z) ∙ sym (times-answers q z h)) (summand-counts (gives_to z) among c g.there g.fits)

  -- a count of the combinations that are in a share
  abbrev pub Shared : (List (List ℤ) → Bool) → (List ℤ → ℕ) → Type 0
  Shared in_share has = (z : List ℤ) → has z ≡ nested (map (rows h) q.from) (λ c. bit (in_share c) * gives_to z c)

  -- a tuple that a share has is that of a combination in it
  pub some-share : (in_share : List (List ℤ) → Bool) (has : List ℤ → ℕ) → Shared in_share has → (z : List ℤ) → 0 < has z
      → (c : List (List ℤ)) × Giving z c × (in_share c ≡ true)
  some-share in_share has is z l =
      let s
      = some-summand (λ c. bit (in_share c) * gives_to z c) among (subst (λ n. 0 < n) (is z ∙ sym (sums_product (map (rows h) q.from) (λ c. bit (in_share c) * gives_to z c))) l) in
      let b = bit-times (in_share s.0) (gives_to z s.0) s.2 in
      (s.0, giving z s.0 s.1 b.1, b.0)

  pub share-has : (in_share : List (List ℤ) → Bool) (has : List ℤ → ℕ) → Shared in_share has → (z : List ℤ) (c : List (List ℤ))
      → Giving z c → in_share c ≡ true → 0 < has z
  share-has in_share has is z c g e =
      subst (λ n. 0 < n) (sums_product (map (rows h) q.from) (λ c. bit (in_share c) * gives_to z c) ∙ sym (is z))
      (summand-counts (λ c. bit (in_share c) * gives_to z c) among c g.there (times-bit (in_share c) (gives_to z c) e g.fits))

  module _ (k : ℕ) (in_share : ℕ → List (List ℤ) → Bool) (has : ℕ → List ℤ → ℕ) (is : (i : ℕ) → Shared (in_share i) (has i)) where
    abbrev pub Covered : Type 0
    Covered = (c : List (List ℤ)) → Counts q c → (i : ℕ) × (i < k) × (in_share i c ≡ true)

    -- each combination is in one share
    pub add-up : Covered
        → ((c : List (List ℤ)) → Counts q c → (i j : ℕ) → i < k → j < k → in_share i c ≡ true → in_share j c ≡ true → i ≡ j)
        → (z : List ℤ) → over k (λ i. has i z) ≡ times z (answers q h)
    add-up some one z =
        over-same k _ _ (λ i l. is i z)
        ∙ over-nested (map (rows h) q.from) k (λ i c. bit (in_share i c) * gives_to z c)
        ∙ nested_same_in (map (rows h) q.from) _ (gives_to z) (λ c i e. each c i (holds q (assignment_of c)) refl)
        ∙ sym (times-answers q z h)
      where
        each : (c : List (List ℤ)) → Has among c → (b : Bool) → holds q (assignment_of c) ≡ b
            → over k (λ i. bit (in_share i c) * gives_to z c) ≡ gives_to z c
        each c i true t = one-of k (λ i. in_share i c) (gives_to z c) (some c (counts c i t)) (one c (counts c i t))
        each c i false t =
            let g : gives_to z c ≡ 0 = ap (λ b. bit b * bit (is_same z (projected q (assignment_of c)))) t ∙ omega arith in
            over-none k _ (λ i l. ap (λ n. bit (in_share i c) * n) g ∙ omega arith) ∙ sym g

    -- a tuple that is no answer is in no share
    none-shared : (z : List ℤ) → times z (answers q h) ≡ 0 → (i : ℕ) → has i z ≡ 0
    none-shared z e i = none _ (λ p. let s = some-share (in_share i) (has i) (is i) z p in absurd (omega (arith, e, whole-has z s.0 s.1)))

    -- all combinations of a tuple are in one share
    pub add-up-distinct : Covered
        → ((c d : List (List ℤ)) → Counts q c → Counts q d → projected q (assignment_of c) ≡ projected q (assignment_of d)
        → (i j : ℕ) → i < k → j < k → in_share i c ≡ true → in_share j d ≡ true → i ≡ j)
        → (z : List ℤ) → over k (λ i. min 1 (has i z)) ≡ min 1 (times z (answers q h))
    add-up-distinct some one z = by (times z (answers q h)) refl
      where
        by : (n : ℕ) → times z (answers q h) ≡ n → over k (λ i. min 1 (has i z)) ≡ min 1 n
        by zero e = over-none k _ (λ i l. omega (arith, none-shared z e i)) ∙ omega arith
        by (suc n) e =
            let w = some-whole z (omega (arith, e)) in
            let s = some w.0 w.1.counting in
            over-one k (λ i. min 1 (has i z)) s.0 s.1 (λ j m o.
            (let f : has j z ≡ 0 = none _ (λ p.
            (let d = some-share (in_share j) (has j) (is j) z p in
            o (one d.0 w.0 d.1.counting w.1.counting (sym d.1.tuple ∙ w.1.tuple) j s.0 m s.1 d.2 s.2))) in
            omega (arith, f)))
            ∙ omega (arith, share-has (in_share s.0) (has s.0) (is s.0) z w.0 w.1 s.2)

    -- a tuple that is an answer is in some share
    pub cover : Covered → (z : List ℤ) → min 1 (over k (λ i. min 1 (has i z))) ≡ min 1 (times z (answers q h))
    cover some z = by (times z (answers q h)) refl
      where
        by : (n : ℕ) → times z (answers q h) ≡ n → min 1 (over k (λ i. min 1 (has i z))) ≡ min 1 n
        by zero e = ap (min 1) (over-none k _ (λ i l. omega (arith, none-shared z e i))) ∙ omega arith
        by (suc n) e =
            let w = some-whole z (omega (arith, e)) in
            let s = some w.0 w.1.counting in
            omega (arith, share-has (in_share s.0) (has s.0) (is s.0) z w.0 w.1 s.2, over-least k (λ i. min 1 (has i z)) s.0 s.1)
