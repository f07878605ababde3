-- Shards whose keys are narrowed to ranges.
use Rattle.std.proofs.Common.{◌≡◌, ℕ, ◌+◌, ◌<◌, Bool, true, false, not, ◌||◌, List, [], ◌∷◌, map, filter, length, get_or, nat_eq, ℤ, int_lt, ◌≤ℤ◌, slice_index_or, nat_lt, cond, Contains, Option, None, Some, refl, sym, ap, ◌∙◌, subst, arith}
use Rattle.std.specs.List.{range_with_len}
use Rattle.std.proofs.lemmas.Int.{ints}
use Rattle.std.proofs.lemmas.Bool.Decides.{nat_tests}
use Rattle.std.proofs.lemmas.List.FromFn.{get_or-range_with_len, length-range_with_len}
use Rattle.sem_query.specs.declared.atom.Attr.{Attr}
use Rattle.sem_query.specs.declared.atom.Domain.{Domain}
use Rattle.sem_query.specs.Query.{QueryValue, IsWithinLimits}
use Rattle.sem_query.specs.Assignment.{Assignment, lies_in}
use Rattle.sem_query.specs.Meaning.{Arrival, by_column, at_place, assignment_of}
use Rattle.sem_query.specs.Domains.{RowKeeps}
use Rattle.sem_query.proofs.Has.{Has, first, later, Has-from_contains, Contains-from_has, Has-flat_map_from, Has-filter_from, Has-filter_holds, same_at}
use Rattle.sem_query.proofs.Domains.{keeps_each}
use Rattle.sem_laws.proofs.Tests.{and-left, and-right, all_at, all_if, or-left, or-right, nat_true}
use Rattle.sem_sharding.specs.Shards.{Routing, rows_of, Counts, Sees, IsSplit, IsDisjoint}
use Rattle.sem_sharding.specs.Keys.{Keys, by_key, IsKey, Fits, AreEqualKeys, TellsKeys}
use Rattle.sem_sharding.proofs.ByKeys.{StandsAt, stands, shard-is, fits-counts, keys-split, tuples-tell}
use Rattle.sem_sharding.proofs.Splits.{split-answers, disjoint-answers, deduped-answers}
use Rattle.adv_key_decision.specs.declared.judging.Judgement.TheVariants.{Apart, Deduped, Home, Torn}
use Rattle.adv_key_decision.specs.Judged.{key_of_place, AreSeenKeys, IsSeenSelected}
use Rattle.adv_key_decision.proofs.KeyPlaces.{is-key}
use Rattle.adv_key_decision.proofs.Followed.{equal-keys, are-equal}
use Rattle.adv_mends.specs.declared.mend.Ends.{Ends}
use Rattle.adv_mends.specs.Mended.{domain_on, domains_with}
use Rattle.adv_key_ranges.specs.Cutting.{range_at}
use Rattle.adv_key_ranges.specs.Keys.{is_among, reads, read_key, read_key_at, read_keys, met, common, range_between, key_range}
use Rattle.adv_key_ranges.specs.Narrowed.{of_others, narrowed}
use Rattle.adv_key_ranges.specs.Laws.{IsBetween, IsPutByRanges, TakesKept, AnswersBy, RangesAnswer}
use Rattle.adv_key_ranges.proofs.KeyRanges.{among}
use Rattle.adv_key_ranges.proofs.Domains.{from_domains, IsOldOrNew, old, new}

-- ---- the keys that are read are keys

number_below : (n m : ℕ) → Has (range_with_len 0 n) m → m < n
number_below n m h =
    let c : Contains (range_with_len 0 n) m = Contains-from_has (range_with_len 0 n) m h in
    let long : length (range_with_len 0 n) ≡ n = length-range_with_len 0 n in
    let inside : c.0 < n = omega (arith, c.1, long) in
    let at : get_or (range_with_len 0 n) c.0 m ≡ 0 + c.0 = get_or-range_with_len 0 n c.0 m inside in
    omega (arith, inside, c.2, at)

read-is : (q : QueryValue) (key : Option Attr) (a : Attr) → Has (read_key q key) a → key ≡ Some a
read-is q None a h = elim h [ ]
read-is q (Some b) a h = by (reads q b) a h where
  by : (t : Bool) (x : Attr) → Has (cond {A = List Attr} t (b ∷ []) []) x → Some b ≡ Some x
  by true x first = refl
  by true x (later k) = elim k [ ]
  by false x k = elim k [ ]

pub read-keys-are : (q : QueryValue) (keys : Keys) (a : Attr) → Has (read_keys q keys) a → IsKey q keys a
unfolding read_keys
read-keys-are q keys a h =
    let one = Has-flat_map_from (read_key_at q keys) (range_with_len 0 (length q.from)) a h in
    let place = number_below (length q.from) one.0 one.1 in
    (is-key q keys one.0 (key_of_place one.0 (keys (slice_index_or q.from one.0 0))) refl place a (read-is q _ a one.2)).1

-- ---- what the domains of keys have in common

module _ (z : ℤ) where
  lies-low : (d : Domain) → lies_in d z ≡ true → d.lo ≤ℤ z
  lies-low d h = grind (arith, ints, and-left (not (int_lt z d.lo)) (not (int_lt d.hi z)) h)

  lies-high : (d : Domain) → lies_in d z ≡ true → z ≤ℤ d.hi
  lies-high d h = grind (arith, ints, and-right (not (int_lt z d.lo)) (not (int_lt d.hi z)) h)

  which_low : (b : Bool) (x y : ℤ) → x ≤ℤ z → y ≤ℤ z → cond b x y ≤ℤ z
  which_low true x y h k = h
  which_low false x y h k = k

  which_high : (b : Bool) (x y : ℤ) → z ≤ℤ x → z ≤ℤ y → z ≤ℤ cond b x y
  which_high true x y h k = h
  which_high false x y h k = k

  abbrev AreAllAround : Option Ends → Type 0
  AreAllAround None = Unit {0}
  AreAllAround (Some e) = IsBetween e z

  met-around : (d : Domain) (range : Option Ends) → lies_in d z ≡ true → AreAllAround range → IsBetween (met d range) z
  met-around d None h k = (lies-low d h, lies-high d h)
  met-around d (Some e) h k = (which_low (int_lt e.lo d.lo) d.lo e.lo (lies-low d h) k.0, which_high (int_lt d.hi e.hi) d.hi e.hi (lies-high d h) k.1)

  common-around : (domains : List Domain) → ((d : Domain) → Has domains d → lies_in d z ≡ true) → AreAllAround (common domains)
  common-around [] h = tt
  common-around (d ∷ others) h = met-around d (common others) (h d first) (common-around others (λ e k. h e (later k)))

  between-around : (range : Option Ends) (ends : Ends) → AreAllAround range → range_between range ≡ Some ends → IsBetween ends z
  between-around None ends h e = absurd cc
  between-around (Some own) ends h e = by (int_lt own.hi own.lo) e where
    by : (b : Bool) → cond {A = Option Ends} b None (Some own) ≡ Some ends → IsBetween ends z
    by true f = absurd cc
    by false f = let g : own ≡ ends = cc in subst (λ (x : Ends). IsBetween x z) g h

-- ---- a combination that counts is seen whole

module _ (q : QueryValue) (keys : Keys) (within : IsWithinLimits q) (equal : AreEqualKeys q keys) (ends : Ends) (is : key_range q (read_keys q keys) ≡ Some ends) where
  -- the values of keys lie in what the domains have in common
  between : (v : Assignment) → Fits q v → (a : Attr) → IsKey q keys a → IsBetween ends (v a)
  unfolding key_range
  between v f a k = between-around (v a) (common (filter (λ d. is_among (read_keys q keys) d.attr) q.domains)) ends (common-around (v a) _ each) is
    where
      each : (d : Domain) → Has (filter (λ e. is_among (read_keys q keys) e.attr) q.domains) d → lies_in d (v a) ≡ true
      each d h =
          let there : Has q.domains d = Has-filter_from (λ e. is_among (read_keys q keys) e.attr) q.domains d h in
          let key : IsKey q keys d.attr = read-keys-are q keys d.attr (Has-from_contains _ d.attr (among (read_keys q keys) d.attr (Has-filter_holds (λ e. is_among (read_keys q keys) e.attr) q.domains d h))) in
          subst (λ (x : ℤ). lies_in d x ≡ true) (equal.equal d.attr a key k v f) (keeps_each q v f.keeps d there)

  -- a place of FROM has a stream of its own
  one-place : (n m : ℕ) → n < length q.from → m < length q.from → slice_index_or q.from n 0 ≡ slice_index_or q.from m 0 → n ≡ m
  one-place n m l k e = by (nat_lt n m) (nat_lt m n) refl refl where
    by : (b c : Bool) → nat_lt n m ≡ b → nat_lt m n ≡ c → n ≡ m
    by true c f g = absurd (within.different n m 0 (grind (arith, nat_tests)) k e)
    by false true f g = absurd (within.different m n 0 (grind (arith, nat_tests)) l (sym e))
    by false false f g = grind (arith, nat_tests)

  module _ (k : ℕ) (put : ℤ → ℕ) (ranges : IsPutByRanges ends k put) (to : Routing) (takes : (shard : ℕ) → shard < k → TakesKept q keys ends k put to shard) where
    -- its rows keep to the narrowed domains of the shard
    keep : (c : List (List ℤ)) → Counts q c → (i : ℕ) → Sees q (by_key keys put) i c → (r : Arrival) → StandsAt q.from c r → RowKeeps (narrowed (read_keys q keys) (range_at ends k i) q) r
    keep c m i sees r t place l e =
        all_if (λ (d : Domain). not (nat_eq d.attr.stream place) || lies_in d (by_column r.values d.attr.column)) (domains_with (range_at ends k i) (of_others (read_keys q keys) q.domains) (read_keys q keys))
        (λ d h. one d (from_domains (range_at ends k i) (of_others (read_keys q keys) q.domains) (read_keys q keys) d h) (nat_eq d.attr.stream place) refl)
      where
        same : place ≡ t.n
        same = one-place place t.n l t.at (e ∙ t.stream)

        value : (d : Domain) → d.attr.stream ≡ place → assignment_of c d.attr ≡ by_column r.values d.attr.column
        value d f = ap (λ (n : ℕ). at_place (map by_column c) n d.attr.column) (f ∙ same) ∙ ap (λ (v : ℕ → ℤ). v d.attr.column) t.values

        lies : (d : Domain) → IsOldOrNew (range_at ends k i) (of_others (read_keys q keys) q.domains) (read_keys q keys) d → lies_in d (assignment_of c d.attr) ≡ true
        lies d (old h) = keeps_each q (assignment_of c) m.keeps d (Has-filter_from (λ x. not (is_among (read_keys q keys) x.attr)) q.domains d h)
        lies d (new a h f) =
            let key : IsKey q keys a = read-keys-are q keys a h in
            let b = ranges.inside (assignment_of c a) (between (assignment_of c) (fits-counts q c m) a key) in
            let s : put (assignment_of c a) ≡ i = shard-is q keys put c m a key i sees in
            let g : IsBetween (range_at ends k i) (assignment_of c a) = subst (λ (n : ℕ). IsBetween (range_at ends k n) (assignment_of c a)) s b in
            subst (λ (x : Domain). lies_in x (assignment_of c x.attr) ≡ true) f (lies-between (range_at ends k i) a (assignment_of c a) g)
          where
            lies-between : (e : Ends) (x : Attr) (z : ℤ) → IsBetween e z → lies_in (domain_on e x) z ≡ true
            lies-between e x z h = grind (arith, ints, h.0, h.1)

        one : (d : Domain) → IsOldOrNew (range_at ends k i) (of_others (read_keys q keys) q.domains) (read_keys q keys) d → (b : Bool) → nat_eq d.attr.stream place ≡ b
            → (not (nat_eq d.attr.stream place) || lies_in d (by_column r.values d.attr.column)) ≡ true
        one d o false f = or-left _ _ (ap not f)
        one d o true f = or-right (not (nat_eq d.attr.stream place)) _ (subst (λ (z : ℤ). lies_in d z ≡ true) (value d (nat_true d.attr.stream place f)) (lies d o))

    only-sees : (c : List (List ℤ)) (i : ℕ) → i < k → Sees q to i c → Sees q (by_key keys put) i c
    only-sees c i l sees = all_if (by_key keys put i) (rows_of q.from c) (λ r h. (takes i l).only r (all_at (to i) (rows_of q.from c) r sees h))

    still-sees : (c : List (List ℤ)) → Counts q c → (i : ℕ) → i < k → Sees q (by_key keys put) i c → Sees q to i c
    still-sees c m i l sees =
        all_if (to i) (rows_of q.from c) (λ r h. (takes i l).kept r (all_at (by_key keys put i) (rows_of q.from c) r sees h) (keep c m i sees r (stands q.from c r h)))

    covered : (c : List (List ℤ)) → Counts q c → (shard : ℕ) × (shard < k) × Sees q to shard c
    covered c m = let s = (keys-split q keys equal k put ranges.some).some c m in (s.0, s.1, still-sees c m s.0 s.1 s.2)

    pub ranges-split : IsSplit q k to
    ranges-split = record {
      some = covered;
      one = λ c m i j li lj si sj. (keys-split q keys equal k put ranges.some).one c m i j li lj (only-sees c i li si) (only-sees c j lj sj);
    }

    pub ranges-tell : TellsKeys q keys → IsDisjoint q k to
    ranges-tell tells = record {
      some = covered;
      one = λ c d m n e i j li lj si sj. (tuples-tell q keys equal tells k put ranges.some).one c d m n e i j li lj (only-sees c i li si) (only-sees d j lj sj);
    }

tells-keys : (q : QueryValue) (keys : Keys) → AreSeenKeys q keys → ((a : Attr) → IsKey q keys a → IsSeenSelected q a) → TellsKeys q keys
tells-keys q keys s all a i v w f g e =
    let t = all a i in
    are-equal q a t.column t.equal v f ∙ same_at v w e (Has-from_contains q.select t.column t.selected) ∙ sym (are-equal q a t.column t.equal w g)

pub ranges-answer : RangesAnswer
ranges-answer q keys Apart ends within j is k put ranges to takes = by q.distinct refl
  where
    equal : AreEqualKeys q keys
    equal = equal-keys q keys j.0

    by : (b : Bool) → q.distinct ≡ b → AnswersBy Apart q k to
    by false e = split-answers q k to within e (ranges-split q keys within equal ends is k put ranges to takes)
    by true e = disjoint-answers q k to within e (ranges-tell q keys within equal ends is k put ranges to takes (tells-keys q keys j.0 (j.1 e)))
ranges-answer q keys Deduped ends within j is k put ranges to takes =
    deduped-answers q k to within j.1 (ranges-split q keys within (equal-keys q keys j.0) ends is k put ranges to takes).some
ranges-answer q keys Home ends within j is k put ranges to takes = tt
ranges-answer q keys Torn ends within j is k put ranges to takes = tt
