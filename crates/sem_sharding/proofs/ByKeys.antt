-- Equal keys split a query; which keys are equal.
use Rattle.std.proofs.Common.{◌≡◌, ◌≢◌, ℕ, zero, suc, ◌+◌, ◌<◌, ◌⊎◌, inl, inr, List, [], ◌∷◌, map, filter, length, cond, Bool, true, false, ◌==◌, refl, sym, ap, ◌∙◌, subst, arith, nat_eq, ℤ, slice_index_or, Contains, AllPairs}
use Rattle.std.specs.List.{list_all, list_any}
use Rattle.std.specs.declared.option.Option.{Option}
use Rattle.std.specs.declared.option.Option.TheVariants.{None, Some}
use Rattle.std.proofs.lemmas.Bool.Decides.{Decides-int_eq}
use Rattle.sem_query.proofs.Has.{Has, first, later, Has-from_contains, Has-head, Has-append_left, Has-append_right, Has-append_cases, Has-filter_from, Has-filter_holds, same_at}
use Rattle.sem_query.proofs.OneGroup.{groups_are_components}
use Rattle.sem_laws.proofs.OnePartFits.{has_cases}
use Rattle.sem_laws.proofs.Queries.{query_within}
use Rattle.sem_laws.proofs.Tests.{all_at, all_if, any_from, nat_true}
use Rattle.sem_query.specs.declared.atom.Attr.{Attr}
use Rattle.sem_query.specs.declared.atom.Atom.{Atom}
use Rattle.sem_query.specs.declared.atom.Op.{Op}
use Rattle.sem_query.specs.declared.part.Sign.{Sign}
use Rattle.sem_query.specs.Query.{QueryValue}
use Rattle.sem_query.specs.Meaning.{Arrival, by_column, at_place, assignment_of}
use Rattle.sem_query.specs.Assignment.{Assignment, value, compares, meets}
use Rattle.sem_query.specs.Groups.{AreJoined, itself, compared, turned, onward}
use Rattle.sem_query.specs.Parts.{signs_of, InPart}
use Rattle.sem_sharding.specs.Shards.{rows_of, Counts, Sees}
use Rattle.sem_sharding.specs.Keys.{Keys, goes_by, by_key, KeysDeal, IsKey, Fits, AreEqualKeys, KeysSplit, TuplesTellShards, is_equality, are_linked, key_at, keys_from, all_linked, LinkedKeysAreEqual, SelectedKeysAreTold, EqualInParts, TellsIn, same, fixed, PartsTell, alone, OneKeyAlone}

pub keys-deal : KeysDeal
keys-deal keys k put below = (
  λ stream column e. record {
    some = λ r f. (put (by_column r.values column), below (by_column r.values column), there stream column e r f (put (by_column r.values column)) refl);
    one = λ r f i j li lj si sj. sym (where_is stream column e r f i si) ∙ where_is stream column e r f j sj;
  },
  λ stream shard e r f. subst (λ o. goes_by o put shard r ≡ true) (sym (ap keys f ∙ e)) refl,
)
  where
    there : (stream column : ℕ) → keys stream ≡ Some column → (r : Arrival) → r.stream ≡ stream → (shard : ℕ) → put (by_column r.values column) ≡ shard
        → by_key keys put shard r ≡ true
    there stream column e r f shard g =
        let h : nat_eq (put (by_column r.values column)) shard ≡ true = grind (arith, g) in
        subst (λ o. goes_by o put shard r ≡ true) (sym (ap keys f ∙ e)) h

    where_is : (stream column : ℕ) → keys stream ≡ Some column → (r : Arrival) → r.stream ≡ stream → (shard : ℕ) → by_key keys put shard r ≡ true
        → put (by_column r.values column) ≡ shard
    where_is stream column e r f shard g = nat_true _ _ (subst (λ o. goes_by o put shard r ≡ true) (ap keys f ∙ e) g)

-- each row of a combination stands at a place of FROM
pub record StandsAt (from : List ℕ) (c : List (List ℤ)) (r : Arrival) : Type 0 where
  pub n : ℕ
  pub at : n < length from
  pub stream : r.stream ≡ slice_index_or from n 0
  pub values : at_place (map by_column c) n ≡ by_column r.values

pub stands : (from : List ℕ) (c : List (List ℤ)) (r : Arrival) → Has (rows_of from c) r → StandsAt from c r
stands [] c r h = elim h [ ]
stands (s ∷ from) [] r h = elim h [ ]
stands (s ∷ from) (x ∷ c) r first = record { n = 0; at = omega arith; stream = refl; values = refl }
stands (s ∷ from) (x ∷ c) r (later h) =
    let t = stands from c r h in record { n = suc t.n; at = omega (arith, t.at); stream = t.stream; values = t.values }

-- and at each place stands one
pub row-of : (from : List ℕ) (c : List (List ℤ)) → length c ≡ length from → (n : ℕ) → n < length from
    → (row : List ℤ) × Has (rows_of from c) (record { stream = slice_index_or from n 0; values = row }) × (at_place (map by_column c) n ≡ by_column row)
row-of [] c e n l = absurd (omega (arith, l))
row-of (s ∷ from) [] e n l = absurd (omega (arith, e))
row-of (s ∷ from) (x ∷ c) e zero l = (x, first, refl)
row-of (s ∷ from) (x ∷ c) e (suc n) l = let t = row-of from c (omega (arith, e)) n (omega (arith, l)) in (t.0, later t.1, t.2)

pub fits-counts : (q : QueryValue) (c : List (List ℤ)) → Counts q c → Fits q (assignment_of c)
fits-counts q c m = record { keeps = m.keeps; holds = m.holds }

module _ (q : QueryValue) (keys : Keys) (put : ℤ → ℕ) where
  -- a shard that sees a combination is the one where each key is put
  pub shard-is : (c : List (List ℤ)) → Counts q c → (a : Attr) → IsKey q keys a → (shard : ℕ) → Sees q (by_key keys put) shard c
      → put (assignment_of c a) ≡ shard
  shard-is c m a key shard sees =
      let t = row-of q.from c m.whole a.stream key.place in
      let g : goes_by (keys (slice_index_or q.from a.stream 0)) put shard (record { stream = slice_index_or q.from a.stream 0; values = t.0 }) ≡ true
      = all_at (by_key keys put shard) (rows_of q.from c) (record { stream = slice_index_or q.from a.stream 0; values = t.0 }) sees t.1 in
      let f : nat_eq (put (by_column t.0 a.column)) shard ≡ true
      = subst (λ o. goes_by o put shard (record { stream = slice_index_or q.from a.stream 0; values = t.0 }) ≡ true) key.key g in
      ap (λ (v : ℕ → ℤ). put (v a.column)) t.2 ∙ nat_true _ _ f

  -- and that one sees it
  pub shard-sees : AreEqualKeys q keys → (c : List (List ℤ)) → Counts q c → (a : Attr) → IsKey q keys a
      → Sees q (by_key keys put) (put (assignment_of c a)) c
  shard-sees equal c m a key = all_if (by_key keys put (put (assignment_of c a))) (rows_of q.from c) (λ r h. one r (stands q.from c r h) (keys r.stream) refl)
    where
      one : (r : Arrival) → StandsAt q.from c r → (o : Option ℕ) → keys r.stream ≡ o → goes_by o put (put (assignment_of c a)) r ≡ true
      one r t None e = refl
      one r t (Some column) e =
          let b : Attr = record { stream = t.n; column = column } in
          let k : IsKey q keys b = record { place = t.at; key = ap keys (sym t.stream) ∙ e } in
          let f : put (by_column r.values column) ≡ put (assignment_of c a)
          = ap (λ (v : ℕ → ℤ). put (v column)) (sym t.values) ∙ ap put (equal.equal b a k key (assignment_of c) (fits-counts q c m)) in
          grind (arith, f)

pub keys-split : KeysSplit
keys-split q keys equal k put below = record {
  some = λ c m. let a : Attr = equal.some.0 in (put (assignment_of c a), below (assignment_of c a), shard-sees q keys put equal c m a equal.some.1);
  one = λ c m i j li lj si sj. sym (shard-is q keys put c m equal.some.0 equal.some.1 i si) ∙ shard-is q keys put c m equal.some.0 equal.some.1 j sj;
}

pub tuples-tell : TuplesTellShards
tuples-tell q keys equal tells k put below = record {
  some = (keys-split q keys equal k put below).some;
  one = λ c d m n e i j li lj si sj.
      sym (shard-is q keys put c m equal.some.0 equal.some.1 i si)
      ∙ ap put (tells equal.some.0 equal.some.1 (assignment_of c) (assignment_of d) (fits-counts q c m) (fits-counts q d n) e)
      ∙ shard-is q keys put d n equal.some.0 equal.some.1 j sj;
}

-- what `=` says
says : (op : Op) (x y : ℤ) → is_equality op ≡ true → compares op x y ≡ true → x ≡ y
says Op.Eq x y e h = (Decides-int_eq x y).0 h
says Op.Lt x y e h = absurd cc
says Op.Gt x y e h = absurd cc
says Op.Le x y e h = absurd cc
says Op.Ge x y e h = absurd cc
says Op.Ne x y e h = absurd cc

abbrev equalities : QueryValue → List Atom
equalities q = filter (λ t. is_equality t.op) q.atoms

pub joined-equal : (q : QueryValue) (v : Assignment) → Fits q v → (a b : Attr) → AreJoined (equalities q) a b → v a ≡ v b
joined-equal q v f a b itself = refl
joined-equal q v f a b (compared t h e g) =
    ap (λ x. value x v) (sym e)
    ∙ says t.op (value t.left v) (value t.right v) (Has-filter_holds (λ t. is_equality t.op) q.atoms t h)
    (all_at (meets v) q.atoms t f.holds (Has-filter_from (λ t. is_equality t.op) q.atoms t h))
    ∙ ap (λ x. value x v) g
joined-equal q v f a b (turned j) = sym (joined-equal q v f b a j)
joined-equal q v f a b (onward {b = c} j k) = joined-equal q v f a c j ∙ joined-equal q v f c b k

pub linked-equal : (q : QueryValue) (v : Assignment) → Fits q v → (a b : Attr) → are_linked q a b ≡ true → v a ≡ v b
linked-equal q v f a b l = joined-equal q v f a b ((groups_are_components (equalities q) a b).0 l)

-- the keys of a query, listed
listed : (keys : Keys) (n : ℕ) (from : List ℕ) (i : ℕ) (a : Attr) → i < length from → a.stream ≡ n + i
    → keys (slice_index_or from i 0) ≡ Some a.column → Has (keys_from keys n from) a
listed keys n [] i a l e k = absurd (omega (arith, l))
listed keys n (s ∷ from) zero a l e k =
    let m : a.stream ≡ n = omega (arith, e) in
    let b : record { stream = n; column = a.column } ≡ a = (λ t. record { stream = sym m t; column = a.column }) in
    Has-append_left (keys_from keys (suc n) from) (subst (λ o. Has (key_at n o) a) (sym k) (Has-head a _ [] b))
listed keys n (s ∷ from) (suc i) a l e k = Has-append_right (key_at n (keys s)) (listed keys (suc n) from i a (omega (arith, l)) (omega (arith, e)) k)

pub key-listed : (q : QueryValue) (keys : Keys) (a : Attr) → IsKey q keys a → Has (keys_from keys 0 q.from) a
key-listed q keys a i = listed keys 0 q.from a.stream a i.place (omega arith) i.key

key-of : (n : ℕ) (o : Option ℕ) (a : Attr) → Has (key_at n o) a → (a.stream ≡ n) × (o ≡ Some a.column)
key-of n None a h = elim h [ ]
key-of n (Some column) a h = elim (has_cases (record { stream = n; column = column }) a [] h) [
  | inl e ↦ (ap (λ (b : Attr). b.stream) (sym e), ap (λ (b : Attr). Some b.column) e)
  | inr k ↦ elim k [ ]
]

unlisted : (keys : Keys) (n : ℕ) (from : List ℕ) (a : Attr) → Has (keys_from keys n from) a
    → (i : ℕ) × (i < length from) × (a.stream ≡ n + i) × (keys (slice_index_or from i 0) ≡ Some a.column)
unlisted keys n [] a h = elim h [ ]
unlisted keys n (s ∷ from) a h = elim (Has-append_cases (key_at n (keys s)) (keys_from keys (suc n) from) a h) [
  | inl k ↦ (let o = key-of n (keys s) a k in (0, omega arith, omega (arith, o.0), o.1))
  | inr k ↦ (let r = unlisted keys (suc n) from a k in (suc r.0, omega (arith, r.1), omega (arith, r.2), r.3))
]

pub listed-key : (q : QueryValue) (keys : Keys) (a : Attr) → Has (keys_from keys 0 q.from) a → IsKey q keys a
listed-key q keys a h =
    let r = unlisted keys 0 q.from a h in
    let e : r.0 ≡ a.stream = omega (arith, r.2) in
    record { place = omega (arith, r.1, e); key = subst (λ n. keys (slice_index_or q.from n 0) ≡ Some a.column) e r.3 }

-- all keys are equal to the first
head-equal : (q : QueryValue) (h : Attr) (others : List Attr) → list_all (are_linked q h) others ≡ true → (v : Assignment) → Fits q v
    → (a : Attr) → Has (h ∷ others) a → v h ≡ v a
head-equal q h others l v f a i = elim (has_cases h a others i) [
  | inl e ↦ ap v e
  | inr k ↦ linked-equal q v f h a (all_at (are_linked q h) others a l k)
]

pub linked-keys : LinkedKeysAreEqual
linked-keys q keys l = by (keys_from keys 0 q.from) l (λ a h. listed-key q keys a h) (λ a i. key-listed q keys a i)
  where
    by : (ks : List Attr) → all_linked q ks ≡ true → ((a : Attr) → Has ks a → IsKey q keys a) → ((a : Attr) → IsKey q keys a → Has ks a)
        → AreEqualKeys q keys
    by [] l to of = absurd cc
    by (h ∷ others) l to of = record {
      some = (h, to h first);
      equal = λ a b i j v f. sym (head-equal q h others l v f a (of a i)) ∙ head-equal q h others l v f b (of b j);
    }

pub selected-told : SelectedKeysAreTold
selected-told q keys equal t a key v w f g e =
    let k = any_from (λ key. list_any (are_linked q key) q.select) (keys_from keys 0 q.from) t in
    let s = any_from (are_linked q k.0) q.select k.2 in
    let i : IsKey q keys k.0 = listed-key q keys k.0 k.1 in
    equal.equal a k.0 key i v f ∙ linked-equal q v f k.0 s.0 s.2 ∙ same_at v w e s.1
    ∙ sym (linked-equal q w g k.0 s.0 s.2) ∙ sym (equal.equal a k.0 key i w g)

pub equal-in-parts : EqualInParts
equal-in-parts q parts are a b = (
  λ equal s k. record { equal = λ v i. equal v (record { keeps = i.domains; holds = i.holds }) },
  λ each v f.
      (let i : InPart q (signs_of q v) v = record { holds = f.holds; domains = f.keeps; signs = refl } in
      (each (signs_of q v) (are.all (signs_of q v) (record { one = v; inside = i }))).equal v i),
)

pub parts-tell : PartsTell
parts-tell q keys parts equal are a key tell b key_b v w f g e =
    equal.equal b a key_b key v f ∙ by (signs_of q v) (signs_of q w) refl refl (tell (signs_of q v) (signs_of q w) (among v f) (among w g))
    ∙ equal.equal a b key key_b w g
  where
    inside : (v : Assignment) → Fits q v → InPart q (signs_of q v) v
    inside v f = record { holds = f.holds; domains = f.keeps; signs = refl }

    among : (v : Assignment) → Fits q v → Contains parts (signs_of q v)
    among v f = are.all (signs_of q v) (record { one = v; inside = inside v f })

    by : (s t : List Sign) → signs_of q v ≡ s → signs_of q w ≡ t → TellsIn q a s t → v a ≡ w a
    by s t m n (same c k x y) =
        x.equal v (subst (λ s. InPart q s v) m (inside v f)) ∙ same_at v w e (Has-from_contains q.select c k)
        ∙ sym (y.equal w (subst (λ t. InPart q t w) n (inside w g)))
    by s t m n (fixed x h) = h v (inl (subst (λ s. InPart q s v) m (inside v f))) ∙ sym (h w (inr (subst (λ t. InPart q t w) n (inside w g))))

-- FROM names a stream once
three : (i j : ℕ) → ((i ≡ j) ⊎ ((i < j) ⊎ (j < i)))
three i j = grind arith

pub same-place : (from : List ℕ) → AllPairs (λ x y. x ≢ y) from → (i j : ℕ) → i < length from → j < length from
    → slice_index_or from i 0 ≡ slice_index_or from j 0 → i ≡ j
same-place from d i j l m e = elim (three i j) [
  | inl k ↦ k
  | inr o ↦ elim o [ inl k ↦ absurd (d i j 0 k m e) | inr k ↦ absurd (d j i 0 k l (sym e)) ]
]

-- one stream has a key
pub one-alone : OneKeyAlone
one-alone q place column within l = record {
  some = (record { stream = place; column = column }, record { place = l; key = itself_is });
  equal = λ a b i j v f. ap v (only a i ∙ sym (only b j));
}
  where
    stream : ℕ
    stream = slice_index_or q.from place 0

    itself_is : alone stream column stream ≡ Some column
    itself_is = let e : (stream == stream) ≡ true = grind arith in ap (λ b. cond b (Some column) None) e

    only : (a : Attr) → IsKey q (alone stream column) a → a ≡ record { stream = place; column = column }
    only a i = by (slice_index_or q.from a.stream 0 == stream) refl i.key
      where
        by : (b : Bool) → (slice_index_or q.from a.stream 0 == stream) ≡ b → cond b (Some column) None ≡ Some a.column
            → a ≡ record { stream = place; column = column }
        by true e f =
            let g : slice_index_or q.from a.stream 0 ≡ stream = nat_true _ _ e in
            let c : column ≡ a.column = cc in
            let n : a.stream ≡ place = same-place q.from (query_within q within).once a.stream place i.place l g in
            λ t. record { stream = n t; column = sym c t }
        by false e f = absurd cc
