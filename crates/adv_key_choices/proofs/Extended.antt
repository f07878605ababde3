-- Choices of which one stream more has a key or none.
use Rattle.std.proofs.Common.{◌≡◌, ◌≢◌, ℕ, ◌+◌, ◌<◌, ◌≤◌, ◌⊎◌, inl, inr, List, [], ◌∷◌, ◌++◌, length, take, slice_index_or, Contains, Option, None, Some, refl, sym, ap, ◌∙◌, subst, arith}
use Rattle.std.specs.Prelude.{slice_set}
use Rattle.std.proofs.lemmas.List.Elements.{Contains-get_or}
use Rattle.std.proofs.lemmas.List.{get_or-set_same, get_or-set_other, length-set}
use Rattle.sem_query.specs.declared.atom.Attr.{Attr}
use Rattle.sem_query.specs.Query.{QueryValue}
use Rattle.sem_sharding.specs.Keys.{Keys, IsKey}
use Rattle.adv_key_choices.specs.declared.choice.Choice.{Choice}
use Rattle.adv_key_choices.specs.declared.choice.KeyedQuery.{KeyedQuery}
use Rattle.adv_key_choices.specs.Choices.{keys_in, IsExact}
use Rattle.adv_key_choices.specs.Extending.{with_key, AddsExact, AddsEach, IsColumnOf, IsKeyOf, AddsKeys, AddsExtensions, IsExactUpTo, AreExactUpTo}
use Rattle.adv_key_choices.proofs.Listed.{last-or-before, stays, stands-last, old-or-last, among-more, among-all, set-back}

-- a key that fewer keys have
more-key : (q : QueryValue) (c p : Keys) → ((s column : ℕ) → p s ≡ Some column → c s ≡ Some column) → (a : Attr) → IsKey q p a → IsKey q c a
more-key q c p f a i = record { place = i.place; key = f _ a.column i.key }

module _ (queries : List KeyedQuery) where
  -- fewer keys tear no query more
  pub exact-fewer : (c p : Choice) → ((s column : ℕ) → keys_in p s ≡ Some column → keys_in c s ≡ Some column) → IsExact queries c → IsExact queries p
  exact-fewer c p f e = λ k d l t. e k d l (record {
    left = t.left;
    right = t.right;
    key = more-key _ (keys_in c) (keys_in p) f t.left t.key;
    other = more-key _ (keys_in c) (keys_in p) f t.right t.other;
    unequal = t.unequal;
  })

  pub adds-nothing : (choice : Choice) (old : List Choice) → ¬ IsExact queries choice → AddsExact queries choice old old
  adds-nothing choice old n = record { kept = λ c h. h; each = λ c h. inl h; added = λ e. absurd (n e) }

  pub adds-one : (choice : Choice) (old new : List Choice) → IsExact queries choice → new ≡ old ++ choice ∷ [] → AddsExact queries choice old new
  adds-one choice old new e is = record {
    kept = λ c h. stays old new choice c is h;
    each = λ c h. elim (old-or-last old new choice c is h) [ inl k ↦ inl k | inr m ↦ inr (m, e) ];
    added = λ x. stands-last old new choice is;
  }

  pub adds-same : (x y : Choice) (old new : List Choice) → x ≡ y → AddsExact queries x old new → AddsExact queries y old new
  adds-same x y old new e a = subst (λ (z : Choice). AddsExact queries z old new) e a

  pub up-to-same : (widths : List ℕ) (n m : ℕ) (list : List Choice) → n ≡ m → AreExactUpTo queries widths n list → AreExactUpTo queries widths m list
  up-to-same widths n m list e a = subst (λ (z : ℕ). AreExactUpTo queries widths z list) e a

  module _ (choice : Choice) (stream : ℕ) where
    no-column : (key : Option ℕ) → IsColumnOf 0 key → {R : Type 0} → R
    no-column None o = absurd o
    no-column (Some column) o = absurd (omega (arith, o))

    one-wider : (n m : ℕ) (key : Option ℕ) → n ≤ m → IsColumnOf n key → IsColumnOf m key
    one-wider n m None l o = absurd o
    one-wider n m (Some column) l o = omega (arith, l, o)

    some-key : (n : ℕ) (key : Option ℕ) → IsColumnOf n key → IsKeyOf n key
    some-key n None o = absurd o
    some-key n (Some column) o = o

    pub each-none : (list : List Choice) → AddsEach queries choice stream (IsColumnOf 0) list list
    each-none list = record { kept = λ c h. h; each = λ c h. inl h; added = λ key o e. no-column key o }

    pub each-more : (n : ℕ) (old mid new : List Choice) → AddsEach queries choice stream (IsColumnOf n) old mid → AddsExact queries (with_key choice stream (Some n)) mid new
        → AddsEach queries choice stream (IsColumnOf (n + 1)) old new
    each-more n old mid new a b = record {
      kept = λ c h. b.kept c (a.kept c h);
      each = λ c h. elim (b.each c h) [
        | inl m ↦ elim (a.each c m) [ inl o ↦ inl o | inr w ↦ inr (w.0, one-wider n (n + 1) w.0 (omega arith) w.1, w.2, w.3) ]
        | inr w ↦ inr (Some n, omega arith, w.0, subst (IsExact queries) (sym w.0) w.1)
      ];
      added = λ key o e. by key o e;
    }
      where
        by : (key : Option ℕ) → IsColumnOf (n + 1) key → IsExact queries (with_key choice stream key) → Contains new (with_key choice stream key)
        by None o e = absurd o
        by (Some column) o e = elim (last-or-before column n o) [
          | inl l ↦ b.kept _ (a.added (Some column) l e)
          | inr m ↦
              subst (λ (z : ℕ). Contains new (with_key choice stream (Some z))) (sym m)
              (b.added (subst (λ (z : ℕ). IsExact queries (with_key choice stream (Some z))) m e))
        ]

    pub each-all : (n width : ℕ) (old new : List Choice) → n ≤ width → width ≤ n → AddsEach queries choice stream (IsColumnOf n) old new → AddsKeys queries choice stream width old new
    each-all n width old new l m a = record {
      kept = a.kept;
      each = λ c h. elim (a.each c h) [ inl o ↦ inl o | inr w ↦ inr (w.0, one-wider n width w.0 l w.1, w.2, w.3) ];
      added = λ key o e. a.added key (one-wider width n key m o) e;
    }

    pub extensions : (width : ℕ) (old mid new : List Choice) → AddsKeys queries choice stream width old mid → AddsExact queries (with_key choice stream None) mid new
        → AddsExtensions queries choice stream width old new
    extensions width old mid new a b = record {
      kept = λ c h. b.kept c (a.kept c h);
      each = λ c h. elim (b.each c h) [
        | inl m ↦ elim (a.each c m) [ inl o ↦ inl o | inr w ↦ inr (w.0, some-key width w.0 w.1, w.2, w.3) ]
        | inr w ↦ inr (None, tt, w.0, subst (IsExact queries) (sym w.0) w.1)
      ];
      added = λ key o e. by key o e;
    }
      where
        by : (key : Option ℕ) → IsKeyOf width key → IsExact queries (with_key choice stream key) → Contains new (with_key choice stream key)
        by None o e = b.added e
        by (Some column) o e = b.kept _ (a.added (Some column) o e)

module _ (queries : List KeyedQuery) (widths : List ℕ) (n : ℕ) where
  -- the extensions of some choices are among others
  pub record AreExtended (choices list : List Choice) : Type 0 where
    pub each : (c : Choice) → Contains list c → IsExactUpTo queries widths (n + 1) c
    pub all : (p : Choice) (key : Option ℕ) → Contains choices p → IsKeyOf (slice_index_or widths n 0) key → IsExact queries (with_key p n key) → Contains list (with_key p n key)

  key-kept : (width : ℕ) (key : Option ℕ) (column : ℕ) → IsKeyOf width key → key ≡ Some column → column < width
  key-kept width None column o e = absurd cc
  key-kept width (Some x) column o e = let f : x ≡ column = cc in subst (λ (z : ℕ). z < width) f o

  same-or-other : (i j : ℕ) → (i ≡ j) ⊎ (i ≢ j)
  same-or-other i j = grind arith

  -- an extension of a choice up to n is one up to n + 1
  extension-is : n < 16 → (p : Choice) (key : Option ℕ) → IsExactUpTo queries widths n p → IsKeyOf (slice_index_or widths n 0) key → IsExact queries (with_key p n key)
      → IsExactUpTo queries widths (n + 1) (with_key p n key)
  extension-is few p key h o e = record {
    choice = record { room = length-set p.keys n key ∙ h.choice.room; inside = λ s column f. inside s column f (same-or-other s n) };
    later = λ s column f. elim (same-or-other s n) [
      | inl m ↦ omega (arith, m)
      | inr m ↦ (let l = h.later s column (sym (get_or-set_other p.keys n s key None m) ∙ f) in omega (arith, l))
    ];
    exact = e;
  }
    where
      at : slice_index_or (slice_set p.keys n key) n None ≡ key
      at = get_or-set_same p.keys n key None (omega (arith, few, h.choice.room))

      inside : (s column : ℕ) → keys_in (with_key p n key) s ≡ Some column → (s ≡ n) ⊎ (s ≢ n) → column < slice_index_or widths s 0
      inside s column f (inl m) =
          let g : key ≡ Some column = sym at ∙ ap (λ (z : ℕ). keys_in (with_key p n key) z) (sym m) ∙ f in
          subst (λ (z : ℕ). column < slice_index_or widths z 0) (sym m) (key-kept (slice_index_or widths n 0) key column o g)
      inside s column f (inr m) = h.choice.inside s column (sym (get_or-set_other p.keys n s key None m) ∙ f)

  pub extended-none : AreExtended [] []
  extended-none = record { each = λ c h. absurd (omega (arith, h.1)); all = λ p key h o e. absurd (omega (arith, h.1)) }

  pub extended-more : n < 16 → (choices old new : List Choice) (i : ℕ) (d : Choice) → AreExactUpTo queries widths n choices → i < length choices
      → AreExtended (take i choices) old → AddsExtensions queries (slice_index_or choices i d) n (slice_index_or widths n 0) old new
      → AreExtended (take (i + 1) choices) new
  extended-more few choices old new i d are l a b = record {
    each = λ c h. elim (b.each c h) [
      | inl m ↦ a.each c m
      | inr w ↦
          subst (IsExactUpTo queries widths (n + 1)) (sym w.2)
          (extension-is few (slice_index_or choices i d) w.0 (are.each _ (Contains-get_or choices i d l)) w.1 (subst (IsExact queries) w.2 w.3))
    ];
    all = λ p key h o e. elim (among-more choices i d p l h) [
      | inl m ↦ b.kept _ (a.all p key m o e)
      | inr m ↦
          subst (λ (z : Choice). Contains new (with_key z n key)) (sym m)
          (b.added key o (subst (λ (z : Choice). IsExact queries (with_key z n key)) m e))
    ];
  }

  -- the keys that are left where that of the last stream is taken away
  fewer-keys : n < 16 → (c : Choice) → length c.keys ≡ 16 → (s column : ℕ) → keys_in (with_key c n None) s ≡ Some column → (s ≡ n) ⊎ (s ≢ n) → (s ≢ n) × (keys_in c s ≡ Some column)
  fewer-keys few c room s column f (inl m) =
      let at : keys_in (with_key c n None) n ≡ None = get_or-set_same c.keys n None None (omega (arith, few, room)) in
      let g : None ≡ Some column = sym at ∙ ap (λ (z : ℕ). keys_in (with_key c n None) z) (sym m) ∙ f in
      absurd cc
  fewer-keys few c room s column f (inr m) = (m, sym (get_or-set_other c.keys n s None None m) ∙ f)

  key-of : (width : ℕ) (key : Option ℕ) → ((column : ℕ) → key ≡ Some column → column < width) → IsKeyOf width key
  key-of width None f = tt
  key-of width (Some column) f = f column refl

  one-fewer : n < 16 → (c : Choice) → IsExactUpTo queries widths (n + 1) c → IsExactUpTo queries widths n (with_key c n None)
  one-fewer few c h = record {
    choice = record {
      room = length-set c.keys n None ∙ h.choice.room;
      inside = λ s column f. h.choice.inside s column (fewer-keys few c h.choice.room s column f (same-or-other s n)).1;
    };
    later = λ s column f. (let g = fewer-keys few c h.choice.room s column f (same-or-other s n) in let m = h.later s column g.1 in let o = g.0 in grind (arith, m, o));
    exact = exact-fewer queries c (with_key c n None) (λ s column f. (fewer-keys few c h.choice.room s column f (same-or-other s n)).1) h.exact;
  }

  set-again : n < 16 → (c : Choice) → length c.keys ≡ 16 → with_key (with_key c n None) n (keys_in c n) ≡ c
  set-again few c room = ap (λ (z : List (Option ℕ)). record { keys = z }) (set-back c.keys n None None (omega (arith, few, room)))

  -- they are all exact choices up to the next stream
  pub extended-all : n < 16 → (choices list : List Choice) (i : ℕ) → AreExactUpTo queries widths n choices → length choices ≤ i
      → AreExtended (take i choices) list → AreExactUpTo queries widths (n + 1) list
  extended-all few choices list i are l a = record {
    each = a.each;
    all = λ c h. subst (Contains list) (set-again few c h.choice.room)
        (a.all (with_key c n None) (keys_in c n) (among-all choices i (with_key c n None) l (are.all (with_key c n None) (one-fewer few c h)))
        (key-of (slice_index_or widths n 0) (keys_in c n) (λ column f. h.choice.inside n column f))
        (subst (IsExact queries) (sym (set-again few c h.choice.room)) h.exact));
  }
