-- Equalities between dims of different streams, one after another.
use Rattle.std.proofs.Common.{◌≡◌, ℕ, zero, suc, ◌+◌, ◌-◌, ◌*◌, ◌<◌, ◌≤◌, ◌⊎◌, inl, inr, ◌↔◌, IsTrue, List, [], ◌∷◌, ◌++◌, length, length-append, take, slice_index_or, Contains, AllPairs, Option, None, Some, Bool, true, false, cond, refl, sym, ◌∙◌, ap, subst, arith}
use Rattle.std.proofs.lemmas.Int.{ints}
use Rattle.std.proofs.lemmas.Bool.Decides.{nat_tests}
use Rattle.std.proofs.lemmas.List.{take_more, take_all}
use Rattle.sem_query.specs.declared.atom.Attr.{Attr}
use Rattle.sem_query.specs.declared.plan.Dim.{Dim}
use Rattle.sem_query.specs.declared.plan.Link.{Link}
use Rattle.sem_query.specs.Members.{Has, first, later, Ascends, none, more}
use Rattle.sem_query.specs.Plan.{link, link_lt}
use Rattle.sem_query.specs.Query.{QueryValue, attr_lt}
use Rattle.sem_query.proofs.Has.{Has-nil, Has-from_contains, Contains-from_has, Has-append_left, Has-append_right, Has-append_cases}
use Rattle.sem_query.proofs.Split.{pairs_from}
use Rattle.sem_laws.proofs.OnePartFits.{has_cases}
use Rattle.plan_whole_form.specs.declared.part.WholeStream.{WholeStream}
use Rattle.sem_forms.specs.Part.{AreEqualDims}
use Rattle.plan_forms.specs.Equated.{IsEqual, IsNamed, IsEqualFrom, IsFound, AreClasses, AreAdded, dims_of, with_found, most_before, SaysOne, SaysOf, AreEquals, AreStreams, AreBefore}

-- ---- lists

at_place : {A : Type 0} (xs : List A) (i : ℕ) (d : A) → i < length xs → Has xs (slice_index_or xs i d)
at_place [] i d l = absurd (omega (arith, l))
at_place (x ∷ xs) zero d l = first
at_place (x ∷ xs) (suc i) d l = later (at_place xs i d (omega (arith, l)))

ascends_on : {A : Type 0} (lt : A → A → Bool) (xs : List A) (y : A) → Ascends lt xs → ((x : A) → Has xs x → lt x y ≡ true) → Ascends lt (xs ++ y ∷ [])
ascends_on lt [] y a f = more (λ z h. Has-nil h) none
ascends_on lt (x ∷ xs) y (more g a) f =
    more (λ z h. elim (Has-append_cases xs (y ∷ []) z h) [
      | inl i ↦ g z i
      | inr i ↦ elim (has_cases y z [] i) [ inl e ↦ subst (λ w. lt x w ≡ true) e (f x first) | inr n ↦ Has-nil n ]
    ]) (ascends_on lt xs y a (λ z h. f z (later h)))

-- those before a place come before it
ascends_before : {A : Type 0} (lt : A → A → Bool) (xs : List A) (i : ℕ) (d x : A) → i < length xs → Ascends lt xs → Has (take i xs) x → lt x (slice_index_or xs i d) ≡ true
ascends_before lt [] i d x l a h = absurd (omega (arith, l))
ascends_before lt (y ∷ xs) zero d x l a h = Has-nil h
ascends_before lt (y ∷ xs) (suc i) d x l (more g a) h = elim (has_cases y x (take i xs) h) [
  | inl e ↦ subst (λ z. lt z (slice_index_or xs i d) ≡ true) e (g (slice_index_or xs i d) (at_place xs i d (omega (arith, l))))
  | inr k ↦ ascends_before lt xs i d x (omega (arith, l)) a k
]

-- ---- the order of links

link_later : (a b : Attr) (l : Link) → attr_lt l.left a ≡ true → link_lt l (link a b) ≡ true
link_later a b l h = ap (λ t. cond t true (cond (attr_lt a l.left) false (attr_lt l.right b))) h

attr_self : (a : Attr) → attr_lt a a ≡ false
attr_self a = grind (arith, nat_tests)

link_beside : (a b : Attr) (l : Link) → l.left ≡ a → attr_lt l.right b ≡ true → link_lt l (link a b) ≡ true
link_beside a b l e h =
    ap (λ z. cond (attr_lt z a) true (cond (attr_lt a z) false (attr_lt l.right b))) e
    ∙ ap (λ t. cond t true (cond t false (attr_lt l.right b))) (attr_self a)
    ∙ h

stream_before : (a b : Attr) → a.stream < b.stream → attr_lt a b ≡ true
stream_before a b l = grind (arith, nat_tests, l)

less_or : (m n : ℕ) → m ≤ n → (m < n) ⊎ (m ≡ n)
less_or zero zero l = inr refl
less_or zero (suc n) l = inl (omega arith)
less_or (suc m) zero l = absurd (omega (arith, l))
less_or (suc m) (suc n) l = elim (less_or m n (omega (arith, l))) [ inl k ↦ inl (omega (arith, k)) | inr k ↦ inr (ap suc k) ]

through : (q : QueryValue) (x y z : Attr) → IsEqual q x y → IsEqual q y z → IsEqual q x z
through q x y z g h = (
  λ v s. (let m = g.0 v s in let n = h.0 v s in omega (arith, ints, m, n)),
  λ v s. (let m = g.1 v s in let n = h.1 v s in omega (arith, ints, m, n)),
)

-- ---- how many

times_more : (k m c : ℕ) → c ≤ 3 → k < m → k * c + c ≤ m * c
times_more k m zero l n = omega (arith, n)
times_more k m (suc zero) l n = omega (arith, n)
times_more k m (suc (suc zero)) l n = omega (arith, n)
times_more k m (suc (suc (suc zero))) l n = omega (arith, n)
times_more k m (suc (suc (suc (suc c)))) l n = absurd (omega (arith, l))

times_next : (k c : ℕ) → c ≤ 3 → (k + 1) * c ≡ k * c + c
times_next k zero l = omega arith
times_next k (suc zero) l = omega arith
times_next k (suc (suc zero)) l = omega arith
times_next k (suc (suc (suc zero))) l = omega arith
times_next k (suc (suc (suc (suc c)))) l = absurd (omega (arith, l))

most_next : (place : ℕ) → place < 4 → most_before place + 8 * (3 - place) ≤ most_before (place + 1)
most_next zero l = omega arith
most_next (suc zero) l = omega arith
most_next (suc (suc zero)) l = omega arith
most_next (suc (suc (suc zero))) l = omega arith
most_next (suc (suc (suc (suc place)))) l = absurd (omega (arith, l))

most_few : (place : ℕ) → most_before place ≤ 48
most_few zero = omega arith
most_few (suc zero) = omega arith
most_few (suc (suc zero)) = omega arith
most_few (suc (suc (suc place))) = omega arith

module _ (q : QueryValue) where
  -- ---- the dims of one stream

  pub none_yet : (a : Attr) → (b : Attr) → IsNamed [] b → ¬ IsEqual q a b
  none_yet a b n = Has-nil n.1

  pub found_not : (a : Attr) (dims : List Dim) (i : ℕ) (d : Dim) → i < length dims → ((b : Attr) → IsNamed (take i dims) b → ¬ IsEqual q a b) → ¬ IsEqual q a (slice_index_or dims i d).attr
      → (b : Attr) → IsNamed (take (i + 1) dims) b → ¬ IsEqual q a b
  found_not a dims i d l f n b h = elim (Has-append_cases (take i dims) (slice_index_or dims i d ∷ []) h.0 (subst (λ ds. Has ds h.0) (take_more dims i d l) h.1)) [
    | inl k ↦ f b (h.0, k, h.2)
    | inr k ↦ elim (has_cases (slice_index_or dims i d) h.0 [] k) [ inl e ↦ subst (λ z. ¬ IsEqual q a z) (ap (λ (z : Dim). z.attr) e ∙ h.2) n | inr m ↦ Has-nil m ]
  ]

  pub found_none : (a : Attr) (dims : List Dim) (i : ℕ) → length dims ≤ i → ((b : Attr) → IsNamed (take i dims) b → ¬ IsEqual q a b) → IsFound q a dims None
  found_none a dims i l f b h = f b (h.0, subst (λ ds. Has ds h.0) (sym (take_all i dims l)) h.1, h.2)

  pub found_some : (a : Attr) (dims : List Dim) (i : ℕ) (d : Dim) → i < length dims → IsEqual q a (slice_index_or dims i d).attr → IsFound q a dims (Some (slice_index_or dims i d).attr)
  found_some a dims i d l e = ((slice_index_or dims i d, at_place dims i d l, refl), e)

  module _ (streams : List WholeStream) (classes : AreClasses q streams) where
    -- ---- the equalities of one column

    pub equals_none : (old : List Link) (a : Attr) (from : ℕ) → Ascends link_lt old → AreEquals q streams old a from from old
    equals_none old a from asc = record {
      members = λ l. (λ h. inl h, λ h. elim h [ inl i ↦ i | inr s ↦ absurd (let x = s.1.1 in let y = s.1.2 in omega (arith, x, y)) ]);
      ascend = asc;
      few = omega arith;
    }

    pub equals_next : (old list new : List Link) (a : Attr) (from place : ℕ) (found : Option Attr) → from ≤ place → ((l : Link) → Has old l → attr_lt l.left a ≡ true)
        → AreEquals q streams old a from place list → IsFound q a (dims_of streams place) found → new ≡ with_found a found list → AreEquals q streams old a from (place + 1) new
    equals_next old list new a from place found low behind are is e = subst (AreEquals q streams old a from (place + 1)) (sym e) (by found is)
      where
        wider : (b : Attr) → IsEqualFrom q streams from place a b → IsEqualFrom q streams from (place + 1) a b
        wider b s = (s.0, s.1, (let x = s.2 in omega (arith, x)), s.3, s.4)

        by : (found : Option Attr) → IsFound q a (dims_of streams place) found → AreEquals q streams old a from (place + 1) (with_found a found list)
        by None f = record {
          members = λ l. (
            λ h. elim ((are.members l).0 h) [ inl i ↦ inl i | inr s ↦ inr (s.0, wider l.right s.1) ],
            λ h. (are.members l).1 (elim h [
              | inl i ↦ inl i
              | inr s ↦ inr (s.0, (s.1.0, s.1.1, before s.1.0 l.right s.1.2 s.1.3 s.1.4, s.1.3, s.1.4))
            ]),
          );
          ascend = are.ascend;
          few = (let x = are.few in omega (arith, x, low));
        }
          where
            before : (m : ℕ) (b : Attr) → m < place + 1 → IsNamed (dims_of streams m) b → IsEqual q a b → m < place
            before m b k n i = elim (less_or m place (omega (arith, k))) [
              | inl j ↦ j
              | inr j ↦ absurd (f b (subst (λ z. IsNamed (dims_of streams z) b) j n) i)
            ]
        by (Some b) f = record {
          members = λ l. (
            λ h. elim (Has-append_cases list (link a b ∷ []) l h) [
              | inl i ↦ elim ((are.members l).0 i) [ inl j ↦ inl j | inr s ↦ inr (s.0, wider l.right s.1) ]
              | inr i ↦ elim (has_cases (link a b) l [] i) [
                | inl g ↦ inr (subst (SaysOne q streams from (place + 1) a) g (refl, (place, low, (let z : place < place + 1 = omega arith in z), f.0, f.1)))
                | inr n ↦ Has-nil n
              ]
            ],
            λ h. elim h [
              | inl i ↦ Has-append_left (link a b ∷ []) ((are.members l).1 (inl i))
              | inr s ↦ elim (less_or s.1.0 place (let x = s.1.2 in omega (arith, x))) [
                | inl j ↦ Has-append_left (link a b ∷ []) ((are.members l).1 (inr (s.0, (s.1.0, s.1.1, j, s.1.3, s.1.4))))
                | inr j ↦ Has-append_right list (subst (λ z. Has (link a b ∷ []) z) (same l s.0 (one l.right (subst (λ z. IsNamed (dims_of streams z) l.right) j s.1.3) s.1.4)) first)
              ]
            ],
          );
          ascend = ascends_on link_lt list (link a b) are.ascend (λ m h. elim ((are.members m).0 h) [
            | inl i ↦ link_later a b m (behind m i)
            | inr s ↦ link_beside a b m s.0 (stream_before m.right b (let x = s.1.2 in let y = named s.1.0 m.right s.1.3 in let z = named place b f.0 in omega (arith, x, y, z)))
          ]);
          few = (let x = are.few in let y : length (list ++ link a b ∷ []) ≡ length list + 1 = length-append list (link a b ∷ []) in omega (arith, x, y, low));
        }
          where
            named : (m : ℕ) (c : Attr) → IsNamed (dims_of streams m) c → c.stream ≡ m
            named m c n = ap (λ (z : Attr). z.stream) (sym n.2) ∙ classes.here m n.0 n.1

            one : (c : Attr) → IsNamed (dims_of streams place) c → IsEqual q a c → b ≡ c
            one c n i = classes.apart place b c f.0 n (through q b a c (f.1.1, f.1.0) i)

            same : (l : Link) → l.left ≡ a → b ≡ l.right → link a b ≡ l
            same l g h = λ i. record { left = sym g i; right = h i }

    -- ---- those of one stream

    module _ (place : ℕ) (here : place < length streams) (small : length streams ≤ 4) where
      abbrev dims : List Dim
      dims = dims_of streams place

      pub streams_none : (old : List Link) → Ascends link_lt old → AreStreams q streams place old 0 old
      streams_none old asc = (
        record { members = λ l. (λ h. inl h, λ h. elim h [ inl i ↦ i | inr s ↦ Has-nil s.0.1 ]); ascend = asc; few = omega arith },
        omega arith,
      )

      pub streams_behind : (old list : List Link) (k : ℕ) (d : Dim) → k < length dims → ((l : Link) → Has old l → l.left.stream < place) → AreStreams q streams place old k list
          → (l : Link) → Has list l → attr_lt l.left (slice_index_or dims k d).attr ≡ true
      streams_behind old list k d l behind are m h = elim ((are.0.members m).0 h) [
        | inl i ↦ stream_before m.left (slice_index_or dims k d).attr (let x = behind m i in let y = classes.here place (slice_index_or dims k d) (at_place dims k d l) in omega (arith, x, y))
        | inr s ↦ subst (λ z. attr_lt z (slice_index_or dims k d).attr ≡ true) s.0.2 (ascends_before (λ (d e : Dim). attr_lt d.attr e.attr) dims k d s.0.0 l (classes.ascend place) s.0.1)
      ]

      pub streams_room : (old list : List Link) (k : ℕ) → k < length dims → length dims ≤ 8 → length old + 8 * (3 - place) ≤ 66 → AreStreams q streams place old k list → length list + (length streams - (place + 1)) ≤ 66
      streams_room old list k l eight room are =
          (let x = are.0.few in let y : k * (3 - place) + (3 - place) ≤ 8 * (3 - place) = times_more k 8 (3 - place) (omega arith) (omega (arith, l, eight)) in
          omega (arith, x, y, room, small, here))

      pub streams_next : (old list new : List Link) (k : ℕ) (d : Dim) → k < length dims → AreStreams q streams place old k list → AreEquals q streams list (slice_index_or dims k d).attr (place + 1) (length streams) new → AreStreams q streams place old (k + 1) new
      streams_next old list new k d l are added = (
        record {
          members = λ m. (
            λ h. elim ((added.members m).0 h) [
              | inl i ↦ elim ((are.0.members m).0 i) [ inl j ↦ inl j | inr s ↦ inr (wider m.left s.0, s.1) ]
              | inr s ↦ inr ((slice_index_or dims k d, subst (λ ds. Has ds (slice_index_or dims k d)) (sym (take_more dims k d l)) (Has-append_right (take k dims) first), sym s.0), subst (λ z. IsEqualFrom q streams (place + 1) (length streams) z m.right) (sym s.0) s.1)
            ],
            λ h. (added.members m).1 (elim h [
              | inl i ↦ inl ((are.0.members m).1 (inl i))
              | inr s ↦ elim (Has-append_cases (take k dims) (slice_index_or dims k d ∷ []) s.0.0 (subst (λ ds. Has ds s.0.0) (take_more dims k d l) s.0.1)) [
                | inl i ↦ inl ((are.0.members m).1 (inr ((s.0.0, i, s.0.2), s.1)))
                | inr i ↦ elim (has_cases (slice_index_or dims k d) s.0.0 [] i) [
                  | inl e ↦ inr (by m s.1 (sym s.0.2 ∙ ap (λ (z : Dim). z.attr) (sym e)))
                  | inr n ↦ Has-nil n
                ]
              ]
            ]),
          );
          ascend = added.ascend;
          few = (let x = are.0.few in let y = added.few in let z : (k + 1) * (3 - place) ≡ k * (3 - place) + (3 - place) = times_next k (3 - place) (omega arith) in omega (arith, x, y, z, small, here));
        },
        omega (arith, l),
      )
        where
          wider : (a : Attr) → IsNamed (take k dims) a → IsNamed (take (k + 1) dims) a
          wider a n = (n.0, subst (λ ds. Has ds n.0) (sym (take_more dims k d l)) (Has-append_left (slice_index_or dims k d ∷ []) n.1), n.2)

          by : (m : Link) → IsEqualFrom q streams (place + 1) (length streams) m.left m.right → m.left ≡ (slice_index_or dims k d).attr
              → (m.left ≡ (slice_index_or dims k d).attr) × IsEqualFrom q streams (place + 1) (length streams) (slice_index_or dims k d).attr m.right
          by m s e = (e, subst (λ z. IsEqualFrom q streams (place + 1) (length streams) z m.right) e s)

      pub streams_all : (old new : List Link) (k : ℕ) → length dims ≤ k → length dims ≤ 8 → AreStreams q streams place old k new → AreAdded old (SaysOf q streams place dims) (8 * (3 - place)) new
      streams_all old new k l eight are = record {
        members = λ m. (
          λ h. elim ((are.0.members m).0 h) [ inl i ↦ inl i | inr s ↦ inr (subst (λ ds. IsNamed ds m.left) (take_all k dims l) s.0, s.1) ],
          λ h. (are.0.members m).1 (elim h [ inl i ↦ inl i | inr s ↦ inr (subst (λ ds. IsNamed ds m.left) (sym (take_all k dims l)) s.0, s.1) ]),
        );
        ascend = are.0.ascend;
        few = (let x = are.0.few in let y = are.1 in let z : k * (3 - place) ≤ 8 * (3 - place) = at_most k (3 - place) (omega arith) (omega (arith, y, eight)) in omega (arith, x, z));
      }
        where
          at_most : (k c : ℕ) → c ≤ 3 → k ≤ 8 → k * c ≤ 8 * c
          at_most k zero l n = omega (arith, n)
          at_most k (suc zero) l n = omega (arith, n)
          at_most k (suc (suc zero)) l n = omega (arith, n)
          at_most k (suc (suc (suc zero))) l n = omega (arith, n)
          at_most k (suc (suc (suc (suc c)))) l n = absurd (omega (arith, l))

    -- ---- those of all streams

    pub before_none : AreBefore q streams 0 []
    before_none = (record { members = λ l. (λ h. inl h, λ h. elim h [ inl i ↦ i | inr s ↦ absurd (let x = s.1 in omega (arith, x)) ]); ascend = none; few = omega arith }, omega arith)

    named : (place : ℕ) (a : Attr) → IsNamed (dims_of streams place) a → a.stream ≡ place
    named place a n = ap (λ (z : Attr). z.stream) (sym n.2) ∙ classes.here place n.0 n.1

    pub before_behind : (place : ℕ) (list : List Link) → AreBefore q streams place list → (l : Link) → Has list l → l.left.stream < place
    before_behind place list are l h = elim ((are.0.members l).0 h) [
      | inl i ↦ Has-nil i
      | inr s ↦ (let x = s.1 in let y = named s.0 l.left s.2.0 in omega (arith, x, y))
    ]

    pub before_room : (place : ℕ) (list : List Link) → AreBefore q streams place list → place < 4 → length list + 8 * (3 - place) ≤ 66
    before_room place list are l = (let x = are.0.few in let y = most_next place l in let z = most_few (place + 1) in omega (arith, x, y, z))

    pub before_next : (place : ℕ) (list new : List Link) → place < length streams → length streams ≤ 4 → AreBefore q streams place list
        → AreAdded list (SaysOf q streams place (dims_of streams place)) (8 * (3 - place)) new → AreBefore q streams (place + 1) new
    before_next place list new l small are added = (
      record {
        members = λ m. (
          λ h. elim ((added.members m).0 h) [
            | inl i ↦ elim ((are.0.members m).0 i) [ inl j ↦ inl j | inr s ↦ inr (s.0, (let x = s.1 in omega (arith, x)), s.2) ]
            | inr s ↦ inr (place, (let x : place < place + 1 = omega arith in x), s)
          ],
          λ h. (added.members m).1 (elim h [
            | inl i ↦ inl ((are.0.members m).1 (inl i))
            | inr s ↦ elim (less_or s.0 place (let x = s.1 in omega (arith, x))) [
              | inl j ↦ inl ((are.0.members m).1 (inr (s.0, j, s.2)))
              | inr j ↦ inr (subst (λ p. SaysOf q streams p (dims_of streams p) m) j s.2)
            ]
          ]),
        );
        ascend = added.ascend;
        few = (let x = are.0.few in let y = added.few in let z = most_next place (omega (arith, l, small)) in omega (arith, x, y, z));
      },
      omega (arith, l),
    )

    -- no dim is beyond the streams
    inside : (place : ℕ) (a : Attr) → IsNamed (dims_of streams place) a → place < length streams
    inside place a n = by streams place n.0 n.1
      where
        by : (ss : List WholeStream) (place : ℕ) (d : Dim) → Has (dims_of ss place) d → place < length ss
        by [] zero d h = Has-nil h
        by [] (suc place) d h = Has-nil h
        by (s ∷ ss) zero d h = omega arith
        by (s ∷ ss) (suc place) d h = (let l = by ss place d h in omega (arith, l))

    pub before_all : (place : ℕ) (list : List Link) → length streams ≤ place → AreBefore q streams place list → (a b : Attr) → Contains list (link a b) ↔ AreEqualDims q (dims_of streams) a b
    before_all place list l are a b = (
      λ c. elim ((are.0.members (link a b)).0 (Has-from_contains list (link a b) c)) [
        | inl i ↦ Has-nil i
        | inr s ↦ (let x = named s.0 a s.2.0 in let y = named s.2.1.0 b s.2.1.3 in let m = s.2.1.1 in
            record {
              before = omega (arith, x, y, m);
              left = subst (λ p. IsNamed (dims_of streams p) a) (sym x) s.2.0;
              right = subst (λ p. IsNamed (dims_of streams p) b) (sym y) s.2.1.3;
              below = s.2.1.4.0;
              above = s.2.1.4.1;
            })
      ],
      λ e. Contains-from_has list (link a b) ((are.0.members (link a b)).1 (inr (
        a.stream,
        (let x = e.before in let y = inside b.stream b e.right in omega (arith, x, y, l)),
        (e.left, (b.stream, (let x = e.before in omega (arith, x)), inside b.stream b e.right, e.right, (e.below, e.above))),
      ))),
    )

    pub before_ascend : (place : ℕ) (list : List Link) → AreBefore q streams place list → AllPairs (λ l m. IsTrue (link_lt l m)) list
    before_ascend place list are = pairs_from link_lt list are.0.ascend
