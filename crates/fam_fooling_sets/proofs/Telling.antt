-- Rows that are made from assignments of one part tell each set of them.
use Rattle.std.proofs.Common.{◌≡◌, ◌≢◌, ℕ, zero, suc, ◌<◌, ◌≤◌, ◌==◌, ◌⊎◌, inl, inr, nat_eq, List, [], ◌∷◌, ◌++◌, map, filter, length, cond, Bool, true, false, refl, sym, ap, ◌∙◌, subst, arith, ℤ, pos, slice_index_or, Contains}
use Rattle.std.proofs.lemmas.Bool.Decides.{nat_tests}
use Rattle.std.proofs.lemmas.List.{length-map, map-append}
use Rattle.std.proofs.lemmas.List.Elements.{filter-append}
use Rattle.sem_query.specs.declared.atom.Attr.{Attr}
use Rattle.sem_query.specs.declared.atom.Domain.{Domain}
use Rattle.sem_query.specs.declared.atom.Element.{Element}
use Rattle.sem_query.specs.declared.atom.Element.TheVariants as element
use Rattle.sem_query.specs.declared.condition.Condition.{Condition}
use Rattle.sem_query.specs.declared.condition.Condition.TheVariants.{C1, C2, C3}
use Rattle.sem_query.specs.declared.part.Pair.{Pair}
use Rattle.sem_query.specs.declared.part.Sign.{Sign}
use Rattle.sem_query.specs.Query.{QueryValue, attrs_of, consts_of, attr_eq, IsWithinLimits}
use Rattle.sem_query.specs.Assignment.{Assignment, value, compares, Holds, holds, projected, lies_in, KeepsDomains}
use Rattle.sem_query.specs.Meaning.{Arrival, rows, product, by_column, at_place, assignment_of, answers}
use Rattle.sem_query.specs.Parts.{pairs, sign, sign_at, signs_of, InPart}
use Rattle.sem_query.specs.Cells.{upto}
use Rattle.sem_query.specs.Violation.{Breaks}
use Rattle.sem_query.proofs.Has.{Has, first, later, Has-from_contains, Contains-from_has, Has-map, Has-filter, Has-map_from, Has-filter_from, same_at, same_map}
use Rattle.sem_query.proofs.Domains.{keeps_each, each_keeps}
use Rattle.sem_query.proofs.Holding.{Holds-each, Holds-from_each}
use Rattle.sem_query.proofs.Elements.{HasElement, SidesIn, sides_in}
use Rattle.sem_laws.proofs.Queries.{IsQuery, query_within}
use Rattle.sem_laws.proofs.Tests.{attr_eq-itself, attr_eq-is, filter-passes, nat_true, true_or_false, not_both, append-nothing}
use Rattle.sem_laws.proofs.OnePartFits.{has_cases}
use Rattle.sem_laws.proofs.Extremes.{flat_map-from, has-flat_map}
use Rattle.sem_laws.proofs.LaidOut.{length-upto, get-upto}
use Rattle.fam_fooling_sets.specs.Family.{alone, FamilyValue, marked, row_at, asking_at, as_arrival, history_of, place_in, Shows, value as by_value, some, each, Asks, itself, others}
use Rattle.fam_motions.specs.Apart.{Differ}
use Rattle.fam_fooling_sets.specs.Making.{HasSolutions, IsMade}
use Rattle.fam_fooling_sets.specs.Laws.{IsLocalTo, IsLocal, AreLocalFor, FamiliesTell}

-- the members of a nested product, place by place
pub record InProduct {X : Type 0} (ls : List (List X)) (c : List X) : Type 0 where
  pub size : length c ≡ length ls
  pub at : (place : ℕ) (d : X) (e : List X) → place < length ls → Has (slice_index_or ls place e) (slice_index_or c place d)

pub product-at : {X : Type 0} (ls : List (List X)) (c : List X) → Has (product ls) c → InProduct ls c
product-at [] c h = elim (has_cases [] c [] h) [
  | inl e ↦ subst (λ x. InProduct [] x) e record { size = refl; at = λ place d e l. absurd (omega (arith, l)) }
  | inr k ↦ elim k [ ]
]
product-at {X} (xs ∷ ls) c h =
    let m = flat_map-from (λ x. map (λ cs. x ∷ cs) (product ls)) xs c h in
    let u = Has-map_from (λ cs. m.0 ∷ cs) (product ls) c m.2 in
    let r = product-at ls u.0 u.1 in
    subst (λ (z : List X). InProduct (xs ∷ ls) z) u.2 record { size = (let s = r.size in omega (arith, s)); at = λ place d e l. here m.0 u.0 m.1 r place d e l }
  where
    here : (x : X) (cs : List X) → Has xs x → InProduct ls cs → (place : ℕ) (d : X) (e : List X) → place < length (xs ∷ ls)
        → Has (slice_index_or (xs ∷ ls) place e) (slice_index_or (x ∷ cs) place d)
    here x cs k r zero d e l = k
    here x cs k r (suc place) d e l = r.at place d e (omega (arith, l))

pub product-has : {X : Type 0} (ls : List (List X)) (c : List X) → InProduct ls c → Has (product ls) c
product-has [] [] p = first
product-has [] (x ∷ c) p = absurd (let s = p.size in omega (arith, s))
product-has (xs ∷ ls) [] p = absurd (let s = p.size in omega (arith, s))
product-has (xs ∷ ls) (x ∷ c) p =
    has-flat_map (λ y. map (λ cs. y ∷ cs) (product ls)) xs x (x ∷ c) (p.at 0 x xs (omega arith))
    (Has-map (λ cs. x ∷ cs) (product-has ls c record { size = (let s = p.size in omega (arith, s)); at = λ place d e l. p.at (suc place) d e (omega (arith, l)) }))

-- marked members
pub marked-from : {X : Type 0} (bs : List Bool) (xs : List X) (x : X) → Has (marked bs xs) x
    → (j : ℕ) × (j < length xs) × (slice_index_or bs j false ≡ true) × ((d : X) → slice_index_or xs j d ≡ x)
marked-from [] xs x h = elim h [ ]
marked-from (b ∷ bs) [] x h = elim h [ ]
marked-from {X} (b ∷ bs) (y ∷ xs) x h = by b h (marked-from bs xs x)
  where
    by : (b : Bool) → Has (cond b (y ∷ marked bs xs) (marked bs xs)) x
        → (Has (marked bs xs) x → (j : ℕ) × (j < length xs) × (slice_index_or bs j false ≡ true) × ((d : X) → slice_index_or xs j d ≡ x))
        → (j : ℕ) × (j < suc (length xs)) × (slice_index_or (b ∷ bs) j false ≡ true) × ((d : X) → slice_index_or (y ∷ xs) j d ≡ x)
    by true h f = elim (has_cases y x (marked bs xs) h) [
      | inl e ↦ (0, omega arith, refl, λ d. e)
      | inr k ↦ (let r = f k in (suc r.0, (let l = r.1 in omega (arith, l)), r.2, r.3))
    ]
    by false h f = let r = f h in (suc r.0, (let l = r.1 in omega (arith, l)), r.2, r.3)

pub marked-has : {X : Type 0} (bs : List Bool) (xs : List X) (j : ℕ) (d : X) → j < length xs → slice_index_or bs j false ≡ true → Has (marked bs xs) (slice_index_or xs j d)
marked-has [] xs j d l e = absurd cc
marked-has (b ∷ bs) [] j d l e = absurd (omega (arith, l))
marked-has (b ∷ bs) (x ∷ xs) zero d l e = subst (λ (b : Bool). Has (cond b (x ∷ marked bs xs) (marked bs xs)) x) (sym e) first
marked-has {X} (b ∷ bs) (x ∷ xs) (suc j) d l e = by b (marked-has bs xs j d (omega (arith, l)) e)
  where
    by : (b : Bool) → Has (marked bs xs) (slice_index_or xs j d) → Has (cond b (x ∷ marked bs xs) (marked bs xs)) (slice_index_or xs j d)
    by true h = later h
    by false h = h

-- the rows of the history of a set
pub rows-own : (f : FamilyValue) (xs : List (List ℤ)) → rows (map (as_arrival f) xs) f.stream ≡ xs
rows-own f [] = refl
rows-own f (x ∷ xs) =
    let e : (f.stream == f.stream) ≡ true = grind (arith, nat_tests) in
    ap (λ b. map (λ (r : Arrival). r.values) (cond b (as_arrival f x ∷ filter (λ r. r.stream == f.stream) (map (as_arrival f) xs)) (filter (λ r. r.stream == f.stream) (map (as_arrival f) xs)))) e
    ∙ ap (λ ys. x ∷ ys) (rows-own f xs)

pub rows-other : (f : FamilyValue) (stream : ℕ) (xs : List (List ℤ)) → (f.stream == stream) ≡ false → rows (map (as_arrival f) xs) stream ≡ []
rows-other f stream [] e = refl
rows-other f stream (x ∷ xs) e =
    ap (λ b. map (λ (r : Arrival). r.values) (cond b (as_arrival f x ∷ filter (λ r. r.stream == stream) (map (as_arrival f) xs)) (filter (λ r. r.stream == stream) (map (as_arrival f) xs)))) e
    ∙ rows-other f stream xs e

-- the rows of two histories, one behind the other
pub rows-joined : (g h : List Arrival) (stream : ℕ) → rows (g ++ h) stream ≡ rows g stream ++ rows h stream
rows-joined g h stream = ap (map (λ r. r.values)) (filter-append _ g h) ∙ map-append _ _ _

-- the value of a selected column in a tuple
pub projected-at : (a : Attr) (select : List Attr) (v : Assignment) → Contains select a → slice_index_or (map v select) (place_in select a) (pos 0) ≡ v a
projected-at a select v c = at-place select (Has-from_contains select a c)
  where
    at-place : (select : List Attr) → Has select a → slice_index_or (map v select) (place_in select a) (pos 0) ≡ v a
    at-place [] k = elim k [ ]
    at-place (b ∷ select) k = at (attr_eq b a) refl (at-place select)
      where
        at : (t : Bool) → attr_eq b a ≡ t → (Has select a → slice_index_or (map v select) (place_in select a) (pos 0) ≡ v a)
            → slice_index_or (v b ∷ map v select) (cond t 0 (suc (place_in select a))) (pos 0) ≡ v a
        at true e g = ap v (attr_eq-is b a e)
        at false e g = g (elim (has_cases b a select k) [
          | inl o ↦ absurd (let x : attr_eq b a ≡ true = subst (λ (z : Attr). attr_eq b z ≡ true) o (attr_eq-itself b) in not_both (attr_eq b a) x e)
          | inr m ↦ m
        ])

-- the values of a combination at a place
pub at-row : (c : List (List ℤ)) (place column : ℕ) → place < length c → at_place (map by_column c) place column ≡ by_column (slice_index_or c place []) column
at-row [] place column l = absurd (omega (arith, l))
at-row (r ∷ c) zero column l = refl
at-row (r ∷ c) (suc place) column l = at-row c place column (omega (arith, l))

-- assignments that agree on the attributes satisfy alike and have the same signs
abbrev pub AgreeOn : QueryValue → Assignment → Assignment → Type 0
AgreeOn q v w = (a : Attr) → Has (attrs_of q.atoms) a → v a ≡ w a

module _ (q : QueryValue) (v w : Assignment) (g : AgreeOn q v w) where
  element-same : (x : Element) → HasElement (attrs_of q.atoms) (consts_of q.atoms) x → value x v ≡ value x w
  element-same (element.Attr a) h = g a h
  element-same (element.Const k) h = refl

  pub holds-same : Holds q v → Holds q w
  holds-same h =
      Holds-from_each q w (λ t i.
      let s : SidesIn q.atoms t = sides_in q.atoms t i in
      sym (λ j. compares t.op (element-same t.left s.left j) (element-same t.right s.right j)) ∙ Holds-each q v h t i)

-- assignments of a part satisfy the query
abbrev pub satisfying : (q : QueryValue) (s : List Sign) (a : Attr) (n : ℕ) (f : FamilyValue) → IsMade q s a n f → HasSolutions q a.stream n f
satisfying q s a n f made = record { at = made.at; holds = λ i l. (made.inside i l).holds; rows = made.rows }

module _ (q : QueryValue) (within : IsWithinLimits q) (several : 1 < length q.from) (a : Attr) (there : a.stream < length q.from) (n : ℕ) (f : FamilyValue)
    (stream : f.stream ≡ slice_index_or q.from a.stream 0) (size : length f.rows ≡ n) (asks : (i : ℕ) → i < n → Asks q f i) (made : HasSolutions q a.stream n f) where
  well : IsQuery q
  well = query_within q within

  -- what the query reads
  abbrev pub IsRead : Attr → Type 0
  IsRead b = Contains (attrs_of q.atoms) b ⊎ Contains q.select b

  pub read-there : (b : Attr) → IsRead b → b.stream < length q.from
  read-there b (inl c) = well.atoms b c
  read-there b (inr c) = well.select b c

  -- another place has another stream
  apart : (place : ℕ) → place < length q.from → place ≢ a.stream → (f.stream == slice_index_or q.from place 0) ≡ false
  apart place l ne =
      let d : slice_index_or q.from a.stream 0 ≢ slice_index_or q.from place 0 = elim (below_or place a.stream) [
        | inl k ↦ (λ e. well.once place a.stream 0 k there (sym e))
        | inr k ↦ (λ e. well.once a.stream place 0 (over place a.stream k ne) l e)
      ] in
      elim (true_or_false (f.stream == slice_index_or q.from place 0)) [
        | inr e ↦ e
        | inl e ↦ absurd (d (sym stream ∙ nat_true f.stream (slice_index_or q.from place 0) e))
      ]
    where
      below_or : (x y : ℕ) → (x < y) ⊎ (y ≤ x)
      below_or x y = grind arith

      over : (x y : ℕ) → y ≤ x → x ≢ y → y < x
      over x y l ne = grind (arith, l, ne)

  module _ (marks : List Bool) (i : ℕ) (below : i < n) where
    abbrev pub h : List Arrival
    h = history_of f marks ++ asking_at f i

    rows-asked : rows (asking_at f i) f.stream ≡ []
    rows-asked = by (asks i below)
      where
        by : Asks q f i → rows (asking_at f i) f.stream ≡ []
        by (itself one e) = absurd (omega (arith, several, one))
        by (others k e) = e

    pub rows-here : rows h (slice_index_or q.from a.stream 0) ≡ marked marks f.rows
    rows-here =
        ap (rows h) (sym stream) ∙ rows-joined (history_of f marks) (asking_at f i) f.stream
        ∙ (λ j. rows-own f (marked marks f.rows) j ++ rows-asked j) ∙ append-nothing (marked marks f.rows)

    pub rows-there : (place : ℕ) → place < length q.from → place ≢ a.stream → rows h (slice_index_or q.from place 0) ≡ rows (asking_at f i) (slice_index_or q.from place 0)
    rows-there place l ne =
        rows-joined (history_of f marks) (asking_at f i) (slice_index_or q.from place 0)
        ∙ ap (λ xs. xs ++ rows (asking_at f i) (slice_index_or q.from place 0)) (rows-other f (slice_index_or q.from place 0) (marked marks f.rows) (apart place l ne))

    abbrev pub lists : List (List (List ℤ))
    lists = map (rows h) q.from

    pub lists-at : (place : ℕ) (e : List (List ℤ)) → place < length q.from → slice_index_or lists place e ≡ rows h (slice_index_or q.from place 0)
    lists-at place e l = get-map q.from place e l
      where
        get-map : (from : List ℕ) (place : ℕ) (e : List (List ℤ)) → place < length from → slice_index_or (map (rows h) from) place e ≡ rows h (slice_index_or from place 0)
        get-map [] place e l = absurd (omega (arith, l))
        get-map (x ∷ from) zero e l = refl
        get-map (x ∷ from) (suc place) e l = get-map from place e (omega (arith, l))

    -- the combination of number j's row and what asks for number i
    abbrev pub mix : ℕ → Assignment
    mix j b = cond (nat_eq b.stream a.stream) (made.at j b) (made.at i b)

    -- each combination is such a one, of a number in the set
    from-combination : (c : List (List ℤ)) → Has (product lists) c
        → (j : ℕ) × (j < n) × (slice_index_or marks j false ≡ true) × ((b : Attr) → IsRead b → assignment_of c b ≡ mix j b)
    from-combination c k =
        let p = product-at lists c k in
        let long : length lists ≡ length q.from = length-map q.from (rows h) in
        let own : Has (marked marks f.rows) (slice_index_or c a.stream [])
        = subst (λ xs. Has xs (slice_index_or c a.stream [])) (lists-at a.stream [] there ∙ rows-here) (p.at a.stream [] [] (omega (arith, long, there))) in
        let m = marked-from marks f.rows (slice_index_or c a.stream []) own in
        let below_n : m.0 < n = (let l = m.1 in omega (arith, l, size)) in (
          m.0,
          below_n,
          m.2,
          λ b read.
              let l : b.stream < length q.from = read-there b read in
              at-row c b.stream b.column (let s = p.size in omega (arith, s, long, l))
              ∙ elim (true_or_false (nat_eq b.stream a.stream)) [
                | inl e ↦ (
                    let o : b.stream ≡ a.stream = nat_true b.stream a.stream e in
                    ap (λ (x : ℕ). by_column (slice_index_or c x []) b.column) o ∙ ap (λ (row : List ℤ). by_column row b.column) (sym (m.3 []))
                    ∙ (made.rows m.0 below_n).here b o read
                    ∙ sym (ap (λ t. cond t (made.at m.0 b) (made.at i b)) e))
                | inr e ↦ (
                    let ne : b.stream ≢ a.stream = (λ o. not-both b.stream a.stream o e) in
                    let r = (made.rows i below).others b.stream l ne in
                    let one : Has (r.0 ∷ []) (slice_index_or c b.stream [])
                    = subst (λ xs. Has xs (slice_index_or c b.stream [])) (lists-at b.stream [] l ∙ rows-there b.stream l ne ∙ r.1) (p.at b.stream [] [] (omega (arith, long, l))) in
                    elim (has_cases r.0 (slice_index_or c b.stream []) [] one) [
                      | inl z ↦ ap (λ (row : List ℤ). by_column row b.column) (sym z) ∙ r.2 b refl read ∙ sym (ap (λ t. cond t (made.at m.0 b) (made.at i b)) e)
                      | inr z ↦ elim z [ ]
                    ])
              ],
        )
      where
        not-both : (x y : ℕ) → x ≡ y → nat_eq x y ≡ false → ⊥
        not-both x y o e = grind (arith, o, e)

    -- the combination of number i itself
    abbrev pick : ℕ → List ℤ
    pick place = cond (nat_eq place a.stream) (row_at f i) (slice_index_or (rows (asking_at f i) (slice_index_or q.from place 0)) 0 [])

    abbrev pub own_combination : List (List ℤ)
    own_combination = upto pick (length q.from)

    own-length : length own_combination ≡ length q.from
    own-length = length-upto pick (length q.from)

    own-read : (b : Attr) → IsRead b → assignment_of own_combination b ≡ made.at i b
    own-read b read =
        let l : b.stream < length q.from = read-there b read in
        at-row own_combination b.stream b.column (omega (arith, own-length, l))
        ∙ ap (λ (row : List ℤ). by_column row b.column) (get-upto pick (length q.from) b.stream [] l)
        ∙ elim (true_or_false (nat_eq b.stream a.stream)) [
          | inl e ↦ ap (λ t. by_column (cond t (row_at f i) (slice_index_or (rows (asking_at f i) (slice_index_or q.from b.stream 0)) 0 [])) b.column) e
              ∙ (made.rows i below).here b (nat_true b.stream a.stream e) read
          | inr e ↦ (
              let ne : b.stream ≢ a.stream = (λ o. differs b.stream a.stream o e) in
              let r = (made.rows i below).others b.stream l ne in
              ap (λ t. by_column (cond t (row_at f i) (slice_index_or (rows (asking_at f i) (slice_index_or q.from b.stream 0)) 0 [])) b.column) e
              ∙ ap (λ (xs : List (List ℤ)). by_column (slice_index_or xs 0 []) b.column) r.1 ∙ r.2 b refl read)
        ]
      where
        differs : (x y : ℕ) → x ≡ y → nat_eq x y ≡ false → ⊥
        differs x y o e = grind (arith, o, e)

    own-there : slice_index_or marks i false ≡ true → Has (product lists) own_combination
    own-there mark = product-has lists own_combination record {
      size = own-length ∙ sym (length-map q.from (rows h));
      at = λ place d e l.
          let k : place < length q.from = (let s = length-map q.from (rows h) in omega (arith, s, l)) in
          subst (λ x. Has (slice_index_or lists place e) x) (sym (get-upto pick (length q.from) place d k))
          (subst (λ xs. Has xs (pick place)) (sym (lists-at place e k)) (elim (true_or_false (nat_eq place a.stream)) [
            | inl o ↦ (
                let p : place ≡ a.stream = nat_true place a.stream o in
                let here : Has (rows h (slice_index_or q.from a.stream 0)) (row_at f i)
                = subst (λ xs. Has xs (row_at f i)) (sym rows-here) (marked-has marks f.rows i [] (omega (arith, below, size)) mark) in
                subst (λ x. Has (rows h (slice_index_or q.from place 0)) x) (ap (λ t. cond t (row_at f i) (slice_index_or (rows (asking_at f i) (slice_index_or q.from place 0)) 0 [])) (sym o))
                (subst (λ (m : ℕ). Has (rows h (slice_index_or q.from m 0)) (row_at f i)) (sym p) here))
            | inr o ↦ (
                let ne : place ≢ a.stream = (λ p. differs place a.stream p o) in
                let r = (made.rows i below).others place k ne in
                let x : pick place ≡ r.0 = ap (λ t. cond t (row_at f i) (slice_index_or (rows (asking_at f i) (slice_index_or q.from place 0)) 0 [])) o ∙ ap (λ (xs : List (List ℤ)). slice_index_or xs 0 []) r.1 in
                subst (λ y. Has (rows h (slice_index_or q.from place 0)) y) (sym x)
                (subst (λ xs. Has xs r.0) (sym (rows-there place k ne ∙ r.1)) first))
          ]));
    }
      where
        differs : (x y : ℕ) → x ≡ y → nat_eq x y ≡ false → ⊥
        differs x y o e = grind (arith, o, e)

    -- so where number i is in the set there is its answer
    pub own-answer : slice_index_or marks i false ≡ true → Contains (answers q h) (projected q (assignment_of own_combination))
    own-answer mark =
        let holds-own : Holds q (assignment_of own_combination)
        = holds-same q (made.at i) (assignment_of own_combination) (λ b k. sym (own-read b (inl (Contains-from_has (attrs_of q.atoms) b k)))) (made.holds i below) in
        Contains-from_has (answers q h) (projected q (assignment_of own_combination))
        (Has-map (λ c. projected q (assignment_of c)) (Has-filter (λ c. holds q (assignment_of c)) holds-own (own-there mark)))

    -- and each answer is of a number in the set, mixed with what asks for number i
    pub record Mixed (t : List ℤ) : Type 0 where
      pub j : ℕ
      pub within_n : j < n
      pub mark : slice_index_or marks j false ≡ true
      pub v : Assignment
      pub agrees : (b : Attr) → IsRead b → v b ≡ mix j b
      pub satisfies : Holds q v
      pub tuple : projected q v ≡ t

    pub mixed : (t : List ℤ) → Contains (answers q h) t → Mixed t
    mixed t k =
        let m = Has-map_from (λ c. projected q (assignment_of c)) (filter (λ c. holds q (assignment_of c)) (product lists)) t (Has-from_contains (answers q h) t k) in
        let c = from-combination m.0 (Has-filter_from (λ c. holds q (assignment_of c)) (product lists) m.0 m.1) in
        record {
          j = c.0;
          within_n = c.1;
          mark = c.2;
          v = assignment_of m.0;
          agrees = c.3;
          satisfies = filter-passes (λ c. holds q (assignment_of c)) (product lists) m.0 m.1;
          tuple = m.2;
        }

    own-column : (j : ℕ) → mix j a ≡ made.at j a
    own-column j = (let e : nat_eq a.stream a.stream ≡ true = grind (arith, nat_tests) in ap (λ t. cond t (made.at j a) (made.at i a)) e)

    -- an unbounded selected column
    pub tells-value : Contains q.select a → Differ n made.at a → (slice_index_or marks i false ≡ true → Shows q a f marks i C1) × (Shows q a f marks i C1 → slice_index_or marks i false ≡ true)
    tells-value chosen apart = (
      λ mark. by_value several (projected q (assignment_of own_combination)) (own-answer mark)
          (projected-at a q.select (assignment_of own_combination) chosen ∙ own-read a (inr chosen) ∙ sym ((made.rows i below).here a refl (inr chosen))),
      λ shows. back shows,
    )
      where
        back : Shows q a f marks i C1 → slice_index_or marks i false ≡ true
        back (alone one e) = absurd (omega (arith, several, one))
        back (by_value k t c e) =
            let m = mixed t c in
            let same : made.at m.j a ≡ made.at i a
            = sym (own-column m.j) ∙ sym (m.agrees a (inr chosen)) ∙ sym (projected-at a q.select m.v chosen)
            ∙ ap (λ (ts : List ℤ). slice_index_or ts (place_in q.select a) (pos 0)) m.tuple ∙ e ∙ (made.rows i below).here a refl (inr chosen) in
            ap (λ (x : ℕ). slice_index_or marks x false) (sym (apart m.j i m.within_n below same)) ∙ m.mark

    -- an unbounded equality: where no pair lies between streams, what is mixed is of the part too
    module _ (s : List Sign) (inside : (j : ℕ) → j < n → InPart q s (made.at j)) (local : (p : Pair) → Contains (pairs q) p → IsLocal p) where
      mix-element : (j : ℕ) (x : Element) (l : Attr) → IsLocalTo l x → value x (mix j) ≡ value x (cond (nat_eq l.stream a.stream) (made.at j) (made.at i))
      mix-element j (element.Const k) l o = refl
      mix-element j (element.Attr b) l o =
          let e : l.stream ≡ b.stream = nat_true l.stream b.stream o in
          by (nat_eq b.stream a.stream) ∙ ap (λ (m : ℕ). cond (nat_eq m a.stream) (made.at j) (made.at i) b) (sym e)
        where
          by : (t : Bool) → cond t (made.at j b) (made.at i b) ≡ cond t (made.at j) (made.at i) b
          by true = refl
          by false = refl

      mix-signs : (j : ℕ) → j < n → signs_of q (mix j) ≡ s
      mix-signs j l =
          same_map (sign_at (mix j)) (sign_at (made.at i)) (pairs q) (λ p k.
          (λ t. sign (left p t) (mix-element j p.right p.left (local p (Contains-from_has (pairs q) p k)) t))
          ∙ by p k (nat_eq p.left.stream a.stream))
          ∙ (inside i below).signs
        where
          left : (p : Pair) → mix j p.left ≡ cond (nat_eq p.left.stream a.stream) (made.at j) (made.at i) p.left
          left p = at (nat_eq p.left.stream a.stream)
            where
              at : (t : Bool) → cond t (made.at j p.left) (made.at i p.left) ≡ cond t (made.at j) (made.at i) p.left
              at true = refl
              at false = refl

          by : (p : Pair) → Has (pairs q) p → (t : Bool) → sign_at (cond t (made.at j) (made.at i)) p ≡ sign_at (made.at i) p
          by p k true = same_at (sign_at (made.at j)) (sign_at (made.at i)) ((inside j l).signs ∙ sym (inside i below).signs) k
          by p k false = refl

      mix-domains : (j : ℕ) → j < n → KeepsDomains q (mix j)
      mix-domains j l = each_keeps q (mix j) (λ d k. by d k (nat_eq d.attr.stream a.stream))
        where
          by : (d : Domain) → Has q.domains d → (t : Bool) → lies_in d (cond t (made.at j d.attr) (made.at i d.attr)) ≡ true
          by d k true = keeps_each q (made.at j) (inside j l).domains d k
          by d k false = keeps_each q (made.at i) (inside i below).domains d k

      pub mix-part : (j : ℕ) → j < n → (v : Assignment) → ((b : Attr) → IsRead b → v b ≡ mix j b) → Holds q v → InPart q s (mix j)
      mix-part j l v g h = record {
        holds = holds-same q v (mix j) (λ b k. g b (inl (Contains-from_has (attrs_of q.atoms) b k))) h;
        domains = mix-domains j l;
        signs = mix-signs j l;
      }

      tells-some : Breaks q s C2 a → Differ n made.at a → (slice_index_or marks i false ≡ true → Shows q a f marks i C2) × (Shows q a f marks i C2 → slice_index_or marks i false ≡ true)
      tells-some breaks apart = (λ mark. some several (projected q (assignment_of own_combination)) (own-answer mark), λ shows. back shows)
        where
          other : (b : Attr) → b.stream ≢ a.stream → (j : ℕ) → mix j b ≡ made.at i b
          other b ne j = (let e : nat_eq b.stream a.stream ≡ false = grind (arith, ne) in ap (λ t. cond t (made.at j b) (made.at i b)) e)

          equal_in : (v : Assignment) → InPart q s v → v a ≡ v breaks.1
          equal_in v k = elim breaks.2 [ inl e ↦ e.equal.equal v k | inr e ↦ sym (e.equal.equal v k) ]

          across : breaks.1.stream ≢ a.stream
          across = elim breaks.2 [ inl e ↦ (λ o. e.across.across (sym o)) | inr e ↦ (λ o. e.across.across o) ]

          back : Shows q a f marks i C2 → slice_index_or marks i false ≡ true
          back (some k t c) =
              let m = mixed t c in
              let k = mix-part m.j m.within_n m.v m.agrees m.satisfies in
              let same : made.at m.j a ≡ made.at i a
              = sym (own-column m.j) ∙ equal_in (mix m.j) k ∙ other breaks.1 across m.j ∙ sym (equal_in (made.at i) (inside i below)) in
              ap (λ (x : ℕ). slice_index_or marks x false) (sym (apart m.j i m.within_n below same)) ∙ m.mark

pub families-tell : FamiliesTell
families-tell q s condition a n f within several there first_two breaks local stream size many asks made = record {
  stream = stream;
  size = size;
  many = many;
  asks = asks;
  tells = each (λ marks long i below. by condition first_two breaks local marks i below);
}
  where
    by : (condition : Condition) → (condition ≡ C3 → ⊥) → Breaks q s condition a → AreLocalFor q condition → (marks : List Bool) (i : ℕ) → i < n
        → (slice_index_or marks i false ≡ true → Shows q a f marks i condition) × (Shows q a f marks i condition → slice_index_or marks i false ≡ true)
    by C1 o b l marks i below = tells-value q within several a there n f stream size asks (satisfying q s a n f made) marks i below b.0 made.apart
    by C2 o b l marks i below = tells-some q within several a there n f stream size asks (satisfying q s a n f made) marks i below s made.inside l b made.apart
    by C3 o b l marks i below = absurd (o refl)
