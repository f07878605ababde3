-- Of a history few rows: for each stream, each key and each column as an extreme those that cover the others, whatever `<>` exclude.
use Rattle.std.proofs.Common.{◌≡◌, ◌≢◌, ℕ, zero, suc, ◌*◌, ◌<◌, ◌≤◌, inl, inr, ℤ, neg_ℤ, nat_abs, not, cond, ◌==◌, ◌≤ℤ◌, nat_eq, List, [], ◌∷◌, map, filter, length, slice_index_or, Bool, true, false, ◌&&◌, ◌||◌, if◌then◌else◌, refl, sym, ap, ◌∙◌, subst, arith}
use Rattle.std.proofs.lemmas.Int.{ints}
use Rattle.std.proofs.lemmas.List.{length-map}
use Rattle.std.specs.List.{flat_map}
use Rattle.sem_query.specs.declared.atom.Atom.{Atom}
use Rattle.sem_query.specs.declared.atom.Domain.{Domain}
use Rattle.sem_query.specs.declared.atom.Element.{Element}
use Rattle.sem_query.specs.declared.atom.Element.TheVariants as element
use Rattle.sem_query.specs.Query.{QueryValue, IsWithinLimits}
use Rattle.sem_query.specs.Assignment.{Assignment, value, lies_in}
use Rattle.sem_query.specs.Domains.{keeps_at, RowKeeps, RowsKeep}
use Rattle.sem_query.specs.Meaning.{Arrival, rows, by_column}
use Rattle.sem_query.specs.Tuples.{is_same}
use Rattle.sem_query.proofs.Has.{Has, first, later, Has-nil, Has-map, Has-map_from, Has-filter, Has-filter_from, Has-filter_holds, Has-flat_map, Has-flat_map_from}
use Rattle.sem_laws.proofs.Keeping.{row-keeps, rows-keep}
use Rattle.sem_laws.proofs.OnePartFits.{has_cases}
use Rattle.sem_laws.proofs.Order.{same-itself, same-is}
use Rattle.sem_laws.proofs.Tests.{all_at, all_if, nat_true}
use Rattle.plan_split_pairs.specs.Pairs.{is_unlike}
use Rattle.sem_lower_bounds.specs.States.{IsWithin, AreWithin}
use Rattle.sem_lower_bounds.proofs.Pigeons.{below, length-below, has-below}
use Rattle.sem_split_bounds.proofs.Covering.{most_covering, short_pieces, covering, covering_from, covering_size, covers}
use Rattle.sem_split_bounds.proofs.RowKeys.{columns, key, all_keys, key_among, Alike, keys_alike, same_keys, below_is}
use Rattle.sem_split_bounds.proofs.SmallSides.{IsSmallSide, atom_small, domain_small}

-- ---- the `<>` with a side at a place

abbrev pub is_at : ℕ → Element → Bool
is_at place (element.Attr a) = nat_eq a.stream place
is_at place (element.Const k) = false

-- those of a query
abbrev pub unlikes_at : QueryValue → ℕ → List Atom
unlikes_at q place = filter (λ t. is_unlike t.op && (is_at place t.left || is_at place t.right)) q.atoms

-- the value of the side at the place, by the values of a row, and of the other side
abbrev pub own_value : ℕ → Atom → (ℕ → ℤ) → ℤ
own_value place t w = value (if is_at place t.left then t.left else t.right) (λ a. w a.column)

abbrev pub other_value : ℕ → Atom → Assignment → ℤ
other_value place t v = value (if is_at place t.left then t.right else t.left) v

-- ---- a column as an extreme

-- the lower the better, or the higher
pub data Ranking : Type 0 where
  lower : ℕ → Ranking
  higher : ℕ → Ranking

abbrev pub ranked : Ranking → (ℕ → ℤ) → ℤ
ranked (lower c) w = w c
ranked (higher c) w = neg_ℤ (w c)

abbrev pub column_of : Ranking → ℕ
column_of (lower c) = c
column_of (higher c) = c

abbrev pub rankings : List Ranking
rankings = flat_map (λ c. lower c ∷ higher c ∷ []) columns

-- ---- the rows that are kept

-- the values of the columns that a query may name
abbrev pub trimmed : List ℤ → List ℤ
trimmed row = map (by_column row) (0 ∷ 1 ∷ 2 ∷ 3 ∷ 4 ∷ 5 ∷ 6 ∷ 7 ∷ [])

abbrev pub stream_of : QueryValue → ℕ → ℕ
stream_of q place = slice_index_or q.from place 0

rows_alike : QueryValue → List Arrival → ℕ → List ℤ → List (List ℤ)
rows_alike q h place k = filter (λ row. is_same k (key (by_column row))) (map trimmed (rows h (stream_of q place)))

kept_rows : QueryValue → List Arrival → ℕ → List (List ℤ)
kept_rows q h place =
    flat_map (λ k. flat_map (λ r. covering (λ row. ranked r (by_column row)) (λ t row. own_value place t (by_column row)) (unlikes_at q place) (rows_alike q h place k)) rankings) all_keys

pub reduced : QueryValue → List Arrival → List Arrival
reduced q h = flat_map (λ place. map (λ row. record { stream = stream_of q place; values = row }) (kept_rows q h place)) (below (length q.from))

-- at most so many
pub most_kept : QueryValue → ℕ
most_kept q = length q.from * (length all_keys * (length rankings * most_covering (length q.atoms)))

pub trimmed_at : (row : List ℤ) (c : ℕ) → c < 8 → by_column (trimmed row) c ≡ by_column row c
trimmed_at row zero l = refl
trimmed_at row (suc zero) l = refl
trimmed_at row (suc (suc zero)) l = refl
trimmed_at row (suc (suc (suc zero))) l = refl
trimmed_at row (suc (suc (suc (suc zero)))) l = refl
trimmed_at row (suc (suc (suc (suc (suc zero))))) l = refl
trimmed_at row (suc (suc (suc (suc (suc (suc zero)))))) l = refl
trimmed_at row (suc (suc (suc (suc (suc (suc (suc zero))))))) l = refl
trimmed_at row (suc (suc (suc (suc (suc (suc (suc (suc c)))))))) l = absurd (omega (arith, l))

pub trimmed_width : (row : List ℤ) → length (trimmed row) ≡ 8
trimmed_width row = refl

-- ---- how many

fewer : (p : Atom → Bool) (ts : List Atom) → length (filter p ts) ≤ length ts
fewer p [] = omega arith
fewer p (t ∷ ts) = by (p t) (fewer p ts)
  where
    by : (b : Bool) → length (filter p ts) ≤ length ts → length (cond b (t ∷ filter p ts) (filter p ts)) ≤ suc (length ts)
    by true l = omega (arith, l)
    by false l = omega (arith, l)

pub reduced_size : (q : QueryValue) (h : List Arrival) → length (reduced q h) ≤ most_kept q
unfolding reduced most_kept kept_rows
reduced_size q h =
    let a : length (flat_map (λ place. map (λ row. record { stream = stream_of q place; values = row }) (kept_rows q h place)) (below (length q.from))) ≤ length (below (length q.from)) * each
    = short_pieces (λ place. map (λ row. let r : Arrival = record { stream = stream_of q place; values = row } in r) (kept_rows q h place)) each (below (length q.from))
    (λ place. (let l = length-map (kept_rows q h place) (λ row. let r : Arrival = record { stream = stream_of q place; values = row } in r) in let k = at_place place in omega (arith, l, k))) in
    let b : length (below (length q.from)) ≡ length q.from = length-below (length q.from) in
    subst (λ n. length (flat_map (λ place. map (λ row. let r : Arrival = record { stream = stream_of q place; values = row } in r) (kept_rows q h place)) (below (length q.from))) ≤ n * each) b a
  where
    each : ℕ
    each = length all_keys * (length rankings * most_covering (length q.atoms))

    at_ranking : (place : ℕ) (k : List ℤ) (r : Ranking)
        → length (covering (λ row. ranked r (by_column row)) (λ t row. own_value place t (by_column row)) (unlikes_at q place) (rows_alike q h place k)) ≤ most_covering (length q.atoms)
    at_ranking place k r =
        covering_size (λ row. ranked r (by_column row)) (λ t row. own_value place t (by_column row)) (length q.atoms) (unlikes_at q place) (rows_alike q h place k)
        (fewer (λ t. is_unlike t.op && (is_at place t.left || is_at place t.right)) q.atoms)

    at_key : (place : ℕ) (k : List ℤ)
        → length (flat_map (λ r. covering (λ row. ranked r (by_column row)) (λ t row. own_value place t (by_column row)) (unlikes_at q place) (rows_alike q h place k)) rankings) ≤ length rankings * most_covering (length q.atoms)
    at_key place k =
        short_pieces (λ r. covering (λ row. ranked r (by_column row)) (λ t row. own_value place t (by_column row)) (unlikes_at q place) (rows_alike q h place k)) (most_covering (length q.atoms)) rankings (at_ranking place k)

    at_place : (place : ℕ) → length (kept_rows q h place) ≤ each
    at_place place =
        short_pieces (λ k. flat_map (λ r. covering (λ row. ranked r (by_column row)) (λ t row. own_value place t (by_column row)) (unlikes_at q place) (rows_alike q h place k)) rankings)
        (length rankings * most_covering (length q.atoms)) all_keys (at_key place)

-- ---- which

-- each is a row of the history, trimmed, of a stream of FROM
pub record IsTrimmed (q : QueryValue) (h : List Arrival) (r : Arrival) : Type 0 where
  pub of : Arrival
  pub among : Has h of
  pub stream : r.stream ≡ of.stream
  pub values : r.values ≡ trimmed of.values
  pub from : Has q.from r.stream

has_place : (from : List ℕ) (place : ℕ) → place < length from → Has from (slice_index_or from place 0)
has_place [] place l = absurd (omega (arith, l))
has_place (s ∷ from) zero l = first
has_place (s ∷ from) (suc place) l = later (has_place from place (omega (arith, l)))

-- a row that is kept of a place is one of its stream, trimmed
record IsOfPlace (q : QueryValue) (h : List Arrival) (place : ℕ) (row : List ℤ) : Type 0 where
  of : Arrival
  among : Has h of
  stream : of.stream ≡ stream_of q place
  values : trimmed of.values ≡ row

alike_from : (q : QueryValue) (h : List Arrival) (place : ℕ) (k row : List ℤ) → Has (rows_alike q h place k) row → IsOfPlace q h place row
unfolding rows_alike
alike_from q h place k row i =
    let f = Has-map_from trimmed (rows h (stream_of q place)) row (Has-filter_from (λ row. is_same k (key (by_column row))) (map trimmed (rows h (stream_of q place))) row i) in
    let g = Has-map_from (λ (r : Arrival). r.values) (filter (λ r. r.stream == stream_of q place) h) f.0 f.1 in
    record {
      of = g.0;
      among = Has-filter_from (λ r. r.stream == stream_of q place) h g.0 g.1;
      stream = nat_true g.0.stream (stream_of q place) (Has-filter_holds (λ r. r.stream == stream_of q place) h g.0 g.1);
      values = ap trimmed g.2 ∙ f.2;
    }

kept_from : (q : QueryValue) (h : List Arrival) (place : ℕ) (row : List ℤ) → Has (kept_rows q h place) row → IsOfPlace q h place row
unfolding kept_rows
kept_from q h place row i =
    let c = Has-flat_map_from (λ k. flat_map (λ r. covering (λ row. ranked r (by_column row)) (λ t row. own_value place t (by_column row)) (unlikes_at q place) (rows_alike q h place k)) rankings) all_keys row i in
    let d = Has-flat_map_from (λ r. covering (λ row. ranked r (by_column row)) (λ t row. own_value place t (by_column row)) (unlikes_at q place) (rows_alike q h place c.0)) rankings row c.2 in
    alike_from q h place c.0 row (covering_from (λ row. ranked d.0 (by_column row)) (λ t row. own_value place t (by_column row)) (unlikes_at q place) (rows_alike q h place c.0) row d.2)

pub reduced_from : (q : QueryValue) (h : List Arrival) (r : Arrival) → Has (reduced q h) r → IsTrimmed q h r
unfolding reduced
reduced_from q h r i =
    let a = Has-flat_map_from (λ place. map (λ row. let r : Arrival = record { stream = stream_of q place; values = row } in r) (kept_rows q h place)) (below (length q.from)) r i in
    let b = Has-map_from (λ row. let r : Arrival = record { stream = stream_of q a.0; values = row } in r) (kept_rows q h a.0) r a.2 in
    subst (IsTrimmed q h) b.2 (of a.0 b.0 (has_place q.from a.0 (below_is (length q.from) a.0 a.1)) (kept_from q h a.0 b.0 b.1))
  where
    of : (place : ℕ) (row : List ℤ) → Has q.from (stream_of q place) → IsOfPlace q h place row → IsTrimmed q h record { stream = stream_of q place; values = row }
    of place row f o = record { of = o.of; among = o.among; stream = sym o.stream; values = sym o.values; from = f }

-- ---- to what they keep

pub reduced_keeps : (q : QueryValue) → IsWithinLimits q → (h : List Arrival) → RowsKeep q h → RowsKeep q (reduced q h)
reduced_keeps q within h keep = rows-keep q (reduced q h) (λ r i. one r (reduced_from q h r i))
  where
    one : (r : Arrival) → IsTrimmed q h r → RowKeeps q r
    one r o place l e =
        let k : keeps_at q place (by_column o.of.values) ≡ true = row-keeps q h keep o.of o.among place l (e ∙ o.stream) in
        all_if (λ d. not (nat_eq d.attr.stream place) || lies_in d (by_column r.values d.attr.column)) q.domains (λ d i.
        subst (λ x. (not (nat_eq d.attr.stream place) || lies_in d x) ≡ true) (same d i)
        (all_at (λ d. not (nat_eq d.attr.stream place) || lies_in d (by_column o.of.values d.attr.column)) q.domains d k i))
      where
        same : (d : Domain) → Has q.domains d → by_column o.of.values d.attr.column ≡ by_column r.values d.attr.column
        same d i = sym (trimmed_at o.of.values d.attr.column (domain_small q within d i).1) ∙ ap (λ row. by_column row d.attr.column) (sym o.values)

value_within : (bound : ℕ) (row : List ℤ) → IsWithin bound row → (c : ℕ) → nat_abs (by_column row c) ≤ bound
value_within bound [] w c = omega arith
value_within bound (z ∷ row) w zero = w.0
value_within bound (z ∷ row) w (suc c) = value_within bound row w.1 c

trimmed_within : (bound : ℕ) (row : List ℤ) → IsWithin bound row → IsWithin bound (trimmed row)
trimmed_within bound row w = (at 0, (at 1, (at 2, (at 3, (at 4, (at 5, (at 6, (at 7, tt))))))))
  where
    at : (c : ℕ) → nat_abs (by_column row c) ≤ bound
    at c = value_within bound row w c

row_within : (bound : ℕ) (h : List Arrival) → AreWithin bound h → (r : Arrival) → Has h r → IsWithin bound r.values
row_within bound [] w r i = Has-nil i
row_within bound (o ∷ h) w r i = elim (has_cases o r h i) [ inl e ↦ subst (λ r. IsWithin bound r.values) e w.0 | inr k ↦ row_within bound h w.1 r k ]

rows_within : (bound : ℕ) (h : List Arrival) → ((r : Arrival) → Has h r → IsWithin bound r.values) → AreWithin bound h
rows_within bound [] f = tt
rows_within bound (r ∷ h) f = (f r first, rows_within bound h (λ o i. f o (later i)))

pub reduced_within : (q : QueryValue) (bound : ℕ) (h : List Arrival) → AreWithin bound h → AreWithin bound (reduced q h)
reduced_within q bound h near = rows_within bound (reduced q h) (λ r i.
    let o = reduced_from q h r i in
    subst (IsWithin bound) (sym o.values) (trimmed_within bound o.of.values (row_within bound h near o.of o.among)))

-- ---- what they cover

same_number : (n : ℕ) → (n == n) ≡ true
same_number n = grind arith

ranking_among : (r : Ranking) → column_of r < 8 → Has rankings r
ranking_among (lower c) l = Has-flat_map (λ c. lower c ∷ higher c ∷ []) columns c (lower c) (has-below 8 c l) first
ranking_among (higher c) l = Has-flat_map (λ c. lower c ∷ higher c ∷ []) columns c (higher c) (has-below 8 c l) (later first)

-- a row of the history has among them, for each extreme, one that is alike and no worse, and that no `<>` excludes which does not exclude the row
pub reduced_covers : (q : QueryValue) → IsWithinLimits q → (h : List Arrival) (place : ℕ) → place < length q.from
    → (row : List ℤ) → Has (rows h (stream_of q place)) row → (r : Ranking) → column_of r < 8 → (v : Assignment)
    → ((t : Atom) → Has (unlikes_at q place) t → own_value place t (by_column row) ≢ other_value place t v)
    → (other : List ℤ) × Has (rows (reduced q h) (stream_of q place)) other × Alike (by_column row) (by_column other)
    × (ranked r (by_column other) ≤ℤ ranked r (by_column row))
    × ((t : Atom) → Has (unlikes_at q place) t → own_value place t (by_column other) ≢ other_value place t v)
unfolding reduced kept_rows rows_alike
reduced_covers q within h place l row i r c v n = (y.0, there, alike, worse r c y.2, y.3)
  where
    k : List ℤ
    k = key (by_column (trimmed row))

    own_same : (t : Atom) → Has (unlikes_at q place) t → own_value place t (by_column (trimmed row)) ≡ own_value place t (by_column row)
    own_same t j = side (if is_at place t.left then t.left else t.right) (small (is_at place t.left))
      where
        s : IsSmallSide t.left × IsSmallSide t.right
        s = atom_small q within t (Has-filter_from (λ t. is_unlike t.op && (is_at place t.left || is_at place t.right)) q.atoms t j)

        small : (b : Bool) → IsSmallSide (if b then t.left else t.right)
        small true = s.0
        small false = s.1

        side : (e : Element) → IsSmallSide e → value e (λ a. by_column (trimmed row) a.column) ≡ value e (λ a. by_column row a.column)
        side (element.Attr a) m = trimmed_at row a.column m
        side (element.Const j) m = refl

    y : (y : List ℤ) × Has (covering (λ row. ranked r (by_column row)) (λ t row. own_value place t (by_column row)) (unlikes_at q place) (rows_alike q h place k)) y
        × (ranked r (by_column y) ≤ℤ ranked r (by_column (trimmed row))) × ((t : Atom) → Has (unlikes_at q place) t → own_value place t (by_column y) ≢ other_value place t v)
    y = covers (λ row. ranked r (by_column row)) (λ t row. own_value place t (by_column row)) (λ t. other_value place t v) (unlikes_at q place) (rows_alike q h place k) (trimmed row)
        (Has-filter (λ row. is_same k (key (by_column row))) (same-itself k) (Has-map trimmed i))
        (λ t j e. n t j (sym (own_same t j) ∙ e))

    kept : Has (kept_rows q h place) y.0
    kept = Has-flat_map (λ k. flat_map (λ r. covering (λ row. ranked r (by_column row)) (λ t row. own_value place t (by_column row)) (unlikes_at q place) (rows_alike q h place k)) rankings) all_keys k y.0
        (key_among (by_column (trimmed row)))
        (Has-flat_map (λ r. covering (λ row. ranked r (by_column row)) (λ t row. own_value place t (by_column row)) (unlikes_at q place) (rows_alike q h place k)) rankings r y.0 (ranking_among r c) y.1)

    arrival : Arrival
    arrival = record { stream = stream_of q place; values = y.0 }

    there : Has (rows (reduced q h) (stream_of q place)) y.0
    there = Has-map (λ (r : Arrival). r.values) (Has-filter (λ r. r.stream == stream_of q place) {x = arrival} (same_number (stream_of q place))
        (Has-flat_map (λ place. map (λ row. let r : Arrival = record { stream = stream_of q place; values = row } in r) (kept_rows q h place)) (below (length q.from)) place arrival
        (has-below (length q.from) place l) (Has-map (λ row. let r : Arrival = record { stream = stream_of q place; values = row } in r) kept)))

    same_key : k ≡ key (by_column y.0)
    same_key = same-is k (key (by_column y.0)) (Has-filter_holds (λ row. is_same k (key (by_column row))) (map trimmed (rows h (stream_of q place))) y.0
        (covering_from (λ row. ranked r (by_column row)) (λ t row. own_value place t (by_column row)) (unlikes_at q place) (rows_alike q h place k) y.0 y.1))

    alike : Alike (by_column row) (by_column y.0)
    alike = keys_alike (by_column row) (by_column y.0) (same_keys (by_column row) (by_column (trimmed row)) (λ c l. sym (trimmed_at row c l)) ∙ same_key)

    worse : (r : Ranking) → column_of r < 8 → ranked r (by_column y.0) ≤ℤ ranked r (by_column (trimmed row)) → ranked r (by_column y.0) ≤ℤ ranked r (by_column row)
    worse (lower c) l m = let e = trimmed_at row c l in omega (arith, ints, e, m)
    worse (higher c) l m = let e = trimmed_at row c l in omega (arith, ints, e, m)
