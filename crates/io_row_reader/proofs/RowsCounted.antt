-- Rows of which the values are not formed.
use Rattle.std.proofs.Common.{◌≡◌, ℕ, zero, suc, ℤ, pos, ◌+◌, ◌-◌, ◌^◌, ◌<◌, ◌≤◌, int_lt, not, true, Option, Some, None, List, [], ◌∷◌, ◌++◌, length, take, drop, get_or, length-append, refl, ap, sym, ◌∙◌, subst, arith}
use Rattle.std.specs.Prelude.{neg_ℤ, ⊤}
use Rattle.std.specs.List.{All, prefix_len, slice_range, slice_split}
use Rattle.std.proofs.lemmas.Int.{ints}
use Rattle.std.proofs.lemmas.List.Sums.{prefix_len-le-length, prefix_len_passes}
use Rattle.std.specs.Option.{option_map}
use Rattle.sql_text.specs.Value.{amount}
use Rattle.sql_text.specs.Word.{is_digit}
use Rattle.sql_text.proofs.LeadingValue.{digit_few, small_more}
use Rattle.sql_text.proofs.Fronts.{and_left, and_right, and_both}
use Rattle.sql_catalog.specs.declared.column.ColumnDef.{ColumnDef}
use Rattle.sql_catalog.specs.Rows.{is_comma, values_of}
use Rattle.sql_catalog.specs.Streams.{HasEnds, Shape, lies_within, lie_within, shape_at}
use Rattle.io_row_reader.specs.Ahead.{AddsAt, BeginsStream, EndsLine, FieldsTo, IsEnded}
use Rattle.io_row_reader.specs.Counted.{HasFields, IsSomeInteger, IsSomeRowOf}
use Rattle.io_row_reader.specs.Plain.{IsPlain}
use Rattle.io_row_reader.proofs.FieldsAhead.{fields_last, fields_more, negative_at, plain_both, range_more, short_at}
use Rattle.io_row_reader.proofs.RowsAhead.{row_found}
use Rattle.io_row_reader.proofs.PlainFields.{amount_next, clash, domains_kept, whole_row, within_18}

-- An integer at a place.

-- digits in front are a small amount
pub small_front : (text : List ℕ) (i : ℕ) → i ≤ prefix_len is_digit text → amount (take i text) < 10 ^ i
small_front text zero few = omega arith
small_front text (suc i) few =
    let digit : is_digit (get_or text i 0) ≡ true = prefix_len_passes is_digit text i 0 (omega (arith, few)) in
    let room : i < length text = omega (arith, few, prefix_len-le-length is_digit text) in
    let before : amount (take i text) < 10 ^ i = small_front text i (omega (arith, few)) in
    let more : i + 1 ≡ suc i = omega arith in
    subst (λ n. amount (take n text) < 10 ^ n) more (subst (λ n. n < 10 ^ (i + 1)) (amount_next text i (amount (take i text)) (get_or text i 0 - 48) room refl refl) (small_more (amount (take i text)) (get_or text i 0 - 48) i before (digit_few (get_or text i 0) digit)))

pub some_integer : (text : List ℕ) (start end : ℕ) → end ≡ start + prefix_len is_digit (drop start text) → end < length text → (0 < end - start) × (end - start ≤ 18) → IsSomeInteger text start end
some_integer text start end is room few =
    let rest = drop start text in
    let len = prefix_len is_digit rest in
    let kept = amount (take len rest) in
    let small : kept < 10 ^ 18 = within_18 kept len (small_front rest len (omega arith)) (omega (arith, is, few.1)) in
    record {
      value = pos kept;
      adds = λ row. subst (λ e. AddsAt text start e row (row ++ pos kept ∷ [])) (sym is)
          (short_at text start len kept row (row ++ pos kept ∷ []) refl (omega (arith, is, few.0), omega (arith, is, few.1), omega (arith, small)) (omega (arith, is, room)) (λ _. refl) refl);
    }

pub some_negative : (text : List ℕ) (start end : ℕ) → end ≡ start + 1 + prefix_len is_digit (drop (start + 1) text) → end < length text → get_or text start 0 ≡ 45 → (0 < end - start - 1) × (end - start - 1 ≤ 18)
    → IsSomeInteger text start end
some_negative text start end is room minus few =
    let rest = drop (start + 1) text in
    let len = prefix_len is_digit rest in
    let kept = amount (take len rest) in
    let small : kept < 10 ^ 18 = within_18 kept len (small_front rest len (omega arith)) (omega (arith, is, few.1)) in
    record {
      value = neg_ℤ (pos kept);
      adds = λ row. subst (λ e. AddsAt text start e row (row ++ neg_ℤ (pos kept) ∷ [])) (sym is)
          (negative_at text start len kept row (row ++ neg_ℤ (pos kept) ∷ []) (omega (arith, is, room)) minus refl (omega (arith, is, few.0), omega (arith, is, few.1), omega (arith, small)) (omega (arith, is, room)) (λ _. refl) refl);
    }

-- Fields so far.

-- so many fields were read up to a place at which one begins
pub record SomeFieldsTo (text : List ℕ) (start place count : ℕ) : Type 0 where
  pub values : List ℤ
  pub size : length values ≡ count
  pub are : FieldsTo text start place values

pub some_more : (text : List ℕ) (start place end count : ℕ) → IsEnded text → SomeFieldsTo text start place count → IsSomeInteger text place end → get_or text end 0 ≡ 44 → SomeFieldsTo text start (end + 1) (count + 1)
some_more text start place end count ended h a comma = record {
  values = h.values ++ a.value ∷ [];
  size = omega (arith, h.size, length-append h.values (a.value ∷ []));
  are = fields_more text start place end h.values (h.values ++ a.value ∷ []) ended h.are (a.adds h.values) comma;
}

pub some_last : (text : List ℕ) (start place end count width : ℕ) → SomeFieldsTo text start place count → IsSomeInteger text place end → count + 1 ≡ width → HasFields text start end width
some_last text start place end count width h a all = record {
  values = h.values ++ a.value ∷ [];
  count = omega (arith, h.size, all, length-append h.values (a.value ∷ []));
  are = fields_last text start place end h.values (h.values ++ a.value ∷ []) h.are (a.adds h.values);
}

-- fields behind others are more fields
pub some_joined : (text : List ℕ) (start place end count left : ℕ) → SomeFieldsTo text start place count → HasFields text place end left → HasFields text start end (count + left)
some_joined text start place end count left h g =
    let rest = slice_range text place end in
    let row = h.values ++ g.values in
    let there : place + (end - place) ≡ end = omega (arith, g.are.order) in
    let whole : slice_range text start end ≡ slice_range text start place ++ rest = ap (slice_range text start) (sym there) ∙ range_more text start place (end - place) h.are.order in
    record {
      values = row;
      count = omega (arith, h.size, g.count, length-append h.values g.values);
      are = record {
        values = subst (λ (f : List ℕ). values_of (slice_split is_comma f) ≡ Some row) (sym whole) (h.are.front.told rest ∙ ap (option_map (λ vs. h.values ++ vs)) g.are.values);
        count = subst (λ (f : List ℕ). length (slice_split is_comma f) ≡ length row) (sym whole) (omega (arith, h.are.front.count rest, g.are.count, length-append h.values g.values));
        plain = subst IsPlain (sym whole) (plain_both (slice_range text start place) rest h.are.front.plain g.are.plain);
        order = omega (arith, h.are.order, g.are.order);
        near = omega (arith, h.are.near, g.are.near, length-append h.values g.values);
        within = g.are.within;
      };
    }

-- Columns without domains.

-- the least integer of 64 bits
abbrev pub least : ℤ
least = neg_ℤ (pos 9223372036854775808)

-- all are that
abbrev pub AllLeast : List ℤ → Type 0
AllLeast [] = ⊤
AllLeast (v ∷ values) = (v ≡ least) × AllLeast values

least_front : (n : ℕ) (values : List ℤ) → AllLeast values → AllLeast (take n values)
least_front zero values h = tt
least_front (suc n) [] h = tt
least_front (suc n) (v ∷ values) h = (h.0, least_front n values h.1)

below_ends : (domain : Option (ℤ × ℤ)) (v : ℤ) → HasEnds domain → lies_within domain least ≡ true → lies_within domain v ≡ true
below_ends None v h is = refl
below_ends (Some ends) v h is =
    let low : int_lt least ends.0 ≡ true = grind (arith, ints, h.short_low.low) in
    let first : not (int_lt least ends.0) ≡ true = and_left (not (int_lt least ends.0)) (not (int_lt ends.1 least)) is in
    absurd (clash (sym first ∙ ap not low))

no_domain : (columns : List ColumnDef) (row values : List ℤ) → All (λ c. HasEnds c.domain) columns → AllLeast row → lie_within columns row ≡ true → length values ≡ length columns → lie_within columns values ≡ true
no_domain [] row [] ends all is size = refl
no_domain [] row (v ∷ values) ends all is size = absurd (omega (arith, size))
no_domain (c ∷ columns) [] values ends all is size = absurd (clash (sym is))
no_domain (c ∷ columns) (x ∷ row) [] ends all is size = absurd (omega (arith, size))
no_domain (c ∷ columns) (x ∷ row) (v ∷ values) ends all is size =
    let here : lies_within c.domain x ≡ true = and_left (lies_within c.domain x) (lie_within columns row) is in
    and_both (lies_within c.domain v) (lie_within columns values)
    (below_ends c.domain v (ends 0 c (omega arith)) (subst (λ z. lies_within c.domain z ≡ true) all.0 here))
    (no_domain columns row values (λ k d l. ends (suc k) d (omega (arith, l))) all.1 (and_right (lies_within c.domain x) (lie_within columns row) is) (omega (arith, size)))

-- columns that the least integers keep keep any values
pub keep_all : (columns : List ColumnDef) (n : ℕ) (row values : List ℤ) → All (λ c. HasEnds c.domain) columns → AllLeast row → lie_within columns (take n row) ≡ true → length values ≡ length columns → lie_within columns values ≡ true
keep_all columns n row values ends all is size = no_domain columns (take n row) values ends (least_front n row all) is size

-- A row.

-- what was read of the first line of a text is a row, whatever its values are
pub some_row : (streams : List Shape) (text : List ℕ) (stream start end len : ℕ) (columns : List ColumnDef) → columns ≡ (shape_at streams stream).columns → length columns ≤ 8 → BeginsStream streams text stream start
    → ((values : List ℤ) → length values ≡ length columns → lie_within columns values ≡ true) → HasFields text start end (length columns) → EndsLine text end len → len + 1 < length text → IsSomeRowOf streams text stream len
some_row streams text stream start end len columns is few b all f e before =
    let own = (shape_at streams stream).columns in
    let within : lie_within own f.values ≡ true = subst (λ cs. lie_within cs f.values ≡ true) is (all f.values f.count) in
    let fields = slice_split is_comma (slice_range text start end) in
    let size : length fields ≡ length own = f.are.count ∙ f.count ∙ ap length is in
    record {
      values = f.values;
      row = row_found streams text stream start end len f.values b f.are e before (omega (arith, f.count, few)) (whole_row stream own fields f.values f.are.values size within) (domains_kept streams stream f.values within);
    }
