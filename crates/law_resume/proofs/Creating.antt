-- A live query within the limits that a catalog names can be created again.
use Rattle.std.proofs.Common.{◌≡◌, ℕ, ◌+◌, ◌<◌, ◌≤◌, inl, inr, append_assoc, Option, Bool, true, false, cond, ◌&&◌, ◌||◌, nat_lt, int_lt, ℤ, List, [], ◌∷◌, ◌++◌, map, flat_map, filter, length, None, refl, sym, ap, ap₂, ◌∙◌, subst, arith, get_or, IsTrue, All}
use Rattle.std.specs.List.{list_any, AllByRecursion}
use Rattle.std.specs.Ordering.{int_eq}
use Rattle.std.specs.Str.{bytes_eq}
use Rattle.std.proofs.lemmas.Bool.Decides.{nat_tests}
use Rattle.std.proofs.lemmas.Int.{ints}
use Rattle.std.proofs.lemmas.List.{map-append, length-map}
use Rattle.std.proofs.lemmas.List.Elements.{All-get_or, All-from_recursion, recursion_from_All}
use Rattle.sql_text.specs.declared.key.Key.TheVariants.{CreateKey, QueryKey, AsKey, FromKey, AndKey}
use Rattle.sem_query.specs.declared.atom.Attr.{Attr}
use Rattle.sem_query.specs.declared.atom.Atom.{Atom}
use Rattle.sem_query.specs.declared.atom.Element.{Element}
use Rattle.sem_query.specs.declared.atom.Element.TheVariants as element
use Rattle.sem_query.specs.declared.atom.Op.{Op}
use Rattle.sem_query.specs.declared.atom.Op.TheVariants as ops
use Rattle.sem_query.specs.Query.{QueryValue, IsWithinLimits, IsShort, HasAttr, is_attr, is_soft, attr_lt, with_new, attrs_with, consts_with, attrs_of, consts_of}
use Rattle.sem_query.proofs.Has.{Has, first, later}
use Rattle.sem_query.proofs.WithNew.{length-with_new}
use Rattle.sem_laws.proofs.Tests.{not_both}
use Rattle.sql_catalog.specs.declared.column.ColumnDef.{ColumnDef}
use Rattle.sql_catalog.specs.Streams.{Shape, IsName, IsShape, IsCatalog, shape_at, no_column}
use Rattle.sql_parser.specs.declared.tree.ColumnAst.{ColumnAst}
use Rattle.sql_parser.specs.declared.tree.SelectAst.{SelectAst}
use Rattle.sql_parser.specs.declared.tree.Statement.{Statement}
use Rattle.sql_parser.specs.declared.tree.Statement.TheVariants.{CreateQuery}
use Rattle.sql_parser.specs.Grammar.{Lexeme, word, number, key, comma, point, opening, closing, less, equal, greater, less_equal, greater_equal, unequal, semicolon, separated, name_tokens, column_tokens, operand_tokens, op_token, atom_tokens, where_tokens, distinct_tokens, shared_tokens, compact_tokens, select_tokens, tokens_with, no_words, HasColumn, IsColumn, IsWhole}
use Rattle.sql_parser.specs.Limits.{word_in, names_of, limit_of, is_long, is_far, same_column, number_of_different, columns_in, column_in, integers_in, integer_in, integers_of, soft_in}
use Rattle.sql_parser.specs.Resolution.{IsColumnOf, HasSide, HasSides, HasNamed, stream_named, column_named, operand_named, atom_named, named_select}
use Rattle.sql_parser.proofs.Different.{put_all}
use Rattle.sql_parser.proofs.NamedAttrs.{put_in}
use Rattle.sql_parser.proofs.Names.{name_facts}
use Rattle.sql_parser.proofs.Said.{numbers_query, select_grouped}
use Rattle.sql_parser.proofs.Taken.{same_name}
use Rattle.sql_parser.proofs.Within.{kept_length}
use Rattle.exec_registry.specs.Live.{LiveQuery}
use Rattle.cmd_session.proofs.ResumeTexts.{few, not_long}

-- the statement that creates a query again
abbrev pub creation : List Shape → LiveQuery → Statement
creation streams q = CreateQuery q.name (named_select streams q.query) q.shared

-- no list of it but that of the atoms is empty, no atom has two integers, its names are names, and it passes no limit
pub record IsCreatable (streams : List Shape) (q : LiveQuery) : Type 0 where
  pub whole : IsWhole (creation streams q)
  pub names : All IsName (names_of (creation streams q))
  pub within : limit_of (creation streams q) ≡ None

-- a strict order in which all elements can be compared
abbrev IsTotal : {X : Type 0} → (X → X → Bool) → Type 0
IsTotal {X} lt = (a b : X) → lt a b ≡ false → lt b a ≡ false → a ≡ b

attrs_total : IsTotal attr_lt
attrs_total a b h k = (let e = places a.stream a.column b.stream b.column h k in ap₂ (λ (s c : ℕ). let r : Attr = record { stream = s; column = c } in r) e.0 e.1)
  where
    places : (s c t d : ℕ) → attr_lt (record { stream = s; column = c }) (record { stream = t; column = d }) ≡ false → attr_lt (record { stream = t; column = d }) (record { stream = s; column = c }) ≡ false → (s ≡ t) × (c ≡ d)
    places s c t d h k = (grind (arith, nat_tests), grind (arith, nat_tests))

integers_total : IsTotal int_lt
integers_total a b h k = grind (arith, ints)

-- elements put in one by one, from the last on
abbrev put : {X : Type 0} → (X → X → Bool) → List X → List X
put lt xs = put_all lt (λ x. x) xs

module _ {X : Type 0} (lt : X → X → Bool) (total : IsTotal lt) where
  -- a new one makes them one more
  one_longer : (x : X) (ys : List X) → (Has ys x → ⊥) → length (with_new lt x ys) ≡ length ys + 1
  one_longer x [] h = omega arith
  one_longer x (y ∷ ys) h = by (lt x y) (lt y x) refl refl (one_longer x ys (λ k. h (later k)))
    where
      by : (b c : Bool) → lt x y ≡ b → lt y x ≡ c → length (with_new lt x ys) ≡ length ys + 1 → length (cond {A = List X} b (x ∷ y ∷ ys) (cond c (y ∷ with_new lt x ys) (y ∷ ys))) ≡ length (y ∷ ys) + 1
      by true c e f g = omega arith
      by false true e f g = omega (arith, g)
      by false false e f g = absurd (h (subst (λ z. Has (y ∷ ys) z) (sym (total x y e f)) first))

  -- those that are in were put in
  put_before : (xs : List X) (z : X) → Has (put lt xs) z → Has xs z
  put_before [] z h = elim h [ ]
  put_before (x ∷ xs) z h = put_in lt (λ y. Has (x ∷ xs) y) x (put lt xs) first (λ y k. later (put_before xs y k)) z h

  -- what holds of all that are in holds of all that were put in
  split_new : (P : X → Type 0) (x : X) (ys : List X) → AllByRecursion P (with_new lt x ys) → P x × AllByRecursion P ys
  split_new P x [] h = h
  split_new P x (y ∷ ys) h = by (lt x y) (lt y x) refl refl (split_new P x ys) h
    where
      by : (b c : Bool) → lt x y ≡ b → lt y x ≡ c → (AllByRecursion P (with_new lt x ys) → P x × AllByRecursion P ys)
          → AllByRecursion P (cond {A = List X} b (x ∷ y ∷ ys) (cond c (y ∷ with_new lt x ys) (y ∷ ys))) → P x × AllByRecursion P (y ∷ ys)
      by true c e f rest k = k
      by false true e f rest k = (let r = rest k.1 in (r.0, (k.0, r.1)))
      by false false e f rest k = (subst P (sym (total x y e f)) k.0, k)

  all_put_in : (P : X → Type 0) (xs : List X) → AllByRecursion P (put lt xs) → AllByRecursion P xs
  all_put_in P [] h = tt
  all_put_in P (x ∷ xs) h = (let s = split_new P x (put lt xs) h in (s.0, all_put_in P xs s.1))

  -- the different ones among what is read off them are no more
  module _ {C : Type 0} (same : C → C → Bool) (f : X → C) (itself : (c : C) → same c c ≡ true) where
    told_again : (z : X) (xs : List X) → Has xs z → list_any (same (f z)) (map f xs) ≡ true
    told_again z [] h = elim h [ ]
    told_again z (x ∷ xs) first = ap (λ b. b || list_any (same (f z)) (map f xs)) (itself (f z))
    told_again z (x ∷ xs) (later h) = or_true (same (f z) (f x)) (list_any (same (f z)) (map f xs)) (told_again z xs h)
      where
        or_true : (a b : Bool) → b ≡ true → (a || b) ≡ true
        or_true true b e = refl
        or_true false b e = e

    no_more : (xs : List X) → number_of_different same (map f xs) ≤ length (put lt xs)
    no_more [] = omega arith
    no_more (x ∷ xs) = by (list_any (same (f x)) (map f xs)) refl (no_more xs)
      where
        by : (b : Bool) → list_any (same (f x)) (map f xs) ≡ b → number_of_different same (map f xs) ≤ length (put lt xs)
            → cond b (number_of_different same (map f xs)) (number_of_different same (map f xs) + 1) ≤ length (with_new lt x (put lt xs))
        by true e h = (let l = length-with_new lt x (put lt xs) in omega (arith, h, l))
        by false e h =
            let l = one_longer x (put lt xs) (λ k. not_both (list_any (same (f x)) (map f xs)) (told_again x xs (put_before xs x k)) e) in
            omega (arith, h, l)

-- the columns and the integers of comparisons
attr_in : Element → List Attr
attr_in (element.Attr a) = a ∷ []
attr_in (element.Const k) = []

const_in : Element → List ℤ
const_in (element.Attr a) = []
const_in (element.Const k) = k ∷ []

attrs_in : List Atom → List Attr
attrs_in [] = []
attrs_in (t ∷ ts) = attr_in t.left ++ (attr_in t.right ++ attrs_in ts)

consts_in : List Atom → List ℤ
consts_in [] = []
consts_in (t ∷ ts) = const_in t.left ++ (const_in t.right ++ consts_in ts)

with_attr : (e : Element) (xs : List Attr) → attrs_with e (put attr_lt xs) ≡ put attr_lt (attr_in e ++ xs)
unfolding attr_in
with_attr (element.Attr a) xs = refl
with_attr (element.Const k) xs = refl

with_const : (e : Element) (xs : List ℤ) → consts_with e (put int_lt xs) ≡ put int_lt (const_in e ++ xs)
unfolding const_in
with_const (element.Attr a) xs = refl
with_const (element.Const k) xs = refl

attrs_are : (ts : List Atom) → attrs_of ts ≡ put attr_lt (attrs_in ts)
unfolding attrs_in
attrs_are [] = refl
attrs_are (t ∷ ts) = ap (λ xs. attrs_with t.left (attrs_with t.right xs)) (attrs_are ts) ∙ ap (attrs_with t.left) (with_attr t.right (attrs_in ts)) ∙ with_attr t.left (attr_in t.right ++ attrs_in ts)

consts_are : (ts : List Atom) → consts_of ts ≡ put int_lt (consts_in ts)
unfolding consts_in
consts_are [] = refl
consts_are (t ∷ ts) = ap (λ xs. consts_with t.left (consts_with t.right xs)) (consts_are ts) ∙ ap (consts_with t.left) (with_const t.right (consts_in ts)) ∙ with_const t.left (const_in t.right ++ consts_in ts)

same_itself : (c : ColumnAst) → same_column c c ≡ true
same_itself c = ap (λ b. b && bytes_eq c.column c.column) (same_name c.stream c.stream refl) ∙ same_name c.column c.column refl

int_itself : (z : ℤ) → int_eq z z ≡ true
int_itself z = grind (arith, ints)

map_same : (zs : List ℤ) → map (λ z. z) zs ≡ zs
map_same [] = refl
map_same (z ∷ zs) = ap (λ ys. z ∷ ys) (map_same zs)

-- an integer of fifteen digits is near
pub near : (z : ℤ) → IsShort z → is_far z ≡ false
near z h = (let low = h.low in let high = h.high in grind (arith, ints))

all_near : (zs : List ℤ) → AllByRecursion IsShort zs → list_any is_far zs ≡ false
all_near [] h = refl
all_near (z ∷ zs) h = ap (λ b. b || list_any is_far zs) (near z h.0) ∙ all_near zs h.1

-- the names among tokens
abbrev IsWord : Lexeme → Type 0
IsWord (word w) = IsName w
IsWord _ = Unit {0}

abbrev AreWords : List Lexeme → Type 0
AreWords ls = AllByRecursion IsWord ls

both_words : (a b : List Lexeme) → AreWords a → AreWords b → AreWords (a ++ b)
both_words [] b h k = k
both_words (l ∷ a) b h k = (h.0, both_words a b h.1 k)

words_named : (ls : List Lexeme) → AreWords ls → AllByRecursion IsName (flat_map word_in ls)
words_named [] h = tt
words_named (word w ∷ ls) h = (h.0, words_named ls h.1)
words_named (number z ∷ ls) h = words_named ls h.1
words_named (key k ∷ ls) h = words_named ls h.1
words_named (comma ∷ ls) h = words_named ls h.1
words_named (point ∷ ls) h = words_named ls h.1
words_named (opening ∷ ls) h = words_named ls h.1
words_named (closing ∷ ls) h = words_named ls h.1
words_named (less ∷ ls) h = words_named ls h.1
words_named (equal ∷ ls) h = words_named ls h.1
words_named (greater ∷ ls) h = words_named ls h.1
words_named (less_equal ∷ ls) h = words_named ls h.1
words_named (greater_equal ∷ ls) h = words_named ls h.1
words_named (unequal ∷ ls) h = words_named ls h.1
words_named (semicolon ∷ ls) h = words_named ls h.1

none_long : (ns : List (List ℕ)) → AllByRecursion IsName ns → list_any is_long ns ≡ false
none_long [] h = refl
none_long (n ∷ ns) h = ap (λ b. b || list_any is_long ns) (not_long n (name_facts n h.0).short) ∙ none_long ns h.1

separated_words : {X : Type 0} (sep : Lexeme) (f : X → List Lexeme) → IsWord sep → (xs : List X) → AllByRecursion (λ x. AreWords (f x)) xs → AreWords (separated sep f xs)
separated_words sep f own [] h = tt
separated_words sep f own (x ∷ []) h = h.0
separated_words sep f own (x ∷ y ∷ xs) h = both_words (f x) (sep ∷ separated sep f (y ∷ xs)) h.0 (own, separated_words sep f own (y ∷ xs) h.1)

mapped : {X Y : Type 0} (P : Y → Type 0) (Q : X → Type 0) (f : X → Y) → ((x : X) → Q x → P (f x)) → (xs : List X) → AllByRecursion Q xs → AllByRecursion P (map f xs)
mapped P Q f g [] h = tt
mapped P Q f g (x ∷ xs) h = (g x h.0, mapped P Q f g xs h.1)

module _ (streams : List Shape) (catalog : IsCatalog streams) (q : LiveQuery) (own : IsName q.name) (within : IsWithinLimits q.query) (has : HasNamed streams q.query) where
  abbrev v : QueryValue
  v = q.query

  abbrev s : SelectAst
  s = named_select streams v

  abbrev statement : Statement
  statement = creation streams q

  stream_is_named : (n : ℕ) → n < length streams → IsName (stream_named streams n)
  stream_is_named n h = (let shape : IsShape (shape_at streams n) = All-get_or IsShape streams n (record { name = []; columns = [] }) h catalog.shapes in shape.name)

  column_words : (a : Attr) → IsColumnOf streams v.from a → AreWords (column_tokens (column_named streams v.from a))
  column_words a c =
      let n : ℕ = get_or v.from a.stream 0 in
      let inside : n < length streams = All-get_or (λ m. m < length streams) v.from a.stream 0 c.stream has.from in
      let shape : IsShape (shape_at streams n) = All-get_or IsShape streams n (record { name = []; columns = [] }) inside catalog.shapes in
      (stream_is_named n inside, (tt, (All-get_or (λ (d : ColumnDef). IsName d.name) (shape_at streams n).columns a.column no_column c.column shape.names, tt)))

  side_words : (e : Element) → HasSide streams v.from e → AreWords (operand_tokens (operand_named streams v.from e))
  side_words (element.Attr a) h = column_words a h
  side_words (element.Const k) h = (tt, tt)

  op_word : (o : Op) → IsWord (op_token o)
  op_word ops.Lt = tt
  op_word ops.Eq = tt
  op_word ops.Gt = tt
  op_word ops.Le = tt
  op_word ops.Ge = tt
  op_word ops.Ne = tt

  atom_words : (t : Atom) → HasSides streams v.from t → AreWords (atom_tokens (atom_named streams v.from t))
  atom_words t h =
      both_words (operand_tokens (operand_named streams v.from t.left)) (op_token t.op ∷ operand_tokens (operand_named streams v.from t.right))
      (side_words t.left h.0) (op_word t.op, side_words t.right h.1)

  where_words : (ts : List Atom) → AllByRecursion (HasSides streams v.from) ts → AreWords (where_tokens (map (atom_named streams v.from) ts))
  where_words [] h = tt
  where_words (t ∷ ts) h =
      (tt, separated_words (key AndKey) atom_tokens tt (map (atom_named streams v.from) (t ∷ ts)) (mapped (λ a. AreWords (atom_tokens a)) (HasSides streams v.from) (atom_named streams v.from) atom_words (t ∷ ts) h))

  distinct_words : (d : Bool) → AreWords (distinct_tokens d)
  distinct_words true = (tt, tt)
  distinct_words false = tt

  select_words : AreWords (select_tokens s)
  select_words =
      let columns : List Lexeme = separated comma column_tokens s.select.items in
      let names : List Lexeme = separated comma name_tokens s.from.items in
      let comparisons : List Lexeme = where_tokens s.atoms.items in
      let a : AreWords columns
      = separated_words comma column_tokens tt s.select.items (mapped (λ c. AreWords (column_tokens c)) (IsColumnOf streams v.from) (column_named streams v.from) column_words v.select (recursion_from_All (IsColumnOf streams v.from) v.select has.select)) in
      let b : AreWords names
      = separated_words comma name_tokens tt s.from.items
      (mapped (λ n. AreWords (name_tokens n)) (λ n. n < length streams) (stream_named streams) (λ n h. (stream_is_named n h, tt)) v.from (recursion_from_All (λ n. n < length streams) v.from has.from)) in
      let c : AreWords comparisons = where_words v.atoms (recursion_from_All (HasSides streams v.from) v.atoms has.atoms) in
      subst AreWords (sym (select_grouped s)) (
        tt,
        both_words (distinct_tokens s.distinct) (columns ++ (key FromKey ∷ (names ++ comparisons))) (distinct_words s.distinct)
            (both_words columns (key FromKey ∷ (names ++ comparisons)) a (tt, both_words names comparisons b c)),
      )

  head_words : (shared compact : Bool) (ls : List Lexeme) → AreWords ls → AreWords (key CreateKey ∷ shared_tokens shared ++ compact_tokens [] compact ++ ls)
  head_words true true ls h = (tt, (tt, h))
  head_words true false ls h = (tt, (tt, h))
  head_words false true ls h = (tt, h)
  head_words false false ls h = (tt, h)

  names_named : AllByRecursion IsName (names_of statement)
  names_named = words_named (tokens_with no_words statement) (head_words q.shared s.compact (key QueryKey ∷ word q.name ∷ key AsKey ∷ select_tokens s) (tt, (own, (tt, select_words))))

  -- the columns and integers that are named
  columns_side : (e : Element) → column_in (operand_named streams v.from e) ≡ map (column_named streams v.from) (attr_in e)
  unfolding attr_in
  columns_side (element.Attr a) = refl
  columns_side (element.Const k) = refl

  columns_named : (ts : List Atom) → columns_in (map (atom_named streams v.from) ts) ≡ map (column_named streams v.from) (attrs_in ts)
  unfolding attrs_in
  columns_named [] = refl
  columns_named (t ∷ ts) =
      ap₂ (λ (a b : List ColumnAst). (a ++ b) ++ columns_in (map (atom_named streams v.from) ts)) (columns_side t.left) (columns_side t.right)
      ∙ ap (λ c. (map (column_named streams v.from) (attr_in t.left) ++ map (column_named streams v.from) (attr_in t.right)) ++ c) (columns_named ts)
      ∙ append_assoc (map (column_named streams v.from) (attr_in t.left)) (map (column_named streams v.from) (attr_in t.right)) (map (column_named streams v.from) (attrs_in ts))
      ∙ ap (λ r. map (column_named streams v.from) (attr_in t.left) ++ r) (sym (map-append (column_named streams v.from) (attr_in t.right) (attrs_in ts)))
      ∙ sym (map-append (column_named streams v.from) (attr_in t.left) (attr_in t.right ++ attrs_in ts))

  integers_side : (e : Element) → integer_in (operand_named streams v.from e) ≡ const_in e
  unfolding const_in
  integers_side (element.Attr a) = refl
  integers_side (element.Const k) = refl

  integers_named : (ts : List Atom) → integers_in (map (atom_named streams v.from) ts) ≡ consts_in ts
  unfolding consts_in
  integers_named [] = refl
  integers_named (t ∷ ts) =
      ap₂ (λ (a b : List ℤ). (a ++ b) ++ integers_in (map (atom_named streams v.from) ts)) (integers_side t.left) (integers_side t.right)
      ∙ ap (λ c. (const_in t.left ++ const_in t.right) ++ c) (integers_named ts)
      ∙ append_assoc (const_in t.left) (const_in t.right) (consts_in ts)

  soft_named : (ts : List Atom) → length (soft_in (map (atom_named streams v.from) ts)) ≡ length (filter (λ (t : Atom). is_soft t.op) ts)
  soft_named [] = refl
  soft_named (t ∷ ts) = kept_length (is_soft t.op) (atom_named streams v.from t) (soft_in (map (atom_named streams v.from) ts)) t (filter (λ (u : Atom). is_soft u.op) ts) (soft_named ts)

  -- each comparison has a column
  side : (e : Element) → IsTrue (is_attr e) → IsColumn (operand_named streams v.from e)
  side (element.Attr a) h = tt
  side (element.Const k) h = absurd cc

  sides : (t : Atom) → HasAttr t → HasColumn (atom_named streams v.from t)
  sides t h = elim h [ inl l ↦ inl (side t.left l) | inr r ↦ inr (side t.right r) ]

  few_columns : number_of_different same_column (columns_in s.atoms.items) ≤ 12
  few_columns =
      let m = no_more attr_lt attrs_total same_column (column_named streams v.from) same_itself (attrs_in v.atoms) in
      let e : length (attrs_of v.atoms) ≡ length (put attr_lt (attrs_in v.atoms)) = ap length (attrs_are v.atoms) in
      let f : number_of_different same_column (columns_in s.atoms.items) ≡ number_of_different same_column (map (column_named streams v.from) (attrs_in v.atoms)) = ap (number_of_different same_column) (columns_named v.atoms) in
      let most = within.few_attrs in
      omega (arith, m, e, f, most)

  few_integers : number_of_different int_eq (integers_in s.atoms.items) ≤ 6
  few_integers =
      let m = no_more int_lt integers_total int_eq (λ z. z) int_itself (consts_in v.atoms) in
      let e : length (consts_of v.atoms) ≡ length (put int_lt (consts_in v.atoms)) = ap length (consts_are v.atoms) in
      let f : number_of_different int_eq (integers_in s.atoms.items) ≡ number_of_different int_eq (map (λ z. z) (consts_in v.atoms)) = ap (number_of_different int_eq) (integers_named v.atoms ∙ sym (map_same (consts_in v.atoms))) in
      let most = within.few_consts in
      omega (arith, m, e, f, most)

  none_far : list_any is_far (integers_of statement) ≡ false
  none_far =
      ap (list_any is_far) (numbers_query q.name s q.shared ∙ integers_named v.atoms)
      ∙ all_near (consts_in v.atoms) (all_put_in int_lt integers_total IsShort (consts_in v.atoms) (subst (AllByRecursion IsShort) (consts_are v.atoms) (recursion_from_All IsShort (consts_of v.atoms) within.consts)))

  no_limit : limit_of statement ≡ None
  no_limit =
      let selected : nat_lt 8 (length s.select.items) ≡ false = few 8 (length s.select.items) (let l = length-map v.select (column_named streams v.from) in let m = within.selected.1 in omega (arith, l, m)) in
      let sources : nat_lt 4 (length s.from.items) ≡ false = few 4 (length s.from.items) (let l = length-map v.from (stream_named streams) in let m = within.streams.1 in omega (arith, l, m)) in
      let comparisons : nat_lt 16 (length s.atoms.items) ≡ false = few 16 (length s.atoms.items) (let l = length-map v.atoms (atom_named streams v.from) in let m = within.comparisons in omega (arith, l, m)) in
      let soft : nat_lt 8 (length (soft_in s.atoms.items)) ≡ false = few 8 (length (soft_in s.atoms.items)) (let l = soft_named v.atoms in let m = within.few_soft in omega (arith, l, m)) in
      let attrs : nat_lt 12 (number_of_different same_column (columns_in s.atoms.items)) ≡ false = few 12 (number_of_different same_column (columns_in s.atoms.items)) few_columns in
      let consts : nat_lt 6 (number_of_different int_eq (integers_in s.atoms.items)) ≡ false = few 6 (number_of_different int_eq (integers_in s.atoms.items)) few_integers in
      past (list_any is_long (names_of statement)) _ _ (none_long (names_of statement) names_named)
      (past (nat_lt 8 (length s.select.items)) _ _ selected
      (past (nat_lt 4 (length s.from.items)) _ _ sources
      (past (nat_lt 16 (length s.atoms.items)) _ _ comparisons
      (past (nat_lt 8 (length (soft_in s.atoms.items))) _ _ soft
      (past (nat_lt 12 (number_of_different same_column (columns_in s.atoms.items))) _ _ attrs
      (past (list_any is_far (integers_of statement)) _ _ none_far
      (past (nat_lt 6 (number_of_different int_eq (integers_in s.atoms.items))) _ _ consts refl)))))))
    where
      past : {X : Type 0} (b : Bool) (x y : Option X) → b ≡ false → y ≡ None → cond b x y ≡ None
      past true x y e h = absurd cc
      past false x y e h = h

  pub creatable : IsCreatable streams q
  creatable = record {
    whole = (
      let l = length-map v.select (column_named streams v.from) in let m = within.selected.0 in omega (arith, l, m),
      (let l = length-map v.from (stream_named streams) in let m = within.streams.0 in omega (arith, l, m)),
      mapped HasColumn HasAttr (atom_named streams v.from) sides v.atoms (recursion_from_All HasAttr v.atoms within.sides),
    );
    names = All-from_recursion IsName (names_of statement) names_named;
    within = no_limit;
  }
