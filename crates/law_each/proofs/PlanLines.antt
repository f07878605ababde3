-- The text of a plan, of printed statements and of answers, as lines.
use Rattle.std.proofs.Common.{ℕ, zero, suc, ◌+◌, ◌<◌, ◌≤◌, ℤ, pos, Bool, true, false, cond, codes, nat_le, List, [], ◌∷◌, ◌++◌, map, length, length-append, flat_map, Option, Some, None, refl, arith, slice_index_or}
use Rattle.std.specs.List.{AllByRecursion, enumerate_from, zip}
use Rattle.std.specs.Fmt.{decimal, signed_decimal}
use Rattle.std.specs.Prelude.{slice_index}
use Rattle.std.proofs.lemmas.List.Elements.{recursion_from_All}
use Rattle.exec_snapshot.specs.Lines.{kept_statements, cell_statement, cell_statements, content_in, printed_statements}
use Rattle.sql_explain.specs.Text.{attr_text, dim_line, element_text, explain_text, kind_text, link_line, links_text, name_line, part_line, part_text, parts_text, plan_text, query_line, sign_line, sign_text, signs_text, soft_line, soft_word, stream_text, unequal_text}
use Rattle.sem_query.specs.Bases.{Base}
use Rattle.sem_query.specs.Query.{QueryValue}
use Rattle.sem_query.specs.declared.atom.Atom.{Atom}
use Rattle.sem_query.specs.declared.atom.Attr.{Attr}
use Rattle.sem_query.specs.declared.atom.Element.{Element}
use Rattle.sem_query.specs.declared.atom.Element.TheVariants as element
use Rattle.sem_query.specs.declared.atom.Op.{Op}
use Rattle.sem_query.specs.declared.atom.Op.TheVariants.{Lt, Eq, Gt, Le, Ge, Ne}
use Rattle.sem_query.specs.declared.cell.Cell.{Cell}
use Rattle.sem_query.specs.declared.part.Pair.{Pair}
use Rattle.sem_query.specs.declared.part.Sign.{Sign}
use Rattle.sem_query.specs.declared.plan.Dim.{Dim}
use Rattle.sem_query.specs.declared.plan.Kind.{Kind}
use Rattle.sem_query.specs.declared.plan.Link.{Link}
use Rattle.sem_query.specs.declared.plan.PartPlan.{PartPlan}
use Rattle.sem_query.specs.declared.plan.SoftLink.{SoftLink}
use Rattle.sem_query.specs.declared.plan.Plan.{Plan}
use Rattle.sem_query.specs.declared.plan.Plan.TheVariants as plans
use Rattle.sem_query.specs.declared.plan.StreamPlan.{StreamPlan}
use Rattle.sem_query.specs.Parts.{pairs}
use Rattle.sql_parser.specs.Grammar.{Lexeme, word, number, key, comma, closing, opening, separated, name_tokens, coldef_tokens, domain_tokens, column_tokens, operand_tokens, op_token, atom_tokens, where_tokens, distinct_tokens, select_tokens, shared_tokens, compact_tokens, statement_tokens, capitals, written}
use Rattle.sql_parser.specs.Resolution.{atom_named, column_named, named_select, operand_named, stream_named}
use Rattle.sql_parser.specs.declared.tree.Statement.{Statement}
use Rattle.sql_parser.specs.declared.tree.Statement.TheVariants.{CreateQuery, ResumeRows, ResumeTuple}
use Rattle.sql_printer.specs.PrintedParts.{op_text}
use Rattle.sql_printer.specs.Printed.{gap_by, joins, joins_short, key_text, printed, printed_form, short_form, spaced_by, text_for}
use Rattle.sql_catalog.specs.Streams.{IsCatalog, IsShape, IsName, Shape, column_at, no_column, shape_at}
use Rattle.sql_catalog.specs.declared.column.ColumnDef.{ColumnDef}
use Rattle.cmd_session.specs.Checkpoint.{create_again, stream_line}
use Rattle.sql_text.specs.Tuple.{tuple_line, tuple_text}
use Rattle.sql_text.specs.declared.key.Key.{Key}
use Rattle.sql_text.specs.declared.key.Key.TheVariants.{CreateKey, StreamKey, QueryKey, AsKey, SelectKey, DistinctKey, FromKey, WhereKey, AndKey, ExplainKey, DropKey, InKey, SharedKey, CheckpointKey, ResumeKey}
use Rattle.law_each.specs.ComesApart.{IsReplyLine, IsLines}
use Rattle.law_each.proofs.Inner.{Inner, inner_joined, inner_each, name_inner, decimal_inner, signed_inner, reply_line, no_lines, one_line, all_both, lines_joined, lines_all, pieces_line}

-- the names of streams and columns
at_or : {X : Type 0} (P : X → Type 0) (d : X) → P d → (xs : List X) → AllByRecursion P xs → (n : ℕ) → P (slice_index_or xs n d)
at_or P d h [] all zero = h
at_or P d h [] all (suc n) = h
at_or P d h (x ∷ xs) all zero = all.0
at_or P d h (x ∷ xs) all (suc n) = at_or P d h xs all.1 n

each_weaker : {X : Type 0} (P Q : X → Type 0) → ((x : X) → P x → Q x) → (xs : List X) → AllByRecursion P xs → AllByRecursion Q xs
each_weaker P Q f [] h = tt
each_weaker P Q f (x ∷ xs) h = (f x h.0, each_weaker P Q f xs h.1)

pub record HasInnerNames (s : Shape) : Type 0 where
  pub name : Inner s.name
  pub columns : AllByRecursion (λ (c : ColumnDef). Inner c.name) s.columns

shape_inner : (s : Shape) → IsShape s → HasInnerNames s
shape_inner s is = record {
  name = (name_inner s.name is.name).1;
  columns = each_weaker (λ (c : ColumnDef). IsName c.name) (λ (c : ColumnDef). Inner c.name) (λ c h. (name_inner c.name h).1) s.columns (recursion_from_All (λ (c : ColumnDef). IsName c.name) s.columns is.names);
}

pub catalog_inner : (streams : List Shape) → IsCatalog streams → AllByRecursion HasInnerNames streams
catalog_inner streams is = each_weaker IsShape HasInnerNames shape_inner streams (recursion_from_All IsShape streams is.shapes)

-- tokens
abbrev InnerToken : Lexeme → Type 0
InnerToken l = Inner (text_for l)

key_some : (k : Key) → 0 < length (key_text k)
key_some CreateKey = omega arith
key_some StreamKey = omega arith
key_some QueryKey = omega arith
key_some AsKey = omega arith
key_some SelectKey = omega arith
key_some DistinctKey = omega arith
key_some FromKey = omega arith
key_some WhereKey = omega arith
key_some AndKey = omega arith
key_some ExplainKey = omega arith
key_some DropKey = omega arith
key_some InKey = omega arith
key_some SharedKey = omega arith
key_some CheckpointKey = omega arith
key_some ResumeKey = omega arith

gap_inner : (close : Lexeme → Lexeme → Bool) (l m : Lexeme) → Inner (gap_by close l m)
gap_inner close l m = by (close l m)
  where
    by : (b : Bool) → Inner (cond b [] (32 ∷ []))
    by true = refl
    by false = refl

tokens_inner : (close : Lexeme → Lexeme → Bool) (ls : List Lexeme) → AllByRecursion InnerToken ls → Inner (spaced_by close ls)
tokens_inner close [] h = refl
tokens_inner close (l ∷ []) h = h.0
tokens_inner close (l ∷ m ∷ ls) h =
    inner_joined (text_for l) (gap_by close l m ++ spaced_by close (m ∷ ls)) h.0 (inner_joined (gap_by close l m) (spaced_by close (m ∷ ls)) (gap_inner close l m) (tokens_inner close (m ∷ ls) h.1))

first_size : (close : Lexeme → Lexeme → Bool) (l : Lexeme) (ls : List Lexeme) → length (text_for l) ≤ length (spaced_by close (l ∷ ls))
first_size close l [] = omega arith
first_size close l (m ∷ ls) = omega (arith, length-append (text_for l) (gap_by close l m ++ spaced_by close (m ∷ ls)))

tokens_line : (close : Lexeme → Lexeme → Bool) (k : Key) (ls : List Lexeme) → AllByRecursion InnerToken (key k ∷ ls) → IsReplyLine (spaced_by close (key k ∷ ls))
tokens_line close k ls h = reply_line (spaced_by close (key k ∷ ls)) (omega (arith, key_some k, first_size close (key k) ls)) (tokens_inner close (key k ∷ ls) h)

separated_all : {X : Type 0} (P : Lexeme → Type 0) (sep : Lexeme) (f : X → List Lexeme) → P sep → (xs : List X) → AllByRecursion (λ x. AllByRecursion P (f x)) xs → AllByRecursion P (separated sep f xs)
separated_all P sep f s [] h = tt
separated_all P sep f s (x ∷ []) h = h.0
separated_all P sep f s (x ∷ y ∷ xs) h = all_both P (f x) (sep ∷ separated sep f (y ∷ xs)) h.0 (s, separated_all P sep f s (y ∷ xs) h.1)

mapped_all : {X Y : Type 0} (P : Y → Type 0) (g : X → Y) → ((x : X) → P (g x)) → (xs : List X) → AllByRecursion P (map g xs)
mapped_all P g h [] = tt
mapped_all P g h (x ∷ xs) = (h x, mapped_all P g h xs)

mapped_each : {X Y : Type 0} (Q : X → Type 0) (P : Y → Type 0) (g : X → Y) → ((x : X) → Q x → P (g x)) → (xs : List X) → AllByRecursion Q xs → AllByRecursion P (map g xs)
mapped_each Q P g h [] all = tt
mapped_each Q P g h (x ∷ xs) all = (h x all.0, mapped_each Q P g h xs all.1)

op_inner : (op : Op) → InnerToken (op_token op)
op_inner Lt = refl
op_inner Eq = refl
op_inner Gt = refl
op_inner Le = refl
op_inner Ge = refl
op_inner Ne = refl

op_text_inner : (op : Op) → Inner (op_text op)
op_text_inner Lt = refl
op_text_inner Eq = refl
op_text_inner Gt = refl
op_text_inner Le = refl
op_text_inner Ge = refl
op_text_inner Ne = refl

soft_word_is : (op : Op) → (0 < length (soft_word op)) × Inner (soft_word op)
soft_word_is Lt = (omega arith, refl)
soft_word_is Eq = (omega arith, refl)
soft_word_is Gt = (omega arith, refl)
soft_word_is Le = (omega arith, refl)
soft_word_is Ge = (omega arith, refl)
soft_word_is Ne = (omega arith, refl)

distinct_inner : (b : Bool) → AllByRecursion InnerToken (distinct_tokens b)
distinct_inner true = (refl, tt)
distinct_inner false = tt

shared_inner : (b : Bool) → AllByRecursion InnerToken (shared_tokens b)
shared_inner true = (refl, tt)
shared_inner false = tt

compact_inner : (b : Bool) → AllByRecursion InnerToken (compact_tokens (written capitals).compact b)
compact_inner true = (refl, tt)
compact_inner false = tt

domain_inner : (o : Option (ℤ × ℤ)) → AllByRecursion InnerToken (domain_tokens o)
domain_inner None = tt
domain_inner (Some ends) = (refl, (signed_inner ends.0, (refl, (refl, (signed_inner ends.1, tt)))))

coldef_inner : (c : ColumnDef) → Inner c.name → AllByRecursion InnerToken (coldef_tokens c)
coldef_inner c h = (h, domain_inner c.domain)

-- the lines that tell what is kept
pub stream_line_is : (s : Shape) → HasInnerNames s → IsReplyLine (stream_line s)
stream_line_is s h =
    let columns = separated_all InnerToken comma coldef_tokens refl s.columns (each_weaker (λ (c : ColumnDef). Inner c.name) (λ c. AllByRecursion InnerToken (coldef_tokens c)) coldef_inner s.columns h.columns) in
    tokens_line joins CreateKey (key StreamKey ∷ word s.name ∷ opening ∷ (separated comma coldef_tokens s.columns ++ closing ∷ [])) (refl, (refl, (h.name, (refl, all_both InnerToken (separated comma coldef_tokens s.columns) (closing ∷ []) columns (refl, tt)))))

pub rows_line_is : (n : ℕ) → IsReplyLine (printed_form (ResumeRows (pos n)))
rows_line_is n = tokens_line joins ResumeKey (number (pos n) ∷ []) (refl, (decimal_inner n, tt))

abbrev IsPrintedLine : Statement → Type 0
IsPrintedLine x = IsReplyLine (printed_form x)

cell_line_is : (name : List ℕ) (i : ℕ) (o : Option ℤ) → Inner name → AllByRecursion IsPrintedLine (cell_statement name i o)
cell_line_is name i None h = tt
cell_line_is name i (Some v) h = (tokens_line joins ResumeKey (word name ∷ key FromKey ∷ number (pos i) ∷ number v ∷ []) (refl, (h, (refl, (decimal_inner i, (signed_inner v, tt))))), tt)

cells_are : (name : List ℕ) (i : ℕ) (cells : List Cell) → Inner name → AllByRecursion IsPrintedLine (cell_statements name i cells)
unfolding cell_statements
cells_are name i [] h = tt
cells_are name i (c ∷ cells) h = all_both IsPrintedLine (cell_statement name i (content_in c)) (cell_statements name (i + 1) cells) (cell_line_is name i (content_in c) h) (cells_are name (i + 1) cells h)

tuple_is : (name : List ℕ) (t : List ℤ) → Inner name → IsPrintedLine (ResumeTuple name (record { items = t }))
tuple_is name t h = tokens_line joins ResumeKey (word name ∷ key SelectKey ∷ map number t) (refl, (h, (refl, mapped_all InnerToken number signed_inner t)))

tuples_are : (name : List ℕ) (b : Bool) (tuples : List (List ℤ)) → Inner name → AllByRecursion IsPrintedLine (printed_statements name b tuples)
tuples_are name true tuples h = mapped_all IsPrintedLine (λ (t : List ℤ). ResumeTuple name (record { items = t })) (λ t. tuple_is name t h) tuples
tuples_are name false tuples h = tt

pub kept_lines_are : (name : List ℕ) (distinct : Bool) (base : Base) → Inner name → AllByRecursion IsReplyLine (map printed_form (kept_statements name distinct base))
kept_lines_are name distinct base h =
    mapped_each IsPrintedLine IsReplyLine printed_form (λ x is. is) (kept_statements name distinct base) (
      tokens_line joins ResumeKey (word name ∷ key AsKey ∷ number (pos base.given) ∷ []) (refl, (h, (refl, (decimal_inner base.given, tt)))),
      all_both IsPrintedLine (cell_statements name 0 base.cells) (printed_statements name distinct base.table) (cells_are name 0 base.cells h) (tuples_are name distinct base.table h),
    )

-- answers
pub answer_is : (name : List ℕ) (values : List ℤ) → 0 < length name → Inner name → IsLines (tuple_line name values)
answer_is name values some h =
    one_line (name ++ tuple_text values)
    (reply_line (name ++ tuple_text values) (omega (arith, some, length-append name (tuple_text values)))
    (inner_joined name (tuple_text values) h (inner_each (λ (v : ℤ). 44 ∷ signed_decimal v) values signed_inner)))

module _ (streams : List Shape) (names : AllByRecursion HasInnerNames streams) where
  shape_at_inner : (n : ℕ) → HasInnerNames (shape_at streams n)
  shape_at_inner n = at_or HasInnerNames (record { name = []; columns = [] }) (record { name = refl; columns = tt }) streams names n

  column_inner : (n c : ℕ) → Inner (column_at (shape_at streams n).columns c)
  column_inner n c = at_or (λ (d : ColumnDef). Inner d.name) no_column refl (shape_at streams n).columns (shape_at_inner n).columns c

  pub attr_inner : (from : List ℕ) (a : Attr) → Inner (attr_text streams from a)
  attr_inner from a = inner_joined (stream_named streams (slice_index from a.stream)) (46 ∷ column_at (shape_at streams (slice_index from a.stream)).columns a.column)
      (shape_at_inner (slice_index from a.stream)).name (column_inner (slice_index from a.stream) a.column)

  element_inner : (from : List ℕ) (e : Element) → Inner (element_text streams from e)
  element_inner from (element.Attr a) = attr_inner from a
  element_inner from (element.Const k) = signed_inner k

  column_tokens_inner : (from : List ℕ) (a : Attr) → AllByRecursion InnerToken (column_tokens (column_named streams from a))
  column_tokens_inner from a = ((shape_at_inner (slice_index from a.stream)).name, (refl, (column_inner (slice_index from a.stream) a.column, tt)))

  operand_inner : (from : List ℕ) (e : Element) → AllByRecursion InnerToken (operand_tokens (operand_named streams from e))
  operand_inner from (element.Attr a) = column_tokens_inner from a
  operand_inner from (element.Const k) = (signed_inner k, tt)

  atom_inner : (from : List ℕ) (t : Atom) → AllByRecursion InnerToken (atom_tokens (atom_named streams from t))
  atom_inner from t = all_both InnerToken (operand_tokens (operand_named streams from t.left)) (op_token t.op ∷ operand_tokens (operand_named streams from t.right))
      (operand_inner from t.left) (op_inner t.op, operand_inner from t.right)

  where_inner : (from : List ℕ) (atoms : List Atom) → AllByRecursion InnerToken (where_tokens (map (atom_named streams from) atoms))
  where_inner from [] = tt
  where_inner from (t ∷ atoms) = (
    refl,
    separated_all InnerToken (key AndKey) atom_tokens refl (map (atom_named streams from) (t ∷ atoms))
        (mapped_all (λ x. AllByRecursion InnerToken (atom_tokens x)) (atom_named streams from) (atom_inner from) (t ∷ atoms)),
  )

  select_inner : (q : QueryValue) → AllByRecursion InnerToken (select_tokens (named_select streams q))
  select_inner q =
      let columns = separated_all InnerToken comma column_tokens refl (map (column_named streams q.from) q.select)
      (mapped_all (λ x. AllByRecursion InnerToken (column_tokens x)) (column_named streams q.from) (column_tokens_inner q.from) q.select) in
      let from = separated_all InnerToken comma name_tokens refl (map (stream_named streams) q.from)
      (mapped_all (λ x. AllByRecursion InnerToken (name_tokens x)) (stream_named streams) (λ n. ((shape_at_inner n).name, tt)) q.from) in
      all_both InnerToken (((key SelectKey ∷ distinct_tokens q.distinct) ++ separated comma column_tokens (map (column_named streams q.from) q.select)) ++ key FromKey ∷ separated comma name_tokens (map (stream_named streams) q.from)) (where_tokens (map (atom_named streams q.from) q.atoms))
      (all_both InnerToken ((key SelectKey ∷ distinct_tokens q.distinct) ++ separated comma column_tokens (map (column_named streams q.from) q.select)) (key FromKey ∷ separated comma name_tokens (map (stream_named streams) q.from))
      (all_both InnerToken (key SelectKey ∷ distinct_tokens q.distinct) (separated comma column_tokens (map (column_named streams q.from) q.select)) (refl, distinct_inner q.distinct) columns)
      (refl, from))
      (where_inner q.from q.atoms)

  create_inner : (name : List ℕ) (q : QueryValue) (shared : Bool) → Inner name → AllByRecursion InnerToken (statement_tokens (CreateQuery name (named_select streams q) shared))
  create_inner name q shared h =
      all_both InnerToken ((key CreateKey ∷ shared_tokens shared) ++ compact_tokens (written capitals).compact q.compact) (key QueryKey ∷ word name ∷ key AsKey ∷ select_tokens (named_select streams q))
      (all_both InnerToken (key CreateKey ∷ shared_tokens shared) (compact_tokens (written capitals).compact q.compact) (refl, shared_inner shared) (compact_inner q.compact))
      (refl, (h, (refl, select_inner q)))

  pub create_line_is : (name : List ℕ) (q : QueryValue) (shared : Bool) → Inner name → IsReplyLine (create_again streams name q shared)
  create_line_is name q shared h = by (nat_le (length (printed_form (CreateQuery name (named_select streams q) shared))) 1024)
    where
      by : (b : Bool) → IsReplyLine (cond b (printed_form (CreateQuery name (named_select streams q) shared)) (short_form (CreateQuery name (named_select streams q) shared)))
      by true = tokens_line joins CreateKey ((shared_tokens shared ++ compact_tokens (written capitals).compact q.compact) ++ key QueryKey ∷ word name ∷ key AsKey ∷ select_tokens (named_select streams q)) (create_inner name q shared h)
      by false = tokens_line joins_short CreateKey ((shared_tokens shared ++ compact_tokens (written capitals).compact q.compact) ++ key QueryKey ∷ word name ∷ key AsKey ∷ select_tokens (named_select streams q)) (create_inner name q shared h)

  sign_inner : (s : Sign) → Inner (sign_text s)
  sign_inner Sign.Lt = refl
  sign_inner Sign.Eq = refl
  sign_inner Sign.Gt = refl

  signs_are : (from : List ℕ) (ps : List Pair) (signs : List Sign) → IsLines (signs_text streams from ps signs)
  signs_are from ps signs = lines_all (λ (x : Pair × Sign). sign_line streams from x.0 x.1)
      (λ x. pieces_line (codes "sign ") (attr_text streams from x.0.left ∷ sign_text x.1 ∷ element_text streams from x.0.right ∷ []) (omega arith) refl (attr_inner from x.0.left, (sign_inner x.1, (element_inner from x.0.right, tt))))
      (zip ps signs)

  link_is : (from front : List ℕ) (s : Sign) (l : Link) → 0 < length front → Inner front → IsLines (link_line streams from front s l)
  link_is from front s l some h = pieces_line front (attr_text streams from l.left ∷ sign_text s ∷ attr_text streams from l.right ∷ []) some h (attr_inner from l.left, (sign_inner s, (attr_inner from l.right, tt)))

  soft_is : (from : List ℕ) (l : SoftLink) → IsLines (soft_line streams from l)
  soft_is from l =
      let lead = soft_word_is l.op in
      pieces_line (soft_word l.op) (attr_text streams from l.left ∷ op_text l.op ∷ attr_text streams from l.right ∷ []) lead.0 lead.1 (attr_inner from l.left, (op_text_inner l.op, (attr_inner from l.right, tt)))

  unequal_are : (from : List ℕ) (part : PartPlan) → IsLines (unequal_text streams from part)
  unequal_are from part = lines_joined (flat_map (link_line streams from (codes "less ") Sign.Lt) part.less.items) (flat_map (soft_line streams from) part.soft.items)
      (lines_all (link_line streams from (codes "less ") Sign.Lt) (λ l. link_is from (codes "less ") Sign.Lt l (omega arith) refl) part.less.items)
      (lines_all (soft_line streams from) (soft_is from) part.soft.items)

  links_are : (from : List ℕ) (part : PartPlan) → IsLines (links_text streams from part)
  links_are from part = lines_joined (flat_map (link_line streams from (codes "equal ") Sign.Eq) part.equal.items) (unequal_text streams from part)
      (lines_all (link_line streams from (codes "equal ") Sign.Eq) (λ l. link_is from (codes "equal ") Sign.Eq l (omega arith) refl) part.equal.items)
      (unequal_are from part)

  dims_are : (from : List ℕ) (dims : List Dim) → IsLines (flat_map (dim_line streams from) dims)
  dims_are from dims = lines_all (dim_line streams from)
      (λ d. pieces_line (codes "dim ") (attr_text streams from d.attr ∷ (32 ∷ signed_decimal d.lo) ∷ (32 ∷ signed_decimal d.hi) ∷ []) (omega arith) refl (attr_inner from d.attr, (signed_inner d.lo, (signed_inner d.hi, tt)))) dims

  kind_are : (from : List ℕ) (k : Kind) → IsLines (kind_text streams from k)
  kind_are from Kind.Count = no_lines
  kind_are from Kind.Present = no_lines
  kind_are from (Kind.Least a) = pieces_line (codes "least ") (attr_text streams from a ∷ []) (omega arith) refl (attr_inner from a, tt)
  kind_are from (Kind.Greatest a) = pieces_line (codes "greatest ") (attr_text streams from a ∷ []) (omega arith) refl (attr_inner from a, tt)

  streams_are : (from : List ℕ) (ss : List StreamPlan) → IsLines (flat_map (stream_text streams from) ss)
  streams_are from ss = lines_all (stream_text streams from) (λ x. lines_joined (flat_map (dim_line streams from) x.dims.items) (kind_text streams from x.kind) (dims_are from x.dims.items) (kind_are from x.kind)) ss

  part_line_is : (n : ℕ) → IsLines (part_line n)
  unfolding part_line
  part_line_is n = pieces_line (codes "part ") (decimal n ∷ []) (omega arith) refl (decimal_inner n, tt)

  parts_are : (q : QueryValue) (parts : List PartPlan) → IsLines (parts_text streams q parts)
  parts_are q parts = lines_all (λ (x : ℕ × PartPlan). part_text streams q x.0 x.1) (λ x.
      let signs = signs_text streams q.from (pairs q) x.1.signs.items in
      let links = links_text streams q.from x.1 in
      lines_joined ((part_line x.0 ++ signs) ++ links) (flat_map (stream_text streams q.from) x.1.streams.items)
      (lines_joined (part_line x.0 ++ signs) links (lines_joined (part_line x.0) signs (part_line_is x.0) (signs_are q.from (pairs q) x.1.signs.items)) (links_are q.from x.1))
      (streams_are q.from x.1.streams.items))
      (enumerate_from 1 parts)

  plan_are : (q : QueryValue) (p : Plan) → IsLines (plan_text streams q p)
  plan_are q plans.Filter = pieces_line (codes "filter") [] (omega arith) refl tt
  plan_are q (plans.Parts parts numbers) = parts_are q parts

  query_line_is : (q : QueryValue) → IsLines (query_line streams q)
  query_line_is q = one_line (printed (select_tokens (named_select streams q))) (tokens_line joins SelectKey (((distinct_tokens q.distinct ++ separated comma column_tokens (map (column_named streams q.from) q.select)) ++ key FromKey ∷ separated comma name_tokens (map (stream_named streams) q.from)) ++ where_tokens (map (atom_named streams q.from) q.atoms)) (select_inner q))

  name_line_is : (front name : List ℕ) → 0 < length front → Inner front → Inner name → IsLines (name_line front name)
  unfolding name_line
  name_line_is front name some h k = pieces_line front (name ∷ []) some h (k, tt)

  pub explained_are : (name : List ℕ) (q : QueryValue) (p : Plan) → Inner name → IsLines (explain_text streams name q p)
  explained_are name q p h =
      let first = name_line (codes "explain ") name in
      let second = query_line streams q in
      let plan = plan_text streams q p in
      lines_joined ((first ++ second) ++ plan) (name_line (codes "end ") name)
      (lines_joined (first ++ second) plan (lines_joined first second (name_line_is (codes "explain ") name (omega arith) refl h) (query_line_is q)) (plan_are q p))
      (name_line_is (codes "end ") name (omega arith) refl h)
