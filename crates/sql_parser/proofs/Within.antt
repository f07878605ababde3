-- What is kept of a statement passes the limits that the statement passes, and within them it is the statement.
use Rattle.std.proofs.Common.{◌≡◌, ℕ, ◌^◌, ◌≤◌, ◌⊎◌, inl, inr, Bool, true, false, cond, not, ◌||◌, ℤ, pos, negsuc, int_eq, nat_lt, List, [], ◌∷◌, ◌++◌, length, map, take, Option, Some, None, refl, ap, ap₂, sym, ◌∙◌, arith, subst, append-nil, flat_map, Ok}
use Rattle.std.specs.List.{list_any, AllByRecursion}
use Rattle.std.proofs.lemmas.Bool.Decides.{nat_tests}
use Rattle.std.proofs.lemmas.List.{take_all, length-map, map-append}
use Rattle.std.proofs.lemmas.List.Concat.{flat_map-append}
use Rattle.std.proofs.lemmas.List.Folds.{list_any-append}
use Rattle.sql_text.specs.Value.{fits_i64}
use Rattle.sql_text.specs.declared.key.Key.TheVariants.{FromKey}
use Rattle.sql_lexer.specs.declared.token.Token.{Token}
use Rattle.sql_lexer.specs.Tokens.{tokens}
use Rattle.sql_lexer.specs.Standing.{StandFrom}
use Rattle.sem_query.specs.Query.{is_soft}
use Rattle.sql_parser.specs.declared.transitions.State.{State}
use Rattle.sql_parser.specs.declared.transitions.State.TheVariants.{Start, AfterFrom, AfterAtom, AfterValue, AfterLock, AfterLockKey, AfterLockStream, Complete, Ended}
use Rattle.sql_catalog.specs.declared.column.ColumnDef.{ColumnDef}
use Rattle.sql_parser.specs.declared.tree.ColumnAst.{ColumnAst}
use Rattle.sql_parser.specs.declared.tree.OperandAst.{OperandAst}
use Rattle.sql_parser.specs.declared.tree.OperandAst.TheVariants.{Column, Integer}
use Rattle.sql_parser.specs.declared.tree.AtomAst.{AtomAst}
use Rattle.sql_parser.specs.declared.tree.SelectAst.{SelectAst}
use Rattle.sql_parser.specs.declared.tree.Statement.{Statement}
use Rattle.sql_parser.specs.declared.tree.Statement.TheVariants.{CreateStream, CreateQuery, Explain, DropQuery, Checkpoint, ResumeRows, ResumeGiven, ResumeCell, ResumeTuple, Lock, Unlock}
use Rattle.sql_parser.specs.declared.draft.Draft.{Draft}
use Rattle.sql_parser.specs.declared.draft.Form.{Form}
use Rattle.sql_parser.specs.declared.draft.Form.TheVariants as forms
use Rattle.sql_parser.specs.declared.parsing.What.{What}
use Rattle.sql_parser.specs.declared.parsing.What.TheVariants as limits
use Rattle.sql_parser.specs.DraftSteps.{kept, statement_by, statement_of}
use Rattle.sql_parser.specs.DraftLimits.{is_long_token, is_wide_token, ends_in, limit_in_atoms, limit_in_columns, limit_by, limit_in}
use Rattle.sql_parser.specs.Grammar.{Lexeme, word, number, key, comma, closing, semicolon, separated, name_tokens, coldef_tokens, column_tokens, operand_tokens, op_token, atom_tokens, where_tokens, distinct_tokens, select_tokens, to_tokens, FreeWords, tokens_with, written, Spells}
use Rattle.sql_parser.specs.Reading.{Parts, no_parts, built, finished, may_end}
use Rattle.sql_parser.specs.Syntax.{lexemes, IsStatement}
use Rattle.sql_parser.specs.Keeping.{kept_column, kept_number, kept_domain, kept_key, kept_def, kept_operand, kept_atom, kept_parts, IsRead}
use Rattle.sql_parser.specs.Limits.{word_in, number_in, names_of, integers_of, columns_of, selected_by, streams_of, atoms_of, soft_in, column_in, columns_in, integer_in, integers_in, same_column, number_of_different, is_long, is_far, is_wide, is_beyond, values_of, opened_by, is_reversed, limit_of}
use Rattle.sql_parser.proofs.Compact.{in_capitals, spelt_walk, long_with, numbers_with}
use Rattle.sql_parser.proofs.Told.{Fine}
use Rattle.sql_parser.proofs.WalkLaws.{walk_told, finished_spells}
use Rattle.sql_parser.proofs.Verdict.{is_finished}
use Rattle.sql_parser.proofs.Names.{kept_name}
use Rattle.sql_parser.proofs.Said.{long_names, IsNamed, all_named, without_semicolon, wide_numbers, integers_but_semicolon, numbers_tuple, all_left, all_right, all_separated, all_where, all_query, numbers_coldefs, numbers_query, select_grouped, cut_at, or_right}

-- names that are kept
kept_names : (names : List (List ℕ)) → AllByRecursion (λ n. AllByRecursion IsNamed (name_tokens n)) names → map kept names ≡ names
kept_names [] h = refl
kept_names (n ∷ ns) h = ap (λ m. m ∷ map kept ns) (kept_name n h.0.0) ∙ ap (λ ms. n ∷ ms) (kept_names ns h.1)

column_kept : (c : ColumnAst) → AllByRecursion IsNamed (column_tokens c) → kept_column c ≡ c
column_kept c h = ap (λ s. record { stream = s; column = kept c.column }) (kept_name c.stream h.0) ∙ ap (λ m. record { stream = c.stream; column = m }) (kept_name c.column h.1.1.0)

columns_kept : (columns : List ColumnAst) → AllByRecursion (λ c. AllByRecursion IsNamed (column_tokens c)) columns → map kept_column columns ≡ columns
columns_kept [] h = refl
columns_kept (c ∷ cs) h = ap (λ m. m ∷ map kept_column cs) (column_kept c h.0) ∙ ap (λ ms. c ∷ ms) (columns_kept cs h.1)

-- an operand whose names are kept, and an integer that is far is the farthest
abbrev pub nearer : OperandAst → OperandAst
nearer (Column c) = Column c
nearer (Integer z) = Integer (kept_number z)

abbrev pub nearer_atom : AtomAst → AtomAst
nearer_atom a = record { left = nearer a.left; op = a.op; right = nearer a.right }

operand_kept : (o : OperandAst) → AllByRecursion IsNamed (operand_tokens o) → kept_operand o ≡ nearer o
operand_kept (Column c) h = ap Column (column_kept c h)
operand_kept (Integer z) h = refl

atom_kept : (a : AtomAst) → AllByRecursion IsNamed (atom_tokens a) → kept_atom a ≡ nearer_atom a
atom_kept a h =
    ap (λ o. record { left = o; op = a.op; right = kept_operand a.right }) (operand_kept a.left (all_left IsNamed (operand_tokens a.left) (op_token a.op ∷ operand_tokens a.right) h))
    ∙ ap (λ o. record { left = nearer a.left; op = a.op; right = o }) (operand_kept a.right (all_right IsNamed (operand_tokens a.left) (op_token a.op ∷ operand_tokens a.right) h).1)

atoms_kept : (atoms : List AtomAst) → AllByRecursion (λ a. AllByRecursion IsNamed (atom_tokens a)) atoms → map kept_atom atoms ≡ map nearer_atom atoms
atoms_kept [] h = refl
atoms_kept (a ∷ atoms) h = ap (λ m. m ∷ map kept_atom atoms) (atom_kept a h.0) ∙ ap (λ ms. nearer_atom a ∷ ms) (atoms_kept atoms h.1)

column_nearer : (o : OperandAst) → column_in (nearer o) ≡ column_in o
column_nearer (Column c) = refl
column_nearer (Integer z) = refl

columns_nearer : (atoms : List AtomAst) → columns_in (map nearer_atom atoms) ≡ columns_in atoms
columns_nearer [] = refl
columns_nearer (a ∷ atoms) =
    ap (λ cs. (cs ++ column_in (nearer a.right)) ++ columns_in (map nearer_atom atoms)) (column_nearer a.left)
    ∙ ap (λ cs. (column_in a.left ++ cs) ++ columns_in (map nearer_atom atoms)) (column_nearer a.right)
    ∙ ap (λ cs. (column_in a.left ++ column_in a.right) ++ cs) (columns_nearer atoms)

-- as many elements pass, where each is told by the same test
pub kept_length : {X Y : Type 0} (b : Bool) (x : X) (xs : List X) (y : Y) (ys : List Y) → length xs ≡ length ys → length (cond b (x ∷ xs) xs) ≡ length (cond b (y ∷ ys) ys)
kept_length true x xs y ys e = omega (arith, e)
kept_length false x xs y ys e = e

-- as many atoms are soft
soft_nearer : (atoms : List AtomAst) → length (soft_in (map nearer_atom atoms)) ≡ length (soft_in atoms)
soft_nearer [] = refl
soft_nearer (a ∷ atoms) = kept_length (is_soft a.op) (nearer_atom a) (soft_in (map nearer_atom atoms)) a (soft_in atoms) (soft_nearer atoms)

integer_nearer : (o : OperandAst) → integer_in (nearer o) ≡ map kept_number (integer_in o)
integer_nearer (Column c) = refl
integer_nearer (Integer z) = refl

integers_nearer : (atoms : List AtomAst) → integers_in (map nearer_atom atoms) ≡ map kept_number (integers_in atoms)
integers_nearer [] = refl
integers_nearer (a ∷ atoms) =
    let l = integer_in a.left in
    let r = integer_in a.right in
    ap (λ zs. (zs ++ integer_in (nearer a.right)) ++ integers_in (map nearer_atom atoms)) (integer_nearer a.left)
    ∙ ap (λ zs. (map kept_number l ++ zs) ++ integers_in (map nearer_atom atoms)) (integer_nearer a.right)
    ∙ ap (λ zs. (map kept_number l ++ map kept_number r) ++ zs) (integers_nearer atoms)
    ∙ ap (λ zs. zs ++ map kept_number (integers_in atoms)) (sym (map-append kept_number l r))
    ∙ sym (map-append kept_number (l ++ r) (integers_in atoms))

flag : (b : Bool) → (b ≡ true) ⊎ (b ≡ false)
flag true = inl refl
flag false = inr refl

-- an integer that is not far fits
far_pos : (n : ℕ) → nat_lt n (2 ^ 63) ≡ false → is_far (pos n) ≡ true
far_pos n h = grind (arith, nat_tests)

far_neg : (n : ℕ) → nat_lt n (2 ^ 63) ≡ false → is_far (negsuc n) ≡ true
far_neg n h = grind (arith, nat_tests)

unfit_far : (z : ℤ) → fits_i64 z ≡ false → is_far z ≡ true
unfit_far (pos n) h = far_pos n h
unfit_far (negsuc n) h = far_neg n h

far_kept : (z : ℤ) → is_far (kept_number z) ≡ is_far z
far_kept z = elim (flag (fits_i64 z)) [
  | inl h ↦ ap (λ t. is_far (cond t z (pos 9223372036854775807))) h
  | inr h ↦ ap (λ t. is_far (cond t z (pos 9223372036854775807))) h ∙ sym (unfit_far z h)
]

near_kept : (z : ℤ) → is_far z ≡ false → kept_number z ≡ z
near_kept z h = elim (flag (fits_i64 z)) [
  | inl e ↦ ap (λ t. cond t z (pos 9223372036854775807)) e
  | inr e ↦ absurd (let f : true ≡ false = sym (unfit_far z e) ∙ h in cc)
]

any_far_kept : (zs : List ℤ) → list_any is_far (map kept_number zs) ≡ list_any is_far zs
any_far_kept [] = refl
any_far_kept (z ∷ zs) = ap (λ b. b || list_any is_far (map kept_number zs)) (far_kept z) ∙ ap (λ b. is_far z || b) (any_far_kept zs)

or_left : (a b : Bool) → (a || b) ≡ false → a ≡ false
or_left true b h = cc
or_left false b h = refl

all_near_kept : (zs : List ℤ) → list_any is_far zs ≡ false → map kept_number zs ≡ zs
all_near_kept [] h = refl
all_near_kept (z ∷ zs) h = ap (λ y. y ∷ map kept_number zs) (near_kept z (or_left (is_far z) _ h)) ∙ ap (λ ys. z ∷ ys) (all_near_kept zs (or_right (is_far z) _ h))

-- where two answers are the same unless the test holds
unless : {X : Type 0} (b : Bool) (x y z : X) → (b ≡ false → y ≡ z) → cond b x y ≡ cond b x z
unless true x y z h = refl
unless false x y z h = h refl

few : (m n : ℕ) → nat_lt n m ≡ false → m ≤ n
few m n h = grind (arith, nat_tests)

-- the limits behind that on the number of atoms, of a statement that creates no stream
abbrev pub limit_at_end : ℕ → List ColumnAst → List ℤ → List ℤ → Option What
limit_at_end soft columns integers constants =
    cond (nat_lt 8 soft) (Some limits.Soft)
    (cond (nat_lt 12 (number_of_different same_column columns)) (Some limits.Attrs)
    (cond (list_any is_far integers) (Some limits.Value) (cond (nat_lt 6 (number_of_different int_eq constants)) (Some limits.Consts) None)))

-- the limits of the atoms that are kept
kept_limit : (atoms : List AtomAst) → length atoms ≤ 16 → AllByRecursion (λ a. AllByRecursion IsNamed (atom_tokens a)) atoms → limit_in_atoms (take 16 (map kept_atom atoms)) ≡ limit_at_end (length (soft_in atoms)) (columns_in atoms) (integers_in atoms) (integers_in atoms)
kept_limit atoms room named =
    let zs = integers_in atoms in
    ap limit_in_atoms (take_all 16 (map kept_atom atoms) (omega (arith, length-map atoms kept_atom)) ∙ atoms_kept atoms named)
    ∙ ap (λ n. limit_at_end n (columns_in (map nearer_atom atoms)) (integers_in (map nearer_atom atoms)) (integers_in (map nearer_atom atoms))) (soft_nearer atoms)
    ∙ ap (λ cs. limit_at_end (length (soft_in atoms)) cs (integers_in (map nearer_atom atoms)) (integers_in (map nearer_atom atoms))) (columns_nearer atoms)
    ∙ ap (λ ys. limit_at_end (length (soft_in atoms)) (columns_in atoms) ys ys) (integers_nearer atoms)
    ∙ unless (nat_lt 8 (length (soft_in atoms))) (Some limits.Soft) _ _ (λ soft.
    unless (nat_lt 12 (number_of_different same_column (columns_in atoms))) (Some limits.Attrs) _ _ (λ attrs.
    ap (λ b. cond b (Some limits.Value) (cond (nat_lt 6 (number_of_different int_eq (map kept_number zs))) (Some limits.Consts) None)) (any_far_kept zs)
    ∙ unless (list_any is_far zs) (Some limits.Value) _ _ (λ near. ap (λ ys. cond (nat_lt 6 (number_of_different int_eq ys)) (Some limits.Consts) None) (all_near_kept zs near))))

-- what the tokens of a query say of its names
pub record NamedSelect (s : SelectAst) : Type 0 where
  pub select : AllByRecursion (λ c. AllByRecursion IsNamed (column_tokens c)) s.select.items
  pub from : AllByRecursion (λ n. AllByRecursion IsNamed (name_tokens n)) s.from.items
  pub atoms : AllByRecursion (λ a. AllByRecursion IsNamed (atom_tokens a)) s.atoms.items

named_select : (s : SelectAst) → AllByRecursion IsNamed (select_tokens s) → NamedSelect s
named_select s h =
    let P : List Lexeme → Type 0 = λ ls. AllByRecursion IsNamed ls in
    let columns = separated comma column_tokens s.select.items in
    let names = separated comma name_tokens s.from.items in
    let behind = names ++ where_tokens s.atoms.items in
    let grouped = subst P (select_grouped s) h in
    let selected = all_right IsNamed (distinct_tokens s.distinct) (columns ++ (key FromKey ∷ behind)) grouped.1 in
    let rest = (all_right IsNamed columns (key FromKey ∷ behind) selected).1 in
    record {
      select = all_separated IsNamed comma column_tokens s.select.items (all_left IsNamed columns (key FromKey ∷ behind) selected);
      from = all_separated IsNamed comma name_tokens s.from.items (all_left IsNamed names (where_tokens s.atoms.items) rest);
      atoms = all_where IsNamed s.atoms.items (all_right IsNamed names (where_tokens s.atoms.items) rest);
    }

-- the integers of a stream are the ends of the domains of its columns
stream_integers : (name : List ℕ) (columns : List ColumnDef) → integers_of (CreateStream name (record { items = columns })) ≡ flat_map (λ c. ends_in c.domain) columns
stream_integers name columns = flat_map-append number_in (separated comma coldef_tokens columns) (closing ∷ []) ∙ append-nil (flat_map number_in (separated comma coldef_tokens columns)) ∙ numbers_coldefs columns

abbrev pub any_far : List ColumnDef → Bool
any_far columns = list_any (λ c. list_any is_far (ends_in c.domain)) columns

abbrev pub any_reversed : List ColumnDef → Bool
any_reversed columns = list_any (λ c. is_reversed c.domain) columns

far_columns : (columns : List ColumnDef) → list_any is_far (flat_map (λ c. ends_in c.domain) columns) ≡ any_far columns
far_columns [] = refl
far_columns (c ∷ columns) =
    list_any-append is_far (ends_in c.domain) (flat_map (λ c. ends_in c.domain) columns)
    ∙ ap (λ b. list_any is_far (ends_in c.domain) || b) (far_columns columns)

pub far_stream : (name : List ℕ) (columns : List ColumnDef) → list_any is_far (integers_of (CreateStream name (record { items = columns }))) ≡ any_far columns
far_stream name columns = ap (list_any is_far) (stream_integers name columns) ∙ far_columns columns

-- a domain that is kept has an end that is far where the domain has
far_domain : (domain : Option (ℤ × ℤ)) → list_any is_far (ends_in (kept_domain domain)) ≡ list_any is_far (ends_in domain)
far_domain None = refl
far_domain (Some ends) = any_far_kept (ends.0 ∷ ends.1 ∷ [])

far_kept_columns : (columns : List ColumnDef) → any_far (map kept_def columns) ≡ any_far columns
far_kept_columns [] = refl
far_kept_columns (c ∷ columns) =
    ap (λ b. b || any_far (map kept_def columns)) (far_domain c.domain)
    ∙ ap (λ b. list_any is_far (ends_in c.domain) || b) (far_kept_columns columns)

-- a domain that has none is kept as it is
near_domain : (domain : Option (ℤ × ℤ)) → list_any is_far (ends_in domain) ≡ false → kept_domain domain ≡ domain
near_domain None h = refl
near_domain (Some ends) h = ap₂ (λ low high. Some (low, high)) (near_kept ends.0 (or_left (is_far ends.0) _ h)) (near_kept ends.1 (or_left (is_far ends.1) false (or_right (is_far ends.0) _ h)))

reversed_kept : (columns : List ColumnDef) → any_far columns ≡ false → any_reversed (map kept_def columns) ≡ any_reversed columns
reversed_kept [] h = refl
reversed_kept (c ∷ columns) h =
    ap (λ d. is_reversed d || any_reversed (map kept_def columns)) (near_domain c.domain (or_left (list_any is_far (ends_in c.domain)) _ h))
    ∙ ap (λ b. is_reversed c.domain || b) (reversed_kept columns (or_right (list_any is_far (ends_in c.domain)) _ h))

-- the limits of the columns that are kept
kept_columns_limit : (columns : List ColumnDef) → length columns ≤ 8 → limit_in_columns (take 8 (map kept_def columns)) ≡ cond (any_far columns) (Some limits.Value) (cond (any_reversed columns) (Some limits.Domain) None)
kept_columns_limit columns room =
    ap limit_in_columns (take_all 8 (map kept_def columns) (omega (arith, length-map columns kept_def)))
    ∙ ap (λ b. cond b (Some limits.Value) (cond (any_reversed (map kept_def columns)) (Some limits.Domain) None)) (far_kept_columns columns)
    ∙ unless (any_far columns) (Some limits.Value) _ _ (λ near. ap (λ b. cond b (Some limits.Domain) None) (reversed_kept columns near))

-- columns of a stream that are kept
defs_kept : (columns : List ColumnDef) → AllByRecursion (λ c. AllByRecursion IsNamed (coldef_tokens c)) columns → any_far columns ≡ false → map kept_def columns ≡ columns
defs_kept [] h near = refl
defs_kept (c ∷ columns) h near =
    ap₂ (λ (d : ColumnDef) (ds : List ColumnDef). d ∷ ds)
    (ap₂ (λ name domain. let d : ColumnDef = record { name = name; domain = domain } in d) (kept_name c.name h.0.0) (near_domain c.domain (or_left (list_any is_far (ends_in c.domain)) _ near)))
    (defs_kept columns h.1 (or_right (list_any is_far (ends_in c.domain)) _ near))

-- the limits behind the one on names
abbrev pub limit_of_lists : Statement → Option What
limit_of_lists s =
    cond (nat_lt 8 (length (columns_of s))) (Some limits.Columns)
    (cond (nat_lt 8 (length (selected_by s))) (Some limits.Select)
    (cond (nat_lt 4 (length (streams_of s))) (Some limits.From)
    (cond (nat_lt 16 (length (atoms_of s))) (Some limits.Atoms)
    (cond (nat_lt 8 (length (soft_in (atoms_of s)))) (Some limits.Soft)
    (cond (nat_lt 12 (number_of_different same_column (columns_in (atoms_of s)))) (Some limits.Attrs)
    (cond (list_any (is_beyond s) (integers_of s)) (Some limits.Value)
    (cond (nat_lt 6 (number_of_different int_eq (integers_in (atoms_of s)))) (Some limits.Consts)
    (cond (list_any (λ c. is_reversed c.domain) (columns_of s)) (Some limits.Domain)
    (cond (nat_lt 8 (length (values_of s))) (Some limits.Tuple)
    (cond (nat_lt 16 (length (opened_by s))) (Some limits.Streams) None))))))))))

same_limit : (w : FreeWords (List ℕ)) (m : Form) (p : Parts) (wide : Bool) → wide ≡ list_any is_wide (integers_of (built m p)) → AllByRecursion IsNamed (tokens_with (written w) (built m p)) → limit_by wide m (kept_parts p) ≡ limit_of_lists (built m p)
same_limit w forms.Stream p wide e h =
    unless (nat_lt 8 (length p.columns)) (Some limits.Columns) _ _ (λ columns.
    kept_columns_limit p.columns (few (length p.columns) 8 columns)
    ∙ ap (λ b. cond b (Some limits.Value) (cond (any_reversed p.columns) (Some limits.Domain) None)) (sym (far_stream p.name p.columns)))
same_limit w forms.Query p wide e h =
    let s : SelectAst = record { compact = p.compact; distinct = p.distinct; select = record { items = p.select }; from = record { items = p.from }; atoms = record { items = p.atoms } } in
    let words = all_query IsNamed w p.name s p.shared h in
    let n = named_select s words.1 in
    unless (nat_lt 8 (length p.select)) (Some limits.Select) _ _ (λ selected.
    unless (nat_lt 4 (length p.from)) (Some limits.From) _ _ (λ streams.
    unless (nat_lt 16 (length p.atoms)) (Some limits.Atoms) _ _ (λ atoms.
    kept_limit p.atoms (few (length p.atoms) 16 atoms) n.atoms
    ∙ ap (λ zs. limit_at_end (length (soft_in p.atoms)) (columns_in p.atoms) zs (integers_in p.atoms)) (sym (numbers_query p.name s p.shared)))))
same_limit w forms.Explain p wide e h = refl
same_limit w forms.Drop p wide e h = refl
same_limit w forms.Checkpoint p wide e h = refl
same_limit w forms.Rows p wide e h = ap (λ b. cond b (Some limits.Value) None) e
same_limit w forms.Given p wide e h = ap (λ b. cond b (Some limits.Value) None) e
same_limit w forms.Cell p wide e h = ap (λ b. cond b (Some limits.Value) None) e
same_limit w forms.Tuple p wide e h = ap (λ b. cond b (Some limits.Value) (cond (nat_lt 8 (length p.values)) (Some limits.Tuple) None)) e
same_limit w forms.Lock p wide e h = ap (λ b. cond b (Some limits.Value) (cond (nat_lt 16 (length p.lock_streams)) (Some limits.Streams) None)) e
same_limit w forms.Unlock p wide e h = ap (λ b. cond b (Some limits.Value) None) e

-- no limit is passed, so none of the first ones is
not_passed : {X : Type 0} (b : Bool) (x : X) (r : Option X) → cond b (Some x) r ≡ None → (b ≡ false) × (r ≡ None)
not_passed true x r e = cc
not_passed false x r e = (refl, e)

near_operand : (o : OperandAst) → list_any is_far (integer_in o) ≡ false → nearer o ≡ o
near_operand (Column c) h = refl
near_operand (Integer z) h = ap Integer (near_kept z (or_left (is_far z) false h))

near_atoms : (atoms : List AtomAst) → list_any is_far (integers_in atoms) ≡ false → map nearer_atom atoms ≡ atoms
near_atoms [] h = refl
near_atoms (a ∷ atoms) h =
    let both = sym (list_any-append is_far (integer_in a.left ++ integer_in a.right) (integers_in atoms)) ∙ h in
    let here = sym (list_any-append is_far (integer_in a.left) (integer_in a.right)) ∙ or_left (list_any is_far (integer_in a.left ++ integer_in a.right)) _ both in
    ap (λ o. (record { left = o; op = a.op; right = nearer a.right }) ∷ map nearer_atom atoms) (near_operand a.left (or_left (list_any is_far (integer_in a.left)) _ here))
    ∙ ap (λ o. (record { left = a.left; op = a.op; right = o }) ∷ map nearer_atom atoms) (near_operand a.right (or_right (list_any is_far (integer_in a.left)) _ here))
    ∙ ap (λ bs. a ∷ bs) (near_atoms atoms (or_right (list_any is_far (integer_in a.left ++ integer_in a.right)) _ both))

-- an integer that fits is kept
fits_kept : (z : ℤ) → is_wide z ≡ false → kept_number z ≡ z
fits_kept z h = elim (flag (fits_i64 z)) [
  | inl e ↦ ap (λ t. cond t z (pos 9223372036854775807)) e
  | inr e ↦ absurd (let f : true ≡ false = ap not (sym e) ∙ h in cc)
]

all_fits_kept : (zs : List ℤ) → list_any is_wide zs ≡ false → map kept_number zs ≡ zs
all_fits_kept [] h = refl
all_fits_kept (z ∷ zs) h = ap (λ y. y ∷ map kept_number zs) (fits_kept z (or_left (is_wide z) _ h)) ∙ ap (λ ys. z ∷ ys) (all_fits_kept zs (or_right (is_wide z) _ h))

-- within the limits what is kept is the statement
kept_list : {X : Type 0} (f : X → X) (n : ℕ) (xs : List X) → nat_lt n (length xs) ≡ false → map f xs ≡ xs → take n (map f xs) ≡ xs
kept_list f n xs short same = ap (take n) same ∙ take_all n xs (few (length xs) n short)

-- the key of a lock, and the streams behind TO
key_kept : (k : Option ℤ) (streams : List (List ℕ)) → list_any is_wide (integers_of (Lock k (record { items = streams }))) ≡ false → kept_key k ≡ k
key_kept None streams h = refl
key_kept (Some z) streams h = ap Some (fits_kept z (or_left (is_wide z) _ h))

names_behind : (w : FreeWords (List ℕ)) (k : Option ℤ) (streams : List (List ℕ)) → AllByRecursion IsNamed (tokens_with (written w) (Lock k (record { items = streams }))) → AllByRecursion IsNamed (to_tokens (word w.to ∷ []) streams)
names_behind w None streams h = h.1
names_behind w (Some z) streams h = h.1.1

streams_kept : (w : FreeWords (List ℕ)) (streams : List (List ℕ)) → AllByRecursion IsNamed (to_tokens (word w.to ∷ []) streams) → map kept streams ≡ streams
streams_kept w [] h = refl
streams_kept w (n ∷ ns) h = kept_names (n ∷ ns) (all_separated IsNamed comma name_tokens (n ∷ ns) h.1)

same_statement : (w : FreeWords (List ℕ)) (m : Form) (p : Parts) → p.form ≡ m → AllByRecursion IsNamed (tokens_with (written w) (built m p)) → limit_of_lists (built m p) ≡ None → statement_by m (kept_parts p) ≡ built m p
same_statement w forms.Stream p f h e =
    let names = h.1.1 in
    let cs = not_passed (nat_lt 8 (length p.columns)) limits.Columns _ e in
    let near = not_passed (list_any is_far (integers_of (CreateStream p.name (record { items = p.columns })))) limits.Value _ cs.1 in
    ap (λ n. CreateStream n (record { items = take 8 (map kept_def p.columns) })) (kept_name p.name names.0)
    ∙ ap (λ xs. CreateStream p.name (record { items = xs }))
    (kept_list kept_def 8 p.columns cs.0
    (defs_kept p.columns (all_separated IsNamed comma coldef_tokens p.columns (all_left IsNamed (separated comma coldef_tokens p.columns) (closing ∷ []) names.1.1)) (sym (far_stream p.name p.columns) ∙ near.0)))
same_statement w forms.Query p f h e =
    let s : SelectAst = record { compact = p.compact; distinct = p.distinct; select = record { items = p.select }; from = record { items = p.from }; atoms = record { items = p.atoms } } in
    let words = all_query IsNamed w p.name s p.shared h in
    let n = named_select s words.1 in
    let a = not_passed (nat_lt 8 (length p.select)) limits.Select _ e in
    let b = not_passed (nat_lt 4 (length p.from)) limits.From _ a.1 in
    let c = not_passed (nat_lt 16 (length p.atoms)) limits.Atoms _ b.1 in
    let soft = not_passed (nat_lt 8 (length (soft_in p.atoms))) limits.Soft _ c.1 in
    let d = not_passed (nat_lt 12 (number_of_different same_column (columns_in p.atoms))) limits.Attrs _ soft.1 in
    let near = not_passed (list_any is_far (integers_of (CreateQuery p.name s p.shared))) limits.Value _ d.1 in
    ap (λ w. CreateQuery w (record { compact = p.compact; distinct = p.distinct; select = record { items = take 8 (map kept_column p.select) }; from = record { items = take 4 (map kept p.from) }; atoms = record { items = take 16 (map kept_atom p.atoms) } }) p.shared) (kept_name p.name words.0)
    ∙ ap (λ xs. CreateQuery p.name (record { compact = p.compact; distinct = p.distinct; select = record { items = xs }; from = record { items = take 4 (map kept p.from) }; atoms = record { items = take 16 (map kept_atom p.atoms) } }) p.shared) (kept_list kept_column 8 p.select a.0 (columns_kept p.select n.select))
    ∙ ap (λ xs. CreateQuery p.name (record { compact = p.compact; distinct = p.distinct; select = record { items = p.select }; from = record { items = xs }; atoms = record { items = take 16 (map kept_atom p.atoms) } }) p.shared) (kept_list kept 4 p.from b.0 (kept_names p.from n.from))
    ∙ ap (λ xs. CreateQuery p.name (record { compact = p.compact; distinct = p.distinct; select = record { items = p.select }; from = record { items = p.from }; atoms = record { items = xs } }) p.shared) (kept_list kept_atom 16 p.atoms c.0 (atoms_kept p.atoms n.atoms ∙ near_atoms p.atoms (ap (list_any is_far) (sym (numbers_query p.name s p.shared)) ∙ near.0)))
same_statement w forms.Explain p f h e = ap Explain (kept_name p.name h.1.0)
same_statement w forms.Drop p f h e = ap DropQuery (kept_name p.name h.1.1.0)
same_statement w forms.Checkpoint p f h e = refl
same_statement w forms.Rows p f h e =
    let fits = not_passed (list_any is_wide (p.count ∷ [])) limits.Value _ e in
    ap ResumeRows (fits_kept p.count (or_left (is_wide p.count) false fits.0))
same_statement w forms.Given p f h e =
    let fits = not_passed (list_any is_wide (p.count ∷ [])) limits.Value _ e in
    ap₂ ResumeGiven (kept_name p.name h.1.0) (fits_kept p.count (or_left (is_wide p.count) false fits.0))
same_statement w forms.Cell p f h e =
    let fits = not_passed (list_any is_wide (p.index ∷ p.count ∷ [])) limits.Value _ e in
    ap (λ w. ResumeCell w (kept_number p.index) (kept_number p.count)) (kept_name p.name h.1.0)
    ∙ ap₂ (λ index count. ResumeCell p.name index count) (fits_kept p.index (or_left (is_wide p.index) _ fits.0)) (fits_kept p.count (or_left (is_wide p.count) false (or_right (is_wide p.index) _ fits.0)))
same_statement w forms.Tuple p f h e =
    let fits = not_passed (list_any is_wide (flat_map number_in (map number p.values))) limits.Value _ e in
    let few_values = not_passed (nat_lt 8 (length p.values)) limits.Tuple _ fits.1 in
    ap (λ w. ResumeTuple w (record { items = take 8 (map kept_number p.values) })) (kept_name p.name h.1.0)
    ∙ ap (λ zs. ResumeTuple p.name (record { items = zs })) (kept_list kept_number 8 p.values few_values.0 (all_fits_kept p.values (ap (list_any is_wide) (sym (numbers_tuple p.values)) ∙ fits.0)))
same_statement w forms.Lock p f h e =
    let fits = not_passed (list_any is_wide (integers_of (Lock p.lock_key (record { items = p.lock_streams })))) limits.Value _ e in
    let few_streams = not_passed (nat_lt 16 (length p.lock_streams)) limits.Streams _ fits.1 in
    ap (λ k. Lock k (record { items = take 16 (map kept p.lock_streams) })) (key_kept p.lock_key p.lock_streams fits.0)
    ∙ ap (λ names. Lock p.lock_key (record { items = names })) (kept_list kept 16 p.lock_streams few_streams.0 (streams_kept w p.lock_streams (names_behind w p.lock_key p.lock_streams h)))
same_statement w forms.Unlock p f h e =
    let fits = not_passed (list_any is_wide (p.count ∷ [])) limits.Value _ e in
    ap Unlock (fits_kept p.count (or_left (is_wide p.count) false fits.0))

same_some : {X : Type 0} (a b : X) → Some a ≡ Some b → a ≡ b
same_some a b e = cc

-- the form of a statement that may end
form_there : (place : State) (p : Parts) (s : Statement) → Fine place p → finished place p ≡ Some s → s ≡ built p.form p
form_there AfterFrom p s f e = same_some s (built forms.Query p) (sym e) ∙ ap (λ m. built m p) (sym f.0.form)
form_there AfterAtom p s f e = same_some s (built forms.Query p) (sym e) ∙ ap (λ m. built m p) (sym f.0.form)
form_there AfterValue p s f e = same_some s (built forms.Tuple p) (sym e) ∙ ap (λ m. built m p) (sym f.0)
form_there AfterLock p s f e = same_some s (built forms.Lock p) (sym e) ∙ ap (λ m. built m p) (sym f.0)
form_there AfterLockKey p s f e = same_some s (built forms.Lock p) (sym e) ∙ ap (λ m. built m p) (sym f.0)
form_there AfterLockStream p s f e = same_some s (built forms.Lock p) (sym e) ∙ ap (λ m. built m p) (sym f.0)
form_there Complete p s f e = same_some s (built p.form p) (sym e)
form_there Ended p s f e = same_some s (built p.form p) (sym e)
form_there _ p s f e = cc

-- what the tokens of a whole line tell
pub record Judged (line : List ℕ) (ts : List Token) (d : Draft) : Type 0 where
  pub statement : Statement
  pub is : IsStatement line statement
  pub limit : limit_in line ts d ≡ limit_of statement
  pub same : limit_of statement ≡ None → statement_of d ≡ statement

-- a name of a spelled statement is too long where one of its tokens is
long_spelled : (ls : List Lexeme) (s : Statement) → Spells ls s → list_any is_long (flat_map word_in ls) ≡ list_any is_long (names_of s)
long_spelled ls s (whole, w, is, inl e) = ap (λ r. list_any is_long (flat_map word_in r)) e ∙ long_with w s is
long_spelled ls s (whole, w, is, inr e) = ap (λ r. list_any is_long (flat_map word_in r)) e ∙ ap (list_any is_long) (without_semicolon (tokens_with (written w) s)) ∙ long_with w s is

-- the integers of a spelled statement are those of its tokens
pub integers_spelled : (ls : List Lexeme) (s : Statement) → Spells ls s → flat_map number_in ls ≡ integers_of s
integers_spelled ls s (whole, w, is, inl e) = ap (flat_map number_in) e ∙ numbers_with w s
integers_spelled ls s (whole, w, is, inr e) = ap (flat_map number_in) e ∙ integers_but_semicolon (tokens_with (written w) s) ∙ numbers_with w s

named_spelled : (ls : List Lexeme) (s : Statement) (t : Spells ls s) → AllByRecursion IsNamed ls → AllByRecursion IsNamed (tokens_with (written t.1) s)
named_spelled ls s (whole, w, is, inl e) h = let P : List Lexeme → Type 0 = λ r. AllByRecursion IsNamed r in subst P e h
named_spelled ls s (whole, w, is, inr e) h = let P : List Lexeme → Type 0 = λ r. AllByRecursion IsNamed r in all_left IsNamed (tokens_with (written w) s) (semicolon ∷ []) (subst P e h)

judged_parts : (line : List ℕ) (ts : List Token) (p : Parts) → IsStatement line (built p.form p) → Spells (lexemes line ts) (built p.form p) → StandFrom line 0 ts → Judged line ts (kept_parts p)
judged_parts line ts p is spells stand =
    let s = built p.form p in
    let cuts = cut_at line 0 ts stand in
    let long : list_any is_long_token ts ≡ list_any is_long (names_of s) = long_names line ts cuts ∙ long_spelled (lexemes line ts) s spells in
    let wide : list_any (is_wide_token line) ts ≡ list_any is_wide (integers_of s) = wide_numbers line ts cuts ∙ ap (list_any is_wide) (integers_spelled (lexemes line ts) s spells) in
    let named : list_any is_long (names_of s) ≡ false → AllByRecursion IsNamed (tokens_with (written spells.1) s) = λ short. named_spelled (lexemes line ts) s spells (all_named line ts cuts (sym (long_names line ts cuts) ∙ long ∙ short)) in
    record {
      statement = s;
      is = is;
      limit = ap (λ b. cond b (Some limits.Name) (limit_by (list_any (is_wide_token line) ts) p.form (kept_parts p))) long
          ∙ unless (list_any is_long (names_of s)) (Some limits.Name) _ _ (λ short. same_limit spells.1 p.form p (list_any (is_wide_token line) ts) wide (named short));
      same = λ none.
          let n = not_passed (list_any is_long (names_of s)) limits.Name (limit_of_lists s) none in
          same_statement spells.1 p.form p refl (named n.0) n.1;
    }

pub judged : (line : List ℕ) (ts : List Token) (place : State) (d : Draft) → tokens line ≡ Ok ts → StandFrom line 0 ts → IsRead line ts place d → may_end place ≡ true → Judged line ts d
judged line ts place d lexed stand r ends =
    let f = is_finished place r.parts ends in
    let t = walk_told Start no_parts (lexemes line ts) place r.parts tt r.read in
    let P : List Lexeme → Type 0 = λ ls. Spells ls f.0 in
    let Q : Statement → Type 0 = λ s. Spells (lexemes line ts) s in
    let form = form_there place r.parts f.0 t.1 f.1 in
    let spells = subst Q form (subst P t.0 (finished_spells place r.parts f.0 t.1 (spelt_walk Start no_parts (lexemes line ts) place r.parts in_capitals r.read) f.1)) in
    let D : Draft → Type 0 = λ x. Judged line ts x in
    subst D (sym r.keeps) (judged_parts line ts r.parts (record { its_tokens = ts; lexed = lexed; spelled = spells }) spells stand)

-- an integer that is not far fits
pub near_fits : (z : ℤ) → is_far z ≡ false → fits_i64 z ≡ true
near_fits z h = elim (flag (fits_i64 z)) [
  | inl e ↦ e
  | inr e ↦ absurd (let f : true ≡ false = sym (unfit_far z e) ∙ h in cc)
]

-- an integer that a statement may have fits
beyond_wide : (s : Statement) (z : ℤ) → is_beyond s z ≡ false → is_wide z ≡ false
beyond_wide (ResumeRows rows) z h = h
beyond_wide (ResumeGiven name rows) z h = h
beyond_wide (ResumeCell name index content) z h = h
beyond_wide (ResumeTuple name values) z h = h
beyond_wide (Lock k streams) z h = h
beyond_wide (Unlock k) z h = h
beyond_wide (CreateStream name columns) z h = ap not (near_fits z h)
beyond_wide (CreateQuery name select shared) z h = ap not (near_fits z h)
beyond_wide (Explain name) z h = ap not (near_fits z h)
beyond_wide (DropQuery name) z h = ap not (near_fits z h)
beyond_wide Checkpoint z h = ap not (near_fits z h)

none_wide : (s : Statement) (zs : List ℤ) → list_any (is_beyond s) zs ≡ false → list_any is_wide zs ≡ false
none_wide s [] h = refl
none_wide s (z ∷ zs) h =
    ap (λ b. b || list_any is_wide zs) (beyond_wide s z (or_left (is_beyond s z) _ h))
    ∙ none_wide s zs (or_right (is_beyond s z) _ h)

-- within the limits each integer fits
pub all_fit : (s : Statement) → limit_of s ≡ None → list_any is_wide (integers_of s) ≡ false
all_fit s e =
    let n = not_passed (list_any is_long (names_of s)) limits.Name (limit_of_lists s) e in
    let a = not_passed (nat_lt 8 (length (columns_of s))) limits.Columns _ n.1 in
    let b = not_passed (nat_lt 8 (length (selected_by s))) limits.Select _ a.1 in
    let c = not_passed (nat_lt 4 (length (streams_of s))) limits.From _ b.1 in
    let d = not_passed (nat_lt 16 (length (atoms_of s))) limits.Atoms _ c.1 in
    let soft = not_passed (nat_lt 8 (length (soft_in (atoms_of s)))) limits.Soft _ d.1 in
    let f = not_passed (nat_lt 12 (number_of_different same_column (columns_in (atoms_of s)))) limits.Attrs _ soft.1 in
    none_wide s (integers_of s) (not_passed (list_any (is_beyond s) (integers_of s)) limits.Value _ f.1).0

-- a stream within the limits has no domain with an end that is far, and none that is reversed
pub stream_ends : (name : List ℕ) (columns : List ColumnDef) → limit_of (CreateStream name (record { items = columns })) ≡ None → (any_far columns ≡ false) × (any_reversed columns ≡ false)
stream_ends name columns e =
    let s = CreateStream name (record { items = columns }) in
    let n = not_passed (list_any is_long (names_of s)) limits.Name (limit_of_lists s) e in
    let a = not_passed (nat_lt 8 (length columns)) limits.Columns _ n.1 in
    let f = not_passed (list_any is_far (integers_of s)) limits.Value _ a.1 in
    (sym (far_stream name columns) ∙ f.0, (not_passed (any_reversed columns) limits.Domain _ f.1).0)
