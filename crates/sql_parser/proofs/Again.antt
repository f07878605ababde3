-- Each statement's tokens are read as it.
use Rattle.std.proofs.Common.{◌≡◌, ℕ, ◌<◌, ◌⊎◌, Bool, true, false, cond, codes, List, [], ◌∷◌, ◌++◌, length, map, Option, Some, None, ℤ, refl, ap, sym, ◌∙◌, append_assoc, append-nil, arith, inl, inr, Ok}
use Rattle.std.specs.List.{AllByRecursion}
use Rattle.sql_text.specs.declared.key.Key.TheVariants.{CreateKey, QueryKey, AsKey, SelectKey, FromKey, AndKey}
use Rattle.sql_parser.specs.declared.transitions.State.{State}
use Rattle.sql_parser.specs.declared.transitions.State.TheVariants.{Start, AfterLock, AfterLockKey, LockStream, AfterLockStream, UnlockKey, AfterCompact, ColumnName, QuerySelect, FirstSelected, SelectedStream, AfterSelected, FromName, AfterFrom, AtomLeft, AfterAtom, AfterValue, Complete, Ended}
use Rattle.sql_parser.specs.declared.transitions.Action.TheVariants.{BeginCompact, BeginSharedCompact, BeginLock, BeginTo, BeginUnlock}
use Rattle.sql_catalog.specs.declared.column.ColumnDef.{ColumnDef}
use Rattle.sql_parser.specs.declared.tree.ColumnAst.{ColumnAst}
use Rattle.sql_parser.specs.declared.tree.OperandAst.{OperandAst}
use Rattle.sql_parser.specs.declared.tree.OperandAst.TheVariants.{Column, Integer}
use Rattle.sql_parser.specs.declared.tree.AtomAst.{AtomAst}
use Rattle.sql_parser.specs.declared.tree.Statement.{Statement}
use Rattle.sem_query.specs.declared.atom.Op.{Op}
use Rattle.sem_query.specs.declared.atom.Op.TheVariants.{Lt, Eq, Gt, Le, Ge, Ne}
use Rattle.sql_parser.specs.Grammar.{Lexeme, word, number, key, comma, closing, semicolon, separated, name_tokens, coldef_tokens, column_tokens, atom_tokens, where_tokens, distinct_tokens, shared_tokens, compact_tokens, FreeWords, tokens_with, written, capitals, is_compact, is_unlock, is_to, IsSpelling, IsColumn, HasColumn, IsWhole, Spells}
use Rattle.sql_parser.specs.declared.draft.Form.TheVariants as forms
use Rattle.sql_parser.specs.Reading.{Parts, no_parts, built, finished, walk, walk_on}
use Rattle.sql_parser.specs.declared.tree.Statement.TheVariants.{CreateStream, CreateQuery, Explain, DropQuery, Checkpoint, ResumeRows, ResumeGiven, ResumeCell, ResumeTuple, Lock, Unlock}
use Rattle.sql_parser.proofs.Compact.{no_lock}
use Rattle.sql_parser.proofs.WalkLaws.{walk_append}

-- the parts q are those of p with these columns, and what is left of the last one
abbrev pub WithColumns : Parts → List ColumnDef → Parts → Type 0
WithColumns p columns q = q ≡ record p { columns = columns; column = q.column; low = q.low }

-- a column of this name and domain
abbrev column : List ℕ → Option (ℤ × ℤ) → ColumnDef
column name domain = record { name = name; domain = domain }

-- a column, and a comma behind it
comma_walk : (p : Parts) (name : List ℕ) (domain : Option (ℤ × ℤ)) (ls : List Lexeme)
    → (q : Parts) × (walk ColumnName p (coldef_tokens (column name domain) ++ comma ∷ ls) ≡ walk ColumnName q ls) × WithColumns p (p.columns ++ column name domain ∷ []) q
comma_walk p name None ls = (record p { columns = p.columns ++ column name None ∷ []; column = name }, refl, refl)
comma_walk p name (Some ends) ls = (record p { columns = p.columns ++ column name (Some ends) ∷ []; column = name; low = ends.0 }, refl, refl)

-- the last column
last_walk : (p : Parts) (name : List ℕ) (domain : Option (ℤ × ℤ))
    → (q : Parts) × (walk ColumnName p (coldef_tokens (column name domain) ++ closing ∷ []) ≡ Ok (Complete, q)) × WithColumns p (p.columns ++ column name domain ∷ []) q
last_walk p name None = (record p { columns = p.columns ++ column name None ∷ []; column = name }, refl, refl)
last_walk p name (Some ends) = (record p { columns = p.columns ++ column name (Some ends) ∷ []; column = name; low = ends.0 }, refl, refl)

columns_walk : (p : Parts) (c : ColumnDef) (cs : List ColumnDef)
    → (q : Parts) × (walk ColumnName p (separated comma coldef_tokens (c ∷ cs) ++ closing ∷ []) ≡ Ok (Complete, q)) × WithColumns p (p.columns ++ c ∷ cs) q
columns_walk p c [] = last_walk p c.name c.domain
columns_walk p c (d ∷ cs) =
    let behind = separated comma coldef_tokens (d ∷ cs) in
    let one = comma_walk p c.name c.domain (behind ++ closing ∷ []) in
    let rest = columns_walk one.0 d cs in
    let q = rest.0 in
    let F : Parts → Parts = λ m. record m { columns = m.columns ++ d ∷ cs; column = q.column; low = q.low } in (
      q,
      ap (walk ColumnName p) (append_assoc (coldef_tokens c) (comma ∷ behind) (closing ∷ [])) ∙ one.1 ∙ rest.1,
      rest.2 ∙ ap F one.2 ∙ ap (λ xs. record p { columns = xs; column = q.column; low = q.low }) (append_assoc p.columns (c ∷ []) (d ∷ cs)),
    )

from_walk : (p : Parts) (c : List ℕ) (cs : List (List ℕ)) → walk FromName p (separated comma name_tokens (c ∷ cs)) ≡ Ok (AfterFrom, record p { from = p.from ++ c ∷ cs })
from_walk p c [] = refl
from_walk p c (d ∷ cs) = from_walk (record p { from = p.from ++ c ∷ [] }) d cs ∙ ap (λ xs. Ok (AfterFrom, record p { from = xs })) (append_assoc p.from (c ∷ []) (d ∷ cs))

selected_walk : (p : Parts) (c : ColumnAst) (cs : List ColumnAst) → (stream : List ℕ) × (walk SelectedStream p (separated comma column_tokens (c ∷ cs)) ≡ Ok (AfterSelected, record p { select = p.select ++ c ∷ cs; stream = stream }))
selected_walk p c [] = (c.stream, refl)
selected_walk p c (d ∷ cs) =
    let rest = selected_walk (record p { select = p.select ++ c ∷ []; stream = c.stream }) d cs in
    (rest.0, rest.1 ∙ ap (λ xs. Ok (AfterSelected, record p { select = xs; stream = rest.0 })) (append_assoc p.select (c ∷ []) (d ∷ cs)))

-- the parts q are those of p with these atoms, and what is left of the last one
abbrev pub WithAtoms : Parts → List AtomAst → Parts → Type 0
WithAtoms p atoms q = q ≡ record p { atoms = atoms; stream = q.stream; left = q.left; op = q.op }

abbrev pub AtomRead : Parts → AtomAst → Type 0
AtomRead p a = (q : Parts) × (walk AtomLeft p (atom_tokens a) ≡ Ok (AfterAtom, q)) × WithAtoms p (p.atoms ++ a ∷ []) q

atom_walk : (p : Parts) (left : OperandAst) (op : Op) (right : OperandAst) → IsColumn left ⊎ IsColumn right → AtomRead p (record { left = left; op = op; right = right })
atom_walk p (Column c) Lt (Column d) h = (record p { stream = d.stream; left = Column c; op = Lt; atoms = p.atoms ++ (record { left = Column c; op = Lt; right = Column d }) ∷ [] }, refl, refl)
atom_walk p (Column c) Lt (Integer y) h = (record p { stream = c.stream; left = Column c; op = Lt; atoms = p.atoms ++ (record { left = Column c; op = Lt; right = Integer y }) ∷ [] }, refl, refl)
atom_walk p (Integer z) Lt (Column d) h = (record p { stream = d.stream; left = Integer z; op = Lt; atoms = p.atoms ++ (record { left = Integer z; op = Lt; right = Column d }) ∷ [] }, refl, refl)
atom_walk p (Integer z) Lt (Integer y) h = absurd (elim h [ inl e ↦ e | inr e ↦ e ])
atom_walk p (Column c) Eq (Column d) h = (record p { stream = d.stream; left = Column c; op = Eq; atoms = p.atoms ++ (record { left = Column c; op = Eq; right = Column d }) ∷ [] }, refl, refl)
atom_walk p (Column c) Eq (Integer y) h = (record p { stream = c.stream; left = Column c; op = Eq; atoms = p.atoms ++ (record { left = Column c; op = Eq; right = Integer y }) ∷ [] }, refl, refl)
atom_walk p (Integer z) Eq (Column d) h = (record p { stream = d.stream; left = Integer z; op = Eq; atoms = p.atoms ++ (record { left = Integer z; op = Eq; right = Column d }) ∷ [] }, refl, refl)
atom_walk p (Integer z) Eq (Integer y) h = absurd (elim h [ inl e ↦ e | inr e ↦ e ])
atom_walk p (Column c) Gt (Column d) h = (record p { stream = d.stream; left = Column c; op = Gt; atoms = p.atoms ++ (record { left = Column c; op = Gt; right = Column d }) ∷ [] }, refl, refl)
atom_walk p (Column c) Gt (Integer y) h = (record p { stream = c.stream; left = Column c; op = Gt; atoms = p.atoms ++ (record { left = Column c; op = Gt; right = Integer y }) ∷ [] }, refl, refl)
atom_walk p (Integer z) Gt (Column d) h = (record p { stream = d.stream; left = Integer z; op = Gt; atoms = p.atoms ++ (record { left = Integer z; op = Gt; right = Column d }) ∷ [] }, refl, refl)
atom_walk p (Integer z) Gt (Integer y) h = absurd (elim h [ inl e ↦ e | inr e ↦ e ])
atom_walk p (Column c) Le (Column d) h = (record p { stream = d.stream; left = Column c; op = Le; atoms = p.atoms ++ (record { left = Column c; op = Le; right = Column d }) ∷ [] }, refl, refl)
atom_walk p (Column c) Le (Integer y) h = (record p { stream = c.stream; left = Column c; op = Le; atoms = p.atoms ++ (record { left = Column c; op = Le; right = Integer y }) ∷ [] }, refl, refl)
atom_walk p (Integer z) Le (Column d) h = (record p { stream = d.stream; left = Integer z; op = Le; atoms = p.atoms ++ (record { left = Integer z; op = Le; right = Column d }) ∷ [] }, refl, refl)
atom_walk p (Integer z) Le (Integer y) h = absurd (elim h [ inl e ↦ e | inr e ↦ e ])
atom_walk p (Column c) Ge (Column d) h = (record p { stream = d.stream; left = Column c; op = Ge; atoms = p.atoms ++ (record { left = Column c; op = Ge; right = Column d }) ∷ [] }, refl, refl)
atom_walk p (Column c) Ge (Integer y) h = (record p { stream = c.stream; left = Column c; op = Ge; atoms = p.atoms ++ (record { left = Column c; op = Ge; right = Integer y }) ∷ [] }, refl, refl)
atom_walk p (Integer z) Ge (Column d) h = (record p { stream = d.stream; left = Integer z; op = Ge; atoms = p.atoms ++ (record { left = Integer z; op = Ge; right = Column d }) ∷ [] }, refl, refl)
atom_walk p (Integer z) Ge (Integer y) h = absurd (elim h [ inl e ↦ e | inr e ↦ e ])
atom_walk p (Column c) Ne (Column d) h = (record p { stream = d.stream; left = Column c; op = Ne; atoms = p.atoms ++ (record { left = Column c; op = Ne; right = Column d }) ∷ [] }, refl, refl)
atom_walk p (Column c) Ne (Integer y) h = (record p { stream = c.stream; left = Column c; op = Ne; atoms = p.atoms ++ (record { left = Column c; op = Ne; right = Integer y }) ∷ [] }, refl, refl)
atom_walk p (Integer z) Ne (Column d) h = (record p { stream = d.stream; left = Integer z; op = Ne; atoms = p.atoms ++ (record { left = Integer z; op = Ne; right = Column d }) ∷ [] }, refl, refl)
atom_walk p (Integer z) Ne (Integer y) h = absurd (elim h [ inl e ↦ e | inr e ↦ e ])

atoms_walk : (p : Parts) (a : AtomAst) (atoms : List AtomAst) → AllByRecursion HasColumn (a ∷ atoms) → (q : Parts) × (walk AtomLeft p (separated (key AndKey) atom_tokens (a ∷ atoms)) ≡ Ok (AfterAtom, q)) × WithAtoms p (p.atoms ++ a ∷ atoms) q
atoms_walk p a [] h = atom_walk p a.left a.op a.right h.0
atoms_walk p a (b ∷ atoms) h =
    let first = atom_walk p a.left a.op a.right h.0 in
    let rest = atoms_walk first.0 b atoms h.1 in
    let q = rest.0 in
    let F : Parts → Parts = λ m. record m { atoms = m.atoms ++ b ∷ atoms; stream = q.stream; left = q.left; op = q.op } in (
      q,
      walk_append AtomLeft p (atom_tokens a) (key AndKey ∷ separated (key AndKey) atom_tokens (b ∷ atoms)) AfterAtom first.0 first.1 ∙ rest.1,
      rest.2 ∙ ap F first.2 ∙ ap (λ xs. record p { atoms = xs; stream = q.stream; left = q.left; op = q.op }) (append_assoc p.atoms (a ∷ []) (b ∷ atoms)),
    )

-- the tokens lead to a place where the statement may end, and where a semicolon may stand
pub record IsRead (w : FreeWords (List ℕ)) (s : Statement) : Type 0 where
  pub to : State
  pub parts : Parts
  pub read : walk Start no_parts (tokens_with (written w) s) ≡ Ok (to, parts)
  pub finished_there : finished to parts ≡ Some s
  pub ends : walk to parts (semicolon ∷ []) ≡ Ok (Ended, parts)
  pub finished_behind : finished Ended parts ≡ Some s

stream_read : (w : FreeWords (List ℕ)) (name : List ℕ) (c : ColumnDef) (cs : List ColumnDef) → IsRead w (CreateStream name (record { items = c ∷ cs }))
stream_read w name c cs =
    let read = columns_walk (record no_parts { form = forms.Stream; name = name }) c cs in
    record { to = Complete; parts = read.0; read = read.1; finished_there = ap (λ m. Some (built m.form m)) read.2; ends = refl; finished_behind = ap (λ m. Some (built m.form m)) read.2 }

-- the parts behind AS
abbrev pub query_named : List ℕ → List ℕ → Bool → Bool → Parts
query_named w name shared k = record no_parts { form = forms.Query; name = name; shared = shared; compact = k; spelling = record capitals { compact = cond k w (codes "COMPACT") } }

-- the tokens up to AS
query_head : (w name : List ℕ) (shared k : Bool) (more : List Lexeme) → is_compact w ≡ true → walk Start no_parts (key CreateKey ∷ shared_tokens shared ++ compact_tokens (word w ∷ []) k ++ key QueryKey ∷ word name ∷ key AsKey ∷ more) ≡ walk QuerySelect (query_named w name shared k) more
query_head w name true false more h = refl
query_head w name false false more h = refl
query_head w name true true more h =
    let ls = key QueryKey ∷ word name ∷ key AsKey ∷ more in ap (λ b. walk_on (cond b (Some (AfterCompact, BeginSharedCompact)) None) no_parts (word w) ls (λ pl r. walk pl r ls)) h
query_head w name false true more h =
    let ls = key QueryKey ∷ word name ∷ key AsKey ∷ more in ap (λ b. walk_on (cond b (Some (AfterCompact, BeginCompact)) None) no_parts (word w) ls (λ pl r. walk pl r ls)) h

abbrev pub select_words : Bool → List Lexeme
select_words d = key SelectKey ∷ distinct_tokens d

first_selected : (p : Parts) (c : ColumnAst) (cs : List ColumnAst) (more : List Lexeme) → walk FirstSelected p (separated comma column_tokens (c ∷ cs) ++ more) ≡ walk SelectedStream p (separated comma column_tokens (c ∷ cs) ++ more)
first_selected p c [] more = refl
first_selected p c (d ∷ cs) more = refl

query_begun : (w name : List ℕ) (shared k d : Bool) (c : ColumnAst) (cs : List ColumnAst) (more : List Lexeme) → walk QuerySelect (query_named w name shared k) (select_words d ++ (separated comma column_tokens (c ∷ cs) ++ more)) ≡ walk SelectedStream (record (query_named w name shared k) { distinct = d }) (separated comma column_tokens (c ∷ cs) ++ more)
query_begun w name shared k true c cs more = refl
query_begun w name shared k false c cs more = first_selected (query_named w name shared k) c cs more

regroup : (a b c d : List Lexeme) → ((a ++ b) ++ c) ++ d ≡ a ++ (b ++ (c ++ d))
regroup a b c d = simp append_assoc

-- the tokens from SELECT up to the atoms
query_front : (w name : List ℕ) (shared k d : Bool) (c : ColumnAst) (cs : List ColumnAst) (n : List ℕ) (ns : List (List ℕ)) (more : List Lexeme) → (stream : List ℕ) × (walk QuerySelect (query_named w name shared k) (((select_words d ++ separated comma column_tokens (c ∷ cs)) ++ key FromKey ∷ separated comma name_tokens (n ∷ ns)) ++ more) ≡ walk AfterFrom (record (query_named w name shared k) { distinct = d; select = c ∷ cs; from = n ∷ ns; stream = stream }) more)
query_front w name shared k d c cs n ns more =
    let p1 : Parts = record (query_named w name shared k) { distinct = d } in
    let chosen = selected_walk p1 c cs in
    let p2 : Parts = record p1 { select = c ∷ cs; stream = chosen.0 } in (
      chosen.0,
      ap (walk QuerySelect (query_named w name shared k)) (regroup (select_words d) (separated comma column_tokens (c ∷ cs)) (key FromKey ∷ separated comma name_tokens (n ∷ ns)) more)
          ∙ query_begun w name shared k d c cs (key FromKey ∷ separated comma name_tokens (n ∷ ns) ++ more)
          ∙ walk_append SelectedStream p1 (separated comma column_tokens (c ∷ cs)) (key FromKey ∷ separated comma name_tokens (n ∷ ns) ++ more) AfterSelected p2 chosen.1
          ∙ walk_append FromName p2 (separated comma name_tokens (n ∷ ns)) more AfterFrom (record p2 { from = n ∷ ns }) (from_walk p2 n ns),
    )

query_read : (w : FreeWords (List ℕ)) (name : List ℕ) (shared k d : Bool) (c : ColumnAst) (cs : List ColumnAst) (n : List ℕ) (ns : List (List ℕ)) (atoms : List AtomAst) → IsSpelling w → AllByRecursion HasColumn atoms → IsRead w (CreateQuery name (record { compact = k; distinct = d; select = record { items = c ∷ cs }; from = record { items = n ∷ ns }; atoms = record { items = atoms } }) shared)
query_read w name shared k d c cs n ns [] is h =
    let front = query_front w.compact name shared k d c cs n ns [] in
    record { to = AfterFrom; parts = record (query_named w.compact name shared k) { distinct = d; select = c ∷ cs; from = n ∷ ns; stream = front.0 }; read = query_head w.compact name shared k _ is.compact ∙ front.1; finished_there = refl; ends = refl; finished_behind = refl }
query_read w name shared k d c cs n ns (a ∷ atoms) is h =
    let front = query_front w.compact name shared k d c cs n ns (where_tokens (a ∷ atoms)) in
    let p : Parts = record (query_named w.compact name shared k) { distinct = d; select = c ∷ cs; from = n ∷ ns; stream = front.0 } in
    let last = atoms_walk p a atoms h in
    record {
      to = AfterAtom;
      parts = last.0;
      read = query_head w.compact name shared k _ is.compact ∙ front.1 ∙ last.1;
      finished_there = ap (λ m. Some (built forms.Query m)) last.2;
      ends = refl;
      finished_behind = ap (λ m. Some (built m.form m)) last.2;
    }

-- the integers of a tuple
values_walk : (p : Parts) (values : List ℤ) → walk AfterValue p (map number values) ≡ Ok (AfterValue, record p { values = p.values ++ values })
values_walk p [] = ap (λ zs. Ok (AfterValue, record p { values = zs })) (sym (append-nil p.values))
values_walk p (z ∷ values) = values_walk (record p { values = p.values ++ z ∷ [] }) values ∙ ap (λ zs. Ok (AfterValue, record p { values = zs })) (append_assoc p.values (z ∷ []) values)

-- the parts behind SELECT in a line of a checkpoint
abbrev tuple_named : List ℕ → Parts
tuple_named name = record no_parts { form = forms.Tuple; name = name }

tuple_read : (w : FreeWords (List ℕ)) (name : List ℕ) (z : ℤ) (values : List ℤ) → IsRead w (ResumeTuple name (record { items = z ∷ values }))
tuple_read w name z values = record {
  to = AfterValue;
  parts = record (tuple_named name) { values = z ∷ values };
  read = values_walk (record (tuple_named name) { values = z ∷ [] }) values;
  finished_there = refl;
  ends = refl;
  finished_behind = refl;
}

tuple_items : (w : FreeWords (List ℕ)) (name : List ℕ) (values : List ℤ) → 0 < length values → IsRead w (ResumeTuple name (record { items = values }))
tuple_items w name [] h = absurd (omega arith)
tuple_items w name (z ∷ values) h = tuple_read w name z values

-- the streams behind TO
lock_walk : (p : Parts) (c : List ℕ) (cs : List (List ℕ)) → walk LockStream p (separated comma name_tokens (c ∷ cs)) ≡ Ok (AfterLockStream, record p { lock_streams = p.lock_streams ++ c ∷ cs })
lock_walk p c [] = refl
lock_walk p c (d ∷ cs) =
    lock_walk (record p { lock_streams = p.lock_streams ++ c ∷ [] }) d cs ∙ ap (λ xs. Ok (AfterLockStream, record p { lock_streams = xs })) (append_assoc p.lock_streams (c ∷ []) (d ∷ cs))

-- the parts behind LOCK and its key
abbrev lock_named : FreeWords (List ℕ) → Option ℤ → Parts
lock_named w k = record no_parts { form = forms.Lock; lock_key = k; spelling = record capitals { lock = w.lock } }

abbrev lock_to : FreeWords (List ℕ) → Option ℤ → Parts
lock_to w k = record (lock_named w k) { spelling = record capitals { lock = w.lock; to = w.to } }

-- the word LOCK
lock_first : (w : FreeWords (List ℕ)) (ls : List Lexeme) → IsSpelling w → walk Start no_parts (word w.lock ∷ ls) ≡ walk AfterLock (lock_named w None) ls
lock_first w ls is = ap (λ b. walk_on (cond b (Some (AfterLock, BeginLock)) (cond (is_unlock w.lock) (Some (UnlockKey, BeginUnlock)) None)) no_parts (word w.lock) ls (λ pl r. walk pl r ls)) is.lock

-- the word TO, and the streams behind it
to_first : (w : FreeWords (List ℕ)) (place : State) (p : Parts) (ls : List Lexeme) → is_to w.to ≡ true → walk_on (cond (is_to w.to) (Some (LockStream, BeginTo)) None) p (word w.to) ls (λ pl r. walk pl r ls) ≡ walk LockStream (record p { spelling = record p.spelling { to = w.to } }) ls
to_first w place p ls h = ap (λ b. walk_on (cond b (Some (LockStream, BeginTo)) None) p (word w.to) ls (λ pl r. walk pl r ls)) h

lock_read : (w : FreeWords (List ℕ)) (k : Option ℤ) (streams : List (List ℕ)) → IsSpelling w → IsRead w (Lock k (record { items = streams }))
lock_read w None [] is = record { to = AfterLock; parts = lock_named w None; read = lock_first w [] is; finished_there = refl; ends = refl; finished_behind = refl }
lock_read w (Some z) [] is = record { to = AfterLockKey; parts = lock_named w (Some z); read = lock_first w (number z ∷ []) is; finished_there = refl; ends = refl; finished_behind = refl }
lock_read w None (n ∷ ns) is =
    let behind = separated comma name_tokens (n ∷ ns) in
    record {
      to = AfterLockStream;
      parts = record (lock_to w None) { lock_streams = n ∷ ns };
      read = lock_first w (word w.to ∷ behind) is ∙ to_first w AfterLock (lock_named w None) behind is.to ∙ lock_walk (lock_to w None) n ns;
      finished_there = refl;
      ends = refl;
      finished_behind = refl;
    }
lock_read w (Some z) (n ∷ ns) is =
    let behind = separated comma name_tokens (n ∷ ns) in
    record {
      to = AfterLockStream;
      parts = record (lock_to w (Some z)) { lock_streams = n ∷ ns };
      read = lock_first w (number z ∷ word w.to ∷ behind) is ∙ to_first w AfterLockKey (lock_named w (Some z)) behind is.to ∙ lock_walk (lock_to w (Some z)) n ns;
      finished_there = refl;
      ends = refl;
      finished_behind = refl;
    }

unlock_read : (w : FreeWords (List ℕ)) (k : ℤ) → IsSpelling w → IsRead w (Unlock k)
unlock_read w k is =
    let ls = number k ∷ [] in
    record {
      to = Complete;
      parts = record no_parts { form = forms.Unlock; count = k; spelling = record capitals { unlock = w.unlock } };
      read = ap (λ b. walk_on (cond b (Some (AfterLock, BeginLock)) (cond (is_unlock w.unlock) (Some (UnlockKey, BeginUnlock)) None)) no_parts (word w.unlock) ls (λ pl r. walk pl r ls)) (no_lock w.unlock is.unlock)
          ∙ ap (λ b. walk_on (cond b (Some (UnlockKey, BeginUnlock)) None) no_parts (word w.unlock) ls (λ pl r. walk pl r ls)) is.unlock;
      finished_there = refl;
      ends = refl;
      finished_behind = refl;
    }

stream_items : (w : FreeWords (List ℕ)) (name : List ℕ) (columns : List ColumnDef) → 0 < length columns → IsRead w (CreateStream name (record { items = columns }))
stream_items w name [] h = absurd (omega arith)
stream_items w name (c ∷ cs) h = stream_read w name c cs

query_items : (w : FreeWords (List ℕ)) (name : List ℕ) (shared k d : Bool) (select : List ColumnAst) (from : List (List ℕ)) (atoms : List AtomAst) → IsSpelling w → 0 < length select → 0 < length from → AllByRecursion HasColumn atoms → IsRead w (CreateQuery name (record { compact = k; distinct = d; select = record { items = select }; from = record { items = from }; atoms = record { items = atoms } }) shared)
query_items w name shared k d [] from atoms is h l a = absurd (omega arith)
query_items w name shared k d (c ∷ cs) [] atoms is h l a = absurd (omega arith)
query_items w name shared k d (c ∷ cs) (n ∷ ns) atoms is h l a = query_read w name shared k d c cs n ns atoms is a

-- each whole statement is read from its tokens
pub is_read : (w : FreeWords (List ℕ)) (s : Statement) → IsSpelling w → IsWhole s → IsRead w s
is_read w (CreateStream name columns) is h = stream_items w name columns.items h
is_read w (CreateQuery name select shared) is h = query_items w name shared select.compact select.distinct select.select.items select.from.items select.atoms.items is h.0 h.1 h.2
is_read w (Explain name) is h = record { to = Complete; parts = record no_parts { form = forms.Explain; name = name }; read = refl; finished_there = refl; ends = refl; finished_behind = refl }
is_read w (DropQuery name) is h = record { to = Complete; parts = record no_parts { form = forms.Drop; name = name }; read = refl; finished_there = refl; ends = refl; finished_behind = refl }
is_read w Checkpoint is h = record { to = Complete; parts = record no_parts { form = forms.Checkpoint }; read = refl; finished_there = refl; ends = refl; finished_behind = refl }
is_read w (ResumeRows rows) is h = record { to = Complete; parts = record no_parts { form = forms.Rows; count = rows }; read = refl; finished_there = refl; ends = refl; finished_behind = refl }
is_read w (ResumeGiven name rows) is h = record { to = Complete; parts = record no_parts { form = forms.Given; name = name; count = rows }; read = refl; finished_there = refl; ends = refl; finished_behind = refl }
is_read w (ResumeCell name index content) is h = record { to = Complete; parts = record no_parts { form = forms.Cell; name = name; index = index; count = content }; read = refl; finished_there = refl; ends = refl; finished_behind = refl }
is_read w (ResumeTuple name values) is h = tuple_items w name values.items h
is_read w (Lock k streams) is h = lock_read w k streams.items is
is_read w (Unlock k) is h = unlock_read w k is

-- what a spelled statement is read as
pub record ReadAs (ts : List Lexeme) (s : Statement) : Type 0 where
  pub to : State
  pub parts : Parts
  pub read : walk Start no_parts ts ≡ Ok (to, parts)
  pub finished_there : finished to parts ≡ Some s

pub spelled_read : (ts : List Lexeme) (s : Statement) → Spells ts s → ReadAs ts s
spelled_read ts s (whole, w, is, spelled) =
    let r = is_read w s is whole in
    elim spelled [
      | inl e ↦ record { to = r.to; parts = r.parts; read = ap (walk Start no_parts) e ∙ r.read; finished_there = r.finished_there }
      | inr e ↦ record { to = Ended; parts = r.parts; read = ap (walk Start no_parts) e ∙ walk_append Start no_parts (tokens_with (written w) s) (semicolon ∷ []) r.to r.parts r.read ∙ r.ends; finished_there = r.finished_behind }
    ]
