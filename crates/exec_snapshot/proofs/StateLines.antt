-- The lines that tell what a query keeps.
use Rattle.std.proofs.Common.{◌≡◌, ℕ, ◌<◌, ℤ, pos, Bool, true, false, cond, List, [], ◌∷◌, ◌++◌, length, get_or, take, flat_map, Result, refl, sym, ap, ◌∙◌, subst, arith}
use Rattle.io_streams.specs.Sink.{SinkState, Wrote, BrokeOff, Writes}
use Rattle.io_streams.proofs.Writing.{BrokeOff-then, BrokeOff-stop}
use Rattle.sem_query.specs.Bases.{Base}
use Rattle.exec_answer_table.specs.Entries.{Entry, tuples_of}
use Rattle.sql_parser.specs.declared.tree.Statement.TheVariants.{ResumeGiven, ResumeTuple}
use Rattle.sql_printer.specs.Printed.{printed_form}
use Rattle.exec_snapshot.specs.Lines.{cell_statements, tuple_statements, printed_statements, kept_statements, statements_text}
use Rattle.exec_snapshot.proofs.LineTexts.{broke_at, writes_after}
use Rattle.exec_snapshot.proofs.CellLines.{text_append}

abbrev pub given_text : List ℕ → Base → List ℕ
given_text name base = statements_text (ResumeGiven name (pos base.given) ∷ [])

abbrev pub cells_text : List ℕ → Base → List ℕ
cells_text name base = statements_text (cell_statements name 0 base.cells)

abbrev pub tuples_text : List ℕ → Bool → Base → List ℕ
tuples_text name distinct base = statements_text (printed_statements name distinct base.table)

-- the text of what is kept, piece by piece
pub kept_text : (name : List ℕ) (distinct : Bool) (base : Base) → statements_text (kept_statements name distinct base) ≡ given_text name base ++ (cells_text name base ++ tuples_text name distinct base)
kept_text name distinct base =
    let cells = cell_statements name 0 base.cells in
    let tuples = printed_statements name distinct base.table in
    text_append (ResumeGiven name (pos base.given) ∷ []) (cells ++ tuples) ∙ ap (λ t. given_text name base ++ t) (text_append cells tuples)

-- it was written, or one of its pieces broke off
pub wrote_kept : {T E : Type 0} (r : Result T E) (a b c d : SinkState) (name : List ℕ) (distinct : Bool) (base : Base) → Wrote a b (given_text name base) → Wrote b c (cells_text name base)
    → Writes r c d (tuples_text name distinct base) → Writes r a d (statements_text (kept_statements name distinct base))
wrote_kept r a b c d name distinct base p q w =
    subst (Writes r a d) (sym (kept_text name distinct base)) (writes_after r a b d _ _ p (writes_after r b c d _ _ q w))

pub broke_cells : (a b c : SinkState) (name : List ℕ) (distinct : Bool) (base : Base) → Wrote a b (given_text name base) → BrokeOff b c (cells_text name base)
    → BrokeOff a c (statements_text (kept_statements name distinct base))
broke_cells a b c name distinct base p q =
    subst (BrokeOff a c) (sym (kept_text name distinct base)) (BrokeOff-then a b c _ _ p (BrokeOff-stop b c (cells_text name base) (tuples_text name distinct base) q))

pub broke_given : (a b : SinkState) (name : List ℕ) (distinct : Bool) (base : Base) → BrokeOff a b (given_text name base) → BrokeOff a b (statements_text (kept_statements name distinct base))
broke_given a b name distinct base q = subst (BrokeOff a b) (sym (kept_text name distinct base)) (BrokeOff-stop a b (given_text name base) _ q)

-- the line for a tuple
abbrev pub tuple_text : List ℕ → List ℤ → List ℕ
tuple_text name t = printed_form (ResumeTuple name (record { items = t })) ++ 10 ∷ []

each_tuple : (name : List ℕ) (tuples : List (List ℤ)) → statements_text (tuple_statements name tuples) ≡ flat_map (tuple_text name) tuples
each_tuple name [] = refl
each_tuple name (t ∷ tuples) = ap (λ text. tuple_text name t ++ text) (each_tuple name tuples)

-- that for the tuple at a place broke off
pub broke_tuple : (distinct : Bool) (n : ℕ) (name : List ℕ) (entries : List Entry) (i : ℕ) (t : List ℤ) (a b c : SinkState) → n ≡ cond distinct (length (tuples_of entries)) 0 → i < n → t ≡ get_or (tuples_of entries) i []
    → Wrote a b (statements_text (printed_statements name distinct (take i (tuples_of entries)))) → BrokeOff b c (tuple_text name t)
    → BrokeOff a c (statements_text (printed_statements name distinct (tuples_of entries)))
broke_tuple false n name entries i t a b c e lt is p q = absurd (omega (arith, e, lt))
broke_tuple true n name entries i t a b c e lt is p q =
    let tuples = tuples_of entries in
    let within : i < length tuples = omega (arith, e, lt) in
    subst (BrokeOff a c) (sym (each_tuple name tuples))
    (broke_at (tuple_text name) tuples i [] a b c within (subst (Wrote a b) (each_tuple name (take i tuples)) p) (subst (λ x. BrokeOff b c (tuple_text name x)) is q))
