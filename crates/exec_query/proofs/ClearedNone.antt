-- A table without entries has nothing to clear.
use Rattle.std.proofs.Common.{◌≡◌, Bool, true, false, List, [], length, refl, sym, ap, ◌∙◌}
use Rattle.std.proofs.lemmas.List.{nil_from_length}
use Rattle.exec_answer_table.specs.Entries.{Entry, TableValue, with_entries}
use Rattle.exec_query.specs.Executor.{cleared, spelled}
use Rattle.exec_query.proofs.Settled.{settled-spelled}

cleared-nothing : (d : Bool) → cleared d [] ≡ []
cleared-nothing true = refl
cleared-nothing false = refl

pub none-cleared : (d : Bool) (table : TableValue) → length table.entries ≡ 0 → table ≡ with_entries table (cleared d table.entries)
none-cleared d table e =
    let none : table.entries ≡ [] = nil_from_length table.entries e in
    ap (with_entries table) none ∙ sym (ap (λ (xs : List Entry). with_entries table (cleared d xs)) none ∙ ap (with_entries table) (cleared-nothing d))

-- a cleared table waits for nothing
pub spelled-cleared : (d : Bool) (es : List Entry) → spelled (cleared d es) ≡ []
spelled-cleared true es = settled-spelled es
spelled-cleared false es = refl
