use Rattle.std.proofs.Common.{inl, inr, sym, ◌∙◌}
use Rattle.sem_query.specs.Parts.{pairs}
use Rattle.sql_explain.specs.Text.{sign_line}
use Rattle.sql_explain.proofs.NamedParts.{pairs_named}
use Rattle.sql_explain.proofs.SideBySide.{no_items, no_pairs, is_empty}
use Rattle.sql_explain.proofs.signs.write_signs.Goals as goal

pub returns-then-is_empty : goal.returns-then-is_empty
returns-then-is_empty g c =
    no_pairs (sign_line c.args.catalog.now c.args.query.now.from) (pairs c.args.query.now) c.args.signs.now _ (no_items c.args.signs.now (sym c.is_empty.ensures ∙ c.if-is_empty.true))

pub write_pairs-requires-clause-lengths : goal.write_pairs-requires-clause-lengths
write_pairs-requires-clause-lengths g c =
    rw (c.as_slice.ensures.value, c.pairs-pairs.ensures)
    (elim c.requires.lengths [
      | inl same ↦ same
      | inr none ↦ absurd (is_empty c.args.signs.now none (sym c.is_empty.ensures ∙ c.if-is_empty.false))
    ])

pub write_pairs-requires-clause-pairs : goal.write_pairs-requires-clause-pairs
write_pairs-requires-clause-pairs g c = rw (c.as_slice.ensures.value, c.pairs-pairs.ensures, c.from.ensures.value) (pairs_named c.args.catalog.now c.args.query.now c.requires.named)
