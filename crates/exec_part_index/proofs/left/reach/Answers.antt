use Rattle.std.proofs.Common.{◌∙◌, ◌+◌, ◌-◌, ◌<◌, arith, false, get_or, length, None, refl, subst, sym}
use Rattle.sem_query.specs.declared.cell.Cell.TheVariants.{Empty}
use Rattle.sem_query.specs.Admission.{admits}
use Rattle.sem_query.specs.Meaning.{by_column}
use Rattle.exec_synopsis.specs.declared.own.OwnCell.{OwnCell}
use Rattle.exec_synopsis.specs.Axes.{IsPlacement}
use Rattle.exec_part_index.specs.declared.part_entry.PartEntry.{PartEntry}
use Rattle.exec_part_index.specs.declared.simple_box.SimpleBox.TheVariants.{Unlisted}
use Rattle.exec_part_index.specs.Leaving.{IsCellOf}
use Rattle.exec_part_index.specs.PartIndex.{buckets, IsNext}
use Rattle.exec_part_index.specs.Shifts.{StandsAt}
use Rattle.exec_part_index.specs.Span.{no_span}
use Rattle.exec_part_index.proofs.Linked.{next_linked}
use Rattle.exec_part_index.proofs.PassedCells.{cell-of, none-left, passed-step, stands-inside}
use Rattle.exec_part_index.proofs.PreparedParts.{part_at}
use Rattle.exec_part_index.proofs.Shifting.{entry_read}
use Rattle.exec_part_index.proofs.left.reach.Goals as goal

abbrev no_entry : PartEntry
no_entry = record { simple_box = Unlisted; shift = None; code = 0; next = 0; span = no_span; follows = false }

pub chain-init : goal.chain-init
chain-init g c =
    let o = c.args.led.now in
    record {
      passed = record {
        behind = omega arith;
        left = none-left o.q.now o.parts.now c.args.pool.now o.extent.now o.pos o.row.now.items c.args.i c.args.i refl;
        there = c.requires.there;
      };
      stands = record {
        within = c.requires.inside;
        stands = λ part at_i.
            subst (IsPlacement part o.pos o.row.now.items (admits o.q.now part o.pos (by_column o.row.now.items))) c.in-Cell.is (c.requires.placed part at_i);
      };
      reads = omega arith;
      writes = refl;
    }

pub read-held-requires-clause-live : goal.read-held-requires-clause-live
read-held-requires-clause-live g c =
    let there = part_at c.args.led.now.parts.now c.chain.at c.chain.invariant.stands.within in
    (c.requires.held c.chain.at there.0 there.1).live

pub read-held-requires-clause-within : goal.read-held-requires-clause-within
read-held-requires-clause-within g c =
    let o = c.args.led.now in
    stands-inside o.q.now o.parts.now o.pos c.requires.here (c.requires.several c.if-passes.true) o.row.now.items c.args.pool.now o.extent.now c.requires.held c.chain.at c.chain.cell c.chain.invariant.stands

pub returns-then-not-stays-clause-reached : goal.returns-then-not-stays-clause-reached
returns-then-not-stays-clause-reached g c =
    let o = c.args.led.now in (
      c.chain.invariant.passed,
      record {
        inside = c.chain.invariant.stands.within;
        placed = λ part at_i.
            subst (IsPlacement part o.pos o.row.now.items (admits o.q.now part o.pos (by_column o.row.now.items))) (sym c.placement.ensures) (c.chain.invariant.stands.stands part at_i);
        own =
            cell-of o.parts.now o.q.now o.pos o.row.now.items c.args.pool.now o.extent.now c.chain.at c.chain.cell c.read-held.result c.chain.invariant.stands (c.read-held.ensures.cell Empty)
            (stands-inside o.q.now o.parts.now o.pos c.requires.here (c.requires.several c.if-passes.true) o.row.now.items c.args.pool.now o.extent.now c.requires.held c.chain.at c.chain.cell c.chain.invariant.stands);
      },
    )

pub cell_behind-told-requires-clause-entry : goal.cell_behind-told-requires-clause-entry
cell_behind-told-requires-clause-entry g c =
    let o = c.args.led.now in
    let x = o.part_index.now in
    entry_read o.parts.now o.pos x.codes.items x.links.items x.spans.items x.entries.items c.entries-entries.result.now c.chain.at no_entry c.requires.part_index.entries c.entries-entries.ensures c.chain.invariant.stands.within

pub chain-smaller : goal.chain-smaller
chain-smaller g c =
    let o = c.args.led.now in
    let x = o.part_index.now in
    let n = (get_or c.entries-entries.result.now c.chain.at no_entry).next in
    let entry =
    entry_read o.parts.now o.pos x.codes.items x.links.items x.spans.items x.entries.items c.entries-entries.result.now c.chain.at no_entry c.requires.part_index.entries c.entries-entries.ensures c.chain.invariant.stands.within in
    let next : IsNext (buckets x) (get_or (buckets x) c.chain.at 0) (c.chain.at + 1) n = next_linked o.q.now o.parts.now o.pos x c.requires.part_index c.chain.at n c.chain.invariant.stands.within entry.next in
    let behind = next.behind in
    let within = c.chain.invariant.stands.within in
    let less : length o.parts.now - n < length o.parts.now - c.chain.at = omega (arith, behind, within) in
    less

pub chain-preserved : goal.chain-preserved
chain-preserved g c =
    let o = c.args.led.now in
    let x = o.part_index.now in
    let n = (get_or c.entries-entries.result.now c.chain.at no_entry).next in
    let own : OwnCell = record { number = c.chain.cell.number; kind = c.chain.cell.kind; held = c.read-held.result } in
    let entry =
    entry_read o.parts.now o.pos x.codes.items x.links.items x.spans.items x.entries.items c.entries-entries.result.now c.chain.at no_entry c.requires.part_index.entries c.entries-entries.ensures c.chain.invariant.stands.within in
    let next : IsNext (buckets x) (get_or (buckets x) c.chain.at 0) (c.chain.at + 1) n = next_linked o.q.now o.parts.now o.pos x c.requires.part_index c.chain.at n c.chain.invariant.stands.within entry.next in
    let cell : IsCellOf o.parts.now o.pos o.row.now.items c.args.pool.now o.extent.now c.chain.at own
    = cell-of o.parts.now o.q.now o.pos o.row.now.items c.args.pool.now o.extent.now c.chain.at c.chain.cell c.read-held.result c.chain.invariant.stands (c.read-held.ensures.cell Empty)
    (stands-inside o.q.now o.parts.now o.pos c.requires.here (c.requires.several c.if-passes.true) o.row.now.items c.args.pool.now o.extent.now c.requires.held c.chain.at c.chain.cell c.chain.invariant.stands) in
    let behind = next.behind in
    let before = c.chain.invariant.reads in
    let read = c.read-held.ensures.reads in
    record {
      passed =
          passed-step o.q.now o.parts.now o.pos x c.requires.part_index o.row.now.items c.args.pool.now o.extent.now c.args.i c.chain.at n own
          c.chain.invariant.stands.within c.chain.invariant.passed cell (c.stays.ensures.0 c.if-not-stays.false) next;
      stands = subst (λ m. StandsAt o.q.now o.parts.now o.pos o.row.now.items m c.in-Some.next) (sym entry.next) c.in-Some.ensures;
      reads = omega (arith, behind, before, read);
      writes = c.read-held.ensures.writes ∙ c.chain.invariant.writes;
    }

pub returns-in-None-clause-reached : goal.returns-in-None-clause-reached
returns-in-None-clause-reached g c =
    let o = c.args.led.now in
    let x = o.part_index.now in
    let n = (get_or c.entries-entries.result.now c.chain.at no_entry).next in
    let own : OwnCell = record { number = c.chain.cell.number; kind = c.chain.cell.kind; held = c.read-held.result } in
    let entry =
    entry_read o.parts.now o.pos x.codes.items x.links.items x.spans.items x.entries.items c.entries-entries.result.now c.chain.at no_entry c.requires.part_index.entries c.entries-entries.ensures c.chain.invariant.stands.within in
    let next : IsNext (buckets x) (get_or (buckets x) c.chain.at 0) (c.chain.at + 1) n = next_linked o.q.now o.parts.now o.pos x c.requires.part_index c.chain.at n c.chain.invariant.stands.within entry.next in
    let cell : IsCellOf o.parts.now o.pos o.row.now.items c.args.pool.now o.extent.now c.chain.at own
    = cell-of o.parts.now o.q.now o.pos o.row.now.items c.args.pool.now o.extent.now c.chain.at c.chain.cell c.read-held.result c.chain.invariant.stands (c.read-held.ensures.cell Empty)
    (stands-inside o.q.now o.parts.now o.pos c.requires.here (c.requires.several c.if-passes.true) o.row.now.items c.args.pool.now o.extent.now c.requires.held c.chain.at c.chain.cell c.chain.invariant.stands) in
    let behind = next.behind in
    let before = c.chain.invariant.passed.behind in (
      omega (arith, behind, before),
      passed-step o.q.now o.parts.now o.pos x c.requires.part_index o.row.now.items c.args.pool.now o.extent.now c.args.i c.chain.at n own
          c.chain.invariant.stands.within c.chain.invariant.passed cell (c.stays.ensures.0 c.if-not-stays.false) next,
    )

pub returns-in-None-clause-reads : goal.returns-in-None-clause-reads
returns-in-None-clause-reads g c =
    let o = c.args.led.now in
    let x = o.part_index.now in
    let n = (get_or c.entries-entries.result.now c.chain.at no_entry).next in
    let entry =
    entry_read o.parts.now o.pos x.codes.items x.links.items x.spans.items x.entries.items c.entries-entries.result.now c.chain.at no_entry c.requires.part_index.entries c.entries-entries.ensures c.chain.invariant.stands.within in
    let next : IsNext (buckets x) (get_or (buckets x) c.chain.at 0) (c.chain.at + 1) n = next_linked o.q.now o.parts.now o.pos x c.requires.part_index c.chain.at n c.chain.invariant.stands.within entry.next in
    let behind = next.behind in
    let before = c.chain.invariant.reads in
    let read = c.read-held.ensures.reads in
    omega (arith, behind, before, read)

pub returns-in_default-clause-reached : goal.returns-in_default-clause-reached
returns-in_default-clause-reached g c =
    let o = c.args.led.now in (
      record {
        behind = omega arith;
        left = none-left o.q.now o.parts.now c.args.pool.now o.extent.now o.pos o.row.now.items c.args.i c.args.i refl;
        there = c.requires.there;
      },
      record {
        inside = c.requires.inside;
        placed = λ part at_i.
            subst (IsPlacement part o.pos o.row.now.items (admits o.q.now part o.pos (by_column o.row.now.items))) c.in-Cell.is (c.requires.placed part at_i);
        own = tt;
      },
    )
