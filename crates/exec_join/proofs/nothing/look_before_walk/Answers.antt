use Rattle.std.proofs.Common.{refl, ◌≡◌, ℕ, ◌+◌, ◌*◌, ◌<◌, ◌≤◌, ◌⊎◌, inl, inr, List, [], length, map, sym, ap, ◌∙◌, subst, arith, ℤ}
use Rattle.sem_query.specs.declared.cell.Cell.TheVariants.{Empty}
use Rattle.sem_query.specs.declared.part.Pair.{Pair}
use Rattle.sem_query.specs.declared.plan.Dim.{Dim}
use Rattle.sem_query.specs.declared.plan.PartPlan.{PartPlan}
use Rattle.sem_query.specs.Combinations.{Found, read_from}
use Rattle.sem_query.specs.Meaning.{by_column}
use Rattle.sem_query.specs.Numbers.{share}
use Rattle.sem_query.specs.Parts.{pairs}
use Rattle.sem_query.specs.Probing.{found_beside}
use Rattle.sem_query.specs.Query.{QueryValue}
use Rattle.exec_pool.specs.declared.pool.Extent.{Extent}
use Rattle.exec_pool.specs.Extents.{PoolValue, cells_of}
use Rattle.exec_join.specs.Beside.{last_beside, IsEmptyBeside}
use Rattle.exec_join.specs.Choosing.{setting, start, both}
use Rattle.exec_join.specs.Costs.{tried_size, walk_reads}
use Rattle.exec_join.specs.Joining.{Tells}
use Rattle.exec_join.specs.Walk.{walk}
use Rattle.exec_ranges.specs.Lined.{AreFixed}
use Rattle.exec_synopsis.specs.Premises.{IsReady}
use Rattle.exec_ranges.specs.Narrowed.{narrowed_dims}
use Rattle.exec_join.proofs.AloneLaws.{alone}
use Rattle.exec_join.proofs.BesideLaws.{last-there, nothing-beside}
use Rattle.exec_join.proofs.NothingLaws.{first-within, first-empty}
use Rattle.exec_join.proofs.StartLaws.{share-some, tried-share, look-and-walk, look-and-walk-four, walk-alone}
use Rattle.exec_join.proofs.nothing.look_before_walk.Goals as goal

-- what is seen at the last place
seen-last : (q : QueryValue) (part : PartPlan) (pool : PoolValue) (e : Extent) (pos : ℕ) (row seen : List ℤ) → pos < length q.from → IsReady q part pool e → seen ≡ row
    → (2 < length part.streams.items) × IsEmptyBeside part (read_from (cells_of pool e)) pos seen (last_beside (length part.streams.items) pos) → found_beside q part (read_from (cells_of pool e)) pos (by_column row) ≡ []
seen-last q part pool e pos row seen within ready same empty =
    let walked = ready.held.walked in
    let here : pos < length part.streams.items = omega (arith, within, walked.plan.count) in
    let there = last-there pos (length part.streams.items) (omega (arith, empty.0)) here in
    nothing-beside q part pos row (read_from (cells_of pool e)) walked here (last_beside (length part.streams.items) pos) there.0 there.1
    (subst (λ (r : List ℤ). IsEmptyBeside part (read_from (cells_of pool e)) pos r (last_beside (length part.streams.items) pos)) same empty.1)

-- a walk may follow what reads no more than the share
room-for-more : (q : QueryValue) (part : PartPlan) (pool : PoolValue) (e : Extent) (pos before : ℕ) → pos < length q.from → IsReady q part pool e → length part.streams.items ≤ 3
    → (reads : ℕ) → reads ≤ before + share part → reads + walk_reads part pos ≤ before + 3 * share part
room-for-more q part pool e pos before within ready few reads most =
    let walked = ready.held.walked in
    look-and-walk q part pos walked (omega (arith, within, walked.plan.count)) few before reads most

-- over two streams none is looked at where a walk ends
cut-none : (part : PartPlan) (before reads more : ℕ) → length part.streams.items ≡ 2 → (reads ≡ before) ⊎ ((2 < length part.streams.items) × (part.equal.items ≡ []) × (reads ≤ before + more)) → 2 * reads ≤ 2 * before + share part
cut-none part before reads more two (inl same) = omega (arith, same)
cut-none part before reads more two (inr some) = absurd (let many = some.0 in omega (arith, many, two))

-- where a walk ends
cut-few : (q : QueryValue) (part : PartPlan) (pool : PoolValue) (e : Extent) (pos before : ℕ) → pos < length q.from → IsReady q part pool e
    → (reads : ℕ) → (reads ≡ before) ⊎ ((2 < length part.streams.items) × (part.equal.items ≡ []) × (reads ≤ before + tried_size part pos (last_beside (length part.streams.items) pos))) → reads ≤ before + share part
cut-few q part pool e pos before within ready reads (inl same) = omega (arith, same)
cut-few q part pool e pos before within ready reads (inr some) =
    (let walked = ready.held.walked in
    let many = some.0 in
    let here : pos < length part.streams.items = omega (arith, within, walked.plan.count) in
    let t = tried-share q part pos (last_beside (length part.streams.items) pos) walked here (last-there pos (length part.streams.items) (omega (arith, many)) here).0 in
    let r = some.2 in omega (arith, t, r))

-- one read is no more than the share
one-read : (q : QueryValue) (part : PartPlan) (pool : PoolValue) (e : Extent) (pos before : ℕ) → pos < length q.from → IsReady q part pool e
    → (reads : ℕ) → reads ≤ before + 1 → reads ≤ before + share part
one-read q part pool e pos before within ready reads most =
    let held = ready.held in
    let here : pos < length part.streams.items = omega (arith, within, held.walked.plan.count) in
    let some = share-some q part pos held.walked here in
    omega (arith, some, most)

same-fixed : (ps sp : List Pair) (part : PartPlan) (pos : ℕ) (row seen : List ℤ) (fixed : List Dim) (first : ℕ) → sp ≡ ps → seen ≡ row
    → AreFixed part (length (start pos)) (narrowed_dims sp part pos seen (start pos)) fixed first → AreFixed part (length (start pos)) (narrowed_dims ps part pos row (start pos)) fixed first
same-fixed ps sp part pos row seen fixed first e f h = subst (λ (ds : List Dim). AreFixed part (length (start pos)) ds fixed first) (λ k. narrowed_dims (e k) part pos (f k) (start pos)) h

pub returns-then-is_cut_off-clause-found : goal.returns-then-is_cut_off-clause-found
returns-then-is_cut_off-clause-found g c =
    seen-last c.args.at.now.q.now c.args.at.now.part.now c.args.pool.now c.args.e.now c.args.at.now.arriving _ _ c.requires.here c.requires.ready c.as_slice-row.ensures.value (c.is_cut_off.ensures.empty c.if-is_cut_off.true)

pub read-cell-requires-clause-within : goal.read-cell-requires-clause-within
read-cell-requires-clause-within g c =
    let q = c.args.at.now.q.now in
    let part = c.args.at.now.part.now in
    let pos = c.args.at.now.arriving in
    let held = c.requires.ready.held in
    let here : pos < length part.streams.items = omega (arith, c.requires.here, held.walked.plan.count) in
    let are = same-fixed (pairs q) _ part pos c.args.at.now.row.now.items _ c.first_cell.new.self.dims.items c.in-Some.number refl refl c.in-Some.ensures.first.1 in
    first-within q part held.walked pos c.args.at.now.row.now.items here c.in-Some.ensures.first.0 (64 * c.args.e.now.pages) held.within c.first_cell.new.self.dims.items c.in-Some.number are

pub returns-then-is_empty-clause-found : goal.returns-then-is_empty-clause-found
returns-then-is_empty-clause-found g c =
    let q = c.args.at.now.q.now in
    let part = c.args.at.now.part.now in
    let pos = c.args.at.now.arriving in
    let held = c.requires.ready.held in
    let here : pos < length part.streams.items = omega (arith, c.requires.here, held.walked.plan.count) in
    let are = same-fixed (pairs q) _ part pos c.args.at.now.row.now.items _ c.first_cell.new.self.dims.items c.in-Some.number refl refl c.in-Some.ensures.first.1 in
    first-empty q part held.walked pos c.args.at.now.row.now.items here c.in-Some.ensures.first.0 (64 * c.args.e.now.pages) held.within c.first_cell.new.self.dims.items c.in-Some.number are
    (cells_of c.args.pool.now c.args.e.now) (sym (c.read-cell.ensures.cell Empty) ∙ c.is_empty-2.ensures.yes c.if-is_empty.true)

pub returns-clause-found : goal.returns-clause-found
returns-clause-found g c =
    let q = c.args.at.now.q.now in
    let part = c.args.at.now.part.now in
    let pos = c.args.at.now.arriving in
    let row = c.args.at.now.row.now.items in
    let held = c.requires.ready.held in
    let here : pos < length part.streams.items = omega (arith, c.requires.here, held.walked.plan.count) in
    let are = same-fixed (pairs q) _ part pos row _ c.first_cell.new.self.dims.items c.in-Some.number refl refl c.in-Some.ensures.first.1 in
    let two : length part.streams.items ≡ 2 = (let v = ap length c.as_slice-streams.ensures.value in let t = c.if-streams-ne2.false in omega (arith, v, t)) in
    let read = read_from (cells_of c.args.pool.now c.args.e.now) in
    let values = map (λ d. d.lo) c.first_cell.new.self.dims.items in
    let is : found_beside q part read pos (by_column row) ≡ walk (setting (pairs q) q.select part pos row read) 0 (both pos values c.read-cell.result)
    = alone q part held.walked pos row here c.in-Some.ensures.first.0 (64 * c.args.e.now.pages) held.within c.first_cell.new.self.dims.items c.in-Some.number are
    (cells_of c.args.pool.now c.args.e.now) two c.read-cell.result (sym (c.read-cell.ensures.cell Empty)) (c.is_empty-2.ensures.no c.if-is_empty.false) in
    subst (λ (finds : List Found). Tells c.look_alone.result c.look_alone.new.tuple.items finds) (sym is) (c.look_alone.ensures.found read)

pub returns-then-is_empty-clause-reads : goal.returns-then-is_empty-clause-reads
returns-then-is_empty-clause-reads g c =
    room-for-more c.args.at.now.q.now c.args.at.now.part.now c.args.pool.now c.args.e.now c.args.at.now.arriving _ c.requires.here c.requires.ready
    (let v = ap length c.as_slice-streams.ensures.value in let f = c.if-streams-gt3.false in omega (arith, v, f)) _ (one-read c.args.at.now.q.now c.args.at.now.part.now c.args.pool.now c.args.e.now c.args.at.now.arriving _ c.requires.here c.requires.ready _ (let r = c.read-cell.ensures.reads in omega (arith, r)))

pub returns-then-streams-ne2-clause-reads : goal.returns-then-streams-ne2-clause-reads
returns-then-streams-ne2-clause-reads g c =
    room-for-more c.args.at.now.q.now c.args.at.now.part.now c.args.pool.now c.args.e.now c.args.at.now.arriving _ c.requires.here c.requires.ready
    (let v = ap length c.as_slice-streams.ensures.value in let f = c.if-streams-gt3.false in omega (arith, v, f)) _ (one-read c.args.at.now.q.now c.args.at.now.part.now c.args.pool.now c.args.e.now c.args.at.now.arriving _ c.requires.here c.requires.ready _ (let r = c.read-cell.ensures.reads in omega (arith, r)))

pub returns-clause-reads : goal.returns-clause-reads
returns-clause-reads g c =
    room-for-more c.args.at.now.q.now c.args.at.now.part.now c.args.pool.now c.args.e.now c.args.at.now.arriving _ c.requires.here c.requires.ready
    (let v = ap length c.as_slice-streams.ensures.value in let f = c.if-streams-gt3.false in omega (arith, v, f)) _ (one-read c.args.at.now.q.now c.args.at.now.part.now c.args.pool.now c.args.e.now c.args.at.now.arriving _ c.requires.here c.requires.ready _ (let r = c.read-cell.ensures.reads in omega (arith, r)))

pub returns-then-is_empty-clause-few : goal.returns-then-is_empty-clause-few
returns-then-is_empty-clause-few g c =
    one-read c.args.at.now.q.now c.args.at.now.part.now c.args.pool.now c.args.e.now c.args.at.now.arriving _ c.requires.here c.requires.ready _ (let r = c.read-cell.ensures.reads in omega (arith, r))

pub returns-then-streams-ne2-clause-few : goal.returns-then-streams-ne2-clause-few
returns-then-streams-ne2-clause-few g c =
    one-read c.args.at.now.q.now c.args.at.now.part.now c.args.pool.now c.args.e.now c.args.at.now.arriving _ c.requires.here c.requires.ready _ (let r = c.read-cell.ensures.reads in omega (arith, r))

pub returns-clause-few : goal.returns-clause-few
returns-clause-few g c =
    one-read c.args.at.now.q.now c.args.at.now.part.now c.args.pool.now c.args.e.now c.args.at.now.arriving _ c.requires.here c.requires.ready _ (let r = c.read-cell.ensures.reads in omega (arith, r))

pub returns-then-streams-ne2-clause-alone : goal.returns-then-streams-ne2-clause-alone
returns-then-streams-ne2-clause-alone g c two unknown = absurd (let v = ap length c.as_slice-streams.ensures.value in let t = c.if-streams-ne2.true in omega (arith, v, t, two))

pub returns-clause-alone : goal.returns-clause-alone
returns-clause-alone g c two unknown = absurd (c.look_alone.ensures.sure unknown)

pub returns-then-streams-gt3-clause-few : goal.returns-then-streams-gt3-clause-few
returns-then-streams-gt3-clause-few g c = cut-few c.args.at.now.q.now c.args.at.now.part.now c.args.pool.now c.args.e.now c.args.at.now.arriving _ c.requires.here c.requires.ready _ c.is_cut_off.ensures.reads

pub returns-then-is_cut_off-clause-few : goal.returns-then-is_cut_off-clause-few
returns-then-is_cut_off-clause-few g c = cut-few c.args.at.now.q.now c.args.at.now.part.now c.args.pool.now c.args.e.now c.args.at.now.arriving _ c.requires.here c.requires.ready _ c.is_cut_off.ensures.reads

pub returns-then-streams-gt3-clause-reads : goal.returns-then-streams-gt3-clause-reads
returns-then-streams-gt3-clause-reads g c =
    look-and-walk-four c.args.at.now.q.now c.args.at.now.part.now c.args.at.now.arriving c.requires.ready.held.walked (let w = c.requires.ready.held.walked in omega (arith, c.requires.here, w.plan.count))
    (let v = ap length c.as_slice-streams.ensures.value in let t = c.if-streams-gt3.true in omega (arith, v, t)) (let v = ap length c.as_slice-streams.ensures.value in let f = c.as_slice-streams.ensures.fits in omega (arith, v, f))
    (c.has_single_cells.ensures c.if-has_single_cells.false) _ _ c.is_cut_off.ensures.reads

pub returns-then-is_cut_off-clause-reads : goal.returns-then-is_cut_off-clause-reads
returns-then-is_cut_off-clause-reads g c =
    look-and-walk-four c.args.at.now.q.now c.args.at.now.part.now c.args.at.now.arriving c.requires.ready.held.walked (let w = c.requires.ready.held.walked in omega (arith, c.requires.here, w.plan.count))
    (let v = ap length c.as_slice-streams.ensures.value in let t = c.if-streams-gt3.true in omega (arith, v, t)) (let v = ap length c.as_slice-streams.ensures.value in let f = c.as_slice-streams.ensures.fits in omega (arith, v, f))
    (c.has_single_cells.ensures c.if-has_single_cells.false) _ _ c.is_cut_off.ensures.reads

pub returns-then-has_single_cells-clause-reads : goal.returns-then-has_single_cells-clause-reads
returns-then-has_single_cells-clause-reads g c =
    let walked = c.requires.ready.held.walked in
    let w = walk-alone c.args.at.now.q.now c.args.at.now.part.now c.args.at.now.arriving walked (omega (arith, c.requires.here, walked.plan.count))
    (let v = ap length c.as_slice-streams.ensures.value in let f = c.as_slice-streams.ensures.fits in omega (arith, v, f)) in
    omega (arith, w)

pub returns-then-is_cut_off-2-clause-found : goal.returns-then-is_cut_off-2-clause-found
returns-then-is_cut_off-2-clause-found g c =
    seen-last c.args.at.now.q.now c.args.at.now.part.now c.args.pool.now c.args.e.now c.args.at.now.arriving _ _ c.requires.here c.requires.ready c.as_slice-row.ensures.value (c.is_cut_off-in_default.ensures.empty c.if-is_cut_off-2.true)

pub returns-in_default-clause-few : goal.returns-in_default-clause-few
returns-in_default-clause-few g c = cut-few c.args.at.now.q.now c.args.at.now.part.now c.args.pool.now c.args.e.now c.args.at.now.arriving _ c.requires.here c.requires.ready _ c.is_cut_off-in_default.ensures.reads

pub returns-then-is_cut_off-2-clause-few : goal.returns-then-is_cut_off-2-clause-few
returns-then-is_cut_off-2-clause-few g c = cut-few c.args.at.now.q.now c.args.at.now.part.now c.args.pool.now c.args.e.now c.args.at.now.arriving _ c.requires.here c.requires.ready _ c.is_cut_off-in_default.ensures.reads

pub returns-in_default-clause-reads : goal.returns-in_default-clause-reads
returns-in_default-clause-reads g c =
    room-for-more c.args.at.now.q.now c.args.at.now.part.now c.args.pool.now c.args.e.now c.args.at.now.arriving _ c.requires.here c.requires.ready (let v = ap length c.as_slice-streams.ensures.value in let f = c.if-streams-gt3.false in omega (arith, v, f)) _ (cut-few c.args.at.now.q.now c.args.at.now.part.now c.args.pool.now c.args.e.now c.args.at.now.arriving _ c.requires.here c.requires.ready _ c.is_cut_off-in_default.ensures.reads)

pub returns-then-is_cut_off-2-clause-reads : goal.returns-then-is_cut_off-2-clause-reads
returns-then-is_cut_off-2-clause-reads g c =
    room-for-more c.args.at.now.q.now c.args.at.now.part.now c.args.pool.now c.args.e.now c.args.at.now.arriving _ c.requires.here c.requires.ready (let v = ap length c.as_slice-streams.ensures.value in let f = c.if-streams-gt3.false in omega (arith, v, f)) _ (cut-few c.args.at.now.q.now c.args.at.now.part.now c.args.pool.now c.args.e.now c.args.at.now.arriving _ c.requires.here c.requires.ready _ c.is_cut_off-in_default.ensures.reads)

pub returns-in_default-clause-alone : goal.returns-in_default-clause-alone
returns-in_default-clause-alone g c two unknown = cut-none c.args.at.now.part.now _ _ _ two c.is_cut_off-in_default.ensures.reads

pub returns-then-streams-gt3-clause-alone : goal.returns-then-streams-gt3-clause-alone
returns-then-streams-gt3-clause-alone g c two unknown = absurd (let v = ap length c.as_slice-streams.ensures.value in let t = c.if-streams-gt3.true in omega (arith, v, t, two))

pub returns-then-not-is_empty-clause-reads : goal.returns-then-not-is_empty-clause-reads
returns-then-not-is_empty-clause-reads g c =
    room-for-more c.args.at.now.q.now c.args.at.now.part.now c.args.pool.now c.args.e.now c.args.at.now.arriving c.args.steps.now.reads c.requires.here c.requires.ready
    (let v = ap length c.as_slice-streams.ensures.value in let f = c.if-streams-gt3.false in omega (arith, v, f)) c.args.steps.now.reads (omega arith)
