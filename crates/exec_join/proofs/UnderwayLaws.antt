-- A probe stays in the middle of its walk.
use Rattle.std.proofs.Common.{◌≡◌, ◌≢◌, ℕ, zero, suc, ◌+◌, ◌^◌, ◌<◌, ◌≤◌, true, false, List, [], ◌∷◌, ◌++◌, length, take, refl, sym, ap, ◌∙◌, subst, arith, append_assoc, append-nil, length-append, ℤ, map, ◌==◌, if◌then◌else◌}
use Rattle.std.proofs.lemmas.Bool.Decides.{nat_tests}
use Rattle.sem_query.specs.Boxes.{box_size, AreNumbered}
use Rattle.sem_query.specs.declared.part.Pair.{Pair}
use Rattle.sem_query.specs.declared.plan.PartPlan.{PartPlan}
use Rattle.sem_query.specs.Plan.{dims_at, stream_at}
use Rattle.sem_query.specs.Query.{QueryValue}
use Rattle.sem_query.specs.Parts.{pairs}
use Rattle.exec_ranges.specs.declared.binding.Binding.{Binding}
use Rattle.exec_join.specs.declared.probe.Probe.{Probe}
use Rattle.exec_synopsis.specs.Preparing.{IsPrepared}
use Rattle.sem_query.specs.declared.atom.Attr.{Attr}
use Rattle.sem_query.specs.Combinations.{Reading}
use Rattle.exec_ranges.specs.Values.{rows_in, value_in}
use Rattle.exec_join.specs.Choosing.{setting}
use Rattle.exec_ranges.specs.Narrowed.{dims_in, narrowed_dims}
use Rattle.exec_join.specs.Costs.{Rates, cost_left}
use Rattle.exec_join.specs.Walk.{left}
use Rattle.exec_synopsis.specs.Narrowing.{narrow}
use Rattle.exec_synopsis.specs.Premises.{IsWalked, IsLaidOut}
use Rattle.exec_ranges.specs.Lined.{StandOn}
use Rattle.exec_join.specs.Remaining.{IsPlaced, IsUnderway, IsSameWalk, IsSameSight, TellsOf, WentBack, ended, popped, AreLight, AreSizes, limit, dims_now, HasOpened, left_of}
use Rattle.exec_synopsis.proofs.PlanLaws.{laid-beside}
use Rattle.exec_ranges.proofs.DimLaws.{sound-narrowed}
use Rattle.exec_join.proofs.StepLaws.{light-front, light-more}

-- the dims at a level have sizes that fit
pub numbered : (q : QueryValue) (part : PartPlan) → IsWalked q part → (ps : List Pair) (a : ℕ) (row : List ℤ) (known : List Binding) → a < length part.streams.items → length known < length part.streams.items → AreNumbered (narrowed_dims ps part a row known)
numbered q part walked ps a row known here more = sound-narrowed ps part a row walked.cells known (λ n. laid-beside q part walked walked.cells (omega arith) a (length known) here more n)

-- and the box of its stream is laid out
pub laid-here : (q : QueryValue) (part : PartPlan) → IsWalked q part → (a place : ℕ) → a < length part.streams.items → place < length part.streams.items → place ≢ a → IsLaidOut (stream_at part place) (2 ^ 32)
laid-here q part walked a place here more n = laid-beside q part walked (2 ^ 32) (let f = walked.few in omega (arith, f)) a place here more n

module _ (ps : List Pair) (part : PartPlan) (a : ℕ) (row : List ℤ) where
  abbrev size_at : List Binding → ℕ
  size_at known = box_size (narrowed_dims ps part a row known)

  pub sizes-push : (known cs : List Binding) (ns : List ℕ) (c : Binding) (n : ℕ) → AreSizes ps part a row known cs ns → n ≡ size_at (known ++ cs) → AreSizes ps part a row known (cs ++ c ∷ []) (ns ++ n ∷ [])
  sizes-push known [] [] c n h e = (e ∙ ap size_at (append-nil known), tt)
  sizes-push known [] (y ∷ ns) c n h e = absurd h
  sizes-push known (x ∷ cs) [] c n h e = absurd h
  sizes-push known (x ∷ cs) (y ∷ ns) c n h e = (h.0, sizes-push (known ++ x ∷ []) cs ns c n h.1 (e ∙ ap size_at (sym (append_assoc known (x ∷ []) cs))))

  none-after : (known : List Binding) (ns : List ℕ) (n : ℕ) → AreSizes ps part a row known [] (ns ++ n ∷ []) → ⊥
  none-after known [] n h = h
  none-after known (y ∷ ns) n h = h

  none-before : (known cs : List Binding) (c : Binding) → AreSizes ps part a row known (cs ++ c ∷ []) [] → ⊥
  none-before known [] c h = h
  none-before known (x ∷ cs) c h = h

  pub sizes-pop : (known cs : List Binding) (ns : List ℕ) (c : Binding) (n : ℕ) → AreSizes ps part a row known (cs ++ c ∷ []) (ns ++ n ∷ []) → AreSizes ps part a row known cs ns × (n ≡ size_at (known ++ cs))
  sizes-pop known [] [] c n h = (tt, h.0 ∙ ap size_at (sym (append-nil known)))
  sizes-pop known [] (y ∷ ns) c n h = absurd (none-after (known ++ c ∷ []) ns n h.1)
  sizes-pop known (x ∷ cs) [] c n h = absurd (none-before (known ++ x ∷ []) cs c h.1)
  sizes-pop known (x ∷ cs) (y ∷ ns) c n h = let t = sizes-pop (known ++ x ∷ []) cs ns c n h.1 in ((h.0, t.0), t.1 ∙ ap size_at (append_assoc known (x ∷ []) cs))

  pub sizes-length : (known cs : List Binding) (ns : List ℕ) → AreSizes ps part a row known cs ns → length ns ≡ length cs
  sizes-length known [] [] h = refl
  sizes-length known [] (y ∷ ns) h = absurd h
  sizes-length known (x ∷ cs) [] h = absurd h
  sizes-length known (x ∷ cs) (y ∷ ns) h = ap suc (sizes-length (known ++ x ∷ []) cs ns h.1)

-- a front of the choices
pub take-front : {X : Type 0} (n : ℕ) (xs ys : List X) → n ≤ length xs → take n (xs ++ ys) ≡ take n xs
take-front zero xs ys l = refl
take-front (suc n) [] ys l = absurd (omega (arith, l))
take-front (suc n) (x ∷ xs) ys l = ap (λ zs. x ∷ zs) (take-front n xs ys (omega (arith, l)))

pub take-whole : {X : Type 0} (n : ℕ) (xs : List X) → n ≡ length xs → take n xs ≡ xs
take-whole n xs e = ap (λ m. take m xs) e ∙ all xs
  where
    all : {X : Type 0} (xs : List X) → take (length xs) xs ≡ xs
    all [] = refl
    all (x ∷ xs) = ap (λ zs. x ∷ zs) (all xs)

module _ (part : PartPlan) (p r : Probe) (walk : IsSameWalk p r) where
  -- lists that fit one fit the other
  pub same-placed : p.arriving < length part.streams.items → IsPrepared (pairs p.q.now) part p.prepared.now
      → length r.room.now.chosen.items ≡ length r.room.now.numbers.items → length r.room.now.chosen.items ≤ length part.streams.items
      → AreLight p.arriving 0 r.room.now.chosen.items
      → AreSizes (pairs p.q.now) part p.arriving p.row.now.items [] r.room.now.chosen.items r.room.now.sizes.items
      → (r.level ≤ length r.room.now.chosen.items → TellsOf part r (take r.level r.room.now.chosen.items)) → IsPlaced part r
  same-placed here prepared same few light sizes seen =
      let ps : (pairs r.q.now) ≡ (pairs p.q.now) = λ k. (pairs (walk.query k).now) in
      let row : r.row.now.items ≡ p.row.now.items = λ k. (walk.row k).now.items in
      let x : r.prepared.now ≡ p.prepared.now = λ k. (walk.prepared k).now in
      record {
        here = subst (λ m. m < length part.streams.items) (sym walk.arriving) here;
        same = same;
        few = few;
        light = subst (λ m. AreLight m 0 r.room.now.chosen.items) (sym walk.arriving) light;
        prepared = subst (λ xs. IsPrepared xs part r.prepared.now) (sym ps) (subst (λ y. IsPrepared (pairs p.q.now) part y) (sym x) prepared);
        sizes =
            subst (λ xs. AreSizes xs part r.arriving r.row.now.items [] r.room.now.chosen.items r.room.now.sizes.items) (sym ps)
            (subst (λ m. AreSizes (pairs p.q.now) part m r.row.now.items [] r.room.now.chosen.items r.room.now.sizes.items) (sym walk.arriving)
            (subst (λ xs. AreSizes (pairs p.q.now) part p.arriving xs [] r.room.now.chosen.items r.room.now.sizes.items) (sym row) sizes));
        seen = seen;
      }

  pub same-dims : (known : List Binding) → narrowed_dims (pairs p.q.now) part p.arriving p.row.now.items known ≡ narrowed_dims (pairs r.q.now) part r.arriving r.row.now.items known
  same-dims known = λ k. narrowed_dims (pairs (sym walk.query k).now) part (sym walk.arriving k) (sym walk.row k).now.items known

  -- a room that tells the same
  pub same-tells : IsSameSight p r → (known others : List Binding) → known ≡ others → TellsOf part p known → TellsOf part r others
  same-tells sight known others e t =
      let ds : narrowed_dims (pairs p.q.now) part p.arriving p.row.now.items known ≡ narrowed_dims (pairs r.q.now) part r.arriving r.row.now.items others
      = same-dims known ∙ ap (narrowed_dims (pairs r.q.now) part r.arriving r.row.now.items) e in (
        sight.dims ∙ t.0 ∙ ds,
        subst (λ xs. StandOn part r.arriving (length others) xs r.room.now.line) ds
            (subst (λ m. StandOn part m (length others) (narrowed_dims (pairs p.q.now) part p.arriving p.row.now.items known) r.room.now.line) (sym walk.arriving)
            (subst (λ cs. StandOn part p.arriving (length cs) (narrowed_dims (pairs p.q.now) part p.arriving p.row.now.items known) r.room.now.line) e
            (subst (λ o. StandOn part p.arriving (length known) (narrowed_dims (pairs p.q.now) part p.arriving p.row.now.items known) o) (sym sight.line) t.1))),
      )

-- one level less
pub back-walk : (p r : Probe) → WentBack p r → IsSameWalk p r
back-walk p r (ended a b c d e f g h m zs ss) = record { arriving = f; row = g; query = h; prepared = m }
back-walk p r (popped c n z a b e v f g j m zs zv ss) = record { arriving = f; row = g; query = j; prepared = m }

pub back-placed : (part : PartPlan) (p r : Probe) → WentBack p r → IsPlaced part p → IsPlaced part r
back-placed part p r (ended a b c d e f g h m zs ss) u =
    same-placed part p r (back-walk p r (ended a b c d e f g h m zs ss)) u.here u.prepared (ap length c ∙ sym (ap length d)) (let z = ap length c in omega (arith, z))
    (subst (λ cs. AreLight p.arriving 0 cs) (sym c) tt)
    (subst (λ cs. AreSizes (pairs p.q.now) part p.arriving p.row.now.items [] cs r.room.now.sizes.items) (sym c) (subst (λ ns. AreSizes (pairs p.q.now) part p.arriving p.row.now.items [] [] ns) (sym zs) tt))
    (λ l. same-tells part p r (back-walk p r (ended a b c d e f g h m zs ss)) ss _ _ (λ k. take (sym ss.level k) ((a ∙ sym c) k)) (u.seen (let x = ap length a in let y = ap length c in omega (arith, l, ss.level, x, y))))
back-placed part p r (popped c n z a b e v f g j m zs zv ss) u =
    let x = ap length a in
    let y = ap length b in
    let s = length-append r.room.now.chosen.items (c ∷ []) in
    let t = length-append r.room.now.numbers.items (n ∷ []) in
    same-placed part p r (back-walk p r (popped c n z a b e v f g j m zs zv ss)) u.here u.prepared (omega (arith, x, y, s, t, u.same)) (omega (arith, x, s, u.few))
    (light-front p.arriving 0 r.room.now.chosen.items c (subst (λ cs. AreLight p.arriving 0 cs) a u.light))
    (sizes-pop (pairs p.q.now) part p.arriving p.row.now.items [] r.room.now.chosen.items r.room.now.sizes.items c z
    (subst (λ cs. AreSizes (pairs p.q.now) part p.arriving p.row.now.items [] cs (r.room.now.sizes.items ++ z ∷ [])) a (subst (λ ns. AreSizes (pairs p.q.now) part p.arriving p.row.now.items [] p.room.now.chosen.items ns) zs u.sizes))).0
    (λ l. same-tells part p r (back-walk p r (popped c n z a b e v f g j m zs zv ss)) ss _ _
    ((λ k. take (sym ss.level k) (a k)) ∙ take-front r.level r.room.now.chosen.items (c ∷ []) l) (u.seen (omega (arith, l, ss.level, x, s))))

pub back-size : (part : PartPlan) (p r : Probe) → WentBack p r → IsPlaced part p → r.over ≡ false → r.size ≡ box_size (dims_now part r)
back-size part p r (ended a b c d e f g h m zs ss) u o = absurd (let x : true ≡ false = sym e ∙ o in cc)
back-size part p r (popped c n z a b e v f g j m zs zv ss) u o =
    zv ∙ (sizes-pop (pairs p.q.now) part p.arriving p.row.now.items [] r.room.now.chosen.items r.room.now.sizes.items c z
    (subst (λ cs. AreSizes (pairs p.q.now) part p.arriving p.row.now.items [] cs (r.room.now.sizes.items ++ z ∷ [])) a (subst (λ ns. AreSizes (pairs p.q.now) part p.arriving p.row.now.items [] p.room.now.chosen.items ns) zs u.sizes))).1
    ∙ ap box_size (same-dims part p r (back-walk p r (popped c n z a b e v f g j m zs zv ss)) r.room.now.chosen.items)

pub back-shorter : (part : PartPlan) (p r : Probe) → WentBack p r → IsPlaced part p → r.over ≡ false → length r.room.now.chosen.items < length part.streams.items
back-shorter part p r (ended a b c d e f g h m zs ss) u o = absurd (let x : true ≡ false = sym e ∙ o in cc)
back-shorter part p r (popped c n z a b e v f g j m zs zv ss) u o =
    let x = ap length a in
    let s = length-append r.room.now.chosen.items (c ∷ []) in
    omega (arith, x, s, u.few)

-- a probe that knows its level
pub placed-underway : (part : PartPlan) (r : Probe) → IsPlaced part r
    → (r.over ≡ false → length r.room.now.chosen.items < length part.streams.items → r.size ≡ box_size (dims_now part r))
    → (r.over ≡ false → length r.room.now.chosen.items < length part.streams.items → r.next < r.size → r.level ≡ length r.room.now.chosen.items) → IsUnderway part r
placed-underway part r h size level =
    let tells : r.level ≡ length r.room.now.chosen.items → TellsOf part r r.room.now.chosen.items
    = λ e. subst (λ cs. TellsOf part r cs) (take-whole r.level r.room.now.chosen.items e) (h.seen (omega (arith, e))) in
    record { placed = h; size = size; dims = λ a b c. (tells (level a b c)).0; line = λ a b c. (tells (level a b c)).1; level = level }

module _ (part : PartPlan) (r s : Probe) (o : HasOpened part r s) where
  opened-walk : IsSameWalk r s
  opened-walk = record { arriving = o.arriving; row = o.row; query = o.query; prepared = o.prepared }

  opened-dims : dims_now part r ≡ dims_now part s
  opened-dims = same-dims part r s opened-walk r.room.now.chosen.items ∙ ap (narrowed_dims (pairs s.q.now) part s.arriving s.row.now.items) (sym o.chosen)

  pub opened-underway : IsPlaced part r → IsUnderway part s
  opened-underway h =
      let x = ap length o.chosen in
      let y = ap length o.numbers in
      let level : s.level ≡ length s.room.now.chosen.items = o.level ∙ sym x in
      placed-underway part s
      (same-placed part r s opened-walk h.here h.prepared (omega (arith, x, y, h.same)) (omega (arith, x, h.few)) (subst (λ cs. AreLight r.arriving 0 cs) (sym o.chosen) h.light)
      (subst (λ cs. AreSizes (pairs r.q.now) part r.arriving r.row.now.items [] cs s.room.now.sizes.items) (sym o.chosen) (subst (λ ns. AreSizes (pairs r.q.now) part r.arriving r.row.now.items [] r.room.now.chosen.items ns) (sym o.sizes) h.sizes))
      (λ l. subst (λ cs. TellsOf part s cs) (sym (take-whole s.level s.room.now.chosen.items level)) (
        o.dims ∙ opened-dims,
        subst (λ ds. StandOn part s.arriving (length s.room.now.chosen.items) ds s.room.now.line) opened-dims
            (subst (λ n. StandOn part n (length s.room.now.chosen.items) (dims_now part r) s.room.now.line) (sym o.arriving)
            (subst (λ n. StandOn part r.arriving n (dims_now part r) s.room.now.line) (sym x) o.line)),
      )))
      (λ a b. o.size ∙ ap box_size opened-dims)
      (λ a b c. level)

  pub opened-left : (sel : List Attr) (read : Reading) → left_of sel part read s ≡ left_of sel part read r
  opened-left sel read = λ k. left (setting (pairs (o.query k).now) sel part (o.arriving k) (o.row k).now.items read) (o.chosen k) (o.numbers k) (o.next k) (o.over k)

  pub opened-cost : (rates : ℕ → Rates) → cost_left (rates s.arriving) (length part.streams.items) s.room.now.numbers.items s.next s.over ≡ cost_left (rates r.arriving) (length part.streams.items) r.room.now.numbers.items r.next r.over
  opened-cost rates = λ k. cost_left (rates (o.arriving k)) (length part.streams.items) (o.numbers k) (o.next k) (o.over k)

-- one level more
pub enter-placed : (part : PartPlan) (p r : Probe) (c : Binding) (n z : ℕ) → IsSameWalk p r → IsSameSight p r → p.level ≢ length p.room.now.chosen.items + 1 → IsPlaced part p → z ≡ box_size (dims_now part p) → r.room.now.chosen.items ≡ p.room.now.chosen.items ++ c ∷ [] → r.room.now.numbers.items ≡ p.room.now.numbers.items ++ n ∷ []
    → r.room.now.sizes.items ≡ p.room.now.sizes.items ++ z ∷ [] → length p.room.now.chosen.items < length part.streams.items → rows_in c.cell ≤ limit p.arriving (length p.room.now.chosen.items) → IsPlaced part r
enter-placed part p r c n size walk sight apart u e a b zs l h =
    let x = ap length a in
    let y = ap length b in
    let s = length-append p.room.now.chosen.items (c ∷ []) in
    let t = length-append p.room.now.numbers.items (n ∷ []) in
    let z : length p.room.now.chosen.items ≡ 0 + length p.room.now.chosen.items = omega arith in
    same-placed part p r walk u.here u.prepared (omega (arith, x, y, s, t, u.same)) (omega (arith, x, s, l))
    (subst (λ cs. AreLight p.arriving 0 cs) (sym a) (light-more p.arriving 0 p.room.now.chosen.items c u.light (subst (λ m. rows_in c.cell ≤ limit p.arriving m) z h)))
    (subst (λ cs. AreSizes (pairs p.q.now) part p.arriving p.row.now.items [] cs r.room.now.sizes.items) (sym a)
    (subst (λ ns. AreSizes (pairs p.q.now) part p.arriving p.row.now.items [] (p.room.now.chosen.items ++ c ∷ []) ns) (sym zs)
    (sizes-push (pairs p.q.now) part p.arriving p.row.now.items [] p.room.now.chosen.items p.room.now.sizes.items c size u.sizes e)))
    (λ m. let few : p.level ≤ length p.room.now.chosen.items = level-before p.level (length p.room.now.chosen.items) apart (omega (arith, m, sight.level, x, s)) in
    same-tells part p r walk sight _ _ (sym (take-front p.level p.room.now.chosen.items (c ∷ []) few) ∙ (λ k. take (sym sight.level k) (sym a k))) (u.seen few))
  where
    level-before : (m n : ℕ) → m ≢ n + 1 → m ≤ n + 1 → m ≤ n
    level-before m n a l = grind arith

-- at the start of a walk
pub start-placed : (q : QueryValue) (part : PartPlan) (p : Probe) → p.arriving < length part.streams.items → p.room.now.chosen.items ≡ [] → p.room.now.numbers.items ≡ [] → p.room.now.sizes.items ≡ []
    → (pairs p.q.now) ≡ pairs q → IsPrepared (pairs q) part p.prepared.now → 0 < p.level → IsPlaced part p
start-placed q part p here a b d e h some = record {
  here = here;
  same = ap length a ∙ sym (ap length b);
  few = (let z = ap length a in omega (arith, z));
  light = subst (λ cs. AreLight p.arriving 0 cs) (sym a) tt;
  prepared = subst (λ xs. IsPrepared xs part p.prepared.now) (sym e) h;
  sizes = subst (λ cs. AreSizes (pairs p.q.now) part p.arriving p.row.now.items [] cs p.room.now.sizes.items) (sym a) (subst (λ ns. AreSizes (pairs p.q.now) part p.arriving p.row.now.items [] [] ns) (sym d) tt);
  seen = (λ l. let z = ap length a in absurd (omega (arith, l, z, some)));
}

-- the arriving row's own level has no dims
pub own-dims : (ps : List Pair) (part : PartPlan) (a : ℕ) (row : List ℤ) (known : List Binding) → length known ≡ a → narrowed_dims ps part a row known ≡ []
unfolding narrowed_dims dims_in
own-dims ps part a row known e =
    let t : (length known == a) ≡ true = grind (arith, nat_tests) in
    ap (λ b. map (narrow a (length known) part.equal.items part.less.items (value_in ps part a row known)) (if b then [] else dims_at part (length known))) t

-- a walk with the same choices sees the same at its level
pub opened-from : (part : PartPlan) (p r s : Probe) → IsSameWalk p r → r.room.now.chosen.items ≡ p.room.now.chosen.items → r.room.now.numbers.items ≡ p.room.now.numbers.items
    → r.room.now.sizes.items ≡ p.room.now.sizes.items → r.next ≡ p.next → r.over ≡ p.over → HasOpened part r s → HasOpened part p s
opened-from part p r s walk chosen numbers sizes next over h =
    let known = r.room.now.chosen.items in
    let ds : dims_now part r ≡ dims_now part p = sym (same-dims part p r walk known) ∙ ap (narrowed_dims (pairs p.q.now) part p.arriving p.row.now.items) chosen in
    record {
      dims = h.dims ∙ ds;
      size = h.size ∙ ap box_size ds;
      line =
          subst (λ ks. StandOn part p.arriving (length ks) (dims_now part p) s.room.now.line) chosen
          (subst (λ xs. StandOn part p.arriving (length known) xs s.room.now.line) ds
          (subst (λ m. StandOn part m (length known) (dims_now part r) s.room.now.line) walk.arriving h.line));
      level = h.level ∙ ap length chosen;
      chosen = h.chosen ∙ chosen;
      numbers = h.numbers ∙ numbers;
      sizes = h.sizes ∙ sizes;
      next = h.next ∙ next;
      over = h.over ∙ over;
      arriving = h.arriving ∙ walk.arriving;
      row = h.row ∙ walk.row;
      query = h.query ∙ walk.query;
      prepared = h.prepared ∙ walk.prepared;
    }
