-- The live queries after one was taken among them, or out of them.
use Rattle.std.proofs.Common.{◌≡◌, ◌≢◌, ℕ, ◌+◌, ◌<◌, ◌≤◌, inl, inr, List, [], ◌∷◌, ◌++◌, length, refl, sym, ap, ◌∙◌, subst, arith, slice_index_or, length-append}
use Rattle.std.specs.List.{remove}
use Rattle.std.proofs.lemmas.Bool.{cases_lt}
use Rattle.std.proofs.lemmas.List.{get_or_append_left}
use Rattle.std.proofs.Math.Seq.{get_or-append_seam}
use Rattle.std.proofs.lemmas.List.Sums.{sum_by-append, sum_by-cons, sum_by-remove}
use Rattle.std.proofs.lemmas.List.Edits.{get_or-remove_below, get_or-remove_above, length-remove}
use Rattle.exec_pool.specs.declared.pool.Extent.{Extent}
use Rattle.exec_pool.specs.Extents.{PoolValue, IsTaken, IsGivenBack}
use Rattle.exec_pool.proofs.CallerLemmas.{slot_apart, live_beside_taken, live_beside_back, live_taken, live_extents_taken, live_extents_back, slots_taken, slots_back}
use Rattle.exec_query.specs.Executor as executor
use Rattle.exec_query.specs.Standing.{AreKept, KeepsWithin}
use Rattle.exec_registry.specs.Live.{Live}
use Rattle.exec_registry.specs.Registry.{IsSound}
use Rattle.exec_registry.specs.Admitted.{AreSame, AreBeside, IsDropped}
use Rattle.exec_registry.proofs.Beside.{kept_beside, within_beside}
use Rattle.exec_registry.proofs.InTurn.{slots_apart}

-- an element before the last one, or the last one
at_end : (P : Live → Type 0) (live : List Live) (l c : Live) (k : ℕ) → k < length live + 1 → (k < length live → P (slice_index_or live k c)) → P l → P (slice_index_or (live ++ l ∷ []) k c)
at_end P live l c k within old new = elim (cases_lt k (length live)) [
  | inl less ↦ subst P (sym (get_or_append_left live (l ∷ []) c k less)) (old less)
  | inr past ↦ (let same : k ≡ length live = omega (arith, past, within) in subst P (sym (ap (λ j. slice_index_or (live ++ l ∷ []) j c) same ∙ get_or-append_seam live l [] c)) new)
]

-- the pages of the others are beside pages that were taken
pub beside_taken : (p q : PoolValue) (n : ℕ) (e : Extent) (live : List Live) → IsSound p live → IsTaken p n q e → AreBeside live p q
beside_taken p q n e live s t = record { each = λ i l a. let b = live_beside_taken p q n e (slice_index_or live i l).executor.extent t (s.kept i l a).live in record { live = b.0; cells = b.1 } }

pub added : (p q : PoolValue) (n : ℕ) (e : Extent) (live : List Live) (l : Live) → IsSound p live → length live < 64 → IsTaken p n q e → l.executor.extent ≡ e → executor.IsSound l.executor → KeepsWithin l.executor q → AreKept l.executor q → IsSound q (live ++ l ∷ [])
added p q n e live l s room t extent own within kept =
    let size : length (live ++ l ∷ []) ≡ length live + 1 = length-append live (l ∷ []) in
    let b = beside_taken p q n e live s t in
    let far : (k : ℕ) (c : Live) → k < length live → (slice_index_or live k c).executor.extent.slot ≢ l.executor.extent.slot
    = λ k c a. subst (λ (x : Extent). (slice_index_or live k c).executor.extent.slot ≢ x.slot) (sym extent) (slot_apart p q n e (slice_index_or live k c).executor.extent t (s.kept k c a).live) in
    record {
      few = omega (arith, size, room);
      slots = slots_taken p q n e t ∙ s.slots;
      count = live_extents_taken p q n e t ∙ ap (λ k. k + 1) s.count ∙ sym size;
      free =
          (let pages : l.executor.extent.pages ≡ n = ap (λ (x : Extent). x.pages) extent ∙ t.pages in
          let sums = sum_by-append (λ (x : Live). x.executor.extent.pages) live (l ∷ []) in
          let one = sum_by-cons (λ (x : Live). x.executor.extent.pages) l [] in
          omega (arith, pages, sums, one, t.free, t.all, s.free));
      sound = λ k c a. at_end (λ (x : Live). executor.IsSound x.executor) live l c k (omega (arith, a, size)) (λ less. s.sound k c less) own;
      within = λ k c a. at_end (λ (x : Live). KeepsWithin x.executor q) live l c k (omega (arith, a, size)) (λ less. within_beside (slice_index_or live k c).executor p q (b.each k c less) (s.within k c less)) within;
      kept = λ k c a. at_end (λ (x : Live). AreKept x.executor q) live l c k (omega (arith, a, size)) (λ less. kept_beside (slice_index_or live k c).executor p q (b.each k c less) (s.kept k c less)) kept;
      apart = λ i j c a d.
          (let there : i < length live = omega (arith, a, d, size) in
          at_end (λ (x : Live). (slice_index_or (live ++ l ∷ []) i c).executor.extent.slot ≢ x.executor.extent.slot) live l c j (omega (arith, d, size))
          (λ less. subst (λ (x : Live). x.executor.extent.slot ≢ (slice_index_or live j c).executor.extent.slot) (sym (get_or_append_left live (l ∷ []) c i there)) (s.apart i j c a less))
          (subst (λ (x : Live). x.executor.extent.slot ≢ l.executor.extent.slot) (sym (get_or_append_left live (l ∷ []) c i there)) (far i c there)));
    }

-- pages that were taken and given back leave all as it was
pub returned : (p q o : PoolValue) (n : ℕ) (e : Extent) (live : List Live) → IsSound p live → IsTaken p n q e → IsGivenBack q e o → IsSound o live × AreBeside live p o × (o.free ≡ p.free) × (o.pages ≡ p.pages)
returned p q o n e live s t g =
    let b = beside_taken p q n e live s t in
    let both : (i : ℕ) (l : Live) → i < length live → AreSame (slice_index_or live i l).executor.extent p o
    = λ i l a. (let near = b.each i l a in
    let back = live_beside_back q o e (slice_index_or live i l).executor.extent g near.live (slot_apart p q n e (slice_index_or live i l).executor.extent t (s.kept i l a).live) in
    record { live = back.0; cells = back.1 ∙ near.cells }) in
    let free : o.free ≡ p.free = omega (arith, t.free, t.pages, g.free) in (
      record {
        few = s.few;
        slots = slots_back q o e g ∙ slots_taken p q n e t ∙ s.slots;
        count = (let x = live_extents_back q o e g (live_taken p q n e t) in let y = live_extents_taken p q n e t in omega (arith, x, y, s.count));
        free = omega (arith, free, g.all, t.all, s.free);
        sound = s.sound;
        within = λ k c a. within_beside (slice_index_or live k c).executor p o (both k c a) (s.within k c a);
        kept = λ k c a. kept_beside (slice_index_or live k c).executor p o (both k c a) (s.kept k c a);
        apart = s.apart;
      },
      record { each = both },
      free,
      g.all ∙ t.all,
    )

-- where an element stood that is left
stood : (P : Live → Type 0) (live : List Live) (i k : ℕ) (c : Live) → i < length live → (k < i → P (slice_index_or live k c)) → (i ≤ k → P (slice_index_or live (k + 1) c)) → P (slice_index_or (remove live i) k c)
stood P live i k c within below above = elim (cases_lt k i) [
  | inl less ↦ subst P (sym (get_or-remove_below live i c k less within)) (below less)
  | inr past ↦ subst P (sym (get_or-remove_above live i c k past within)) (above past)
]

pub dropped : (p q : PoolValue) (i : ℕ) (live : List Live) (d : Live) → IsSound p live → i < length live → IsGivenBack p (slice_index_or live i d).executor.extent q → IsDropped i p live q (remove live i)
dropped p q i live d s within g =
    let e : Extent = (slice_index_or live i d).executor.extent in
    let size : length (remove live i) + 1 ≡ length live = length-remove live i within in
    let near : (k : ℕ) (c : Live) → k < length live → k ≢ i → AreSame (slice_index_or live k c).executor.extent p q
    = λ k c a ne. (let back = live_beside_back p q e (slice_index_or live k c).executor.extent g (s.kept k c a).live (slots_apart live s.apart k i c d a within ne) in record { live = back.0; cells = back.1 }) in
    record {
      sound = record {
        few = omega (arith, size, s.few);
        slots = slots_back p q e g ∙ s.slots;
        count = (let x = live_extents_back p q e g (s.kept i d within).live in omega (arith, x, s.count, size));
        free = (let x = sum_by-remove (λ (l : Live). l.executor.extent.pages) live i d within in omega (arith, x, g.free, g.all, s.free));
        sound = λ k c a. stood (λ (l : Live). executor.IsSound l.executor) live i k c within (λ less. s.sound k c (omega (arith, less, within))) (λ past. s.sound (k + 1) c (omega (arith, a, size)));
        within = λ k c a. stood (λ (l : Live). KeepsWithin l.executor q) live i k c within
            (λ less. within_beside (slice_index_or live k c).executor p q (near k c (omega (arith, less, within)) (λ z. omega (arith, less, z))) (s.within k c (omega (arith, less, within))))
            (λ past. within_beside (slice_index_or live (k + 1) c).executor p q (near (k + 1) c (omega (arith, a, size)) (λ z. omega (arith, past, z))) (s.within (k + 1) c (omega (arith, a, size))));
        kept = λ k c a. stood (λ (l : Live). AreKept l.executor q) live i k c within
            (λ less. kept_beside (slice_index_or live k c).executor p q (near k c (omega (arith, less, within)) (λ z. omega (arith, less, z))) (s.kept k c (omega (arith, less, within))))
            (λ past. kept_beside (slice_index_or live (k + 1) c).executor p q (near (k + 1) c (omega (arith, a, size)) (λ z. omega (arith, past, z))) (s.kept (k + 1) c (omega (arith, a, size))));
        apart = λ j k c a b. stood (λ (l : Live). l.executor.extent.slot ≢ (slice_index_or (remove live i) k c).executor.extent.slot) live i j c within
            (λ less. stood (λ (l : Live). (slice_index_or live j c).executor.extent.slot ≢ l.executor.extent.slot) live i k c within
            (λ lower. s.apart j k c a (omega (arith, lower, within))) (λ past. s.apart j (k + 1) c (omega arith) (omega (arith, b, size))))
            (λ past. stood (λ (l : Live). (slice_index_or live (j + 1) c).executor.extent.slot ≢ l.executor.extent.slot) live i k c within
            (λ lower. absurd (omega (arith, lower, past, a))) (λ above. s.apart (j + 1) (k + 1) c (omega arith) (omega (arith, b, size))));
      };
      left = refl;
      beside = record {
        each = λ k c a. stood (λ (l : Live). AreSame l.executor.extent p q) live i k c within
            (λ less. near k c (omega (arith, less, within)) (λ z. omega (arith, less, z)))
            (λ past. near (k + 1) c (omega (arith, a, size)) (λ z. omega (arith, past, z)));
      };
      pages = g.all;
    }
