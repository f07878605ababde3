-- One live query alone is written.
use Rattle.std.proofs.Common.{◌≡◌, ℕ, suc, ◌<◌, List, [], sym, length, subst, arith, slice_index_or}
use Rattle.std.specs.Prelude.{⊤}
use Rattle.std.specs.List.{flat_map}
use Rattle.std.specs.declared.result.Result.{Result}
use Rattle.std.specs.declared.result.Result.TheVariants.{Ok}
use Rattle.io_streams.specs.Sink.{SinkState, Writes}
use Rattle.exec_answer_lines.specs.Gathering.{Gathered, Gathers}
use Rattle.exec_answer_lines.proofs.Gathering.{gathered_none}
use Rattle.exec_registry.specs.Live.{Live}
use Rattle.exec_registry.specs.Registry.{waiting_text}
use Rattle.exec_registry.proofs.BitsLeft.{IsOnlyBit}
use Rattle.exec_registry.specs.Waiting.{AreQuiet}
use Rattle.exec_registry.specs.Written.{WroteAt, WroteFirst}
use Rattle.exec_registry.proofs.Quiet.{wrote_skip, wrote_rest, text_skip, text_all}
use Rattle.exec_registry.proofs.InWriting.{wrote_none, wrote_more, gathered_next, gathered_none_left}

module _ (word place : ℕ) (before : List Live) (quiet : AreQuiet word before) (only : IsOnlyBit word place) where
  within : place < length before
  within = quiet.only place only.own

  -- its text is that of all
  pub only_text : {E : Type 0} (result : Result ⊤ E) (d : Live) (a b : SinkState) (now : List ℕ) → now ≡ [] → Gathers result a b [] now (waiting_text (slice_index_or before place d)) → Writes result a b (flat_map waiting_text before)
  only_text result d a b now empty w =
      let none = sym (text_skip 0 place before (omega arith) (λ i l x y z. quiet.quiet i l z (only.others i (λ e. omega (arith, e, y))))) in
      let so = subst (λ (t : List ℕ). Gathered a a [] [] t) none (gathered_none a) in
      gathered_none_left result a b now _ _ empty (text_all (suc place) before (λ i l x y. quiet.quiet i l y (only.others i (λ e. omega (arith, e, x)))))
      (gathered_next (Ok tt) result before place d a a b [] now within so w)

  -- nothing waits of any
  pub only_wrote : (after : List Live) → WroteAt place before after → WroteFirst (length before) before after
  only_wrote after w =
      let at = wrote_skip 0 place before before (wrote_none before) (λ i l x y z. quiet.quiet i l z (only.others i (λ e. omega (arith, e, y)))) (omega arith) in
      wrote_rest (suc place) before after
      (subst (λ (ls : List Live). WroteFirst (suc place) before ls) (sym w.set) (wrote_more place before before w.live w.live at within (w.wrote w.live)))
      (λ i l x y. quiet.quiet i l y (only.others i (λ e. omega (arith, e, x))))
