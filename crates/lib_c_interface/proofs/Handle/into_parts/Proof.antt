-- `into_parts` moves the pointer, and what the handle owns goes with it.
use mathlib.Core.Path.{◌≡◌, refl, sym, subst}
use mathlib.Core.Bool.{false}
use mathlib.Core.List.{List, [], ◌∷◌, ◌++◌}
use seplogic.Ra.Ura.{Ura}
use mir.Val.{Val}
use base.Logic.{SProp, ent, id⊢}
use base.Fml.{ftrue, fsep}
use prog.Memory.{Memory}
use prog.Routine.{Routine}
use prog.Wp.{WpFn, Tables}
use types.Logic.{Logic}
use contract.Monad.{Fun, fact}
use contract.Running.{tables, tables_of}
use sound.WpLaws.{WpFn-mono}
use types.Kit.{Item, ‵, raw, ◌⊛◌, ◌$◌, ◌∵◌, !, qed, by, move, keep, drop, use1, join, split, fsplit, fjoin, rewrite, suffices, done}
use types.Part.{whole, sub, agg}
use types.Run.{stop, fld, no_more, and_then, of_opd, returns, enter}
use types.ByLocal.{alloc_all, pass_all, free_all, look_at, get, get_in, sets}
use denote.Exit.{yes}
use denote.RawPtr.{block_ptr}
use denote.Signature.{plain, type_at}
use denote.Steps.{nothing, heard}
use denote.Triple.Spec.{triple_of}
use denote.Triple.Table.{entered}
use denote.Triple.Walked.{says, Stays, stay_dropped, walk_of, ends_at, Goes-dropped, walk_Meets}
use Rattle.std.specs.Option.{is_none}
use Rattle.std.specs.declared.option.Option.{Option}
use Rattle.std.specs.Box.Ownership.{box_owns}
use Rattle.std.proofs.alloc.Calls.{handle_tells}
use Rattle.std.proofs.BoxSteps.Form.{D, P, box_typed}
use Rattle.std.proofs.BoxSteps.Form as box
use Rattle.std.proofs.BoxSteps.Steps.{box_in}
use Rattle.std.specs.contracts.alloc.Global as Heap
use Rattle.lib_c_interface.specs.Owning.{may_free}
use Rattle.lib_c_interface.proofs.Handles.{E, X, H, word, word_typed, handle_out, some_at}
use Rattle.lib_c_interface.specs.contracts.Handle.into_parts as F
use Rattle.lib_c_interface.specs.contracts.Handle.into_parts.Key.{name as #self}
use Rattle.lib_c_interface.proofs.Handle.into_parts.Statement as stated
use Rattle.lib_c_interface.proofs.Handle.into_parts.Code as code

abbrev stayed : Stays (F.ended).signature.params (F.ended).kept
stayed = (stay_dropped (plain (λ _. H)) yes, (stay_dropped (plain (λ _. Heap.the_row)) yes, tt))

module _ {M : Type 1} {𝓤 : Ura M} (𝓛 : Logic 𝓤) (at_mem : Memory → SProp 𝓤) (run : Routine → Fun 𝓤) (𝓣 : Tables 𝓤 𝓛.H) where
  walk : (z : (walk_of 𝓛 F.ended stayed (F.clauses 𝓛 at_mem run)).Ghost)
      → ent 𝓤 ((walk_of 𝓛 F.ended stayed (F.clauses 𝓛 at_mem run)).pre z) (WpFn 𝓤 𝓛.H 𝓣.C 𝓣.Λ code.function (z.0.4.0 ++ (z.0.4.1.0 ++ [])) ((walk_of 𝓛 F.ended stayed (F.clauses 𝓛 at_mem run)).post z))
  walk z =
      let Post = (walk_of 𝓛 F.ended stayed (F.clauses 𝓛 at_mem run)).post z in
      let h = z.0.3.0 in let a = z.0.3.1.0 in let us = z.0.4.0 in let vs = z.0.4.1.0 in
      let To = type_at (F.signature).result tt in
      qed 𝓛 ((‵ ftrue ⊛ ‵ (fsep (H.own_val h us) (fsep (Heap.the_row.own_val a vs) ftrue))) ∷ raw (fact 𝓤 (is_none h.value ≡ false)) ∷ []) ∵
      move ! (1 ∷ []) $ heard ! (is_none h.value ≡ false) (λ there. split ! $ drop ! $ fsplit ! $ move ! (1 ∷ []) $ fsplit ! $ handle_tells E.al ! a vs (λ hv ea fa. move ! (2 ∷ []) $
      let x = (some_at h.value there).0 in let is = (some_at h.value there).1 in
      rewrite ! 0 (λ (o : Option X.Denot). ‵ (H.own_val (record { at = h.at; value = o }) us)) is refl $
      handle_out ! h.at x us (λ b o e eu. keep ! (0 ∷ 1 ∷ []) $
      let w = word b o in
      let v : D E = record { ptr = block_ptr b o; alloc = a; value = x } in
      let made : To.Denot = record { ptr = block_ptr b o; alloc = a; value = x } in
      let Γ : List (Item 𝓤) = ‵ (box_owns may_free X (block_ptr b o) x) ∷ ‵ ((P E).own_val a (hv ∷ [])) ∷ [] in
      by ! (subst (λ (ws : List Val). ent 𝓤 (types.Kit.⋆ 𝓛 Γ) (WpFn 𝓤 𝓛.H 𝓣.C 𝓣.Λ code.function (ws ++ (vs ++ [])) Post)) (sym eu)
      (subst (λ (ws : List Val). ent 𝓤 (types.Kit.⋆ 𝓛 Γ) (WpFn 𝓤 𝓛.H 𝓣.C 𝓣.Λ code.function (w ∷ (ws ++ [])) Post)) (sym ea)
      (qed 𝓛 Γ ∵ enter ! 𝓣.C 𝓣.Λ code.function (w ∷ hv ∷ []) _ $ alloc_all ! (λ ls. pass_all ! refl (word_typed b o, (fa, tt)) $
      sets ! (of_opd ! (get_in ! (fld ! refl (stop !)) (sub ! 0 refl (whole !)))) refl (tt, tt) $
      sets ! (agg ! (and_then ! (get ! refl) (and_then ! (get ! refl) (no_more !)))) refl (box_typed E hv b o fa) $ returns ! (look_at ! 0 refl) $ free_all ! refl $
      fsplit ! $ box_in E ! v b o x refl refl $ use1 𝓛 (‵ (To.own_val made (box.word E hv b o ∷ []))) (id⊢ 𝓤 _) $
      suffices ! _ (ends_at 𝓛 F.ended stayed (F.clauses 𝓛 at_mem run) z (box.word E hv b o) made (tt, (tt, tt)) (tt, (tt, tt))) $ says ! (sym is) $
      nothing ! $ nothing ! $ fjoin ! $ nothing ! $ fjoin ! $ join ! $ nothing ! $ join ! $ done !)))))))

pub into_parts_spec : {M : Type 1} → stated.statement M
unfolding tables_of
into_parts_spec 𝓤 𝓛 𝓜 𝓡 wired =
    let 𝓣 : Tables 𝓤 𝓛.H = tables_of 𝓤 𝓛.H 𝓜 (tables 𝓤 𝓛.H 𝓜 𝓡 𝓡.env) in
    entered 𝓤 𝓛.H (triple_of 𝓛 F.signature (F.spec 𝓛 𝓜.mem 𝓡.returns)) 𝓣.C 𝓣.Λ #self code.function (code.unfolded 𝓤 𝓛.H 𝓜 𝓡 wired)
    (walk_Meets 𝓛 F.ended stayed (Goes-dropped 𝓛 0 (plain (λ _. H)) yes (λ κs x f. refl), (Goes-dropped 𝓛 0 (plain (λ _. Heap.the_row)) yes (λ κs x f. refl), tt)) (F.clauses 𝓛 𝓜.mem 𝓡.returns) (WpFn 𝓤 𝓛.H 𝓣.C 𝓣.Λ code.function) (WpFn-mono 𝓤 𝓛.H 𝓛.laws 𝓣 code.function)
    (walk 𝓛 𝓜.mem 𝓡.returns 𝓣))
