-- `value` lends the session that the handle points to, and the handle follows it.
use mathlib.Core.Path.{◌≡◌, refl, sym}
use mathlib.Core.Bool.{false}
use Prim.Native.Nat.{ℕ}
use mathlib.Core.List.{List, [], ◌∷◌}
use seplogic.Ra.Ura.{Ura}
use base.Fraction.{full_share}
use mir.Syntax.{named}
use mir.Val.{Val, vptr}
use mir.Raw.{raw as bare}
use base.Logic.{ent, sep}
use base.Fml.{GName, Fml, ftrue, flft, fsep}
use prog.Wp.{Env}
use types.Logic.{Logic, sem}
use types.Kit.{‵, ◌⊛◌, some, at_ret, ◌$◌, ◌∵◌, !, qed, move, keep, use1, split, join, pick, fsplit, fsplit3, fjoin, rewrite, suffices, frame, done, raw, later, await, group, fpack}
use types.Part.{whole, sub, look_in}
use types.Run.{stop, fld, load, of_opd, first, blocks, exec, returns, enter, addr}
use types.ByLocal.{alloc_all, pass_all, free_all, look_at, get, through, sets, env, sets_last}
use contract.Monad.{fact}
use contract.Running.{tables}
use denote.Memory.{part_at, mem, cell_at, part_of, lone}
use denote.RawPtr.{Ptr, block_ptr}
use denote.Ref.{MutRef, mut_vals, mut_Tells}
use denote.Follow.{follows, Part, lends_Part}
use denote.Signature.{plain, mut_ref_to}
use denote.Exit.{no}
use denote.Steps.{nothing, heard, opens}
use denote.Triple.Walked.{says, Stays, stay_dropped, walk_of, ends_at, Goes-spent_ref}
use Rattle.std.proofs.raw_atomic.Walks.{proved}
use Rattle.std.proofs.VecSteps.Shapes.{after}
use Rattle.std.specs.Option.{is_none}
use Rattle.std.specs.declared.option.Option.{Option}
use Rattle.std.specs.declared.option.Option.TheVariants.{Some}
use Rattle.lib_c_interface.specs.Lending.{with_value}
use Rattle.lib_c_interface.specs.Owning.{may_free}
use Rattle.lib_c_interface.proofs.Handles.{X, H, word, handle_in, handle_out, some_at}
use Rattle.lib_c_interface.specs.contracts.Handle.value as f
use Rattle.lib_c_interface.proofs.Handle.value.Statement.{statement}
use Rattle.lib_c_interface.proofs.Handle.value.Code as code

abbrev stayed : Stays f.ended.signature.params f.ended.kept
stayed = (stay_dropped (mut_ref_to (0 ∷ []) tt (plain (λ _. H))) no, tt)

module _ {M : Type 1} {𝓤 : Ura M} (𝓛 : Logic 𝓤) (h : H.Denot) (x : X.Denot) (b o rb ro : ℕ) where
  -- all of the handle but its value
  abbrev Rest : Fml
  Rest = fsep (may_free (bare (lone X.mir)) (block_ptr b o)) (cell_at full_share H.mir (word b o ∷ []) rb ro)

  back : h.at ≡ block_ptr b o → (w : X.Denot) → ent 𝓤 (sep 𝓤 (sem 𝓛 ((mem X).own_at w b o)) (sem 𝓛 Rest)) (sem 𝓛 ((mem H).own_at (with_value h w) rb ro))
  unfolding part_of
  back at_b w =
      qed 𝓛 (‵ (part_at X full_share w b o) ∷ ‵ Rest ∷ []) ∵ move ! (1 ∷ []) $ fsplit ! $ move ! (2 ∷ 0 ∷ []) $ fjoin ! $ handle_in ! b o w $
      rewrite ! 0 (λ (p : Ptr). ‵ (H.own_val (record { at = p; value = Some w }) (word b o ∷ []))) (sym at_b) refl $ move ! (1 ∷ 0 ∷ []) $ fjoin ! $
      fpack ! (List Val) (λ us. fsep (cell_at full_share H.mir us rb ro) (H.own_val (with_value h w) us)) (word b o ∷ []) $ done !

pub value_spec : {M : Type 1} → statement M
value_spec 𝓤 𝓛 𝓜 𝓡 wired =
    let c = f.clauses 𝓛 𝓜.mem 𝓡.returns in let W = walk_of 𝓛 f.ended stayed c in let 𝓣 = tables 𝓤 𝓛.H 𝓜 𝓡 𝓡.env in
    proved 𝓛 f.ended stayed c 𝓜 𝓡 (Goes-spent_ref 𝓛 1 (0 ∷ []) tt (plain (λ _. H)), tt)
    f.Key.name code.function (code.unfolded 𝓤 𝓛.H 𝓜 𝓡 wired)
    (λ κs. (mut_vals, tt)) (λ κs. (mut_Tells (named 0) κs.0 H, tt)) (λ κs qs bounds a _ are.
    let κ = κs.0 in let q = qs.0 in let rb = a.0.ref_ptr.0 in let ro = a.0.ref_ptr.1 in let γ = a.0.ghost_name in let h = a.0.now in let vs = mut_vals a.0 in
    let y : W.Ghost = ((κs, qs, bounds, a, (vs, tt)), tt) in
    qed 𝓛 (((‵ (flft κ q) ⊛ ‵ ftrue) ⊛ ‵ ((MutRef (named 0) κ H).own_val a.0 vs) ⊛ ‵ ftrue) ∷ raw (fact 𝓤 (is_none h.value ≡ false)) ∷ []) ∵
    move ! (1 ∷ []) $ heard ! (is_none h.value ≡ false) (λ there.
    let x = (some_at h.value there).0 in let is = (some_at h.value there).1 in
    split ! $ split ! $ move ! (2 ∷ []) $ split ! $ keep ! (0 ∷ 2 ∷ []) $
    enter ! 𝓣.C 𝓣.Λ code.function vs (W.post y) $ alloc_all ! (λ l. pass_all ! refl ((tt, tt), tt) $
    let En : Env 𝓤 𝓛.H = env code.Mir.locals l in
    fsplit3 ! $ move ! (1 ∷ 2 ∷ 3 ∷ []) $ opens ! tt H rb ro (λ us. move ! (1 ∷ []) $
    rewrite ! 0 (λ (m : Option X.Denot). ‵ (H.own_val (record { at = h.at; value = m }) us)) is refl $
    handle_out ! h.at x us (λ b o e eu. fsplit ! $
    rewrite ! 2 (λ (ws : List Val). ‵ (cell_at full_share H.mir ws rb ro)) eu refl $
    -- [the session; its token; the handle's cell; the open borrow, in three entries]
    first ! $ blocks ! $
    sets ! (of_opd ! (load ! (through ! refl (fld ! refl (stop !))) (look_in ! 2 (sub ! 0 refl (whole !))))) refl (tt, tt) $
    sets_last ! (addr ! (through ! refl (stop !))) refl (tt, tt) $
    exec ! 𝓣.C 𝓣.Λ En (after 1 (code.function).body) (at_ret En (W.post y)) $
    sets ! (of_opd ! (get ! refl)) refl (tt, tt) $
    move ! (1 ∷ 2 ∷ []) $ fjoin ! $ move ! (2 ∷ 3 ∷ 4 ∷ 1 ∷ 0 ∷ []) $ group ! 5 $
    use1 𝓛 (later (some (λ (γ' : GName). raw (Part 𝓛 H X (with_value h) (named 0) κ q rb ro b o γ (sem 𝓛 (Rest 𝓛 h x b o rb ro)) (back 𝓛 h x b o rb ro e) x γ'))))
    (lends_Part 𝓛 H X (with_value h) (named 0) κ q rb ro b o γ (sem 𝓛 (Rest 𝓛 h x b o rb ro)) (back 𝓛 h x b o rb ro e) (H.coded.code h) (H.coded.code h) x) $ await ! tt $ pick ! (λ γ'.
    returns ! (look_at ! 0 refl) $ free_all ! refl $ keep ! (0 ∷ []) $
    use1 𝓛 (‵ ((MutRef (named 0) κ X).own_val (record { ref_ptr = (b, o); ghost_name = γ'; now = x }) (vptr b o ∷ [])) ⊛ ‵ (flft κ q) ⊛ ‵ (follows H X γ γ' (with_value h))) (base.Logic.id⊢ 𝓤 _) $ types.Kit.split3 ! $
    suffices ! _ (ends_at 𝓛 f.ended stayed c y (vptr b o) (record { ref_ptr = (b, o); ghost_name = γ'; now = x }) (tt, tt) (tt, tt)) $
    nothing ! $ nothing ! $ fjoin ! $ join ! $ nothing ! $ move ! (2 ∷ 0 ∷ []) $ join ! $ join ! $ frame ! $ says ! (sym is) $ done !))))))
