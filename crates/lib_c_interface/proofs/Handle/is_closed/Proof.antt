-- `is_closed` compares the pointer of a handle with null.
use mathlib.Core.Path.{refl, sym}
use mathlib.Core.List.{List, [], ◌∷◌}
use lib.Dec.{T, lit<}
use base.Fraction.{full_share}
use mir.Syntax.{named}
use mir.Val.{Val, vbool, has_ty, WT}
use base.Fml.{ftrue, flft}
use types.Kit.{‵, ◌⊛◌, ◌$◌, ◌∵◌, !, qed, done, move, keep, split, join, fsplit3, feq_i, rewrite, suffices, frame, group}
use types.Part.{whole, sub, look_in}
use types.Run.{stop, fld, load, of_opd, bin, lit, returns, enter}
use types.ByLocal.{alloc_all, pass_all, free_all, look_at, get, through, sets, is}
use contract.Running.{tables}
use denote.Memory.{cell_at}
use denote.RawPtr.{Ptr, block_ptr, null_ptr, ptr_val, tests_null}
use denote.Ref.{MutRef, mut_vals, mut_Tells}
use denote.Signature.{plain}
use denote.Steps.{nothing, opens, closes}
use denote.Triple.Walked.{Stays, walk_of, stay_ref, Goes-ref, ends_at}
use Rattle.std.proofs.mem.Facts.{says_two}
use Rattle.std.proofs.raw_atomic.Walks.{proved}
use Rattle.std.specs.Option.{is_none}
use Rattle.lib_c_interface.proofs.Handles.{H, tells_null}
use Rattle.lib_c_interface.specs.contracts.Handle.is_closed as f
use Rattle.lib_c_interface.proofs.Handle.is_closed.Statement.{statement}
use Rattle.lib_c_interface.proofs.Handle.is_closed.Code as code

abbrev stayed : Stays f.ended.signature.params f.ended.kept
stayed = (stay_ref (0 ∷ []) tt (plain (λ _. H)), tt)

ptr_typed : (s : Ptr) → T (has_ty mir.Syntax.ty_ptr (ptr_val s)) × WT (ptr_val s)
ptr_typed (block_ptr b o) = (tt, tt)
ptr_typed null_ptr = (tt, record { fits = lit< tt })

pub is_closed_spec : {M : Type 1} → statement M
is_closed_spec 𝓤 𝓛 𝓜 𝓡 wired =
    let c = f.clauses 𝓛 𝓜.mem 𝓡.returns in let W = walk_of 𝓛 f.ended stayed c in let 𝓣 = tables 𝓤 𝓛.H 𝓜 𝓡 𝓡.env in
    proved 𝓛 f.ended stayed c 𝓜 𝓡 (Goes-ref 𝓛 1 0 tt (plain (λ _. H)), tt)
    f.Key.name code.function (code.unfolded 𝓤 𝓛.H 𝓜 𝓡 wired)
    (λ κs. (mut_vals, tt)) (λ κs. (mut_Tells (named 0) κs.0 H, tt)) (λ κs qs bounds a _ are.
    let b = a.0.ref_ptr.0 in let o = a.0.ref_ptr.1 in let h = a.0.now in let vs = mut_vals a.0 in
    let y : W.Ghost = ((κs, qs, bounds, a, (vs, tt)), tt) in let r = is_none h.value in
    qed 𝓛 (((‵ (flft κs.0 qs.0) ⊛ ‵ ftrue) ⊛ ‵ ((MutRef (named 0) κs.0 H).own_val a.0 vs) ⊛ ‵ ftrue) ∷ ‵ ftrue ∷ []) ∵
    split ! $ split ! $ move ! (2 ∷ []) $ split ! $ keep ! (0 ∷ 2 ∷ []) $
    enter ! 𝓣.C 𝓣.Λ code.function vs (W.post y) $ alloc_all ! (λ l. pass_all ! refl ((tt, tt), tt) $
    fsplit3 ! $ move ! (1 ∷ 2 ∷ 3 ∷ []) $ opens ! tt H b o (λ us. move ! (1 ∷ []) $
    tells_null ! h us (λ may same eu.
    let Cell = λ (ws : List Val). ‵ (cell_at full_share H.mir ws b o) in
    rewrite ! 1 Cell eu refl $
    -- [the handle; its cell; the open borrow, in three entries]
    sets ! (of_opd ! (load ! (through ! refl (fld ! refl (stop !))) (look_in ! 1 (sub ! 0 refl (whole !))))) refl (ptr_typed h.at) $
    sets ! (is ! (bin ! (get ! refl) (lit ! tt) (tests_null h.at may)) same) refl (tt, tt) $
    rewrite ! 1 Cell (sym eu) refl $ move ! (1 ∷ 0 ∷ []) $ closes ! tt H h us b o $
    returns ! (look_at ! 0 refl) $ free_all ! refl $ move ! (3 ∷ []) $
    suffices ! _ (ends_at 𝓛 f.ended stayed c y (vbool r) r (h, tt) (tt, tt)) $ says_two ! (refl, refl) $
    group ! 3 $ nothing ! $ move ! (1 ∷ 0 ∷ []) $ join ! $ nothing ! $ move ! (2 ∷ 0 ∷ []) $ join ! $ frame ! $ frame ! $
    feq_i ! _ (vbool r ∷ []) _ refl $ done !))))
