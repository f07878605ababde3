-- A handle, its parts and a box own the same. Assumes `Logic`.
--     E, B        the session as a boxed value, with `Global`
--     H, word     a handle's row, and its machine value at a block
--     some_at     what is not none
--     null_in, handle_in, handle_out     a handle by value: of no session, and of one
use mathlib.Core.Path.{◌≡◌, refl, sym, ap, subst, ◌∙◌}
use mathlib.Core.List.{List, [], ◌∷◌, ◌++◌}
use Prim.Native.Nat.{ℕ}
use lib.Dec.{T, lit<}
use seplogic.Ra.Ura.{Ura}
use mir.Syntax.{Ty, ptr_eq, impl, tnil, dnil}
use mir.Raw.{raw as bare}
use mir.Val.{Val, vptr, vnull, vbool, op2_val, vstruct, vcons, vnil, of_list, has_ty, WT}
use base.Logic.{SProp, ent, guard, guard_i, via, never, fst∗, snd∗}
use contract.Monad.{fact_use}
use Rattle.std.specs.Ptr.{points_to}
use types.Logic.{Logic, sem}
use types.Kit.{Item, Goal, Seq, Step, step, ‵, ◌$◌, drop, use1, given, learn, rewrite, fsplit, fjoin, fpick, fpack, feq_i, feq_l}
use denote.RattleType.{RattleType, Valss}
use denote.Builtin.{RawPtr}
use denote.Memory.{lone}
use denote.RawPtr.{Ptr, block_ptr, null_ptr, ptr_val, in_a_block, Testable}
use denote.Steps.{nothing}
use denote.Struct.Struct.{within}
use denote.Struct.Owning.{shape}
use Rattle.std.specs.Box.Ownership.{box_owns}
use Rattle.std.specs.Option.{is_none}
use Rattle.std.specs.declared.option.Option.{Option}
use Rattle.std.specs.declared.option.Option.TheVariants.{None, Some}
use Rattle.std.proofs.lemmas.Bool.{true≢false}
use mathlib.Core.Bool.{false}
use Rattle.std.proofs.BoxSteps.Form.{Bx}
use Rattle.std.specs.contracts.alloc.Global as Heap
use Rattle.std.specs.contracts.impls.GlobalAllocator.TheImpl.{ghosts, dict}
use Rattle.std.proofs.alloc.Global.TheLaws as heap_laws
use Rattle.std.proofs.GlobalToken.{dealloc_token-Testable}
use Rattle.lib_session.specs.contracts.embedded.Embedded as value
use Rattle.lib_session.proofs.embedded.Embedded.TheLaws as value-laws
use Rattle.lib_c_interface.specs.Owning.{heap, may_free}
use Rattle.lib_c_interface.specs.contracts.Handle as handle

abbrev pub E : Bx
E = record { row = value.the_row; laws = value-laws.the_row_laws; al = record { row = Heap.the_row; laws = heap_laws.the_row_laws; g = ghosts; d = dict; drops = impl [] tnil dnil } }

abbrev pub X : RattleType
X = value.the_row

abbrev pub H : RattleType
H = handle.the_row

pub some_at : {A : Type 0} (o : Option A) → is_none o ≡ false → (x : A) × (o ≡ Some x)
some_at (Some x) e = (x, refl)
some_at None e = absurd (true≢false e)

abbrev pub wrap : Val → Val
wrap v = vstruct (vcons v vnil)

abbrev pub word : ℕ → ℕ → Val
word b o = wrap (vptr b o)

abbrev pub no_word : Val
no_word = wrap vnull

pub word_typed : (b o : ℕ) → T (has_ty (lone H.mir) (word b o)) × WT (word b o)
word_typed b o = (tt, (tt, tt))

pub no_word_typed : T (has_ty (lone H.mir) no_word) × WT no_word
no_word_typed = (tt, (record { fits = lit< tt }, tt))

-- the pointer to a session may be compared with null
tested : {M : Type 1} {𝓤 : Ura M} (𝓛 : Logic 𝓤) (p : Ptr) (x : X.Denot)
    → ent 𝓤 (sem 𝓛 (box_owns may_free X p x)) (guard 𝓤 (Testable p) (sem 𝓛 (box_owns may_free X p x)))
tested {𝓤 = 𝓤} 𝓛 p x =
    let B : SProp 𝓤 = sem 𝓛 (box_owns may_free X p x) in let τ : Ty = bare (lone X.mir) in
    fact_use 𝓤 (Testable p) (via 𝓤 (sem 𝓛 (may_free τ p)) (snd∗ 𝓤 (sem 𝓛 (points_to X p x)) (sem 𝓛 (may_free τ p))) (dealloc_token-Testable 𝓛 heap τ p)) (guard_i 𝓤 (Testable p) B)

module _ {M : Type 1} {𝓤 : Ura M} {𝓛 : Logic 𝓤} {K : Type 0} {Γ : List (Item 𝓤)} {G : Goal 𝓤 𝓛.H} where
  pub null_in : K → Step K 𝓛 (‵ (H.own_val (record { at = null_ptr; value = None }) (no_word ∷ [])) ∷ Γ) G Γ G
  null_in t = step (λ s.
      feq_i t Ptr null_ptr null_ptr refl $ nothing t $ feq_i t (List Val) (vnull ∷ []) (vnull ∷ []) refl $ fjoin t $ feq_i t (List Val) (no_word ∷ []) (no_word ∷ []) refl $ fjoin t $
      fpack t (Valss (RawPtr ∷ [])) (within (shape handle.the_type) (null_ptr, tt) (no_word ∷ [])) (vnull ∷ [], tt) $ fjoin t $ s)

  pub handle_in : K → (b o : ℕ) (x : X.Denot)
      → Step K 𝓛 (‵ (H.own_val (record { at = block_ptr b o; value = Some x }) (word b o ∷ [])) ∷ Γ) G (‵ (box_owns may_free X (block_ptr b o) x) ∷ Γ) G
  handle_in t b o x = step (λ s.
      nothing t $ feq_i t (List Val) (vptr b o ∷ []) (vptr b o ∷ []) refl $ fjoin t $ feq_i t (List Val) (word b o ∷ []) (word b o ∷ []) refl $ fjoin t $
      fpack t (Valss (RawPtr ∷ [])) (within (shape handle.the_type) (block_ptr b o, tt) (word b o ∷ [])) (vptr b o ∷ [], tt) $ fjoin t $ s)

  pub handle_out : K → (p : Ptr) (x : X.Denot) (vs : List Val)
      → ((b o : ℕ) → p ≡ block_ptr b o → vs ≡ word b o ∷ [] → Seq K 𝓛 (‵ (box_owns may_free X (block_ptr b o) x) ∷ Γ) G)
      → Seq K 𝓛 (‵ (H.own_val (record { at = p; value = Some x }) vs) ∷ Γ) G
  handle_out t p x vs k =
      fsplit t $ fpick t (λ vss. fsplit t $ feq_l t (λ ev. fsplit t $ feq_l t (λ ep. drop t $
      in_a_block t p (λ q. box_owns may_free X q x) (fst∗ 𝓤 (never 𝓤) (sem 𝓛 (may_free (bare (lone X.mir)) null_ptr))) (λ b o e. k b o e
      (subst (λ (q : Ptr). vs ≡ wrap (ptr_val q) ∷ []) e (subst (λ (ps : List Val). vs ≡ vstruct (of_list (ps ++ [])) ∷ []) ep ev))))))

  pub null_out : K → (p : Ptr) (vs : List Val)
      → (p ≡ null_ptr → vs ≡ no_word ∷ [] → Seq K 𝓛 Γ G)
      → Seq K 𝓛 (‵ (H.own_val (record { at = p; value = None }) vs) ∷ Γ) G
  null_out t p vs k =
      fsplit t $ fpick t (λ vss. fsplit t $ feq_l t (λ ev. fsplit t $ feq_l t (λ ep. drop t $ feq_l t (λ e. k e
      (subst (λ (q : Ptr). vs ≡ wrap (ptr_val q) ∷ []) e (subst (λ (ps : List Val). vs ≡ vstruct (of_list (ps ++ [])) ∷ []) ep ev))))))

  -- the pointer may be compared with null, what that answers, and the machine value
  pub tells_null : K → (h : H.Denot) (vs : List Val)
      → (Testable h.at → op2_val ptr_eq (ptr_val h.at) vnull ≡ vbool (is_none h.value) → vs ≡ wrap (ptr_val h.at) ∷ [] → Seq K 𝓛 (‵ (H.own_val h vs) ∷ Γ) G)
      → Seq K 𝓛 (‵ (H.own_val h vs) ∷ Γ) G
  tells_null t h vs k = told h.value refl
    where
      told : (m : Option X.Denot) → h.value ≡ m → Seq K 𝓛 (‵ (H.own_val h vs) ∷ Γ) G
      told None e =
          rewrite t 0 (λ (m : Option X.Denot). ‵ (H.own_val (record { at = h.at; value = m }) vs)) e refl $ null_out t h.at vs (λ n ev. null_in t $
          rewrite t 0 (λ (p : Ptr). ‵ (H.own_val (record { at = p; value = None }) (wrap (ptr_val p) ∷ []))) (sym n) refl $
          rewrite t 0 (λ (m : Option X.Denot). ‵ (H.own_val (record { at = h.at; value = m }) (wrap (ptr_val h.at) ∷ []))) (sym e) refl $
          let word_is : vs ≡ wrap (ptr_val h.at) ∷ [] = ev ∙ ap (λ (p : Ptr). wrap (ptr_val p) ∷ []) (sym n) in
          rewrite t 0 (λ (ws : List Val). ‵ (H.own_val h ws)) (sym word_is) refl $
          k (subst Testable (sym n) (lit< tt)) (ap (λ (p : Ptr). op2_val ptr_eq (ptr_val p) vnull) n ∙ ap (λ (m : Option X.Denot). vbool (is_none m)) (sym e)) word_is)
      told (Some x) e =
          rewrite t 0 (λ (m : Option X.Denot). ‵ (H.own_val (record { at = h.at; value = m }) vs)) e refl $ handle_out t h.at x vs (λ b o n ev.
          use1 𝓛 (given (Testable (block_ptr b o)) (‵ (box_owns may_free X (block_ptr b o) x))) (tested 𝓛 (block_ptr b o) x) $ learn t (λ may. handle_in t b o x $
          rewrite t 0 (λ (p : Ptr). ‵ (H.own_val (record { at = p; value = Some x }) (wrap (ptr_val p) ∷ []))) (sym n) refl $
          rewrite t 0 (λ (m : Option X.Denot). ‵ (H.own_val (record { at = h.at; value = m }) (wrap (ptr_val h.at) ∷ []))) (sym e) refl $
          let word_is : vs ≡ wrap (ptr_val h.at) ∷ [] = ev ∙ ap (λ (p : Ptr). wrap (ptr_val p) ∷ []) (sym n) in
          rewrite t 0 (λ (ws : List Val). ‵ (H.own_val h ws)) (sym word_is) refl $
          k (subst Testable (sym n) may) (ap (λ (p : Ptr). op2_val ptr_eq (ptr_val p) vnull) n ∙ ap (λ (m : Option X.Denot). vbool (is_none m)) (sym e)) word_is))
