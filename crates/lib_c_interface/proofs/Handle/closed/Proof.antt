-- `closed` makes a handle of null, which owns nothing.
use mathlib.Core.Path.{refl}
use mathlib.Core.List.{[], ◌∷◌}
use types.Kit.{raw, ◌$◌, ◌∵◌, !, qed, drop, join, suffices, done}
use types.Part.{agg}
use types.Run.{and_then, no_more, lit, returns, enter}
use types.ByLocal.{alloc_all, pass_all, free_all, look_at, sets}
use contract.Running.{tables}
use denote.RawPtr.{null_ptr}
use denote.Steps.{nothing}
use denote.Triple.Entry.{on_entry}
use denote.Triple.Walked.{says, Stays, walk_of, ends_at}
use Rattle.std.proofs.raw_atomic.Walks.{proved}
use Rattle.std.specs.declared.option.Option.TheVariants.{None}
use Rattle.lib_c_interface.proofs.Handles.{no_word, no_word_typed, null_in}
use Rattle.lib_c_interface.specs.contracts.Handle.closed as f
use Rattle.lib_c_interface.proofs.Handle.closed.Statement.{statement}
use Rattle.lib_c_interface.proofs.Handle.closed.Code as code

abbrev stayed : Stays f.ended.signature.params f.ended.kept
stayed = tt

pub closed_spec : {M : Type 1} → statement M
closed_spec 𝓤 𝓛 𝓜 𝓡 wired =
    let c = f.clauses 𝓛 𝓜.mem 𝓡.returns in let W = walk_of 𝓛 f.ended stayed c in let 𝓣 = tables 𝓤 𝓛.H 𝓜 𝓡 𝓡.env in
    proved 𝓛 f.ended stayed c 𝓜 𝓡 tt f.Key.name code.function (code.unfolded 𝓤 𝓛.H 𝓜 𝓡 wired)
    (λ κs. tt) (λ κs. tt) (λ κs qs bounds a _ are.
    let y : W.Ghost = ((κs, qs, bounds, a, tt), tt) in
    qed 𝓛 (raw (on_entry 𝓛 f.signature κs qs a tt) ∷ raw ((c κs a).requires tt) ∷ []) ∵ drop ! $ drop ! $
    enter ! 𝓣.C 𝓣.Λ code.function [] (W.post y) $ alloc_all ! (λ l. pass_all ! refl tt $
    sets ! (agg ! (and_then ! (lit ! tt) (no_more !))) refl no_word_typed $
    returns ! (look_at ! 0 refl) $ free_all ! refl $
    suffices ! _ (ends_at 𝓛 f.ended stayed c y no_word (record { at = null_ptr; value = None }) tt tt) $ says ! refl $
    null_in ! $ nothing ! $ join ! $ nothing ! $ join ! $ done !))
