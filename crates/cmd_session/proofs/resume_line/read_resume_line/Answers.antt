use Rattle.std.proofs.Common.{◌≡◌, ◌++◌, ℤ, List, ℕ, codes, rules, w64, to_z, of_z, sym, ap, ◌∙◌, subst}
use Rattle.std.proofs.lemmas.Int.{to_z-of_z}
use Rattle.cmd_session.specs.ResumeLines.{IsResumeText}
use Rattle.cmd_session.specs.declared.resume_line.ResumeLine.TheVariants.{Cell}
use Rattle.cmd_session.proofs.ResumeTexts.{cell_line, tuple_line}
use Rattle.cmd_session.proofs.resume_line.read_resume_line.Goals as goal

pub returns-in-Some : goal.returns-in-Some
returns-in-Some c =
    let text : List ℕ = c.args.text.now in
    let word : List ℕ = c.cut_at_space.result.0.now in
    let fields : List ℕ = c.cut_at_space.result.1.now in
    let name : List ℕ = c.in_ok-name.name in
    let index : ℤ = c.in-Some.index in
    let content : ℤ = c.in-Some.content in
    let whole : text ≡ codes "RESUME " ++ (word ++ fields) = c.in_ok-behind.ensures ∙ ap (λ bs. codes "RESUME " ++ bs) c.cut_at_space.ensures in
    let line : IsResumeText text (Cell name index content) =
    cell_line text word fields name index content whole (sym c.read.ensures ∙ c.in_ok-name.was) c.in-Some.ensures.text c.in-Some.ensures.fits.0 c.in-Some.ensures.fits.1 in
    subst (λ i. IsResumeText text (Cell name i (to_z w64 (of_z w64 content)))) (sym (to_z-of_z w64 index (search rules)))
    (subst (λ v. IsResumeText text (Cell name index v)) (sym (to_z-of_z w64 content (search rules))) line)

pub returns-in-Some-tuple_behind : goal.returns-in-Some-tuple_behind
returns-in-Some-tuple_behind c =
    let text : List ℕ = c.args.text.now in
    let word : List ℕ = c.cut_at_space.result.0.now in
    let fields : List ℕ = c.cut_at_space.result.1.now in
    let whole : text ≡ codes "RESUME " ++ (word ++ fields) = c.in_ok-behind.ensures ∙ ap (λ bs. codes "RESUME " ++ bs) c.cut_at_space.ensures in
    let told = c.in-Some-tuple_behind.ensures in
    tuple_line text word fields c.in_ok-name.name c.in-Some-tuple_behind.values.items whole (sym c.read.ensures ∙ c.in_ok-name.was) told.text told.fit told.some told.few
