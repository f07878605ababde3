-- With DISTINCT what gives the tuple that was taken up last may be passed: it adds nothing.
use Rattle.std.proofs.Common.{◌≡◌, suc, ◌≤◌, Bool, true, false, cond, List, [], ◌∷◌, All, length, length-append, refl, sym, ap, ◌∙◌, subst, arith, ℤ}
use Rattle.sem_query.specs.Combinations.{Found}
use Rattle.exec_answer_table.specs.Entries.{Entry, TableValue, with_entries, added, has}
use Rattle.exec_join.specs.Repeats.{ArePassed}
use Rattle.exec_query.specs.FoundTable.{with_found, with_all, HaveRoom}
use Rattle.exec_query.proofs.TableLaws.{with_all-append, room_then}
use Rattle.exec_query.proofs.OneTuple.{found_has}

-- finds of a tuple that has an entry
repeats_old : (t : List ℤ) (fs : List Found) (es : List Entry) → All (λ (f : Found). f.tuple ≡ t) fs → has t es ≡ true → with_all true fs es ≡ es
unfolding with_all
repeats_old t [] es same h = refl
repeats_old t (f ∷ fs) es same h =
    let own : has f.tuple es ≡ true = ap (λ u. has u es) (same 0 f (omega arith)) ∙ h in
    let step : with_found true f es ≡ es = ap (λ b. cond b es (added f.tuple 1 es)) own in
    ap (with_all true fs) step ∙ repeats_old t fs es (λ k d l. same (suc k) d (omega (arith, l))) h

nothing_old : (d : Bool) (es : List Entry) → with_all d [] es ≡ es
unfolding with_all
nothing_old d es = refl

-- what is passed behind a find
module _ (d : Bool) (f : Found) (table new : TableValue) (others rest : List Found) (is : new ≡ with_entries table (with_found d f table.entries)) (p : ArePassed d f.tuple others rest) where
  passed_old : with_all d p.passed new.entries ≡ new.entries
  passed_old = by d refl
    where
      by : (b : Bool) → d ≡ b → with_all d p.passed new.entries ≡ new.entries
      by true e =
          let there : has f.tuple new.entries ≡ true = ap (λ (x : TableValue). has f.tuple x.entries) is ∙ ap (λ b. has f.tuple (with_found b f table.entries)) e ∙ found_has f table.entries in
          ap (λ b. with_all b p.passed new.entries) e ∙ repeats_old f.tuple p.passed new.entries p.same there
      by false e = ap (λ gs. with_all d gs new.entries) (p.none e) ∙ nothing_old d new.entries

  pub passed_room : HaveRoom d others new → HaveRoom d rest new
  passed_room h =
      subst (λ es. HaveRoom d rest (with_entries new es)) passed_old (room_then d p.passed rest new (subst (λ fs. HaveRoom d fs new) p.all h))

  pub passed_table : (whole : TableValue) → with_entries new (with_all d others new.entries) ≡ whole → with_entries new (with_all d rest new.entries) ≡ whole
  passed_table whole h =
      ap (with_entries new) (sym (ap (λ fs. with_all d fs new.entries) p.all ∙ with_all-append d p.passed rest new.entries ∙ ap (with_all d rest) passed_old)) ∙ h

  pub passed_less : length rest ≤ length others
  passed_less = let l = ap length p.all in let m = length-append p.passed rest in omega (arith, l, m)
