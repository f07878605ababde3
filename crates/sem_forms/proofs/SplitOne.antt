-- A query has one list of split parts, and one plan of them.
use Rattle.std.proofs.Common.{◌≡◌, ◌<◌, ◌≤◌, Bool, true, false, List, [], ◌∷◌, length, sym, ◌∙◌, subst, arith}
use Rattle.std.specs.List.{AllZip}
use Rattle.std.proofs.lemmas.List.Elements.{All-contains}
use Rattle.sem_query.specs.declared.part.Sign.{Sign}
use Rattle.sem_query.specs.declared.plan.PartPlan.{PartPlan}
use Rattle.sem_query.specs.Query.{QueryValue}
use Rattle.sem_query.specs.Parts.{signs_lt}
use Rattle.sem_query.specs.Serving.{AreBased}
use Rattle.sem_query.specs.Sharing.{box_at, boxes_in, boxes}
use Rattle.sem_query.proofs.Has.{Has, Has-from_contains, Contains-from_has}
use Rattle.sem_query.proofs.Unique.{Ascends, more, IsStrict, ascends_from, same_members, signs_strict}
use Rattle.sem_laws.proofs.OneSharedPlan.{AllAlikeParts, nothing, another, boxes-alike, different-alike, start-alike}
use Rattle.sem_laws.proofs.TableRoom.{Distinct, no_longer}
use Rattle.plan_split_pairs.specs.SplitParts.{IsSplitPart, AreSplitParts, HasMoreSplitParts}
use Rattle.sem_forms.specs.Split.{part_query, IsSplitPlan}
use Rattle.sem_forms.specs.Laws.{HasOneListOfSplitParts, SplitPartsAreCounted, HasOneSplitPlan}
use Rattle.sem_forms.proofs.One.{parts_alike}
use Rattle.sem_forms.proofs.PlansAlike.{plans_same, plans_follow}
use Rattle.sem_forms.proofs.SplitServes.{IsPlanOf}

among : (q : QueryValue) (list others : List (List Sign)) → ((ss : List Sign) → Has list ss → IsSplitPart q ss) → AreSplitParts q others → (ss : List Sign) → Has list ss → Has others ss
among q list others each a ss h = Has-from_contains others ss (a.all ss (each ss h))

each_of : (q : QueryValue) (list : List (List Sign)) → AreSplitParts q list → (ss : List Sign) → Has list ss → IsSplitPart q ss
each_of q list a ss h = All-contains (IsSplitPart q) list ss a.each (Contains-from_has list ss h)

pub one_list_of_split_parts : HasOneListOfSplitParts
one_list_of_split_parts q ps os a b =
    same_members signs_lt signs_strict ps os (ascends_from signs_lt ps a.ascending) (ascends_from signs_lt os b.ascending) (among q ps os (each_of q ps a) b) (among q os ps (each_of q os b) a)

-- an ascending list has no member twice
ascends_distinct : {X : Type 0} (lt : X → X → Bool) → IsStrict lt → (xs : List X) → Ascends lt xs → Distinct xs
ascends_distinct lt o [] a = tt
ascends_distinct lt o (x ∷ xs) (more f a) = ((λ k. o.apart x x (f x k) (f x k)), ascends_distinct lt o xs a)

pub split_parts_are_counted : SplitPartsAreCounted
split_parts_are_counted q list n a = (no_more, λ l. record { some = list; ascending = a.ascending; each = a.each; more = l })
  where
    no_more : HasMoreSplitParts q n → n < length list
    no_more m =
        let d : Distinct m.some = ascends_distinct signs_lt signs_strict m.some (ascends_from signs_lt m.some m.ascending) in
        let k : length m.some ≤ length list
        = no_longer m.some list d (among q m.some list (λ ss h. All-contains (IsSplitPart q) m.some ss m.each (Contains-from_has m.some ss h)) a) in
        let l = m.more in
        omega (arith, k, l)

-- two plans of the same parts are alike
alike_all : (q : QueryValue) (parts : List (List Sign)) (plan other : List PartPlan) → AllZip (IsPlanOf q) parts plan → AllZip (IsPlanOf q) parts other → AllAlikeParts plan other
alike_all q [] [] [] z w = nothing
alike_all q [] [] (o ∷ other) z w = absurd w
alike_all q [] (p ∷ plan) other z w = absurd z
alike_all q (ss ∷ parts) [] other z w = absurd z
alike_all q (ss ∷ parts) (p ∷ plan) [] z w = absurd w
alike_all q (ss ∷ parts) (p ∷ plan) (o ∷ other) z w = another (parts_alike (part_query q ss) p o z.0 w.0) (alike_all q parts plan other z.1 w.1)

plans_alike : (q : QueryValue) (plan other : List PartPlan) → IsSplitPlan q plan → IsSplitPlan q other → AllAlikeParts plan other
plans_alike q plan other a b =
    alike_all q a.parts plan other a.plans (subst (λ ps. AllZip (IsPlanOf q) ps other) (one_list_of_split_parts q b.parts a.parts b.are a.are) b.plans)

-- plans that are alike are the same where their boxes begin where they should
pub one_based : (shared : Bool) (q : QueryValue) (plan other : List PartPlan) → AllAlikeParts plan other → AreBased shared q plan → AreBased shared q other → plan ≡ other
one_based false q plan other alike f g = plans_follow 0 plan other alike f g
one_based true q plan other alike f g =
    let lists = different-alike q (boxes_in plan) (boxes_in other) (boxes-alike plan other alike) in
    plans_same plan other alike (λ p o h k a place l.
    f p (Contains-from_has plan p h) place l
    ∙ start-alike q (boxes q plan) (boxes q other) (box_at p place) (box_at o place) (a.boxes place l) lists
    ∙ sym (g o (Contains-from_has other o k) place (subst (λ n. place < n) a.count l)))

pub one_split_plan : HasOneSplitPlan
one_split_plan shared q plan other a b = one_based shared q plan other (plans_alike q plan other a.0 b.0) a.1 b.1
