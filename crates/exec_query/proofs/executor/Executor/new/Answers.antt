use Rattle.std.proofs.Common.{[], ap, sym, subst, refl, ◌∙◌, length, arith}
use Rattle.exec_answer_table.specs.Entries.{TableValue, Ascends}
use Rattle.sem_query.specs.Numbers.{parts_of}
use Rattle.sem_forms.proofs.Forms.{form_plans_serve}
use Rattle.exec_query.proofs.Bases.{bases-and-histories}
use Rattle.exec_query.proofs.Behind.{plan-behind}
use Rattle.exec_query.proofs.Keeping.{keeps}
use Rattle.exec_query.proofs.Settled.{begins, none_within}
use Rattle.exec_saturation.specs.declared.saturation.Saturation.TheVariants as saturation
use Rattle.exec_query.specs.Executor.{ExecutorValue}
use Rattle.exec_query.proofs.executor.Executor.new.Goals as goal

pub prepare_all-requires : goal.prepare_all-requires
prepare_all-requires c =
    plan-behind c.args.shared c.args.query c.args.plan (form_plans_serve c.args.shared c.args.query c.args.plan c.select.ensures.limits c.requires.accepted.met c.requires.accepted.plan)

pub invariant_of-result : goal.invariant_of-result
invariant_of-result c =
    let is = c.in-Ok-new.ensures in (
      record {
        limits = c.select.ensures.limits;
        accepted = c.requires.accepted;
        pages = c.requires.pages;
        width = ap (λ (t : TableValue). t.width) is ∙ ap length c.select.ensures.value;
        capacity = ap (λ (t : TableValue). t.capacity) is ∙ c.most_answers-capacity.ensures;
        given = omega arith;
        entries = (let none = ap (λ (t : TableValue). length t.entries) is in omega (arith, none));
        ascends = subst (λ (t : TableValue). Ascends t.entries) (sym is) tt;
        tuples = λ d. none_within c.args.query (parts_of c.args.plan) c.in-Ok-new.table.entries (ap (λ (t : TableValue). t.entries) is);
      },
      c.in-Ok.ensures,
      c.prefilter_of-prefilter.ensures,
      c.access_of-access.ensures,
    )

pub returns-in-Ok-new-clause-history : goal.returns-in-Ok-new-clause-history
returns-in-Ok-new-clause-history c =
    let e : ExecutorValue = record { query = c.args.query; shared = c.args.shared; plan = c.args.plan; extent = c.args.extent; given = 0; table = c.in-Ok-new.table; saturation = saturation.All } in
    let is = c.in-Ok-new.ensures in
    begins e (invariant_of-result c).0 refl (ap (λ (t : TableValue). t.entries) is)

pub returns-in-Ok-new-clause-within : goal.returns-in-Ok-new-clause-within
returns-in-Ok-new-clause-within c = λ pool live empty.
    let e : ExecutorValue = record { query = c.args.query; shared = c.args.shared; plan = c.args.plan; extent = c.args.extent; given = 0; table = c.in-Ok-new.table; saturation = saturation.All } in
    let sound = (invariant_of-result c).0 in
    keeps e sound pool live (begins e sound refl (ap (λ (t : TableValue). t.entries) c.in-Ok-new.ensures) pool live empty).rest

pub returns-in-Ok-new-clause-bases : goal.returns-in-Ok-new-clause-bases
returns-in-Ok-new-clause-bases c = λ pool live empty.
    let e : ExecutorValue = record { query = c.args.query; shared = c.args.shared; plan = c.args.plan; extent = c.args.extent; given = 0; table = c.in-Ok-new.table; saturation = saturation.All } in
    let sound = (invariant_of-result c).0 in
    (bases-and-histories e pool sound).1 [] (begins e sound refl (ap (λ (t : TableValue). t.entries) c.in-Ok-new.ensures) pool live empty)
