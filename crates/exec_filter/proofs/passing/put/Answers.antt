use Rattle.std.proofs.Common.{◌≡◌, ◌∙◌, ℕ, true, sym, subst}
use Rattle.exec_query_index.specs.declared.boxes.Interval.{Interval}
use Rattle.exec_query_index.specs.Boxes.{holds, unbounded}
use Rattle.exec_filter.proofs.PassingOn.{set_holds}
use Rattle.exec_filter.proofs.passing.put.Goals as goal

pub returns-then-column-lt8 : goal.returns-then-column-lt8
returns-then-column-lt8 c = λ v held within column few.
    set_holds c.args.own.now.columns c.from-column.result column c.interval_of.result unbounded (λ (i : Interval). holds i (v column) ≡ true)
    (λ e. subst (λ (k : ℕ). holds c.interval_of.result (v k) ≡ true) (sym (e ∙ c.from-column.ensures)) (c.interval_of.ensures v within)) (held column few)
