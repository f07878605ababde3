use Rattle.std.proofs.Common.{◌∙◌, ◌++◌, ap}
use Rattle.plan_whole_form.proofs.Streamed.{stream_added}
use Rattle.plan_whole_form.proofs.conditions.add_stream.Goals as goal

pub returns : goal.returns
returns c =
    stream_added c.args.closed.now c.args.place c.ties.result.items c.least_ends.result.items c.greatest_ends.result.items c.differences.result.items c.unlikes.result.items
    (c.ties.ensures c.args.closed.now c.columns_at-columns.ensures) c.least_ends.ensures c.greatest_ends.ensures c.differences.ensures c.unlikes.ensures c.args.list.now.items c.extend_from_slice.new.self.items c.extend_from_slice-2.new.self.items c.extend_from_slice-3.new.self.items c.extend_from_slice-4.new.self.items c.extend_from_slice-5.new.self.items
    (c.in_ok-extend_from_slice.ensures.items ∙ ap (λ z. c.args.list.now.items ++ z) c.as_slice.ensures.value)
    (c.in_ok-extend_from_slice-2.ensures.items ∙ ap (λ z. c.extend_from_slice.new.self.items ++ z) c.as_slice-2.ensures.value)
    (c.in_ok-extend_from_slice-3.ensures.items ∙ ap (λ z. c.extend_from_slice-2.new.self.items ++ z) c.as_slice-3.ensures.value)
    (c.in_ok-extend_from_slice-4.ensures.items ∙ ap (λ z. c.extend_from_slice-3.new.self.items ++ z) c.as_slice-4.ensures.value)
    (c.in_ok-extend_from_slice-5.ensures.items ∙ ap (λ z. c.extend_from_slice-4.new.self.items ++ z) c.as_slice-5.ensures.value)
