use Rattle.std.proofs.Common.{sym, ap, ◌∙◌}
use Rattle.std.specs.List.{find}
use Rattle.std.specs.Option.{option_copied}
use Rattle.adv_diagnosis.specs.declared.fault.Asks.TheVariants as asks
use Rattle.adv_diagnosis.specs.Faults.{first_repeated, is_no_stream}
use Rattle.adv_diagnosis.proofs.NamesThere.{lock_twice, lock_no_stream, lock_there}
use Rattle.adv_diagnosis.proofs.statements.diagnose_lock.Goals as goal

pub returns-in-Some-clause-found : goal.returns-in-Some-clause-found
returns-in-Some-clause-found c =
    let streams = c.args.known.now.catalog.now in
    let names = c.args.streams.items in
    let twice = ap first_repeated (sym c.as_slice.ensures.value) ∙ sym c.repeated_name.ensures ∙ c.in-Some.is in
    record { asked = sym (lock_twice streams names (asks.Lock c.args.key c.args.streams) c.in-Some.name twice); facts = twice }

pub returns-in-Some-unknown_stream-clause-found : goal.returns-in-Some-unknown_stream-clause-found
returns-in-Some-unknown_stream-clause-found c =
    let streams = c.args.known.now.catalog.now in
    let names = c.args.streams.items in
    let alone = ap first_repeated (sym c.as_slice.ensures.value) ∙ sym c.repeated_name.ensures ∙ c.in_default.is in
    let lacking = ap (find (is_no_stream streams)) (sym c.as_slice-2.ensures.value) ∙ sym c.unknown_stream.ensures ∙ ap option_copied c.in-Some-unknown_stream.is in
    record { asked = sym (lock_no_stream streams names (asks.Lock c.args.key c.args.streams) c.in-Some-unknown_stream.name.now alone lacking); facts = (alone, lacking) }

pub returns-clause-found : goal.returns-clause-found
returns-clause-found c =
    let streams = c.args.known.now.catalog.now in
    let names = c.args.streams.items in
    let alone = ap first_repeated (sym c.as_slice.ensures.value) ∙ sym c.repeated_name.ensures ∙ c.in_default.is in
    let there = ap (find (is_no_stream streams)) (sym c.as_slice-2.ensures.value) ∙ sym c.unknown_stream.ensures ∙ ap option_copied c.in_default-unknown_stream.is in
    record { asked = sym (lock_there streams names (asks.Lock c.args.key c.args.streams) alone there); facts = tt }
