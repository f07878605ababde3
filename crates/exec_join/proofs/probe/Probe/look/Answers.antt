use Rattle.std.proofs.Common.{◌∙◌, ap, refl, sym, length}
use Rattle.exec_join.proofs.UnderwayLaws.{opened-from}
use Rattle.exec_join.proofs.probe.Probe.look.Goals as goal

pub returns-then-look_pinned : goal.returns-then-look_pinned
returns-then-look_pinned c =
    let fixed = c.look_pinned.ensures.fixed c.if-look_pinned.true in
    let kept = ap (λ x. x.items) c.look_pinned.ensures.chosen in
    record {
      dims = fixed.0;
      size = sym fixed.1;
      line = fixed.2;
      chosen = kept;
      numbers = ap (λ x. x.items) c.look_pinned.ensures.numbers;
      sizes = ap (λ x. x.items) c.look_pinned.ensures.sizes;
      level = c.len-self.ensures.value ∙ ap length kept;
      next = refl;
      over = refl;
      arriving = refl;
      row = refl;
      query = refl;
      prepared = refl;
    }

pub returns : goal.returns
returns c =
    opened-from c.args.part.now c.args.self.now _ c.look_other.new.self (record { arriving = refl; row = refl; query = refl; prepared = refl }) (ap (λ x. x.items) c.look_pinned.ensures.chosen) (ap (λ x. x.items) c.look_pinned.ensures.numbers) (ap (λ x. x.items) c.look_pinned.ensures.sizes) refl refl
    c.look_other.ensures
