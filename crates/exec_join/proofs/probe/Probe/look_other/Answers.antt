use Rattle.std.proofs.Common.{ap, refl}
use Rattle.exec_join.proofs.probe.Probe.look_other.Goals as goal

pub returns : goal.returns
returns c =
    record {
      dims = c.look_other-self.ensures.dims;
      size = c.look_other-self.ensures.size;
      line = c.look_other-self.ensures.line;
      chosen = ap (λ x. x.items) c.look_other-self.ensures.chosen;
      numbers = ap (λ x. x.items) c.look_other-self.ensures.numbers;
      sizes = ap (λ x. x.items) c.look_other-self.ensures.sizes;
      level = c.len-self.ensures.value;
      next = refl;
      over = refl;
      arriving = refl;
      row = refl;
      query = refl;
      prepared = refl;
    }
