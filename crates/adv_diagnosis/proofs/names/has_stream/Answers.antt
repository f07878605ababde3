use Rattle.std.proofs.Common.{◌∙◌, ap, is_some}
use Rattle.std.specs.Str.{bytes_eq}
use Rattle.sql_catalog.specs.Streams.{Shape}
use Rattle.adv_diagnosis.proofs.Having.{has_place}
use Rattle.adv_diagnosis.proofs.names.has_stream.Goals as goal

pub returns : goal.returns
returns c = c.is_some.ensures ∙ ap is_some c.find.ensures.number ∙ has_place (λ (s : Shape). bytes_eq s.name c.args.name.now) c.args.catalog.now
