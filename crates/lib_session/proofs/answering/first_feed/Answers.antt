use Rattle.std.proofs.Common.{None, Some}
use Rattle.io_line_reader.proofs.Places.{place_found}
use Rattle.lib_session.proofs.FirstLines.{not_plain}
use Rattle.lib_session.proofs.answering.first_feed.Goals as goal

pub returns-in-Some : goal.returns-in-Some
returns-in-Some c = place_found c.args.text.now (Some c.in-Some.place) c.memchr_iter.result c.next.new.self c.memchr_iter.ensures.value c.in-Some.ensures.steps

pub returns-in-None : goal.returns-in-None
returns-in-None c = absurd (not_plain c.args.text.now c.requires (place_found c.args.text.now None c.memchr_iter.result c.next.new.self c.memchr_iter.ensures.value c.in-None.ensures.steps))
