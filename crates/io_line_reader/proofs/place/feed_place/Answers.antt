use Rattle.io_line_reader.proofs.Places.{place_found}
use Rattle.io_line_reader.proofs.place.feed_place.Goals as goal

pub returns : goal.returns
returns c = place_found c.args.bytes.now c.next.result c.memchr_iter.result c.next.new.self c.memchr_iter.ensures.value c.next.ensures.steps
