use Rattle.c_runner_lines.proofs.FeedLemmas.{EndsLine-position}
use Rattle.c_runner_lines.proofs.search.first_feed.Goals as goal

pub returns : goal.returns
returns c = rw c.place_of_feed.ensures (EndsLine-position c.args.bytes.now)
