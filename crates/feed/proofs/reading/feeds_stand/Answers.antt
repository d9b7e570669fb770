use Rattle.feed.proofs.Once.{feeds_once}
use Rattle.feed.proofs.reading.feeds_stand.Goals as goal

pub returns : goal.returns
returns c = feeds_once
