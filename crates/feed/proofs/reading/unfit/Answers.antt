use Rattle.document.proofs.Calls.{grown_well}
use Rattle.feed.proofs.Probing.{probed}
use Rattle.feed.proofs.reading.unfit.Goals as goal

pub returns : goal.returns
returns g c = probed (grown_well _ (g.met.D.Readable.grown _)) c.close.ensures _ _ c.at.ensures c.eq.ensures
