use Rattle.document.proofs.Calls.{grown_well}
use Rattle.document.proofs.Lawful.{well_lawful}
use Rattle.document.proofs.theorems.documents_stand.Goals as goal

pub returns : goal.returns
returns c = record { grown = grown_well; lawful = well_lawful }
