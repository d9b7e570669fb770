use Rattle.std.proofs.Common.{◌≡◌, ℕ, List, Result}
use Rattle.refusal.specs.declared.Refusal.{Refusal}
use Rattle.document.specs.declared.Node.{Node}
use Rattle.document.specs.declared.Call.{Call}
use Rattle.document.specs.Calls.{Called, Grown}
use Rattle.document.specs.Laws.{Performed}
use Rattle.document.proofs.Calls.{calls_next, grown_well}
use Rattle.document.proofs.Lawful.{well_lawful}
use Rattle.document.proofs.generic.perform.Goals as goal

performed : {S : Type 0} {nodes : S → List Node} {room : S → ℕ} {was is : S} {c d : Call} {r : Result ℕ Refusal}
    → ((s : S) → Grown (nodes s)) → c ≡ d → Called nodes room was d r is → Performed nodes room was c r is
performed {nodes = nodes} {room = room} {was = was} {is = is} {c = c} {r = r} grown e h =
    let k : Called nodes room was c r is = rw e h in
    record {
      called = k;
      next = rw k.leaves (calls_next (room was) (nodes was) c (grown_well (nodes was) (grown was)));
      laws = well_lawful (nodes is) (grown_well (nodes is) (grown is));
    }

pub returns-in-Open : goal.returns-in-Open
returns-in-Open g c = performed g.met.D.Readable.grown c.in-Open.is c.open.ensures

pub returns-in-Text : goal.returns-in-Text
returns-in-Text g c = performed g.met.D.Readable.grown c.in-Text.is c.text.ensures

pub returns-in-Close : goal.returns-in-Close
returns-in-Close g c = performed g.met.D.Readable.grown c.in-Close.is c.close.ensures
