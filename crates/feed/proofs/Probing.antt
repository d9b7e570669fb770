-- A close by the name 0 is refused on every document, and says whether the room is unfit.
use Rattle.std.proofs.Common.{◌≡◌, ℕ, ◌<◌, Bool, true, false, cond, eqb, List, length, Some, None, Err, Option, Result, sym, refl, ap, ◌∙◌, inl, inr, arith}
use Rattle.std.specs.Result.{result_eq}
use Rattle.std.proofs.lemmas.Bool.{ne_eqb}
use Rattle.refusal.specs.declared.Ground.{Ground}
use Rattle.refusal.specs.declared.Ground.TheVariants.{BadCapacity, NotBegun, Ended, OtherName}
use Rattle.refusal.specs.declared.Refusal.{Refusal}
use Rattle.refusal.specs.Refusals.{refusal}
use Rattle.refusal.specs.contracts.RefusalPartialEq
use Rattle.document.specs.declared.Node.{Node}
use Rattle.document.specs.declared.Call.TheVariants.{Close}
use Rattle.document.specs.Document.{name_of, innermost}
use Rattle.document.specs.Calls.{unfit, mismatched, refused, idle, verdict, target, Called}
use Rattle.document.specs.Laws.{WellFormed}
use Rattle.document.proofs.WellFormed.{inner, open_element}
use Rattle.document.proofs.Effects.{refused_after}
use Rattle.document.proofs.Verdicts.{by_capacity, by_other_name, going_on, has_nodes, idle_refused}
use Rattle.feed.specs.Feeds.{Probed}

-- what `==` tells of a refusal and of want of memory
same : Refusal → Refusal → Bool
same = (RefusalPartialEq.TheImpl.ghosts).eq

-- on which ground a close by the name 0 is refused
record ZeroClose (room : ℕ) (ns : List Node) : Type 0 where
  ground : Ground
  is : refused room ns (Close 0) ≡ Some ground
  tells_room : same (refusal ground 0) (refusal BadCapacity 0) ≡ unfit room

named : (ns : List Node) → WellFormed ns → (p : ℕ) → innermost ns ≡ Some p → 0 < name_of ns p
named ns w p e =
    let i = inner ns p e in
    let k = open_element ns w p i.there i.stays_open in
    elim (w.named p i.there) [ inl n ↦ n.1 | inr n ↦ cc ]

idle_other : (n : ℕ) → same (refusal (idle n) 0) (refusal BadCapacity 0) ≡ false
unfolding same
idle_other n = go (eqb n 0)
  where
    go : (b : Bool) → same (refusal (cond b NotBegun Ended) 0) (refusal BadCapacity 0) ≡ false
    go true = refl
    go false = refl

zero_close : (room : ℕ) (ns : List Node) → WellFormed ns → ZeroClose room ns
unfolding same
zero_close room ns w = go (unfit room) refl (innermost ns) refl
  where
    go : (b : Bool) → unfit room ≡ b → (o : Option ℕ) → innermost ns ≡ o → ZeroClose room ns
    go true b o i = record { ground = BadCapacity; is = by_capacity room ns (Close 0) b; tells_room = sym b }
    go false b None i = record { ground = idle (length ns); is = idle_refused ns w room (Close 0) b refl i; tells_room = idle_other (length ns) ∙ sym b }
    go false b (Some p) i =
        let n = ne_eqb (name_of ns p) 0 (λ z. omega (arith, named ns w p i)) in
        let m : mismatched ns (Close 0) ≡ true = rw (i, n) refl in
        record { ground = OtherName; is = by_other_name room ns (Close 0) b (going_on ns w p i) (has_nodes ns w p i) refl refl m; tells_room = sym b }

pub probed : {S : Type 0} {nodes : S → List Node} {room : S → ℕ} {was is : S} {r : Result ℕ Refusal} → WellFormed (nodes was) → Called nodes room was (Close 0) r is
    → (b : Bool) (e : Refusal) → e ≡ refusal BadCapacity 0 → b ≡ result_eq eqb (RefusalPartialEq.TheImpl.ghosts).eq r (Err e) → Probed nodes room was b is
unfolding same
probed {nodes = nodes} {room = room} {was = was} w c b e q h =
    let z = zero_close (room was) (nodes was) w in
    let answer = c.answer ∙ ap (λ (o : Option Ground). verdict o (target (nodes was) (Close 0))) z.is in
    record {
      answer = h ∙ rw (answer, q) z.tells_room;
      leaves = c.leaves ∙ refused_after (room was) (nodes was) (Close 0) z.ground z.is;
      same_room = c.same_room;
    }
