-- Two readings of the same bytes are one: no encoded call begins another, and none that is accepted is where a reading ends.
use Rattle.std.proofs.Common.{◌≡◌, ℕ, ◌+◌, List, [], ◌∷◌, ◌++◌, length, take, drop, Some, None, Ok, Err, Option, sym, refl, ap, ◌∙◌, subst, arith}
use Rattle.std.proofs.lemmas.List.{append_assoc, length-append, take_at, drop_at}
use Rattle.refusal.specs.declared.Refusal.{Refusal}
use Rattle.document.specs.declared.Node.{Node}
use Rattle.document.specs.declared.Call.{Call}
use Rattle.document.specs.Calls.{answered, after, run}
use Rattle.feed.specs.Records.{encoded, decoded}
use Rattle.feed.specs.Feeds.{answered_by, encoded_all, Accepted, Ends, FeedsOnce}
use Rattle.feed.proofs.Exact.{four, decoded-encoded}

head_same : (c d : Call) (xs ys : List ℕ) → encoded c ++ xs ≡ encoded d ++ ys → (c ≡ d) × (xs ≡ ys)
head_same c d xs ys e =
    let bytes : encoded c ≡ encoded d = sym (take_at (encoded c) xs 4 (four c)) ∙ ap (take 4) e ∙ take_at (encoded d) ys 4 (four d) in
    let calls : Some c ≡ Some d = sym (decoded-encoded c) ∙ ap decoded bytes ∙ decoded-encoded d in
    (cc, sym (drop_at (encoded c) xs 4 (four c)) ∙ ap (drop 4) e ∙ drop_at (encoded d) ys 4 (four d))

-- no reading ends at the record of a call that is accepted
not_here : {A : Type 0} (room : ℕ) (ns : List Node) (i : ℕ) (c : Call) (xs rest : List ℕ) (stop : Option Refusal) → rest ≡ encoded c ++ xs
    → (n : ℕ) → answered room ns c ≡ Ok n → Ends room ns i rest stop → A
not_here room ns i c xs rest None e n a h =
    absurd (omega (arith, ap length e, ap length h, length-append (encoded c) xs, four c))
not_here room ns i c xs rest (Some x) e n a h =
    let here : take 4 rest ≡ encoded c = ap (take 4) e ∙ take_at (encoded c) xs 4 (four c) in
    let again : answered room ns c ≡ Err x = sym (ap (answered_by room ns i) (ap decoded here ∙ decoded-encoded c)) ∙ h.1 in
    cc

same_stop : (room : ℕ) (ns : List Node) (i : ℕ) (rest : List ℕ) (stop stop' : Option Refusal) → Ends room ns i rest stop → Ends room ns i rest stop' → stop ≡ stop'
same_stop room ns i rest None None a b = refl
same_stop room ns i rest None (Some e) a b = absurd (omega (arith, ap length a))
same_stop room ns i rest (Some e) None a b = absurd (omega (arith, ap length b))
same_stop room ns i rest (Some e) (Some f) a b = let p = a.1 in let q = b.1 in cc

one_reading : (room : ℕ) (ns : List Node) (i j k : ℕ) (cs ds : List Call) (rest rest' : List ℕ) (stop stop' : Option Refusal)
    → encoded_all cs ++ rest ≡ encoded_all ds ++ rest' → Accepted room ns cs → Accepted room ns ds → j ≡ i + length cs → k ≡ i + length ds
    → Ends room (run room ns cs) j rest stop → Ends room (run room ns ds) k rest' stop' → (cs ≡ ds) × (stop ≡ stop')
one_reading room ns i j k [] [] rest rest' stop stop' e a b p q h l =
    (refl, same_stop room ns j rest stop stop' h (rw (p, ← q, e) l))
one_reading room ns i j k [] (d ∷ ds) rest rest' stop stop' e a b p q h l =
    not_here room ns j d (encoded_all ds ++ rest') rest stop (e ∙ append_assoc (encoded d) (encoded_all ds) rest') b.0.0 b.0.1 h
one_reading room ns i j k (c ∷ cs) [] rest rest' stop stop' e a b p q h l =
    not_here room ns k c (encoded_all cs ++ rest) rest' stop' (sym e ∙ append_assoc (encoded c) (encoded_all cs) rest) a.0.0 a.0.1 l
one_reading room ns i j k (c ∷ cs) (d ∷ ds) rest rest' stop stop' e a b p q h l =
    let s = head_same c d (encoded_all cs ++ rest) (encoded_all ds ++ rest')
    (sym (append_assoc (encoded c) (encoded_all cs) rest) ∙ e ∙ append_assoc (encoded d) (encoded_all ds) rest') in
    let same : after room ns d ≡ after room ns c = ap (after room ns) (sym s.0) in
    let b' : Accepted room (after room ns c) ds = subst (λ (ms : List Node). Accepted room ms ds) same b.1 in
    let l' : Ends room (run room (after room ns c) ds) k rest' stop' = subst (λ (ms : List Node). Ends room (run room ms ds) k rest' stop') same l in
    let r = one_reading room (after room ns c) (i + 1) j k cs ds rest rest' stop stop' s.1 a.1 b' (omega arith) (omega arith) h l' in
    (ap (λ (x : Call). x ∷ cs) s.0 ∙ ap (λ (xs : List Call). d ∷ xs) r.0, r.1)

pub feeds_once : FeedsOnce
feeds_once room ns bs count count' stop stop' new new' f g =
    let o = one_reading room ns 0 count count' f.read.calls g.read.calls f.rest g.rest stop stop'
    (sym f.read.split ∙ g.read.split) f.read.accepted g.read.accepted
    (f.read.counted ∙ omega arith) (g.read.counted ∙ omega arith)
    (subst (λ (ms : List Node). Ends room ms count f.rest stop) f.read.leaves f.ended)
    (subst (λ (ms : List Node). Ends room ms count' g.rest stop') g.read.leaves g.ended) in
    (f.read.counted ∙ ap length o.0 ∙ sym g.read.counted, o.1, f.read.leaves ∙ ap (run room ns) o.0 ∙ sym g.read.leaves)
