-- Bytes stand for a call exactly where they are its record.
use Rattle.std.proofs.Common.{◌≡◌, ℕ, ◌+◌, ◌*◌, ◌/◌, ◌%◌, ◌<◌, Bool, true, false, cond, ◌&&◌, eqb, ◌↔◌, List, [], ◌∷◌, length, get_or, Some, None, Option, refl, ap, ◌∙◌, arith}
use Rattle.std.proofs.lemmas.Bool.{eqb-true, and_parts}
use Rattle.std.proofs.lemmas.Bool.Decides.{nat_tests}
use Rattle.document.specs.declared.Call.{Call}
use Rattle.document.specs.declared.Call.TheVariants.{Open, Text, Close}
use Rattle.feed.specs.Records.{encoded, by_code, decoded}

abbrev pub Bytes : List ℕ → Type 0
Bytes bs = (i : ℕ) → get_or bs i 0 < 256

pub four : (c : Call) → length (encoded c) ≡ 4
four (Open n) = refl
four Text = refl
four (Close n) = refl

-- what a code and a name number say of a call
abbrev pub Says : ℕ → ℕ → Call → Type 0
Says code name (Open n) = (code ≡ 1) × (name ≡ n)
Says code name Text = (code ≡ 2) × (name ≡ 0)
Says code name (Close n) = (code ≡ 3) × (name ≡ n)

says : (code name : ℕ) (c : Call) → by_code code name ≡ Some c → Says code name c
says code name (Open n) e = grind (arith, nat_tests)
says code name Text e = grind (arith, nat_tests)
says code name (Close n) e = grind (arith, nat_tests)

record Parts (bs : List ℕ) (c : Call) : Type 0 where
  four : length bs ≡ 4
  zeroed : get_or bs 1 0 ≡ 0
  coded : by_code (get_or bs 0 0) (get_or bs 2 0 + get_or bs 3 0 * 256) ≡ Some c

when : (b : Bool) (o : Option Call) (c : Call) → cond b o None ≡ Some c → (b ≡ true) × (o ≡ Some c)
when true o c e = (refl, e)
when false o c e = cc

parts : (bs : List ℕ) (c : Call) → decoded bs ≡ Some c → Parts bs c
parts bs c e =
    let w = when (eqb (length bs) 4 && eqb (get_or bs 1 0) 0) _ c e in
    let b = and_parts (eqb (length bs) 4) (eqb (get_or bs 1 0) 0) w.0 in
    record { four = eqb-true (length bs) 4 b.0; zeroed = eqb-true (get_or bs 1 0) 0 b.1; coded = w.1 }

listed : (bs : List ℕ) → length bs ≡ 4 → bs ≡ get_or bs 0 0 ∷ get_or bs 1 0 ∷ get_or bs 2 0 ∷ get_or bs 3 0 ∷ []
listed [] l = absurd (omega arith)
listed (a ∷ []) l = absurd (omega arith)
listed (a ∷ b ∷ []) l = absurd (omega arith)
listed (a ∷ b ∷ c ∷ []) l = absurd (omega arith)
listed (a ∷ b ∷ c ∷ d ∷ []) l = refl
listed (a ∷ b ∷ c ∷ d ∷ e ∷ bs) l = absurd (omega arith)

low_byte : (a b : ℕ) → a < 256 → (a + b * 256) % 256 ≡ a
low_byte a b l = omega arith

high_byte : (a b : ℕ) → a < 256 → (a + b * 256) / 256 ≡ b
high_byte a b l = omega arith

both_bytes : (n : ℕ) → n % 256 + n / 256 * 256 ≡ n
both_bytes n = omega arith

to_encoded : (x y a b : ℕ) (c : Call) → a < 256 → Says x (a + b * 256) c → y ≡ 0 → (x ∷ y ∷ a ∷ b ∷ []) ≡ encoded c
to_encoded x y a b (Open n) l (p, q) z = rw (p, z, ← q, low_byte a b l, high_byte a b l) refl
to_encoded x y a b Text l (p, q) z =
    let la : a ≡ 0 = omega arith in
    let lb : b ≡ 0 = omega arith in
    rw (p, z, la, lb) refl
to_encoded x y a b (Close n) l (p, q) z = rw (p, z, ← q, low_byte a b l, high_byte a b l) refl

pub decoded-encoded : (c : Call) → decoded (encoded c) ≡ Some c
decoded-encoded (Open n) = ap (λ (m : ℕ). Some (Open m)) (both_bytes n)
decoded-encoded Text = refl
decoded-encoded (Close n) = ap (λ (m : ℕ). Some (Close m)) (both_bytes n)

pub exact : (bs : List ℕ) → Bytes bs → (c : Call) → (decoded bs ≡ Some c) ↔ (bs ≡ encoded c)
exact bs bytes c = (
  λ e.
      let p = parts bs c e in
      listed bs p.four ∙ to_encoded (get_or bs 0 0) (get_or bs 1 0) (get_or bs 2 0) (get_or bs 3 0) c (bytes 2) (says _ _ c p.coded) p.zeroed,
  λ e. ap decoded e ∙ decoded-encoded c,
)
