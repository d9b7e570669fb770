-- The pieces that are written, put together, are the two lines.
use Rattle.std.proofs.Common.{◌≡◌, ℕ, ◌+◌, ◌*◌, ◌/◌, ◌%◌, List, ◌++◌, codes, sym, ap, ◌∙◌, append_assoc, arith}
use Rattle.std.proofs.lemmas.List.{replicate-append-replicate}
use Rattle.pointer.specs.Pointed.{blanks}

-- eight blanks more
pub eight_more : (n : ℕ) → blanks (8 * n) ++ codes "        " ≡ blanks (8 * (n + 1))
eight_more n =
    let more : 8 * n + 8 ≡ 8 * (n + 1) = omega arith in
    replicate-append-replicate (8 * n) 8 32 ∙ ap blanks more

-- a blank more
pub blank_more : (n : ℕ) → blanks n ++ codes " " ≡ blanks (n + 1)
blank_more n = replicate-append-replicate n 1 32

-- eights of blanks, and the blanks past them
pub all_blanks : (eights past n : ℕ) → eights ≡ n / 8 → past ≡ n % 8 → blanks (8 * eights) ++ blanks past ≡ blanks n
all_blanks eights past n e p =
    let all : 8 * eights + past ≡ n = omega arith in
    replicate-append-replicate (8 * eights) past 32 ∙ ap blanks all

pub joined : (a b c d : List ℕ) → a ++ (b ++ (c ++ d)) ≡ (a ++ (b ++ c)) ++ d
joined a b c d = ap (λ t. a ++ t) (sym (append_assoc b c d)) ∙ sym (append_assoc a (b ++ c) d)
