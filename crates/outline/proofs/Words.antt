-- What the pieces of a line come to: a listed name is ASCII, so it is text, and the margin is as wide as its levels.
use Rattle.std.proofs.Common.{◌≡◌, ℕ, zero, suc, ◌+◌, ◌*◌, ◌/◌, ◌%◌, ◌-◌, ◌<◌, ◌≤◌, Bool, true, false, cond, ◌||◌, ◌&&◌, eqb, ltb, leb, Option, List, [], ◌∷◌, ◌++◌, length, get_or, is_some, Some, None, decimal, replicate, codes, refl, ◌∙◌, unwrap_or, ap, subst, arith}
use Rattle.std.specs.List.{AllByRecursion}
use Rattle.std.proofs.lemmas.Str.{IsUtf8-from_ascii}
use Rattle.std.specs.Str.{IsUtf8}
use Rattle.std.proofs.ByRecursion.{IsAscii-from_all}
use Rattle.std.proofs.lemmas.Bool.{and_parts, false≢true}
use Rattle.std.proofs.lemmas.Bool.Decides.{nat_tests}
use Rattle.names.specs.Classes.{class_of, begins, goes}
use Rattle.names.specs.Names.{is_name, all_go}
use Rattle.names.specs.Lists.{name_of}
use Rattle.names.specs.Listed.{listed}
use Rattle.names.specs.declared.list.NameList.{NameList}
use Rattle.names.proofs.Laws.{listed_proper}
use Rattle.std.proofs.lemmas.List.{replicate-append-replicate}
use Rattle.document.specs.declared.Kind.TheVariants.{Element, Text}
use Rattle.outline.specs.declared.line.Line.{Line}
use Rattle.outline.specs.Lines.{label, margin, kind_words, line_words, shown_end, shown_line, shown_named_line}

abbrev Low : List ℕ → Type 0
Low n = AllByRecursion (λ b. b < 128) n

goes_low : (b : ℕ) → goes b ≡ true → b < 128
unfolding class_of
goes_low b h = grind (arith, nat_tests)

all_low : (n : List ℕ) → all_go n ≡ true → Low n
all_low [] h = tt
all_low (b ∷ n) h = let p = and_parts (goes b) (all_go n) h in (goes_low b p.0, all_low n p.1)

name_low : (n : List ℕ) → is_name n ≡ true → Low n
name_low [] h = tt
name_low (b ∷ n) h = let p = and_parts (begins b) (all_go n) h in (goes_low b (ap (λ x. x || eqb (class_of b) 2) p.0), all_low n p.1)

at_low : (names : List (List ℕ)) → AllByRecursion (λ n. (is_name n ≡ true) × (length n ≤ 32)) names → (i : ℕ) → Low (get_or names i [])
at_low [] h i = tt
at_low (n ∷ names) h zero = name_low n h.0.0
at_low (n ∷ names) h (suc i) = at_low names h.1 i

held_low : (b : Bool) (a n : List ℕ) → Low a → cond b (Some a) None ≡ Some n → Low n
held_low true a n h e = let same : a ≡ n = cc e in subst (λ (l : List ℕ). Low l) same h
held_low false a n h e = absurd (false≢true (ap is_some e))

-- what the list has of a number is ASCII
pub listed_utf8 : (list : NameList) (number : ℕ) (n : List ℕ) → name_of (listed list) number ≡ Some n → IsUtf8 n
listed_utf8 list number n e =
    IsUtf8-from_ascii n (IsAscii-from_all n (held_low _ _ n (at_low (listed list) (listed_proper list).named (number - 1)) e))

-- an empty list has no name of any number
pub label_none : (number : ℕ) → label [] number ≡ decimal number
label_none number =
    let none : (ltb 0 number && leb number 0) ≡ false = grind (arith, nat_tests) in
    ap (λ b. unwrap_or (cond {A = Option (List ℕ)} b (Some []) None) (decimal number)) none

-- eight levels more
pub eight_more : (n : ℕ) → replicate (16 * n) 32 ++ codes "                " ≡ replicate (16 * (n + 1)) 32
eight_more n =
    let more : 16 * n + 16 ≡ 16 * (n + 1) = omega arith in
    replicate-append-replicate (16 * n) 16 32 ∙ ap (λ k. replicate k 32) more

-- one level more
pub level_more : (n : ℕ) → replicate (2 * n) 32 ++ codes "  " ≡ replicate (2 * (n + 1)) 32
level_more n =
    let more : 2 * n + 2 ≡ 2 * (n + 1) = omega arith in
    replicate-append-replicate (2 * n) 2 32 ∙ ap (λ k. replicate k 32) more

-- eights of levels, and the levels past them
pub whole_margin : (eights past level : ℕ) → eights ≡ level / 8 → past ≡ level % 8 → replicate (16 * eights) 32 ++ replicate (2 * past) 32 ≡ margin level
whole_margin eights past level e p =
    let all : 16 * eights + 2 * past ≡ 2 * level = omega arith in
    replicate-append-replicate (16 * eights) (2 * past) 32 ∙ ap (λ k. replicate k 32) all

pub element_line : (names : List (List ℕ)) (l : Line) → l.kind ≡ Element
    → margin l.level ++ (decimal l.node ++ (codes " element " ++ (label names l.name ++ (codes " " ++ shown_end l.end)))) ≡ shown_named_line names l
element_line names l e = rw e refl

pub text_line : (names : List (List ℕ)) (l : Line) → l.kind ≡ Text
    → margin l.level ++ (decimal l.node ++ (codes " text " ++ shown_end l.end)) ≡ shown_named_line names l
text_line names l e = rw e refl

pub no_names : (l : Line) → shown_named_line [] l ≡ shown_line l
no_names l = ap (λ n. line_words (kind_words l.kind n) l) (label_none l.name)
