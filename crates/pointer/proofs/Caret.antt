-- The caret stands below the byte at the place, and the lines are short.
use Rattle.std.proofs.Common.{◌≡◌, ℕ, ◌+◌, ◌-◌, ◌<◌, ◌≤◌, min, Bool, true, false, ltb, List, ◌++◌, length, get_or, take, drop, replicate, codes, ap, ◌∙◌, arith, length-append, length-drop, length-take, get_or-drop, get_or-take, get_or-append-add}
use Rattle.std.proofs.Math.ListN.{get_or-append}
use Rattle.std.proofs.lemmas.List.{length-replicate, length-map, get_or-map}
use Rattle.std.proofs.lemmas.Bool.Decides.{nat_tests}
use Rattle.pointer.specs.Pointed.{column_of, columns, dots, start_of, column_at, text_line, CaretBelow, LinesFit}

abbrev near : List ℕ → ℕ → List ℕ
near text place = take 76 (drop (start_of place) text)

-- the dots behind a text, if any
abbrev after : List ℕ → ℕ → List ℕ
after text place = dots (ltb 76 (length (drop (start_of place) text)))

dots_at_most : (b : Bool) → length (dots b) ≤ 3
dots_at_most true = omega arith
dots_at_most false = omega arith

length-near : (text : List ℕ) (place : ℕ) → length (columns (near text place)) ≡ min 76 (length text - start_of place)
length-near text place = length-map (near text place) column_of ∙ length-take 76 (drop (start_of place) text) ∙ ap (min 76) (length-drop (start_of place) text)

length-line : (text : List ℕ) (place : ℕ) → length (text_line text place) ≡ length (dots (ltb 0 (start_of place))) + (length (columns (near text place)) + length (after text place))
length-line text place =
    length-append (dots (ltb 0 (start_of place))) (columns (near text place) ++ after text place)
    ∙ ap (λ n. length (dots (ltb 0 (start_of place))) + n) (length-append (columns (near text place)) (after text place))

shows : (text : List ℕ) (place : ℕ) → place < length text → get_or (text_line text place) (column_at place) 0 ≡ column_of (get_or text place 0)
shows text place lt =
    let start = start_of place in
    let far = place - start in
    let size = length-near text place in
    let long = length-take 76 (drop start text) ∙ ap (min 76) (length-drop start text) in
    let back : start + far ≡ place = omega arith in
    get_or-append-add (dots (ltb 0 start)) (columns (near text place) ++ after text place) far 0
    ∙ get_or-append (columns (near text place)) (after text place) 0 far (omega arith)
    ∙ get_or-map column_of (near text place) far 0 0 (omega arith)
    ∙ ap column_of (get_or-take 76 (drop start text) far 0 (omega arith) ∙ get_or-drop start text far 0 ∙ ap (λ n. get_or text n 0) back)

no_dots : (n : ℕ) → n ≤ 76 → length (dots (ltb 76 n)) ≡ 0
no_dots n le = grind (arith, nat_tests)

ends : (text : List ℕ) (place : ℕ) → place ≡ length text → length (text_line text place) ≡ column_at place
ends text place e =
    let rest = length-drop (start_of place) text in
    omega (arith, length-line text place, length-near text place, no_dots (length (drop (start_of place) text)) (omega arith))

pub caret_below : CaretBelow
caret_below text place = (shows text place, ends text place)

pub lines_fit : LinesFit
lines_fit text place =
    let before = dots_at_most (ltb 0 (start_of place)) in
    let behind = dots_at_most (ltb 76 (length (drop (start_of place) text))) in (
      omega (arith, length-line text place, length-near text place),
      omega (arith, length-append (replicate (column_at place) 32) (codes "^"), length-replicate {A = ℕ} (column_at place) 32),
    )
