-- The sentence that says what was read.
use Rattle.std.specs.Prelude.{ℕ, cond, List, ◌++◌, codes, decimal, ◌==◌}
use Rattle.outline.specs.declared.summary.Summary.{Summary}

-- how many there are, and their name in the singular or in the plural
abbrev pub things : ℕ → List ℕ → List ℕ → List ℕ
things n one many = decimal n ++ (codes " " ++ cond (n == 1) one many)

abbrev pub sentence : Summary → List ℕ
sentence s =
    codes "Read " ++ (things s.records (codes "record") (codes "records")
    ++ (codes ": " ++ (things s.nodes (codes "node") (codes "nodes")
    ++ (codes ", " ++ (things s.open (codes "element") (codes "elements") ++ codes " open.")))))
