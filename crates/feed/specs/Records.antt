-- A feed record: four bytes that stand for one call.
use Rattle.std.specs.Prelude.{ℕ, ◌+◌, ◌*◌, ◌/◌, ◌%◌, cond, ◌&&◌, List, [], ◌∷◌, length, Some, None, Option, ◌==◌, slice_index}
use Rattle.document.specs.declared.Call.{Call}
use Rattle.document.specs.declared.Call.TheVariants.{Open, Text, Close}

-- code, 0, and the name number, lowest byte first
abbrev pub encoded : Call → List ℕ
encoded (Open name) = 1 ∷ 0 ∷ name % 256 ∷ name / 256 ∷ []
encoded Text = 2 ∷ 0 ∷ 0 ∷ 0 ∷ []
encoded (Close name) = 3 ∷ 0 ∷ name % 256 ∷ name / 256 ∷ []

abbrev pub by_code : ℕ → ℕ → Option Call
by_code code name =
    cond (code == 1) (Some (Open name))
    (cond (code == 2 && name == 0) (Some Text)
    (cond (code == 3) (Some (Close name))
    None))

-- the call that bytes stand for, if they are a record
abbrev pub decoded : List ℕ → Option Call
decoded bs = cond (length bs == 4 && slice_index bs 1 == 0) (by_code (slice_index bs 0) (slice_index bs 2 + slice_index bs 3 * 256)) None
