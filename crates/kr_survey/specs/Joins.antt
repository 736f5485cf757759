-- Between crates: rows in pieces.
use Rattle.std.specs.Prelude.{List, [], ◌∷◌, ◌++◌}
use Rattle.std.proofs.Common.{Vec, Global}

-- the lists of these vectors
abbrev pub lists : {A : Type 0} → List (Vec A Global) → List (List A)
lists [] = []
lists (v ∷ vs) = v.items ∷ lists vs

-- the pieces, one after another
abbrev pub joined : {A : Type 0} → List (List A) → List A
joined [] = []
joined (piece ∷ pieces) = piece ++ joined pieces
