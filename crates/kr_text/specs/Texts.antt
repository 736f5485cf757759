-- To be believed: the texts that are written.
use Rattle.std.specs.Prelude.{ℕ, List, [], ◌∷◌, ◌++◌, codes, decimal, flat_map, Option, Some, None}
use Rattle.std.specs.Borrow.{Bor}
use Rattle.kr_base.specs.declared.place.Place.{Place}

-- the pieces in order
abbrev pub joined : List (Bor (List ℕ)) → List ℕ
joined pieces = flat_map (λ piece. piece.now) pieces

-- `NAME:LINE:COL`
abbrev pub place_text : List ℕ → Place → List ℕ
place_text name place = name ++ codes ":" ++ decimal place.line ++ codes ":" ++ decimal place.col

abbrev pub where_text : List ℕ → Option Place → List ℕ
where_text name (Some place) = place_text name place
where_text name None = name

-- `: RULE ITEM`, without an item if it is empty, and the line's end
abbrev pub rule_text : List ℕ → List ℕ → List ℕ
rule_text rule [] = codes ": " ++ rule ++ codes "\n"
rule_text rule (c ∷ cs) = codes ": " ++ rule ++ codes " " ++ (c ∷ cs) ++ codes "\n"

-- a refusal's line: `NAME:LINE:COL: RULE ITEM`, without a place if there is none
abbrev pub refusal_text : List ℕ → Option Place → List ℕ → List ℕ → List ℕ
refusal_text name place rule item = where_text name place ++ rule_text rule item
