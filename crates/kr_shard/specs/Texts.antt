-- To be believed: the first line of a shard's text.
use Rattle.std.specs.Prelude.{ℕ, List, [], ◌∷◌, ◌++◌, codes}
use Rattle.kr_base.specs.declared.span.Bound.{Bound}
use Rattle.kr_base.specs.declared.span.Bound.TheVariants.{At, End}
use Rattle.kr_base.specs.declared.span.Span.{Span}
use Rattle.kr_base.specs.Cuts.{cut_text}

-- `start` for the empty cut
abbrev pub from_text : List ℕ → List ℕ
from_text [] = codes "start"
from_text (n ∷ ns) = cut_text (n ∷ ns)

abbrev pub to_text : Bound → List ℕ
to_text End = codes "end"
to_text (At cut) = cut_text cut

-- `shard FROM TO`
abbrev pub first_text : Span → List ℕ
first_text span = ((codes "shard " ++ from_text span.after) ++ (codes " " ++ to_text span.upto)) ++ codes "\n"
