-- To be believed: the order of bounds: cuts in their order, and the end above them all.
use Rattle.std.specs.Prelude.{Bool, true, false, ◌&&◌, not}
use Rattle.kr_base.specs.declared.span.Bound.{Bound}
use Rattle.kr_base.specs.declared.span.Bound.TheVariants.{At, End}
use Rattle.kr_base.specs.Cuts.{is_before}

unfoldable pub less : Bound → Bound → Bool
less (At a) (At b) = is_before a b
less (At a) End = true
less End b = false

-- neither is below the other
abbrev pub is_same : Bound → Bound → Bool
is_same a b = not (less a b) && not (less b a)

abbrev pub is_cut : Bound → Bool
is_cut (At cut) = true
is_cut End = false
