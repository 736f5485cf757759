use Rattle.std.proofs.Common.{◌≡◌, ◌++◌, length, map}
use Rattle.std.specs.Vec.Iter.{into_iter_items, into_iter_len}
use Rattle.kr_survey.proofs.mapped.make_rows.Given as goal

abbrev pub invariant-loop-row : goal.invariant-loop-row
invariant-loop-row g l = (l.yielded ++ into_iter_items l.row-iterator ≡ l.fn.rows.items) × (into_iter_len l.row-iterator ≡ length (into_iter_items l.row-iterator))
    × (l.all.items ≡ map (g.M.Making.made_of l.making) l.yielded)
