use Rattle.std.proofs.Common.{◌≡◌, ℕ, ap, sym, ◌∙◌, arith}
use Rattle.std.specs.Prelude.{Some, None, map}
use Rattle.kr_mean.specs.Places.{place_of}
use Rattle.kr_run_state.specs.Rows.{column_of, number_at}
use Rattle.kr_run_state.proofs.Rows.{index_beyond_at, index_within_at, not_indexed}
use Rattle.kr_run_state.proofs.reads.contains_at.Goals as goal

pub returns-in-None : goal.returns-in-None
returns-in-None c =
    let rows = c.args.rows.now.items in
    let none : number_at rows c.args.object (column_of c.args.spot) ≡ None = ap (λ (n : ℕ). number_at rows c.args.object n) (sym c.column.ensures) ∙ (sym c.number_at.ensures ∙ c.in-None.is) in
    sym (not_indexed rows (map place_of c.args.places.now) c.args.object c.args.spot c.requires none)

pub returns-then-at-places : goal.returns-then-at-places
returns-then-at-places c =
    let rows = c.args.rows.now.items in
    let number : number_at rows c.args.object (column_of c.args.spot) ≡ Some c.in-Some.at = ap (λ (n : ℕ). number_at rows c.args.object n) (sym c.column.ensures) ∙ (sym c.number_at.ensures ∙ c.in-Some.is) in
    c.is_at.ensures ∙ index_within_at place_of rows c.args.places.now c.args.object c.in-Some.at c.args.spot _ c.requires number (omega arith)

pub returns-else-at-places : goal.returns-else-at-places
returns-else-at-places c =
    let rows = c.args.rows.now.items in
    let number : number_at rows c.args.object (column_of c.args.spot) ≡ Some c.in-Some.at = ap (λ (n : ℕ). number_at rows c.args.object n) (sym c.column.ensures) ∙ (sym c.number_at.ensures ∙ c.in-Some.is) in
    sym (index_beyond_at place_of rows c.args.places.now c.args.object c.in-Some.at c.args.spot c.requires number (omega arith))
