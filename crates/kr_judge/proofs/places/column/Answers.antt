use Rattle.std.proofs.Common.{◌≡◌, ◌<◌, sym, subst}
use Rattle.std.specs.Prelude.{MatchOption}
use Rattle.kr_value.specs.declared.object.Class.{Class}
use Rattle.kr_judge.specs.Columns.{HasNone, spot_at}
use Rattle.kr_judge.proofs.places.column.Goals as goal

pub returns-in-Object : goal.returns-in-Object
returns-in-Object c = subst (λ (k : Class). MatchOption c.field_column.result (HasNone k c.args.width c.args.spot) (λ j. (j < c.args.width) × (spot_at k j ≡ c.args.spot))) (sym c.in-Object.is) c.field_column.ensures

pub returns-in-Set : goal.returns-in-Set
returns-in-Set c = subst (λ (k : Class). MatchOption c.field_column-in-Set.result (HasNone k c.args.width c.args.spot) (λ j. (j < c.args.width) × (spot_at k j ≡ c.args.spot))) (sym c.in-Set.is) c.field_column-in-Set.ensures

pub returns-in-List : goal.returns-in-List
returns-in-List c = subst (λ (k : Class). MatchOption c.field_column-in-List.result (HasNone k c.args.width c.args.spot) (λ j. (j < c.args.width) × (spot_at k j ≡ c.args.spot))) (sym c.in-List.is) c.field_column-in-List.ensures
