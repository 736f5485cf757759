use Rattle.std.proofs.Common.{◌++◌}
use Rattle.std.specs.Prelude.{codes, decimal}
use Rattle.kr_base.specs.Writing.{stopped_early, writes_exit, writes_then}
use Rattle.kr_mean.specs.Problem.{domain_at}
use Rattle.kr_space_layout.specs.Bounds.{bare}
use Rattle.kr_report_rows.proofs.Pieces.{named_piece}
use Rattle.kr_report_rows.proofs.values.put_object_name.Goals as goal

pub returns-in_err-put_all : goal.returns-in_err-put_all
returns-in_err-put_all g c =
    writes_exit c.from_residual.result c.from_residual.ensures.0
    (stopped_early (codes "#" ++ decimal c.args.object.number) c.in_err-put_all.ensures
    (named_piece (domain_at (bare c.args.layout.now) c.args.object.domain).name (decimal c.args.object.number) c.name_of.result.now (codes "#") c.name_of.ensures))

pub returns : goal.returns
returns g c =
    writes_then c.put_rank.new.out (codes "#" ++ decimal c.args.object.number) c.put_rank.result c.in_ok-put_all.ensures c.put_rank.ensures
    (named_piece (domain_at (bare c.args.layout.now) c.args.object.domain).name (decimal c.args.object.number) c.name_of.result.now (codes "#") c.name_of.ensures)
