use Rattle.std.proofs.Common.{◌<◌, length, arith, refl}
use Rattle.kr_run_state.proofs.Rows.{there_long, there_within, written_at}
use Rattle.kr_run_state.proofs.reads.write.Goals as goal

pub index_mut-row-requires : goal.index_mut-row-requires
index_mut-row-requires c =
    let long : c.args.object < length c.args.rows.now.items = there_long c.args.rows.now.items c.args.object c.args.column c.requires in
    omega (arith, long, c.args.rows.now.ok.0)

pub index_mut-requires : goal.index_mut-requires
index_mut-requires c =
    let row = c.index_mut-row.result.now in
    let within : c.args.column < length row.items = there_within c.args.rows.now.items c.args.object c.args.column row c.requires c.index_mut-row.ensures.value in
    omega (arith, within, row.ok.0)

pub returns : goal.returns
returns c = written_at c.args.rows.now.items c.args.object c.args.column c.args.number c.index_mut-row.result.now _ c.requires c.index_mut-row.ensures.value refl
