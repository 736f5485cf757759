use Rattle.std.proofs.Common.{◌∙◌, ◌+◌, ◌<◌, [], length, take, sym, subst, arith}
use Rattle.std.specs.Prelude.{ℕ, List, Option, Err, IfSome, slice_index_or}
use Rattle.kr_shard.specs.Found.{AreShards, HasRead, IsShard}
use Rattle.kr_shard.proofs.Told.{shards_next, stopped_at}
use Rattle.kr_shard.proofs.files.read_files.Goals as goal

pub returns-in-Err-clause-read : goal.returns-in-Err-clause-read
returns-in-Err-clause-read g c =
    let P : List ℕ → Type 0 = λ name. HasRead g.F.Files.held g.F.Files.faults g.F.Files.last c.loop-number.number name c.loop-number.files c.read_file.new.files (Err c.in-Err.stop) in
    let read = subst P c.get.ensures c.in-Err.ensures.read in
    let within : c.loop-number.number < length c.args.names.now = omega (arith, c.loop-number-test.true, c.len-number-end.ensures) in
    stopped_at g.F.Files.held g.F.Files.faults g.F.Files.last c.args.names.now c.loop-number.number c.args.files.now c.loop-number.files c.read_file.new.files c.loop-number.shards.items c.in-Err.stop
    within c.loop-number.invariant.0 c.loop-number.invariant.1.constant c.loop-number.invariant.2 read

pub loop-number-preserved : goal.loop-number-preserved
loop-number-preserved g c =
    let held = g.F.Files.held in
    let names = c.args.names.now in
    let i = c.loop-number.number in
    let name = slice_index_or names i [] in
    let kept = c.loop-number.invariant in
    let within : i < length names = omega (arith, c.loop-number-test.true, c.len-number-end.ensures) in
    let read = subst (λ (told : Option (List ℕ)). IfSome told (IsShard c.in-Ok.shard)) (kept.1.constant name) (rw c.get.ensures at c.in-Ok.ensures.read) in
    let more = shards_next (held c.args.files.now) names i c.loop-number.shards.items c.in-Ok.shard within kept.0 read in (
      subst (λ made. AreShards (held c.args.files.now) (take (i + 1) names) made) (sym c.in_ok-add_shard-in-Ok.ensures.added) more,
      record { constant = λ other. c.in-Ok.ensures.later.constant other ∙ kept.1.constant other; count = omega (arith, c.in-Ok.ensures.later.count, kept.1.count) },
      c.in-Ok.ensures.count ∙ kept.2,
    )
