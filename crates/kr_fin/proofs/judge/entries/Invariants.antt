use Rattle.std.proofs.Common.{◌≡◌, fold}
use Rattle.toml.specs.View.{members_view}
use Rattle.kr_fin.specs.Faults.{entries}
use Rattle.kr_fin.specs.Order.{lesser}
use Rattle.kr_fin.proofs.judge.entries.Given as goal

abbrev pub invariant-loop-key : goal.invariant-loop-key
invariant-loop-key l =
    fold lesser l.initial.least (entries l.section (members_view l.table.entries))
    ≡ fold lesser l.least (entries l.section (members_view l.key-iterator))
