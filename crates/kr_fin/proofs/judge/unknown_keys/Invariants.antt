use Rattle.std.proofs.Common.{◌≡◌, fold, option_map, unwrap_or}
use Rattle.toml.specs.View.{members_view}
use Rattle.kr_fin.specs.Faults.{unknown_keys}
use Rattle.kr_fin.specs.Order.{lesser}
use Rattle.kr_fin.proofs.judge.unknown_keys.Given as goal

abbrev pub invariant-loop-key : goal.invariant-loop-key
invariant-loop-key l =
    fold lesser l.initial.least (unknown_keys l.shape (λ key. unwrap_or (option_map (λ i. i.now) l.item) key) (members_view l.table.entries))
    ≡ fold lesser l.least (unknown_keys l.shape (λ key. unwrap_or (option_map (λ i. i.now) l.item) key) (members_view l.key-iterator))
