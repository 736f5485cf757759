use Rattle.std.proofs.Common.{◌∙◌, ◌≤◌, length, sym, rules}
use Rattle.std.proofs.lemmas.Bool.{false≢true}
use Rattle.toml.specs.View.{table_view}
use Rattle.toml.specs.Errors.{IsMemory}
use Rattle.kr_fin.proofs.Whole.{within_limit, of_too_long, of_toml, of_no_toml}
use Rattle.kr_fin.proofs.reading.read_fin.Goals as goal

pub returns-then-is_too_long-clause-refused : goal.returns-then-is_too_long-clause-refused
returns-then-is_too_long-clause-refused c =
    rw (of_too_long c.args.bytes.now (c.is_too_long.ensures.0 c.if-is_too_long.true)) c.broken.ensures

pub returns-in-Ok-clause-read : goal.returns-in-Ok-clause-read
returns-in-Ok-clause-read c =
    let short : length c.args.bytes.now ≤ 1048576 = within_limit _ _ c.is_too_long.result c.if-is_too_long.false c.is_too_long.ensures.1 in
    let is = of_toml c.args.bytes.now (table_view c.in-Ok.table) short c.in-Ok.ensures.ok.0 c.in-Ok.ensures.ok.1 in
    rw is (search rules)

pub returns-in-Ok-clause-refused : goal.returns-in-Ok-clause-refused
returns-in-Ok-clause-refused c =
    let short : length c.args.bytes.now ≤ 1048576 = within_limit _ _ c.is_too_long.result c.if-is_too_long.false c.is_too_long.ensures.1 in
    let is = of_toml c.args.bytes.now (table_view c.in-Ok.table) short c.in-Ok.ensures.ok.0 c.in-Ok.ensures.ok.1 in
    rw is (search rules)

pub returns-else-is_memory-clause-refused : goal.returns-else-is_memory-clause-refused
returns-else-is_memory-clause-refused c =
    let short : length c.args.bytes.now ≤ 1048576 = within_limit _ _ c.is_too_long.result c.if-is_too_long.false c.is_too_long.ensures.1 in
    let other : IsMemory c.in-Err.error → ⊥ = λ m. false≢true (sym c.if-is_memory.false ∙ c.is_memory.ensures.1 m) in
    rw (of_no_toml c.args.bytes.now short (c.in-Err.ensures.refused other)) c.broken-else-is_memory.ensures
