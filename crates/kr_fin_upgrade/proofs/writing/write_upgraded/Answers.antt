use Rattle.std.proofs.Common.{◌≡◌, Some, subst, string_bytes}
use Rattle.std.specs.Prelude.{◌≤◌}
use Rattle.std.specs.Str.{IsUtf8}
use Rattle.toml.specs.Data.{Members, members_depth}
use Rattle.toml.specs.Parse.{parse_document}
use Rattle.kr_fin.proofs.Whole.{table_at_ok}
use Rattle.kr_fin_upgrade.specs.Tables.{table_of}
use Rattle.kr_fin_upgrade.specs.Upgraded.{up}
use Rattle.kr_fin_upgrade.proofs.Depths.{shallow}
use Rattle.kr_fin_upgrade.proofs.writing.write_upgraded.Goals as goal

pub returns-in-Ok-clause-read : goal.returns-in-Ok-clause-read
returns-in-Ok-clause-read c =
    let document = up c.args.document.now in
    let read = subst (λ (ms : Members). members_depth ms ≤ 80 → parse_document (string_bytes c.in-Ok.text) ≡ Some ms) c.in_ok-table.ensures c.in-Ok.ensures.reads_back in
    let utf8 : IsUtf8 (string_bytes c.in-Ok.text) = subst IsUtf8 c.as_str.ensures.value c.as_str.utf8 in
    table_at_ok (string_bytes c.in-Ok.text) (table_of document) utf8 (read (shallow document))
