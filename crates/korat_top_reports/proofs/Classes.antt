-- A program has fewer classes than there are numbers of 32 bits.
use Rattle.std.proofs.Common.{◌≡◌, ◌<◌, ◌^◌, List, length, sym, ap, ◌∙◌, arith}
use Rattle.std.proofs.lemmas.List.{length-map}
use Rattle.kr_classes_table.specs.Table.{Heading, table_of}
use Rattle.kr_types.specs.declared.program.Program.{Program}
use Rattle.kr_types.specs.Programs.{IsProgram}
use Rattle.kr_code_members.specs.Nodes.{table}
use Rattle.kr_classes_table.proofs.Tables.{long}

pub few_classes : (p : Program) → IsProgram p → length (table p).classes < 2 ^ 32
unfolding table_of
few_classes p program =
    let heads = program.table.table.heads in
    let same : length p.table.heads.headings.items ≡ length (table p).headings = sym (length-map _ _) ∙ ap (λ (hs : List Heading). length hs) heads.shown in
    let count : length (table p).classes ≡ length (table p).headings = long (table p).headings 0 (table p).headings in
    omega (arith, heads.few, same, count)
