use Rattle.std.proofs.Common.{string_bytes}
use Rattle.kr_fin_upgrade.proofs.Fuels.{fuel_few}
use Rattle.korat_top_files.specs.Chains.{stating}
use Rattle.korat_top_files.specs.Upgrades.{carrying}
use Rattle.korat_top_files.proofs.Outcomes.{meets_next}
use Rattle.korat_top_files.proofs.upgrade.carry.Goals as goal

pub carry_document-requires : goal.carry_document-requires
carry_document-requires c = fuel_few c.args.bytes.now c.in_ok-document.document c.in_ok-document.ensures.read

pub returns : goal.returns
returns c = record {
  carried = meets_next (stating c.args.bytes.now) carrying string_bytes c.in_ok-document.document c.carry_document.result c.in_ok-document.ensures.read c.carry_document.ensures;
}
