-- The examples, by computing.
use Rattle.std.proofs.Common.{refl}
use Rattle.std.specs.Char.{encode_utf8}
use Rattle.std.specs.Str.{chars, is_utf8}
use Rattle.unicode_ident.proofs.Computing.{unicode_ident}
use Rattle.kr_fin.specs.Identifiers.{is_identifier}
use Rattle.kr_fin_upgrade.specs.Upgraded.{up}
use Rattle.kr_fin_upgrade.specs.Tables.{table_of}
use Rattle.kr_fin_upgrade.specs.Examples.{Carried, Tables}

pub carried : Carried
unfolding up is_identifier is_utf8 chars encode_utf8 unicode_ident
carried = record {
  whole = refl;
  root_alone = refl;
  names = refl;
  front_first = refl;
  parameters = refl;
  no_names = refl;
  root_null = refl;
  root_array = refl;
}

pub tables : Tables
unfolding table_of
tables = record { first = refl; second = refl }
