-- Each step keeps types.
use Rattle.kr_mean.specs.Program.{Program}
use Rattle.kr_mean.specs.Steps.{scoped}
use Rattle.kr_laws_safety.specs.Fits.{IsOf}
use Rattle.kr_laws_safety.specs.Triples.{Fixed}
use Rattle.kr_laws_safety.specs.KeepTypes.{KeepTypes}
use Rattle.kr_laws_safety.proofs.Steps.{safe_map, safe_tick, safe_this, safe_local, safe_declare, safe_assign, safe_result, safe_old, safe_within, safe_scoped, safe_see, safe_load_field, safe_store, safe_store_new, safe_length, safe_element, safe_store_element, safe_make}
use Rattle.kr_laws_safety.proofs.Operators.{safe_operated, safe_operated_alone, safe_create_array}
use Rattle.kr_laws_safety.proofs.Collections.{safe_add, safe_contains, safe_remove, safe_size, safe_is_empty, safe_remove_first}

pub keep_types : (program : Program) (fixed : Fixed) → KeepTypes program fixed
keep_types program fixed = record {
  ticks = safe_tick program fixed;
  gets_this = safe_this program fixed;
  reads_local = safe_local program fixed;
  declares = safe_declare program fixed;
  assigns = safe_assign program fixed;
  gets_result = safe_result program fixed;
  gets_old = safe_old program fixed;
  runs_within = λ types this inner ls ps t receiver vs body i j p. safe_within program fixed types this inner ls ps receiver vs body (λ more v. IsOf program.table more t v) i j p;
  runs_scoped = λ types this ls m p. safe_map program fixed types this ls (scoped m) _ _ (safe_scoped program fixed types this ls m (λ more flow. Unit {0}) (safe_map program fixed types this ls m _ _ p (λ more ms flow x. (x, tt)))) (λ more ms flow x. x.0);
  sees_class = safe_see program fixed;
  loads_field = safe_load_field program fixed;
  stores_field = safe_store program fixed;
  stores_new_field = safe_store_new program fixed;
  loads_length = safe_length program fixed;
  loads_element = safe_element program fixed;
  stores_element = safe_store_element program fixed;
  makes = safe_make program fixed;
  adds = safe_add program fixed;
  contains = safe_contains program fixed;
  removes = safe_remove program fixed;
  gives_size = safe_size program fixed;
  gives_is_empty = safe_is_empty program fixed;
  removes_first = safe_remove_first program fixed;
  operates = safe_operated program fixed;
  operates_alone = safe_operated_alone program fixed;
  creates_array = safe_create_array program fixed;
}
