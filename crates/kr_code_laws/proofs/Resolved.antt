-- Code of a program means what the program means.
use Rattle.std.proofs.Common.{ℕ, ◌≤◌, true, List, [], ◌∷◌, Option, Some, None, Result, Ok, Err, refl, sym, ◌∙◌, arith}
use Rattle.kr_value.specs.declared.value.Value.{Value}
use Rattle.kr_value.specs.declared.value.Value.TheVariants.{Bool as Truth}
use Rattle.kr_mean.specs.declared.kind.Stop.{Stop}
use Rattle.kr_mean.specs.Program.{Program}
use Rattle.kr_mean.specs.Steps.{State, Run, go_on, bind, give, ◌>>=◌, tick}
use Rattle.kr_mean.specs.declared.flow.Flow.{Flow}
use Rattle.kr_mean.specs.declared.flow.Flow.TheVariants.{Next, Broke, Continued, Left, Gave}
use Rattle.kr_mean.specs.Meaning.{then_update}
use Rattle.kr_laws_runs.specs.Laws.{Spends}
use Rattle.kr_laws_runs.proofs.Bounds.{value_is, execute_is, loop_is, value_spends, execute_spends}
use Rattle.kr_code.specs.declared.code.Code.{Code}
use Rattle.kr_code.specs.Tables.{node_at, expression_of, statement_of}
use Rattle.kr_code.specs.Doing.{Doing, updates_at, condition, for_round, IsMeaning}
use Rattle.kr_code.specs.Resolved.{Numbering, IsCodeOf}
use Rattle.kr_code_laws.specs.Laws.{doing_of, IsRunBy}
use Rattle.kr_code_laws.proofs.Agreeing.{then_same}
use Rattle.kr_code_laws.proofs.Calls.{method_runs}
use Rattle.kr_code_laws.proofs.Expressions.{expression_same}
use Rattle.kr_code_laws.proofs.Statements.{statement_same}

-- ---- loops spend their units

then_spends : {A B : Type 0} (m : Run A) (f : A → Run B) → Spends m → ((a : A) → Spends (f a)) → Spends (m >>= f)
unfolding bind
then_spends {A} {B} m f p q s = go (m s).said (m s).after (m s).reads (p s)
  where
    go : (r : Result A Stop) (t : State) (ps : _) → t.fuel ≤ s.fuel → (go_on r t ps f).after.fuel ≤ s.fuel
    go (Ok a) t ps l = omega (arith, q a t, l)
    go (Err e) t ps l = l

give_spends : {A : Type 0} (a : A) → Spends (give a)
give_spends a s = omega arith

update_spends : (f : Flow) (m : Run Flow) → Spends m → Spends (then_update f m)
update_spends Next m p = p
update_spends Broke m p = give_spends Broke
update_spends Continued m p = p
update_spends Left m p = give_spends Left
update_spends (Gave v) m p = give_spends (Gave v)

module _ (program : Program) (code : Code) (n : Numbering) (is : IsCodeOf program code n) where
  abbrev d : Doing
  d = doing_of program n

  values_spend : (i : ℕ) → Spends (d.value i)
  values_spend i = value_spends program (n.origin i).scope (n.origin i).tree

  execs_spend : (i : ℕ) → Spends (d.exec i)
  execs_spend i = execute_spends program (n.origin i).scope (n.origin i).tree

  updates_spend : (is : List ℕ) → Spends (updates_at d is)
  updates_spend [] = give_spends Next
  updates_spend (i ∷ is) = then_spends (d.value i) (λ v. updates_at d is) (values_spend i) (λ v. updates_spend is)

  condition_spends : (e : Option ℕ) → Spends (condition d e)
  condition_spends None = give_spends {A = Value} (Truth true)
  condition_spends (Some e) = values_spend e

  round_spends : (a : ℕ) (us : List ℕ) → Spends (for_round d a us)
  round_spends a us = then_spends (d.exec a) (λ f. then_update f (updates_at d us)) (execs_spend a) (λ f. update_spends f (updates_at d us) (updates_spend us))

  means : IsMeaning code d
  means = record {
    value_is = λ i s. value_is program (n.origin i).scope (n.origin i).tree s ∙ sym (then_same tick tick _ _ (λ x. refl) (λ u. expression_same program code n is.tables (n.origin i).scope (n.origin i).tree (expression_of (node_at code i)) (is.expressions i)) s);
    exec_is = λ i s. execute_is program (n.origin i).scope (n.origin i).tree s ∙ sym (statement_same program code n is.tables (n.origin i).scope (n.origin i).tree (statement_of (node_at code i)) (is.statements i) s);
    while_is = λ e a s. loop_is program (d.value e) (d.exec a) (values_spend e) (execs_spend a) s;
    for_is = λ e a us s. loop_is program (condition d e) (for_round d a us) (condition_spends e) (round_spends a us) s;
  }

pub is_run_by : (program : Program) (code : Code) (n : Numbering) → IsCodeOf program code n → IsRunBy program code n
is_run_by program code n is = record { meaning = means program code n is; methods = λ m k h o vs s. method_runs program code n is.tables m k h o vs s }
