-- The parts of a test by their nodes are those of the program whose code it is.
use Rattle.std.proofs.Common.{◌≡◌, ℕ, ◌+◌, Bool, true, false, List, [], ◌∷◌, Some, Result, Ok, Err, refl, sym, ap, ◌∙◌, if◌then◌else◌}
use Rattle.std.specs.Prelude.{map}
use Rattle.kr_value.specs.declared.value.Value.{Value}
use Rattle.kr_value.specs.declared.value.Value.TheVariants.{Null}
use Rattle.kr_classes_table.specs.Table.{Method}
use Rattle.kr_mean.specs.declared.kind.Kind.{Kind}
use Rattle.kr_mean.specs.declared.kind.Stop.{Stop}
use Rattle.kr_mean.specs.declared.kind.Stop.TheVariants.{Trapped, OutOfFuel, Stuck}
use Rattle.kr_mean.specs.declared.kind.Verdict.{Verdict}
use Rattle.kr_mean.specs.declared.kind.Verdict.TheVariants.{CheckTrap, Ensures, RepOk, Signals}
use Rattle.kr_mean.specs.Program.{Program}
use Rattle.kr_mean.specs.Problem.{Problem}
use Rattle.kr_mean.specs.Steps.{Old, Outcome, State, Run, bind, give}
use Rattle.kr_mean.specs.Thrown.{class_of_kind, is_caught, object_of}
use Rattle.kr_mean.specs.Meaning.{body_of, value}
use Rattle.kr_mean.specs.Code.{Node}
use Rattle.kr_mean.specs.Runs.{ensures_of, rep_ok_node}
use Rattle.kr_mean.specs.Verdicts.{OldNode, Signal, after_body, checked, ensured, fitting, judged_as, naming, olds_of, olds_valued, signalled, signals_of, then_judged, thrown, verdict_from, where_holds}
use Rattle.kr_laws_runs.proofs.Bounds.{body_is}
use Rattle.kr_code.specs.declared.code.Code.{Code}
use Rattle.kr_code.specs.Resolved.{AreTables, IsCodeOf, Numbering}
use Rattle.kr_code.specs.Doing.{Doing}
use Rattle.kr_code_laws.specs.Laws.{doing_of}
use Rattle.kr_code_laws.proofs.Lookups.{fits, takes}
use Rattle.kr_code_laws.proofs.Resolved.{is_run_by}
use Rattle.kr_judge_prepared.specs.Tested.{IsContractOf, old_shown, signals_shown}
use Rattle.kr_judge_prepared.specs.declared.contract.Contract.{Contract}
use Rattle.kr_judge_prepared.specs.declared.contract.OldCode.{OldCode}
use Rattle.kr_judge_prepared.specs.declared.contract.SignalCode.{SignalCode}
use Rattle.kr_contract.specs.Tests.{after_body_at, body_at, checked_at, ensured_at, fitting_at, olds_at, signalled_at, signals_at, thrown_at, verdict_at}
use Rattle.kr_contract.proofs.Judged.{then_same}

module _ (program : Program) (n : Numbering) where
  olds_are : (os : List OldCode) → olds_at (doing_of program n) os ≡ olds_valued program (map (old_shown n) os)
  olds_are [] = refl
  olds_are (o ∷ os) = ap (λ (m : Run (List Old)). bind (naming o.is_named Null (value program (n.origin o.operand).scope (n.origin o.operand).tree)) (λ v. bind m (λ vs. give (record { place = o.place; value = v } ∷ vs)))) (olds_are os)

  ensured_are : (k : ℕ) (is : List ℕ) → ensured_at (doing_of program n) k is ≡ ensured program k (map n.origin is)
  ensured_are k [] = refl
  ensured_are k (i ∷ is) = ap (λ (f : State → Verdict). λ (s : State). then_judged CheckTrap (value program (n.origin i).scope (n.origin i).tree s) (λ v t. where_holds v (Ensures k) (f t))) (ensured_are (k + 1) is)

  -- a clause by its number
  abbrev pair_shown : ℕ × SignalCode → Signal
  pair_shown p = record { number = p.0; type = n.type p.1.caught; is_named = p.1.is_named; condition = n.origin p.1.condition }

  signalled_are : (o : Value) (ps : List (ℕ × SignalCode)) → signalled_at (doing_of program n) o ps ≡ signalled program o (map pair_shown ps)
  signalled_are o [] = refl
  signalled_are o (p ∷ ps) = ap (λ (f : State → Verdict). λ (s : State). then_judged CheckTrap (naming p.1.is_named o (value program (n.origin p.1.condition).scope (n.origin p.1.condition).tree) s) (λ v t. where_holds v (Signals p.0) (f t))) (signalled_are o ps)

  fitting_are : (code : Code) → AreTables program code n → (k : Kind) (j : ℕ) (cs : List SignalCode) → map pair_shown (fitting_at code k j cs) ≡ fitting program k (signals_shown n j cs)
  fitting_are code tables k j [] = refl
  fitting_are code tables k j (c ∷ cs) =
      ap (λ (b : Bool). map pair_shown (if b then (j, c) ∷ fitting_at code k (j + 1) cs else fitting_at code k (j + 1) cs)) (fits program code n tables c.caught (n.type c.caught) k refl)
      ∙ go (is_caught program (n.type c.caught) (class_of_kind program k)) (fitting_are code tables k (j + 1) cs)
    where
      x : Signal
      x = pair_shown (j, c)

      go : (b : Bool) → map pair_shown (fitting_at code k (j + 1) cs) ≡ fitting program k (signals_shown n (j + 1) cs)
          → map pair_shown (if b then (j, c) ∷ fitting_at code k (j + 1) cs else fitting_at code k (j + 1) cs) ≡ (if b then x ∷ fitting program k (signals_shown n (j + 1) cs) else fitting program k (signals_shown n (j + 1) cs))
      go true h = ap (λ (xs : List Signal). x ∷ xs) h
      go false h = h

module _ (problem : Problem) (code : Code) (n : Numbering) (m : Method) (rep_ok : ℕ) (contract : Contract) (is : IsCodeOf problem.program code n) (root : n.origin rep_ok ≡ rep_ok_node problem) (of : IsContractOf problem.program code n m contract) where
  olds_same : (s : State) (next : List Old → State → Verdict) → then_judged CheckTrap (olds_at (doing_of problem.program n) contract.olds.items s) next ≡ then_judged CheckTrap (olds_valued problem.program (olds_of problem.program m) s) next
  olds_same s next =
      ap (λ (r : Run (List Old)). then_judged CheckTrap (r s) next) (olds_are problem.program n contract.olds.items)
      ∙ ap (λ (os : List OldNode). then_judged CheckTrap (olds_valued problem.program os s) next) of.olds

  body_same : (s : State) → body_at code (doing_of problem.program n) contract.method s ≡ body_of problem.program s.this_value (map (λ l. l.value) s.locals) m s
  body_same s =
      (is_run_by problem.program code n is).methods m contract.method of.method s.this_value (map (λ l. l.value) s.locals) s
      ∙ sym (body_is problem.program s.this_value (map (λ l. l.value) s.locals) m s)

  ensured_same : (s : State) → ensured_at (doing_of problem.program n) 1 contract.postconditions.items s ≡ ensured problem.program 1 (ensures_of problem.program m) s
  ensured_same s =
      ap (λ (f : State → Verdict). f s) (ensured_are problem.program n 1 contract.postconditions.items)
      ∙ ap (λ (es : List Node). ensured problem.program 1 es s) of.postconditions

  checked_same : (olds : List Old) (result : Value) (s : State) → checked_at (doing_of problem.program n) rep_ok contract.postconditions.items olds result s ≡ checked problem m olds result s
  checked_same olds result s =
      ap (λ (e : Node). then_judged CheckTrap (value problem.program e.scope e.tree s) (λ v t. where_holds v RepOk (ensured_at (doing_of problem.program n) 1 contract.postconditions.items (record t { result = Some result; olds = olds })))) root
      ∙ then_same CheckTrap (value problem.program (rep_ok_node problem).scope (rep_ok_node problem).tree s) _ _ (λ v t. ap (where_holds v RepOk) (ensured_same (record t { result = Some result; olds = olds })))

  -- ---- a body that throws

  abbrev d : Doing
  d = doing_of problem.program n

  signals_same : (olds : List Old) (o : Value) (p : ℕ × SignalCode) (ps : List (ℕ × SignalCode)) (s : State)
      → signals_at d rep_ok olds o (p ∷ ps) s ≡ then_judged CheckTrap (value problem.program (rep_ok_node problem).scope (rep_ok_node problem).tree s) (λ v u. where_holds v RepOk (signalled problem.program o (map (pair_shown problem.program n) (p ∷ ps)) (record u { olds = olds })))
  signals_same olds o p ps s =
      ap (λ (e : Node). then_judged CheckTrap (value problem.program e.scope e.tree s) (λ v u. where_holds v RepOk (signalled_at d o (p ∷ ps) (record u { olds = olds })))) root
      ∙ ap (λ (f : State → Verdict). then_judged CheckTrap (value problem.program (rep_ok_node problem).scope (rep_ok_node problem).tree s) (λ v u. where_holds v RepOk (f (record u { olds = olds })))) (signalled_are problem.program n o (p ∷ ps))

  thrown_same : (olds : List Old) (k : Kind) (ps : List (ℕ × SignalCode)) (s : State) → thrown_at code d rep_ok olds k ps s ≡ thrown problem m olds k (map (pair_shown problem.program n) ps) s
  thrown_same olds k [] s = refl
  thrown_same olds k (p ∷ ps) s =
      ap (λ (o : Outcome Value). then_judged CheckTrap o (λ v t. signals_at d rep_ok olds v (p ∷ ps) t)) (takes problem.program code n is.tables k s)
      ∙ then_same CheckTrap (object_of problem.program k s) _ _ (λ o t. signals_same olds o p ps t)

  after_body_same : (olds : List Old) (o : Outcome Value) → after_body_at code d rep_ok contract olds o ≡ after_body problem m olds o
  after_body_same olds o = go o.said o.after
    where
      go : (r : Result Value Stop) (s : State)
          → judged_as (λ k. thrown_at code d rep_ok olds k (fitting_at code k 1 contract.signals.items) s) r s (λ v u. checked_at d rep_ok contract.postconditions.items olds v u)
          ≡ judged_as (λ k. thrown problem m olds k (fitting problem.program k (signals_of problem.program m)) s) r s (λ v u. checked problem m olds v u)
      go (Ok v) s = checked_same olds v s
      go (Err (Trapped k)) s =
          thrown_same olds k (fitting_at code k 1 contract.signals.items) s
          ∙ ap (λ (cs : List Signal). thrown problem m olds k cs s) (fitting_are problem.program n code is.tables k 1 contract.signals.items ∙ ap (fitting problem.program k) of.signals)
      go (Err OutOfFuel) s = refl
      go (Err Stuck) s = refl

  pub verdict_same : (s : State) → verdict_at code d rep_ok contract s ≡ verdict_from problem m s
  verdict_same s =
      olds_same s (λ olds t. after_body_at code d rep_ok contract olds (body_at code d contract.method t))
      ∙ then_same CheckTrap (olds_valued problem.program (olds_of problem.program m) s) _ _
      (λ olds t. ap (after_body_at code d rep_ok contract olds) (body_same t) ∙ after_body_same olds (body_of problem.program t.this_value (map (λ l. l.value) t.locals) m t))
