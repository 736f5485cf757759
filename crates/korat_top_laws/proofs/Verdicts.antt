-- The verdicts of a problem's rows: none of a listing, one of a test, with a condition's number of 32 bits, or a kind whose name is a word.
use Rattle.std.proofs.Common.{◌≡◌, ℕ, zero, suc, ◌+◌, ◌^◌, ◌<◌, ◌≤◌, true, false, List, [], ◌∷◌, length, length-append, map, Option, Some, Result, Ok, Err, refl, sym, subst, arith, nat_lt}
use Rattle.std.specs.Prelude.{Bool, ◌==◌, codes, flat_map, if◌then◌else◌, is_some}
use Rattle.std.specs.List.{AllByRecursion, list_all}
use Rattle.std.proofs.lemmas.Bool.{and_parts}
use Rattle.std.proofs.lemmas.Bool.Decides.{nat_tests}
use Rattle.std.proofs.lemmas.List.{length-map}
use Rattle.kr_ast.specs.Tree as trees
use Rattle.kr_ast.specs.Tree.{Tree}
use Rattle.kr_value.specs.declared.value.Value.{Value}
use Rattle.kr_value.specs.declared.value.Value.TheVariants.{Bool as Truth}
use Rattle.kr_classes_table.specs.Table.{Heading, Method}
use Rattle.kr_mean.specs.Code.{Node}
use Rattle.kr_mean.specs.Meaning.{body_of, value}
use Rattle.kr_mean.specs.Problem.{Problem}
use Rattle.kr_mean.specs.Program.{Program, method_scope}
use Rattle.kr_mean.specs.Runs.{ensured_in, ensures_of, rep_ok_node, tested_method}
use Rattle.kr_mean.specs.Steps.{Old, State}
use Rattle.kr_mean.specs.Thrown.{class_of_kind, is_caught, object_of}
use Rattle.kr_mean.specs.Verdicts.{Signal, checked, ensured, fitting, judged_as, naming, olds_of, olds_valued, signalled, signals_from, signals_of, test_start, thrown, verdict_by, verdict_from, verdict_of, where_holds}
use Rattle.kr_mean.specs.declared.kind.Kind.{Kind}
use Rattle.kr_mean.specs.declared.kind.Kind.TheVariants.{NullPointerException, ArithmeticException, ArrayIndexOutOfBoundsException, NegativeArraySizeException, ClassCastException, NoSuchElementException, Thrown, NoReturn, ArrayTooLong}
use Rattle.kr_mean.specs.declared.kind.Stop.{Stop}
use Rattle.kr_mean.specs.declared.kind.Stop.TheVariants.{Trapped, OutOfFuel, Stuck}
use Rattle.kr_mean.specs.declared.kind.Verdict.{Verdict}
use Rattle.kr_mean.specs.declared.kind.Verdict.TheVariants.{Ensures, Signals, RepOk, CheckTrap}
use Rattle.kr_mean.specs.declared.mode.Mode.TheVariants.{List as Listing}
use Rattle.kr_report.proofs.Texts.{no_verdict}
use Rattle.kr_report.specs.Texts.{thrown_name, trap_text}
use Rattle.kr_shard_laws.specs.Names.{IsIdentifier}
use Rattle.kr_shard_laws.proofs.ProblemNames.{name_line, name_some, name_word}
use Rattle.kr_text.specs.Splitting.{IsWithout}
use Rattle.kr_types_meaning.specs.Scopes.{Ensuring, Scope, in_contract}
use Rattle.korat_top_laws.specs.RowLines.{IsOneWord, IsWritable}

abbrev IsSmall : Signal → Type 0
IsSmall c = (0 < c.number) × (c.number < 2 ^ 32)

module _ (classes : List Heading) (words : (kind : Kind) → IsOneWord (trap_text classes kind)) where
  abbrev IsGood : Verdict → Type 0
  IsGood v = IsWritable classes (Some v)

  judged_good : {A : Type 0} (trap : Kind → Verdict) (said : Result A Stop) (s : State) (next : A → State → Verdict) → ((kind : Kind) → IsGood (trap kind)) → ((a : A) (t : State) → IsGood (next a t)) → IsGood (judged_as trap said s next)
  judged_good trap (Ok a) s next h k = k a s
  judged_good trap (Err (Trapped kind)) s next h k = h kind
  judged_good trap (Err OutOfFuel) s next h k = tt
  judged_good trap (Err Stuck) s next h k = tt

  holds_good : (v : Value) (fails next : Verdict) → IsGood fails → IsGood next → IsGood (where_holds v fails next)
  holds_good (Truth true) fails next h k = k
  holds_good (Truth false) fails next h k = h
  holds_good _ fails next h k = tt

  ensured_good : (program : Program) (n : ℕ) (es : List Node) (s : State) → 0 < n → n + length es < 2 ^ 32 → IsGood (ensured program n es s)
  ensured_good program n [] s h k = tt
  ensured_good program n (e ∷ es) s h k =
      let o = value program e.scope e.tree s in
      judged_good CheckTrap o.said o.after (λ v t. where_holds v (Ensures n) (ensured program (n + 1) es t)) words
      (λ v t. holds_good v (Ensures n) (ensured program (n + 1) es t) (h, omega (arith, k)) (ensured_good program (n + 1) es t (omega (arith, h)) (omega (arith, k))))

  signalled_good : (program : Program) (o : Value) (cs : List Signal) (s : State) → AllByRecursion IsSmall cs → IsGood (signalled program o cs s)
  signalled_good program o [] s h = tt
  signalled_good program o (c ∷ cs) s h =
      let r = naming c.is_named o (value program c.condition.scope c.condition.tree) s in
      judged_good CheckTrap r.said r.after (λ v t. where_holds v (Signals c.number) (signalled program o cs t)) words
      (λ v t. holds_good v (Signals c.number) (signalled program o cs t) h.0 (signalled_good program o cs t h.1))

  module _ (problem : Problem) (m : Method) (few : length (ensures_of problem.program m) < 2 ^ 31) (small : AllByRecursion IsSmall (signals_of problem.program m)) where
    checked_good : (olds : List Old) (result : Value) (s : State) → IsGood (checked problem m olds result s)
    checked_good olds result s =
        let o = value problem.program (rep_ok_node problem).scope (rep_ok_node problem).tree s in
        let next = λ (t : State). ensured problem.program 1 (ensures_of problem.program m) (record t { result = Some result; olds = olds }) in
        judged_good CheckTrap o.said o.after (λ v t. where_holds v RepOk (next t)) words
        (λ v t. holds_good v RepOk (next t) tt (ensured_good problem.program 1 (ensures_of problem.program m) (record t { result = Some result; olds = olds }) (omega arith) (omega (arith, few))))

    thrown_good : (olds : List Old) (k : Kind) (cs : List Signal) (s : State) → AllByRecursion IsSmall cs → IsGood (thrown problem m olds k cs s)
    thrown_good olds k [] s h = words k
    thrown_good olds k (c ∷ cs) s h =
        let o = object_of problem.program k s in
        judged_good CheckTrap o.said o.after _ words
        (λ v t.
        let r = value problem.program (rep_ok_node problem).scope (rep_ok_node problem).tree t in
        let next = λ (u : State). signalled problem.program v (c ∷ cs) (record u { olds = olds }) in
        judged_good CheckTrap r.said r.after (λ w u. where_holds w RepOk (next u)) words
        (λ w u. holds_good w RepOk (next u) tt (signalled_good problem.program v (c ∷ cs) (record u { olds = olds }) h)))

    fitting_small : (k : Kind) (cs : List Signal) → AllByRecursion IsSmall cs → AllByRecursion IsSmall (fitting problem.program k cs)
    fitting_small k [] h = tt
    fitting_small k (c ∷ cs) h =
        elim (is_caught problem.program c.type (class_of_kind problem.program k)) as (λ b. AllByRecursion IsSmall (if b then c ∷ fitting problem.program k cs else fitting problem.program k cs)) [
          | true ↦ (h.0, fitting_small k cs h.1)
          | false ↦ fitting_small k cs h.1
        ]

    verdict_good : (s : State) → IsGood (verdict_from problem m s)
    verdict_good s =
        let o = olds_valued problem.program (olds_of problem.program m) s in
        judged_good CheckTrap o.said o.after _ words
        (λ olds t.
        let b = body_of problem.program t.this_value (map (λ l. l.value) t.locals) m t in
        judged_good (λ k. thrown problem m olds k (fitting problem.program k (signals_of problem.program m)) b.after) b.said b.after _
        (λ k. thrown_good olds k (fitting problem.program k (signals_of problem.program m)) b.after (fitting_small k (signals_of problem.program m) small)) (λ result u. checked_good olds result u))

-- ---- how many postconditions

ensured_one : (t : Tree) → length (ensured_in t) ≤ 1
ensured_one (trees.Ensures p e) = omega arith
ensured_one _ = omega arith

ensured_few : (lines : List Tree) → length (flat_map ensured_in lines) ≤ length lines
ensured_few [] = omega arith
ensured_few (line ∷ lines) = omega (arith, length-append (ensured_in line) (flat_map ensured_in lines), ensured_one line, ensured_few lines)

ensures_few : (program : Program) (m : Method) → length (ensures_of program m) ≤ length m.contracts
ensures_few program m = omega (arith, length-map {B = Node} (flat_map ensured_in m.contracts) (λ (e : Tree). record { scope = in_contract Ensuring (method_scope program m); tree = e }), ensured_few m.contracts)

-- the numbers of `signals` clauses
signals_small : (s : Scope) (n : ℕ) (lines : List Tree) → 0 < n → n + length lines < 2 ^ 32 → AllByRecursion IsSmall (signals_from s n lines)
signals_small s n [] h k = tt
signals_small s n (trees.Signals p d e ∷ lines) h k = ((h, omega (arith, k)), signals_small s (n + 1) lines (omega arith) (omega (arith, k)))
signals_small s n (line ∷ lines) h k = signals_small s n lines h (omega (arith, k))

-- ---- why runs trap

-- bytes above a space
abbrev is_dark : List ℕ → Bool
is_dark text = list_all (λ b. nat_lt 32 b) text

dark_without : (f : ℕ) (text : List ℕ) → f ≤ 32 → is_dark text ≡ true → IsWithout f text
dark_without f [] small h = tt
dark_without f (b ∷ bs) small h =
    let parts = and_parts (nat_lt 32 b) (is_dark bs) h in
    let above : nat_lt 32 b ≡ true = parts.0 in
    let other : (b == f) ≡ false = grind (arith, nat_tests) in
    (other, dark_without f bs small parts.1)

dark : (text : List ℕ) → 0 < length text → is_dark text ≡ true → IsOneWord text
dark text some h = record { some = some; one_word = dark_without 32 text (omega arith) h; one_line = dark_without 10 text (omega arith) h }

class_word : (h : Heading) → IsIdentifier h.name → IsOneWord h.name
class_word h i = record { some = name_some h.name i.name; one_word = name_word h.name i.name; one_line = name_line h.name i.name }

thrown_word : (classes : List Heading) (c : ℕ) → AllByRecursion (λ h. IsIdentifier h.name) classes → IsOneWord (thrown_name classes c)
thrown_word [] c names = dark (codes "Throwable") (omega arith) refl
thrown_word (h ∷ hs) zero names = class_word h names.0
thrown_word (h ∷ hs) (suc c) names = thrown_word hs c names.1

kind_word : (classes : List Heading) → AllByRecursion (λ h. IsIdentifier h.name) classes → (kind : Kind) → IsOneWord (trap_text classes kind)
kind_word classes names NullPointerException = dark (codes "NullPointerException") (omega arith) refl
kind_word classes names ArithmeticException = dark (codes "ArithmeticException") (omega arith) refl
kind_word classes names ArrayIndexOutOfBoundsException = dark (codes "ArrayIndexOutOfBoundsException") (omega arith) refl
kind_word classes names NegativeArraySizeException = dark (codes "NegativeArraySizeException") (omega arith) refl
kind_word classes names ClassCastException = dark (codes "ClassCastException") (omega arith) refl
kind_word classes names NoSuchElementException = dark (codes "NoSuchElementException") (omega arith) refl
kind_word classes names (Thrown c) = thrown_word classes c names
kind_word classes names NoReturn = dark (codes "NoReturn") (omega arith) refl
kind_word classes names ArrayTooLong = dark (codes "ArrayTooLong") (omega arith) refl

-- ---- of a vector

pub record IsJudged (classes : List Heading) (tests : Bool) (verdict : Option Verdict) : Type 0 where
  pub some : is_some verdict ≡ tests
  pub writable : IsWritable classes verdict

pub unjudged_are : (problem : Problem) → problem.mode ≡ Listing → (vector : List ℕ) → IsJudged problem.program.table.headings false (verdict_of problem vector)
unjudged_are problem mode vector = subst (λ (v : Option Verdict). IsJudged problem.program.table.headings false v) (sym (no_verdict problem vector mode)) (record { some = refl; writable = tt })

pub judged_are : (problem : Problem) (m : Method) → tested_method problem problem.mode ≡ Some m → length m.contracts < 2 ^ 31 → AllByRecursion (λ h. IsIdentifier h.name) problem.program.table.headings
    → (vector : List ℕ) → IsJudged problem.program.table.headings true (verdict_of problem vector)
unfolding verdict_of
judged_are problem m is few names vector =
    let classes = problem.program.table.headings in
    let small = signals_small (method_scope problem.program m) 1 m.contracts (omega arith) (omega (arith, few)) in
    subst (λ (o : Option Method). IsJudged classes true (verdict_by problem vector problem.fuel o)) (sym is)
    (record { some = refl; writable = verdict_good classes (kind_word classes names) problem m (omega (arith, few, ensures_few problem.program m)) small (test_start problem vector problem.fuel) })
