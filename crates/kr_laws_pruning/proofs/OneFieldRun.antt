-- The run on a class of one `int` field: it reads the object and then its field, and answers the comparison.
use Rattle.std.proofs.Common.{◌≡◌, ℕ, ◌<◌, Bool, true, false, ℤ, pos, [], ◌∷◌, length, get_or, None, refl, ap, ◌∙◌}
use Rattle.std.specs.Prelude.{List, ◌++◌, Result, Ok, Err, if◌then◌else◌}
use Rattle.std.specs.Str.{bytes_eq}
use Rattle.std.proofs.lemmas.Slice.Eq.{bytes_eq-Decides}
use Rattle.kr_base.specs.declared.entry.Mark.TheVariants.{Valid, Invalid}
use Rattle.kr_mean.specs.declared.kind.Stop.{Stop}
use Rattle.kr_mean.specs.declared.kind.Stop.TheVariants.{Stuck}
use Rattle.kr_mean.specs.Heaps.{distinct, value_at, heap_of, walk}
use Rattle.kr_ast.specs.declared.node.BinaryOperator.{BinaryOperator}
use Rattle.kr_ast.specs.declared.node.BinaryOperator.TheVariants.{Less, LessOrEqual, Greater, GreaterOrEqual, Equal, NotEqual}
use Rattle.kr_classes_table.specs.Numbers.{Width}
use Rattle.kr_mean.specs.Operators.{said, is_comparison, holds_of, operated, binary_operation}
use Rattle.kr_classes_table.specs.Table.{table_of}
use Rattle.kr_classes_table.specs.Constants.{values_of}
use Rattle.kr_types_meaning.specs.Typing.{judged}
use Rattle.kr_mean.specs.Meaning.{binary, value}
use Rattle.kr_laws_runs.proofs.Bounds.{value_is, execute_is}
use Rattle.kr_laws_pruning.proofs.Comparisons.{small_is, compared}
use Rattle.kr_mean.specs.Steps.{State, Outcome, Run, say, give, after_reads, go_on, ◌>>=◌, bind}
use Rattle.kr_mean.specs.Runs.{End, True, False, IsStuck, rep_ok, where_true, start, end_of, outcome_of, end_on, slots_for, read_slots, order_of, is_same_number, is_accepted}
use Rattle.kr_mean.specs.Program.{class_scope}
use Rattle.kr_mean.specs.Places.{This, At}
use Rattle.kr_value.specs.declared.object.Spot.TheVariants.{Field}
use Rattle.std.specs.Prelude.{flat_map}
use Rattle.kr_mean.specs.Verdicts.{verdict_of}
use Rattle.kr_mean.specs.Entries.{mark_of, mark_for, row_of, entry_of}
use Rattle.kr_laws_pruning.specs.OneField.{one_field_row, one_field_entry}
use Rattle.kr_value.specs.declared.value.Value.{Value}
use Rattle.kr_value.specs.declared.value.Value.TheVariants.{Int, Bool as Truth, Null, Ref as Reference}
use Rattle.kr_laws_pruning.proofs.OneFieldSpace.{Form, problem_of, choice_of}

-- the comparison of a value
abbrev pub says : Form → Value → Bool
says form v = holds_of form.test v (Int (pos form.number))

abbrev pub end_for : Bool → End
end_for b = if b then True else False

-- the field is found by its name
found : (name : List ℕ) → bytes_eq name name ≡ true
found name = (bytes_eq-Decides name name).1 refl

-- the answer of a comparison of two numbers
abbrev answered : Width → BinaryOperator → Value → Value → Result Value Stop
answered width test (Int a) (Int b) = Ok (Truth (holds_of test (Int a) (Int b)))
answered width test v w = operated (binary_operation width test) v w

answers : (width : Width) (test : BinaryOperator) → is_comparison test ≡ true → (v w : Value) → operated (binary_operation width test) v w ≡ answered width test v w
answers width test e (Int a) (Int b) = ap said (compared width test a b e)
answers width test e (Int a) (Truth b) = refl
answers width test e (Int a) Null = refl
answers width test e (Int a) (Reference o) = refl
answers width test e (Truth a) w = refl
answers width test e Null w = refl
answers width test e (Reference o) w = refl

answers_all : (width : Width) (test : BinaryOperator) → is_comparison test ≡ true → operated (binary_operation width test) ≡ answered width test
answers_all width test e = λ i v w. answers width test e v w i

-- a comparison looks at both operands
looks_at_both : (width : Width) (test : BinaryOperator) → is_comparison test ≡ true → (m n : Run Value) → binary width test m n ≡ (m >>= (λ v. n >>= (λ w. say (operated (binary_operation width test) v w))))
looks_at_both width Less e m n = refl
looks_at_both width LessOrEqual e m n = refl
looks_at_both width Greater e m n = refl
looks_at_both width GreaterOrEqual e m n = refl
looks_at_both width Equal e m n = refl
looks_at_both width NotEqual e m n = refl
looks_at_both width _ e m n = absurd (cc (e))

both_operands : (test : BinaryOperator) → is_comparison test ≡ true → (width : Width) (m n : Run Value) → binary width test m n ≡ (m >>= (λ v. n >>= (λ w. say (answered width test v w))))
both_operands test e width m n = looks_at_both width test e m n ∙ ap (λ (f : Value → Value → Result Value Stop). m >>= (λ v. n >>= (λ w. say (f v w)))) (answers_all width test e)

-- `this.repOk()` answers the comparison, for six units, and reads the field
rep_ok_is : (form : Form) (i : ℕ) (z : ℤ) → value_at (problem_of form) (0 ∷ i ∷ []) 1 ≡ Int z
    → value (problem_of form).program (class_scope (problem_of form).program 0) rep_ok (start (problem_of form) (0 ∷ i ∷ [])) ≡ record { said = Ok (Truth (says form (Int z))); after = record (start (problem_of form) (0 ∷ i ∷ [])) { fuel = form.spare }; reads = At 0 (Field 0) ∷ [] }
unfolding table_of values_of judged heap_of bind
rep_ok_is form i z v =
    rw (value_is, value_is, execute_is, value_is, both_operands form.test form.compares)
    (rw (value_is, found form.field_name) (rw (found form.field_name, v, value_is, small_is form.number form.small) refl))

-- the run when a condition gives this
run_for : State → Bool → Outcome Bool
run_for s b = after_reads (This ∷ []) (go_on (Ok (Truth b)) s (At 0 (Field 0) ∷ []) (λ v. where_true v (give true)))

said_for : (s : State) (b : Bool) → (run_for s b).said ≡ Ok b
unfolding run_for
said_for s true = refl
said_for s false = refl

reads_for : (s : State) (b : Bool) → (run_for s b).reads ≡ This ∷ At 0 (Field 0) ∷ []
unfolding run_for
reads_for s true = refl
reads_for s false = refl

run_is : (form : Form) (i : ℕ) (z : ℤ) → value_at (problem_of form) (0 ∷ i ∷ []) 1 ≡ Int z → outcome_of (problem_of form) (0 ∷ i ∷ []) ≡ run_for (record (start (problem_of form) (0 ∷ i ∷ [])) { fuel = form.spare }) (says form (Int z))
unfolding bind run_for
run_is form i z v = ap (λ (o : Outcome Value). after_reads (This ∷ []) (go_on o.said o.after o.reads (λ x. where_true x (give true)))) (rep_ok_is form i z v)

-- the comparison's result doesn't change the places read
reads_by : (form : Form) (i : ℕ) (z : ℤ) → value_at (problem_of form) (0 ∷ i ∷ []) 1 ≡ Int z → read_slots (problem_of form) (0 ∷ i ∷ []) ≡ 0 ∷ 1 ∷ []
unfolding read_slots
reads_by form i z v = ap (λ (o : Outcome Bool). flat_map (slots_for (problem_of form)) o.reads) (run_is form i z v) ∙ ap (flat_map (slots_for (problem_of form))) (reads_for _ (says form (Int z)))

says_by : (form : Form) (i : ℕ) (z : ℤ) → value_at (problem_of form) (0 ∷ i ∷ []) 1 ≡ Int z → (outcome_of (problem_of form) (0 ∷ i ∷ [])).said ≡ Ok (says form (Int z))
says_by form i z v = ap (λ (o : Outcome Bool). o.said) (run_is form i z v) ∙ said_for _ (says form (Int z))

ends_by : (form : Form) (i : ℕ) (z : ℤ) → value_at (problem_of form) (0 ∷ i ∷ []) 1 ≡ Int z → end_on (problem_of form) (0 ∷ i ∷ []) ≡ end_for (says form (Int z))
unfolding end_on
ends_by form i z v = ap end_of (says_by form i z v) ∙ ended (says form (Int z))
  where
    ended : (b : Bool) → end_of (Ok b) ≡ end_for b
    ended true = refl
    ended false = refl

pub walks_both : (form : Form) (i : ℕ) → i < length form.values → walk (problem_of form) (0 ∷ i ∷ []) ≡ 0 ∷ 1 ∷ []
unfolding walk
walks_both form i h = rw (choice_of (problem_of form) form.values i h) refl

-- the value at the field
value_there : (form : Form) (i : ℕ) → i < length form.values → value_at (problem_of form) (0 ∷ i ∷ []) 1 ≡ Int (get_or form.values i (pos 0))
value_there form i h = ap (λ c. c.value) (choice_of (problem_of form) form.values i h)

reads_both : (form : Form) (i : ℕ) → i < length form.values → read_slots (problem_of form) (0 ∷ i ∷ []) ≡ 0 ∷ 1 ∷ []
reads_both form i h = reads_by form i (get_or form.values i (pos 0)) (value_there form i h)

ends_so : (form : Form) (i : ℕ) → i < length form.values → end_on (problem_of form) (0 ∷ i ∷ []) ≡ end_for (says form (Int (get_or form.values i (pos 0))))
ends_so form i h = ends_by form i (get_or form.values i (pos 0)) (value_there form i h)

no_error : (r : Result Bool Stop) (b : Bool) → r ≡ Ok b → r ≡ Err Stuck → ⊥
no_error r b e f = cc (e, f)

pub never_stuck : (form : Form) (i : ℕ) → i < length form.values → IsStuck (problem_of form) (0 ∷ i ∷ []) → ⊥
never_stuck form i h stuck =
    let said = says form (Int (get_or form.values i (pos 0))) in
    no_error (outcome_of (problem_of form) (0 ∷ i ∷ [])).said said (says_by form i (get_or form.values i (pos 0)) (value_there form i h)) stuck

-- where the run accepts, the walk reaches nothing more
nothing_more : (b : Bool) → distinct is_same_number (0 ∷ 1 ∷ [] ++ (if is_accepted (end_for b) then 0 ∷ 1 ∷ [] else [])) ≡ 0 ∷ 1 ∷ []
nothing_more true = refl
nothing_more false = refl

pub orders_both : (form : Form) (i : ℕ) → i < length form.values → order_of (problem_of form) (0 ∷ i ∷ []) ≡ 0 ∷ 1 ∷ []
unfolding order_of
orders_both form i h =
    rw (reads_both form i h, walks_both form i h, ends_so form i h) (nothing_more (says form (Int (get_or form.values i (pos 0)))))

no_verdict : (form : Form) (v : List ℕ) → verdict_of (problem_of form) v ≡ None
unfolding verdict_of
no_verdict form v = refl

row_there : (form : Form) (i : ℕ) → i < length form.values → row_of (problem_of form) (0 ∷ i ∷ []) ≡ one_field_row i (get_or form.values i (pos 0))
row_there form i h =
    rw (orders_both form i h, walks_both form i h, no_verdict form (0 ∷ i ∷ [])) (ap (λ v. record { key = 0 ∷ i ∷ []; structure = (0, Reference 0) ∷ (1, v) ∷ []; verdict = None }) (value_there form i h))

marked : (i : ℕ) (z : ℤ) (b : Bool) → mark_for (end_for b) (one_field_row i z) ≡ (if b then Valid (one_field_row i z) else Invalid)
marked i z true = refl
marked i z false = refl

mark_there : (form : Form) (i : ℕ) → i < length form.values → mark_of (problem_of form) (0 ∷ i ∷ []) ≡ (one_field_entry form.test form.number i (get_or form.values i (pos 0))).mark
unfolding mark_of
mark_there form i h = rw (ends_so form i h, row_there form i h) (marked i (get_or form.values i (pos 0)) (says form (Int (get_or form.values i (pos 0)))))

pub entry_there : (form : Form) (i : ℕ) → i < length form.values
    → entry_of (order_of (problem_of form)) (mark_of (problem_of form)) (0 ∷ i ∷ []) ≡ one_field_entry form.test form.number i (get_or form.values i (pos 0))
entry_there form i h = rw (orders_both form i h, mark_there form i h) refl
