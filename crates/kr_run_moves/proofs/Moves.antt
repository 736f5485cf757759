-- The meaning's laws that the moves need.
use Rattle.std.proofs.Common.{◌≡◌, ℕ, Some, List, [], ◌∷◌, ◌++◌, length, Result, Ok, Err, refl, sym, ap, ◌∙◌}
use Rattle.std.specs.Prelude.{map, reverse, Bool}
use Rattle.std.proofs.lemmas.List.{length-map, append_assoc, append-nil, reverse-append, reverse-reverse}
use Rattle.kr_value.specs.declared.value.Value.{Value}
use Rattle.kr_value.specs.declared.value.Value.TheVariants.{Null}
use Rattle.kr_ast.specs.declared.node.StepOperator.{StepOperator}
use Rattle.kr_mean.specs.declared.kind.Stop.{Stop}
use Rattle.kr_mean.specs.Places.{SlotPlace}
use Rattle.kr_mean.specs.Steps.{State, Run, after_reads, assign, declare, go_on, bind, give, tick}
use Rattle.kr_mean.specs.Operators.{gives_old}
use Rattle.kr_mean.specs.Meaning.{change_from}
use Rattle.kr_code.specs.declared.code.Code.{Code}
use Rattle.kr_code.specs.Tables.{listed}
use Rattle.kr_code.specs.Doing.{Doing, IsMeaning, all_declared, declared, initial_value}
use Rattle.kr_code.specs.declared.expression.Nodes.{Nodes}
use Rattle.kr_code.specs.declared.statement.Declarator.{Declarator}
use Rattle.kr_run_state.specs.declared.world.Local.{Local}
use Rattle.kr_run_state.specs.declared.action.Cell.{Cell}
use Rattle.kr_run_state.specs.declared.action.Action.TheVariants as actions
use Rattle.kr_run_state.specs.Actions.{acted, written}
use Rattle.kr_run_state.specs.Shown.{local_of}
use Rattle.kr_run_frames.specs.declared.frame.Loop.{Loop}
use Rattle.kr_run_frames.specs.declared.frame.Loop.TheVariants as loops
use Rattle.kr_run_frames.specs.declared.frame.TestFrame.TheVariants as tests
use Rattle.kr_run_frames.specs.declared.frame.WriteFrame.TheVariants as writes
use Rattle.kr_run_frames.specs.Frames.{continued, onto, repeated, test_of, tested, turned, wrote}
use Rattle.kr_run_frames.proofs.Outcomes.{continued_reads}

pub locals_long : (locals : List Local) → length (map local_of locals) ≡ length locals
locals_long locals = length-map locals local_of

-- ---- going on

pub assoc : {A B C : Type 0} (m : Run A) (f : A → Run B) (g : B → Run C) (s : State) → continued (bind m f s) g ≡ bind m (λ a. bind (f a) g) s
unfolding bind
assoc {A} {B} {C} m f g s = go (m s).said
  where
    go : (r : Result A Stop) → continued (go_on r (m s).after (m s).reads f) g ≡ go_on r (m s).after (m s).reads (λ a. bind (f a) g)
    go (Ok a) = continued_reads (m s).reads (f a (m s).after) g
    go (Err e) = refl

-- the value is replaced
pub mapped : {A B C : Type 0} (m : Run A) (h : A → B) (g : B → Run C) (s : State) → continued (bind m (λ a. give (h a)) s) g ≡ continued (m s) (λ a. g (h a))
unfolding bind
mapped {A} {B} {C} m h g s = go (m s).said
  where
    go : (r : Result A Stop) → continued (go_on r (m s).after (m s).reads (λ a. give (h a))) g ≡ go_on r (m s).after (m s).reads (λ a. g (h a))
    go (Ok a) = ap (λ (rs : List SlotPlace). after_reads rs (g (h a) (m s).after)) (append-nil (m s).reads)
    go (Err e) = refl

pub then_mapped : {A B C : Type 0} (m : Run A) (h : A → B) (g : B → Run C) (s : State) → bind (bind m (λ a. give (h a))) g s ≡ bind m (λ a. g (h a)) s
unfolding bind
then_mapped m h g s = mapped m h g s

-- the value doesn't matter
pub given_then : {A B C : Type 0} (m : Run A) (x : B) (f : B → Run C) (s : State) → continued (bind m (λ a. give x) s) f ≡ bind m (λ a. f x) s
unfolding bind
given_then m x f s = mapped m (λ a. x) f s

-- equal continuations
alike : {A B : Type 0} (m : Run A) (f g : A → Run B) (s : State) → ((a : A) (t : State) → f a t ≡ g a t) → bind m f s ≡ bind m g s
unfolding bind
alike {A} m f g s e = go (m s).said
  where
    go : (r : Result A Stop) → go_on r (m s).after (m s).reads f ≡ go_on r (m s).after (m s).reads g
    go (Ok a) = ap (after_reads (m s).reads) (e a (m s).after)
    go (Err x) = refl

-- ---- declarators

-- a unit, a local, an initial value, and then the other declarators
pub declares : (code : Code) (d : Doing) (x : Declarator) (ns : Nodes) (s : State)
    → bind (declared d (Some x)) (λ u. all_declared code d (listed code ns)) s ≡ bind (acted code (actions.Declare x.default)) (tested code d (tests.Declared x.local x.initial ns)) s
unfolding bind
declares code d x ns s =
    let rest = all_declared code d (listed code ns) in
    let first = initial_value d x.local x.initial in
    assoc tick (λ u. bind (declare x.default) (λ w. first)) (λ u. rest) s
    ∙ (alike tick (λ u. bind (bind (declare x.default) (λ w. first)) (λ v. rest)) (λ u. bind (declare x.default) (λ w. bind first (λ v. rest))) s (λ u t. assoc (declare x.default) (λ w. first) (λ v. rest) t)
    ∙ (sym (alike tick (λ u. bind (bind (declare x.default) (λ w. give Null)) (λ v. bind first (λ y. rest))) (λ u. bind (declare x.default) (λ w. bind first (λ v. rest))) s (λ u t. given_then (declare x.default) Null (λ v. bind first (λ y. rest)) t))
    ∙ sym (assoc tick (λ u. bind (declare x.default) (λ w. give Null)) (λ v. bind first (λ y. rest)) s)))

-- an initial value, and then the other declarators
pub begins : (code : Code) (d : Doing) (k e : ℕ) (ns : Nodes) (v : Value) (s : State)
    → tested code d (tests.Declared k (Some e) ns) v s ≡ bind (d.value e) (tested code d (tests.Initial k ns)) s
unfolding bind
begins code d k e ns v s = assoc (d.value e) (λ w. assign k w) (λ u. all_declared code d (listed code ns)) s

-- a local has its initial value, and then the other declarators
pub initial_then : (code : Code) (d : Doing) (k : ℕ) (v : Value) (ns : Nodes) (s : State)
    → tested code d (tests.Initial k ns) v s ≡ bind (bind (assign k v) (λ u. give v)) (λ u. all_declared code d (listed code ns)) s
unfolding bind
initial_then code d k v ns s = sym (given_then (assign k v) v (λ u. all_declared code d (listed code ns)) s)

-- ---- lists

onto_is : (us vs : List Value) → onto us vs ≡ reverse us ++ vs
onto_is [] vs = refl
onto_is (u ∷ us) vs =
    onto_is us (u ∷ vs)
    ∙ sym (append_assoc (reverse us) (u ∷ []) vs)
    ∙ ap (λ (ws : List Value). ws ++ vs) (sym (reverse-append (u ∷ []) us))

-- all values that were found
pub onto_all : (vs : List Value) → onto (reverse vs) [] ≡ vs
onto_all vs = onto_is (reverse vs) [] ∙ append-nil (reverse (reverse vs)) ∙ reverse-reverse vs

pub one_more : (vs : List Value) (v : Value) → reverse (vs ++ v ∷ []) ≡ v ∷ reverse vs
one_more vs v = reverse-append vs (v ∷ [])

-- ---- loops

pub repeats : (code : Code) (d : Doing) (l : Loop) (s : State) → IsMeaning code d → repeated code d l s ≡ continued (bind tick (λ u. give Null) s) (λ v. bind (test_of d l) (turned code d l))
repeats code d (loops.While e a) s m = m.while_is e a s ∙ sym (given_then tick Null (λ v. bind (test_of d (loops.While e a)) (turned code d (loops.While e a))) s)
repeats code d (loops.For e us a) s m = m.for_is e a (listed code us) s ∙ sym (given_then tick Null (λ v. bind (test_of d (loops.For e us a)) (turned code d (loops.For e us a))) s)

-- a unit, and then the round
pub rounds : (code : Code) (d : Doing) (l : Loop) (s : State) → IsMeaning code d → repeated code d l s ≡ bind tick (λ u. bind (test_of d l) (turned code d l)) s
rounds code d l s m = repeats code d l s m ∙ given_then tick Null (λ v. bind (test_of d l) (turned code d l)) s

-- ---- changes

pub steps_on : (code : Code) (d : Doing) (o : StepOperator) (cell : Cell) (v w given : Value) (s : State) (b : Bool) → gives_old o ≡ b → given ≡ (change_from b v w).given → (change_from b v w).new ≡ w → wrote code d (writes.Stepped o cell v) w s ≡ bind (written code cell w) (λ u. give given) s
unfolding bind
steps_on code d o cell v w given s b is gives new =
    ap (λ (x : Bool). bind (written code cell (change_from x v w).new) (λ u. give (change_from x v w).given) s) is
    ∙ ap (λ (x : Value). bind (written code cell x) (λ u. give (change_from b v w).given) s) new
    ∙ ap (λ (x : Value). bind (written code cell w) (λ u. give x) s) (sym gives)

pub changes_local : (o : StepOperator) (k : ℕ) (v w given : Value) (s : State) (b : Bool) → gives_old o ≡ b → given ≡ (change_from b v w).given → (change_from b v w).new ≡ w
    → bind (assign k (change_from (gives_old o) v w).new) (λ u. give (change_from (gives_old o) v w).given) s ≡ bind (assign k w) (λ u. give given) s
changes_local o k v w given s b is gives new =
    ap (λ (x : Bool). bind (assign k (change_from x v w).new) (λ u. give (change_from x v w).given) s) is
    ∙ ap (λ (x : Value). bind (assign k x) (λ u. give (change_from b v w).given) s) new
    ∙ ap (λ (x : Value). bind (assign k w) (λ u. give x) s) (sym gives)
