-- The meaning's laws that the machine's steps need.
use Rattle.std.proofs.Common.{◌≡◌, ◌<◌, arith, ℕ, List, [], ◌∷◌, length, Result, Ok, Err, refl, sym, ap, ◌∙◌, subst}
use Rattle.std.specs.Prelude.{map, take, drop, reverse, Bool, true, nat_eq}
use Rattle.std.proofs.lemmas.Bool.{eq-eqb}
use Rattle.std.proofs.lemmas.List.{take-map}
use Rattle.kr_value.specs.declared.value.Value.{Value}
use Rattle.kr_mean.specs.declared.kind.Stop.{Stop}
use Rattle.kr_mean.specs.declared.kind.Stop.TheVariants.{Stuck}
use Rattle.kr_mean.specs.Places.{SlotPlace}
use Rattle.kr_mean.specs.Steps as steps
use Rattle.kr_mean.specs.Steps.{State, Outcome, Run, after_reads, go_on, bind, give, stop, say, within, entered, back_to, plain_local}
use Rattle.kr_mean.specs.declared.operations.BinaryOperation.{BinaryOperation}
use Rattle.kr_mean.specs.Operators.{operated}
use Rattle.kr_mean.specs.Meaning.{Change, change_to}
use Rattle.kr_code.specs.declared.code.Code.{Code}
use Rattle.kr_code.specs.declared.expression.Nodes.{Nodes}
use Rattle.kr_code.specs.Tables.{listed}
use Rattle.kr_code.specs.Doing.{Doing, constructed, values_at}
use Rattle.kr_run_state.specs.declared.world.Local.{Local}
use Rattle.kr_run_state.specs.declared.action.Cell.{Cell}
use Rattle.kr_run_state.specs.Actions.{written}
use Rattle.kr_run_state.specs.Shown.{local_of}
use Rattle.kr_run_frames.specs.declared.frame.Change.TheVariants as changes
use Rattle.kr_run_state.specs.declared.world.World.{World}
use Rattle.kr_run_state.specs.declared.world.Halt.{Halt}
use Rattle.kr_run_state.specs.Worlds.{Others, state_at}
use Rattle.kr_run_frames.specs.declared.task.Task.{Task}
use Rattle.kr_run_frames.specs.Frame.{Frame}
use Rattle.kr_run_frames.specs.Kept.{values_on}
use Rattle.kr_run_frames.specs.Leads.{Leads}
use Rattle.kr_run_frames.specs.declared.frame.Goal.{Goal}
use Rattle.kr_run_frames.specs.Frames.{continued, altered, applied, onto, out_value}
use Rattle.kr_run_frames.proofs.Outcomes.{continued_reads, leads_alike}
use Rattle.kr_run_moves.proofs.Moves.{onto_all}

pub locals_cut : (locals : List Local) (n : ℕ) → take n (map local_of locals) ≡ map local_of (take n locals)
locals_cut locals n = take-map local_of n locals

-- ---- statements

-- ---- changes

pub compounds : (code : Code) (d : Doing) (o : BinaryOperation) (e : ℕ) (cell : Cell) (v : Value) (s : State) → altered code d (changes.Compound o e) cell v s ≡ continued (continued (d.value e s) (λ w. say (operated o v w))) (λ x. bind (written code cell x) (λ u. give x))
unfolding bind
compounds code d o e cell v s = go (d.value e s).said
  where
    t : State
    t = (d.value e s).after

    rs : List SlotPlace
    rs = (d.value e s).reads

    k : Change → Run Value
    k c = bind (written code cell c.new) (λ u. give c.given)

    one : (w : Value) (r : Result Value Stop) → continued (continued (say r t) (λ x. give (change_to x))) k ≡ continued (say r t) (λ x. k (change_to x))
    one w (Ok x) = refl
    one w (Err x) = refl

    go : (r : Result Value Stop) → continued (go_on r t rs (λ w. bind (say (operated o v w)) (λ x. give (change_to x)))) k ≡ continued (go_on r t rs (λ w. say (operated o v w))) (λ x. k (change_to x))
    go (Ok w) =
        continued_reads rs (continued (say (operated o v w) t) (λ x. give (change_to x))) k
        ∙ ap (after_reads rs) (one w (operated o v w))
        ∙ sym (continued_reads rs (say (operated o v w) t) (λ x. k (change_to x)))
    go (Err x) = refl

-- ---- calls

pub arity : (a b : ℕ) → a ≡ b → nat_eq a b ≡ true
arity a b e = eq-eqb a b e

pub runs : {A : Type 0} (receiver : Value) (n : ℕ) (args : List Value) (body : Run A) (s : State) (locals : List steps.Local) → length args ≡ n → locals ≡ map plain_local args
    → within receiver n args body s ≡ back_to s (body (record s { this_value = receiver; locals = locals }))
runs receiver n args body s locals e is =
    ap (λ (b : Bool). entered b receiver args body s) (arity (length args) n e)
    ∙ ap (λ (ls : List steps.Local). back_to s (body (record s { this_value = receiver; locals = ls }))) (sym is)

-- past the last class no arguments are taken
pub last_stuck : (code : Code) (d : Doing) (o : Value) (args : List Value) (s : State) → 0 < length args → constructed code d [] o args s ≡ stop Stuck s
last_stuck code d o [] s lt = absurd (omega (arith, lt))
last_stuck code d o (v ∷ vs) s lt = refl

-- ---- arguments

-- no argument is left: all are used
pub none_left : (code : Code) (r : Result Task Halt) (gs fs : List Frame) (w before : World) (goal : Goal) (ns : Nodes) (found : List Value) → listed code ns ≡ []
    → Leads code r gs w before (λ d x. out_value code d fs (applied code d goal found (state_at before x)))
    → Leads code r gs w before (λ d x. out_value code d fs (continued (values_at d (listed code ns) (state_at before x)) (λ vs. applied code d goal (onto (reverse found) vs))))
none_left code r gs fs w before goal ns found none h =
    leads_alike code r gs w before (λ d x. out_value code d fs (continued (values_at d (listed code ns) (state_at before x)) (λ vs. applied code d goal (onto (reverse found) vs))))
    (λ d x. out_value code d fs (applied code d goal found (state_at before x)))
    (λ x d m.
    ap (λ (is : List ℕ). out_value code d fs (continued (values_at d is (state_at before x)) (λ vs. applied code d goal (onto (reverse found) vs)))) none
    ∙ ap (λ (vs : List Value). out_value code d fs (applied code d goal vs (state_at before x))) (onto_all found))
    h

-- ---- frames with lists

-- the topmost frame has gone, with the values that it had
pub taken : (code : Code) (r : Result Task Halt) (gs : List Frame) (w before : World) (top rest after : List Frame) (vs found : List Value) (f : List Value → Frame) (o : List Frame → Doing → Others → Outcome Value) (p : List Frame → List Value → Doing → Others → Outcome Value)
    → top ≡ f vs ∷ rest → after ≡ drop 1 top → found ≡ values_on top → values_on (f vs ∷ rest) ≡ vs → ((x : Others) (d : Doing) → o (f vs ∷ rest) d x ≡ p rest vs d x)
    → Leads code r gs w before (p after found) → Leads code r gs w before (o top)
taken code r gs w before top rest after vs found f o p is behind values has same h =
    subst (λ (fs : List Frame). Leads code r gs w before (o fs)) (sym is)
    (leads_alike code r gs w before (o (f vs ∷ rest)) (p rest vs) (λ x d m. same x d)
    (subst (λ (us : List Value). Leads code r gs w before (p rest us)) (values ∙ ap values_on is ∙ has)
    (subst (λ (fs : List Frame). Leads code r gs w before (p fs found)) (behind ∙ ap (λ (fs : List Frame). drop 1 fs) is) h)))
