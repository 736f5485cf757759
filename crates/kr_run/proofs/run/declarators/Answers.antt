-- Each of these is one of those that declare nothing.
use Rattle.std.proofs.Common.{refl, sym, subst}
use Rattle.kr_code.specs.declared.statement.Statement.{Statement}
use Rattle.kr_run.specs.Statements.{IsTicked}
use Rattle.kr_run.proofs.run.declarators.Goals as goal

pub returns-in-Stuck : goal.returns-in-Stuck
returns-in-Stuck c = subst (λ (t : Statement). IsTicked t) (sym c.in-Stuck.is) (λ code d s. refl)

pub returns-in-Empty : goal.returns-in-Empty
returns-in-Empty c = subst (λ (t : Statement). IsTicked t) (sym c.in-Empty.is) (λ code d s. refl)

pub returns-in-Block : goal.returns-in-Block
returns-in-Block c = subst (λ (t : Statement). IsTicked t) (sym c.in-Block.is) (λ code d s. refl)

pub returns-in-Evaluate : goal.returns-in-Evaluate
returns-in-Evaluate c = subst (λ (t : Statement). IsTicked t) (sym c.in-Evaluate.is) (λ code d s. refl)

pub returns-in-IfThen : goal.returns-in-IfThen
returns-in-IfThen c = subst (λ (t : Statement). IsTicked t) (sym c.in-IfThen.is) (λ code d s. refl)

pub returns-in-IfElse : goal.returns-in-IfElse
returns-in-IfElse c = subst (λ (t : Statement). IsTicked t) (sym c.in-IfElse.is) (λ code d s. refl)

pub returns-in-While : goal.returns-in-While
returns-in-While c = subst (λ (t : Statement). IsTicked t) (sym c.in-While.is) (λ code d s. refl)

pub returns-in-Do : goal.returns-in-Do
returns-in-Do c = subst (λ (t : Statement). IsTicked t) (sym c.in-Do.is) (λ code d s. refl)

pub returns-in-For : goal.returns-in-For
returns-in-For c = subst (λ (t : Statement). IsTicked t) (sym c.in-For.is) (λ code d s. refl)

pub returns-in-Break : goal.returns-in-Break
returns-in-Break c = subst (λ (t : Statement). IsTicked t) (sym c.in-Break.is) (λ code d s. refl)

pub returns-in-Continue : goal.returns-in-Continue
returns-in-Continue c = subst (λ (t : Statement). IsTicked t) (sym c.in-Continue.is) (λ code d s. refl)

pub returns-in-Leave : goal.returns-in-Leave
returns-in-Leave c = subst (λ (t : Statement). IsTicked t) (sym c.in-Leave.is) (λ code d s. refl)

pub returns-in-Return : goal.returns-in-Return
returns-in-Return c = subst (λ (t : Statement). IsTicked t) (sym c.in-Return.is) (λ code d s. refl)

pub returns-in-Throw : goal.returns-in-Throw
returns-in-Throw c = subst (λ (t : Statement). IsTicked t) (sym c.in-Throw.is) (λ code d s. refl)

pub returns-in-Try : goal.returns-in-Try
returns-in-Try c = subst (λ (t : Statement). IsTicked t) (sym c.in-Try.is) (λ code d s. refl)
