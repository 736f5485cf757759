use Rattle.kr_space.proofs.Problems.{posed_here}
use Rattle.kr_space.proofs.Unbroken.{few_here, well_formed_here}
use Rattle.kr_space.proofs.posing.problem.Goals as goal

pub returns-clause-problem : goal.returns-clause-problem
returns-clause-problem c =
    posed_here c.args.program.trees.items c.deref.result.now c.args.document.now c.args.mode c.judge_and_lay.new.types c.in_ok-laid.laid.arrays.items c.in_ok-laid.laid.layout c.deref.ensures.value c.in_ok-laid.ensures.arrays c.in_ok-laid.ensures.layout

pub returns-clause-well_formed : goal.returns-clause-well_formed
returns-clause-well_formed c =
    well_formed_here c.args.program.trees.items c.deref.result.now c.args.document.now c.args.mode _ c.deref.ensures.value c.in_ok-laid.ensures.unbroken (returns-clause-problem c)

pub returns-clause-few : goal.returns-clause-few
returns-clause-few c =
    few_here c.args.program.trees.items c.deref.result.now c.args.document.now c.args.mode _ c.deref.ensures.value c.in_ok-laid.ensures.unbroken (returns-clause-problem c)
