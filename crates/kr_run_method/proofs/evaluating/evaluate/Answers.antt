use Rattle.kr_run_method.proofs.Programs.{evaluated_in_programs, evaluation_means}
use Rattle.kr_run_method.proofs.Evaluations.{evaluated_in_typed_programs}
use Rattle.kr_run_method.proofs.evaluating.evaluate.Goals as goal

pub returns-clause-means : goal.returns-clause-means
returns-clause-means c =
    evaluation_means c.args.code.now c.args.node c.args.places.now c.args.env.now c.args.heap c.args.fuel c.world_of-world.result c.show.new.world c.evaluate_in.result c.world_of-world.ensures.state c.in_ok-show.ensures.state c.evaluate_in.ensures

pub returns-clause-evaluates : goal.returns-clause-evaluates
returns-clause-evaluates c =
    evaluated_in_programs c.args.code.now c.args.node c.args.places.now c.args.env.now c.args.heap c.args.fuel c.evaluate_in.result
    (evaluation_means c.args.code.now c.args.node c.args.places.now c.args.env.now c.args.heap c.args.fuel c.world_of-world.result c.show.new.world c.evaluate_in.result c.world_of-world.ensures.state c.in_ok-show.ensures.state c.evaluate_in.ensures)

pub returns-clause-unstuck : goal.returns-clause-unstuck
returns-clause-unstuck c =
    evaluated_in_typed_programs c.args.code.now c.args.node c.args.places.now c.args.env.now c.args.heap c.args.fuel c.evaluate_in.result
    (evaluated_in_programs c.args.code.now c.args.node c.args.places.now c.args.env.now c.args.heap c.args.fuel c.evaluate_in.result
    (evaluation_means c.args.code.now c.args.node c.args.places.now c.args.env.now c.args.heap c.args.fuel c.world_of-world.result c.show.new.world c.evaluate_in.result c.world_of-world.ensures.state c.in_ok-show.ensures.state c.evaluate_in.ensures))
