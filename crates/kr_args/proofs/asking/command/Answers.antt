use Rattle.std.proofs.Common.{◌∙◌, map, string_bytes, sym, ap, subst}
use Rattle.std.specs.Prelude.{IfSome, Option}
use Rattle.std.proofs.lemmas.Result.{MatchResult-weaker}
use Rattle.clap.specs.Words.{app_of, kind_of, found_of, rows_of, matches_of, subcommand_rows_of}
use Rattle.kr_args.specs.Sources.{HasSources}
use Rattle.kr_args.specs.Workers.{HasWorkers}
use Rattle.kr_args.specs.Reading.{command_of}
use Rattle.kr_args.specs.declared.forms.Command.{Command}
use Rattle.kr_args.proofs.Parses.{command_at_ok, no_command_at_err}
use Rattle.kr_args.proofs.Sources.{has_sources}
use Rattle.kr_args.proofs.Workers.{has_workers}
use Rattle.kr_args.proofs.asking.command.Goals as goal

pub returns-in-Ok-clause-means : goal.returns-in-Ok-clause-means
returns-in-Ok-clause-means c =
    let parse = c.in-Ok in
    let words = map string_bytes c.texts.result.now in
    let means = command_at_ok (app_of c.in_ok-definition.definition) words (rows_of (found_of parse.matches)) (subcommand_rows_of parse.matches)
    (matches_of (app_of c.in_ok-definition.definition) words) c.in_ok-definition.ensures parse.ensures.kinds parse.ensures.matches in
    let own = ap command_of (sym c.texts.ensures) ∙ means in
    rw own c.read_command.ensures

pub returns-in-Ok-clause-sources : goal.returns-in-Ok-clause-sources
returns-in-Ok-clause-sources c =
    let parse = c.in-Ok in
    let words = map string_bytes c.texts.result.now in
    let means = command_at_ok (app_of c.in_ok-definition.definition) words (rows_of (found_of parse.matches)) (subcommand_rows_of parse.matches)
    (matches_of (app_of c.in_ok-definition.definition) words) c.in_ok-definition.ensures parse.ensures.kinds parse.ensures.matches in
    let own = ap command_of (sym c.texts.ensures) ∙ means in
    MatchResult-weaker c.read_command.result c.read_command.ensures
    (λ command e. subst (λ (o : Option Command). IfSome o HasSources) (own ∙ e) (has_sources c.args.words.now)) (λ e h. tt)

pub returns-in-Ok-clause-workers : goal.returns-in-Ok-clause-workers
returns-in-Ok-clause-workers c =
    let parse = c.in-Ok in
    let words = map string_bytes c.texts.result.now in
    let means = command_at_ok (app_of c.in_ok-definition.definition) words (rows_of (found_of parse.matches)) (subcommand_rows_of parse.matches)
    (matches_of (app_of c.in_ok-definition.definition) words) c.in_ok-definition.ensures parse.ensures.kinds parse.ensures.matches in
    let own = ap command_of (sym c.texts.ensures) ∙ means in
    MatchResult-weaker c.read_command.result c.read_command.ensures
    (λ command e. subst (λ (o : Option Command). IfSome o HasWorkers) (own ∙ e) (has_workers c.args.words.now)) (λ e h. tt)

pub returns-in-Err-clause-means : goal.returns-in-Err-clause-means
returns-in-Err-clause-means c = λ usage.
    ap command_of (sym c.texts.ensures)
    ∙ no_command_at_err (app_of c.in_ok-definition.definition) (map string_bytes c.texts.result.now) (kind_of c.in-Err.error)
    c.in_ok-definition.ensures c.in-Err.ensures.kinds (c.refusal_of.ensures usage)
